-- A head that waits for no tree, and of which nothing more is needed, waits for a job.
use Rattle.std.proofs.Common.{◌≡◌, ◌+◌, ℕ, Option, Some, None, refl, arith}
use Rattle.session_build.specs.AtWork.{begun_in}
use Rattle.session_core.specs.Settled.{Awaits, AwaitsHead, AwaitsPhase, IfBuilt, IfBuiltPhase, IsSettled, NeedsNothing}
use Rattle.session_core.specs.Standing.{HeadRests, IsUpHead, IsUpPhase, PhaseRests}
use Rattle.session_core.specs.State.{Rest}
use Rattle.session_core.specs.declared.head.Head.{Head}
use Rattle.session_core.specs.declared.head.Phase.{Phase}
use Rattle.session_core.specs.declared.head.Phase.TheVariants as phases

phase_awaits : (phase : Phase) (jobs given : ℕ) → PhaseRests phase → IfBuiltPhase phase (λ b. given ≡ jobs + begun_in b) → IsUpPhase phase → (number : ℕ) × AwaitsPhase phase jobs given number
phase_awaits (phases.Opening root) jobs given rests all up = absurd up
phase_awaits phases.Rereading jobs given rests all up = absurd up
phase_awaits (phases.Planned plan) jobs given rests all up = absurd up
phase_awaits (phases.Built b origin) jobs given rests all up =
    let some = rests.0.some in
    let begun = rests.0.begun some.0 some.1 some.2 in
    (jobs + some.0, (some.0, refl, omega (arith, all, begun), some.1, some.2))

head_awaits : (head : Option Head) (jobs given : ℕ) → HeadRests head → IfBuilt head (λ b. given ≡ jobs + begun_in b) → IsUpHead head → (head ≡ None → ⊥) → (number : ℕ) × AwaitsHead head jobs given number
head_awaits None jobs given rests all up some = absurd (some refl)
head_awaits (Some head) jobs given rests all up some = phase_awaits head.phase jobs given rests.1 all up

pub awaits_some : (rest : Rest) → IsSettled rest → NeedsNothing rest → IsUpHead rest.head → (rest.head ≡ None → ⊥) → (number : ℕ) × Awaits rest number
awaits_some rest settled needs up some = head_awaits rest.head rest.jobs rest.given settled.sound.rests needs.jobs up some
