use Rattle.std.proofs.Common.{Option, false, inl, inr, Some, refl, subst, sym}
use Rattle.session_core.proofs.Behind.{whole_asked}
use Rattle.session_core.proofs.Requests.{nobody_first}
use Rattle.session_core.specs.Settled.{IsUnbuilt}
use Rattle.session_core.specs.declared.head.Head.{Head}
use Rattle.session_core.specs.declared.head.Phase.TheVariants as phases
use Rattle.session_core.specs.declared.session.Core.{Core}
use Rattle.session_core.proofs.session.Core.ask.Goals as goal

pub returns-clause-ok : goal.returns-clause-ok
returns-clause-ok c =
    let old = c.args.self.now in
    let new : Core = record old {
      head = Some (record { id = c.args.id; number = c.args.number; cancelled = false; phase = phases.Opening c.args.root });
      tree = Some c.in_ok-paths.paths;
    } in
    let first = nobody_first old.workspace old.head old.queue c.requires.settled.sound.begun c.requires.force c.requires.up in
    whole_asked old c.args.id c.args.number c.args.root first.0 first.1 c.requires.force new refl c.requires.named

pub returns-clause-drains : goal.returns-clause-drains
returns-clause-drains c =
    let old = c.args.self.now in
    let first = nobody_first old.workspace old.head old.queue c.requires.settled.sound.begun c.requires.force c.requires.up in
    inl (inr (subst (λ (h : Option Head). IsUnbuilt h) (sym first.0) tt), refl)
