-- What becomes of the build at the head in a call, as far as a core is of it.
use Rattle.std.specs.Prelude.{◌≡◌, ◌++◌, ℕ, List, [], ◌∷◌, false, Option, Some}
use Rattle.rpc_peer.specs.Said.{Said}
use Rattle.rpc_peer.specs.declared.message.Id.{Id}
use Rattle.session_build.specs.declared.building.Build.{Build}
use Rattle.session_build.specs.declared.building.Went.{Went}
use Rattle.session_build.specs.declared.building.Went.TheVariants.{On, Ended}
use Rattle.session_core.specs.State.{said_out}
use Rattle.session_core.specs.declared.head.Head.{Head}
use Rattle.session_core.specs.declared.head.Phase.TheVariants as phases
use Rattle.session_core.specs.declared.session.Core.{Core}
use Rattle.session_law.specs.Builds.{build_said}

abbrev pub built_head : Id → ℕ → Build → Option (List ℕ) → Head
built_head id number b origin = record { id = id; number = number; cancelled = false; phase = phases.Built b origin }

-- It told this: either it is at the head and waits for its checks, or its request is answered.
abbrev pub HasWent : Core → Core → Id → ℕ → Option (List ℕ) → Went → List Said → Type 0
HasWent old new id number origin (On b) told =
    (new ≡ record old { out = new.out; head = Some (built_head id number b origin) }) × (said_out new ≡ said_out old ++ told)
HasWent old new id number origin (Ended failed remains) told =
    (new ≡ record old { out = new.out; remains = new.remains }) × (said_out new ≡ said_out old ++ (told ++ build_said id origin failed ∷ []))
