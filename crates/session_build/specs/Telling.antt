-- What is told behind other messages, and what a build tells first.
use Rattle.std.specs.Prelude.{◌≡◌, ◌++◌, ℕ, suc, List, [], ◌∷◌, All}
use Rattle.rpc_peer.specs.Said.{Said}
use Rattle.session_law.specs.IsFramed.{IsFramed}
use Rattle.session_law.specs.Tasks.{build_starts, target_starts}
use Rattle.session_build.specs.Building.{IsNotice}
use Rattle.session_build.specs.declared.setting.Setting.{Setting}
use Rattle.target_graph.specs.Workspace.{id_of}

-- the targets start in their order, from this number on
abbrev pub starts_from : Setting → ℕ → List ℕ → List Said
starts_from at i [] = []
starts_from at i (target ∷ targets) = target_starts at.number i (id_of at.workspace.value target) ∷ starts_from at (suc i) targets

-- these messages go behind others, and each is a notification of the server
pub record TellsBehind (told before after : List Said) : Type 0 where
  pub are : after ≡ before ++ told
  pub framed : All IsFramed told
  pub notices : All IsNotice told

abbrev pub TellsStarts : Setting → List Said → List Said → Type 0
TellsStarts at before after = TellsBehind (build_starts at.number ∷ starts_from at 1 at.targets.keys) before after
