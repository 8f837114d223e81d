-- What a build goes by, as it is kept.
use Rattle.std.specs.Prelude.{◌≡◌, ◌≢◌, ◌≤◌, ◌<◌, ℕ, suc, Some, length, map, All, IfSome}
use Rattle.std.specs.List.{AllPairs, slice_get}
use Rattle.json_shape.specs.Shapes.{IsTextWithin}
use Rattle.bsp_records.specs.Limits.{origin_limit}
use Rattle.session_build.specs.declared.setting.Setting.{Setting}
use Rattle.session_law.specs.Builds.{IsPairOf, build_document}
use Rattle.session_law.specs.Course.{Given, AreGiven}
use Rattle.target_graph.specs.Address.{document_address}
use Rattle.target_graph.specs.Faults.{IsRepeat}
use Rattle.target_graph.specs.Limits.{pairs_limit}
use Rattle.target_graph.specs.Workspace.{id_of, pairs_of}

pub record IsSetting (at : Setting) : Type 0 where
  pub pairs : at.pairs.keys ≡ map (λ document. document.pair) at.documents
  pub rising : AllPairs ◌<◌ at.pairs.keys
  pub each : All (IsPairOf at.workspace.value.targets at.targets.keys) at.pairs.keys
  pub are : at.documents ≡ map (build_document at.workspace.value) at.pairs.keys
  pub within : All (λ target. target < length at.workspace.value.targets) at.targets.keys
  pub origin : IfSome at.origin.value (IsTextWithin origin_limit)
  -- as of each workspace that was accepted
  pub few : length (pairs_of at.workspace.value.targets) ≤ pairs_limit
  pub apart : AllPairs (λ p q. document_address at.workspace.value.root p.path ≡ document_address at.workspace.value.root q.path → id_of at.workspace.value p.target ≢ id_of at.workspace.value q.target) (pairs_of at.workspace.value.targets)
  pub once : (target pair : ℕ) → ¬ (IsRepeat at.workspace.value.targets target pair)

-- the target of the pair's document is the one of this number, counted from 1
pub record IsNumberOf (at : Setting) (pair : ℕ) (number : ℕ) : Type 0 where
  pub before : ℕ
  pub target : ℕ
  pub there : slice_get at.targets.keys before ≡ Some target
  pub number_is : number ≡ suc before
  pub id_is : id_of at.workspace.value target ≡ (build_document at.workspace.value pair).key.target

-- the course goes by it
pub record IsSettingOf (at : Setting) (g : Given) : Type 0 where
  pub are : AreGiven g
  pub space : g.active.build.space ≡ at.workspace.value
  pub number : g.active.number ≡ at.number
  pub origin : g.active.build.origin ≡ at.origin.value
  pub documents : g.documents ≡ at.documents
  pub closure : g.closure ≡ at.targets.keys
