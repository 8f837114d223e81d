-- Answers that are short and have only printing characters, as those about a workspace are: their
-- results print in a frame.
use Rattle.std.specs.Prelude.{◌≤◌, ℕ, length, flat_map}
use Rattle.ob_text.specs.Ascii.{IsGraphicWithin}
use Rattle.std.specs.List.{All}
use Rattle.bsp_address.specs.Address.{IsAddress}
use Rattle.bsp_records.specs.declared.identifiers.BuildTargetIdentifier.{BuildTargetIdentifier}
use Rattle.bsp_records.specs.declared.notices.BuildTargetEvent.{BuildTargetEvent}
use Rattle.bsp_records.specs.declared.notices.DidChangeParams.{DidChangeParams}
use Rattle.bsp_records.specs.declared.results.BuildTarget.{BuildTarget}
use Rattle.bsp_records.specs.declared.results.BuildTargetsResult.{BuildTargetsResult}
use Rattle.bsp_records.specs.declared.results.InverseSourcesResult.{InverseSourcesResult}
use Rattle.bsp_records.specs.declared.results.SourceItem.{SourceItem}
use Rattle.bsp_records.specs.declared.results.SourcesItem.{SourcesItem}
use Rattle.bsp_records.specs.declared.results.SourcesResult.{SourcesResult}

abbrev pub IsShortIdentifier : BuildTargetIdentifier → Type 0
IsShortIdentifier target = IsAddress target.uri

-- ---- targets

-- the most targets of an answer
abbrev pub answered_targets_limit : ℕ
answered_targets_limit = 256

-- the most dependencies over all targets of an answer, or documents
abbrev pub entries_limit : ℕ
entries_limit = 1024

pub record IsShortTarget (t : BuildTarget) : Type 0 where
  pub id : IsShortIdentifier t.id
  pub display_name : IsGraphicWithin 255 t.display_name
  pub tag_count : length t.tags ≤ 1
  pub tags : All (IsGraphicWithin 20) t.tags
  pub language_count : length t.language_ids ≤ 1
  pub language_ids : All (IsGraphicWithin 20) t.language_ids
  pub dependencies : All IsShortIdentifier t.dependencies

pub record IsShortTargets (r : BuildTargetsResult) : Type 0 where
  pub count : length r.targets ≤ answered_targets_limit
  pub targets : All IsShortTarget r.targets
  pub dependency_count : length (flat_map (λ t. t.dependencies) r.targets) ≤ entries_limit

-- ---- documents

abbrev pub IsShortSource : SourceItem → Type 0
IsShortSource s = IsAddress s.uri

pub record IsShortSourcesItem (i : SourcesItem) : Type 0 where
  pub target : IsShortIdentifier i.target
  pub sources : All IsShortSource i.sources

pub record IsShortSources (r : SourcesResult) : Type 0 where
  pub count : length r.items ≤ answered_targets_limit
  pub items : All IsShortSourcesItem r.items
  pub source_count : length (flat_map (λ i. i.sources) r.items) ≤ entries_limit

pub record IsShortInverseSources (r : InverseSourcesResult) : Type 0 where
  pub count : length r.targets ≤ answered_targets_limit
  pub targets : All IsShortIdentifier r.targets

-- ---- targets that changed

abbrev pub IsShortEvent : BuildTargetEvent → Type 0
IsShortEvent e = IsShortIdentifier e.target

-- the most changes that are told at once: those of all targets of two workspaces
abbrev pub changes_limit : ℕ
changes_limit = 512

pub record IsShortChange (p : DidChangeParams) : Type 0 where
  pub count : length p.changes ≤ changes_limit
  pub changes : All IsShortEvent p.changes

-- the most bytes that a short answer prints as, and a short change
abbrev pub answer_limit : ℕ
answer_limit = 16000000
