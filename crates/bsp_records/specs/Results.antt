-- What the requests are answered with (Build Server Protocol 2.2), as JSON.
use Rattle.std.specs.Prelude.{ℕ, [], ◌∷◌, map, codes, Some, option_map}
use Rattle.std.specs.List.{All}
use Rattle.std.specs.Str.{IsUtf8}
use Rattle.serde_json.specs.Data.{Data, boolean, number, string, unsigned}
use Rattle.bsp_records.specs.Identifiers.{identifier_data}
use Rattle.bsp_records.specs.Params.{IsTarget}
use Rattle.bsp_records.specs.Writing.{object_with, array_with}
use Rattle.bsp_records.specs.declared.identifiers.BuildTargetIdentifier.{BuildTargetIdentifier}
use Rattle.bsp_records.specs.declared.results.BuildTarget.{BuildTarget}
use Rattle.bsp_records.specs.declared.results.BuildTargetCapabilities.{BuildTargetCapabilities}
use Rattle.bsp_records.specs.declared.results.BuildTargetsResult.{BuildTargetsResult}
use Rattle.bsp_records.specs.declared.results.CleanCacheResult.{CleanCacheResult}
use Rattle.bsp_records.specs.declared.results.CompileResult.{CompileResult}
use Rattle.bsp_records.specs.declared.results.TestResult.{TestResult}
use Rattle.bsp_records.specs.declared.results.RunResult.{RunResult}
use Rattle.bsp_records.specs.declared.results.InverseSourcesResult.{InverseSourcesResult}
use Rattle.bsp_records.specs.declared.results.SourceItem.{SourceItem}
use Rattle.bsp_records.specs.declared.results.SourceItemKind.{SourceItemKind}
use Rattle.bsp_records.specs.declared.results.SourceItemKind.TheVariants.{File, Directory}
use Rattle.bsp_records.specs.declared.results.SourcesItem.{SourcesItem}
use Rattle.bsp_records.specs.declared.results.SourcesResult.{SourcesResult}
use Rattle.bsp_records.specs.declared.results.StatusCode.{StatusCode}
use Rattle.bsp_records.specs.declared.results.StatusCode.TheVariants as statuses

abbrev pub target_data : BuildTargetIdentifier → Data
target_data target = identifier_data target.uri

-- ---- targets

abbrev pub target_capabilities_data : BuildTargetCapabilities → Data
target_capabilities_data c =
    object_with ((codes "canCompile", Some (boolean c.can_compile))
    ∷ (codes "canTest", Some (boolean c.can_test))
    ∷ (codes "canRun", Some (boolean c.can_run)) ∷ [])

abbrev pub build_target_data : BuildTarget → Data
build_target_data t =
    object_with ((codes "id", Some (target_data t.id))
    ∷ (codes "displayName", Some (string t.display_name))
    ∷ (codes "tags", Some (array_with (map string t.tags)))
    ∷ (codes "languageIds", Some (array_with (map string t.language_ids)))
    ∷ (codes "dependencies", Some (array_with (map target_data t.dependencies)))
    ∷ (codes "capabilities", Some (target_capabilities_data t.capabilities)) ∷ [])

abbrev pub build_targets_result_data : BuildTargetsResult → Data
build_targets_result_data r = object_with ((codes "targets", Some (array_with (map build_target_data r.targets))) ∷ [])

-- ---- documents

abbrev pub source_item_number : SourceItemKind → ℕ
source_item_number File = 1
source_item_number Directory = 2

abbrev pub source_item_kind_data : SourceItemKind → Data
source_item_kind_data kind = number (unsigned (source_item_number kind))

abbrev pub source_item_data : SourceItem → Data
source_item_data s =
    object_with ((codes "uri", Some (string s.uri))
    ∷ (codes "kind", Some (source_item_kind_data s.kind))
    ∷ (codes "generated", Some (boolean s.generated)) ∷ [])

abbrev pub sources_item_data : SourcesItem → Data
sources_item_data i =
    object_with ((codes "target", Some (target_data i.target))
    ∷ (codes "sources", Some (array_with (map source_item_data i.sources))) ∷ [])

abbrev pub sources_result_data : SourcesResult → Data
sources_result_data r = object_with ((codes "items", Some (array_with (map sources_item_data r.items))) ∷ [])

abbrev pub inverse_sources_result_data : InverseSourcesResult → Data
inverse_sources_result_data r = object_with ((codes "targets", Some (array_with (map target_data r.targets))) ∷ [])

-- ---- builds

abbrev pub status_number : StatusCode → ℕ
status_number statuses.Ok = 1
status_number statuses.Error = 2
status_number statuses.Cancelled = 3

abbrev pub status_data : StatusCode → Data
status_data status = number (unsigned (status_number status))

abbrev pub compile_result_data : CompileResult → Data
compile_result_data r =
    object_with ((codes "originId", option_map string r.origin_id) ∷ (codes "statusCode", Some (status_data r.status_code)) ∷ [])

abbrev pub test_result_data : TestResult → Data
test_result_data r =
    object_with ((codes "originId", option_map string r.origin_id) ∷ (codes "statusCode", Some (status_data r.status_code)) ∷ [])

abbrev pub run_result_data : RunResult → Data
run_result_data r =
    object_with ((codes "originId", option_map string r.origin_id) ∷ (codes "statusCode", Some (status_data r.status_code)) ∷ [])

abbrev pub clean_cache_result_data : CleanCacheResult → Data
clean_cache_result_data r = object_with ((codes "cleaned", Some (boolean r.cleaned)) ∷ [])

-- ---- texts

pub record HasBuildTargetTexts (t : BuildTarget) : Type 0 where
  pub id : IsTarget t.id
  pub display_name : IsUtf8 t.display_name
  pub tags : All IsUtf8 t.tags
  pub language_ids : All IsUtf8 t.language_ids
  pub dependencies : All IsTarget t.dependencies

abbrev pub HasSourceTexts : SourceItem → Type 0
HasSourceTexts s = IsUtf8 s.uri

pub record HasSourcesTexts (i : SourcesItem) : Type 0 where
  pub target : IsTarget i.target
  pub sources : All HasSourceTexts i.sources
