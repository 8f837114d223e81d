-- The params of the requests (Build Server Protocol 2.2): what each looks like, and what it stands for.
use Rattle.std.specs.Prelude.{ℕ, List, map, codes}
use Rattle.std.specs.List.{All}
use Rattle.std.specs.Option.{IfSome}
use Rattle.std.specs.Str.{IsUtf8}
use Rattle.serde_json.specs.Data.{Data}
use Rattle.json_shape.specs.Shapes.{Shape, text, text_within, list_of, object_of, required, optional, no_more, at, text_in, values_in, IsTextWithin}
use Rattle.json_shape.specs.Reading.{if_there}
use Rattle.bsp_records.specs.Reading.{Is, Bad}
use Rattle.bsp_records.specs.Identifiers.{identifier, target_in, document_in}
use Rattle.bsp_records.specs.declared.identifiers.BuildTargetIdentifier.{BuildTargetIdentifier}
use Rattle.bsp_records.specs.Limits.{origin_limit, root_uri_limit}
use Rattle.bsp_records.specs.declared.params.BuildClientCapabilities.{BuildClientCapabilities}
use Rattle.bsp_records.specs.declared.params.InitializeParams.{InitializeParams}
use Rattle.bsp_records.specs.declared.params.SourcesParams.{SourcesParams}
use Rattle.bsp_records.specs.declared.params.InverseSourcesParams.{InverseSourcesParams}
use Rattle.bsp_records.specs.declared.params.CompileParams.{CompileParams}
use Rattle.bsp_records.specs.declared.params.TestParams.{TestParams}
use Rattle.bsp_records.specs.declared.params.RunParams.{RunParams}
use Rattle.bsp_records.specs.declared.params.CleanCacheParams.{CleanCacheParams}

-- ---- build/initialize

abbrev pub client_capabilities : Shape
client_capabilities = object_of (required (codes "languageIds") (list_of text) no_more)

abbrev pub initialize_params : Shape
initialize_params =
    object_of (required (codes "displayName") text
    (required (codes "version") text
    (required (codes "bspVersion") text
    (required (codes "rootUri") (text_within root_uri_limit)
    (required (codes "capabilities") client_capabilities no_more)))))

abbrev pub client_capabilities_in : Data → BuildClientCapabilities
client_capabilities_in d = record { language_ids = map text_in (values_in (at (codes "languageIds") d)) }

abbrev pub initialize_params_in : Data → InitializeParams
initialize_params_in d = record {
  display_name = text_in (at (codes "displayName") d);
  version = text_in (at (codes "version") d);
  bsp_version = text_in (at (codes "bspVersion") d);
  root_uri = text_in (at (codes "rootUri") d);
  capabilities = client_capabilities_in (at (codes "capabilities") d);
}

abbrev pub IsInitializeParams : Data → InitializeParams → Type 0
IsInitializeParams = Is initialize_params initialize_params_in

abbrev pub BadInitializeParams : Data → List ℕ → Type 0
BadInitializeParams = Bad initialize_params

-- ---- of one document, or of some targets

abbrev pub inverse_sources_params : Shape
inverse_sources_params = object_of (required (codes "textDocument") identifier no_more)

abbrev pub inverse_sources_params_in : Data → InverseSourcesParams
inverse_sources_params_in d = record { text_document = document_in (at (codes "textDocument") d) }

abbrev pub IsInverseSourcesParams : Data → InverseSourcesParams → Type 0
IsInverseSourcesParams = Is inverse_sources_params inverse_sources_params_in

abbrev pub BadInverseSourcesParams : Data → List ℕ → Type 0
BadInverseSourcesParams = Bad inverse_sources_params

-- of buildTarget/sources and of buildTarget/cleanCache
abbrev pub targets_params : Shape
targets_params = object_of (required (codes "targets") (list_of identifier) no_more)

abbrev pub targets_in : Data → List BuildTargetIdentifier
targets_in d = map target_in (values_in (at (codes "targets") d))

abbrev pub sources_params_in : Data → SourcesParams
sources_params_in d = record { targets = targets_in d }

abbrev pub IsSourcesParams : Data → SourcesParams → Type 0
IsSourcesParams = Is targets_params sources_params_in

abbrev pub BadSourcesParams : Data → List ℕ → Type 0
BadSourcesParams = Bad targets_params

abbrev pub clean_cache_params_in : Data → CleanCacheParams
clean_cache_params_in d = record { targets = targets_in d }

abbrev pub IsCleanCacheParams : Data → CleanCacheParams → Type 0
IsCleanCacheParams = Is targets_params clean_cache_params_in

abbrev pub BadCleanCacheParams : Data → List ℕ → Type 0
BadCleanCacheParams = Bad targets_params

-- ---- of builds; the arguments aren't used

-- of buildTarget/compile and of buildTarget/test
abbrev pub build_params : Shape
build_params =
    object_of (required (codes "targets") (list_of identifier)
    (optional (codes "originId") (text_within origin_limit)
    (optional (codes "arguments") (list_of text) no_more)))

abbrev pub compile_params_in : Data → CompileParams
compile_params_in d = record { targets = targets_in d; origin_id = if_there text_in (at (codes "originId") d) }

abbrev pub IsCompileParams : Data → CompileParams → Type 0
IsCompileParams = Is build_params compile_params_in

abbrev pub BadCompileParams : Data → List ℕ → Type 0
BadCompileParams = Bad build_params

abbrev pub test_params_in : Data → TestParams
test_params_in d = record { targets = targets_in d; origin_id = if_there text_in (at (codes "originId") d) }

abbrev pub IsTestParams : Data → TestParams → Type 0
IsTestParams = Is build_params test_params_in

abbrev pub BadTestParams : Data → List ℕ → Type 0
BadTestParams = Bad build_params

abbrev pub run_params : Shape
run_params =
    object_of (required (codes "target") identifier
    (optional (codes "originId") (text_within origin_limit)
    (optional (codes "arguments") (list_of text) no_more)))

abbrev pub run_params_in : Data → RunParams
run_params_in d = record { target = target_in (at (codes "target") d); origin_id = if_there text_in (at (codes "originId") d) }

abbrev pub IsRunParams : Data → RunParams → Type 0
IsRunParams = Is run_params run_params_in

abbrev pub BadRunParams : Data → List ℕ → Type 0
BadRunParams = Bad run_params

-- ---- texts

abbrev pub IsTarget : BuildTargetIdentifier → Type 0
IsTarget target = IsUtf8 target.uri

pub record HasInitializeTexts (p : InitializeParams) : Type 0 where
  pub display_name : IsUtf8 p.display_name
  pub version : IsUtf8 p.version
  pub bsp_version : IsUtf8 p.bsp_version
  pub root_uri : IsTextWithin root_uri_limit p.root_uri
  pub language_ids : All IsUtf8 p.capabilities.language_ids

pub record HasCompileTexts (p : CompileParams) : Type 0 where
  pub targets : All IsTarget p.targets
  pub origin_id : IfSome p.origin_id (IsTextWithin origin_limit)

pub record HasTestTexts (p : TestParams) : Type 0 where
  pub targets : All IsTarget p.targets
  pub origin_id : IfSome p.origin_id (IsTextWithin origin_limit)

pub record HasRunTexts (p : RunParams) : Type 0 where
  pub target : IsTarget p.target
  pub origin_id : IfSome p.origin_id (IsTextWithin origin_limit)
