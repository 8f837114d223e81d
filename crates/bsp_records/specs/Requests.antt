-- The requests of the Build Server Protocol 2.2 that are answered: their methods, and what each asks by
-- its params.
use Rattle.std.specs.Prelude.{◌≡◌, ◌==◌, ℕ, List, [], ◌∷◌, codes, Option, Some, None, unwrap_or, Result, Ok, Err}
use Rattle.std.specs.Cmp.Lexicographic.{pointwise}
use Rattle.std.specs.List.{All, find}
use Rattle.std.specs.Str.{IsUtf8}
use Rattle.serde_json.specs.Data.{Data, null}
use Rattle.bsp_records.specs.Params.{initialize_params, initialize_params_in, targets_params, sources_params_in, inverse_sources_params, inverse_sources_params_in, build_params, compile_params_in, clean_cache_params_in, IsTarget, HasInitializeTexts, HasCompileTexts}
use Rattle.json_shape.specs.Shapes.{Shape}
use Rattle.bsp_records.specs.Reading.{bad_params}
use Rattle.json_shape.specs.declared.bad_value.BadValue.{BadValue}
use Rattle.json_shape.specs.declared.bad_value.BadValue.TheVariants.{At, NoMemory}
use Rattle.bsp_records.specs.declared.requests.Method.{Method}
use Rattle.bsp_records.specs.declared.requests.Method.TheVariants as methods
use Rattle.bsp_records.specs.declared.requests.Request.{Request}
use Rattle.bsp_records.specs.declared.requests.Request.TheVariants as requests

-- ---- methods

abbrev pub method_name : Method → List ℕ
method_name methods.Initialize = codes "build/initialize"
method_name methods.Shutdown = codes "build/shutdown"
method_name methods.BuildTargets = codes "workspace/buildTargets"
method_name methods.Reload = codes "workspace/reload"
method_name methods.Sources = codes "buildTarget/sources"
method_name methods.InverseSources = codes "buildTarget/inverseSources"
method_name methods.Compile = codes "buildTarget/compile"
method_name methods.CleanCache = codes "buildTarget/cleanCache"

abbrev pub answered_methods : List Method
answered_methods =
    methods.Initialize ∷ methods.Shutdown ∷ methods.BuildTargets ∷ methods.Reload
    ∷ methods.Sources ∷ methods.InverseSources ∷ methods.Compile ∷ methods.CleanCache ∷ []

-- the method that has this name, if any
unfoldable pub method_named : List ℕ → Option Method
method_named name = find (λ method. pointwise ◌==◌ (method_name method) name) answered_methods

-- ---- what a request asks

abbrev pub asked_unless : Option (List ℕ) → Request → Result Request (List ℕ)
asked_unless None request = Ok request
asked_unless (Some path) request = Err path

-- Params of this shape make a request, and others are bad at the path of their first bad field. Where there
-- are none, they are bad as null is.
abbrev pub asked_with : Shape → (Data → Request) → Option Data → Result Request (List ℕ)
asked_with shape of params = asked_unless (bad_params shape (unwrap_or params null)) (of (unwrap_or params null))

-- the request of a method with these params, or the path of their first bad field; params that a method
-- doesn't take aren't looked at
abbrev pub request_in : Method → Option Data → Result Request (List ℕ)
request_in methods.Initialize params = asked_with initialize_params (λ d. requests.Initialize (initialize_params_in d)) params
request_in methods.Shutdown params = Ok requests.Shutdown
request_in methods.BuildTargets params = Ok requests.BuildTargets
request_in methods.Reload params = Ok requests.Reload
request_in methods.Sources params = asked_with targets_params (λ d. requests.Sources (sources_params_in d)) params
request_in methods.InverseSources params = asked_with inverse_sources_params (λ d. requests.InverseSources (inverse_sources_params_in d)) params
request_in methods.Compile params = asked_with build_params (λ d. requests.Compile (compile_params_in d)) params
request_in methods.CleanCache params = asked_with targets_params (λ d. requests.CleanCache (clean_cache_params_in d)) params

-- What was read is the request that was asked, and a refusal has the path. Want of memory says nothing.
abbrev pub ReadsAs : Result Request (List ℕ) → Result Request BadValue → Type 0
ReadsAs asked (Ok request) = asked ≡ Ok request
ReadsAs asked (Err (At path)) = asked ≡ Err path
ReadsAs asked (Err NoMemory) = Unit {0}

-- ---- texts

abbrev pub HasRequestTexts : Request → Type 0
HasRequestTexts (requests.Initialize p) = HasInitializeTexts p
HasRequestTexts requests.Shutdown = Unit {0}
HasRequestTexts requests.BuildTargets = Unit {0}
HasRequestTexts requests.Reload = Unit {0}
HasRequestTexts (requests.Sources p) = All IsTarget p.targets
HasRequestTexts (requests.InverseSources p) = IsUtf8 p.text_document.uri
HasRequestTexts (requests.Compile p) = HasCompileTexts p
HasRequestTexts (requests.CleanCache p) = All IsTarget p.targets
