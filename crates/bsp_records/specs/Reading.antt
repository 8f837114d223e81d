-- What a reader of params answers.
use Rattle.std.specs.Prelude.{◌≡◌, ℕ, List, Option, Some, None, codes}
use Rattle.ob_text.specs.Ascii.{IsPlain}
use Rattle.serde_json.specs.Data.{Data}
use Rattle.json_shape.specs.Shapes.{Shape, bad_named}
use Rattle.bsp_records.specs.Limits.{path_limit}

-- the path of the first bad field of params; params that are no object are bad at `params`
abbrev pub bad_params : Shape → Data → Option (List ℕ)
bad_params shape d = bad_named (codes "params") shape d

-- params with no bad field are the record that they stand for
abbrev pub Is : {A : Type 0} → Shape → (Data → A) → Data → A → Type 0
Is shape of d x = (bad_params shape d ≡ None) × (x ≡ of d)

-- the first bad field of params is at this path
abbrev pub Bad : Shape → Data → List ℕ → Type 0
Bad shape d path = bad_params shape d ≡ Some path

-- a path that is told: plain ASCII, and short
abbrev pub IsPlainPath : List ℕ → Type 0
IsPlainPath path = IsPlain path_limit path
