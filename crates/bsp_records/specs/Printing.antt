-- How the params of a publication are printed, part by part.
use Rattle.std.specs.Prelude.{ℕ, ◌++◌, List, [], codes, Option, Some, None}
use Rattle.serde_json.specs.Data.{string}
use Rattle.serde_json.specs.Written.{compact_text}

-- the member of an originId, behind other members
abbrev pub origin_text : Option (List ℕ) → List ℕ
origin_text None = []
origin_text (Some origin) = codes ",\"originId\":" ++ compact_text (string origin)
