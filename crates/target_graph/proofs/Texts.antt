-- The JSON value of a text, with and without UTF-8.
use Rattle.std.proofs.Common.{◌≡◌, ℕ, List, Bool, true, false, None, refl}
use Rattle.std.specs.Str.{is_utf8, IsUtf8}
use Rattle.std.proofs.lemmas.Str.{IsUtf8-from_is_utf8, is_utf8-from_IsUtf8}
use Rattle.serde_json.specs.Read.{read}
use Rattle.target_graph.specs.Faults.{json_of}

pub json_of-of_text : (bs : List ℕ) → IsUtf8 bs → json_of bs ≡ read bs
json_of-of_text bs text = rw (is_utf8-from_IsUtf8 bs text)

not_text : (bs : List ℕ) (b : Bool) → is_utf8 bs ≡ b → ¬ IsUtf8 bs → json_of bs ≡ None
not_text bs true is other = absurd (other (IsUtf8-from_is_utf8 bs is))
not_text bs false is other = rw is

pub json_of-of_bytes : (bs : List ℕ) → ¬ IsUtf8 bs → json_of bs ≡ None
json_of-of_bytes bs other = not_text bs _ refl other
