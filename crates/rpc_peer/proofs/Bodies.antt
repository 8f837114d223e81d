-- The JSON value of a body, with and without UTF-8.
use Rattle.std.proofs.Common.{◌≡◌, ℕ, ◌≤◌, List, Bool, true, false, cond, Some, None, refl}
use Rattle.std.specs.Str.{is_utf8, IsUtf8}
use Rattle.std.proofs.lemmas.Str.{IsUtf8-from_is_utf8, is_utf8-from_IsUtf8}
use Rattle.serde_json.specs.Data.{Data, depth}
use Rattle.serde_json.specs.Read.{read}
use Rattle.serde_json.proofs.Nesting.{depth-read}
use Rattle.rpc_peer.specs.Meaning.{body_value, nesting_limit}

pub body_value-of_text : (bs : List ℕ) → IsUtf8 bs → body_value bs ≡ read bs
body_value-of_text bs text = rw (is_utf8-from_IsUtf8 bs text)

not_text : (bs : List ℕ) (b : Bool) → is_utf8 bs ≡ b → ¬ IsUtf8 bs → body_value bs ≡ None
not_text bs true is other = absurd (other (IsUtf8-from_is_utf8 bs is))
not_text bs false is other = rw is

pub body_value-of_bytes : (bs : List ℕ) → ¬ IsUtf8 bs → body_value bs ≡ None
body_value-of_bytes bs other = not_text bs _ refl other

-- it nests no deeper than a body may
pub body_nests : (bs : List ℕ) (d : Data) → body_value bs ≡ Some d → depth d ≤ nesting_limit
body_nests bs d is = go (is_utf8 bs) is
  where
    go : (b : Bool) → cond b (read bs) None ≡ Some d → depth d ≤ nesting_limit
    go true found = depth-read bs d found
    go false found = absurd (cc)
