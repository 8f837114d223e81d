-- What is held where a file has some bytes.
use Rattle.std.proofs.Common.{◌≡◌, ℕ, ◌≤◌, Bool, true, false, cond, ltb, List, length, refl}
use Rattle.std.specs.Str.{IsUtf8, is_utf8}
use Rattle.std.proofs.lemmas.Str.{IsUtf8-from_is_utf8, is_utf8-from_IsUtf8}
use Rattle.std.proofs.lemmas.Bool.{ltb-false}
use Rattle.ob_text.specs.declared.held.Held.TheVariants.{Text, TooLarge, NotText}
use Rattle.ob_text.specs.Held.{IsReadable, held_of, text_limit}

-- what is no UTF-8 fails the test of it
pub not_utf8 : (text : List ℕ) → ¬ (IsUtf8 text) → is_utf8 text ≡ false
not_utf8 text not = go (is_utf8 text) refl
  where
    go : (b : Bool) → is_utf8 text ≡ b → b ≡ false
    go true is = absurd (not (IsUtf8-from_is_utf8 text is))
    go false is = refl

pub is_utf8_true : (text : List ℕ) → IsUtf8 text → is_utf8 text ≡ true
is_utf8_true text is = is_utf8-from_IsUtf8 text is

-- it may be handed out
pub held_readable : (bytes : List ℕ) → IsReadable (held_of bytes)
held_readable bytes = by_length (ltb text_limit (length bytes)) refl
  where
    by_utf8 : (b : Bool) → is_utf8 bytes ≡ b → length bytes ≤ text_limit → IsReadable (cond b (Text bytes) NotText)
    by_utf8 true is within = record { utf8 = IsUtf8-from_is_utf8 bytes is; within = within }
    by_utf8 false is within = tt

    by_length : (b : Bool) → ltb text_limit (length bytes) ≡ b → IsReadable (cond b TooLarge (cond (is_utf8 bytes) (Text bytes) NotText))
    by_length true is = tt
    by_length false is = by_utf8 (is_utf8 bytes) refl (ltb-false text_limit (length bytes) is)
