-- Paths are of printing characters, and short.
use Rattle.std.proofs.Common.{◌≡◌, ◌≤◌, ◌<◌, ◌+◌, ◌^◌, ◌++◌, ◌&&◌, ℕ, suc, List, [], ◌∷◌, length, Bool, true, false, decimal, Fits, w64, refl, sym, ap, ◌∙◌, subst, arith, length-append}
use Rattle.std.specs.Prelude.{IsTrue}
use Rattle.std.specs.Char.{is_ascii_graphic}
use Rattle.std.specs.List.{list_all}
use Rattle.std.specs.Str.Parse.{AllDigits}
use Rattle.std.proofs.lemmas.Bool.{and_from, and_parts}
use Rattle.std.proofs.lemmas.Bool.Decides.{nat_tests}
use Rattle.std.proofs.lemmas.Fmt.{length-decimal-le, decimal_is_IsNumeral}
use Rattle.std.proofs.lemmas.List.Folds.{list_all-append}
use Rattle.std.proofs.lemmas.Str.Parse.{digit_from_value}
use Rattle.ob_text.specs.Ascii.{IsGraphic}
use Rattle.json_shape.specs.Paths.{is_graphic}
use Rattle.json_shape.specs.Shapes.{member_step, item_step}

digits_graphic : (bs : List ℕ) → AllDigits 10 bs → IsGraphic bs
digits_graphic [] h = refl
digits_graphic (b ∷ bs) h = and_from _ _ (let d = digit_from_value b h.0 in grind (arith, nat_tests)) (digits_graphic bs h.1)

graphic_append : (xs ys : List ℕ) → IsGraphic xs → IsGraphic ys → IsGraphic (xs ++ ys)
graphic_append xs ys p q = list_all-append is_ascii_graphic xs ys ∙ and_from _ _ p q

pub graphic_member : (whole name path : List ℕ) → whole ≡ member_step name ++ path → IsTrue (is_graphic name) → IsGraphic path → IsGraphic whole
graphic_member whole name path is named graphic = subst IsGraphic (sym is) (graphic_append (member_step name) path named graphic)

pub length_member : (whole name path : List ℕ) → whole ≡ member_step name ++ path → length whole ≡ suc (length name) + length path
length_member whole name path is = ap length is ∙ length-append (member_step name) path

pub graphic_item : (whole : List ℕ) (index : ℕ) (path : List ℕ) → whole ≡ item_step index ++ path → Fits w64 index → IsGraphic path → IsGraphic whole
graphic_item whole index path is fits graphic =
    let digits : IsGraphic (decimal index) = digits_graphic (decimal index) (decimal_is_IsNumeral index (omega arith)).0.1 in
    subst IsGraphic (sym is) (graphic_append (item_step index) path (graphic_append (decimal index) (93 ∷ []) digits refl) graphic)

pub length_item : (whole : List ℕ) (index : ℕ) (path : List ℕ) → whole ≡ item_step index ++ path → Fits w64 index → length whole ≤ 22 + length path
length_item whole index path is fits =
    let digits : length (decimal index) ≤ 20 = length-decimal-le 20 index (omega arith) (omega arith) (omega arith) in
    let step = length-append (decimal index) (93 ∷ []) in
    let all = ap length is ∙ length-append (item_step index) path in
    omega arith

-- behind its first byte
pub graphic_rest : (byte : ℕ) (path rest : List ℕ) → path ≡ byte ∷ rest → IsGraphic path → IsGraphic rest
graphic_rest byte path rest is graphic = (and_parts (is_ascii_graphic byte) (list_all is_ascii_graphic rest) (subst IsGraphic is graphic)).1
