-- A bad character is one whole character of the text.
use Rattle.std.proofs.Common.{◌≡◌, ℕ, ◌-◌, ◌<◌, ◌≤◌, true, false, List, [], ◌∷◌, ◌++◌, length, get_or, drop, None, refl, sym, ap, subst, ◌∙◌, arith, length-append, ⊎_elim}
use Rattle.std.proofs.Math.Utf8.{scalar}
use Rattle.std.specs.List.{list_all}
use Rattle.std.specs.Char.{encode_utf8}
use Rattle.std.specs.Str.{IsUtf8, encode_utf8_all, all_scalars}
use Rattle.std.proofs.lemmas.Bool.{and_from, and_parts, cases_lt}
use Rattle.std.proofs.lemmas.Bool.Decides.{nat_tests}
use Rattle.ob_text.specs.declared.code.Code.TheVariants as codes_of
use Rattle.ob_text.specs.Position.{is_continuation}
use Rattle.ob_text.proofs.Characters.{GoesOn, Shape, shape, is_continuation_yes, is_continuation_low, is_continuation_high}
use Rattle.oberon_scan.specs.Runs.{LacksFirst, IsRun}
use Rattle.oberon_scan.specs.Finding.{symbol_at}
use Rattle.oberon_scan.specs.Piece.{IsNoBeginning}
use Rattle.oberon_scan.specs.Lexis.{IsOther, IsFault}
use Rattle.oberon_scan.proofs.LongestRuns.{run_is}
use Rattle.oberon_scan.proofs.Spelled.{spelled}
use Rattle.oberon_scan.proofs.Fronts.{none_first, none_beyond}

-- the bytes of a character: the first, and those that go on with it
record Bytes (c : ℕ) : Type 0 where
  first : ℕ
  more : List ℕ
  are : encode_utf8 c ≡ first ∷ more
  go_on : list_all is_continuation more ≡ true
  begins : is_continuation first ≡ false
  same : c < 128 → first ≡ c

continuing : (b : ℕ) (bs : List ℕ) → GoesOn b → list_all is_continuation bs ≡ true → list_all is_continuation (b ∷ bs) ≡ true
continuing b bs g h = and_from (is_continuation b) (list_all is_continuation bs) (is_continuation_yes b g) h

bytes_of : (c : ℕ) → Shape c → Bytes c
bytes_of c (Shape.one low e) =
    record { first = c; more = []; are = e; go_on = refl; begins = is_continuation_low c low; same = λ _. refl }
bytes_of c (Shape.two a b low _ go_b wide _ e) =
    record { first = a; more = b ∷ []; are = e; go_on = continuing b [] go_b refl; begins = is_continuation_high a low; same = λ h. absurd (omega arith) }
bytes_of c (Shape.three a b d low _ go_b go_d wide _ e) =
    record { first = a; more = b ∷ d ∷ []; are = e; go_on = continuing b (d ∷ []) go_b (continuing d [] go_d refl); begins = is_continuation_high a (omega arith); same = λ h. absurd (omega arith) }
bytes_of c (Shape.four a b d f low go_b go_d go_f wide e) =
    record { first = a; more = b ∷ d ∷ f ∷ []; are = e; go_on = continuing b (d ∷ f ∷ []) go_b (continuing d (f ∷ []) go_d (continuing f [] go_f refl)); begins = is_continuation_high a (omega arith); same = λ h. absurd (omega arith) }

-- no text of UTF-8 begins within a character
text_ends : (cs : List ℕ) → LacksFirst is_continuation (encode_utf8_all cs)
text_ends [] = tt
text_ends (c ∷ cs) =
    let b = bytes_of c (shape c) in
    subst (λ xs. LacksFirst is_continuation (xs ++ encode_utf8_all cs)) (sym b.are) b.begins

-- a character beyond ASCII begins nothing
other_beyond : (c : ℕ) → 128 ≤ c → IsOther c
other_beyond c h =
    record {
      no_blank = grind (arith, nat_tests);
      no_letter = grind (arith, nat_tests);
      no_digit = grind (arith, nat_tests);
      no_quote = omega arith;
      no_symbol = λ s b. none_beyond c s h (spelled s) b;
    }

other_ascii : (text rest : List ℕ) (c : ℕ) → text ≡ c ∷ rest → IsNoBeginning c → symbol_at text ≡ None → IsOther c
other_ascii text rest c e n f =
    record { no_blank = n.no_blank; no_letter = n.no_letter; no_digit = n.no_digit; no_quote = n.no_quote; no_symbol = λ s b. none_first text rest c s f e (spelled s) b }

-- the character at the front of a text is no beginning, if its first byte is none
other_first : (text rest : List ℕ) (c : ℕ) → text ≡ encode_utf8 c ++ rest → IsNoBeginning (get_or text 0 0) → symbol_at text ≡ None → IsOther c
other_first text rest c e n f = ⊎_elim (λ low. ascii low) (other_beyond c) (cases_lt c 128)
  where
    ascii : c < 128 → IsOther c
    ascii low =
        let b = bytes_of c (shape c) in
        let begins : text ≡ c ∷ (b.more ++ rest) = e ∙ (ap (λ xs. xs ++ rest) b.are ∙ ap (λ x. x ∷ (b.more ++ rest)) (b.same low)) in
        other_ascii text (b.more ++ rest) c begins (subst IsNoBeginning (ap (λ xs. get_or xs 0 0) begins) n) f

pub one_character : (text run rest : List ℕ) → 0 < length text → IsUtf8 text → IsNoBeginning (get_or text 0 0) → symbol_at text ≡ None → IsRun is_continuation (drop 1 text) run rest → IsFault text codes_of.BadCharacter (length text - length rest) rest
one_character text run rest h ([], u) n f r = absurd (omega (arith, ap length u.1))
one_character text run rest h (c ∷ cs, u) n f r =
    let b = bytes_of c (shape c) in
    let others = encode_utf8_all cs in
    let after : drop 1 text ≡ b.more ++ others = ap (drop 1) (sym u.1 ∙ ap (λ xs. xs ++ others) b.are) in
    let own : IsRun is_continuation (b.more ++ others) b.more others = record { whole = refl; each = b.go_on; longest = text_ends cs } in
    let rest_is = (run_is is_continuation (drop 1 text) run rest b.more others r (subst (λ xs. IsRun is_continuation xs b.more others) (sym after) own)).1 in
    let whole : text ≡ encode_utf8 c ++ rest = sym u.1 ∙ ap (λ xs. encode_utf8 c ++ xs) (sym rest_is) in
    let size : length (encode_utf8 c) ≡ length text - length rest = omega (arith, ap length whole, length-append (encode_utf8 c) rest) in
    subst (λ k. IsFault text codes_of.BadCharacter k rest) size
    (IsFault.bad_character c (and_parts (scalar c) (all_scalars cs) u.0).0 (other_first text rest c whole n f) whole)
