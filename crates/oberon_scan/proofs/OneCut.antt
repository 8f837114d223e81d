-- A text is cut in one way: what stands at its front is a function of it.
use Rattle.std.proofs.Common.{◌≡◌, ◌≢◌, ℕ, zero, suc, ◌+◌, ◌<◌, ◌≤◌, Bool, true, false, cond, eqb, ltb, leb, not, ◌&&◌, List, [], ◌∷◌, ◌++◌, length, get_or, drop, Option, None, Some, pos, refl, sym, ap, subst, ◌∙◌, arith, length-append, ◌⊎◌, inl, inr}
use Rattle.std.specs.Prelude.{nat_eq, ◌==◌}
use Rattle.std.specs.Option.{option_or}
use Rattle.std.proofs.lemmas.Str.{length-encode, len_utf8_bounds}
use Rattle.std.proofs.lemmas.List.{drop_at, get_or_append_left}
use Rattle.ob_text.proofs.Characters.{Shape, shape}
use Rattle.std.specs.Char.{is_ascii_whitespace, is_ascii_alphabetic, is_ascii_digit, is_ascii_alphanumeric, encode_utf8}
use Rattle.std.specs.List.{list_all, starts_with}
use Rattle.std.proofs.lemmas.Bool.{and_from, cond-true, cond-false, le-leb, lt-leb, and_parts, not-true, eqb-true, eq-eqb, ne_eqb, lt-ltb, le-ltb, or_parts, not_from_false, false_from_ne_true, false≢true}
use Rattle.std.proofs.lemmas.Bool.Decides.{nat_tests}
use Rattle.ob_text.specs.declared.code.Code.{Code}
use Rattle.ob_text.specs.declared.code.Code.TheVariants as codes_of
use Rattle.ob_text.specs.declared.diagnostic.Diagnostic.{Diagnostic}
use Rattle.oberon_scan.specs.declared.token.Token.{Token}
use Rattle.oberon_scan.specs.declared.token.TokenKind.{TokenKind}
use Rattle.oberon_scan.specs.declared.token.TokenKind.TheVariants as kinds
use Rattle.oberon_scan.specs.declared.token.Symbol.{Symbol}
use Rattle.oberon_scan.specs.declared.token.Symbol.TheVariants as symbols
use Rattle.oberon_scan.specs.declared.token.Word.{Word}
use Rattle.oberon_scan.specs.Runs.{quote, is_number_byte, is_suffix, is_string_byte, HasFirst, LacksFirst, IsRun}
use Rattle.oberon_scan.specs.Spelling.{spelling, symbol_text}
use Rattle.oberon_scan.specs.Numbers.{digits_value, signed, largest_decimal, largest_hexadecimal, largest_character}
use Rattle.oberon_scan.specs.Comments.{opens_comment, closes_comment, Closes, StaysOpen}
use Rattle.oberon_scan.specs.Finding.{find_word, pair_symbol, single_symbol, symbol_at}
use Rattle.oberon_scan.specs.Lexis.{IsGap, IsName, IsNumber, IsQuoted, IsSymbol, IsOther, IsToken, IsFault, Cuts, part, fault_of, offset_of}
use Rattle.oberon_scan.proofs.LongestRuns.{run_is}
use Rattle.oberon_scan.proofs.Fronts.{symbol_some, found_first}
use Rattle.oberon_scan.proofs.Spelled.{Spelled, spelled, word_again, word_found, no_pair_at_end, pair_found}

-- what stands at the front of a text, and what follows it
data Cut : Type 0 where
  nothing : Cut
  a_gap : List ℕ → Cut
  a_token : TokenKind → List ℕ → Cut
  a_fault : Code → ℕ → List ℕ → Cut

-- the longest front of bytes that pass, and what follows it
abbrev front : (ℕ → Bool) → List ℕ → List ℕ
front test [] = []
front test (byte ∷ bytes) = cond (test byte) (byte ∷ front test bytes) []

abbrev back : (ℕ → Bool) → List ℕ → List ℕ
back test [] = []
back test (byte ∷ bytes) = cond (test byte) (back test bytes) (byte ∷ bytes)

parted : (test : ℕ → Bool) (text : List ℕ) → IsRun test text (front test text) (back test text)
parted test [] = record { whole = refl; each = refl; longest = tt }
parted test (byte ∷ bytes) = go (test byte) refl (parted test bytes)
  where
    go : (b : Bool) → test byte ≡ b → IsRun test bytes (front test bytes) (back test bytes) → IsRun test (byte ∷ bytes) (cond b (byte ∷ front test bytes) []) (cond b (back test bytes) (byte ∷ bytes))
    go true e r = record { whole = ap (λ xs. byte ∷ xs) r.whole; each = and_from (test byte) (list_all test (front test bytes)) e r.each; longest = r.longest }
    go false e r = record { whole = refl; each = refl; longest = e }

-- a run is that front
front_is : (test : ℕ → Bool) (text run rest : List ℕ) → IsRun test text run rest → (front test text ≡ run) × (back test text ≡ rest)
front_is test text run rest r = run_is test text (front test text) (back test text) run rest (parted test text) r

-- the end of a comment, inside of which n more comments are open
abbrev mutual
  close_from : ℕ → List ℕ → Option (List ℕ)
  close_from n [] = None
  close_from n (a ∷ rest) = close_after n a rest

  close_after : ℕ → ℕ → List ℕ → Option (List ℕ)
  close_after n a [] = None
  close_after zero a (b ∷ rest) = cond (opens_comment (a ∷ b ∷ [])) (close_from 1 rest) (cond (closes_comment (a ∷ b ∷ [])) (Some rest) (close_after zero b rest))
  close_after (suc n) a (b ∷ rest) = cond (opens_comment (a ∷ b ∷ [])) (close_from (suc (suc n)) rest) (cond (closes_comment (a ∷ b ∷ [])) (close_from n rest) (close_after (suc n) b rest))

opens_step : (n : ℕ) (text more : List ℕ) → text ≡ 40 ∷ 42 ∷ more → close_from n text ≡ close_from (suc n) more
opens_step zero text more e = ap (close_from zero) e
opens_step (suc n) text more e = ap (close_from (suc n)) e

passes_step : (n byte : ℕ) (more : List ℕ) → opens_comment (byte ∷ more) ≡ false → closes_comment (byte ∷ more) ≡ false → close_from n (byte ∷ more) ≡ close_from n more
passes_step n byte [] o c = refl
passes_step zero byte (b ∷ rest) o c = cond-false _ _ _ o ∙ cond-false _ _ _ c
passes_step (suc n) byte (b ∷ rest) o c = cond-false _ _ _ o ∙ cond-false _ _ _ c

passed : (n byte : ℕ) (text more : List ℕ) → text ≡ byte ∷ more → opens_comment text ≡ false → closes_comment text ≡ false → close_from n text ≡ close_from n more
passed n byte text more e o c =
    ap (close_from n) e ∙ passes_step n byte more (sym (ap opens_comment e) ∙ o) (sym (ap closes_comment e) ∙ c)

closed_is : {n : ℕ} {text rest : List ℕ} → Closes n text rest → n ≡ 0 → text ≡ rest
closed_is Closes.closed e = refl
closed_is (Closes.opens _ _) e = absurd (omega arith)
closed_is (Closes.closes _ _) e = absurd (omega arith)
closed_is (Closes.passes _ _ _ _ _) e = absurd (omega arith)

closes_is : {m : ℕ} {text rest : List ℕ} → Closes m text rest → (n : ℕ) → m ≡ suc n → close_from n text ≡ Some rest
closes_is Closes.closed n e = absurd (omega arith)
closes_is (Closes.opens {text = text} {more = more} f h) n e = opens_step n text more f ∙ closes_is h (suc n) (ap suc e)
closes_is (Closes.closes f h) zero e = ap (close_from zero) f ∙ ap Some (closed_is h (omega arith))
closes_is (Closes.closes f h) (suc n) e = ap (close_from (suc n)) f ∙ closes_is h n (omega arith)
closes_is (Closes.passes {text = text} {more = more} byte f o c h) n e = passed n byte text more f o c ∙ closes_is h n e

stays_some : {n : ℕ} {text : List ℕ} → StaysOpen n text → n ≡ 0 → ⊥
stays_some StaysOpen.ended e = omega arith
stays_some (StaysOpen.opens _ _) e = omega arith
stays_some (StaysOpen.closes _ _) e = omega arith
stays_some (StaysOpen.passes _ _ _ _ _) e = omega arith

stays_is : {m : ℕ} {text : List ℕ} → StaysOpen m text → (n : ℕ) → m ≡ suc n → close_from n text ≡ None
stays_is StaysOpen.ended n e = refl
stays_is (StaysOpen.opens {text = text} {more = more} f h) n e = opens_step n text more f ∙ stays_is h (suc n) (ap suc e)
stays_is (StaysOpen.closes f h) zero e = absurd (stays_some h (omega arith))
stays_is (StaysOpen.closes f h) (suc n) e = ap (close_from (suc n)) f ∙ stays_is h n (omega arith)
stays_is (StaysOpen.passes {text = text} {more = more} byte f o c h) n e = passed n byte text more f o c ∙ stays_is h n e

-- what stands there, by its kind
abbrev named : Option Word → List ℕ → List ℕ → Cut
named None run rest = a_token (kinds.Ident run) rest
named (Some w) run rest = a_token (kinds.Word w) rest

abbrev plain_number : List ℕ → List ℕ → Cut
plain_number run rest =
    cond (list_all is_ascii_digit run)
    (cond (leb (digits_value 10 run) largest_decimal) (a_token (kinds.Integer (pos (digits_value 10 run))) rest) (a_fault codes_of.NumberTooLarge (length run) rest))
    (a_fault codes_of.BadNumber (length run) rest)

abbrev h_number : List ℕ → List ℕ → Cut
h_number run rest =
    cond (leb (digits_value 16 run) largest_hexadecimal) (a_token (kinds.Integer (signed (digits_value 16 run))) rest) (a_fault codes_of.NumberTooLarge (length run + 1) rest)

abbrev x_number : List ℕ → List ℕ → Cut
x_number run rest =
    cond (leb (digits_value 16 run) largest_character) (a_token (kinds.Str (digits_value 16 run ∷ [])) rest) (a_fault codes_of.NumberTooLarge (length run + 1) rest)

abbrev numbered : List ℕ → List ℕ → Cut
numbered run [] = plain_number run []
numbered run (byte ∷ rest) = cond (eqb byte 72) (h_number run rest) (cond (eqb byte 88) (x_number run rest) (plain_number run (byte ∷ rest)))

abbrev quoted : List ℕ → List ℕ → Cut
quoted run [] = a_fault codes_of.OpenString (1 + length run) []
quoted run (byte ∷ rest) = cond (eqb byte quote) (a_token (kinds.Str run) rest) (a_fault codes_of.OpenString (1 + length run) (byte ∷ rest))

abbrev commented : Option (List ℕ) → Cut
commented None = a_fault codes_of.OpenComment 2 []
commented (Some rest) = a_gap rest

-- how many bytes a character has, by its first
abbrev char_len : ℕ → ℕ
char_len byte = cond (ltb byte 128) 1 (cond (ltb byte 224) 2 (cond (ltb byte 240) 3 4))

abbrev symbolic : Option Symbol → ℕ → List ℕ → Cut
symbolic None byte text = a_fault codes_of.BadCharacter (char_len byte) (drop (char_len byte) text)
symbolic (Some s) byte text = a_token (kinds.Symbol s) (drop (length (symbol_text s)) text)

abbrev cut : List ℕ → Cut
cut [] = nothing
cut (byte ∷ bytes) =
    let text : List ℕ = byte ∷ bytes in
    cond (is_ascii_whitespace byte) (a_gap (back is_ascii_whitespace text))
    (cond (is_ascii_alphabetic byte) (named (find_word (front is_ascii_alphanumeric text)) (front is_ascii_alphanumeric text) (back is_ascii_alphanumeric text))
    (cond (is_ascii_digit byte) (numbered (front is_number_byte text) (back is_number_byte text))
    (cond (eqb byte quote) (quoted (front is_string_byte bytes) (back is_string_byte bytes))
    (cond (opens_comment text) (commented (close_from 0 (drop 1 bytes)))
    (symbolic (symbol_at text) byte text)))))

cut_blank : (text run rest : List ℕ) → HasFirst is_ascii_whitespace text → IsRun is_ascii_whitespace text run rest → cut text ≡ a_gap rest
cut_blank [] run rest b r = absurd b
cut_blank (byte ∷ bytes) run rest b r =
    cond-true _ _ _ b ∙ ap a_gap (front_is is_ascii_whitespace (byte ∷ bytes) run rest r).1

letter_no_blank : (byte : ℕ) → is_ascii_alphabetic byte ≡ true → is_ascii_whitespace byte ≡ false
letter_no_blank byte e = grind (arith, nat_tests)

digit_no_blank : (byte : ℕ) → is_ascii_digit byte ≡ true → is_ascii_whitespace byte ≡ false
digit_no_blank byte e = grind (arith, nat_tests)

digit_no_letter : (byte : ℕ) → is_ascii_digit byte ≡ true → is_ascii_alphabetic byte ≡ false
digit_no_letter byte e = grind (arith, nat_tests)

cut_name : (text run rest : List ℕ) → IsName text run rest → cut text ≡ named (find_word run) run rest
cut_name [] run rest n = absurd n.first
cut_name (byte ∷ bytes) run rest n =
    let f = front_is is_ascii_alphanumeric (byte ∷ bytes) run rest n.longest in
    cond-false _ _ _ (letter_no_blank byte n.first) ∙ (cond-true _ _ _ n.first
    ∙ (ap (λ xs. named (find_word xs) xs (back is_ascii_alphanumeric (byte ∷ bytes))) f.0 ∙ ap (named (find_word run) run) f.1))

cut_number : (text run after : List ℕ) → IsNumber text run after → cut text ≡ numbered run after
cut_number [] run after n = absurd n.first
cut_number (byte ∷ bytes) run after n =
    let f = front_is is_number_byte (byte ∷ bytes) run after n.longest in
    cond-false _ _ _ (digit_no_blank byte n.first) ∙ (cond-false _ _ _ (digit_no_letter byte n.first) ∙ (cond-true _ _ _ n.first
    ∙ (ap (λ xs. numbered xs (back is_number_byte (byte ∷ bytes))) f.0 ∙ ap (numbered run) f.1)))

cut_quoted : (text run after : List ℕ) → IsQuoted text run after → cut text ≡ quoted run after
cut_quoted text run after q =
    let f = front_is is_string_byte q.line run after q.longest in
    ap cut q.first ∙ (ap (λ xs. quoted xs (back is_string_byte q.line)) f.0 ∙ ap (quoted run) f.1)

cut_comment : (text body : List ℕ) → text ≡ 40 ∷ 42 ∷ body → cut text ≡ commented (close_from 0 body)
cut_comment text body e = ap cut e

-- with a byte with which no other piece begins
abbrev no_beginning : ℕ → Bool
no_beginning byte = not (is_ascii_whitespace byte) && (not (is_ascii_alphabetic byte) && (not (is_ascii_digit byte) && not (eqb byte quote)))

cut_symbol : (text : List ℕ) → 0 < length text → no_beginning (get_or text 0 0) ≡ true → opens_comment text ≡ false → cut text ≡ symbolic (symbol_at text) (get_or text 0 0) text
cut_symbol [] h n o = absurd (omega arith)
cut_symbol (byte ∷ bytes) h n o =
    let blank = and_parts (not (is_ascii_whitespace byte)) (not (is_ascii_alphabetic byte) && (not (is_ascii_digit byte) && not (eqb byte quote))) n in
    let letter = and_parts (not (is_ascii_alphabetic byte)) (not (is_ascii_digit byte) && not (eqb byte quote)) blank.1 in
    let digit = and_parts (not (is_ascii_digit byte)) (not (eqb byte quote)) letter.1 in
    let no_blank = not-true (is_ascii_whitespace byte) blank.0 in
    let no_letter = not-true (is_ascii_alphabetic byte) letter.0 in
    let no_digit = not-true (is_ascii_digit byte) digit.0 in
    let no_quote = not-true (eqb byte quote) digit.1 in
    cond-false _ _ _ no_blank ∙ (cond-false _ _ _ no_letter ∙ (cond-false _ _ _ no_digit ∙ (cond-false _ _ _ no_quote ∙ cond-false _ _ _ o)))

symbol_begins : (s : Symbol) → no_beginning (get_or (symbol_text s) 0 0) ≡ true
unfolding symbol_text
symbol_begins symbols.Plus = refl
symbol_begins symbols.Minus = refl
symbol_begins symbols.Star = refl
symbol_begins symbols.Slash = refl
symbol_begins symbols.Tilde = refl
symbol_begins symbols.Ampersand = refl
symbol_begins symbols.Period = refl
symbol_begins symbols.Comma = refl
symbol_begins symbols.Semicolon = refl
symbol_begins symbols.Bar = refl
symbol_begins symbols.OpenParen = refl
symbol_begins symbols.CloseParen = refl
symbol_begins symbols.OpenBracket = refl
symbol_begins symbols.CloseBracket = refl
symbol_begins symbols.OpenBrace = refl
symbol_begins symbols.CloseBrace = refl
symbol_begins symbols.Becomes = refl
symbol_begins symbols.Caret = refl
symbol_begins symbols.Equal = refl
symbol_begins symbols.Hash = refl
symbol_begins symbols.Less = refl
symbol_begins symbols.Greater = refl
symbol_begins symbols.LessEqual = refl
symbol_begins symbols.GreaterEqual = refl
symbol_begins symbols.Colon = refl
symbol_begins symbols.DotDot = refl

-- the symbol that stands there is the one that is found
found_alone : (text : List ℕ) (a : ℕ) (s : Symbol) (o : Option Symbol) → pair_symbol a (get_or text 1 0) ≡ o → single_symbol a ≡ Some s → 0 < length text → get_or text 0 0 ≡ a
    → ((t : Symbol) → starts_with nat_eq text (symbol_text t) ≡ true → length (symbol_text t) ≤ 1) → option_or o (single_symbol a) ≡ Some s
found_alone text a s None e f h g longest = f
found_alone [] a s (Some t) e f h g longest = absurd (omega arith)
found_alone (x ∷ []) a s (Some t) e f h g longest = absurd (no_pair_at_end a t e)
found_alone (x ∷ y ∷ rest) a s (Some t) e f h g longest =
    let is : symbol_text t ≡ a ∷ y ∷ [] = pair_found a y t e in
    let starts : starts_with nat_eq (x ∷ y ∷ rest) (a ∷ y ∷ []) ≡ true = and_from (eqb a x) (eqb y y && true) (eq-eqb a x (sym g)) (and_from (eqb y y) true (eq-eqb y y refl) refl) in
    let one = longest t (ap (starts_with nat_eq (x ∷ y ∷ rest)) is ∙ starts) in
    absurd (omega (arith, ap length is))

symbol_is : (text rest : List ℕ) (s : Symbol) → IsSymbol text s rest → Spelled s → symbol_at text ≡ Some s
symbol_is text rest s h (Spelled.alone a _ e f) =
    let first : get_or text 0 0 ≡ a = ap (λ xs. get_or xs 0 0) (h.whole ∙ ap (λ xs. xs ++ rest) e) in
    let some : 0 < length text = omega (arith, ap length (h.whole ∙ ap (λ xs. xs ++ rest) e)) in
    let longest : (t : Symbol) → starts_with nat_eq text (symbol_text t) ≡ true → length (symbol_text t) ≤ 1 = λ t k. omega (arith, h.longest t k, ap length e) in
    ap (λ x. option_or (pair_symbol x (get_or text 1 0)) (single_symbol x)) first ∙ found_alone text a s (pair_symbol a (get_or text 1 0)) refl f some first longest
symbol_is text rest s h (Spelled.paired a b _ _ _ e f _) =
    let whole = h.whole ∙ ap (λ xs. xs ++ rest) e in
    ap (λ xs. option_or (pair_symbol (get_or xs 0 0) (get_or xs 1 0)) (single_symbol (get_or xs 0 0))) whole ∙ ap (λ o. option_or o (single_symbol a)) f

cut_a_symbol : (text rest : List ℕ) (s : Symbol) → IsSymbol text s rest → cut text ≡ a_token (kinds.Symbol s) rest
cut_a_symbol text rest s h =
    let at = symbol_text s in
    let some : 0 < length at = symbol_some s (spelled s) in
    let first : get_or text 0 0 ≡ get_or at 0 0 = ap (λ xs. get_or xs 0 0) h.whole ∙ get_or_append_left at rest 0 0 some in
    let begins = ap no_beginning first ∙ symbol_begins s in
    let here : 0 < length text = omega (arith, ap length h.whole, length-append at rest) in
    let dropped : drop (length at) text ≡ rest = ap (drop (length at)) h.whole ∙ drop_at at rest (length at) refl in
    cut_symbol text here begins h.no_comment ∙ (ap (λ o. symbolic o (get_or text 0 0) text) (symbol_is text rest s h (spelled s)) ∙ ap (a_token (kinds.Symbol s)) dropped)

-- a bad character is cut off whole
char_len_is : (c : ℕ) (rest : List ℕ) → Shape c → char_len (get_or (encode_utf8 c ++ rest) 0 0) ≡ length (encode_utf8 c)
char_len_is c rest (Shape.one low e) = ap (λ xs. char_len (get_or (xs ++ rest) 0 0)) e ∙ (cond-true _ _ _ (lt-ltb c 128 low) ∙ sym (ap length e))
char_len_is c rest (Shape.two a b low high _ _ _ e) =
    ap (λ xs. char_len (get_or (xs ++ rest) 0 0)) e ∙ (cond-false _ _ _ (le-ltb a 128 (omega arith)) ∙ (cond-true _ _ _ (lt-ltb a 224 high) ∙ sym (ap length e)))
char_len_is c rest (Shape.three a b d low high _ _ _ _ e) =
    ap (λ xs. char_len (get_or (xs ++ rest) 0 0)) e ∙ (cond-false _ _ _ (le-ltb a 128 (omega arith)) ∙ (cond-false _ _ _ (le-ltb a 224 low) ∙ (cond-true _ _ _ (lt-ltb a 240 high) ∙ sym (ap length e))))
char_len_is c rest (Shape.four a b d f low _ _ _ _ e) =
    ap (λ xs. char_len (get_or (xs ++ rest) 0 0)) e ∙ (cond-false _ _ _ (le-ltb a 128 (omega arith)) ∙ (cond-false _ _ _ (le-ltb a 224 (omega arith)) ∙ (cond-false _ _ _ (le-ltb a 240 low) ∙ sym (ap length e))))

-- the first byte of a character is the character, or is beyond ASCII
first_byte : (c : ℕ) (rest : List ℕ) → Shape c → ((c < 128) × (get_or (encode_utf8 c ++ rest) 0 0 ≡ c)) ⊎ (192 ≤ get_or (encode_utf8 c ++ rest) 0 0)
first_byte c rest (Shape.one low e) = inl (low, ap (λ xs. get_or (xs ++ rest) 0 0) e)
first_byte c rest (Shape.two a b low _ _ _ _ e) = inr (omega (arith, ap (λ xs. get_or (xs ++ rest) 0 0) e))
first_byte c rest (Shape.three a b d low _ _ _ _ _ e) = inr (omega (arith, ap (λ xs. get_or (xs ++ rest) 0 0) e))
first_byte c rest (Shape.four a b d f low _ _ _ _ e) = inr (omega (arith, ap (λ xs. get_or (xs ++ rest) 0 0) e))

-- what is known of a byte with which nothing begins
record Nothing (byte : ℕ) : Type 0 where
  begins : no_beginning byte ≡ true
  no_symbol : (s : Symbol) → get_or (symbol_text s) 0 0 ≢ byte

begins_with : (c byte : ℕ) (text more : List ℕ) → text ≡ byte ∷ more → byte ≡ c → HasFirst (λ b. b == c) text
begins_with c byte text more e f = subst (HasFirst (λ b. b == c)) (sym e) (eq-eqb byte c f)

no_first : (c : ℕ) (s : Symbol) → Spelled s → (HasFirst (λ b. b == c) (symbol_text s) → ⊥) → get_or (symbol_text s) 0 0 ≢ c
no_first c s (Spelled.alone a _ e _) h f = h (begins_with c a (symbol_text s) [] e (sym (ap (λ xs. get_or xs 0 0) e) ∙ f))
no_first c s (Spelled.paired a b _ _ _ e _ _) h f = h (begins_with c a (symbol_text s) (b ∷ []) e (sym (ap (λ xs. get_or xs 0 0) e) ∙ f))

first_low : (s : Symbol) → Spelled s → get_or (symbol_text s) 0 0 < 128
first_low s (Spelled.alone a low e _) = omega (arith, ap (λ xs. get_or xs 0 0) e)
first_low s (Spelled.paired a b _ low _ e _ _) = omega (arith, ap (λ xs. get_or xs 0 0) e)

nothing_ascii : (c : ℕ) → IsOther c → Nothing c
nothing_ascii c h =
    record {
      begins = and_from _ _ (not_from_false _ h.no_blank) (and_from _ _ (not_from_false _ h.no_letter) (and_from _ _ (not_from_false _ h.no_digit) (not_from_false _ (ne_eqb c quote h.no_quote))));
      no_symbol = λ s. no_first c s (spelled s) (h.no_symbol s);
    }

nothing_beyond : (byte : ℕ) → 192 ≤ byte → Nothing byte
nothing_beyond byte h =
    record { begins = grind (arith, nat_tests); no_symbol = λ s e. absurd (omega (arith, first_low s (spelled s))) }

nothing_at : (c byte : ℕ) → IsOther c → ((c < 128) × (byte ≡ c)) ⊎ (192 ≤ byte) → Nothing byte
nothing_at c byte h (inl p) = subst Nothing (sym p.1) (nothing_ascii c h)
nothing_at c byte h (inr p) = nothing_beyond byte p

opens_with : (text : List ℕ) → opens_comment text ≡ true → get_or text 0 0 ≡ 40
opens_with [] e = absurd (false≢true e)
opens_with (a ∷ []) e = absurd (false≢true (and_parts (eqb 40 a) false e).1)
opens_with (a ∷ b ∷ rest) e = sym (eqb-true 40 a (and_parts (eqb 40 a) (eqb 42 b && true) e).0)

paren_is : get_or (symbol_text symbols.OpenParen) 0 0 ≡ 40
unfolding symbol_text
paren_is = refl

no_comment_at : (text : List ℕ) → Nothing (get_or text 0 0) → opens_comment text ≡ false
no_comment_at text n = false_from_ne_true (opens_comment text) (λ e. n.no_symbol symbols.OpenParen (paren_is ∙ sym (opens_with text e)))

no_symbol_at : (text : List ℕ) → 0 < length text → Nothing (get_or text 0 0) → symbol_at text ≡ None
no_symbol_at text h n = go (symbol_at text) refl
  where
    go : (o : Option Symbol) → symbol_at text ≡ o → o ≡ None
    go None e = refl
    go (Some s) e =
        let first = found_first text s h e in
        let at = symbol_text s in
        let same : get_or text 0 0 ≡ get_or at 0 0 = ap (λ xs. get_or xs 0 0) first ∙ get_or_append_left at (drop (length at) text) 0 0 (symbol_some s (spelled s)) in
        absurd (n.no_symbol s (sym same))

cut_other : (text rest : List ℕ) (c : ℕ) → text ≡ encode_utf8 c ++ rest → IsOther c → cut text ≡ a_fault codes_of.BadCharacter (length (encode_utf8 c)) rest
cut_other text rest c e h =
    let bytes = encode_utf8 c in
    let here : 0 < length text = omega (arith, ap length e, length-append bytes rest, length-encode c, len_utf8_bounds c) in
    let n : Nothing (get_or text 0 0) = subst (λ xs. Nothing (get_or xs 0 0)) (sym e) (nothing_at c (get_or (bytes ++ rest) 0 0) h (first_byte c rest (shape c))) in
    let size : char_len (get_or text 0 0) ≡ length bytes = ap (λ xs. char_len (get_or xs 0 0)) e ∙ char_len_is c rest (shape c) in
    let dropped : drop (length bytes) text ≡ rest = ap (drop (length bytes)) e ∙ drop_at bytes rest (length bytes) refl in
    cut_symbol text here n.begins (no_comment_at text n) ∙ (ap (λ o. symbolic o (get_or text 0 0) text) (no_symbol_at text here n)
    ∙ (ap (λ k. a_fault codes_of.BadCharacter k (drop k text)) size ∙ ap (a_fault codes_of.BadCharacter (length bytes)) dropped))

-- each piece is the one that is cut off
gap_is : {text rest : List ℕ} → IsGap text rest → cut text ≡ a_gap rest
gap_is {text} {rest} (IsGap.blanks run b r) = cut_blank text run rest b r
gap_is {text} {rest} (IsGap.comment body e h) = cut_comment text body e ∙ ap commented (closes_is h 0 refl)

no_word_is : (run : List ℕ) → ((w : Word) → run ≢ spelling w) → find_word run ≡ None
no_word_is run h = go (find_word run) refl
  where
    go : (o : Option Word) → find_word run ≡ o → o ≡ None
    go None e = refl
    go (Some w) e = absurd (h w (word_found run w e))

plain_is : (run rest : List ℕ) → LacksFirst is_suffix rest → numbered run rest ≡ plain_number run rest
plain_is run [] e = refl
plain_is run (byte ∷ rest) e =
    let p = or_parts (eqb byte 72) (eqb byte 88) e in
    cond-false _ _ _ p.0 ∙ cond-false _ _ _ p.1

token_is : {text rest : List ℕ} {kind : TokenKind} → IsToken text kind rest → cut text ≡ a_token kind rest
token_is {text} {rest} (IsToken.word w n) = cut_name text (spelling w) rest n ∙ ap (λ o. named o (spelling w) rest) (word_again w)
token_is {text} {rest} (IsToken.name run n h) = cut_name text run rest n ∙ ap (λ o. named o run rest) (no_word_is run h)
token_is {text} {rest} (IsToken.decimal run n e d h) =
    cut_number text run rest n ∙ (plain_is run rest e ∙ (cond-true _ _ _ d ∙ cond-true _ _ _ (le-leb (digits_value 10 run) largest_decimal h)))
token_is {text} {rest} (IsToken.hexadecimal run n h) = cut_number text run (72 ∷ rest) n ∙ cond-true _ _ _ (le-leb (digits_value 16 run) largest_hexadecimal h)
token_is {text} {rest} (IsToken.character run n h) = cut_number text run (88 ∷ rest) n ∙ cond-true _ _ _ (le-leb (digits_value 16 run) largest_character h)
token_is {text} {rest} (IsToken.string run q) = cut_quoted text run (quote ∷ rest) q
token_is {text} {rest} (IsToken.symbol s h) = cut_a_symbol text rest s h

open_is : (run rest : List ℕ) → LacksFirst (λ b. b == quote) rest → quoted run rest ≡ a_fault codes_of.OpenString (1 + length run) rest
open_is run [] e = refl
open_is run (byte ∷ rest) e = cond-false _ _ _ e

fault_is : {text rest : List ℕ} {code : Code} {n : ℕ} → IsFault text code n rest → cut text ≡ a_fault code n rest
fault_is {text} {rest} (IsFault.bad_character c _ h e) = cut_other text rest c e h
fault_is {text} (IsFault.open_comment body e h) = cut_comment text body e ∙ ap commented (stays_is h 0 refl)
fault_is {text} {rest} (IsFault.open_string run q e) = cut_quoted text run rest q ∙ open_is run rest e
fault_is {text} {rest} (IsFault.bad_number run n e d) = cut_number text run rest n ∙ (plain_is run rest e ∙ cond-false _ _ _ d)
fault_is {text} {rest} (IsFault.large_decimal run n e d h) =
    cut_number text run rest n ∙ (plain_is run rest e ∙ (cond-true _ _ _ d ∙ cond-false _ _ _ (lt-leb (digits_value 10 run) largest_decimal h)))
fault_is {text} {rest} (IsFault.large_hexadecimal run n h) = cut_number text run (72 ∷ rest) n ∙ cond-false _ _ _ (lt-leb (digits_value 16 run) largest_hexadecimal h)
fault_is {text} {rest} (IsFault.large_character run n h) = cut_number text run (88 ∷ rest) n ∙ cond-false _ _ _ (lt-leb (digits_value 16 run) largest_character h)

-- what follows in a cut, by what stands first
at_end : {text rest : List ℕ} {ts : List Token} {ds : List Diagnostic} → Cuts text rest ts ds → cut rest ≡ nothing → (ts ≡ []) × (ds ≡ [])
at_end Cuts.done e = (refl, refl)
at_end (Cuts.gap g _) e = absurd (cc (gap_is g))
at_end (Cuts.token kind r _) e = absurd (cc (token_is r))
at_end (Cuts.fault code n f _) e = absurd (cc (fault_is f))

after_gap : {text rest : List ℕ} {ts : List Token} {ds : List Diagnostic} (after : List ℕ) → Cuts text rest ts ds → cut rest ≡ a_gap after → Cuts text after ts ds
after_gap after Cuts.done e = absurd (cc)
after_gap {text} after (Cuts.gap {after = next} {ts = ts} {ds = ds} g k) e =
    let is = gap_is g in
    let same : next ≡ after = cc in
    subst (λ xs. Cuts text xs ts ds) same k
after_gap after (Cuts.token kind r _) e = absurd (cc (token_is r))
after_gap after (Cuts.fault code n f _) e = absurd (cc (fault_is f))

record AfterToken (text rest after : List ℕ) (kind : TokenKind) (ts : List Token) (ds : List Diagnostic) : Type 0 where
  others : List Token
  are : ts ≡ record { span = part text rest after; kind = kind } ∷ others
  cuts : Cuts text after others ds

after_token : {text rest : List ℕ} {ts : List Token} {ds : List Diagnostic} (kind : TokenKind) (after : List ℕ) → Cuts text rest ts ds → cut rest ≡ a_token kind after → AfterToken text rest after kind ts ds
after_token kind after Cuts.done e = absurd (cc)
after_token kind after (Cuts.gap g _) e = absurd (cc (gap_is g))
after_token {text} kind after (Cuts.token {rest = rest} {after = next} {ts = ts} {ds = ds} other r k) e =
    let is = token_is r in
    let same_kind : other ≡ kind = cc in
    let same : next ≡ after = cc in
    record {
      others = ts;
      are = ap (λ x. record { span = part text rest next; kind = x } ∷ ts) same_kind ∙ ap (λ x. record { span = part text rest x; kind = kind } ∷ ts) same;
      cuts = subst (λ xs. Cuts text xs ts ds) same k;
    }
after_token kind after (Cuts.fault code n f _) e = absurd (cc (fault_is f))

record AfterFault (text rest after : List ℕ) (code : Code) (n : ℕ) (ts : List Token) (ds : List Diagnostic) : Type 0 where
  others : List Diagnostic
  are : ds ≡ fault_of text (offset_of text rest) code n ∷ others
  cuts : Cuts text after ts others

after_fault : {text rest : List ℕ} {ts : List Token} {ds : List Diagnostic} (code : Code) (n : ℕ) (after : List ℕ) → Cuts text rest ts ds → cut rest ≡ a_fault code n after → AfterFault text rest after code n ts ds
after_fault code n after Cuts.done e = absurd (cc)
after_fault code n after (Cuts.gap g _) e = absurd (cc (gap_is g))
after_fault code n after (Cuts.token kind r _) e = absurd (cc (token_is r))
after_fault {text} code n after (Cuts.fault {rest = rest} {after = next} {ts = ts} {ds = ds} other m f k) e =
    let is = fault_is f in
    let same_code : other ≡ code = cc in
    let same_size : m ≡ n = cc in
    let same : next ≡ after = cc in
    record {
      others = ds;
      are = ap (λ x. fault_of text (offset_of text rest) x m ∷ ds) same_code ∙ ap (λ x. fault_of text (offset_of text rest) code x ∷ ds) same_size;
      cuts = subst (λ xs. Cuts text xs ts ds) same k;
    }

pub one_cut : {text rest : List ℕ} {ts us : List Token} {ds es : List Diagnostic} → Cuts text rest ts ds → Cuts text rest us es → (ts ≡ us) × (ds ≡ es)
one_cut Cuts.done b =
    let p = at_end b refl in
    (sym p.0, sym p.1)
one_cut (Cuts.gap {after = after} g k) b = one_cut k (after_gap after b (gap_is g))
one_cut {text} (Cuts.token {rest = rest} {after = after} kind r k) b =
    let t = after_token kind after b (token_is r) in
    let p = one_cut k t.cuts in
    (ap (λ xs. record { span = part text rest after; kind = kind } ∷ xs) p.0 ∙ sym t.are, p.1)
one_cut {text} (Cuts.fault {rest = rest} {after = after} code n f k) b =
    let t = after_fault code n after b (fault_is f) in
    let p = one_cut k t.cuts in
    (p.0, ap (λ xs. fault_of text (offset_of text rest) code n ∷ xs) p.1 ∙ sym t.are)
