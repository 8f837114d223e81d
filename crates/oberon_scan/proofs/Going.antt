-- What follows a piece is shorter than the text, and is UTF-8 where the text is.
use Rattle.std.proofs.Common.{◌≡◌, ℕ, zero, suc, ◌+◌, ◌<◌, ◌≤◌, Bool, true, false, List, [], ◌∷◌, ◌++◌, length, get_or, drop, refl, sym, ap, subst, ◌∙◌, arith, length-append, append_assoc, lit<}
use Rattle.std.specs.List.{list_all}
use Rattle.std.specs.Char.{is_ascii_whitespace, is_ascii_alphabetic, is_ascii_digit, is_ascii_alphanumeric, encode_utf8}
use Rattle.std.specs.Str.{IsUtf8}
use Rattle.std.proofs.lemmas.Str.{IsUtf8-past_char, IsUtf8-drop, IsUtf8-nil, IsCharBoundary-after_ascii, IsCharBoundary-before_ascii, len_utf8_bounds, length-encode}
use Rattle.std.proofs.lemmas.Bool.{and_parts, true≢false}
use Rattle.std.proofs.lemmas.Bool.Decides.{nat_tests}
use Rattle.std.proofs.lemmas.List.{drop_at, get_or_at}
use Rattle.ob_text.specs.declared.code.Code.{Code}
use Rattle.oberon_scan.specs.declared.token.TokenKind.{TokenKind}
use Rattle.oberon_scan.specs.declared.token.Symbol.{Symbol}
use Rattle.oberon_scan.specs.declared.piece.Piece.{Piece}
use Rattle.oberon_scan.specs.declared.piece.Piece.TheVariants as pieces
use Rattle.oberon_scan.specs.Runs.{quote, is_number_byte, is_string_byte, HasFirst, LacksFirst, IsRun}
use Rattle.oberon_scan.specs.Comments.{Closes}
use Rattle.oberon_scan.specs.Spelling.{spelling, symbol_text}
use Rattle.oberon_scan.specs.Lexis.{IsGap, IsName, IsNumber, IsQuoted, IsToken, IsFault}
use Rattle.oberon_scan.specs.Piece.{CutsOff}
use Rattle.oberon_scan.proofs.Spelled.{Spelled, spelled}

pub record Goes (text rest : List ℕ) : Type 0 where
  pub shorter : length rest < length text
  pub utf8 : IsUtf8 text → IsUtf8 rest

-- behind an ASCII byte the text is UTF-8
behind_ascii : (text front rest : List ℕ) (byte : ℕ) → byte < 128 → text ≡ front ++ byte ∷ rest → IsUtf8 text → IsUtf8 rest
behind_ascii text front rest byte low e u =
    let here : get_or text (length front) 0 ≡ byte = ap (λ xs. get_or xs (length front) 0) e ∙ get_or_at front byte rest 0 (length front) refl in
    let within : length front < length text = omega (arith, ap length e, length-append front (byte ∷ rest)) in
    let regrouped : text ≡ (front ++ byte ∷ []) ++ rest = e ∙ sym (append_assoc front (byte ∷ []) rest) in
    let size : length (front ++ byte ∷ []) ≡ length front + 1 = omega (arith, length-append front (byte ∷ [])) in
    let dropped : drop (length front + 1) text ≡ rest = ap (drop (length front + 1)) regrouped ∙ drop_at (front ++ byte ∷ []) rest (length front + 1) size in
    subst IsUtf8 dropped (IsUtf8-drop text (length front + 1) u (IsCharBoundary-after_ascii text (length front) u within (omega (arith, here))))

-- so it is in front of one, and at its end
before_ascii : (text front rest : List ℕ) → text ≡ front ++ rest → ((byte : ℕ) (more : List ℕ) → rest ≡ byte ∷ more → byte < 128) → IsUtf8 text → IsUtf8 rest
before_ascii text front [] e low u = IsUtf8-nil
before_ascii text front (byte ∷ more) e low u =
    let here : get_or text (length front) 0 ≡ byte = ap (λ xs. get_or xs (length front) 0) e ∙ get_or_at front byte more 0 (length front) refl in
    let within : length front < length text = omega (arith, ap length e, length-append front (byte ∷ more)) in
    let small = low byte more refl in
    let dropped : drop (length front) text ≡ byte ∷ more = ap (drop (length front)) e ∙ drop_at front (byte ∷ more) (length front) refl in
    subst IsUtf8 dropped (IsUtf8-drop text (length front) u (IsCharBoundary-before_ascii text (length front) within (omega (arith, here))))

-- behind a run of ASCII bytes it is too
behind_run : (test : ℕ → Bool) → ((byte : ℕ) → test byte ≡ true → byte < 128) → (run rest : List ℕ) → list_all test run ≡ true → IsUtf8 (run ++ rest) → IsUtf8 rest
behind_run test low [] rest each u = u
behind_run test low (byte ∷ run) rest each u =
    let p = and_parts (test byte) (list_all test run) each in
    behind_run test low run rest p.1 (behind_ascii (byte ∷ (run ++ rest)) [] (run ++ rest) byte (low byte p.0) refl u)

-- a run that begins has a byte
run_shorter : (first test : ℕ → Bool) (text run rest : List ℕ) → ((byte : ℕ) → first byte ≡ true → test byte ≡ true) → HasFirst first text → IsRun test text run rest → length rest < length text
run_shorter first test text [] rest imply b r =
    absurd (no_end text b (subst (LacksFirst test) (sym r.whole) r.longest))
  where
    no_end : (xs : List ℕ) → HasFirst first xs → LacksFirst test xs → ⊥
    no_end [] b e = b
    no_end (x ∷ xs) b e = true≢false (sym (imply x b) ∙ e)
run_shorter first test text (byte ∷ run) rest imply b r =
    omega (arith, ap length r.whole, length-append (byte ∷ run) rest)

run_goes : (first test : ℕ → Bool) (text run rest : List ℕ) → ((byte : ℕ) → first byte ≡ true → test byte ≡ true) → ((byte : ℕ) → test byte ≡ true → byte < 128) → HasFirst first text → IsRun test text run rest → Goes text rest
run_goes first test text run rest imply low b r =
    record { shorter = run_shorter first test text run rest imply b r; utf8 = λ u. behind_run test low run rest r.each (subst IsUtf8 r.whole u) }

blank_low : (byte : ℕ) → is_ascii_whitespace byte ≡ true → byte < 128
blank_low byte e = grind (arith, nat_tests)

letter_is : (byte : ℕ) → is_ascii_alphabetic byte ≡ true → is_ascii_alphanumeric byte ≡ true
letter_is byte e = grind (arith, nat_tests)

name_low : (byte : ℕ) → is_ascii_alphanumeric byte ≡ true → byte < 128
name_low byte e = grind (arith, nat_tests)

digit_is : (byte : ℕ) → is_ascii_digit byte ≡ true → is_number_byte byte ≡ true
digit_is byte e = grind (arith, nat_tests)

number_low : (byte : ℕ) → is_number_byte byte ≡ true → byte < 128
number_low byte e = grind (arith, nat_tests)

line_end_low : (byte : ℕ) → is_string_byte byte ≡ false → byte < 128
line_end_low byte e = grind (arith, nat_tests)

name_goes : (text run rest : List ℕ) → IsName text run rest → Goes text rest
name_goes text run rest n = run_goes is_ascii_alphabetic is_ascii_alphanumeric text run rest letter_is name_low n.first n.longest

number_goes : (text run after : List ℕ) → IsNumber text run after → Goes text after
number_goes text run after n = run_goes is_ascii_digit is_number_byte text run after digit_is number_low n.first n.longest

-- a suffix goes with the number
suffix_goes : (text rest : List ℕ) (byte : ℕ) → byte < 128 → Goes text (byte ∷ rest) → Goes text rest
suffix_goes text rest byte low g =
    record { shorter = omega (arith, g.shorter); utf8 = λ u. behind_ascii (byte ∷ rest) [] rest byte low refl (g.utf8 u) }

-- what follows a comment stands behind its `)`
abbrev Behind : ℕ → List ℕ → List ℕ → Type 0
Behind zero text rest = text ≡ rest
Behind (suc n) text rest = (front : List ℕ) × (text ≡ front ++ 41 ∷ rest)

closed_behind : (n : ℕ) (text more rest : List ℕ) → text ≡ 42 ∷ 41 ∷ more → Behind n more rest → (front : List ℕ) × (text ≡ front ++ 41 ∷ rest)
closed_behind zero text more rest e b = (42 ∷ [], e ∙ ap (λ xs. 42 ∷ 41 ∷ xs) b)
closed_behind (suc n) text more rest e b = (42 ∷ 41 ∷ b.0, e ∙ ap (λ xs. 42 ∷ 41 ∷ xs) b.1)

closes_behind : {n : ℕ} {text rest : List ℕ} → Closes n text rest → Behind n text rest
closes_behind Closes.closed = refl
closes_behind (Closes.opens e h) =
    let b = closes_behind h in
    (40 ∷ 42 ∷ b.0, e ∙ ap (λ xs. 40 ∷ 42 ∷ xs) b.1)
closes_behind (Closes.closes {n = n} {text = text} {more = more} {rest = rest} e h) = closed_behind n text more rest e (closes_behind h)
closes_behind (Closes.passes byte e _ _ h) =
    let b = closes_behind h in
    (byte ∷ b.0, e ∙ ap (λ xs. byte ∷ xs) b.1)

front_goes : (text front rest : List ℕ) (byte : ℕ) → byte < 128 → text ≡ front ++ byte ∷ rest → Goes text rest
front_goes text front rest byte low e =
    record { shorter = omega (arith, ap length e, length-append front (byte ∷ rest)); utf8 = behind_ascii text front rest byte low e }

pub gap_goes : {text rest : List ℕ} → IsGap text rest → Goes text rest
gap_goes {text} {rest} (IsGap.blanks run b r) = run_goes is_ascii_whitespace is_ascii_whitespace text run rest (λ _ e. e) blank_low b r
gap_goes {text} {rest} (IsGap.comment body e h) =
    let b = closes_behind h in
    front_goes text (40 ∷ 42 ∷ b.0) rest 41 (lit< tt) (e ∙ ap (λ xs. 40 ∷ 42 ∷ xs) b.1)

symbol_goes : (text rest : List ℕ) (s : Symbol) → text ≡ symbol_text s ++ rest → Spelled s → Goes text rest
symbol_goes text rest s e (Spelled.alone a low f _) = front_goes text [] rest a low (e ∙ ap (λ xs. xs ++ rest) f)
symbol_goes text rest s e (Spelled.paired a b _ _ low f _ _) = front_goes text (a ∷ []) rest b low (e ∙ ap (λ xs. xs ++ rest) f)

pub token_goes : {text rest : List ℕ} {kind : TokenKind} → IsToken text kind rest → Goes text rest
token_goes {text} {rest} (IsToken.word w n) = name_goes text (spelling w) rest n
token_goes {text} {rest} (IsToken.name run n _) = name_goes text run rest n
token_goes {text} {rest} (IsToken.decimal run n _ _ _) = number_goes text run rest n
token_goes {text} {rest} (IsToken.hexadecimal run n _) = suffix_goes text rest 72 (lit< tt) (number_goes text run (72 ∷ rest) n)
token_goes {text} {rest} (IsToken.character run n _) = suffix_goes text rest 88 (lit< tt) (number_goes text run (88 ∷ rest) n)
token_goes {text} {rest} (IsToken.string run q) =
    front_goes text (quote ∷ run) rest quote (lit< tt) (q.first ∙ ap (λ xs. quote ∷ xs) q.longest.whole)
token_goes {text} {rest} (IsToken.symbol s h) = symbol_goes text rest s h.whole (spelled s)

bad_goes : (text rest : List ℕ) (c : ℕ) → text ≡ encode_utf8 c ++ rest → Goes text rest
bad_goes text rest c e =
    record {
      shorter = omega (arith, ap length e, length-append (encode_utf8 c) rest, length-encode c, len_utf8_bounds c);
      utf8 = λ u. IsUtf8-past_char text rest c u e;
    }

open_goes : (text run rest : List ℕ) → IsQuoted text run rest → Goes text rest
open_goes text run rest q =
    let e : text ≡ (quote ∷ run) ++ rest = q.first ∙ ap (λ xs. quote ∷ xs) q.longest.whole in
    record {
      shorter = omega (arith, ap length e, length-append (quote ∷ run) rest);
      utf8 = before_ascii text (quote ∷ run) rest e (λ byte more f. line_end_low byte (subst (LacksFirst is_string_byte) f q.longest.longest));
    }

pub fault_goes : {text rest : List ℕ} {code : Code} {n : ℕ} → IsFault text code n rest → Goes text rest
fault_goes {text} {rest} (IsFault.bad_character c _ _ e) = bad_goes text rest c e
fault_goes {text} (IsFault.open_comment body e _) = record { shorter = omega (arith, ap length e); utf8 = λ _. IsUtf8-nil }
fault_goes {text} {rest} (IsFault.open_string run q _) = open_goes text run rest q
fault_goes {text} {rest} (IsFault.bad_number run n _ _) = number_goes text run rest n
fault_goes {text} {rest} (IsFault.large_decimal run n _ _ _) = number_goes text run rest n
fault_goes {text} {rest} (IsFault.large_hexadecimal run n _) = suffix_goes text rest 72 (lit< tt) (number_goes text run (72 ∷ rest) n)
fault_goes {text} {rest} (IsFault.large_character run n _) = suffix_goes text rest 88 (lit< tt) (number_goes text run (88 ∷ rest) n)

pub piece_goes : (text rest : List ℕ) (piece : Piece) → CutsOff text piece rest → Goes text rest
piece_goes text rest pieces.Gap h = gap_goes h
piece_goes text rest (pieces.Token kind) h = token_goes h
piece_goes text rest (pieces.Fault code n) h = fault_goes h

-- a fault is shown within the text
number_shown : (text run after : List ℕ) → IsNumber text run after → length run + length after ≤ length text
number_shown text run after n = omega (arith, ap length n.longest.whole, length-append run after)

pub fails_shown : {text rest : List ℕ} {code : Code} {n : ℕ} → IsFault text code n rest → n ≤ length text
fails_shown {text} {rest} (IsFault.bad_character c _ _ e) = omega (arith, ap length e, length-append (encode_utf8 c) rest)
fails_shown {text} (IsFault.open_comment body e _) = omega (arith, ap length e)
fails_shown {text} {rest} (IsFault.open_string run q _) = omega (arith, ap length q.first, ap length q.longest.whole, length-append run rest)
fails_shown {text} {rest} (IsFault.bad_number run n _ _) = omega (arith, number_shown text run rest n)
fails_shown {text} {rest} (IsFault.large_decimal run n _ _ _) = omega (arith, number_shown text run rest n)
fails_shown {text} {rest} (IsFault.large_hexadecimal run n _) = omega (arith, number_shown text run (72 ∷ rest) n)
fails_shown {text} {rest} (IsFault.large_character run n _) = omega (arith, number_shown text run (88 ∷ rest) n)
