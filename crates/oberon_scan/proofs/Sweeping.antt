-- What was scanned of a text: however the rest is cut, the whole text is cut so behind what was found.
use Rattle.std.proofs.Common.{◌≡◌, ℕ, ◌≤◌, List, [], ◌∷◌, ◌++◌, length, sym, ap, subst, ◌∙◌, arith, append_assoc, true, take, drop}
use Rattle.std.specs.Prelude.{nat_eq}
use Rattle.std.specs.List.{starts_with}
use Rattle.std.specs.Char.{encode_utf8}
use Rattle.std.specs.Str.{IsUtf8}
use Rattle.std.proofs.lemmas.Bool.{cond_both}
use Rattle.std.proofs.lemmas.List.{append-nil, take-append-drop, length-drop}
use Rattle.std.proofs.lemmas.Slice.Eq.{bytes_eq-Decides}
use Rattle.std.proofs.lemmas.Str.{IsUtf8-past_char}
use Rattle.ob_text.specs.declared.diagnostic.Diagnostic.{Diagnostic}
use Rattle.ob_text.specs.Cursor.{Reached}
use Rattle.oberon_scan.specs.declared.token.Token.{Token}
use Rattle.oberon_scan.specs.declared.piece.Piece.{Piece}
use Rattle.oberon_scan.specs.declared.piece.Piece.TheVariants as pieces
use Rattle.oberon_scan.specs.Lexis.{Lex, Cuts, offset_of, part, fault_of, without_mark}
use Rattle.oberon_scan.specs.Piece.{CutsOff, IsWithinText, Adds}
use Rattle.oberon_scan.proofs.Going.{piece_goes, fails_shown}

pub record Swept (text rest : List ℕ) (ts : List Token) (ds : List Diagnostic) (cursor : Reached) : Type 0 where
  pub cuts : (us : List Token) (es : List Diagnostic) → Cuts text rest us es → Cuts text (without_mark text) (ts ++ us) (ds ++ es)
  pub utf8 : IsUtf8 rest
  pub within : length rest ≤ length text
  pub text_is : cursor.text ≡ text
  pub offset_is : cursor.offset ≤ offset_of text rest

abbrev CutsSo : List ℕ → List Token → List Diagnostic → Type 0
CutsSo text ts ds = Cuts text (without_mark text) ts ds

-- one more piece
add_cuts : (text rest after : List ℕ) (piece : Piece) (ts us : List Token) (ds es : List Diagnostic) → CutsOff rest piece after → Adds text piece (part text rest after) ts ds us es
    → ((vs : List Token) (fs : List Diagnostic) → Cuts text rest vs fs → CutsSo text (ts ++ vs) (ds ++ fs))
    → (vs : List Token) (fs : List Diagnostic) → Cuts text after vs fs → CutsSo text (us ++ vs) (es ++ fs)
add_cuts text rest after pieces.Gap ts us ds es p a so vs fs k =
    subst (λ xs. CutsSo text (xs ++ vs) (es ++ fs)) (sym a.0) (subst (λ xs. CutsSo text (ts ++ vs) (xs ++ fs)) (sym a.1) (so vs fs (Cuts.gap p k)))
add_cuts text rest after (pieces.Token kind) ts us ds es p a so vs fs k =
    let token : Token = record { span = part text rest after; kind = kind } in
    let grown = so (token ∷ vs) fs (Cuts.token kind p k) in
    let regrouped = subst (λ xs. CutsSo text xs (ds ++ fs)) (sym (append_assoc ts (token ∷ []) vs)) grown in
    subst (λ xs. CutsSo text (xs ++ vs) (es ++ fs)) (sym a.0) (subst (λ xs. CutsSo text ((ts ++ token ∷ []) ++ vs) (xs ++ fs)) (sym a.1) regrouped)
add_cuts text rest after (pieces.Fault code n) ts us ds es p a so vs fs k =
    let fault = fault_of text (offset_of text rest) code n in
    let grown = so vs (fault ∷ fs) (Cuts.fault code n p k) in
    let regrouped = subst (λ xs. CutsSo text (ts ++ vs) xs) (sym (append_assoc ds (fault ∷ []) fs)) grown in
    subst (λ xs. CutsSo text (xs ++ vs) (es ++ fs)) (sym a.0) (subst (λ xs. CutsSo text (ts ++ vs) (xs ++ fs)) (sym a.1) regrouped)

pub piece_shown : (text rest after : List ℕ) (piece : Piece) → length rest ≤ length text → CutsOff rest piece after → IsWithinText text piece (part text rest after)
piece_shown text rest after pieces.Gap h p = tt
piece_shown text rest after (pieces.Token kind) h p = tt
piece_shown text rest after (pieces.Fault code n) h p = omega (arith, fails_shown p)

pub sweeps_on : (text rest after : List ℕ) (piece : Piece) (ts us : List Token) (ds es : List Diagnostic) (c d : Reached) → Swept text rest ts ds c → CutsOff rest piece after → Adds text piece (part text rest after) ts ds us es
    → d.text ≡ c.text → d.offset ≤ offset_of text rest → Swept text after us es d
sweeps_on text rest after piece ts us ds es c d s p a same offset =
    let g = piece_goes rest after piece p in
    record {
      cuts = add_cuts text rest after piece ts us ds es p a s.cuts;
      utf8 = g.utf8 s.utf8;
      within = omega (arith, g.shorter, s.within);
      text_is = same ∙ s.text_is;
      offset_is = omega (arith, g.shorter, s.within, offset);
    }

-- what follows a mark at offset 0
after_mark : (text : List ℕ) → starts_with nat_eq text (0xEF ∷ 0xBB ∷ 0xBF ∷ []) ≡ true → IsUtf8 text → IsUtf8 (drop 3 text)
unfolding encode_utf8
after_mark text e u =
    let mark : List ℕ = 0xEF ∷ 0xBB ∷ 0xBF ∷ [] in
    let same : mark ≡ take 3 text = (bytes_eq-Decides mark (take 3 text)).0 e in
    let whole : text ≡ encode_utf8 0xFEFF ++ drop 3 text = sym (take-append-drop 3 text) ∙ ap (λ xs. xs ++ drop 3 text) (sym same) in
    IsUtf8-past_char text (drop 3 text) 0xFEFF u whole

record Left (text rest : List ℕ) : Type 0 where
  utf8 : IsUtf8 rest
  within : length rest ≤ length text

mark_left : (text : List ℕ) → IsUtf8 text → Left text (without_mark text)
mark_left text u =
    cond_both (starts_with nat_eq text (0xEF ∷ 0xBB ∷ 0xBF ∷ [])) (drop 3 text) text (Left text)
    (λ e. record { utf8 = after_mark text e u; within = rw length-drop (omega arith) })
    (λ e. record { utf8 = u; within = omega arith })

pub begins_swept : (text rest : List ℕ) (ts : List Token) (ds : List Diagnostic) (c : Reached) → rest ≡ without_mark text → ts ≡ [] → ds ≡ [] → c.text ≡ text → c.offset ≡ 0 → IsUtf8 text → Swept text rest ts ds c
begins_swept text rest ts ds c e no_tokens no_faults same start u =
    let left = subst (Left text) (sym e) (mark_left text u) in
    record {
      cuts = λ us es k.
          subst (λ xs. CutsSo text (xs ++ us) (ds ++ es)) (sym no_tokens) (subst (λ xs. CutsSo text us (xs ++ es)) (sym no_faults) (subst (λ xs. Cuts text xs us es) e k));
      utf8 = left.utf8;
      within = left.within;
      text_is = same;
      offset_is = omega (arith, start);
    }

-- where nothing is left, the text is cut as was found
pub ends_swept : (text rest : List ℕ) (ts : List Token) (ds : List Diagnostic) (c : Reached) → rest ≡ [] → Swept text rest ts ds c → Lex text ts ds
ends_swept text rest ts ds c e s =
    let cut = s.cuts [] [] (subst (λ xs. Cuts text xs [] []) (sym e) Cuts.done) in
    subst (λ xs. CutsSo text xs ds) (append-nil ts) (subst (λ xs. CutsSo text (ts ++ []) xs) (append-nil ds) cut)
