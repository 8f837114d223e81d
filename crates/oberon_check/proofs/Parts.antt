-- Each token is a part of its text, and so is the part where a bad one is shown.
use Rattle.std.proofs.Common.{◌≡◌, ◌≤◌, ◌-◌, ℕ, zero, suc, List, [], ◌∷◌, length, drop, Option, Some, None, refl, subst, arith, length-drop}
use Rattle.std.specs.Prelude.{nat_eq, slice_get}
use Rattle.std.specs.List.{starts_with}
use Rattle.std.proofs.lemmas.Bool.{cond_both}
use Rattle.ob_text.specs.Position.{IsPart}
use Rattle.ob_text.specs.declared.diagnostic.Diagnostic.{Diagnostic}
use Rattle.oberon_scan.specs.Lexis.{Lex, Cuts, part, without_mark}
use Rattle.oberon_scan.specs.declared.token.Token.{Token}
use Rattle.oberon_scan.proofs.Going.{gap_goes, token_goes, fault_goes}
use Rattle.document_rules.specs.Diagnosed.{bad_span, end_of_tokens}

token_part : {text rest : List ℕ} {tokens : List Token} {faults : List Diagnostic} → Cuts text rest tokens faults → length rest ≤ length text → (k : ℕ) (t : Token) → slice_get tokens k ≡ Some t → IsPart text t.span
token_part Cuts.done h k t e = absurd cc
token_part (Cuts.gap g c) h k t e = let p = gap_goes g in token_part c (omega (arith, p.shorter, h)) k t e
token_part {text} (Cuts.token {rest = rest} {after = after} kind r c) h zero t e =
    let p = token_goes r in
    let first : Token = record { span = part text rest after; kind = kind } in
    let same : first ≡ t = cc in
    subst (λ (x : Token). IsPart text x.span) same (record { ordered = omega (arith, p.shorter, h); within = omega (arith, p.shorter, h) })
token_part (Cuts.token kind r c) h (suc k) t e = let p = token_goes r in token_part c (omega (arith, p.shorter, h)) k t e
token_part (Cuts.fault code n f c) h k t e = let p = fault_goes f in token_part c (omega (arith, p.shorter, h)) k t e

pub mark_within : (text : List ℕ) → length (without_mark text) ≤ length text
mark_within text =
    cond_both (starts_with nat_eq text (0xEF ∷ 0xBB ∷ 0xBF ∷ [])) (drop 3 text) text (λ (x : List ℕ). length x ≤ length text) (λ e. rw length-drop (omega arith)) (λ e. omega arith)

pub bad_part : (text : List ℕ) (tokens : List Token) (index : ℕ) → Lex text tokens [] → IsPart text (bad_span tokens index)
bad_part text tokens index c = by_token (slice_get tokens index) refl
  where
    by_end : (o : Option Token) → slice_get tokens (length tokens - 1) ≡ o → elim o [ None ↦ 0 | Some t ↦ t.span.end ] ≤ length text
    by_end None e = omega arith
    by_end (Some t) e = let p = token_part c (mark_within text) (length tokens - 1) t e in p.within

    by_token : (o : Option Token) → slice_get tokens index ≡ o → IsPart text (elim o [ None ↦ record { start = end_of_tokens tokens; end = end_of_tokens tokens } | Some t ↦ t.span ])
    by_token None e = record { ordered = omega arith; within = by_end (slice_get tokens (length tokens - 1)) refl }
    by_token (Some t) e = token_part c (mark_within text) index t e
