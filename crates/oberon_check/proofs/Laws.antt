-- No diagnostic of a list speaks of a name, and a list is in order.
use Rattle.std.proofs.Common.{◌≡◌, ◌+◌, ◌≤◌, ◌<◌, inl, inr, ℕ, List, [], ◌∷◌, length, refl, sym, subst, arith}
use Rattle.std.specs.List.{All}
use Rattle.std.proofs.lemmas.List.Elements.{All-nil, All-cons}
use Rattle.std.proofs.lemmas.List.Kept.{AllPairs-cons}
use Rattle.ob_text.specs.declared.diagnostic.Diagnostic.{Diagnostic}
use Rattle.ob_text.specs.declared.code.Code.TheVariants as codes_of
use Rattle.ob_text.specs.declared.held.Held.{Held}
use Rattle.ob_text.specs.declared.held.Held.TheVariants.{Text, Absent, TooLarge, NotText}
use Rattle.oberon_scan.specs.Lexis.{Lex, Cuts, fault_of, offset_of, without_mark}
use Rattle.oberon_scan.specs.declared.token.Token.{Token}
use Rattle.oberon_scan.proofs.Going.{gap_goes, token_goes, fault_goes}
use Rattle.document_rules.specs.Diagnosed.{Diagnosed, FaultsDiagnosed, IsNameless, IsAscending, no_document, bad_token, bad_span}
use Rattle.oberon_check.proofs.Parts.{mark_within}

-- what is shown, and stands from an offset on
pub record AreShown (low : ℕ) (list : List Diagnostic) : Type 0 where
  pub nameless : All IsNameless list
  pub behind : All (λ d. low ≤ d.span.start) list
  pub in_order : IsAscending list

none_shown : (low : ℕ) → AreShown low []
none_shown low =
    record { nameless = All-nil IsNameless; behind = All-nil (λ (d : Diagnostic). low ≤ d.span.start); in_order = λ i j d less within. absurd (omega arith) }

lower : (low high : ℕ) (list : List Diagnostic) → low ≤ high → AreShown high list → AreShown low list
lower low high list h s =
    record { nameless = s.nameless; behind = λ k d w. let b = s.behind k d w in omega (arith, b, h); in_order = s.in_order }

one_more : (low : ℕ) (first : Diagnostic) (list : List Diagnostic) → IsNameless first → low ≤ first.span.start → (high : ℕ) → first.span.start < high → AreShown high list → AreShown low (first ∷ list)
one_more low first list n h high l s =
    let after : All (λ (d : Diagnostic). first.span.start < d.span.start) list = λ k d w. let b = s.behind k d w in omega (arith, b, l) in
    let behind : All (λ (d : Diagnostic). low ≤ d.span.start) list = λ k d w. let b = s.behind k d w in omega (arith, b, l, h) in
    record {
      nameless = All-cons IsNameless first list n s.nameless;
      behind = All-cons (λ (d : Diagnostic). low ≤ d.span.start) first list h behind;
      in_order = AllPairs-cons (λ (x y : Diagnostic). x.span.start < y.span.start) first list after s.in_order;
    }

faults_shown : {text rest : List ℕ} {tokens : List Token} {faults : List Diagnostic} → Cuts text rest tokens faults → length rest ≤ length text → AreShown (offset_of text rest) faults
faults_shown {text} Cuts.done h = none_shown (offset_of text [])
faults_shown {text} (Cuts.gap {rest = rest} {after = after} {ds = ds} g c) h =
    let p = gap_goes g in
    lower (offset_of text rest) (offset_of text after) ds (omega (arith, p.shorter, h)) (faults_shown c (omega (arith, p.shorter, h)))
faults_shown {text} (Cuts.token {rest = rest} {after = after} {ds = ds} kind r c) h =
    let p = token_goes r in
    lower (offset_of text rest) (offset_of text after) ds (omega (arith, p.shorter, h)) (faults_shown c (omega (arith, p.shorter, h)))
faults_shown {text} (Cuts.fault {rest = rest} {after = after} {ds = ds} code n f c) h =
    let p = fault_goes f in
    one_more (offset_of text rest) (fault_of text (offset_of text rest) code n) ds refl (omega arith) (offset_of text after) (omega (arith, p.shorter, h)) (faults_shown c (omega (arith, p.shorter, h)))

one_shown : (list : List Diagnostic) (first : Diagnostic) → list ≡ first ∷ [] → IsNameless first → AreShown 0 list
one_shown list first e n =
    subst (AreShown 0) (sym e) (one_more 0 first [] n (omega arith) (1 + first.span.start) (omega arith) (none_shown (1 + first.span.start)))

text_shown : (text : List ℕ) (tokens : List Token) (faults list : List Diagnostic) → Lex text tokens faults → FaultsDiagnosed text tokens faults list → AreShown 0 list
text_shown text tokens [] list c (inl clean) = subst (AreShown 0) (sym clean.1) (none_shown 0)
text_shown text tokens [] list c (inr bad) = one_shown list (bad_token text (bad_span tokens bad.index)) bad.only refl
text_shown text tokens (fault ∷ faults) list c e =
    subst (AreShown 0) (sym e) (lower 0 (offset_of text (without_mark text)) (fault ∷ faults) (omega arith) (faults_shown c (mark_within text)))

pub shown : (held : Held) (list : List Diagnostic) → Diagnosed held list → AreShown 0 list
shown (Text text) list d = text_shown text d.tokens d.faults list d.lexis d.found
shown Absent list d = one_shown list (no_document codes_of.DocumentAbsent) d refl
shown TooLarge list d = one_shown list (no_document codes_of.DocumentTooLarge) d refl
shown NotText list d = one_shown list (no_document codes_of.DocumentNotText) d refl

pub all_nameless : (held : Held) (list : List Diagnostic) → Diagnosed held list → All IsNameless list
all_nameless held list d = (shown held list d).nameless

pub all_in_order : (held : Held) (list : List Diagnostic) → Diagnosed held list → IsAscending list
all_in_order held list d = (shown held list d).in_order
