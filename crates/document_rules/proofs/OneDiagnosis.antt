-- A document has one list of diagnostics.
use Rattle.std.proofs.Common.{◌≡◌, ◌≤◌, ◌<◌, ◌⊎◌, inl, inr, ℕ, suc, List, [], ◌∷◌, length, take, drop, sym, ◌∙◌, ap, subst, arith, ⊎_elim}
use Rattle.std.proofs.lemmas.Bool.{cases_lt}
use Rattle.std.proofs.lemmas.List.{take-append-drop}
use Rattle.ob_text.specs.declared.diagnostic.Diagnostic.{Diagnostic}
use Rattle.ob_text.specs.declared.held.Held.{Held}
use Rattle.ob_text.specs.declared.held.Held.TheVariants.{Text, Absent, TooLarge, NotText}
use Rattle.oberon_scan.specs.declared.token.Token.{Token}
use Rattle.oberon_scan.proofs.OneCut.{one_cut}
use Rattle.document_rules.specs.Sentence.{IsSentence, IsFront, IsFirstBad, most_levels}
use Rattle.document_rules.specs.Diagnosed.{Diagnosed, TextDiagnosed, FaultsDiagnosed, TokensDiagnosed, bad_token, bad_span}

-- of two first bad tokens neither stands before the other
no_later : (limit : ℕ) (ts : List Token) (j k : ℕ) → IsFirstBad limit ts j → IsFirstBad limit ts k → k ≤ j
no_later limit ts j k first other = ⊎_elim (λ less. absurd (before less first.bad other.bad)) (λ h. h) (cases_lt j k)
  where
    within : ((k < length ts) × ¬ IsFront limit (take (suc k) ts)) ⊎ ((k ≡ length ts) × ¬ IsSentence limit ts) → k ≤ length ts
    within (inl b) = let h = b.0 in omega (arith, h)
    within (inr b) = let h = b.0 in omega (arith, h)

    before : j < k → ((j < length ts) × ¬ IsFront limit (take (suc j) ts)) ⊎ ((j ≡ length ts) × ¬ IsSentence limit ts) → ((k < length ts) × ¬ IsFront limit (take (suc k) ts)) ⊎ ((k ≡ length ts) × ¬ IsSentence limit ts) → ⊥
    before less (inl b) c = b.1 (other.before (suc j) (omega (arith, less)))
    before less (inr b) c = let h = b.0 in let w = within c in omega (arith, h, w, less)

one_index : (limit : ℕ) (ts : List Token) (j k : ℕ) → IsFirstBad limit ts j → IsFirstBad limit ts k → j ≡ k
one_index limit ts j k first other =
    let low = no_later limit ts j k first other in
    let high = no_later limit ts k j other first in
    omega (arith, low, high)

-- the tokens of a module have none
pub none_bad : (limit : ℕ) (ts : List Token) (k : ℕ) → IsSentence limit ts → IsFirstBad limit ts k → ⊥
none_bad limit ts k s f = by_bad f.bad
  where
    by_bad : ((k < length ts) × ¬ IsFront limit (take (suc k) ts)) ⊎ ((k ≡ length ts) × ¬ IsSentence limit ts) → ⊥
    by_bad (inl b) = b.1 (drop (suc k) ts, subst (IsSentence limit) (sym (take-append-drop (suc k) ts)) s)
    by_bad (inr b) = b.1 s

tokens_only : (text : List ℕ) (tokens : List Token) (xs ys : List Diagnostic) → TokensDiagnosed text tokens xs → TokensDiagnosed text tokens ys → xs ≡ ys
tokens_only text tokens xs ys (inl a) (inl b) = a.1 ∙ sym b.1
tokens_only text tokens xs ys (inl a) (inr b) = absurd (none_bad most_levels tokens b.index a.0 b.first)
tokens_only text tokens xs ys (inr a) (inl b) = absurd (none_bad most_levels tokens a.index b.0 a.first)
tokens_only text tokens xs ys (inr a) (inr b) =
    a.only ∙ ap (λ k. bad_token text (bad_span tokens k) ∷ []) (one_index most_levels tokens a.index b.index a.first b.first) ∙ sym b.only

faults_only : (text : List ℕ) (tokens : List Token) (faults xs ys : List Diagnostic) → FaultsDiagnosed text tokens faults xs → FaultsDiagnosed text tokens faults ys → xs ≡ ys
faults_only text tokens [] xs ys a b = tokens_only text tokens xs ys a b
faults_only text tokens (fault ∷ faults) xs ys a b = a ∙ sym b

text_only : (text : List ℕ) (xs ys : List Diagnostic) → TextDiagnosed text xs → TextDiagnosed text ys → xs ≡ ys
text_only text xs ys a b =
    let same = one_cut b.lexis a.lexis in
    let with_faults = subst (λ (faults : List Diagnostic). FaultsDiagnosed text b.tokens faults ys) same.1 b.found in
    faults_only text a.tokens a.faults xs ys a.found (subst (λ (tokens : List Token). FaultsDiagnosed text tokens a.faults ys) same.0 with_faults)

pub one_list : (held : Held) (xs ys : List Diagnostic) → Diagnosed held xs → Diagnosed held ys → xs ≡ ys
one_list (Text text) xs ys a b = text_only text xs ys a b
one_list Absent xs ys a b = a ∙ sym b
one_list TooLarge xs ys a b = a ∙ sym b
one_list NotText xs ys a b = a ∙ sym b
