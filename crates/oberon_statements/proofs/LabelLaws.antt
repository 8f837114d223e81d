-- The labels of a CASE, one after another.
use Rattle.std.specs.Prelude.{◌≡◌, ℕ, ◌+◌, ◌<◌, ◌≤◌, List, [], ◌∷◌, length, drop, refl}
use Rattle.std.proofs.Common.{ap, sym, ◌∙◌, get_or, subst}
use Rattle.std.proofs.lemmas.List.{at_drop_more, at_drop_all}
use Rattle.ob_text.specs.declared.span.Span.{Span}
use Rattle.oberon_tree.specs.declared.statement.Label.{Label}
use Rattle.oberon_tree.specs.declared.statement.NextLabel.{NextLabel}
use Rattle.oberon_tree.specs.FirstSpans.{first_of_label}
use Rattle.oberon_rules.specs.Scopes.{Scopes, Said}
use Rattle.oberon_rules.specs.Statements.{CaseKind, LabelMeant, Interval, interval_of, is_bad_label, label_is, upper_is, low_of, high_of, value_label_says, upper_label_says, label_rows, with_interval, label_says, label_behind, labels_say, labels_behind}
use Rattle.oberon_infer.specs.declared.said.Said.{Said as OwnSaid}
use Rattle.oberon_infer.specs.Adds.{Adds}
use Rattle.oberon_infer.proofs.AddsLaws.{adds_then, adds_as, goes_on, goes_end}
use Rattle.oberon_statements.specs.declared.judged.CaseLabels.{CaseLabels}
use Rattle.oberon_statements.specs.Labels.{Knows, Judges}
use Rattle.oberon_statements.proofs.Left.{next_labels, LeftLabels}

-- ---- one label

judges_as : (c : CaseLabels) (k : CaseKind) (f g h : List Said → List Said) (later last : List Interval) {old mid new : List OwnSaid} → Adds old mid g → Judges mid new c k f later → ((rest : List Said) → g (f rest) ≡ h rest) → later ≡ last → Judges old new c k h last
judges_as c k f g h later last a j same behind = record {
  says = adds_as (adds_then a j.says) same;
  knows = subst (Knows c k) behind j.knows;
}

rows_same : (k : CaseKind) (earlier : List Interval) (low high low' high' : LabelMeant) (place place' : Span) (rest : List Said) → low ≡ low' → high ≡ high' → place ≡ place' → label_rows (is_bad_label k low high) earlier (interval_of low high) place rest ≡ label_rows (is_bad_label k low' high') earlier (interval_of low' high') place' rest
rows_same k earlier low high low' high' place place' rest p q r =
    ap (λ x. label_rows (is_bad_label k x high) earlier (interval_of x high) place rest) p
    ∙ ap (λ x. label_rows (is_bad_label k low' x) earlier (interval_of low' x) place rest) q
    ∙ ap (λ x. label_rows (is_bad_label k low' high') earlier (interval_of low' high') x rest) r

behind_same : (k : CaseKind) (earlier : List Interval) (low high low' high' : LabelMeant) → low ≡ low' → high ≡ high' → with_interval (is_bad_label k low high) (interval_of low high) earlier ≡ with_interval (is_bad_label k low' high') (interval_of low' high') earlier
behind_same k earlier low high low' high' p q =
    ap (λ x. with_interval (is_bad_label k x high) (interval_of x high) earlier) p
    ∙ ap (λ x. with_interval (is_bad_label k low' x) (interval_of low' x) earlier) q

pub label_judged : (c : CaseLabels) (s : Scopes) (k : CaseKind) (earlier : List Interval) (l : Label) (low high : LabelMeant) (place : Span) {old one two new : List OwnSaid} → low ≡ label_is s l.first → high ≡ upper_is s low l.upper → place ≡ first_of_label l → Adds old one (value_label_says s l.first) → Adds one two (upper_label_says s l.upper) → Judges two new c k (label_rows (is_bad_label k low high) earlier (interval_of low high) place) (with_interval (is_bad_label k low high) (interval_of low high) earlier) → Judges old new c k (label_says s k earlier l) (label_behind s k earlier l)
label_judged c s k earlier l low high place p q r a b j =
    let last = q ∙ ap (λ m. upper_is s m l.upper) p in
    judges_as c k (label_rows (is_bad_label k low high) earlier (interval_of low high) place) (λ rest. value_label_says s l.first (upper_label_says s l.upper rest)) (label_says s k earlier l) (with_interval (is_bad_label k low high) (interval_of low high) earlier) (label_behind s k earlier l)
    (adds_then a b) j
    (λ rest. ap (λ (more : List Said). value_label_says s l.first (upper_label_says s l.upper more)) (rows_same k earlier low high (low_of s l) (high_of s l) place (first_of_label l) rest p last r))
    (behind_same k earlier low high (low_of s l) (high_of s l) p last)

-- ---- labels behind one another

pub labels_left : (s : Scopes) (k : CaseKind) (earlier : List Interval) (all : List Label) (old : List OwnSaid) (c : CaseLabels) → Knows c k earlier → LeftLabels s k earlier all all old old c
labels_left s k earlier all old c known = record { now = earlier; knows = known; behind = refl; says = record { goes = λ rest. refl } }

next_step : (xs : List NextLabel) (n : ℕ) (x : NextLabel) → n < length xs → x ≡ get_or xs n x → next_labels (drop n xs) ≡ x.label ∷ next_labels (drop (n + 1) xs)
next_step xs n x h is = at_drop_more next_labels xs n x h ∙ ap (λ (y : NextLabel). y.label ∷ next_labels (drop (n + 1) xs)) (sym is)

pub labels_turn : (s : Scopes) (k : CaseKind) (earlier : List Interval) (all : List Label) (xs : List NextLabel) (n : ℕ) (x : NextLabel) (c d : CaseLabels) {old mid new : List OwnSaid} → n < length xs → x ≡ get_or xs n x → (p : LeftLabels s k earlier all (next_labels (drop n xs)) old mid c) → Judges mid new d k (label_says s k p.now x.label) (label_behind s k p.now x.label) → LeftLabels s k earlier all (next_labels (drop (n + 1) xs)) old new d
labels_turn s k earlier all xs n x c d h is p j = record {
  now = label_behind s k p.now x.label;
  knows = j.knows;
  behind = sym (ap (labels_behind s k p.now) (next_step xs n x h is)) ∙ p.behind;
  says = goes_on p.says j.says (λ rest. ap (λ (ls : List Label). labels_say s k p.now ls rest) (next_step xs n x h is));
}

pub labels_end : (s : Scopes) (k : CaseKind) (earlier : List Interval) (first : Label) (xs : List NextLabel) (n : ℕ) (c d : CaseLabels) {old mid new : List OwnSaid} → length xs ≤ n → Judges old mid c k (label_says s k earlier first) (label_behind s k earlier first) → LeftLabels s k (label_behind s k earlier first) (next_labels xs) (next_labels (drop n xs)) mid new d → Judges old new d k (labels_say s k earlier (first ∷ next_labels xs)) (labels_behind s k earlier (first ∷ next_labels xs))
labels_end s k earlier first xs n c d h j p =
    let none : next_labels (drop n xs) ≡ [] = at_drop_all next_labels xs n h in
    record {
      says = adds_as (adds_then j.says (goes_end p.says (λ rest. ap (λ (ls : List Label). labels_say s k p.now ls rest) none))) (λ rest. refl);
      knows = subst (Knows d k) (sym (ap (labels_behind s k p.now) none) ∙ p.behind) p.knows;
    }
