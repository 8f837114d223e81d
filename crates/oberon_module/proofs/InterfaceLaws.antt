-- The row of an interface that weighs too much is found last, and said first.
use Rattle.std.specs.Prelude.{◌≡◌, ◌++◌, ◌||◌, ℕ, Bool, true, false, List, [], ◌∷◌, refl}
use Rattle.std.proofs.Common.{ap, sym, subst, ◌∙◌}
use Rattle.std.proofs.Math.Bool.{or_comm, or_assoc}
use Rattle.std.proofs.lemmas.List.Sorted.{IsPermutation-append_comm, Contains-permutation}
use Rattle.ob_text.specs.Code.{severity_of}
use Rattle.ob_text.specs.Position.{range_at}
use Rattle.ob_text.specs.declared.code.Code.{Code}
use Rattle.ob_text.specs.declared.diagnostic.Diagnostic.{Diagnostic}
use Rattle.ob_text.specs.declared.span.Span.{Span}
use Rattle.oberon_rules.specs.Judged.{found, is_error, has_error}
use Rattle.oberon_rules.specs.Order.{IsListed}
use Rattle.oberon_rules.specs.Scopes.{Said, broken, resolved, row}

row_first : (b : Bool) (place : Span) (code : Code) (rest : List Said) → row b place code rest ≡ row b place code [] ++ rest
row_first true place code rest = refl
row_first false place code rest = refl

found_append : (text : List ℕ) (xs ys : List Said) → found text (xs ++ ys) ≡ found text xs ++ found text ys
found_append text [] ys = refl
found_append text (broken place code name ∷ xs) ys = ap (λ (ds : List Diagnostic). record { span = place; range = range_at text place; code = code; name = name } ∷ ds) (found_append text xs ys)
found_append text (resolved x ∷ xs) ys = found_append text xs ys

errors_append : (xs ys : List Said) → has_error (xs ++ ys) ≡ (has_error xs || has_error ys)
errors_append [] ys = refl
errors_append (broken place code name ∷ xs) ys = ap (λ b. is_error (severity_of code) || b) (errors_append xs ys) ∙ sym (or_assoc (is_error (severity_of code)) (has_error xs) (has_error ys))
errors_append (resolved x ∷ xs) ys = errors_append xs ys

-- a list doesn't tell in which order it was said
listed_turned : (xs ys list : List Diagnostic) → IsListed (xs ++ ys) list → IsListed (ys ++ xs) list
listed_turned xs ys list l = record {
  sorted = l.sorted;
  same = λ d. (
    λ c. (l.same d).0 (Contains-permutation (ys ++ xs) (xs ++ ys) d (IsPermutation-append_comm ys xs) c),
    λ c. Contains-permutation (xs ++ ys) (ys ++ xs) d (IsPermutation-append_comm xs ys) ((l.same d).1 c),
  );
}

pub listed_first : (text : List ℕ) (said xs : List Said) (b : Bool) (place : Span) (code : Code) (list : List Diagnostic) → said ≡ xs ++ row b place code [] → IsListed (found text said) list → IsListed (found text (row b place code xs)) list
listed_first text said xs b place code list is l =
    let one = row b place code [] in
    let behind = subst (λ (ds : List Diagnostic). IsListed ds list) (ap (found text) is ∙ found_append text xs one) l in
    subst (λ (ds : List Diagnostic). IsListed ds list) (sym (ap (found text) (row_first b place code xs) ∙ found_append text one xs)) (listed_turned (found text xs) (found text one) list behind)

pub errors_first : (said xs : List Said) (b : Bool) (place : Span) (code : Code) → said ≡ xs ++ row b place code [] → has_error said ≡ has_error (row b place code xs)
errors_first said xs b place code is =
    let one = row b place code [] in
    ap has_error is ∙ errors_append xs one ∙ or_comm (has_error xs) (has_error one) ∙ sym (ap has_error (row_first b place code xs) ∙ errors_append one xs)
