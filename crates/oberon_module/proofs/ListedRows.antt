-- The list of what is said: its rows sorted, each once, and shown.
use Rattle.std.proofs.Common.{◌≡◌, ℕ, Bool, true, List, [], ◌∷◌, map, sym, ◌∙◌, ap, subst}
use Rattle.std.specs.Cmp.{IsEquivalence}
use Rattle.std.specs.List.{All, dedup}
use Rattle.std.specs.List.Sorted.{IsPermutation, IsSorted}
use Rattle.std.specs.Ordering.{eq_by_cmp}
use Rattle.std.proofs.lemmas.List.Elements.{All-nil, All-cons, All-head, All-tail}
use Rattle.std.proofs.lemmas.List.Filters.{All-dedup}
use Rattle.std.proofs.lemmas.List.Kept.{Any-dedup, IsStrictlySortedBy-dedup}
use Rattle.std.proofs.lemmas.List.Sorted.{All-permutation}
use Rattle.ob_text.specs.declared.diagnostic.Diagnostic.{Diagnostic}
use Rattle.oberon_rules.specs.Judged.{found}
use Rattle.oberon_rules.specs.Order.{number_of, IsListed}
use Rattle.oberon_rules.specs.Scopes.{Said, broken, resolved}
use Rattle.oberon_module.specs.declared.listing.Row.{Row}
use Rattle.oberon_module.specs.Numbers.{code_numbered}
use Rattle.oberon_module.specs.Rows.{RowTree, plain_row, plain_rows, diagnostic_of}
use Rattle.oberon_module.proofs.NumberLaws.{numbered_again}
use Rattle.oberon_module.proofs.RowLaws.{found_by_rows}
use Rattle.oberon_module.proofs.RowLists.{diagnostics, sorted_pairs, same_rows}
use Rattle.oberon_module.proofs.RowOrder.{row_cmp, row_total, IsNumbered}

abbrev HasNumber : RowTree → Type 0
HasNumber r = number_of (code_numbered r.number) ≡ r.number

said_numbered : (said : List Said) → All HasNumber (plain_rows said)
said_numbered [] = All-nil HasNumber
said_numbered (broken place code name ∷ rest) = All-cons HasNumber _ _ (ap number_of (numbered_again code)) (said_numbered rest)
said_numbered (resolved x ∷ rest) = said_numbered rest

rows_numbered : (rs : List Row) → All HasNumber (map plain_row rs) → All IsNumbered rs
rows_numbered [] h = All-nil IsNumbered
rows_numbered (r ∷ rs) h = All-cons IsNumbered r rs (All-head HasNumber (plain_row r) (map plain_row rs) h) (rows_numbered rs (All-tail HasNumber (plain_row r) (map plain_row rs) h))

pub listing : (text : List ℕ) (said : List Said) (xs ys zs : List Row) (list : List Diagnostic) (E : Row → Row → Bool) → IsEquivalence E → ((x y : Row) → E x y ≡ eq_by_cmp row_cmp x y) → ((x y : Row) → E x y ≡ true → plain_row x ≡ plain_row y) → map plain_row xs ≡ plain_rows said → IsPermutation xs ys → IsSorted row_cmp ys → zs ≡ dedup E ys → list ≡ diagnostics text zs → IsListed (found text said) list
listing text said xs ys zs list E laws ties same rows moved sorted once is =
    let numbered = All-dedup E IsNumbered ys (All-permutation IsNumbered xs ys moved (rows_numbered xs (subst (All HasNumber) (sym rows) (said_numbered said)))) in
    let listed : list ≡ diagnostics text (dedup E ys) = is ∙ ap (diagnostics text) once in
    let given : diagnostics text xs ≡ found text said = ap (map (diagnostic_of text)) rows ∙ found_by_rows text said in
    subst (λ (given : List Diagnostic). IsListed given list) given (subst (IsListed (diagnostics text xs)) (sym listed) (record {
      sorted = sorted_pairs text (dedup E ys) numbered (IsStrictlySortedBy-dedup row_total ties ys sorted);
      same = same_rows text E xs ys (λ x c. Any-dedup laws ys x c) same moved;
    }))
