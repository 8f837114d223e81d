-- Rows, turned: who imports a place, by what each place imports.
use Rattle.std.proofs.Common.{◌≡◌, ◌⊎◌, inl, inr, ℕ, zero, suc, ◌+◌, ◌<◌, ◌≤◌, List, [], ◌∷◌, ◌++◌, cond, eqb, length, get_or, set, take, replicate, Contains, refl, ap, sym, subst, ◌∙◌, arith}
use Rattle.std.proofs.lemmas.Bool.{cases_eq, cases_order, eq-eqb, ne_eqb}
use Rattle.std.proofs.lemmas.List.{length-set, get_or-set_same, get_or-set_other, take_more, take_all, length-take-le, get_or_append_left, get_or_past, get_or_at, length-replicate, get_or_default}
use Rattle.std.proofs.lemmas.List.Elements.{Contains-get_or}
use Rattle.build_plan.specs.Rows.{row_at, Imports, AreWithin}
use Rattle.build_plan.specs.Lists.{count_of}
use Rattle.build_plan.specs.Links.{AreTurned, IsAdded}
use Rattle.build_plan.proofs.Counting.{same_count, same_one, same_none, count_push, counted, found}
use Rattle.build_plan.proofs.GetsThrough.{importer_within}

-- so many places were put to the rows of all that they import
pub record AreTurnedTo (rows : List (List ℕ)) (n : ℕ) (turned : List (List ℕ)) : Type 0 where
  pub size : length turned ≡ length rows
  pub count : (a b : ℕ) → count_of a (row_at turned b) ≡ count_of b (row_at (take n rows) a)

-- a number of an `if` on equal places, and on others
pub at_equal : (a b n : ℕ) → a ≡ b → cond (eqb a b) n 0 ≡ n
at_equal a b n e = ap (λ t. cond t n 0) (eq-eqb a b e)

pub at_other : (a b n : ℕ) → (a ≡ b → ⊥) → cond (eqb a b) n 0 ≡ 0
at_other a b n e = ap (λ t. cond t n 0) (ne_eqb a b e)

pub added_none : (old : List (List ℕ)) (importer : ℕ) → IsAdded old old importer []
added_none old importer = record { size = refl; count = λ a b. by a b (cases_eq a importer) }
  where
    by : (a b : ℕ) → (a ≡ importer) ⊎ (a ≡ importer → ⊥) → count_of a (row_at old b) ≡ count_of a (row_at old b) + cond (eqb a importer) 0 0
    by a b (inl e) = let k = at_equal a importer 0 e in omega arith
    by a b (inr n) = let k = at_other a importer 0 n in omega arith

pub added_more : (old new : List (List ℕ)) (importer : ℕ) (imports : List ℕ) (x : ℕ) → IsAdded old new importer imports → x < length new
    → IsAdded old (set new x (row_at new x ++ importer ∷ [])) importer (imports ++ x ∷ [])
added_more old new importer imports x is h = record {
  size = length-set new x (row_at new x ++ importer ∷ []) ∙ is.size;
  count = λ a b. by a b (cases_eq b x) (cases_eq a importer);
}
  where
    now : List (List ℕ)
    now = set new x (row_at new x ++ importer ∷ [])

    here : (a b : ℕ) → b ≡ x → count_of a (row_at now b) ≡ count_of a (row_at new b) + same_count importer a
    here a b e =
        ap (λ y. count_of a (row_at now y)) e
        ∙ (ap (count_of a) (get_or-set_same new x (row_at new x ++ importer ∷ []) [] h)
        ∙ (count_push a (row_at new x) importer ∙ ap (λ y. count_of a (row_at new y) + same_count importer a) (sym e)))

    there : (a b : ℕ) → (b ≡ x → ⊥) → count_of a (row_at now b) ≡ count_of a (row_at new b)
    there a b n = ap (count_of a) (get_or-set_other new x b (row_at new x ++ importer ∷ []) [] n)

    by : (a b : ℕ) → (b ≡ x) ⊎ (b ≡ x → ⊥) → (a ≡ importer) ⊎ (a ≡ importer → ⊥)
        → count_of a (row_at now b) ≡ count_of a (row_at old b) + cond (eqb a importer) (count_of b (imports ++ x ∷ [])) 0
    by a b (inl e) (inl f) =
        let s = here a b e in
        let one = same_one importer a (sym f) in
        let was = is.count a b in
        let was_more = at_equal a importer (count_of b imports) f in
        let more = at_equal a importer (count_of b (imports ++ x ∷ [])) f in
        let pushed = count_push b imports x in
        let more_one = same_one x b (sym e) in
        omega arith
    by a b (inl e) (inr n) =
        let s = here a b e in
        let none = same_none importer a (λ f. n (sym f)) in
        let was = is.count a b in
        let was_more = at_other a importer (count_of b imports) n in
        let more = at_other a importer (count_of b (imports ++ x ∷ [])) n in
        omega arith
    by a b (inr m) (inl f) =
        let s = there a b m in
        let was = is.count a b in
        let was_more = at_equal a importer (count_of b imports) f in
        let more = at_equal a importer (count_of b (imports ++ x ∷ [])) f in
        let pushed = count_push b imports x in
        let more_none = same_none x b (λ e. m (sym e)) in
        omega arith
    by a b (inr m) (inr n) =
        let s = there a b m in
        let was = is.count a b in
        let was_more = at_other a importer (count_of b imports) n in
        let more = at_other a importer (count_of b (imports ++ x ∷ [])) n in
        omega arith

-- ---- place after place

empty_row : (n b : ℕ) → row_at (replicate n []) b ≡ []
empty_row zero b = refl
empty_row (suc n) zero = refl
empty_row (suc n) (suc b) = empty_row n b

pub turned_none : (rows : List (List ℕ)) → AreTurnedTo rows 0 (replicate (length rows) [])
turned_none rows = record {
  size = length-replicate (length rows) [];
  count = λ a b. ap (count_of a) (empty_row (length rows) b);
}

row_more : (rows : List (List ℕ)) (i a b : ℕ) → i < length rows → (a ≡ i) ⊎ ((a < i) ⊎ (i < a))
    → count_of b (row_at (take (i + 1) rows) a) ≡ count_of b (row_at (take i rows) a) + cond (eqb a i) (count_of b (row_at rows i)) 0
row_more rows i a b h (inr (inl k)) =
    let size : length (take i rows) ≡ i = length-take-le i rows (omega arith) in
    let same = ap (λ xs. count_of b (row_at xs a)) (take_more rows i [] h) ∙ ap (count_of b) (get_or_append_left (take i rows) (row_at rows i ∷ []) [] a (omega arith)) in
    let none = at_other a i (count_of b (row_at rows i)) (λ e. omega arith) in
    omega arith
row_more rows i a b h (inl e) =
    let size : length (take i rows) ≡ i = length-take-le i rows (omega arith) in
    let here = ap (λ xs. count_of b (row_at xs a)) (take_more rows i [] h) ∙ ap (count_of b) (get_or_at (take i rows) (row_at rows i) [] [] a (size ∙ sym e)) in
    let before : count_of b (row_at (take i rows) a) ≡ 0 = ap (count_of b) (get_or_past (take i rows) a [] (omega arith)) in
    let one = at_equal a i (count_of b (row_at rows i)) e in
    omega arith
row_more rows i a b h (inr (inr k)) =
    let size : length (take i rows) ≡ i = length-take-le i rows (omega arith) in
    let more : length (take (i + 1) rows) ≡ i + 1 = length-take-le (i + 1) rows (omega arith) in
    let here : count_of b (row_at (take (i + 1) rows) a) ≡ 0 = ap (count_of b) (get_or_past (take (i + 1) rows) a [] (omega arith)) in
    let before : count_of b (row_at (take i rows) a) ≡ 0 = ap (count_of b) (get_or_past (take i rows) a [] (omega arith)) in
    let none = at_other a i (count_of b (row_at rows i)) (λ e. omega arith) in
    omega arith

pub turned_more : (rows : List (List ℕ)) (i : ℕ) (old new : List (List ℕ)) → i < length rows → AreTurnedTo rows i old → IsAdded old new i (row_at rows i) → AreTurnedTo rows (i + 1) new
turned_more rows i old new h t is = record {
  size = is.size ∙ t.size;
  count = λ a b. is.count a b ∙ (ap (λ n. n + cond (eqb a i) (count_of b (row_at rows i)) 0) (t.count a b) ∙ sym (row_more rows i a b h (cases_order a i)));
}

pub turned_all : (rows : List (List ℕ)) (n : ℕ) (turned : List (List ℕ)) → length rows ≤ n → AreTurnedTo rows n turned → AreTurned rows turned
turned_all rows n turned h t = record {
  size = t.size;
  count = λ a b. t.count a b ∙ ap (λ xs. count_of b (row_at xs a)) (take_all n rows h);
}

-- ---- what is known of turned rows

pub turn : (rows turned : List (List ℕ)) → AreTurned rows turned → (a b : ℕ) → Imports rows a b → Imports turned b a
turn rows turned t a b i = let k = counted (row_at rows a) b i in let e = t.count a b in found (row_at turned b) a (omega arith)

pub turn_back : (rows turned : List (List ℕ)) → AreTurned rows turned → (a b : ℕ) → Imports turned b a → Imports rows a b
turn_back rows turned t a b i = let k = counted (row_at turned b) a i in let e = t.count a b in found (row_at rows a) b (omega arith)

pub turned_within : (rows turned : List (List ℕ)) → AreTurned rows turned → AreWithin turned
turned_within rows turned t b d h k e l =
    let x : ℕ = get_or (get_or turned b d) k e in
    let same : get_or turned b d ≡ row_at turned b = default b d h in
    let there : Contains (row_at turned b) x = subst (λ (row : List ℕ). Contains row x) same (Contains-get_or (get_or turned b d) k e l) in
    subst (λ n. x < n) (sym t.size) (importer_within rows x b (turn_back rows turned t x b there))
  where
    default : (b : ℕ) (d : List ℕ) → b < length turned → get_or turned b d ≡ row_at turned b
    default b d h = get_or_default turned b d [] h
