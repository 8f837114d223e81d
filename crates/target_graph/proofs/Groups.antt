-- The pairs of each stem, one pair after another.
use Rattle.std.proofs.Common.{◌≡◌, ◌⊎◌, inl, inr, ℕ, zero, suc, ◌<◌, ◌≤◌, List, [], ◌∷◌, ◌++◌, length, get_or, set, replicate, All, Contains, ap, sym, subst, ◌∙◌, refl, arith}
use Rattle.std.proofs.lemmas.Bool.{cases_eq}
use Rattle.std.proofs.lemmas.List.{get_or-set_same, get_or-set_other, get_or_append_left, get_or_push, length-set, length_push, length-replicate}
use Rattle.std.proofs.lemmas.List.Elements.{Contains-push, Contains-append_left, Contains-push_cases}
use Rattle.target_graph.specs.declared.target.Target.{Target}
use Rattle.target_graph.specs.Faults.{IsRepeat}
use Rattle.target_graph.specs.Stems.{AreGroups, HasNumbers}
use Rattle.target_graph.specs.Workspace.{pairs_of, stems_of}
use Rattle.std.proofs.lemmas.Option.{slice_get_within}
use Rattle.target_graph.proofs.SeenStems.{stems_size, same_number}

empty_at : (width n : ℕ) → get_or {A = List ℕ} (replicate width []) n [] ≡ []
empty_at zero n = refl
empty_at (suc width) zero = refl
empty_at (suc width) (suc n) = empty_at width n

none_in : (q : ℕ) → ¬ (Contains {X = ℕ} [] q)
none_in q c = let k : c.0 < 0 = c.1 in absurd (omega arith)

pub groups_none : (width : ℕ) → AreGroups [] width (replicate width [])
groups_none width = record {
  size = length-replicate width [];
  each = λ n q c. absurd (none_in q (subst (λ (group : List ℕ). Contains group q) (empty_at width n) c));
  whole = λ q h. absurd (omega arith);
}

pub groups_more : (numbers : List ℕ) (width : ℕ) (groups : List (List ℕ)) (n : ℕ) → AreGroups numbers width groups → n < width
    → AreGroups (numbers ++ n ∷ []) width (set groups n (get_or groups n [] ++ length numbers ∷ []))
groups_more numbers width groups n g h = record {
  size = length-set groups n (get_or groups n [] ++ length numbers ∷ []) ∙ g.size;
  each = λ m q c. each m q c (cases_eq m n);
  whole = λ q k. whole q k (cases_eq q (length numbers));
}
  where
    more : List (List ℕ)
    more = set groups n (get_or groups n [] ++ length numbers ∷ [])

    here : get_or more n [] ≡ get_or groups n [] ++ length numbers ∷ []
    here = get_or-set_same groups n (get_or groups n [] ++ length numbers ∷ []) [] (subst (λ k. n < k) (sym g.size) h)

    there : (m : ℕ) → (m ≡ n → ⊥) → get_or more m [] ≡ get_or groups m []
    there m other = get_or-set_other groups n m (get_or groups n [] ++ length numbers ∷ []) [] other

    last : get_or (numbers ++ n ∷ []) (length numbers) 0 ≡ n
    last = get_or_push numbers n 0 (length numbers) refl

    before : (q : ℕ) → q < length numbers → get_or (numbers ++ n ∷ []) q 0 ≡ get_or numbers q 0
    before q k = get_or_append_left numbers (n ∷ []) 0 q k

    old : (m q : ℕ) → Contains (get_or groups m []) q → (q < length (numbers ++ n ∷ [])) × (get_or (numbers ++ n ∷ []) q 0 ≡ m)
    old m q c =
        let e = g.each m q c in
        (omega (arith, e.0, length_push numbers n), before q e.0 ∙ e.1)

    each : (m q : ℕ) → Contains (get_or more m []) q → (m ≡ n) ⊎ (m ≡ n → ⊥) → (q < length (numbers ++ n ∷ [])) × (get_or (numbers ++ n ∷ []) q 0 ≡ m)
    each m q c (inr other) = old m q (subst (λ (group : List ℕ). Contains group q) (there m other) c)
    each m q c (inl same) =
        by (Contains-push_cases (get_or groups n []) (length numbers) q (subst (λ (group : List ℕ). Contains group q) (ap (λ k. get_or more k []) same ∙ here) c))
      where
        by : Contains (get_or groups n []) q ⊎ (length numbers ≡ q) → (q < length (numbers ++ n ∷ [])) × (get_or (numbers ++ n ∷ []) q 0 ≡ m)
        by (inl c) = (let o = old n q c in (o.0, o.1 ∙ sym same))
        by (inr e) = (omega (arith, length_push numbers n), ap (λ k. get_or (numbers ++ n ∷ []) k 0) (sym e) ∙ (last ∙ sym same))

    in' : (m q : ℕ) → Contains (get_or groups m []) q → (m ≡ n) ⊎ (m ≡ n → ⊥) → Contains (get_or more m []) q
    in' m q c (inr other) = subst (λ (group : List ℕ). Contains group q) (sym (there m other)) c
    in' m q c (inl same) =
        subst (λ (group : List ℕ). Contains group q) (sym (ap (λ k. get_or more k []) same ∙ here))
        (Contains-append_left (get_or groups n []) (length numbers ∷ []) q (subst (λ k. Contains (get_or groups k []) q) same c))

    whole : (q : ℕ) → q < length (numbers ++ n ∷ []) → (q ≡ length numbers) ⊎ (q ≡ length numbers → ⊥) → Contains (get_or more (get_or (numbers ++ n ∷ []) q 0) []) q
    whole q k (inl same) =
        subst (λ x. Contains (get_or more (get_or (numbers ++ n ∷ []) x 0) []) x) (sym same)
        (subst (λ m. Contains (get_or more m []) (length numbers)) (sym last)
        (subst (λ (group : List ℕ). Contains group (length numbers)) (sym here) (Contains-push (get_or groups n []) (length numbers))))
    whole q k (inr other) =
        let l : q < length numbers = omega (arith, length_push numbers n) in
        subst (λ m. Contains (get_or more m []) q) (sym (before q l)) (in' (get_or numbers q 0) q (g.whole q l) (cases_eq (get_or numbers q 0) n))

-- ---- stems that differ are never seen twice

one_in : (group : List ℕ) (p q : ℕ) → length group ≤ 1 → Contains group p → Contains group q → p ≡ q
one_in [] p q h c d = absurd (none_in p c)
one_in (x ∷ group) p q h (zero, k, e) (zero, l, f) = sym e ∙ f
one_in (x ∷ group) p q h (zero, k, e) (suc j, l, f) = absurd (omega arith)
one_in (x ∷ group) p q h (suc i, k, e) d = absurd (omega arith)

pub no_repeat : (targets : List Target) (numbers : List ℕ) (width : ℕ) (groups : List (List ℕ)) → HasNumbers (stems_of (pairs_of targets)) numbers width → AreGroups numbers width groups
    → All (λ (group : List ℕ). length group ≤ 1) groups → (t q : ℕ) → ¬ (IsRepeat targets t q)
no_repeat targets numbers width groups has g single t q r =
    let p_in = slice_get_within (pairs_of targets) r.earlier r.sees_earlier.pair r.sees_earlier.there in
    let q_in = slice_get_within (pairs_of targets) q r.sees.pair r.sees.there in
    let size : length numbers ≡ length (pairs_of targets) = has.numbered.size ∙ stems_size targets numbers width has in
    let n = get_or numbers q 0 in
    let same : get_or numbers r.earlier 0 ≡ n = same_number targets numbers width has r.earlier q p_in q_in r.same in
    let earlier = subst (λ k. Contains (get_or groups k []) r.earlier) same (g.whole r.earlier (subst (λ k. r.earlier < k) (sym size) p_in)) in
    let later = g.whole q (subst (λ k. q < k) (sym size) q_in) in
    let h : n < length groups = subst (λ k. n < k) (sym g.size) (subst (λ k. n < k) has.size (has.numbered.within q (omega (arith, q_in, stems_size targets numbers width has)))) in
    let one = one_in (get_or groups n []) r.earlier q (single n [] h) earlier later in
    let before = r.before in
    absurd (omega arith)
