-- The row of a module, made of its names one after the other, and the rows of all modules.
use Rattle.std.proofs.Common.{◌≡◌, ◌+◌, ◌++◌, ◌<◌, ◌≤◌, ◌∷◌, [], ◌⊎◌, inl, inr, ℕ, List, length, get_or, sym, ap, subst, ◌∙◌, arith}
use Rattle.std.specs.Prelude.{Contains, ◌↔◌}
use Rattle.std.proofs.lemmas.Bool.{cases_eq, cases_lt}
use Rattle.std.proofs.lemmas.List.{get_or_append_left, get_or_default, get_or_past}
use Rattle.std.proofs.Math.Seq.{get_or-append_seam}
use Rattle.std.proofs.lemmas.List.Elements.{Contains-get_or, Contains-push, Contains-push_cases, Contains-append_left}
use Rattle.std.proofs.lemmas.Option.{slice_get_within}
use Rattle.build_plan.specs.Rows.{AreWithin, row_at}
use Rattle.build_rules.specs.World.{World, Imports}
use Rattle.target_graph.specs.Workspace.{pairs_of, IsVisible}
use Rattle.target_graph.specs.declared.target.Target.{Target}
use Rattle.build_sources.specs.Rows.{AreRows, IsNamed, IsRow}

nothing : {X : Type 0} (x : X) → Contains [] x → ⊥
nothing x c = let h = c.1 in omega (arith, h)

module _ (targets : List Target) (target : ℕ) where
  pub row_none : IsRow targets target [] []
  row_none = record { each = λ q c. absurd (nothing q c); whole = λ q named. absurd (nothing named.name named.listed) }

  module _ (names : List (List ℕ)) (row : List ℕ) (is : IsRow targets target names row) (name : List ℕ) where
    more : (q : ℕ) → Contains row q → IsNamed targets target (names ++ name ∷ []) q
    more q c = let named = is.each q c in record { name = named.name; listed = Contains-append_left names (name ∷ []) named.name named.listed; visible = named.visible }

    -- the name means a module
    pub row_more : (found : ℕ) → IsVisible targets target name found → ((q : ℕ) → IsVisible targets target name q → q ≡ found) → IsRow targets target (names ++ name ∷ []) (row ++ found ∷ [])
    row_more found visible one = record { each = λ q c. each_by q (Contains-push_cases row found q c); whole = λ q named. whole_by q named (Contains-push_cases names name named.name named.listed) }
      where
        each_by : (q : ℕ) → Contains row q ⊎ (found ≡ q) → IsNamed targets target (names ++ name ∷ []) q
        each_by q (inl c) = more q c
        each_by q (inr e) = record { name = name; listed = Contains-push names name; visible = subst (IsVisible targets target name) e visible }

        whole_by : (q : ℕ) (named : IsNamed targets target (names ++ name ∷ []) q) → Contains names named.name ⊎ (name ≡ named.name) → Contains (row ++ found ∷ []) q
        whole_by q named (inl c) = Contains-append_left row (found ∷ []) q (is.whole q (record { name = named.name; listed = c; visible = named.visible }))
        whole_by q named (inr e) =
            subst (Contains (row ++ found ∷ [])) (sym (one q (subst (λ (x : List ℕ). IsVisible targets target x q) (sym e) named.visible))) (Contains-push row found)

    -- it means none
    pub row_same : ((q : ℕ) → ¬ (IsVisible targets target name q)) → IsRow targets target (names ++ name ∷ []) row
    row_same none = record { each = more; whole = λ q named. whole_by q named (Contains-push_cases names name named.name named.listed) }
      where
        whole_by : (q : ℕ) (named : IsNamed targets target (names ++ name ∷ []) q) → Contains names named.name ⊎ (name ≡ named.name) → Contains row q
        whole_by q named (inl c) = is.whole q (record { name = named.name; listed = c; visible = named.visible })
        whole_by q named (inr e) = absurd (none q (subst (λ (x : List ℕ). IsVisible targets target x q) (sym e) named.visible))

-- ---- the rows of all modules

module _ (w : World) (rows : List (List ℕ)) where
  pub rows_more : (n : ℕ) → length rows ≡ n → ((p : ℕ) → p < n → (q : ℕ) → Contains (row_at rows p) q ↔ Imports w p q) → (row : List ℕ) → ((q : ℕ) → Contains row q ↔ Imports w n q)
      → (p : ℕ) → p < n + 1 → (q : ℕ) → Contains (row_at (rows ++ row ∷ []) p) q ↔ Imports w p q
  rows_more n size each row this p h q = by (cases_eq p n)
    where
      by : (p ≡ n) ⊎ (p ≡ n → ⊥) → Contains (row_at (rows ++ row ∷ []) p) q ↔ Imports w p q
      by (inl e) =
          subst (λ k. Contains (row_at (rows ++ row ∷ []) k) q ↔ Imports w k q) (sym e)
          (subst (λ (r : List ℕ). Contains r q ↔ Imports w n q) (sym (ap (λ k. row_at (rows ++ row ∷ []) k) (sym size) ∙ get_or-append_seam rows row [] [])) (this q))
      by (inr other) =
          let below : p < n = omega (arith, h, other) in
          subst (λ (r : List ℕ). Contains r q ↔ Imports w p q) (sym (get_or_append_left rows (row ∷ []) [] p (omega (arith, below, size)))) (each p below q)

  -- what is no module imports none
  pub rows_all : (n : ℕ) → length rows ≡ n → n ≡ length (pairs_of w.targets) → ((p : ℕ) → p < n → (q : ℕ) → Contains (row_at rows p) q ↔ Imports w p q) → AreRows w rows
  rows_all n size all each = record { size = size ∙ all; each = λ p q. by p q (cases_lt p n) }
    where
      by : (p q : ℕ) → (p < n) ⊎ (n ≤ p) → Contains (row_at rows p) q ↔ Imports w p q
      by p q (inl h) = each p h q
      by p q (inr h) = (
        (λ c. absurd (nothing q (subst (λ (r : List ℕ). Contains r q) (get_or_past rows p [] (omega (arith, h, size))) c))),
        (λ i. let within = slice_get_within (pairs_of w.targets) p i.means.pair i.means.there in absurd (omega (arith, within, h, all))),
      )

-- each import is a module
pub rows_within : (w : World) (rows : List (List ℕ)) → AreRows w rows → AreWithin rows
rows_within w rows are i d h k e below =
    let row : List ℕ = get_or rows i d in
    let listed : Contains (row_at rows i) (get_or row k e) =
    subst (λ (r : List ℕ). Contains r (get_or row k e)) (get_or_default rows i d [] h) (Contains-get_or row k e below) in
    let import = (are.each i (get_or row k e)).0 listed in
    let sees = import.means.visible.sees in
    let within = slice_get_within (pairs_of w.targets) (get_or row k e) sees.pair sees.there in
    omega (arith, within, are.size)
