-- Names as a sorted map compares them, and the target of a name.
use Rattle.std.proofs.Common.{◌≡◌, ℕ, zero, suc, ◌<◌, Bool, true, false, cond, List, [], ◌∷◌, ◌++◌, length, get_or, Option, None, Some, is_some, find, Contains, refl, ap, sym, subst, ◌∙◌, true≢false, arith}
use Rattle.std.specs.Prelude.{if◌then◌else◌}
use Rattle.std.specs.Cmp.Lexicographic.{slice_cmp}
use Rattle.std.specs.Option.{option_or}
use Rattle.std.specs.Ordering.{is_eq, nat_cmp}
use Rattle.std.specs.Str.{bytes_eq}
use Rattle.std.specs.declared.cmp.Ordering.{Ordering}
use Rattle.std.specs.declared.cmp.Ordering.TheVariants.{Less, Equal, Greater}
use Rattle.std.proofs.lemmas.Bool.{false_from_ne_true}
use Rattle.std.proofs.lemmas.Cmp.{nat_list_cmp_total, tied_itself}
use Rattle.std.proofs.lemmas.List.Elements.{Contains-append_right, Contains-get_or}
use Rattle.std.proofs.lemmas.List.Folds.{find-append}
use Rattle.std.proofs.lemmas.Map.Lookups.{exact_bytes}
use Rattle.std.proofs.lemmas.Slice.Eq.{bytes_eq-Decides}
use Rattle.target_graph.specs.declared.target.Target.{Target}
use Rattle.reload_rules.specs.Changes.{with_name}
use Rattle.session_reload.specs.Sides.{same_name}

-- ---- equal names

equal_from : (o : Ordering) → is_eq o ≡ true → o ≡ Equal
equal_from Less e = absurd (true≢false (sym e))
equal_from Equal e = refl
equal_from Greater e = absurd (true≢false (sym e))

pub same_from : (a b : List ℕ) → same_name a b ≡ true → a ≡ b
same_from a b e = exact_bytes a b (equal_from (slice_cmp nat_cmp a b) e)

pub same_itself : (a : List ℕ) → same_name a a ≡ true
same_itself a = ap is_eq (tied_itself nat_list_cmp_total a)

same_bytes_by : (a b : List ℕ) (s : Bool) → same_name a b ≡ s → bytes_eq b a ≡ s
same_bytes_by a b true e = (bytes_eq-Decides b a).1 (sym (same_from a b e))
same_bytes_by a b false e =
    false_from_ne_true (bytes_eq b a)
    (λ t. true≢false (sym (same_itself a) ∙ (ap (same_name a) (sym ((bytes_eq-Decides b a).0 t)) ∙ e)))

pub same_bytes : (a b : List ℕ) → bytes_eq b a ≡ same_name a b
same_bytes a b = same_bytes_by a b (same_name a b) refl

-- ---- what a search finds

module _ {X : Type 0} (p : X → Bool) where
  found_by : (xs : List X) (x y : X) (b : Bool) → p y ≡ b → cond b (Some y) (find p xs) ≡ Some x → (find p xs ≡ Some x → Contains xs x × (p x ≡ true)) → Contains (y ∷ xs) x × (p x ≡ true)
  found_by xs x y true e is rest =
      let same : y ≡ x = cc in
      (subst (Contains (y ∷ xs)) same (Contains-get_or (y ∷ xs) 0 y (omega arith)), ap p (sym same) ∙ e)
  found_by xs x y false e is rest = (Contains-append_right (y ∷ []) xs x (rest is).0, (rest is).1)

  pub found : (xs : List X) (x : X) → find p xs ≡ Some x → Contains xs x × (p x ≡ true)
  found [] x is = absurd cc
  found (y ∷ ys) x is = found_by ys x y (p y) refl is (found ys x)

  finds_by : (xs : List X) (y : X) (b : Bool) → (b ≡ false → is_some (find p xs) ≡ true) → is_some (cond b (Some y) (find p xs)) ≡ true
  finds_by xs y true rest = refl
  finds_by xs y false rest = rest refl

  finds_at : (xs : List X) (x : X) (k : ℕ) → k < length xs → get_or xs k x ≡ x → p x ≡ true → is_some (find p xs) ≡ true
  finds_at [] x k h e t = absurd (omega arith)
  finds_at (y ∷ ys) x zero h e t = ap (λ b. is_some (cond b (Some y) (find p ys))) (ap p e ∙ t)
  finds_at (y ∷ ys) x (suc k) h e t = finds_by ys y (p y) (λ f. finds_at ys x k (omega arith) e t)

  pub finds : (xs : List X) (x : X) → Contains xs x → p x ≡ true → is_some (find p xs) ≡ true
  finds xs x c t = finds_at xs x c.0 c.1 c.2 t

pub some_of : {X : Type 0} (o : Option X) → is_some o ≡ true → (x : X) × (o ≡ Some x)
some_of None e = absurd (true≢false (sym e))
some_of (Some x) e = (x, refl)

-- ---- one more target

pub with_more : (targets : List Target) (target : Target) (name : List ℕ)
    → with_name name (targets ++ target ∷ []) ≡ option_or (with_name name targets) (if same_name target.name name then Some target else None)
with_more targets target name =
    find-append (λ (t : Target). bytes_eq name t.name) targets (target ∷ [])
    ∙ ap (λ b. option_or (with_name name targets) (cond b (Some target) None)) (same_bytes target.name name)

pub or_none : {X : Type 0} (o : Option X) → option_or o None ≡ o
or_none None = refl
or_none (Some x) = refl

pub with_none : (targets : List Target) (name : List ℕ) (b : Bool) → with_name name targets ≡ option_or (with_name name targets) (if b then None else None)
with_none targets name true = sym (or_none (with_name name targets))
with_none targets name false = sym (or_none (with_name name targets))
