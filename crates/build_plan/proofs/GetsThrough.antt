-- A plan gets through.
use Rattle.std.proofs.Common.{◌≡◌, ◌⊎◌, inl, inr, ℕ, zero, suc, ◌+◌, ◌<◌, ◌≤◌, List, [], ◌∷◌, length, Contains, refl, sym, subst, arith}
use Rattle.std.proofs.lemmas.Bool.{cases_eq, cases_lt}
use Rattle.std.proofs.lemmas.List.{get_or_past}
use Rattle.std.proofs.lemmas.List.Elements.{All-contains}
use Rattle.build_plan.specs.Rows.{row_at, Imports, AreWithin, Path}
use Rattle.build_plan.specs.Places.{Places, IsReady, IsSettled, IsDone}
use Rattle.build_plan.specs.Lists.{count_of}
use Rattle.build_plan.proofs.Counting.{same_one, same_none, count_cons, not_counted, is_counted, few}
use Rattle.build_plan.proofs.LeadsLaws.{one_step, then_step}

none_listed : (x : ℕ) → Contains [] x → ⊥
none_listed x c = let k : c.0 < 0 = c.1 in omega arith

-- both ends of an import are places
pub importer_within : (rows : List (List ℕ)) (a b : ℕ) → Imports rows a b → a < length rows
importer_within rows a b i = by (cases_lt a (length rows))
  where
    by : (a < length rows) ⊎ (length rows ≤ a) → a < length rows
    by (inl h) = h
    by (inr h) = absurd (none_listed b (subst (λ (row : List ℕ). Contains row b) (get_or_past rows a [] h) i))

pub import_within : (rows : List (List ℕ)) (a b : ℕ) → AreWithin rows → Imports rows a b → b < length rows
import_within rows a b within i =
    All-contains (λ x. x < length rows) (row_at rows a) b (within a [] (importer_within rows a b i)) i

-- Where no place of a list lacks a fact, not all places of it can lack it together.
shift : (Fact : ℕ → Type 0) (xs : List ℕ) → ((x : ℕ) → Contains xs x → (Fact x → ⊥) → ⊥) → (((x : ℕ) → Contains xs x → Fact x) → ⊥) → ⊥
shift Fact [] each all = all (λ x c. absurd (none_listed x c))
shift Fact (y ∷ ys) each all =
    each y (0, omega arith, refl)
    (λ here. shift Fact ys (λ x c. each x (suc c.0, (let k = c.1 in omega arith), c.2)) (λ rest. all (λ x c. by here rest x c)))
  where
    by : Fact y → ((x : ℕ) → Contains ys x → Fact x) → (x : ℕ) → Contains (y ∷ ys) x → Fact x
    by here rest x (zero, k, e) = subst Fact e here
    by here rest x (suc i, k, e) = rest x (i, omega arith, e)

module _ (places : Places) (within : AreWithin places.rows) (stuck : (place : ℕ) → IsReady places place → ⊥)
    (done : (place : ℕ) → Contains places.given place → Contains places.finished place) where
  -- a place that isn't finished waits for one that is on no cycle
  waits : (place : ℕ) → place < length places.rows → (Contains places.finished place → ⊥)
      → ((import : ℕ) → Imports places.rows place import → (IsSettled places import → ⊥) → ⊥) → ⊥
  waits place h unfinished each =
      shift (IsSettled places) (row_at places.rows place) each
      (λ clear. stuck place (record { within = h; is_new = λ g. unfinished (done place g); clear = clear }))

  -- places, none of them twice, that lead to one which others wait for
  record IsChain (chain : List ℕ) (place : ℕ) : Type 0 where
    once : (x : ℕ) → count_of x chain ≤ 1
    below : (x : ℕ) → 0 < count_of x chain → x < length places.rows
    leads : (x : ℕ) → Contains chain x → Path places.rows x place
    inside : place < length places.rows
    awaited : IsSettled places place → ⊥

  longer_once : (chain : List ℕ) (place : ℕ) → IsChain chain place → (x : ℕ) → (place ≡ x) ⊎ (place ≡ x → ⊥) → count_of x (place ∷ chain) ≤ 1
  longer_once chain place is x (inl e) =
      let one = same_one place x e in
      let all = count_cons x place chain in
      let none = not_counted chain x (λ c. is.awaited (inr (subst (λ y. Path places.rows y place) (sym e) (is.leads x c)))) in
      omega arith
  longer_once chain place is x (inr n) =
      let none = same_none place x n in
      let all = count_cons x place chain in
      let once = is.once x in
      omega arith

  longer_below : (chain : List ℕ) (place : ℕ) → IsChain chain place → (x : ℕ) → (place ≡ x) ⊎ (place ≡ x → ⊥) → 0 < count_of x (place ∷ chain) → x < length places.rows
  longer_below chain place is x (inl e) k = subst (λ y. y < length places.rows) e is.inside
  longer_below chain place is x (inr n) k =
      let none = same_none place x n in
      let all = count_cons x place chain in
      is.below x (omega arith)

  longer_leads : (chain : List ℕ) (place : ℕ) → IsChain chain place → (import : ℕ) → Imports places.rows place import
      → (x : ℕ) → Contains (place ∷ chain) x → Path places.rows x import
  longer_leads chain place is import i x (zero, k, e) = subst (λ y. Path places.rows y import) e (one_step (Imports places.rows) place import i)
  longer_leads chain place is import i x (suc at, k, e) = then_step (Imports places.rows) x place import (is.leads x (at, omega arith, e)) i

  -- a chain of such places ends
  ends : (fuel : ℕ) (chain : List ℕ) (place : ℕ) → length places.rows ≤ length chain + fuel → IsChain chain place → ⊥
  ends zero chain place size is =
      let most = few (place ∷ chain) (length places.rows) (λ x. longer_once chain place is x (cases_eq place x)) (λ x. longer_below chain place is x (cases_eq place x)) in
      omega arith
  ends (suc less) chain place size is =
      waits place is.inside (λ f. is.awaited (inl f))
      (λ import i left. ends less (place ∷ chain) import (omega arith)
      (record {
        once = λ x. longer_once chain place is x (cases_eq place x);
        below = λ x. longer_below chain place is x (cases_eq place x);
        leads = longer_leads chain place is import i;
        inside = import_within places.rows place import within i;
        awaited = left;
      }))

  pub gets_through : IsDone places
  gets_through place h = by (is_counted places.finished place)
    where
      by : Contains places.finished place ⊎ (Contains places.finished place → ⊥) → Contains places.finished place
      by (inl c) = c
      by (inr unfinished) =
          absurd (waits place h unfinished
          (λ import i left. ends (length places.rows) [] import (omega arith)
          (record {
            once = λ x. omega arith;
            below = λ x k. absurd (omega arith);
            leads = λ x c. absurd (none_listed x c);
            inside = import_within places.rows place import within i;
            awaited = left;
          })))
