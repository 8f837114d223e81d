-- Places that wait for none, where the spared ones are those on a cycle.
use Rattle.std.proofs.Common.{◌≡◌, ◌⊎◌, inl, inr, ℕ, ◌<◌, List, [], ◌∷◌, ◌++◌, true, false, length, replicate, All, Contains, ap, sym, subst, ◌∙◌}
use Rattle.std.proofs.lemmas.Bool.{false≢true}
use Rattle.std.proofs.lemmas.List.{get_or-replicate, length-replicate}
use Rattle.std.proofs.lemmas.List.Elements.{All-contains, All-push}
use Rattle.build_plan.specs.Rows.{Imports, IsWay, OnCycle}
use Rattle.build_plan.specs.Lists.{has_mark, written}
use Rattle.build_plan.specs.Cycles.{AreCyclic, LeavesCycles}
use Rattle.build_plan.specs.Front.{Stand, IsPassed, IsFree, IsLeastFree, WaitsForNone, stand_given, stand_finished}
use Rattle.build_plan.specs.Places.{Places, IsSettled, IsClear, IsReady, IsLeastReady}
use Rattle.build_plan.proofs.Counting.{is_counted}
use Rattle.build_plan.proofs.CycleLaws.{written_size, written_out}
use Rattle.build_plan.proofs.GetsThrough.{importer_within}
use Rattle.build_plan.proofs.LeadsLaws.{first_step, then_step}

abbrev pub seen : Stand → Places
seen stand = record { rows = stand.rows; given = stand.given; finished = stand.finished }

module _ (stand : Stand) (cyclic : AreCyclic stand.rows stand.spared) where
  settled : (q : ℕ) → IsPassed stand q → IsSettled (seen stand) q
  settled q (inl c) = inl c
  settled q (inr m) = inr (cyclic.sound q m)

  passed : (q : ℕ) → IsSettled (seen stand) q → IsPassed stand q
  passed q (inl c) = inl c
  passed q (inr o) = inr (cyclic.whole q o)

  ready : (p : ℕ) → IsFree stand p → IsReady (seen stand) p
  ready p free = record { within = free.within; is_new = free.is_new; clear = λ q i. settled q (free.clear q i) }

  free : (p : ℕ) → IsReady (seen stand) p → IsFree stand p
  free p is = record { within = is.within; is_new = is.is_new; clear = λ q i. passed q (is.clear q i) }

  pub least_ready : (p : ℕ) → IsLeastFree stand p → IsLeastReady (seen stand) p
  least_ready p least = record { ready = ready p least.free; least = λ q is. least.least q (free q is) }

  pub none_ready : ((p : ℕ) → ¬ (IsFree stand p)) → (p : ℕ) → ¬ (IsReady (seen stand) p)
  none_ready none p is = none p (free p is)

  pub all_clear : All (λ p. (p < length stand.rows) × WaitsForNone stand p) stand.given → All (IsClear (seen stand)) stand.given
  all_clear all = λ k d h q i. settled q ((all k d h).1 q i)

-- ---- the places that are taken away

-- a place on a cycle imports one
next_on_cycle : (rows : List (List ℕ)) (a : ℕ) → OnCycle rows a → (x : ℕ) × Imports rows a x × OnCycle rows x
next_on_cycle rows a o = by o.way o.is_way
  where
    by : (way : List ℕ) → IsWay (Imports rows) a way a → (x : ℕ) × Imports rows a x × OnCycle rows x
    by [] i = (a, i, o)
    by (x ∷ way) w = (x, w.0, then_step (Imports rows) x a x (record { way = way; is_way = w.1 }) w.0)

pub off_cycle : (stand : Stand) (p : ℕ) → ((b : ℕ) → has_mark stand.spared b ≡ false) → All (λ place. ¬ (OnCycle stand.rows place)) stand.finished
    → WaitsForNone stand p → ¬ (OnCycle stand.rows p)
off_cycle stand p none off clear o =
    let next = next_on_cycle stand.rows p o in
    by next.0 (clear next.0 next.1) next.2
  where
    by : (x : ℕ) → IsPassed stand x → ¬ (OnCycle stand.rows x)
    by x (inl c) = All-contains (λ place. ¬ (OnCycle stand.rows place)) stand.finished x off c
    by x (inr m) = absurd (false≢true (sym (none x) ∙ m))

pub left : (rows : List (List ℕ)) (finished : List ℕ) → All (λ place. ¬ (OnCycle rows place)) finished → LeavesCycles rows (written (replicate (length rows) true) finished false)
left rows finished off = record {
  size = written_size (replicate (length rows) true) finished false ∙ length-replicate (length rows) true;
  whole = λ b o. whole b o (is_counted finished b);
}
  where
    whole : (b : ℕ) → OnCycle rows b → Contains finished b ⊎ (Contains finished b → ⊥) → has_mark (written (replicate (length rows) true) finished false) b ≡ true
    whole b o (inl c) = absurd (All-contains (λ place. ¬ (OnCycle rows place)) finished b off c o)
    whole b o (inr n) =
        let first = first_step (Imports rows) b b o in
        written_out (replicate (length rows) true) finished false b n
        ∙ get_or-replicate (length rows) b true false (importer_within rows b first.0 first.1)

-- what holds all along
pub record IsPeeling (links : List (List ℕ)) (stand : Stand) : Type 0 where
  pub rows : stand.rows ≡ links
  pub none : (b : ℕ) → has_mark stand.spared b ≡ false
  pub same : stand.finished ≡ stand.given
  pub peeled : All (λ place. ¬ (OnCycle links place)) stand.finished

module _ (links : List (List ℕ)) (stand : Stand) (is : IsPeeling links stand) (p : ℕ) (free : IsFree stand p) where
  -- a place that was given just now isn't finished
  pub not_finished : ¬ (Contains stand.finished p)
  not_finished c = free.is_new (subst (λ (xs : List ℕ). Contains xs p) is.same c)

  pub peeling_more : IsPeeling links (stand_finished (stand_given stand p) p)
  peeling_more = record {
    rows = is.rows;
    none = is.none;
    same = ap (λ (xs : List ℕ). xs ++ p ∷ []) is.same;
    peeled = All-push (λ place. ¬ (OnCycle links place)) stand.finished p is.peeled
        (subst (λ (rows : List (List ℕ)). ¬ (OnCycle rows p)) is.rows
        (off_cycle stand p is.none (subst (λ (rows : List (List ℕ)). All (λ place. ¬ (OnCycle rows place)) stand.finished) (sym is.rows) is.peeled) free.clear));
  }
