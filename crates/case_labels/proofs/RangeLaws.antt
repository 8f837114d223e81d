-- Ranges that have no number in common, as entries of a map from their last number to their first one.
use Rattle.std.specs.Prelude.{◌≡◌, Bool, true, false, not, ◌||◌, cond, int_lt, List, [], ◌∷◌, ℤ, Option, Some, None, IfSome, slice_get, is_some, refl}
use Rattle.std.proofs.Common.{ap, sym, ◌∙◌, subst, arith, MatchOption, true≢false}
use Rattle.std.specs.Int.{int_max, int_min}
use Rattle.std.specs.List.{list_any}
use Rattle.std.specs.Map.{lookup, remove_entry}
use Rattle.std.specs.declared.cmp.Ordering.{Ordering}
use Rattle.std.specs.declared.cmp.Ordering.TheVariants.{Less, Equal, Greater}
use Rattle.std.specs.Ordering.{int_cmp, match_ordering}
use Rattle.std.specs.BTreeMap.{BTreeMap, get, is_at, insert_entry}
use Rattle.std.specs.BTreeMap.Range.{range_contains, entries_between, IsRangeOf, IsEntryInRange, IsLeBy}
use Rattle.std.specs.declared.ops.Bound.TheVariants.{Included, Unbounded}
use Rattle.std.proofs.lemmas.Int.{ints}
use Rattle.case_labels.specs.declared.joined.Range.{Range}
use Rattle.case_labels.specs.Joins.{Joins}
use Rattle.case_labels.specs.Ranges.{meets, meets_any, AreBehind, AreApart}

pub union_meets : (x y p q a b l f : ℤ) → int_lt x y ≡ false → int_lt p q ≡ false → meets y x (p, q) ≡ true → int_lt b a ≡ false → l ≡ int_max x p → f ≡ int_min y q → meets a b (l, f) ≡ (meets a b (x, y) || meets a b (p, q))
union_meets x y p q a b l f one two m ab e g = grind (arith, ints)

-- ---- the first range that ends at a number or behind it

from_is : (a q : ℤ) → range_contains int_cmp (Included a) Unbounded q ≡ not (int_lt q a)
from_is a q = grind (arith, ints)

ends_before : (a b : ℤ) (e : ℤ × ℤ) → range_contains int_cmp (Included a) Unbounded e.0 ≡ false → meets a b e ≡ false
ends_before a b e h = let f : not (int_lt e.0 a) ≡ false = sym (from_is a e.0) ∙ h in grind (arith, ints)

begins_behind : (a b : ℤ) (e : ℤ × ℤ) → int_lt b e.1 ≡ true → meets a b e ≡ false
begins_behind a b e h = ap (λ t. not (t || int_lt e.0 a)) h

neither : (a b : ℤ) (e : ℤ × ℤ) (es : List (ℤ × ℤ)) → meets a b e ≡ false → meets_any a b es ≡ false → meets_any a b (e ∷ es) ≡ false
neither a b e es one all = ap (λ t. t || meets_any a b es) one ∙ all

none_step : (c : Bool) (e : ℤ × ℤ) (fs : List (ℤ × ℤ)) → cond c (e ∷ fs) fs ≡ [] → (c ≡ false) × (fs ≡ [])
none_step true e fs h = absurd cc
none_step false e fs h = (refl, h)

pub none_from : (a b : ℤ) (es : List (ℤ × ℤ)) → [] ≡ entries_between int_cmp (Included a) Unbounded es → meets_any a b es ≡ false
none_from a b [] none = refl
none_from a b (e ∷ es) none =
    let p = none_step (range_contains int_cmp (Included a) Unbounded e.0) e (entries_between int_cmp (Included a) Unbounded es) (sym none) in
    neither a b e es (ends_before a b e p.0) (none_from a b es (sym p.1))

lt_le_lt : (b x y z : ℤ) → int_lt b x ≡ true → int_lt y x ≡ false → int_lt y z ≡ true → int_lt b z ≡ true
lt_le_lt b x y z f g h = grind (arith, ints)

all_behind : (a b x y : ℤ) (es : List (ℤ × ℤ)) → int_lt b x ≡ true → int_lt y x ≡ false → AreBehind y es → meets_any a b es ≡ false
all_behind a b x y [] f g h = refl
all_behind a b x y (e ∷ es) f g h = neither a b e es (begins_behind a b e (lt_le_lt b x y e.1 f g h.0)) (all_behind a b x y es f g h.1)

abbrev head_or : ℤ × ℤ → List (ℤ × ℤ) → ℤ × ℤ
head_or d [] = d
head_or d (x ∷ xs) = x

first_step : (a b : ℤ) (c : Bool) (e f : ℤ × ℤ) (es fs t : List (ℤ × ℤ)) → c ≡ range_contains int_cmp (Included a) Unbounded e.0 → AreApart (e ∷ es) → cond c (e ∷ fs) fs ≡ f ∷ t → int_lt b f.1 ≡ true → (fs ≡ f ∷ t → meets_any a b es ≡ false) → meets_any a b (e ∷ es) ≡ false
first_step a b true e f es fs t c apart h behind later =
    let same : int_lt b e.1 ≡ true = ap (λ (ys : List (ℤ × ℤ)). int_lt b (head_or e ys).1) h ∙ behind in
    neither a b e es (begins_behind a b e same) (all_behind a b e.1 e.0 es same apart.0 apart.1)
first_step a b false e f es fs t c apart h behind later = neither a b e es (ends_before a b e (sym c)) (later h)

first_from : (a b : ℤ) (f : ℤ × ℤ) (es t : List (ℤ × ℤ)) → AreApart es → f ∷ t ≡ entries_between int_cmp (Included a) Unbounded es → int_lt b f.1 ≡ true → meets_any a b es ≡ false
first_from a b f [] t apart h behind = refl
first_from a b f (e ∷ es) t apart h behind =
    first_step a b (range_contains int_cmp (Included a) Unbounded e.0) e f es (entries_between int_cmp (Included a) Unbounded es) t refl apart (sym h) behind (λ g. first_from a b f es t apart.2 (sym g) behind)

meet_here : (a b l f : ℤ) → int_lt b f ≡ false → int_lt l a ≡ false → meets a b (l, f) ≡ true
meet_here a b l f g h = ap (λ t. not (t || int_lt l a)) g ∙ ap not h

pub looked_at : (r : Option Range) (a b l f : ℤ) (m : BTreeMap ℤ ℤ) (t : List (ℤ × ℤ)) → AreApart m.entries → (l, f) ∷ t ≡ entries_between int_cmp (Included a) Unbounded m.entries → get int_cmp m l ≡ Some f → int_lt l a ≡ false → MatchOption r (int_lt b f ≡ true) (λ q. (q ≡ record { last = l; first = f }) × (int_lt b f ≡ false)) → MatchOption r (meets_any a b m.entries ≡ false) (λ q. (get int_cmp m q.last ≡ Some q.first) × (meets a b (q.last, q.first) ≡ true))
looked_at None a b l f m t apart first at from h = first_from a b (l, f) m.entries t apart first h
looked_at (Some q) a b l f m t apart first at from h =
    subst (λ (p : Range). (get int_cmp m p.last ≡ Some p.first) × (meets a b (p.last, p.first) ≡ true)) (sym h.0) (at, meet_here a b l f h.1 from)

pub in_front : (m : BTreeMap ℤ ℤ) (a : ℤ) (r t : List (ℤ × ℤ)) (e : ℤ × ℤ) → r ≡ e ∷ t → IsRangeOf int_cmp (Included a) Unbounded m r → IsEntryInRange int_cmp (Included a) Unbounded m e
in_front m a r t e is h = subst (λ (ys : List (ℤ × ℤ)). IfSome (slice_get ys 0) (IsEntryInRange int_cmp (Included a) Unbounded m)) is h.1

pub from_front : (a l : ℤ) → IsLeBy int_cmp a l → int_lt l a ≡ false
from_front a l h = grind (arith, ints)

-- ---- a range is taken out

or_swap : (x y z : Bool) → (x || (y || z)) ≡ (y || (x || z))
or_swap true true z = refl
or_swap true false z = refl
or_swap false true z = refl
or_swap false false z = refl

at_equal : (k q : ℤ) → is_at (int_cmp k) q ≡ true → q ≡ k
at_equal k q h = grind (arith, ints)

behind_without_by : (k j : ℤ) (c : Bool) (e : ℤ × ℤ) (es fs : List (ℤ × ℤ)) → AreBehind k (e ∷ es) → AreBehind k fs → AreBehind k (cond c es (e ∷ fs))
behind_without_by k j true e es fs h rest = h.1
behind_without_by k j false e es fs h rest = (h.0, rest)

behind_without : (k j : ℤ) (es : List (ℤ × ℤ)) → AreBehind k es → AreBehind k (remove_entry (is_at (int_cmp j)) es)
behind_without k j [] h = tt
behind_without k j (e ∷ es) h = behind_without_by k j (is_at (int_cmp j) e.0) e es (remove_entry (is_at (int_cmp j)) es) h (behind_without k j es h.1)

apart_without_by : (c : Bool) (e : ℤ × ℤ) (es fs : List (ℤ × ℤ)) → AreApart (e ∷ es) → AreBehind e.0 fs → AreApart fs → AreApart (cond c es (e ∷ fs))
apart_without_by true e es fs h behind rest = h.2
apart_without_by false e es fs h behind rest = (h.0, behind, rest)

pub apart_without : (k : ℤ) (es : List (ℤ × ℤ)) → AreApart es → AreApart (remove_entry (is_at (int_cmp k)) es)
apart_without k [] h = tt
apart_without k (e ∷ es) h = apart_without_by (is_at (int_cmp k) e.0) e es (remove_entry (is_at (int_cmp k)) es) h (behind_without e.0 k es h.1) (apart_without k es h.2)

some_is : (v w : ℤ) → Some v ≡ Some w → v ≡ w
some_is v w h = cc

without_by : (p : ℤ × ℤ → Bool) (k v : ℤ) (c : Bool) (e : ℤ × ℤ) (es fs : List (ℤ × ℤ)) (o : Option ℤ) → c ≡ is_at (int_cmp k) e.0 → cond c (Some e.1) o ≡ Some v → (o ≡ Some v → list_any p es ≡ (p (k, v) || list_any p fs)) → list_any p (e ∷ es) ≡ (p (k, v) || list_any p (cond c es (e ∷ fs)))
without_by p k v true e es fs o c at rest =
    ap (λ (y : ℤ × ℤ). p y || list_any p es) (ap (λ (x : ℤ). (x, e.1)) (at_equal k e.0 (sym c)) ∙ ap (λ (y : ℤ). (k, y)) (some_is e.1 v at))
without_by p k v false e es fs o c at rest = ap (λ t. p e || t) (rest at) ∙ or_swap (p e) (p (k, v)) (list_any p fs)

pub without : (p : ℤ × ℤ → Bool) (k v : ℤ) (es : List (ℤ × ℤ)) → lookup (is_at (int_cmp k)) es ≡ Some v → list_any p es ≡ (p (k, v) || list_any p (remove_entry (is_at (int_cmp k)) es))
without p k v [] at = absurd cc
without p k v (e ∷ es) at = without_by p k v (is_at (int_cmp k) e.0) e es (remove_entry (is_at (int_cmp k)) es) (lookup (is_at (int_cmp k)) es) refl at (without p k v es)

filled_by : (k v : ℤ) (c : Bool) (e : ℤ × ℤ) (o : Option ℤ) → c ≡ is_at (int_cmp k) e.0 → int_lt e.0 e.1 ≡ false → cond c (Some e.1) o ≡ Some v → (o ≡ Some v → int_lt k v ≡ false) → int_lt k v ≡ false
filled_by k v true e o c one at rest = ap (λ (x : ℤ). int_lt x v) (sym (at_equal k e.0 (sym c))) ∙ ap (λ (y : ℤ). int_lt e.0 y) (sym (some_is e.1 v at)) ∙ one
filled_by k v false e o c one at rest = rest at

pub filled_at : (k v : ℤ) (es : List (ℤ × ℤ)) → AreApart es → lookup (is_at (int_cmp k)) es ≡ Some v → int_lt k v ≡ false
filled_at k v [] apart at = absurd cc
filled_at k v (e ∷ es) apart at = filled_by k v (is_at (int_cmp k) e.0) e (lookup (is_at (int_cmp k)) es) refl apart.0 at (filled_at k v es apart.2)

-- ---- a range is put in

behind_with_by : (i k v : ℤ) (o : Ordering) (e : ℤ × ℤ) (es fs : List (ℤ × ℤ)) → int_lt i v ≡ true → AreBehind i (e ∷ es) → AreBehind i fs → AreBehind i (match_ordering o ((k, v) ∷ e ∷ es) ((e.0, v) ∷ es) (e ∷ fs))
behind_with_by i k v Less e es fs one h rest = (one, h)
behind_with_by i k v Equal e es fs one h rest = (one, h.1)
behind_with_by i k v Greater e es fs one h rest = (h.0, rest)

behind_with : (i k v : ℤ) (es : List (ℤ × ℤ)) → int_lt i v ≡ true → AreBehind i es → AreBehind i (insert_entry int_cmp es k v)
behind_with i k v [] one h = (one, tt)
behind_with i k v (e ∷ es) one h = behind_with_by i k v (int_cmp k e.0) e es (insert_entry int_cmp es k v) one h (behind_with i k v es one h.1)

lt_lt : (x y z : ℤ) → int_lt x y ≡ true → int_lt y z ≡ true → int_lt x z ≡ true
lt_lt x y z f g = grind (arith, ints)

farther : (x y : ℤ) (es : List (ℤ × ℤ)) → int_lt x y ≡ true → AreBehind y es → AreBehind x es
farther x y [] l h = tt
farther x y (e ∷ es) l h = (lt_lt x y e.1 l h.0, farther x y es l h.1)

first_of_or : (x y : Bool) → (x || y) ≡ false → (x ≡ false) × (y ≡ false)
first_of_or true y h = absurd cc
first_of_or false y h = (refl, h)

-- a range that none meets, before, at or behind one
less_apart : (k v l f : ℤ) → int_cmp k l ≡ Less → meets v k (l, f) ≡ false → int_lt k v ≡ false → int_lt l f ≡ false → (int_lt k f ≡ true) × (int_lt k l ≡ true)
less_apart k v l f o m one two = (grind (arith, ints), grind (arith, ints))

equal_apart : (k v l f : ℤ) → int_cmp k l ≡ Equal → meets v k (l, f) ≡ false → int_lt k v ≡ false → int_lt l f ≡ false → true ≡ false
equal_apart k v l f o m one two = grind (arith, ints)

greater_apart : (k v l f : ℤ) → int_cmp k l ≡ Greater → meets v k (l, f) ≡ false → int_lt k v ≡ false → int_lt l f ≡ false → int_lt l v ≡ true
greater_apart k v l f o m one two = grind (arith, ints)

apart_with_by : (k v : ℤ) (o : Ordering) (e : ℤ × ℤ) (es fs : List (ℤ × ℤ)) → int_cmp k e.0 ≡ o → int_lt k v ≡ false → meets v k e ≡ false → AreApart (e ∷ es) → (int_lt e.0 v ≡ true → AreBehind e.0 fs) → AreApart fs → AreApart (match_ordering o ((k, v) ∷ e ∷ es) ((e.0, v) ∷ es) (e ∷ fs))
apart_with_by k v Less e es fs o one m h behind rest =
    let l = less_apart k v e.0 e.1 o m one h.0 in
    (one, (l.0, farther k e.0 es l.1 h.1), h)
apart_with_by k v Equal e es fs o one m h behind rest = absurd (true≢false (equal_apart k v e.0 e.1 o m one h.0))
apart_with_by k v Greater e es fs o one m h behind rest = (h.0, behind (greater_apart k v e.0 e.1 o m one h.0), rest)

pub apart_with : (k v : ℤ) (es : List (ℤ × ℤ)) → int_lt k v ≡ false → meets_any v k es ≡ false → AreApart es → AreApart (insert_entry int_cmp es k v)
apart_with k v [] one alone h = (one, tt, tt)
apart_with k v (e ∷ es) one alone h =
    let a = first_of_or (meets v k e) (meets_any v k es) alone in
    apart_with_by k v (int_cmp k e.0) e es (insert_entry int_cmp es k v) refl one a.0 h (λ l. behind_with e.0 k v es l h.1) (apart_with k v es one a.1 h.2)

with_by : (p : ℤ × ℤ → Bool) (k v : ℤ) (o : Ordering) (e : ℤ × ℤ) (es fs : List (ℤ × ℤ)) → int_cmp k e.0 ≡ o → int_lt k v ≡ false → int_lt e.0 e.1 ≡ false → meets v k e ≡ false → list_any p fs ≡ (p (k, v) || list_any p es) → list_any p (match_ordering o ((k, v) ∷ e ∷ es) ((e.0, v) ∷ es) (e ∷ fs)) ≡ (p (k, v) || list_any p (e ∷ es))
with_by p k v Less e es fs o one two m rest = refl
with_by p k v Equal e es fs o one two m rest = absurd (true≢false (equal_apart k v e.0 e.1 o m one two))
with_by p k v Greater e es fs o one two m rest = ap (λ t. p e || t) rest ∙ or_swap (p e) (p (k, v)) (list_any p es)

pub with : (p : ℤ × ℤ → Bool) (k v : ℤ) (es : List (ℤ × ℤ)) → int_lt k v ≡ false → meets_any v k es ≡ false → AreApart es → list_any p (insert_entry int_cmp es k v) ≡ (p (k, v) || list_any p es)
with p k v [] one alone h = refl
with p k v (e ∷ es) one alone h =
    let a = first_of_or (meets v k e) (meets_any v k es) alone in
    with_by p k v (int_cmp k e.0) e es (insert_entry int_cmp es k v) refl one h.0 a.0 (with p k v es one a.1 h.2)

-- ---- ranges are joined

pub joins_none : (low high : ℤ) (es : List (ℤ × ℤ)) → AreApart es → int_lt high low ≡ false → Joins low high es es (record { last = high; first = low })
joins_none low high es apart filled = record { apart = apart; filled = filled; same = λ a b ab. refl }

or_again : (x y z : Bool) → ((x || y) || z) ≡ (x || (y || z))
or_again true y z = refl
or_again false y z = refl

pub joins_more : (low high : ℤ) (old es fs : List (ℤ × ℤ)) (r q n : Range) → Joins low high old es r → lookup (is_at (int_cmp q.last)) es ≡ Some q.first → fs ≡ remove_entry (is_at (int_cmp q.last)) es → int_lt n.last n.first ≡ false → ((a b : ℤ) → int_lt b a ≡ false → meets a b (n.last, n.first) ≡ (meets a b (r.last, r.first) || meets a b (q.last, q.first))) → Joins low high old fs n
joins_more low high old es fs r q n j at less filled both = record {
  apart = subst AreApart (sym less) (apart_without q.last es j.apart);
  filled = filled;
  same = λ a b ab.
      ap (λ t. t || meets_any a b fs) (both a b ab)
      ∙ or_again (meets a b (r.last, r.first)) (meets a b (q.last, q.first)) (meets_any a b fs)
      ∙ ap (λ (ys : List (ℤ × ℤ)). meets a b (r.last, r.first) || (meets a b (q.last, q.first) || meets_any a b ys)) less
      ∙ ap (λ t. meets a b (r.last, r.first) || t) (sym (without (meets a b) q.last q.first es at))
      ∙ j.same a b ab;
}

-- whether one was found
pub found_is : (r : Option Range) (f : Bool) (a b : ℤ) (m : BTreeMap ℤ ℤ) → f ≡ is_some r → MatchOption r (meets_any a b m.entries ≡ false) (λ q. (get int_cmp m q.last ≡ Some q.first) × (meets a b (q.last, q.first) ≡ true)) → f ≡ meets_any a b m.entries
found_is None f a b m e h = e ∙ sym h
found_is (Some q) f a b m e h = e ∙ sym (without (meets a b) q.last q.first m.entries h.0 ∙ ap (λ t. t || list_any (meets a b) (remove_entry (is_at (int_cmp q.last)) m.entries)) h.1)

pub joined_with : (low high : ℤ) (old es fs : List (ℤ × ℤ)) (r : Range) → Joins low high old es r → meets_any r.first r.last es ≡ false → fs ≡ insert_entry int_cmp es r.last r.first → (a b : ℤ) → int_lt b a ≡ false → meets_any a b fs ≡ (meets a b (high, low) || meets_any a b old)
joined_with low high old es fs r j alone more a b ab =
    ap (meets_any a b) more ∙ with (meets a b) r.last r.first es j.filled alone j.apart ∙ j.same a b ab

pub apart_more : (low high : ℤ) (old es fs : List (ℤ × ℤ)) (r : Range) → Joins low high old es r → meets_any r.first r.last es ≡ false → fs ≡ insert_entry int_cmp es r.last r.first → AreApart fs
apart_more low high old es fs r j alone more = subst AreApart (sym more) (apart_with r.last r.first es j.filled alone j.apart)
