-- What a name means to the modules of a target.
use Rattle.std.proofs.Common.{◌≡◌, ◌⊎◌, inl, inr, ℕ, ◌<◌, Bool, List, [], ◌∷◌, length, get_or, Option, Some, None, IfSome, IfNone, All, Contains, ap, sym, subst, ◌∙◌, arith}
use Rattle.std.specs.List.{position}
use Rattle.std.specs.Str.{bytes_eq}
use Rattle.std.proofs.lemmas.Bool.{cases_order}
use Rattle.std.proofs.lemmas.List.{get_or_default, length-map}
use Rattle.std.proofs.lemmas.List.Elements.{All-contains, Contains-get_or}
use Rattle.std.proofs.lemmas.List.Quantifiers.{position-Some}
use Rattle.std.proofs.lemmas.Option.{slice_get_within}
use Rattle.std.proofs.lemmas.Slice.Eq.{bytes_eq-Decides}
use Rattle.target_graph.specs.declared.target.Pair.{Pair}
use Rattle.target_graph.specs.declared.target.Target.{Target}
use Rattle.target_graph.specs.Faults.{IsRepeat}
use Rattle.target_graph.specs.Names.{stem}
use Rattle.target_graph.specs.Workspace.{pairs_of, stems_of, stem_at, Sees, IsVisible}
use Rattle.target_graph.specs.Stems.{IsNumbering, AreGroups, IsSeen}
use Rattle.target_graph.specs.Walk.{AreMarks}
use Rattle.target_graph.proofs.SeenStems.{same_index, sees_seen, seen_sees}

within_stems : (targets : List Target) (t p : ℕ) → Sees targets t p → p < length (stems_of (pairs_of targets))
within_stems targets t p s =
    let h = slice_get_within (pairs_of targets) p s.pair s.there in
    subst (λ n. p < n) (sym (length-map (pairs_of targets) (λ (x : Pair). stem x.path))) h

-- the stem of a pair is the key of its number
key_of : (targets : List Target) (keys : List (List ℕ)) (numbers : List ℕ) (t p : ℕ) → IsNumbering (stems_of (pairs_of targets)) keys numbers → Sees targets t p
    → get_or keys (get_or numbers p 0) [] ≡ stem_at targets p
key_of targets keys numbers t p n s = n.named p (within_stems targets t p s)

-- a pair of the group that the target sees
pub group_shows : (targets : List Target) (keys : List (List ℕ)) (numbers : List ℕ) (groups : List (List ℕ)) (t : ℕ) (marks : List Bool) (name : List ℕ) (number : ℕ) (found : Option ℕ)
    → IsNumbering (stems_of (pairs_of targets)) keys numbers → AreGroups numbers (length keys) groups → AreMarks targets (t ∷ []) marks
    → number < length keys → get_or keys number [] ≡ name
    → IfSome found (λ q. Contains (get_or groups number []) q × IsSeen marks (pairs_of targets) q)
    → IfNone found (All (λ q. ¬ (IsSeen marks (pairs_of targets) q)) (get_or groups number []))
    → IfSome found (IsVisible targets t name) × IfNone found ((p : ℕ) → ¬ (IsVisible targets t name p))
group_shows targets keys numbers groups t marks name number (Some p) n g m h e some none =
    let s = seen_sees targets t marks m p some.1 in
    (record { sees = s; named = sym (key_of targets keys numbers t p n s) ∙ (ap (λ k. get_or keys k []) (g.each number p some.0).1 ∙ e) }, tt)
group_shows targets keys numbers groups t marks name number None n g m h e some none = (
  tt,
  λ p v.
      let in' = within_stems targets t p v.sees in
      let same = same_index keys (get_or numbers p 0) number n.distinct (n.within p in') h (key_of targets keys numbers t p n v.sees ∙ (v.named ∙ sym e)) in
      let listed = subst (λ k. Contains (get_or groups k []) p) same (g.whole p (omega (arith, in', n.size))) in
      All-contains (λ q. ¬ (IsSeen marks (pairs_of targets) q)) (get_or groups number []) p none listed (sees_seen targets t marks m p v.sees),
)

pub not_visible : (targets : List Target) (keys : List (List ℕ)) (numbers : List ℕ) (t : ℕ) (name : List ℕ)
    → IsNumbering (stems_of (pairs_of targets)) keys numbers → ¬ (Contains keys name) → (p : ℕ) → ¬ (IsVisible targets t name p)
not_visible targets keys numbers t name n absent p v =
    let w = n.within p (within_stems targets t p v.sees) in
    absent (get_or numbers p 0, w, get_or_default keys (get_or numbers p 0) name [] w ∙ (key_of targets keys numbers t p n v.sees ∙ v.named))

-- the key that an index finds
pub key_found : (keys : List (List ℕ)) (name : List ℕ) (number : ℕ) → position (bytes_eq name) keys ≡ Some number → (number < length keys) × (get_or keys number [] ≡ name)
key_found keys name number p =
    let at = position-Some (bytes_eq name) keys number [] p in
    (at.0, sym ((bytes_eq-Decides name (get_or keys number [])).0 at.1))

-- the pairs of a group are pairs
pub group_within : (targets : List Target) (keys : List (List ℕ)) (numbers : List ℕ) (groups : List (List ℕ)) (number : ℕ) → IsNumbering (stems_of (pairs_of targets)) keys numbers
    → AreGroups numbers (length keys) groups → All (λ q. q < length (pairs_of targets)) (get_or groups number [])
group_within targets keys numbers groups number n g = λ k d h.
    let group = get_or groups number [] in
    let in' = (g.each number (get_or group k d) (Contains-get_or group k d h)).0 in
    omega (arith, in', n.size, length-map (pairs_of targets) (λ (x : Pair). stem x.path))

-- a pair of the same name that stands behind another repeats its stem
visible_repeats : (targets : List Target) (t : ℕ) (name : List ℕ) (p q : ℕ) → p < q → IsVisible targets t name p → IsVisible targets t name q → IsRepeat targets t q
visible_repeats targets t name p q before first second =
    record { earlier = p; before = before; sees_earlier = first.sees; sees = second.sees; same = first.named ∙ sym second.named }

-- where no stem repeats, a name means one pair
pub one_visible : (targets : List Target) (t : ℕ) (name : List ℕ) (found : Option ℕ) → ((t q : ℕ) → ¬ (IsRepeat targets t q)) → IfSome found (IsVisible targets t name)
    → IfSome found (λ pair. (other : ℕ) → IsVisible targets t name other → other ≡ pair)
one_visible targets t name None once visible = tt
one_visible targets t name (Some pair) once visible = λ other v. by_order other v (cases_order other pair)
  where
    by_order : (other : ℕ) → IsVisible targets t name other → (other ≡ pair) ⊎ ((other < pair) ⊎ (pair < other)) → other ≡ pair
    by_order other v (inl same) = same
    by_order other v (inr (inl before)) = absurd (once t pair (visible_repeats targets t name other pair before v visible))
    by_order other v (inr (inr behind)) = absurd (once t other (visible_repeats targets t name pair other behind visible v))
