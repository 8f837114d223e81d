-- Values without floats.
use Rattle.std.proofs.Common.{◌≡◌, ◌||◌, ◌++◌, ℕ, List, [], ◌∷◌, map, Bool, true, false, refl}
use Rattle.std.specs.Ordering.{match_ordering, nat_cmp}
use Rattle.std.specs.declared.cmp.Ordering.{Ordering}
use Rattle.std.specs.declared.cmp.Ordering.TheVariants.{Less, Equal, Greater}
use Rattle.std.specs.Cmp.Lexicographic.{slice_cmp}
use Rattle.serde_json.specs.Data.{Data, Members, member, no_members, put}
use Rattle.serde_json.specs.View.{view, items_of}
use Rattle.serde_json.specs.Written.{has_float, items_have_float, members_have_float}
use Rattle.serde_json.specs.declared.value.Value.{Value}

pub both_false : (a b : Bool) → a ≡ false → b ≡ false → (a || b) ≡ false
both_false true b h k = h
both_false false b h k = k

left_false : (a b : Bool) → (a || b) ≡ false → a ≡ false
left_false true b h = h
left_false false b h = refl

right_false : (a b : Bool) → (a || b) ≡ false → b ≡ false
right_false true b h = cc
right_false false b h = h

by_order : (o : Ordering) (a b c : Members) → members_have_float a ≡ false → members_have_float b ≡ false → members_have_float c ≡ false
    → members_have_float (match_ordering o a b c) ≡ false
by_order Less a b c x y z = x
by_order Equal a b c x y z = y
by_order Greater a b c x y z = z

pub exact_put : (k : List ℕ) (d : Data) (ms : Members) → has_float d ≡ false → members_have_float ms ≡ false → members_have_float (put k d ms) ≡ false
exact_put k d no_members exact none = both_false (has_float d) false exact refl
exact_put k d (member l e ms) exact all =
    let e_exact = left_false (has_float e) (members_have_float ms) all in
    let ms_exact = right_false (has_float e) (members_have_float ms) all in
    by_order (slice_cmp nat_cmp k l) (member k d (member l e ms)) (member l d ms) (member l e (put k d ms))
    (both_false (has_float d) (members_have_float (member l e ms)) exact all)
    (both_false (has_float d) (members_have_float ms) exact ms_exact)
    (both_false (has_float e) (members_have_float (put k d ms)) e_exact (exact_put k d ms exact ms_exact))

pub exact_push : (vs : List Value) (v : Value) → items_have_float (items_of (map view vs)) ≡ false → has_float (view v) ≡ false
    → items_have_float (items_of (map view (vs ++ v ∷ []))) ≡ false
exact_push [] v none exact = both_false (has_float (view v)) false exact refl
exact_push (w ∷ vs) v all exact =
    let w_exact = left_false (has_float (view w)) (items_have_float (items_of (map view vs))) all in
    let vs_exact = right_false (has_float (view w)) (items_have_float (items_of (map view vs))) all in
    both_false (has_float (view w)) (items_have_float (items_of (map view (vs ++ v ∷ [])))) w_exact (exact_push vs v vs_exact exact)
