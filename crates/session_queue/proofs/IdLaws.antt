-- When two ids are the same, and lists of ids of which no two are.
use Rattle.std.proofs.Common.{◌≡◌, ◌||◌, Bool, true, false, List, [], ◌∷◌, ◌++◌, refl, ap, sym, ◌∙◌, true≢false}
use Rattle.std.specs.Prelude.{if◌then◌else◌}
use Rattle.std.proofs.lemmas.Bool.Decides.{Decides-int_eq}
use Rattle.std.proofs.lemmas.List.{append-nil}
use Rattle.std.proofs.lemmas.Slice.Eq.{bytes_eq-Decides}
use Rattle.rpc_peer.specs.declared.message.Id.{Id}
use Rattle.rpc_peer.specs.declared.message.Id.TheVariants.{Number, Text}
use Rattle.rpc_peer.specs.OpenIds.{has_id, same_id}
use Rattle.session_queue.specs.IdSet.{equal}
use Rattle.session_queue.specs.Waiting.{AreApart}

-- a set compares ids as texts and numbers
pub equal_is_same : (a b : Id) → equal a b ≡ same_id a b
equal_is_same (Number m) (Number n) = refl
equal_is_same (Number m) (Text t) = refl
equal_is_same (Text s) (Number n) = refl
equal_is_same (Text s) (Text t) = refl

pub same_is : (a b : Id) → same_id a b ≡ true → a ≡ b
same_is (Number m) (Number n) same = ap Number ((Decides-int_eq m n).0 same)
same_is (Number m) (Text t) same = absurd (true≢false (sym same))
same_is (Text s) (Number n) same = absurd (true≢false (sym same))
same_is (Text s) (Text t) same = ap Text ((bytes_eq-Decides s t).0 same)

pub same_id_refl : (a : Id) → same_id a a ≡ true
same_id_refl (Number n) = (Decides-int_eq n n).1 refl
same_id_refl (Text t) = (bytes_eq-Decides t t).1 refl

pub apart_back : (a b : Id) → same_id a b ≡ false → same_id b a ≡ false
apart_back a b away = by (same_id b a) refl
  where
    by : (same : Bool) → same_id b a ≡ same → same_id b a ≡ false
    by true here = absurd (true≢false (sym (same_id_refl a) ∙ sym (ap (same_id a) (same_is b a here)) ∙ away))
    by false here = here

-- ---- a test of two parts

pub or_false : (a b : Bool) → (a || b) ≡ false → (a ≡ false) × (b ≡ false)
or_false true b none = absurd (true≢false none)
or_false false b none = (refl, none)

pub both_false : (a b : Bool) → a ≡ false → b ≡ false → (a || b) ≡ false
both_false a b left right = ap (λ (c : Bool). c || b) left ∙ right

pub found_behind : (a b : Bool) → b ≡ true → (a || b) ≡ true
found_behind true b found = refl
found_behind false b found = found

-- ---- one id in the middle of others

-- another id is found as it is without it
pub has_id_around : (id : Id) (before : List Id) (other : Id) (after : List Id) → same_id id other ≡ false → has_id id (before ++ other ∷ after) ≡ has_id id (before ++ after)
has_id_around id [] other after away = ap (λ (c : Bool). c || has_id id after) away
has_id_around id (first ∷ before) other after away = ap (λ (c : Bool). same_id id first || c) (has_id_around id before other after away)

-- what isn't there isn't this one
pub apart_from_middle : (id : Id) (before : List Id) (other : Id) (after : List Id) → has_id id (before ++ other ∷ after) ≡ false → same_id id other ≡ false
apart_from_middle id [] other after none = (or_false (same_id id other) (has_id id after) none).0
apart_from_middle id (first ∷ before) other after none =
    apart_from_middle id before other after (or_false (same_id id first) (has_id id (before ++ other ∷ after)) none).1

-- it stands once
pub middle_apart : (before : List Id) (id : Id) (after : List Id) → AreApart (before ++ id ∷ after) → has_id id (before ++ after) ≡ false
middle_apart [] id after apart = apart.0
middle_apart (first ∷ before) id after apart =
    both_false (same_id id first) (has_id id (before ++ after)) (apart_back first id (apart_from_middle first before id after apart.0)) (middle_apart before id after apart.1)

pub AreApart-without : (before : List Id) (id : Id) (after : List Id) → AreApart (before ++ id ∷ after) → AreApart (before ++ after)
AreApart-without [] id after apart = apart.1
AreApart-without (first ∷ before) id after apart =
    (sym (has_id_around first before id after (apart_from_middle first before id after apart.0)) ∙ apart.0, AreApart-without before id after apart.1)

pub AreApart-push : (ids : List Id) (id : Id) → AreApart ids → has_id id ids ≡ false → AreApart (ids ++ id ∷ [])
AreApart-push [] id apart none = (refl, tt)
AreApart-push (first ∷ ids) id apart none =
    let parts = or_false (same_id id first) (has_id id ids) none in
    (has_id_around first ids id [] (apart_back id first parts.0) ∙ (ap (has_id first) (append-nil ids) ∙ apart.0), AreApart-push ids id apart.1 parts.1)

-- what is found behind one more
pub has_id_push : (ids : List Id) (more id : Id) → has_id id (ids ++ more ∷ []) ≡ (if same_id more id then true else has_id id ids)
has_id_push ids more id = by (same_id more id) refl
  where
    found : (ids : List Id) → has_id more (ids ++ more ∷ []) ≡ true
    found [] = ap (λ (b : Bool). b || false) (same_id_refl more)
    found (first ∷ ids) = found_behind (same_id more first) (has_id more (ids ++ more ∷ [])) (found ids)

    by : (same : Bool) → same_id more id ≡ same → has_id id (ids ++ more ∷ []) ≡ (if same_id more id then true else has_id id ids)
    by true here = rw here (ap (λ (q : Id). has_id q (ids ++ more ∷ [])) (sym (same_is more id here)) ∙ found ids)
    by false away = rw away (has_id_around id ids more [] (apart_back more id away) ∙ ap (has_id id) (append-nil ids))
