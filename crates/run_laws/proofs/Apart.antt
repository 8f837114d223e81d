-- Paths of one variable of which neither begins with the other lead to cells that are apart.
use Rattle.std.proofs.Common.{◌≡◌, ◌⊎◌, inl, inr, ℕ, suc, ◌+◌, ◌*◌, ◌≤◌, ◌<◌, ◌==◌, Bool, true, false, ◌&&◌, List, [], ◌∷◌, Option, Some, None, refl, sym, ap, ◌∙◌, subst, arith}
use Rattle.std.specs.Prelude.{nat_lt, if◌then◌else◌}
use Rattle.std.proofs.Math.Nat.{suc-mul}
use Rattle.std.proofs.lemmas.Nat.{mul-le}
use Rattle.std.proofs.lemmas.Bool.{and_parts, true≢false}
use Rattle.oberon_types.specs.declared.origin.Origin.{Origin}
use Rattle.oberon_types.specs.Types.{TyTree, array_ty, record_ty, RecordTree, record_of, BaseTree, no_base, base_of, FieldsTree, no_fields, more_fields, same_name}
use Rattle.oberon_types.specs.Sizes.{size_of, size_of_record, size_of_base, size_of_fields, sees}
use Rattle.run_rules.specs.Cells.{Spot, spot_at, field_among, or_spot, field_spot, base_spot}
use Rattle.run_laws.specs.Paths.{Step, to_field, to_element, element_spot, step_leads, and_on, path_leads, Begins, AreApart, IsWhole, IsWholeRecord, IsWholeBase, AreWhole}

-- a spot lies within so many cells from a place on, and its type is whole
record Lies (place n : ℕ) (s : Spot) : Type 0 where
  from : place ≤ s.place
  to : s.place + size_of s.ty ≤ place + n
  whole : IsWhole s.ty

-- what holds of a spot where there is one
abbrev On : Option Spot → (Spot → Type 0) → Type 0
On None P = Unit {0}
On (Some s) P = P s

on_if : (q : Bool) (s : Spot) (o : Option Spot) (P : Spot → Type 0) → P s → On o P → On (if q then Some s else o) P
on_if true s o P h k = h
on_if false s o P h k = k

on_map : (o : Option Spot) (P Q : Spot → Type 0) → On o P → ((s : Spot) → P s → Q s) → On o Q
on_map None P Q h f = tt
on_map (Some s) P Q h f = f s h

on_or : (a b : Option Spot) (P : Spot → Type 0) → On a P → On b P → On (or_spot a b) P
on_or None b P h k = k
on_or (Some s) b P h k = h

on_both : (a b : Option Spot) (P Q : Spot → Type 0) (R : Spot → Spot → Type 0) → On a P → On b Q → ((s r : Spot) → P s → Q r → R s r) → On a (λ s. On b (λ r. R s r))
on_both None b P Q R h k f = tt
on_both (Some s) None P Q R h k f = tt
on_both (Some s) (Some r) P Q R h k f = f s r h k

on_two_or : (a b c d : Option Spot) (R : Spot → Spot → Type 0) → On a (λ s. On c (λ r. R s r)) → On a (λ s. On d (λ r. R s r)) → On b (λ s. On c (λ r. R s r)) → On b (λ s. On d (λ r. R s r)) → On (or_spot a b) (λ s. On (or_spot c d) (λ r. R s r))
on_two_or None None c d R h k i j = tt
on_two_or None (Some s) None d R h k i j = j
on_two_or None (Some s) (Some r) d R h k i j = i
on_two_or (Some s) b None d R h k i j = k
on_two_or (Some s) b (Some r) d R h k i j = h

-- ---- names and indices

same_head : (x y : ℕ) → (x == y) ≡ true → x ≡ y
same_head x y e = grind arith

names_by : (x y : ℕ) (a b : List ℕ) → (same_name a b ≡ true → a ≡ b) → (q : Bool) → (x == y) ≡ q → (q && same_name a b) ≡ true → (x ∷ a) ≡ (y ∷ b)
names_by x y a b rest true e h = ap (λ z. z ∷ a) (same_head x y e) ∙ ap (λ z. y ∷ z) (rest h)
names_by x y a b rest false e h = absurd (true≢false (sym h))

name_from : (a b : List ℕ) → same_name a b ≡ true → a ≡ b
name_from [] [] e = refl
name_from [] (y ∷ b) e = absurd (true≢false (sym e))
name_from (x ∷ a) [] e = absurd (true≢false (sym e))
name_from (x ∷ a) (y ∷ b) e = names_by x y a b (λ h. name_from a b h) (x == y) refl e

row_end : (i n s : ℕ) → i < n → i * s + s ≤ n * s
row_end i n s h = let k = mul-le (suc i) s n s h (omega arith) in let e = suc-mul i s in omega (arith, k, e)

-- ---- where fields and elements lie

wider : (pl m n : ℕ) (s : Spot) → Lies (pl + m) n s → Lies pl (m + n) s
wider pl m n s h = record { from = omega (arith, h.from); to = omega (arith, h.to); whole = h.whole }

lie_among : (me : List ℕ) (o : Origin) (x : List ℕ) (fs : FieldsTree) (pl : ℕ) → AreWhole fs → On (field_among me o x fs pl) (Lies pl (size_of_fields fs))
lie_among me o x no_fields pl h = tt
lie_among me o x (more_fields name exported t fs) pl h =
    on_if (same_name name x && sees me o exported) (spot_at pl t) (field_among me o x fs (pl + size_of t)) (Lies pl (size_of t + size_of_fields fs))
    (record { from = omega arith; to = omega arith; whole = h.0 })
    (on_map (field_among me o x fs (pl + size_of t)) _ _ (lie_among me o x fs (pl + size_of t) h.1) (λ s k. wider pl (size_of t) (size_of_fields fs) s k))

behind_base : (pl b n m : ℕ) (s : Spot) → m ≡ b + n → Lies (pl + b) n s → Lies pl m s
behind_base pl b n m s e h = record { from = omega (arith, h.from); to = omega (arith, e, h.to); whole = h.whole }

in_base : (pl b n m : ℕ) (s : Spot) → m ≡ b + n → Lies pl b s → Lies pl m s
in_base pl b n m s e h = record { from = h.from; to = omega (arith, e, h.to); whole = h.whole }

mutual
  lie_field : (me x : List ℕ) (r : RecordTree) (pl : ℕ) → IsWholeRecord r → On (field_spot me x r pl) (Lies pl (size_of_record r))
  lie_field me x (record_of o b fs n) pl h =
      on_or (field_among me o x fs (pl + size_of_base b)) (base_spot me x b pl) (Lies pl n)
      (on_map (field_among me o x fs (pl + size_of_base b)) _ _ (lie_among me o x fs (pl + size_of_base b) h.2) (λ s k. behind_base pl (size_of_base b) (size_of_fields fs) n s h.0 k))
      (on_map (base_spot me x b pl) _ _ (lie_base me x b pl h.1) (λ s k. in_base pl (size_of_base b) (size_of_fields fs) n s h.0 k))

  lie_base : (me x : List ℕ) (b : BaseTree) (pl : ℕ) → IsWholeBase b → On (base_spot me x b pl) (Lies pl (size_of_base b))
  lie_base me x no_base pl h = tt
  lie_base me x (base_of r) pl h = lie_field me x r pl h

lie_element_by : (i n : ℕ) (t : TyTree) (pl : ℕ) → IsWhole t → (q : Bool) → nat_lt i n ≡ q → On (if q then Some (spot_at (pl + i * size_of t) t) else None) (Lies pl (n * size_of t))
lie_element_by i n t pl h true e = let k = row_end i n (size_of t) (grind arith) in record { from = omega arith; to = omega (arith, k); whole = h }
lie_element_by i n t pl h false e = tt

lie_step : (me : List ℕ) (a : Step) (t : TyTree) (pl : ℕ) → IsWhole t → On (step_leads me a t pl) (Lies pl (size_of t))
lie_step me (to_field x) (record_ty r) pl h = lie_field me x r pl h
lie_step me (to_element i) (array_ty n t) pl h = lie_element_by i n t pl h (nat_lt i n) refl
lie_step me (to_field x) _ pl h = tt
lie_step me (to_element i) _ pl h = tt

inside : (pl n : ℕ) (u s : Spot) → Lies pl n u → Lies u.place (size_of u.ty) s → Lies pl n s
inside pl n u s h k = record { from = omega (arith, h.from, k.from); to = omega (arith, h.to, k.to); whole = k.whole }

on_and : (o : Option Spot) (go : Spot → Option Spot) (P Q : Spot → Type 0) → On o P → ((u : Spot) → P u → On (go u) Q) → On (and_on o go) Q
on_and None go P Q h f = tt
on_and (Some u) go P Q h f = f u h

lie_path : (me : List ℕ) (p : List Step) (t : TyTree) (pl : ℕ) → IsWhole t → On (path_leads me p t pl) (Lies pl (size_of t))
lie_path me [] t pl h = record { from = omega arith; to = omega arith; whole = h }
lie_path me (a ∷ p) t pl h = on_and (step_leads me a t pl) (λ s. path_leads me p s.ty s.place) (Lies pl (size_of t)) (Lies pl (size_of t)) (lie_step me a t pl h)
    (λ u k. on_map (path_leads me p u.ty u.place) _ _ (lie_path me p u.ty u.place k.whole) (λ s l. inside pl (size_of t) u s k l))

-- ---- two steps that aren't one

not_both : (name x y : List ℕ) (p q : Bool) → (same_name name x && p) ≡ true → (same_name name y && q) ≡ true → same_name x y ≡ false → ⊥
not_both name x y p q h k e =
    let a = name_from name x (and_parts (same_name name x) p h).0 in
    let b = (and_parts (same_name name y) q k).0 in
    true≢false (sym (subst (λ z. same_name z y ≡ true) a b) ∙ e)

one_before : (pl m n : ℕ) (t : TyTree) (r : Spot) → m ≡ size_of t → Lies (pl + m) n r → AreApart (spot_at pl t) r
one_before pl m n t r e h = inl (omega (arith, h.from, e))

turned : (s r : Spot) → AreApart s r → AreApart r s
turned s r (inl h) = inr h
turned s r (inr h) = inl h

among_apart_by : (pl : ℕ) (t : TyTree) (n : ℕ) (q k : Bool) (a b : Option Spot) → (q ≡ true → k ≡ true → ⊥) → On a (Lies (pl + size_of t) n) → On b (Lies (pl + size_of t) n) → On a (λ s. On b (λ r. AreApart s r))
    → On (if q then Some (spot_at pl t) else a) (λ s. On (if k then Some (spot_at pl t) else b) (λ r. AreApart s r))
among_apart_by pl t n true true a b none h g f = absurd (none refl refl)
among_apart_by pl t n true false a b none h g f = on_map b _ _ g (λ r i. one_before pl (size_of t) n t r refl i)
among_apart_by pl t n false true a b none h g f = on_map a _ _ h (λ s i. turned (spot_at pl t) s (one_before pl (size_of t) n t s refl i))
among_apart_by pl t n false false a b none h g f = f

among_apart : (me : List ℕ) (o : Origin) (x y : List ℕ) (fs : FieldsTree) (pl : ℕ) → AreWhole fs → same_name x y ≡ false → On (field_among me o x fs pl) (λ s. On (field_among me o y fs pl) (λ r. AreApart s r))
among_apart me o x y no_fields pl h e = tt
among_apart me o x y (more_fields name exported t fs) pl h e =
    among_apart_by pl t (size_of_fields fs) (same_name name x && sees me o exported) (same_name name y && sees me o exported) (field_among me o x fs (pl + size_of t)) (field_among me o y fs (pl + size_of t))
    (λ i j. not_both name x y (sees me o exported) (sees me o exported) i j e)
    (lie_among me o x fs (pl + size_of t) h.1) (lie_among me o y fs (pl + size_of t) h.1) (among_apart me o x y fs (pl + size_of t) h.1 e)

base_first : (pl b n : ℕ) (s r : Spot) → Lies (pl + b) n s → Lies pl b r → AreApart s r
base_first pl b n s r h k = inr (omega (arith, h.from, k.to))

mutual
  fields_apart : (me x y : List ℕ) (r : RecordTree) (pl : ℕ) → IsWholeRecord r → same_name x y ≡ false → On (field_spot me x r pl) (λ s. On (field_spot me y r pl) (λ z. AreApart s z))
  fields_apart me x y (record_of o b fs n) pl h e =
      let first = λ (q : List ℕ). lie_among me o q fs (pl + size_of_base b) h.2 in
      let based = λ (q : List ℕ). lie_base me q b pl h.1 in
      on_two_or (field_among me o x fs (pl + size_of_base b)) (base_spot me x b pl) (field_among me o y fs (pl + size_of_base b)) (base_spot me y b pl) AreApart
      (among_apart me o x y fs (pl + size_of_base b) h.2 e)
      (on_both (field_among me o x fs (pl + size_of_base b)) (base_spot me y b pl) _ _ AreApart (first x) (based y) (λ s z i j. base_first pl (size_of_base b) (size_of_fields fs) s z i j))
      (on_both (base_spot me x b pl) (field_among me o y fs (pl + size_of_base b)) _ _ AreApart (based x) (first y) (λ s z i j. turned z s (base_first pl (size_of_base b) (size_of_fields fs) z s j i)))
      (bases_apart me x y b pl h.1 e)

  bases_apart : (me x y : List ℕ) (b : BaseTree) (pl : ℕ) → IsWholeBase b → same_name x y ≡ false → On (base_spot me x b pl) (λ s. On (base_spot me y b pl) (λ z. AreApart s z))
  bases_apart me x y no_base pl h e = tt
  bases_apart me x y (base_of r) pl h e = fields_apart me x y r pl h e

in_order : (i j : ℕ) → (i == j) ≡ false → (i < j) ⊎ (j < i)
in_order i j e = grind arith

rows_apart : (i j : ℕ) (t : TyTree) (pl : ℕ) → (i < j) ⊎ (j < i) → AreApart (spot_at (pl + i * size_of t) t) (spot_at (pl + j * size_of t) t)
rows_apart i j t pl (inl h) = let k = row_end i j (size_of t) h in inl (omega (arith, k))
rows_apart i j t pl (inr h) = let k = row_end j i (size_of t) h in inr (omega (arith, k))

elements_apart_by : (i j : ℕ) (t : TyTree) (pl : ℕ) → (i == j) ≡ false → (q k : Bool) → On (if q then Some (spot_at (pl + i * size_of t) t) else None) (λ s. On (if k then Some (spot_at (pl + j * size_of t) t) else None) (λ r. AreApart s r))
elements_apart_by i j t pl e true true = rows_apart i j t pl (in_order i j e)
elements_apart_by i j t pl e true false = tt
elements_apart_by i j t pl e false k = tt

-- whether two steps are one
abbrev is_one : Step → Step → Bool
is_one (to_field x) (to_field y) = same_name x y
is_one (to_element i) (to_element j) = i == j
is_one (to_field x) (to_element j) = false
is_one (to_element i) (to_field y) = false

one_step : (a b : Step) → is_one a b ≡ true → a ≡ b
one_step (to_field x) (to_field y) e = ap to_field (name_from x y e)
one_step (to_element i) (to_element j) e = ap to_element (same_head i j e)
one_step (to_field x) (to_element j) e = absurd (true≢false (sym e))
one_step (to_element i) (to_field y) e = absurd (true≢false (sym e))

nowhere : (o : Option Spot) (R : Spot → Spot → Type 0) → On o (λ s. On None (λ r. R s r))
nowhere None R = tt
nowhere (Some s) R = tt

steps_apart : (me : List ℕ) (a b : Step) (t : TyTree) (pl : ℕ) → IsWhole t → is_one a b ≡ false → On (step_leads me a t pl) (λ s. On (step_leads me b t pl) (λ r. AreApart s r))
steps_apart me (to_field x) (to_field y) (record_ty r) pl h e = fields_apart me x y r pl h e
steps_apart me (to_element i) (to_element j) (array_ty n t) pl h e = elements_apart_by i j t pl e (nat_lt i n) (nat_lt j n)
steps_apart me (to_element i) (to_field y) (array_ty n t) pl h e = nowhere (element_spot i n t pl) AreApart
steps_apart me (to_field x) (to_element j) (record_ty r) pl h e = nowhere (field_spot me x r pl) AreApart
steps_apart me (to_field x) _ _ pl h e = tt
steps_apart me (to_element i) _ _ pl h e = tt

-- ---- paths

within_apart : (u v s r : Spot) → AreApart u v → Lies u.place (size_of u.ty) s → Lies v.place (size_of v.ty) r → AreApart s r
within_apart u v s r (inl h) j k = inl (omega (arith, h, j.to, k.from))
within_apart u v s r (inr h) j k = inr (omega (arith, h, k.to, j.from))

on_and_two : (a b : Option Spot) (f g : Spot → Option Spot) (R : Spot → Spot → Type 0) → On a (λ u. On b (λ v. On (f u) (λ s. On (g v) (λ r. R s r)))) → On (and_on a f) (λ s. On (and_on b g) (λ r. R s r))
on_and_two None b f g R h = tt
on_and_two (Some u) None f g R h = nowhere (f u) R
on_and_two (Some u) (Some v) f g R h = h

on_two_map : (a b : Option Spot) (P Q : Spot → Spot → Type 0) → On a (λ s. On b (λ r. P s r)) → ((s r : Spot) → P s r → Q s r) → On a (λ s. On b (λ r. Q s r))
on_two_map None b P Q h f = tt
on_two_map (Some s) None P Q h f = tt
on_two_map (Some s) (Some r) P Q h f = f s r h

-- with that a spot lies where a step leads
on_with : (a b : Option Spot) (P : Spot → Type 0) (R : Spot → Spot → Type 0) → On a P → On b P → On a (λ s. On b (λ r. R s r)) → On a (λ s. On b (λ r. P s × P r × R s r))
on_with None b P R h k f = tt
on_with (Some s) None P R h k f = tt
on_with (Some s) (Some r) P R h k f = (h, k, f)

-- they are apart, or one begins with the other
abbrev Either : List ℕ → List Step → List Step → TyTree → ℕ → Type 0
Either me p q t pl = On (path_leads me p t pl) (λ s. On (path_leads me q t pl) (λ r. AreApart s r)) ⊎ (Begins p q ⊎ Begins q p)

begins_on : (a : Step) (p q : List Step) → Begins p q → Begins (a ∷ p) (a ∷ q)
begins_on a p q h = (h.0, ap (λ l. a ∷ l) h.1)

one_further : (me : List ℕ) (a : Step) (p q : List Step) (o : Option Spot) → ((s : Spot) → o ≡ Some s → Either me p q s.ty s.place)
    → On (and_on o (λ s. path_leads me p s.ty s.place)) (λ s. On (and_on o (λ z. path_leads me q z.ty z.place)) (λ r. AreApart s r)) ⊎ (Begins (a ∷ p) (a ∷ q) ⊎ Begins (a ∷ q) (a ∷ p))
one_further me a p q None f = inl tt
one_further me a p q (Some u) f = further (f u refl)
  where
    further : Either me p q u.ty u.place → On (path_leads me p u.ty u.place) (λ s. On (path_leads me q u.ty u.place) (λ r. AreApart s r)) ⊎ (Begins (a ∷ p) (a ∷ q) ⊎ Begins (a ∷ q) (a ∷ p))
    further (inl h) = inl h
    further (inr (inl h)) = inr (inl (begins_on a p q h))
    further (inr (inr h)) = inr (inr (begins_on a q p h))

whole_at : (o : Option Spot) (pl n : ℕ) → On o (Lies pl n) → (s : Spot) → o ≡ Some s → IsWhole s.ty
whole_at o pl n h s e = (subst (λ z. On z (Lies pl n)) e h).whole

paths_by : (me : List ℕ) (a b : Step) (p q : List Step) (t : TyTree) (pl : ℕ) → ((s : Spot) → IsWhole s.ty → Either me p q s.ty s.place) → IsWhole t → (k : Bool) → is_one a b ≡ k → Either me (a ∷ p) (b ∷ q) t pl
paths_by me a b p q t pl rest h true e = subst (λ z. Either me (a ∷ p) (z ∷ q) t pl) (one_step a b e) (one_further me a p q (step_leads me a t pl) (λ s i. rest s (whole_at (step_leads me a t pl) pl (size_of t) (lie_step me a t pl h) s i)))
paths_by me a b p q t pl rest h false e = inl (on_and_two (step_leads me a t pl) (step_leads me b t pl) (λ s. path_leads me p s.ty s.place) (λ s. path_leads me q s.ty s.place) AreApart
    (on_two_map (step_leads me a t pl) (step_leads me b t pl) _ _
    (on_with (step_leads me a t pl) (step_leads me b t pl) (Lies pl (size_of t)) AreApart (lie_step me a t pl h) (lie_step me b t pl h) (steps_apart me a b t pl h e))
    (λ u v k. on_both (path_leads me p u.ty u.place) (path_leads me q v.ty v.place) _ _ AreApart (lie_path me p u.ty u.place k.0.whole) (lie_path me q v.ty v.place k.1.whole) (λ s r i j. within_apart u v s r k.2 i j))))

paths : (me : List ℕ) (p q : List Step) (t : TyTree) (pl : ℕ) → IsWhole t → Either me p q t pl
paths me [] q t pl h = inr (inl (q, refl))
paths me (a ∷ p) [] t pl h = inr (inr (a ∷ p, refl))
paths me (a ∷ p) (b ∷ q) t pl h = paths_by me a b p q t pl (λ s k. paths me p q s.ty s.place k) h (is_one a b) refl

reached : (o z : Option Spot) (s r : Spot) → o ≡ Some s → z ≡ Some r → On o (λ u. On z (λ v. AreApart u v)) → AreApart s r
reached o z s r e k h = subst (λ y. On y (λ v. AreApart s v)) k (subst (λ y. On y (λ u. On z (λ v. AreApart u v))) e h)

pub paths_apart : (me : List ℕ) (p q : List Step) (t : TyTree) (place : ℕ) (s r : Spot) → IsWhole t → path_leads me p t place ≡ Some s → path_leads me q t place ≡ Some r → AreApart s r ⊎ (Begins p q ⊎ Begins q p)
paths_apart me p q t place s r h e k = given (paths me p q t place h)
  where
    given : Either me p q t place → AreApart s r ⊎ (Begins p q ⊎ Begins q p)
    given (inl i) = inl (reached (path_leads me p t place) (path_leads me q t place) s r e k i)
    given (inr i) = inr i
