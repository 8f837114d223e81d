-- Exports go to their places one after another, and none replaces another.
use Rattle.std.specs.Prelude.{ℕ, zero, suc, ◌≡◌, ◌<◌, length, drop, slice_get, Bool, true, false, List, [], ◌∷◌, ◌++◌, map, Option, Some, None, if◌then◌else◌, refl}
use Rattle.std.proofs.Common.{ap, sym, subst, ◌∙◌, arith, true≢false}
use Rattle.std.specs.Borrow.{Bor}
use Rattle.std.specs.BTreeMap.{insert_entry}
use Rattle.std.specs.Cmp.Lexicographic.{slice_cmp}
use Rattle.std.specs.List.{AllByRecursion, IsDistinct}
use Rattle.std.specs.Map.{keys_of}
use Rattle.std.specs.Option.{option_map}
use Rattle.std.specs.Ordering.{nat_cmp, is_lt, match_ordering}
use Rattle.std.specs.declared.cmp.Ordering.{Ordering}
use Rattle.std.specs.declared.cmp.Ordering.TheVariants.{Less, Equal, Greater}
use Rattle.std.proofs.lemmas.Bool.Decides.{nat_tests}
use Rattle.std.proofs.lemmas.Cmp.{same_from_slice_cmp, nat_list_eq_equiv}
use Rattle.std.proofs.lemmas.Map.Keys.{IsDistinct-head, IsDistinct-tail, IsDistinct-cons}
use Rattle.std.proofs.lemmas.Map.Lookups.{exact_bytes}
use Rattle.indexmap.specs.IndexMap.{insert_entry as insert_last}
use Rattle.oberon_types.specs.declared.entity.Entity.{Entity}
use Rattle.oberon_types.specs.Entities.{EntityTree, Export}
use Rattle.oberon_types.specs.Memory.{plain_entity, plain_export}
use Rattle.oberon_types.specs.Types.{same_name}
use Rattle.oberon_infer.specs.declared.scope.Binding.{Binding}
use Rattle.oberon_infer.specs.Memory.{plain_meaning, plain_bindings}
use Rattle.oberon_rules.specs.Order.{name_before}
use Rattle.oberon_rules.specs.Views.{written, map_entity, map_export, entity_of, put_in, put_entity, exported_in}
use Rattle.oberon_module.specs.Sorted.{sorted_exports, written_exports, names_of, put_at, IsNewIn, IsNewAt}

-- ---- one export more

name_first : (a b : List ℕ) (o : Ordering) → o ≡ slice_cmp nat_cmp a b → is_lt o ≡ name_before a b
name_first = same_from_slice_cmp nat_cmp is_lt name_before refl (λ _ _. refl) (λ _ _. refl) (λ x y xs ys o h. grind (arith, nat_tests))

differ : (a b : List ℕ) → same_name a b ≡ false → a ≡ b → ⊥
differ a b f e = true≢false (sym (nat_list_eq_equiv.refl a) ∙ ap (same_name a) e ∙ f)

abbrev pub name_cmp : Bor (List ℕ) → Bor (List ℕ) → Ordering
name_cmp a b = slice_cmp nat_cmp a.now b.now

abbrev export_of : Bor (List ℕ) → Entity → Export
export_of k v = record { name = k.now; entity = plain_entity v }

insert_by : (o : Ordering) (b : Bool) (k : Bor (List ℕ)) (v : Entity) (x : Bor (List ℕ) × Entity) (xs : List (Bor (List ℕ) × Entity)) → is_lt o ≡ b → (o ≡ Equal → ⊥) → sorted_exports (insert_entry name_cmp xs k v) ≡ put_in (export_of k v) (sorted_exports xs) → sorted_exports (match_ordering o ((k, v) ∷ x ∷ xs) ((x.0, v) ∷ xs) (x ∷ insert_entry name_cmp xs k v)) ≡ (if b then export_of k v ∷ export_of x.0 x.1 ∷ sorted_exports xs else export_of x.0 x.1 ∷ put_in (export_of k v) (sorted_exports xs))
insert_by Less true k v x xs e n rest = refl
insert_by Less false k v x xs e n rest = absurd cc
insert_by Equal b k v x xs e n rest = absurd (n refl)
insert_by Greater true k v x xs e n rest = absurd cc
insert_by Greater false k v x xs e n rest = ap (λ (es : List Export). export_of x.0 x.1 ∷ es) rest

pub inserted : (xs : List (Bor (List ℕ) × Entity)) (k : Bor (List ℕ)) (v : Entity) → IsNewIn k.now (sorted_exports xs) → sorted_exports (insert_entry name_cmp xs k v) ≡ put_in (export_of k v) (sorted_exports xs)
inserted [] k v n = refl
inserted (x ∷ xs) k v n =
    insert_by (name_cmp k x.0) (name_before k.now x.0.now) k v x xs (name_first k.now x.0.now (name_cmp k x.0) refl)
    (λ e. differ k.now x.0.now n.0 (exact_bytes k.now x.0.now e)) (inserted xs k v n.1)

-- ---- names that differ

new_by : (b : Bool) (x : List ℕ) (e y : Export) (ys zs : List Export) → same_name x e.name ≡ false → same_name x y.name ≡ false → IsNewIn x ys → IsNewIn x zs → IsNewIn x (if b then e ∷ y ∷ ys else y ∷ zs)
new_by true x e y ys zs f g n m = (f, (g, n))
new_by false x e y ys zs f g n m = (g, m)

new_put : (x : List ℕ) (e : Export) (es : List Export) → same_name x e.name ≡ false → IsNewIn x es → IsNewIn x (put_in e es)
new_put x e [] f n = (f, tt)
new_put x e (y ∷ ys) f n = new_by (name_before e.name y.name) x e y ys (put_in e ys) f n.0 n.1 (new_put x e ys f n.1)

new_entity : (b : Bool) (x y : List ℕ) (o : Option EntityTree) (es : List Export) → same_name x y ≡ false → IsNewIn x es → IsNewIn x (if b then put_entity y o es else es)
new_entity true x y None es f n = n
new_entity true x y (Some e) es f n = new_put x (record { name = y; entity = e }) es f n
new_entity false x y o es f n = n

new_exported : (x : List ℕ) (bs : List (List ℕ × Binding)) → AllByRecursion (λ (y : List ℕ). same_name x y ≡ false) (keys_of bs) → IsNewIn x (exported_in (plain_bindings bs))
new_exported x [] n = tt
new_exported x (b ∷ bs) n = new_entity b.1.exported x b.0 (entity_of (plain_meaning b.1.meaning)) (exported_in (plain_bindings bs)) n.0 (new_exported x bs n.1)

apart_by : (b : Bool) (e y : Export) (ys : List Export) → IsNewIn e.name (y ∷ ys) → IsDistinct same_name (names_of (y ∷ ys)) → IsDistinct same_name (names_of (put_in e ys)) → IsDistinct same_name (names_of (if b then e ∷ y ∷ ys else y ∷ put_in e ys))
apart_by true e y ys n d rest = IsDistinct-cons same_name e.name (names_of (y ∷ ys)) n d
apart_by false e y ys n d rest =
    IsDistinct-cons same_name y.name (names_of (put_in e ys))
    (new_put y.name e ys (sym (nat_list_eq_equiv.symm e.name y.name) ∙ n.0) (IsDistinct-head same_name y.name (names_of ys) d)) rest

apart_put : (e : Export) (es : List Export) → IsNewIn e.name es → IsDistinct same_name (names_of es) → IsDistinct same_name (names_of (put_in e es))
apart_put e [] n d = IsDistinct-cons same_name e.name [] tt d
apart_put e (y ∷ ys) n d = apart_by (name_before e.name y.name) e y ys n d (apart_put e ys n.1 (IsDistinct-tail same_name y.name (names_of ys) d))

apart_entity : (b : Bool) (x : List ℕ) (o : Option EntityTree) (es : List Export) → IsNewIn x es → IsDistinct same_name (names_of es) → IsDistinct same_name (names_of (if b then put_entity x o es else es))
apart_entity true x None es n d = d
apart_entity true x (Some e) es n d = apart_put (record { name = x; entity = e }) es n d
apart_entity false x o es n d = d

apart_exported : (bs : List (List ℕ × Binding)) → IsDistinct same_name (keys_of bs) → IsDistinct same_name (names_of (exported_in (plain_bindings bs)))
apart_exported [] d = d
apart_exported (b ∷ bs) d =
    apart_entity b.1.exported b.0 (entity_of (plain_meaning b.1.meaning)) (exported_in (plain_bindings bs))
    (new_exported b.0 bs (IsDistinct-head same_name b.0 (keys_of bs) d))
    (apart_exported bs (IsDistinct-tail same_name b.0 (keys_of bs) d))

names_written : (es : List Export) → names_of (map (map_export written) es) ≡ names_of es
names_written [] = refl
names_written (e ∷ es) = ap (λ (xs : List (List ℕ)). e.name ∷ xs) (names_written es)

pub apart : (bs : List (List ℕ × Binding)) → IsDistinct same_name (keys_of bs) → IsDistinct same_name (names_of (written_exports bs))
apart bs d = subst (λ (xs : List (List ℕ)). IsDistinct same_name xs) (sym (names_written (exported_in (plain_bindings bs)))) (apart_exported bs d)

-- ---- a binding after another, from the last to the first

written_by : (b : Bool) (e y : Export) (ys : List Export) → map (map_export written) (put_in e ys) ≡ put_in (map_export written e) (map (map_export written) ys) → map (map_export written) (if b then e ∷ y ∷ ys else y ∷ put_in e ys) ≡ (if b then map_export written e ∷ map_export written y ∷ map (map_export written) ys else map_export written y ∷ put_in (map_export written e) (map (map_export written) ys))
written_by true e y ys rest = refl
written_by false e y ys rest = ap (λ (es : List Export). map_export written y ∷ es) rest

written_put : (e : Export) (es : List Export) → map (map_export written) (put_in e es) ≡ put_in (map_export written e) (map (map_export written) es)
written_put e [] = refl
written_put e (y ∷ ys) = written_by (name_before e.name y.name) e y ys (written_put e ys)

written_entity : (b : Bool) (x : List ℕ) (o : Option EntityTree) (es : List Export) → (if b then put_entity x (option_map (map_entity written) o) (map (map_export written) es) else map (map_export written) es) ≡ map (map_export written) (if b then put_entity x o es else es)
written_entity true x None es = refl
written_entity true x (Some e) es = sym (written_put (record { name = x; entity = e }) es)
written_entity false x o es = refl

step_suc : (bs : List (List ℕ × Binding)) (i : ℕ) → i < length bs → put_at (slice_get bs i) (written_exports (drop (suc i) bs)) ≡ written_exports (drop i bs)
step_suc [] i h = absurd (omega (arith, h))
step_suc (b ∷ bs) zero h = written_entity b.1.exported b.0 (entity_of (plain_meaning b.1.meaning)) (exported_in (plain_bindings bs))
step_suc (b ∷ bs) (suc i) h = step_suc bs i (omega (arith, h))

new_suc : (bs : List (List ℕ × Binding)) (i : ℕ) → i < length bs → IsDistinct same_name (keys_of bs) → IsNewAt (slice_get bs i) (written_exports (drop (suc i) bs))
new_suc [] i h d = absurd (omega (arith, h))
new_suc (b ∷ bs) zero h d =
    subst (λ (xs : List (List ℕ)). AllByRecursion (λ (y : List ℕ). same_name b.0 y ≡ false) xs) (sym (names_written (exported_in (plain_bindings bs))))
    (new_exported b.0 bs (IsDistinct-head same_name b.0 (keys_of bs) d))
new_suc (b ∷ bs) (suc i) h d = new_suc bs i (omega (arith, h)) (IsDistinct-tail same_name b.0 (keys_of bs) d)

pub put_next : (bs : List (List ℕ × Binding)) (i j : ℕ) (old new : List Export) → i ≡ suc j → j < length bs → old ≡ written_exports (drop i bs) → new ≡ put_at (slice_get bs j) old → new ≡ written_exports (drop j bs)
put_next bs i j old new e h was is = is ∙ ap (put_at (slice_get bs j)) (was ∙ ap (λ n. written_exports (drop n bs)) e) ∙ step_suc bs j h

pub new_next : (bs : List (List ℕ × Binding)) (i j : ℕ) (old : List Export) → i ≡ suc j → j < length bs → IsDistinct same_name (keys_of bs) → old ≡ written_exports (drop i bs) → IsNewAt (slice_get bs j) old
new_next bs i j old e h d was = subst (IsNewAt (slice_get bs j)) (sym (was ∙ ap (λ n. written_exports (drop n bs)) e)) (new_suc bs j h d)

-- ---- into the map of the view, in their order

middle : (x : List ℕ) (done : List (List ℕ × Entity)) (e : Export) (rest : List Export) → IsNewIn x (map plain_export done ++ e ∷ rest) → same_name x e.name ≡ false
middle x [] e rest n = n.0
middle x (d ∷ done) e rest n = middle x done e rest n.1

last_by : (b : Bool) (d : List ℕ × Entity) (done : List (List ℕ × Entity)) (x : List ℕ) (v : Entity) → b ≡ false → insert_last same_name done x v ≡ done ++ (x, v) ∷ [] → (if b then (d.0, v) ∷ done else d ∷ insert_last same_name done x v) ≡ d ∷ (done ++ (x, v) ∷ [])
last_by true d done x v f rest = absurd cc
last_by false d done x v f rest = ap (λ (es : List (List ℕ × Entity)). d ∷ es) rest

last : (done : List (List ℕ × Entity)) (x : List ℕ) (v : Entity) (e : Export) (rest : List Export) → e.name ≡ x → IsDistinct same_name (names_of (map plain_export done ++ e ∷ rest)) → insert_last same_name done x v ≡ done ++ (x, v) ∷ []
last [] x v e rest is d = refl
last (y ∷ done) x v e rest is d =
    let head = middle y.0 done e rest (IsDistinct-head same_name y.0 (names_of (map plain_export done ++ e ∷ rest)) d) in
    last_by (same_name x y.0) y done x v (nat_list_eq_equiv.symm x y.0 ∙ ap (same_name y.0) (sym is) ∙ head)
    (last done x v e rest is (IsDistinct-tail same_name y.0 (names_of (map plain_export done ++ e ∷ rest)) d))

pushed : (done : List (List ℕ × Entity)) (x : List ℕ) (v : Entity) (rest : List Export) → map plain_export (done ++ (x, v) ∷ []) ++ rest ≡ map plain_export done ++ plain_export (x, v) ∷ rest
pushed [] x v rest = refl
pushed (d ∷ done) x v rest = ap (λ (es : List Export). plain_export d ∷ es) (pushed done x v rest)

pub shown_next : (all : List Export) (done new : List (List ℕ × Entity)) (x : List ℕ) (k : Bor (List ℕ)) (v : Entity) (old rest : List (Bor (List ℕ) × Entity)) → x ≡ k.now → IsDistinct same_name (names_of all) → map plain_export done ++ sorted_exports old ≡ all → old ≡ (k, v) ∷ rest → new ≡ insert_last same_name done x v → map plain_export new ++ sorted_exports rest ≡ all
shown_next all done new x k v old rest same d was popped is =
    let now : map plain_export done ++ export_of k v ∷ sorted_exports rest ≡ all = ap (λ (es : List (Bor (List ℕ) × Entity)). map plain_export done ++ sorted_exports es) (sym popped) ∙ was in
    ap (λ (es : List (List ℕ × Entity)). map plain_export es ++ sorted_exports rest) (is ∙ last done x v (export_of k v) (sorted_exports rest) (sym same) (subst (λ (es : List Export). IsDistinct same_name (names_of es)) (sym now) d))
    ∙ pushed done x v (sorted_exports rest)
    ∙ ap (λ (y : List ℕ). map plain_export done ++ plain_export (y, v) ∷ sorted_exports rest) same
    ∙ now
