-- Records while they are made.
use Rattle.std.specs.Prelude.{ℕ, ◌≡◌, ◌==◌, Bool, true, false, ◌&&◌, ◌||◌, List, [], ◌∷◌, ◌++◌, is_some, Option, Some, None, if◌then◌else◌, refl}
use Rattle.std.proofs.Common.{ap, sym, ◌∙◌, arith}
use Rattle.std.specs.List.{list_any}
use Rattle.std.proofs.lemmas.Bool.Decides.{nat_tests}
use Rattle.ob_text.specs.declared.code.Code.TheVariants as codes_of
use Rattle.ob_text.specs.declared.span.Span.{Span}
use Rattle.oberon_tree.specs.declared.leaf.IdentDef.{IdentDef}
use Rattle.oberon_tree.specs.Trees.{TypeTree}
use Rattle.oberon_types.specs.declared.origin.Origin.{Origin}
use Rattle.oberon_types.specs.declared.ty.Field.{Field}
use Rattle.oberon_types.specs.Types.{TyTree, unknown_ty, record_ty, BaseTree, same_name}
use Rattle.oberon_types.specs.Types.{FieldsTree as Fields, no_fields as no_more, more_fields as field_before}
use Rattle.oberon_types.specs.Sizes.{too_large, field_in, field_of_base, record_from, sees}
use Rattle.oberon_types.specs.Memory.{plain_ty, fields_list}
use Rattle.indexmap.specs.IndexSet.{insert_key}
use Rattle.oberon_rules.specs.Scopes.{Scopes, Said, broken, row}
use Rattle.oberon_rules.specs.TypeRules.{BaseMeant, without_base, with_base, unclear_base, bad_base, base_tree, limited, record_is, record_row, list_origin, first_new, is_taken, add_field, add_fields, fields_twice, type_is, type_says}
use Rattle.oberon_declare.specs.Records.{is_usable, list_type, list_type_says}

-- ---- a field at the end

pub field_last : (fs : List Field) (f : Field) → fields_list (fs ++ f ∷ []) ≡ add_field (fields_list fs) f.name f.exported (plain_ty f.ty)
field_last [] f = refl
field_last (g ∷ fs) f = ap (field_before g.name g.exported (plain_ty g.ty)) (field_last fs f)

-- ---- what is found with one more field

same_or : (b : Bool) (t : TyTree) (o : Option TyTree) → is_some (if b then Some t else o) ≡ (b || is_some o)
same_or true t o = refl
same_or false t o = refl

or_again : (a b c : Bool) → a || (b || c) ≡ (a || b) || c
or_again true b c = refl
or_again false b c = refl

found_by : (c : Bool) (t : TyTree) (o p : Option TyTree) (b : Bool) → is_some p ≡ (is_some o || b) → is_some (if c then Some t else p) ≡ (is_some (if c then Some t else o) || b)
found_by true t o p b same = refl
found_by false t o p b same = same

pub found_more : (me : List ℕ) (o : Origin) (x : List ℕ) (fs : Fields) (name : List ℕ) (exported : Bool) (t : TyTree) → is_some (field_in me o x (add_field fs name exported t)) ≡ (is_some (field_in me o x fs) || (same_name name x && sees me o exported))
found_more me o x no_more name exported t = only (same_name name x && sees me o exported) t
  where
    only : (b : Bool) (t : TyTree) → is_some (if b then Some t else None) ≡ b
    only true t = refl
    only false t = refl
found_more me o x (field_before a b u fs) name exported t =
    found_by (same_name a x && sees me o b) u (field_in me o x fs) (field_in me o x (add_field fs name exported t)) (same_name name x && sees me o exported) (found_more me o x fs name exported t)

-- ---- the set of names

eq_mirror : (x y : ℕ) → (x == y) ≡ (y == x)
eq_mirror x y = grind (arith, nat_tests)

same_mirror : (a b : List ℕ) → same_name a b ≡ same_name b a
same_mirror [] [] = refl
same_mirror [] (y ∷ b) = refl
same_mirror (x ∷ a) [] = refl
same_mirror (x ∷ a) (y ∷ b) = ap (λ c. c && same_name a b) (eq_mirror x y) ∙ ap (λ c. (y == x) && c) (same_mirror a b)

any_last : (x : List ℕ) (ks : List (List ℕ)) (k : List ℕ) → list_any (same_name x) (ks ++ k ∷ []) ≡ (list_any (same_name x) ks || same_name x k)
any_last x [] k = or_false (same_name x k)
  where
    or_false : (b : Bool) → (b || false) ≡ b
    or_false true = refl
    or_false false = refl
any_last x (j ∷ ks) k = ap (λ c. same_name x j || c) (any_last x ks k) ∙ or_again (same_name x j) (list_any (same_name x) ks) (same_name x k)

-- a name that isn't there goes last
pub inserted : (x : List ℕ) (ks : List (List ℕ)) (k : List ℕ) → list_any (same_name k) ks ≡ false → list_any (same_name x) (insert_key same_name ks k) ≡ (list_any (same_name x) ks || same_name k x)
inserted x ks k absent = ap (λ b. list_any (same_name x) (if b then ks else ks ++ k ∷ [])) absent ∙ any_last x ks k ∙ ap (λ c. list_any (same_name x) ks || c) (same_mirror x k)

-- a name that is seen, and one that isn't
pub inserted_seen : (x : List ℕ) (ks : List (List ℕ)) (k : List ℕ) (b : Bool) → b ≡ true → list_any (same_name k) ks ≡ false → list_any (same_name x) (insert_key same_name ks k) ≡ (list_any (same_name x) ks || (same_name k x && b))
inserted_seen x ks k b seen absent = inserted x ks k absent ∙ ap (λ c. list_any (same_name x) ks || c) (and_true (same_name k x) ∙ ap (λ c. same_name k x && c) (sym seen))
  where
    and_true : (a : Bool) → a ≡ (a && true)
    and_true true = refl
    and_true false = refl

pub unseen : (p a b : Bool) → b ≡ false → p ≡ (p || (a && b))
unseen true a b e = refl
unseen false true b e = sym e
unseen false false b e = refl

pub left_false : (a b : Bool) → (a || b) ≡ false → a ≡ false
left_false true b e = absurd cc
left_false false b e = refl

-- ---- a record, by its base

pub usable_is : (me : List ℕ) (o : Origin) (fs : Fields) (m : BaseMeant) → is_usable m ≡ true → limited me (record_ty (record_from o (base_tree m) fs)) ≡ record_is me o m fs
usable_is me o fs without_base u = refl
usable_is me o fs (with_base r) u = refl
usable_is me o fs unclear_base u = absurd cc
usable_is me o fs bad_base u = absurd cc

pub unusable_is : (me : List ℕ) (o : Origin) (fs : Fields) (m : BaseMeant) → is_usable m ≡ false → unknown_ty ≡ record_is me o m fs
unusable_is me o fs without_base u = absurd cc
unusable_is me o fs (with_base r) u = absurd cc
unusable_is me o fs unclear_base u = refl
unusable_is me o fs bad_base u = refl

pub usable_row : (me : List ℕ) (o : Origin) (fs : Fields) (word : Span) (rest : List Said) (m : BaseMeant) → is_usable m ≡ true → row (too_large me (record_ty (record_from o (base_tree m) fs))) word codes_of.TypeTooLarge rest ≡ record_row me o m fs word rest
usable_row me o fs word rest without_base u = refl
usable_row me o fs word rest (with_base r) u = refl
usable_row me o fs word rest unclear_base u = absurd cc
usable_row me o fs word rest bad_base u = absurd cc

pub unusable_row : (me : List ℕ) (o : Origin) (fs : Fields) (word : Span) (rest : List Said) (m : BaseMeant) → is_usable m ≡ false → rest ≡ record_row me o m fs word rest
unusable_row me o fs word rest without_base u = absurd cc
unusable_row me o fs word rest (with_base r) u = absurd cc
unusable_row me o fs word rest unclear_base u = refl
unusable_row me o fs word rest bad_base u = refl

-- ---- lists of fields: where no name is new nothing is added, whatever the type

none_by : (me : List ℕ) (o : Origin) (b : BaseTree) (fs : Fields) (d : IdentDef) (ds : List IdentDef) (t : TyTree) (c : Bool) → (if c then first_new (is_taken me o b fs) ds else Some d) ≡ None → (first_new (is_taken me o b fs) ds ≡ None → add_fields me o b fs ds t ≡ fs) → (if c then add_fields me o b fs ds t else add_fields me o b (add_field fs d.name.name (is_some d.export) t) ds t) ≡ fs
none_by me o b fs d ds t true none rest = rest none
none_by me o b fs d ds t false none rest = absurd cc

pub none_added : (me : List ℕ) (o : Origin) (b : BaseTree) (fs : Fields) (ds : List IdentDef) (t : TyTree) → first_new (is_taken me o b fs) ds ≡ None → add_fields me o b fs ds t ≡ fs
none_added me o b fs [] t none = refl
none_added me o b fs (d ∷ ds) t none = none_by me o b fs d ds t (is_taken me o b fs d.name.name) none (none_added me o b fs ds t)

pub list_is_by : (me : List ℕ) (s : Scopes) (o : Origin) (b : BaseTree) (fs : Fields) (ds : List IdentDef) (t : TypeTree) (f : Option IdentDef) → first_new (is_taken me o b fs) ds ≡ f → add_fields me o b fs ds (list_type me s o f t) ≡ add_fields me o b fs ds (type_is me s (list_origin o f) t)
list_is_by me s o b fs ds t None first = none_added me o b fs ds unknown_ty first ∙ sym (none_added me o b fs ds (type_is me s o t) first)
list_is_by me s o b fs ds t (Some d) first = refl

pub list_says_by : (me : List ℕ) (s : Scopes) (o : Origin) (t : TypeTree) (f : Option IdentDef) (rest : List Said) → list_type_says me s o f t rest ≡ (if is_some f then type_says me s (list_origin o f) t rest else rest)
list_says_by me s o t None rest = refl
list_says_by me s o t (Some d) rest = refl

-- ---- which names stand twice doesn't hang on types

pub SameNames : List ℕ → Origin → Fields → Fields → Type 0
SameNames me o fs gs = (x : List ℕ) → is_some (field_in me o x fs) ≡ is_some (field_in me o x gs)

pub same_itself : (me : List ℕ) (o : Origin) (fs : Fields) → SameNames me o fs fs
unfolding SameNames
same_itself me o fs x = refl

names_stay : (me : List ℕ) (o : Origin) (fs gs : Fields) (name : List ℕ) (exported : Bool) (t u : TyTree) → SameNames me o fs gs → SameNames me o (add_field fs name exported t) (add_field gs name exported u)
unfolding SameNames
names_stay me o fs gs name exported t u same x = found_more me o x fs name exported t ∙ ap (λ c. c || (same_name name x && sees me o exported)) (same x) ∙ sym (found_more me o x gs name exported u)

twice_by : (d : IdentDef) (c : Bool) (p q p' q' : List Said) → p ≡ p' → q ≡ q' → (if c then broken d.name.span codes_of.NameTwice (Some d.name.name) ∷ p else q) ≡ (if c then broken d.name.span codes_of.NameTwice (Some d.name.name) ∷ p' else q')
twice_by d true p q p' q' e f = ap (λ said. broken d.name.span codes_of.NameTwice (Some d.name.name) ∷ said) e
twice_by d false p q p' q' e f = f

pub twice_any : (me : List ℕ) (o : Origin) (b : BaseTree) (fs gs : Fields) (ds : List IdentDef) (t u : TyTree) (rest : List Said) → SameNames me o fs gs → fields_twice me o b fs ds t rest ≡ fields_twice me o b gs ds u rest
unfolding SameNames
twice_any me o b fs gs [] t u rest same = refl
twice_any me o b fs gs (d ∷ ds) t u rest same =
    let x = d.name.name in
    let e = is_some d.export in
    twice_by d (is_taken me o b fs x) _ _ (fields_twice me o b gs ds u rest) (fields_twice me o b (add_field gs x e u) ds u rest) (twice_any me o b fs gs ds t u rest same) (twice_any me o b (add_field fs x e t) (add_field gs x e u) ds t u rest (names_stay me o fs gs x e t u same))
    ∙ ap (λ c. if c || is_some (field_of_base me x b) then broken d.name.span codes_of.NameTwice (Some x) ∷ fields_twice me o b gs ds u rest else fields_twice me o b (add_field gs x e u) ds u rest) (same x)
