-- What declarations declare with what is seen, is what they declare with all, seen.
use Rattle.std.specs.Prelude.{ℕ, ◌≡◌, ◌++◌, Bool, true, if◌then◌else◌, List, [], ◌∷◌, map, is_some, Option, Some, None, refl}
use Rattle.std.proofs.Common.{ap, ◌∙◌}
use Rattle.std.specs.Option.{option_map}
use Rattle.oberon_tree.specs.declared.leaf.Ident.{Ident}
use Rattle.oberon_tree.specs.declared.leaf.IdentDef.{IdentDef}
use Rattle.oberon_tree.specs.Trees.{ConstantTree, TypeDeclarationTree, VariableTree}
use Rattle.oberon_types.specs.declared.value.Value.{Value}
use Rattle.oberon_types.specs.Types.{TyTree, same_name}
use Rattle.oberon_rules.specs.Scopes.{Meaning, type_meaning, Entry, Scopes, look_up, inner_of, is_declared, declare, local_with, global_with}
use Rattle.oberon_rules.specs.TypeRules.{constant_is, ident_defs, first_new, type_is}
use Rattle.oberon_rules.specs.Declarations.{is_exported, declare_new, origin_at, constant_meant, constant_behind, type_behind, own_variable, names_behind, list_behind, variable_behind}
use Rattle.oberon_rules.proofs.Seen.{seen}
use Rattle.oberon_rules.proofs.AgreeNames.{choose, map_meaning, map_entry, map_scopes, seen_scopes, look_up_seen}
use Rattle.oberon_rules.proofs.AgreeTypes.{constant_seen, type_is_seen}

map_push : {A B : Type 0} (f : A → B) (xs : List A) (x : A) → map f xs ++ f x ∷ [] ≡ map f (xs ++ x ∷ [])
map_push f [] x = refl
map_push f (y ∷ ys) x = ap (λ t. f y ∷ t) (map_push f ys x)

local_seen : (h : TyTree → TyTree) (ls : Option (List Entry)) (e : Entry) → local_with (option_map (map (map_entry h)) ls) (map_entry h e) ≡ option_map (map (map_entry h)) (local_with ls e)
local_seen h None e = refl
local_seen h (Some es) e = ap (λ y. Some y) (map_push (map_entry h) es e)

global_seen : (h : TyTree → TyTree) (ls : Option (List Entry)) (gs : List Entry) (e : Entry) → global_with (option_map (map (map_entry h)) ls) (map (map_entry h) gs) (map_entry h e) ≡ map (map_entry h) (global_with ls gs e)
global_seen h None gs e = map_push (map_entry h) gs e
global_seen h (Some es) gs e = refl

pub declare_seen : (h : TyTree → TyTree) (s : Scopes) (x : List ℕ) (exported : Bool) (m : Meaning) → declare (map_scopes h s) x exported (map_meaning h m) ≡ map_scopes h (declare s x exported m)
declare_seen h s x exported m =
    ap (λ ls. record { procedure = s.procedure; locals = ls; globals = global_with (option_map (map (map_entry h)) s.locals) (map (map_entry h) s.globals) (record { name = x; exported = exported; meaning = map_meaning h m }) }) (local_seen h s.locals (record { name = x; exported = exported; meaning = m }))
    ∙ ap (λ gs. record { procedure = s.procedure; locals = option_map (map (map_entry h)) (local_with s.locals (record { name = x; exported = exported; meaning = m })); globals = gs }) (global_seen h s.locals s.globals (record { name = x; exported = exported; meaning = m }))

mapped : (h : TyTree → TyTree) (m : Option Meaning) → is_some (option_map (map_meaning h) m) ≡ is_some m
mapped h None = refl
mapped h (Some m) = refl

declared_seen : (h : TyTree → TyTree) (ls : Option (List Entry)) (gs : List Entry) (x : List ℕ) → is_some (look_up x (inner_of (option_map (map (map_entry h)) ls) (map (map_entry h) gs))) ≡ is_some (look_up x (inner_of ls gs))
declared_seen h None gs x = ap (λ y. is_some y) (look_up_seen h x gs) ∙ mapped h (look_up x gs)
declared_seen h (Some es) gs x = ap (λ y. is_some y) (look_up_seen h x es) ∙ mapped h (look_up x es)

pub is_declared_seen : (h : TyTree → TyTree) (s : Scopes) (x : List ℕ) → is_declared (map_scopes h s) x ≡ is_declared s x
is_declared_seen h s x = declared_seen h s.locals s.globals x

pub declare_new_seen : (h : TyTree → TyTree) (s : Scopes) (at : Ident) (exported : Bool) (m : Meaning) → declare_new (map_scopes h s) at exported (map_meaning h m) ≡ map_scopes h (declare_new s at exported m)
declare_new_seen h s at exported m =
    ap (λ c. if c then map_scopes h s else declare (map_scopes h s) at.name exported (map_meaning h m)) (is_declared_seen h s at.name)
    ∙ ap (λ y. if is_declared s at.name then map_scopes h s else y) (declare_seen h s at.name exported m)
    ∙ choose (map_scopes h) (is_declared s at.name) s (declare s at.name exported m)

meant_seen : (h : TyTree → TyTree) (v : Option Value) → constant_meant v ≡ map_meaning h (constant_meant v)
meant_seen h None = refl
meant_seen h (Some v) = refl

pub constant_behind_seen : (me : List ℕ) (s : Scopes) (c : ConstantTree) → constant_behind me (seen_scopes me s) c ≡ map_scopes (seen me) (constant_behind me s c)
constant_behind_seen me s c =
    ap (λ y. declare_new (seen_scopes me s) c.name.name (is_exported c.name) (constant_meant y)) (constant_seen me s c.value)
    ∙ ap (λ y. declare_new (seen_scopes me s) c.name.name (is_exported c.name) y) (meant_seen (seen me) (constant_is me s c.value))
    ∙ declare_new_seen (seen me) s c.name.name (is_exported c.name) (constant_meant (constant_is me s c.value))

pub first_declared_seen : (h : TyTree → TyTree) (s : Scopes) (ds : List IdentDef) → first_new (is_declared (map_scopes h s)) ds ≡ first_new (is_declared s) ds
first_declared_seen h s [] = refl
first_declared_seen h s (d ∷ ds) =
    ap (λ c. if c then first_new (is_declared (map_scopes h s)) ds else Some d) (is_declared_seen h s d.name.name)
    ∙ ap (λ y. if is_declared s d.name.name then y else Some d) (first_declared_seen h s ds)

names_behind_seen : (h : TyTree → TyTree) (s : Scopes) (ds : List IdentDef) (m : Meaning) → names_behind (map_scopes h s) ds (map_meaning h m) ≡ map_scopes h (names_behind s ds m)
names_behind_seen h s [] m = refl
names_behind_seen h s (d ∷ ds) m = ap (λ y. names_behind y ds (map_meaning h m)) (declare_new_seen h s d.name (is_exported d) m) ∙ names_behind_seen h (declare_new s d.name (is_exported d) m) ds m

list_behind_seen : (me : List ℕ) (s : Scopes) → same_name me me ≡ true → (v : VariableTree) (d : Option IdentDef) → list_behind me (seen_scopes me s) v d ≡ map_scopes (seen me) (list_behind me s v d)
list_behind_seen me s own v None = refl
list_behind_seen me s own v (Some d) = ap (λ t. names_behind (seen_scopes me s) (ident_defs v.names) (own_variable t)) (type_is_seen me s (origin_at me s d.name) own v.of_type) ∙ names_behind_seen (seen me) s (ident_defs v.names) (own_variable (type_is me s (origin_at me s d.name) v.of_type))

pub variable_behind_seen : (me : List ℕ) (s : Scopes) → same_name me me ≡ true → (v : VariableTree) → variable_behind me (seen_scopes me s) v ≡ map_scopes (seen me) (variable_behind me s v)
variable_behind_seen me s own v = ap (λ d. list_behind me (seen_scopes me s) v d) (first_declared_seen (seen me) s (ident_defs v.names)) ∙ list_behind_seen me s own v (first_new (is_declared s) (ident_defs v.names))

pub type_behind_seen : (me : List ℕ) (s : Scopes) → same_name me me ≡ true → (d : TypeDeclarationTree) → type_behind me (seen_scopes me s) d ≡ map_scopes (seen me) (type_behind me s d)
type_behind_seen me s own d =
    ap (λ c. if c then seen_scopes me s else declare (seen_scopes me s) d.name.name.name (is_exported d.name) (type_meaning (type_is me (seen_scopes me s) (origin_at me s d.name.name) d.of_type))) (is_declared_seen (seen me) s d.name.name.name)
    ∙ ap (λ t. if is_declared s d.name.name.name then seen_scopes me s else declare (seen_scopes me s) d.name.name.name (is_exported d.name) (type_meaning t)) (type_is_seen me s (origin_at me s d.name.name) own d.of_type)
    ∙ ap (λ y. if is_declared s d.name.name.name then seen_scopes me s else y) (declare_seen (seen me) s d.name.name.name (is_exported d.name) (type_meaning (type_is me s (origin_at me s d.name.name) d.of_type)))
    ∙ choose (map_scopes (seen me)) (is_declared s d.name.name.name) s (declare s d.name.name.name (is_exported d.name) (type_meaning (type_is me s (origin_at me s d.name.name) d.of_type)))
