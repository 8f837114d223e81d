-- A name means with what is seen what it means with all, seen.
use Rattle.std.specs.Prelude.{ℕ, ◌≡◌, Bool, true, false, if◌then◌else◌, List, [], ◌∷◌, map, Option, Some, None, refl}
use Rattle.std.proofs.Common.{ap, sym, ◌∙◌}
use Rattle.std.specs.Option.{option_map}
use Rattle.oberon_tree.specs.declared.leaf.Ident.{Ident}
use Rattle.oberon_types.specs.Types.{TyTree, same_name}
use Rattle.oberon_types.specs.Entities.{EntityTree, constant_entity, type_entity, variable_entity, procedure_entity, Export, missing_view, broken_view, cyclic_view, exports_view}
use Rattle.oberon_rules.specs.Scopes.{Meaning, unknown_meaning, constant_meaning, type_meaning, variable_meaning, procedure_meaning, word_meaning, import_meaning, Entry, Scopes, look_up, predeclared, Said}
use Rattle.oberon_rules.specs.Names.{nearest, look_up_option, means, known, name_is, name_says, name_says_of, exported_as, entity_is, member_is}
use Rattle.oberon_rules.specs.Views.{map_signature, map_entity, map_export, map_view}
use Rattle.oberon_rules.proofs.Seen.{seen}

abbrev pub map_meaning : (TyTree → TyTree) → Meaning → Meaning
map_meaning h unknown_meaning = unknown_meaning
map_meaning h (constant_meaning v) = constant_meaning v
map_meaning h (type_meaning t) = type_meaning (h t)
map_meaning h (variable_meaning t a) = variable_meaning (h t) a
map_meaning h (procedure_meaning p) = procedure_meaning (map_signature h p)
map_meaning h (word_meaning w) = word_meaning w
map_meaning h (import_meaning v) = import_meaning (map_view h v)

abbrev pub map_entry : (TyTree → TyTree) → Entry → Entry
map_entry h e = record { name = e.name; exported = e.exported; meaning = map_meaning h e.meaning }

abbrev pub map_scopes : (TyTree → TyTree) → Scopes → Scopes
map_scopes h s = record { procedure = s.procedure; locals = option_map (map (map_entry h)) s.locals; globals = map (map_entry h) s.globals }

abbrev pub seen_scopes : List ℕ → Scopes → Scopes
seen_scopes me s = map_scopes (seen me) s

pub choose : {A B : Type 0} (f : A → B) (b : Bool) (x y : A) → (if b then f x else f y) ≡ f (if b then x else y)
choose f true x y = refl
choose f false x y = refl

pub look_up_seen : (h : TyTree → TyTree) (x : List ℕ) (es : List Entry) → look_up x (map (map_entry h) es) ≡ option_map (map_meaning h) (look_up x es)
look_up_seen h x [] = refl
look_up_seen h x (e ∷ es) = ap (λ y. if same_name x e.name then Some (map_meaning h e.meaning) else y) (look_up_seen h x es) ∙ choose (option_map (map_meaning h)) (same_name x e.name) (Some e.meaning) (look_up x es)

predeclared_seen : (me : List ℕ) → map (map_entry (seen me)) predeclared ≡ predeclared
unfolding predeclared
predeclared_seen me = refl

nearest_seen : (h : TyTree → TyTree) (x y : Option Meaning) → nearest (option_map (map_meaning h) x) (option_map (map_meaning h) y) ≡ option_map (map_meaning h) (nearest x y)
nearest_seen h None y = refl
nearest_seen h (Some m) y = refl

look_up_option_seen : (h : TyTree → TyTree) (x : List ℕ) (es : Option (List Entry)) → look_up_option x (option_map (map (map_entry h)) es) ≡ option_map (map_meaning h) (look_up_option x es)
look_up_option_seen h x None = refl
look_up_option_seen h x (Some es) = look_up_seen h x es

pub means_seen : (me : List ℕ) (s : Scopes) (x : List ℕ) → means (seen_scopes me s) x ≡ option_map (map_meaning (seen me)) (means s x)
means_seen me s x =
    ap (λ y. nearest y (nearest (look_up x (map (map_entry (seen me)) s.globals)) (look_up x predeclared))) (look_up_option_seen (seen me) x s.locals)
    ∙ ap (λ y. nearest (option_map (map_meaning (seen me)) (look_up_option x s.locals)) (nearest y (look_up x predeclared))) (look_up_seen (seen me) x s.globals)
    ∙ ap (λ y. nearest (option_map (map_meaning (seen me)) (look_up_option x s.locals)) (nearest (option_map (map_meaning (seen me)) (look_up x s.globals)) y)) (ap (λ y. look_up x y) (sym (predeclared_seen me)) ∙ look_up_seen (seen me) x predeclared)
    ∙ ap (λ y. nearest (option_map (map_meaning (seen me)) (look_up_option x s.locals)) y) (nearest_seen (seen me) (look_up x s.globals) (look_up x predeclared))
    ∙ nearest_seen (seen me) (look_up_option x s.locals) (nearest (look_up x s.globals) (look_up x predeclared))

known_seen : (h : TyTree → TyTree) (m : Option Meaning) → known (option_map (map_meaning h) m) ≡ map_meaning h (known m)
known_seen h None = refl
known_seen h (Some m) = refl

pub name_is_seen : (me : List ℕ) (s : Scopes) (x : List ℕ) → name_is (seen_scopes me s) x ≡ map_meaning (seen me) (name_is s x)
name_is_seen me s x = ap (λ m. known m) (means_seen me s x) ∙ known_seen (seen me) (means s x)

name_says_of_seen : (h : TyTree → TyTree) (at : Ident) (m : Option Meaning) (rest : List Said) → name_says_of at (option_map (map_meaning h) m) rest ≡ name_says_of at m rest
name_says_of_seen h at None rest = refl
name_says_of_seen h at (Some unknown_meaning) rest = refl
name_says_of_seen h at (Some (constant_meaning v)) rest = refl
name_says_of_seen h at (Some (type_meaning t)) rest = refl
name_says_of_seen h at (Some (variable_meaning t a)) rest = refl
name_says_of_seen h at (Some (procedure_meaning p)) rest = refl
name_says_of_seen h at (Some (word_meaning w)) rest = refl
name_says_of_seen h at (Some (import_meaning v)) rest = refl

pub name_says_seen : (me : List ℕ) (s : Scopes) (at : Ident) (rest : List Said) → name_says (seen_scopes me s) at rest ≡ name_says s at rest
name_says_seen me s at rest = ap (λ m. name_says_of at m rest) (means_seen me s at.name) ∙ name_says_of_seen (seen me) at (means s at.name) rest

pub exported_seen : (h : TyTree → TyTree) (x : List ℕ) (es : List Export) → exported_as x (map (map_export h) es) ≡ option_map (map_entity h) (exported_as x es)
exported_seen h x [] = refl
exported_seen h x (e ∷ es) = ap (λ y. if same_name e.name x then Some (map_entity h e.entity) else y) (exported_seen h x es) ∙ choose (option_map (map_entity h)) (same_name e.name x) (Some e.entity) (exported_as x es)

entity_seen : (h : TyTree → TyTree) (e : Option EntityTree) → entity_is (option_map (map_entity h) e) ≡ map_meaning h (entity_is e)
entity_seen h None = refl
entity_seen h (Some (constant_entity v)) = refl
entity_seen h (Some (type_entity t)) = refl
entity_seen h (Some (variable_entity t)) = refl
entity_seen h (Some (procedure_entity p)) = refl

pub member_seen : (h : TyTree → TyTree) (m : Meaning) (at : Ident) → member_is (map_meaning h m) at ≡ map_meaning h (member_is m at)
member_seen h unknown_meaning at = refl
member_seen h (constant_meaning v) at = refl
member_seen h (type_meaning t) at = refl
member_seen h (variable_meaning t a) at = refl
member_seen h (procedure_meaning p) at = refl
member_seen h (word_meaning w) at = refl
member_seen h (import_meaning missing_view) at = refl
member_seen h (import_meaning broken_view) at = refl
member_seen h (import_meaning cyclic_view) at = refl
member_seen h (import_meaning (exports_view es)) at = ap (λ e. entity_is e) (exported_seen h at.name es) ∙ entity_seen h (exported_as at.name es)
