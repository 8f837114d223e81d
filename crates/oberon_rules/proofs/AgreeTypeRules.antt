-- What is said of types and declarations with what is seen, is what is said with all.
use Rattle.std.specs.Prelude.{ℕ, ◌≡◌, true, if◌then◌else◌, List, [], ◌∷◌, is_some, Option, Some, None, refl}
use Rattle.std.proofs.Common.{ap, ◌∙◌}
use Rattle.ob_text.specs.declared.code.Code.TheVariants as codes_of
use Rattle.ob_text.specs.declared.span.Span.{Span}
use Rattle.oberon_tree.specs.declared.leaf.Ident.{Ident}
use Rattle.oberon_tree.specs.declared.leaf.IdentDef.{IdentDef}
use Rattle.oberon_tree.specs.declared.leaf.Member.{Member}
use Rattle.oberon_tree.specs.declared.leaf.Qualident.{Qualident}
use Rattle.oberon_tree.specs.declared.types.Base.{Base}
use Rattle.oberon_tree.specs.Spans.{span_of_expr}
use Rattle.oberon_tree.specs.Trees.{ExprTree, ExprsTree, exprs_of, MoreExprsTree, no_more_exprs, more_exprs, TypeTree, named_type, array_type, record_type, FieldListsTree, some_fields, MoreFieldsTree, no_more_fields, more_fields, FieldsTree, fields_of, ConstantTree, TypeDeclarationTree, VariableTree}
use Rattle.oberon_tree.specs.Trees.{record_of as record_text, no_fields as no_lists}
use Rattle.oberon_types.specs.declared.origin.Origin.{Origin}
use Rattle.oberon_types.specs.Types.{TyTree, unknown_ty, array_ty, record_ty, BaseTree, no_base, base_of, same_name}
use Rattle.oberon_types.specs.Types.{FieldsTree as Fields, no_fields as no_more}
use Rattle.oberon_types.specs.Sizes.{sees, too_large, record_from}
use Rattle.oberon_types.specs.Folding.{fold}
use Rattle.oberon_rules.specs.Scopes.{Meaning, unknown_meaning, constant_meaning, type_meaning, variable_meaning, procedure_meaning, word_meaning, import_meaning, Scopes, is_declared, Said, broken, row, named_row}
use Rattle.oberon_rules.specs.Names.{name_is, name_says, member_says, member_of_says, named, named_says, last_name, is_no_type, type_named_says}
use Rattle.oberon_rules.specs.Constants.{expr_const}
use Rattle.oberon_rules.specs.Expressions.{ty_of, expr_is, is_unknown}
use Rattle.oberon_rules.specs.ExpressionRules.{value_says}
use Rattle.oberon_rules.specs.TypeRules.{constant_is, fold_row, constant_says, length_meant, is_bad_length, length_says, ident_defs, first_new, array_row, add_field, is_taken, fields_twice, BaseMeant, without_base, with_base, unclear_base, bad_base, base_is, base_tree, is_bad_base, base_says, record_row, dimensions, element_origin, list_origin, type_is, fields_are, list_is, dimensions_say, array_says, type_says, fields_say, more_fields_say, list_says}
use Rattle.oberon_rules.specs.Declarations.{is_exported, declare_new, new_says, origin_at, constant_declared, type_declared, own_variable, names_say, list_declared, variable_declared}
use Rattle.oberon_rules.specs.Views.{kept_base, kept_fields}
use Rattle.oberon_rules.proofs.Seen.{seen, unknown_seen, large_seen}
use Rattle.oberon_rules.proofs.AgreeNames.{map_meaning, map_scopes, seen_scopes, name_is_seen, name_says_seen}
use Rattle.oberon_rules.proofs.AgreeExpressions.{ty_of_seen, expr_is_seen}
use Rattle.oberon_rules.proofs.AgreeTypes.{expr_const_seen, constant_seen, named_seen, dimensions_seen, IsOwn, add_field_seen, record_from_seen, is_taken_seen, first_new_seen, map_base, base_is_seen, base_tree_seen, own_elements, own_list, type_is_seen, fields_are_seen, list_is_seen}
use Rattle.oberon_rules.proofs.AgreeRows.{view_says_seen}
use Rattle.oberon_rules.proofs.AgreeExpressionRules.{value_says_seen}
use Rattle.oberon_rules.proofs.AgreeDeclarations.{is_declared_seen, declare_new_seen, first_declared_seen}

member_says_seen : (h : TyTree → TyTree) (m : Meaning) (at : Ident) (rest : List Said) → member_says (map_meaning h m) at rest ≡ member_says m at rest
member_says_seen h unknown_meaning at rest = refl
member_says_seen h (constant_meaning v) at rest = refl
member_says_seen h (type_meaning t) at rest = refl
member_says_seen h (variable_meaning t a) at rest = refl
member_says_seen h (procedure_meaning p) at rest = refl
member_says_seen h (word_meaning w) at rest = refl
member_says_seen h (import_meaning v) at rest = view_says_seen h v at rest

member_of_says_seen : (h : TyTree → TyTree) (m : Meaning) (x : Option Member) (rest : List Said) → member_of_says (map_meaning h m) x rest ≡ member_of_says m x rest
member_of_says_seen h m None rest = refl
member_of_says_seen h m (Some x) rest = member_says_seen h m x.name rest

pub named_says_seen : (me : List ℕ) (s : Scopes) (q : Qualident) (rest : List Said) → named_says (seen_scopes me s) q rest ≡ named_says s q rest
named_says_seen me s q rest =
    ap (λ m. name_says (seen_scopes me s) q.first (member_of_says m q.member rest)) (name_is_seen me s q.first.name)
    ∙ ap (λ y. name_says (seen_scopes me s) q.first y) (member_of_says_seen (seen me) (name_is s q.first.name) q.member rest)
    ∙ name_says_seen me s q.first (member_of_says (name_is s q.first.name) q.member rest)

no_type_seen : (h : TyTree → TyTree) (m : Meaning) → is_no_type (map_meaning h m) ≡ is_no_type m
no_type_seen h unknown_meaning = refl
no_type_seen h (constant_meaning v) = refl
no_type_seen h (type_meaning t) = refl
no_type_seen h (variable_meaning t a) = refl
no_type_seen h (procedure_meaning p) = refl
no_type_seen h (word_meaning w) = refl
no_type_seen h (import_meaning v) = refl

pub type_named_says_seen : (me : List ℕ) (s : Scopes) (q : Qualident) (rest : List Said) → type_named_says (seen_scopes me s) q rest ≡ type_named_says s q rest
type_named_says_seen me s q rest =
    ap (λ m. named_says (seen_scopes me s) q (named_row (is_no_type m) (last_name q) codes_of.NotType rest)) (named_seen me s q)
    ∙ ap (λ b. named_says (seen_scopes me s) q (named_row b (last_name q) codes_of.NotType rest)) (no_type_seen (seen me) (named s q))
    ∙ named_says_seen me s q (named_row (is_no_type (named s q)) (last_name q) codes_of.NotType rest)

pub constant_says_seen : (me : List ℕ) (s : Scopes) (e : ExprTree) (rest : List Said) → constant_says me (seen_scopes me s) e rest ≡ constant_says me s e rest
constant_says_seen me s e rest =
    ap (λ x. value_says me (seen_scopes me s) e (if is_unknown (ty_of x) then rest else fold_row (fold (expr_const (seen_scopes me s) e)) (span_of_expr e) rest)) (expr_is_seen me s e)
    ∙ ap (λ b. value_says me (seen_scopes me s) e (if b then rest else fold_row (fold (expr_const (seen_scopes me s) e)) (span_of_expr e) rest)) (ap (λ t. is_unknown t) (ty_of_seen me (expr_is me s e)) ∙ unknown_seen me (ty_of (expr_is me s e)))
    ∙ ap (λ c. value_says me (seen_scopes me s) e (if is_unknown (ty_of (expr_is me s e)) then rest else fold_row (fold c) (span_of_expr e) rest)) (expr_const_seen me s e)
    ∙ value_says_seen me s e (if is_unknown (ty_of (expr_is me s e)) then rest else fold_row (fold (expr_const s e)) (span_of_expr e) rest)

length_says_seen : (me : List ℕ) (s : Scopes) (e : ExprTree) (rest : List Said) → length_says me (seen_scopes me s) e rest ≡ length_says me s e rest
length_says_seen me s e rest =
    ap (λ v. constant_says me (seen_scopes me s) e (row (is_bad_length v) (span_of_expr e) codes_of.ConstantRange rest)) (constant_seen me s e)
    ∙ constant_says_seen me s e (row (is_bad_length (constant_is me s e)) (span_of_expr e) codes_of.ConstantRange rest)

array_row_seen : (me : List ℕ) (n : Option ℕ) (t : TyTree) (word : Span) (rest : List Said) → array_row me n (seen me t) word rest ≡ array_row me n t word rest
array_row_seen me None t word rest = refl
array_row_seen me (Some n) t word rest = ap (λ b. row b word codes_of.TypeTooLarge rest) (large_seen me (array_ty n t))

one_array_row : (me : List ℕ) (s : Scopes) (e : ExprTree) (more : MoreExprsTree) (t : TyTree) (word : Span) (rest : List Said)
    → array_row me (length_meant (constant_is me (seen_scopes me s) e)) (dimensions me (seen_scopes me s) more (seen me t)) word rest ≡ array_row me (length_meant (constant_is me s e)) (dimensions me s more t) word rest
one_array_row me s e more t word rest =
    ap (λ v. array_row me (length_meant v) (dimensions me (seen_scopes me s) more (seen me t)) word rest) (constant_seen me s e)
    ∙ ap (λ y. array_row me (length_meant (constant_is me s e)) y word rest) (dimensions_seen me s more t)
    ∙ array_row_seen me (length_meant (constant_is me s e)) (dimensions me s more t) word rest

dimensions_say_seen : (me : List ℕ) (s : Scopes) (more : MoreExprsTree) (t : TyTree) (word : Span) (rest : List Said) → dimensions_say me (seen_scopes me s) more (seen me t) word rest ≡ dimensions_say me s more t word rest
dimensions_say_seen me s no_more_exprs t word rest = refl
dimensions_say_seen me s (more_exprs comma e more) t word rest =
    ap (λ y. length_says me (seen_scopes me s) e (dimensions_say me (seen_scopes me s) more (seen me t) word y)) (one_array_row me s e more t word rest)
    ∙ ap (λ y. length_says me (seen_scopes me s) e y) (dimensions_say_seen me s more t word (array_row me (length_meant (constant_is me s e)) (dimensions me s more t) word rest))
    ∙ length_says_seen me s e (dimensions_say me s more t word (array_row me (length_meant (constant_is me s e)) (dimensions me s more t) word rest))

array_says_seen : (me : List ℕ) (s : Scopes) (es : ExprsTree) (t : TyTree) (word : Span) (rest : List Said) → array_says me (seen_scopes me s) es (seen me t) word rest ≡ array_says me s es t word rest
array_says_seen me s (exprs_of e more) t word rest =
    ap (λ y. length_says me (seen_scopes me s) e (dimensions_say me (seen_scopes me s) more (seen me t) word y)) (one_array_row me s e more t word rest)
    ∙ ap (λ y. length_says me (seen_scopes me s) e y) (dimensions_say_seen me s more t word (array_row me (length_meant (constant_is me s e)) (dimensions me s more t) word rest))
    ∙ length_says_seen me s e (dimensions_say me s more t word (array_row me (length_meant (constant_is me s e)) (dimensions me s more t) word rest))

twice_seen : (me : List ℕ) (o : Origin) → IsOwn me o → (b : BaseTree) (fs : Fields) (ds : List IdentDef) (rest : List Said)
    → fields_twice me o (kept_base (sees me) b) (kept_fields (sees me) o fs) ds unknown_ty rest ≡ fields_twice me o b fs ds unknown_ty rest
twice_seen me o own b fs [] rest = refl
twice_seen me o own b fs (d ∷ ds) rest =
    ap (λ c. if c then broken d.name.span codes_of.NameTwice (Some d.name.name) ∷ fields_twice me o (kept_base (sees me) b) (kept_fields (sees me) o fs) ds unknown_ty rest else fields_twice me o (kept_base (sees me) b) (add_field (kept_fields (sees me) o fs) d.name.name (is_some d.export) unknown_ty) ds unknown_ty rest) (is_taken_seen me o b fs d.name.name)
    ∙ ap (λ y. if is_taken me o b fs d.name.name then broken d.name.span codes_of.NameTwice (Some d.name.name) ∷ y else fields_twice me o (kept_base (sees me) b) (add_field (kept_fields (sees me) o fs) d.name.name (is_some d.export) unknown_ty) ds unknown_ty rest) (twice_seen me o own b fs ds rest)
    ∙ ap (λ y. if is_taken me o b fs d.name.name then broken d.name.span codes_of.NameTwice (Some d.name.name) ∷ fields_twice me o b fs ds unknown_ty rest else fields_twice me o (kept_base (sees me) b) y ds unknown_ty rest) (add_field_seen me o own fs d.name.name (is_some d.export) unknown_ty)
    ∙ ap (λ y. if is_taken me o b fs d.name.name then broken d.name.span codes_of.NameTwice (Some d.name.name) ∷ fields_twice me o b fs ds unknown_ty rest else y) (twice_seen me o own b (add_field fs d.name.name (is_some d.export) unknown_ty) ds rest)

bad_base_seen : (me : List ℕ) (b : BaseMeant) → is_bad_base (map_base me b) ≡ is_bad_base b
bad_base_seen me without_base = refl
bad_base_seen me (with_base r) = refl
bad_base_seen me unclear_base = refl
bad_base_seen me bad_base = refl

base_says_seen : (me : List ℕ) (s : Scopes) (b : Option Base) (rest : List Said) → base_says (seen_scopes me s) b rest ≡ base_says s b rest
base_says_seen me s None rest = refl
base_says_seen me s (Some b) rest =
    ap (λ y. type_named_says (seen_scopes me s) b.name (named_row (is_bad_base y) (last_name b.name) codes_of.BadBase rest)) (base_is_seen me s (Some b))
    ∙ ap (λ c. type_named_says (seen_scopes me s) b.name (named_row c (last_name b.name) codes_of.BadBase rest)) (bad_base_seen me (base_is s (Some b)))
    ∙ type_named_says_seen me s b.name (named_row (is_bad_base (base_is s (Some b))) (last_name b.name) codes_of.BadBase rest)

record_row_seen : (me : List ℕ) (o : Origin) → IsOwn me o → (b : BaseMeant) (fs : Fields) (word : Span) (rest : List Said) → record_row me o (map_base me b) (kept_fields (sees me) o fs) word rest ≡ record_row me o b fs word rest
record_row_seen me o own unclear_base fs word rest = refl
record_row_seen me o own bad_base fs word rest = refl
record_row_seen me o own without_base fs word rest =
    ap (λ t. row (too_large me t) word codes_of.TypeTooLarge rest) (record_from_seen me o own no_base fs)
    ∙ ap (λ b. row b word codes_of.TypeTooLarge rest) (large_seen me (record_ty (record_from o no_base fs)))
record_row_seen me o own (with_base r) fs word rest =
    ap (λ t. row (too_large me t) word codes_of.TypeTooLarge rest) (record_from_seen me o own (base_of r) fs)
    ∙ ap (λ b. row b word codes_of.TypeTooLarge rest) (large_seen me (record_ty (record_from o (base_of r) fs)))

mutual
  pub type_says_seen : (me : List ℕ) (s : Scopes) (o : Origin) → IsOwn me o → (t : TypeTree) (rest : List Said) → type_says me (seen_scopes me s) o t rest ≡ type_says me s o t rest
  type_says_seen me s o own (named_type q) rest = type_named_says_seen me s q rest
  type_says_seen me s o own (array_type word es of_word t) rest =
      ap (λ y. type_says me (seen_scopes me s) (element_origin o es) t (array_says me (seen_scopes me s) es y word rest)) (type_is_seen me s (element_origin o es) (own_elements me o es own) t)
      ∙ ap (λ y. type_says me (seen_scopes me s) (element_origin o es) t y) (array_says_seen me s es (type_is me s (element_origin o es) t) word rest)
      ∙ type_says_seen me s (element_origin o es) (own_elements me o es own) t (array_says me s es (type_is me s (element_origin o es) t) word rest)
  type_says_seen me s o own (record_type (record_text word b lists last)) rest =
      ap (λ y. base_says (seen_scopes me s) b (fields_say me (seen_scopes me s) o (base_tree y) lists (record_row me o y (fields_are me (seen_scopes me s) o (base_tree y) lists) word rest))) (base_is_seen me s b)
      ∙ ap (λ y. base_says (seen_scopes me s) b (fields_say me (seen_scopes me s) o y lists (record_row me o (map_base me (base_is s b)) (fields_are me (seen_scopes me s) o y lists) word rest))) (base_tree_seen me (base_is s b))
      ∙ ap (λ y. base_says (seen_scopes me s) b (fields_say me (seen_scopes me s) o (kept_base (sees me) (base_tree (base_is s b))) lists (record_row me o (map_base me (base_is s b)) y word rest))) (fields_are_seen me s o own (base_tree (base_is s b)) lists)
      ∙ ap (λ y. base_says (seen_scopes me s) b (fields_say me (seen_scopes me s) o (kept_base (sees me) (base_tree (base_is s b))) lists y)) (record_row_seen me o own (base_is s b) (fields_are me s o (base_tree (base_is s b)) lists) word rest)
      ∙ ap (λ y. base_says (seen_scopes me s) b y) (fields_say_seen me s o own (base_tree (base_is s b)) lists (record_row me o (base_is s b) (fields_are me s o (base_tree (base_is s b)) lists) word rest))
      ∙ base_says_seen me s b (fields_say me s o (base_tree (base_is s b)) lists (record_row me o (base_is s b) (fields_are me s o (base_tree (base_is s b)) lists) word rest))

  fields_say_seen : (me : List ℕ) (s : Scopes) (o : Origin) → IsOwn me o → (b : BaseTree) (lists : FieldListsTree) (rest : List Said) → fields_say me (seen_scopes me s) o (kept_base (sees me) b) lists rest ≡ fields_say me s o b lists rest
  fields_say_seen me s o own b no_lists rest = refl
  fields_say_seen me s o own b (some_fields l more) rest =
      ap (λ y. list_says me (seen_scopes me s) o (kept_base (sees me) b) no_more l (more_fields_say me (seen_scopes me s) o (kept_base (sees me) b) y more rest)) (list_is_seen me s o own b no_more l)
      ∙ ap (λ y. list_says me (seen_scopes me s) o (kept_base (sees me) b) no_more l y) (more_fields_say_seen me s o own b (list_is me s o b no_more l) more rest)
      ∙ list_says_seen me s o own b no_more l (more_fields_say me s o b (list_is me s o b no_more l) more rest)

  more_fields_say_seen : (me : List ℕ) (s : Scopes) (o : Origin) → IsOwn me o → (b : BaseTree) (fs : Fields) (more : MoreFieldsTree) (rest : List Said) → more_fields_say me (seen_scopes me s) o (kept_base (sees me) b) (kept_fields (sees me) o fs) more rest ≡ more_fields_say me s o b fs more rest
  more_fields_say_seen me s o own b fs no_more_fields rest = refl
  more_fields_say_seen me s o own b fs (more_fields semicolon l more) rest =
      ap (λ y. list_says me (seen_scopes me s) o (kept_base (sees me) b) (kept_fields (sees me) o fs) l (more_fields_say me (seen_scopes me s) o (kept_base (sees me) b) y more rest)) (list_is_seen me s o own b fs l)
      ∙ ap (λ y. list_says me (seen_scopes me s) o (kept_base (sees me) b) (kept_fields (sees me) o fs) l y) (more_fields_say_seen me s o own b (list_is me s o b fs l) more rest)
      ∙ list_says_seen me s o own b fs l (more_fields_say me s o b (list_is me s o b fs l) more rest)

  list_says_seen : (me : List ℕ) (s : Scopes) (o : Origin) → IsOwn me o → (b : BaseTree) (fs : Fields) (l : FieldsTree) (rest : List Said) → list_says me (seen_scopes me s) o (kept_base (sees me) b) (kept_fields (sees me) o fs) l rest ≡ list_says me s o b fs l rest
  list_says_seen me s o own b fs (fields_of names colon t) rest =
      ap (λ d. if is_some d then type_says me (seen_scopes me s) (list_origin o d) t (fields_twice me o (kept_base (sees me) b) (kept_fields (sees me) o fs) (ident_defs names) unknown_ty rest) else fields_twice me o (kept_base (sees me) b) (kept_fields (sees me) o fs) (ident_defs names) unknown_ty rest) (first_new_seen me o b fs (ident_defs names))
      ∙ ap (λ y. if is_some (first_new (is_taken me o b fs) (ident_defs names)) then type_says me (seen_scopes me s) (list_origin o (first_new (is_taken me o b fs) (ident_defs names))) t y else y) (twice_seen me o own b fs (ident_defs names) rest)
      ∙ ap (λ y. if is_some (first_new (is_taken me o b fs) (ident_defs names)) then y else fields_twice me o b fs (ident_defs names) unknown_ty rest) (type_says_seen me s (list_origin o (first_new (is_taken me o b fs) (ident_defs names))) (own_list me o (first_new (is_taken me o b fs) (ident_defs names)) own) t (fields_twice me o b fs (ident_defs names) unknown_ty rest))

-- ---- declarations

pub new_says_seen : (h : TyTree → TyTree) (s : Scopes) (at : Ident) (rest : List Said) → new_says (map_scopes h s) at rest ≡ new_says s at rest
new_says_seen h s at rest = ap (λ b. named_row b at codes_of.NameTwice rest) (is_declared_seen h s at.name)

pub constant_declared_seen : (me : List ℕ) (s : Scopes) (c : ConstantTree) (rest : List Said) → constant_declared me (seen_scopes me s) c rest ≡ constant_declared me s c rest
constant_declared_seen me s c rest = ap (λ y. constant_says me (seen_scopes me s) c.value y) (new_says_seen (seen me) s c.name.name rest) ∙ constant_says_seen me s c.value (new_says s c.name.name rest)

pub type_declared_seen : (me : List ℕ) (s : Scopes) → same_name me me ≡ true → (d : TypeDeclarationTree) (rest : List Said) → type_declared me (seen_scopes me s) d rest ≡ type_declared me s d rest
type_declared_seen me s own d rest =
    ap (λ c. if c then new_says (seen_scopes me s) d.name.name rest else type_says me (seen_scopes me s) (origin_at me s d.name.name) d.of_type rest) (is_declared_seen (seen me) s d.name.name.name)
    ∙ ap (λ y. if is_declared s d.name.name.name then y else type_says me (seen_scopes me s) (origin_at me s d.name.name) d.of_type rest) (new_says_seen (seen me) s d.name.name rest)
    ∙ ap (λ y. if is_declared s d.name.name.name then new_says s d.name.name rest else y) (type_says_seen me s (origin_at me s d.name.name) own d.of_type rest)

names_say_seen : (h : TyTree → TyTree) (s : Scopes) (ds : List IdentDef) (m : Meaning) (rest : List Said) → names_say (map_scopes h s) ds (map_meaning h m) rest ≡ names_say s ds m rest
names_say_seen h s [] m rest = refl
names_say_seen h s (d ∷ ds) m rest =
    new_says_seen h s d.name (names_say (declare_new (map_scopes h s) d.name (is_exported d) (map_meaning h m)) ds (map_meaning h m) rest)
    ∙ ap (λ y. new_says s d.name (names_say y ds (map_meaning h m) rest)) (declare_new_seen h s d.name (is_exported d) m)
    ∙ ap (λ y. new_says s d.name y) (names_say_seen h (declare_new s d.name (is_exported d) m) ds m rest)

list_declared_seen : (me : List ℕ) (s : Scopes) → same_name me me ≡ true → (v : VariableTree) (d : Option IdentDef) (rest : List Said) → list_declared me (seen_scopes me s) v d rest ≡ list_declared me s v d rest
list_declared_seen me s own v None rest = names_say_seen (seen me) s (ident_defs v.names) unknown_meaning rest
list_declared_seen me s own v (Some d) rest =
    ap (λ t. type_says me (seen_scopes me s) (origin_at me s d.name) v.of_type (names_say (seen_scopes me s) (ident_defs v.names) (own_variable t) rest)) (type_is_seen me s (origin_at me s d.name) own v.of_type)
    ∙ ap (λ y. type_says me (seen_scopes me s) (origin_at me s d.name) v.of_type y) (names_say_seen (seen me) s (ident_defs v.names) (own_variable (type_is me s (origin_at me s d.name) v.of_type)) rest)
    ∙ type_says_seen me s (origin_at me s d.name) own v.of_type (names_say s (ident_defs v.names) (own_variable (type_is me s (origin_at me s d.name) v.of_type)) rest)

pub variable_declared_seen : (me : List ℕ) (s : Scopes) → same_name me me ≡ true → (v : VariableTree) (rest : List Said) → variable_declared me (seen_scopes me s) v rest ≡ variable_declared me s v rest
variable_declared_seen me s own v rest = ap (λ d. list_declared me (seen_scopes me s) v d rest) (first_declared_seen (seen me) s (ident_defs v.names)) ∙ list_declared_seen me s own v (first_new (is_declared s) (ident_defs v.names)) rest
