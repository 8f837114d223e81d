-- Constant expressions and types (sections 5 and 6): what they are, and what is said of them. `me` is the stem of the
-- module whose text this is.
use Rattle.std.specs.Prelude.{ℕ, Bool, true, false, ◌||◌, not, if◌then◌else◌, List, [], ◌∷◌, ◌++◌, map, is_some, Option, Some, None, pos}
use Rattle.ob_text.specs.declared.code.Code.TheVariants as codes_of
use Rattle.ob_text.specs.declared.span.Span.{Span}
use Rattle.oberon_tree.specs.declared.leaf.IdentDef.{IdentDef}
use Rattle.oberon_tree.specs.declared.leaf.NextIdentDef.{NextIdentDef}
use Rattle.oberon_tree.specs.declared.types.Base.{Base}
use Rattle.oberon_tree.specs.Spans.{span_of_expr}
use Rattle.oberon_tree.specs.Trees.{IdentDefsTree, ExprTree, ExprsTree, exprs_of, MoreExprsTree, no_more_exprs, more_exprs, TypeTree, named_type, array_type, record_type, FieldListsTree, no_fields, some_fields, MoreFieldsTree, no_more_fields, more_fields, FieldsTree, fields_of}
use Rattle.oberon_tree.specs.Trees.{record_of as record_text}
use Rattle.oberon_types.specs.declared.value.Value.{Value}
use Rattle.oberon_types.specs.declared.value.Value.TheVariants as values
use Rattle.oberon_types.specs.declared.origin.Origin.{Origin}
use Rattle.oberon_types.specs.declared.origin.Step.{Step}
use Rattle.oberon_types.specs.declared.origin.Step.TheVariants as steps
use Rattle.oberon_types.specs.Types.{TyTree, unknown_ty, array_ty, record_ty, RecordTree, BaseTree, no_base, base_of}
use Rattle.oberon_types.specs.Types.{FieldsTree as Fields, no_fields as no_more, more_fields as field_before}
use Rattle.oberon_types.specs.Sizes.{too_large, is_length, field_in, field_of_base, record_from}
use Rattle.oberon_types.specs.Folding.{Folded, folded, not_constant, out_of_range, fold}
use Rattle.oberon_rules.specs.Scopes.{Scopes, Said, broken, row, named_row}
use Rattle.oberon_rules.specs.Names.{type_named, type_named_says, last_name}
use Rattle.oberon_rules.specs.Constants.{expr_const}
use Rattle.oberon_rules.specs.Expressions.{ty_of, is_unknown, expr_is}
use Rattle.oberon_rules.specs.ExpressionRules.{value_says}

-- ---- constant expressions: no value where a rule is broken or a part is unknown

abbrev pub value_folded : Folded → Option Value
value_folded (folded v) = Some v
value_folded _ = None

abbrev pub constant_is : List ℕ → Scopes → ExprTree → Option Value
constant_is me s e = if is_unknown (ty_of (expr_is me s e)) then None else value_folded (fold (expr_const s e))

abbrev pub fold_row : Folded → Span → List Said → List Said
fold_row (folded v) place rest = rest
fold_row not_constant place rest = broken place codes_of.NotConstant None ∷ rest
fold_row out_of_range place rest = broken place codes_of.ConstantRange None ∷ rest

-- what it is built of and its range are judged of the whole expression, where its operands fit
abbrev pub constant_says : List ℕ → Scopes → ExprTree → List Said → List Said
constant_says me s e rest = value_says me s e (if is_unknown (ty_of (expr_is me s e)) then rest else fold_row (fold (expr_const s e)) (span_of_expr e) rest)

abbrev pub length_meant : Option Value → Option ℕ
length_meant (Some (values.Integer (pos n))) = if is_length n then Some n else None
length_meant _ = None

abbrev pub is_bad_length : Option Value → Bool
is_bad_length None = false
is_bad_length (Some (values.Integer (pos n))) = not (is_length n)
is_bad_length (Some _) = true

abbrev pub length_says : List ℕ → Scopes → ExprTree → List Said → List Said
length_says me s e rest = constant_says me s e (row (is_bad_length (constant_is me s e)) (span_of_expr e) codes_of.ConstantRange rest)

-- ---- names in lists

abbrev pub ident_defs : IdentDefsTree → List IdentDef
ident_defs l = l.first ∷ map (λ (n : NextIdentDef). n.ident) l.rest

-- the first name of a list that declares something
abbrev pub first_new : (List ℕ → Bool) → List IdentDef → Option IdentDef
first_new taken [] = None
first_new taken (d ∷ ds) = if taken d.name.name then first_new taken ds else Some d

-- ---- arrays: a type that is too large is never made, and the one in its place is unknown

abbrev pub limited : List ℕ → TyTree → TyTree
limited me t = if too_large me t then unknown_ty else t

abbrev pub array_of : List ℕ → Option ℕ → TyTree → TyTree
array_of me None t = unknown_ty
array_of me (Some n) t = limited me (array_ty n t)

abbrev pub array_row : List ℕ → Option ℕ → TyTree → Span → List Said → List Said
array_row me None t word rest = rest
array_row me (Some n) t word rest = row (too_large me (array_ty n t)) word codes_of.TypeTooLarge rest

abbrev pub dimensions : List ℕ → Scopes → MoreExprsTree → TyTree → TyTree
dimensions me s no_more_exprs t = t
dimensions me s (more_exprs comma e more) t = array_of me (length_meant (constant_is me s e)) (dimensions me s more t)

abbrev pub array_is : List ℕ → Scopes → ExprsTree → TyTree → TyTree
array_is me s (exprs_of e more) t = array_of me (length_meant (constant_is me s e)) (dimensions me s more t)

abbrev pub dimensions_say : List ℕ → Scopes → MoreExprsTree → TyTree → Span → List Said → List Said
dimensions_say me s no_more_exprs t word rest = rest
dimensions_say me s (more_exprs comma e more) t word rest = length_says me s e (dimensions_say me s more t word (array_row me (length_meant (constant_is me s e)) (dimensions me s more t) word rest))

-- each dimension that is too large is so at ARRAY
abbrev pub array_says : List ℕ → Scopes → ExprsTree → TyTree → Span → List Said → List Said
array_says me s (exprs_of e more) t word rest = length_says me s e (dimensions_say me s more t word (array_row me (length_meant (constant_is me s e)) (dimensions me s more t) word rest))

-- ---- origins: the way from a declared type down to its parts

abbrev pub deeper : Origin → Step → Origin
deeper o x = record { «module» = o.«module»; procedure = o.procedure; name = o.name; path = o.path ++ x ∷ [] }

abbrev pub element_steps : Origin → MoreExprsTree → Origin
element_steps o no_more_exprs = o
element_steps o (more_exprs comma e more) = element_steps (deeper o steps.Element) more

abbrev pub element_origin : Origin → ExprsTree → Origin
element_origin o (exprs_of e more) = element_steps (deeper o steps.Element) more

-- the first name of a list of fields that declares something; none of a list that declares nothing is looked at
abbrev pub list_origin : Origin → Option IdentDef → Origin
list_origin o None = o
list_origin o (Some d) = deeper o (steps.Field d.name.name)

-- ---- fields

abbrev pub add_field : Fields → List ℕ → Bool → TyTree → Fields
add_field no_more name exported t = field_before name exported t no_more
add_field (field_before a b u fs) name exported t = field_before a b u (add_field fs name exported t)

-- a field of the record so far, or one of its base that is visible
abbrev pub is_taken : List ℕ → Origin → BaseTree → Fields → List ℕ → Bool
is_taken me o b fs x = is_some (field_in me o x fs) || is_some (field_of_base me x b)

abbrev pub add_fields : List ℕ → Origin → BaseTree → Fields → List IdentDef → TyTree → Fields
add_fields me o b fs [] t = fs
add_fields me o b fs (d ∷ ds) t = if is_taken me o b fs d.name.name then add_fields me o b fs ds t else add_fields me o b (add_field fs d.name.name (is_some d.export) t) ds t

abbrev pub fields_twice : List ℕ → Origin → BaseTree → Fields → List IdentDef → TyTree → List Said → List Said
fields_twice me o b fs [] t rest = rest
fields_twice me o b fs (d ∷ ds) t rest = if is_taken me o b fs d.name.name then broken d.name.span codes_of.NameTwice (Some d.name.name) ∷ fields_twice me o b fs ds t rest else fields_twice me o b (add_field fs d.name.name (is_some d.export) t) ds t rest

-- ---- records and their bases

pub data BaseMeant : Type 0 where
  without_base : BaseMeant
  with_base : RecordTree → BaseMeant
  unclear_base : BaseMeant
  bad_base : BaseMeant

abbrev pub base_meant : TyTree → BaseMeant
base_meant (record_ty r) = with_base r
base_meant unknown_ty = unclear_base
base_meant _ = bad_base

abbrev pub base_is : Scopes → Option Base → BaseMeant
base_is s None = without_base
base_is s (Some b) = base_meant (type_named s b.name)

abbrev pub base_tree : BaseMeant → BaseTree
base_tree (with_base r) = base_of r
base_tree _ = no_base

abbrev pub is_bad_base : BaseMeant → Bool
is_bad_base bad_base = true
is_bad_base _ = false

abbrev pub base_says : Scopes → Option Base → List Said → List Said
base_says s None rest = rest
base_says s (Some b) rest = type_named_says s b.name (named_row (is_bad_base (base_is s (Some b))) (last_name b.name) codes_of.BadBase rest)

abbrev pub record_is : List ℕ → Origin → BaseMeant → Fields → TyTree
record_is me o unclear_base fs = unknown_ty
record_is me o bad_base fs = unknown_ty
record_is me o without_base fs = limited me (record_ty (record_from o no_base fs))
record_is me o (with_base r) fs = limited me (record_ty (record_from o (base_of r) fs))

abbrev pub record_row : List ℕ → Origin → BaseMeant → Fields → Span → List Said → List Said
record_row me o unclear_base fs word rest = rest
record_row me o bad_base fs word rest = rest
record_row me o without_base fs word rest = row (too_large me (record_ty (record_from o no_base fs))) word codes_of.TypeTooLarge rest
record_row me o (with_base r) fs word rest = row (too_large me (record_ty (record_from o (base_of r) fs))) word codes_of.TypeTooLarge rest

-- ---- types; `o` is the origin of what stands here

abbrev mutual
  pub type_is : List ℕ → Scopes → Origin → TypeTree → TyTree
  type_is me s o (named_type q) = type_named s q
  type_is me s o (array_type word es of_word t) = array_is me s es (type_is me s (element_origin o es) t)
  type_is me s o (record_type (record_text word b lists last)) = record_is me o (base_is s b) (fields_are me s o (base_tree (base_is s b)) lists)

  pub fields_are : List ℕ → Scopes → Origin → BaseTree → FieldListsTree → Fields
  fields_are me s o b no_fields = no_more
  fields_are me s o b (some_fields l more) = more_fields_are me s o b (list_is me s o b no_more l) more

  pub more_fields_are : List ℕ → Scopes → Origin → BaseTree → Fields → MoreFieldsTree → Fields
  more_fields_are me s o b fs no_more_fields = fs
  more_fields_are me s o b fs (more_fields semicolon l more) = more_fields_are me s o b (list_is me s o b fs l) more

  pub list_is : List ℕ → Scopes → Origin → BaseTree → Fields → FieldsTree → Fields
  list_is me s o b fs (fields_of names colon t) = add_fields me o b fs (ident_defs names) (type_is me s (list_origin o (first_new (is_taken me o b fs) (ident_defs names))) t)

-- where no name of a list of fields declares anything its type isn't examined
abbrev mutual
  pub type_says : List ℕ → Scopes → Origin → TypeTree → List Said → List Said
  type_says me s o (named_type q) rest = type_named_says s q rest
  type_says me s o (array_type word es of_word t) rest = type_says me s (element_origin o es) t (array_says me s es (type_is me s (element_origin o es) t) word rest)
  type_says me s o (record_type (record_text word b lists last)) rest =
      base_says s b (fields_say me s o (base_tree (base_is s b)) lists
      (record_row me o (base_is s b) (fields_are me s o (base_tree (base_is s b)) lists) word rest))

  pub fields_say : List ℕ → Scopes → Origin → BaseTree → FieldListsTree → List Said → List Said
  fields_say me s o b no_fields rest = rest
  fields_say me s o b (some_fields l more) rest = list_says me s o b no_more l (more_fields_say me s o b (list_is me s o b no_more l) more rest)

  pub more_fields_say : List ℕ → Scopes → Origin → BaseTree → Fields → MoreFieldsTree → List Said → List Said
  more_fields_say me s o b fs no_more_fields rest = rest
  more_fields_say me s o b fs (more_fields semicolon l more) rest = list_says me s o b fs l (more_fields_say me s o b (list_is me s o b fs l) more rest)

  pub list_says : List ℕ → Scopes → Origin → BaseTree → Fields → FieldsTree → List Said → List Said
  list_says me s o b fs (fields_of names colon t) rest =
      if is_some (first_new (is_taken me o b fs) (ident_defs names))
      then type_says me s (list_origin o (first_new (is_taken me o b fs) (ident_defs names))) t (fields_twice me o b fs (ident_defs names) unknown_ty rest)
      else fields_twice me o b fs (ident_defs names) unknown_ty rest
