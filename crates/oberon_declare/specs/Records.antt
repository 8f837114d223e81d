-- A record while it is made: its owner, and the names that its fields have so far.
use Rattle.std.specs.Prelude.{ℕ, ◌≡◌, Bool, true, false, List, is_some, Option, Some, None}
use Rattle.oberon_tree.specs.declared.leaf.IdentDef.{IdentDef}
use Rattle.oberon_tree.specs.declared.types.ArrayType.{ArrayType}
use Rattle.oberon_tree.specs.Memory.{exprs_tree, type_tree}
use Rattle.oberon_tree.specs.Trees.{TypeTree, array_type}
use Rattle.oberon_types.specs.declared.origin.Origin.{Origin}
use Rattle.oberon_types.specs.Types.{TyTree, unknown_ty}
use Rattle.oberon_types.specs.Types.{FieldsTree as Fields}
use Rattle.oberon_types.specs.Sizes.{field_in}
use Rattle.oberon_types.specs.Memory.{base_option, fields_list}
use Rattle.indexmap.specs.IndexSet.{contains}
use Rattle.oberon_types.specs.Types.{same_name}
use Rattle.oberon_rules.specs.Scopes.{Scopes, Said}
use Rattle.oberon_rules.specs.TypeRules.{BaseMeant, without_base, with_base, unclear_base, bad_base, base_tree, list_origin, type_is, type_says, add_fields, fields_twice}
use Rattle.oberon_infer.specs.declared.said.Said.{Said as OwnSaid}
use Rattle.oberon_infer.specs.Adds.{Goes}
use Rattle.oberon_declare.specs.declared.records.FoundBase.{FoundBase}
use Rattle.oberon_declare.specs.declared.owner.Owner.{Owner}
use Rattle.oberon_declare.specs.declared.records.Made.{Made}

-- ---- bases

-- whether a record is made over it
abbrev pub is_usable : BaseMeant → Bool
is_usable without_base = true
is_usable (with_base r) = true
is_usable unclear_base = false
is_usable bad_base = false

pub record IsBase (f : FoundBase) (m : BaseMeant) : Type 0 where
  pub record_is : base_option f.base ≡ base_tree m
  pub usable : f.usable ≡ is_usable m

-- ---- fields

-- the set of names finds what the list of fields has
pub record IsIndexed (o : Owner) (m : Made) : Type 0 where
  pub found : (x : List ℕ) → contains same_name m.names x ≡ is_some (field_in o.me.now o.origin.now x (fields_list m.fields.items))

abbrev pub array_type_tree : ArrayType → TypeTree
array_type_tree x = array_type x.word (exprs_tree x.lengths) x.of (type_tree x.element)

-- the type of a list of fields, where a name of it declares something
abbrev pub list_type : List ℕ → Scopes → Origin → Option IdentDef → TypeTree → TyTree
list_type me s o None t = unknown_ty
list_type me s o (Some d) t = type_is me s (list_origin o (Some d)) t

abbrev pub list_type_says : List ℕ → Scopes → Origin → Option IdentDef → TypeTree → List Said → List Said
list_type_says me s o None t rest = rest
list_type_says me s o (Some d) t rest = type_says me s (list_origin o (Some d)) t rest

abbrev pub fields_behind : Owner → Made → List IdentDef → TyTree → Fields
fields_behind o m ds t = add_fields o.me.now o.origin.now (base_option o.base) (fields_list m.fields.items) ds t

abbrev pub twice_say : Owner → Made → List IdentDef → TyTree → List Said → List Said
twice_say o m ds t rest = fields_twice o.me.now o.origin.now (base_option o.base) (fields_list m.fields.items) ds t rest

-- With `new`, fields of this type are added for the names that are left as they were with `old` for all names.
pub record AddsFields (o : Owner) (old new : Made) (before behind : List OwnSaid) (names left : List IdentDef) (t : TyTree) : Type 0 where
  pub fields : fields_behind o new left t ≡ fields_behind o old names t
  pub says : Goes before behind (twice_say o old names t) (twice_say o new left t)
  pub indexed : IsIndexed o new
