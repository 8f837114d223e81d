-- Types in memory: what the tree of a struct is by the struct's fields, where it is made (`x_made`) and where
-- it is read (`x_out`).
use Rattle.std.specs.Prelude.{◌≡◌, Option, Some, None, refl}
use Rattle.std.proofs.Common.{ap, sym, ◌∙◌}
use Rattle.std.specs.declared.alloc.Global.{Global}
use Rattle.std.specs.declared.vec.Vec.{Vec}
use Rattle.ob_text.specs.declared.span.Span.{Span}
use denote.Hole.Carrier.{roll}
use Rattle.oberon_tree.specs.declared.types.«Type».TheBlock.{back-RecordType-fields, Row_of-NextFields, end_of-NextFields, more_of-NextFields, items-the_row-NextFields, hidden-the_row-NextFields-0, items_hidden-the_row-NextFields-0}
use Rattle.oberon_tree.specs.declared.types.Base.{Base}
use Rattle.oberon_tree.specs.declared.types.RecordType.{RecordType, roll-RecordType, out-RecordType, roll-out-RecordType}
use Rattle.oberon_tree.specs.declared.types.FieldLists.{FieldLists, roll-FieldLists, out-FieldLists, roll-out-FieldLists}
use Rattle.oberon_tree.specs.declared.types.NextFields.{NextFields}
use Rattle.oberon_tree.specs.declared.types.Fields.{Fields}
use Rattle.oberon_tree.specs.Memory.{type_tree, record_tree, field_lists_held, field_lists_tree, more_fields_row, fields_tree, field_lists_option, more_fields_list, ident_defs_tree}
use Rattle.oberon_tree.specs.Trees.{record_of, some_fields, more_fields, fields_of}

-- a row is the list of its items
more_fields_items : {m : _} (row : Row_of-NextFields m) → more_fields_row row ≡ more_fields_list (items-the_row-NextFields _ row)
more_fields_items end_of-NextFields = refl
more_fields_items (more_of-NextFields semicolon names colon t row) = ap (more_fields semicolon (fields_of (ident_defs_tree names) colon (type_tree t))) (more_fields_items row)

pub more_fields_hidden : (v : Vec NextFields Global) → more_fields_row (hidden-the_row-NextFields-0 v) ≡ more_fields_list v.items
more_fields_hidden v = more_fields_items (hidden-the_row-NextFields-0 v) ∙ ap more_fields_list (items_hidden-the_row-NextFields-0 v)

field_lists_back : (o : Option FieldLists) → field_lists_held (back-RecordType-fields o) ≡ field_lists_option o
field_lists_back None = refl
field_lists_back (Some b) = refl

pub record_made : (word' : Span) (base' : Option Base) (fields' : Option FieldLists) (end' : Span) → record_tree (roll-RecordType (record { word = word'; base = base'; fields = fields'; end = end' })) ≡ record_of word' base' (field_lists_option fields') end'
unfolding roll-RecordType roll
record_made word' base' fields' end' = ap (λ y. record_of word' base' y end') (field_lists_back fields')

pub record_out : (x : RecordType) → record_tree x ≡ record_of (out-RecordType x).word (out-RecordType x).base (field_lists_option (out-RecordType x).fields) (out-RecordType x).end
record_out x = ap record_tree (sym (roll-out-RecordType x)) ∙ record_made _ _ _ _

pub field_lists_made : (first' : Fields) (rest' : Vec NextFields Global) → field_lists_tree (roll-FieldLists (record { first = first'; rest = rest' })) ≡ some_fields (fields_tree first') (more_fields_list rest'.items)
unfolding roll-FieldLists roll
field_lists_made first' rest' = ap (some_fields (fields_tree first')) (more_fields_hidden rest')

pub field_lists_out : (x : FieldLists) → field_lists_tree x ≡ some_fields (fields_tree (out-FieldLists x).first) (more_fields_list (out-FieldLists x).rest.items)
field_lists_out x = ap field_lists_tree (sym (roll-out-FieldLists x)) ∙ field_lists_made _ _
