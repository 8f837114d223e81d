-- Types of trees in memory: what the steps of a record and of a list of fields make is what its tree stands for.
use Rattle.std.specs.Prelude.{ℕ, ◌≡◌, ◌<◌, ◌+◌, length, drop, List, Option, refl}
use Rattle.std.proofs.Common.{get_or, ap, sym, ◌∙◌}
use Rattle.std.proofs.lemmas.List.{at_drop_more}
use Rattle.oberon_tree.specs.declared.leaf.IdentDef.{IdentDef}
use Rattle.oberon_tree.specs.declared.types.RecordType.{RecordType, out-RecordType}
use Rattle.oberon_tree.specs.declared.types.FieldLists.{FieldLists, out-FieldLists}
use Rattle.oberon_tree.specs.declared.types.NextFields.{NextFields}
use Rattle.oberon_tree.specs.declared.types.Fields.{Fields as FieldList}
use Rattle.oberon_tree.specs.Memory.{type_tree, record_tree, field_lists_option, field_lists_tree, fields_tree, more_fields_list, ident_defs_tree}
use Rattle.oberon_tree.specs.Trees.{FieldListsTree, record_type, more_fields}
use Rattle.oberon_tree.proofs.TypeMemory.{record_out, field_lists_out}
use Rattle.oberon_types.specs.declared.origin.Origin.{Origin}
use Rattle.oberon_types.specs.Types.{TyTree, unknown_ty, BaseTree}
use Rattle.oberon_types.specs.Types.{FieldsTree as Fields, no_fields as no_more}
use Rattle.oberon_rules.specs.Scopes.{Scopes, Said}
use Rattle.oberon_rules.specs.TypeRules.{base_is, base_tree, base_says, record_is, record_row, fields_are, fields_say, more_fields_are, more_fields_say, list_is, list_says, type_is, type_says, ident_defs, first_new, is_taken, add_fields, fields_twice}
use Rattle.oberon_declare.specs.Records.{list_type, list_type_says}
use Rattle.oberon_declare.proofs.RecordLaws.{same_itself, twice_any, list_is_by, list_says_by}

-- ---- records

pub record_stands : (me : List ℕ) (s : Scopes) (o : Origin) (x : RecordType) (b : BaseTree) (fs : Fields) (t : TyTree) → b ≡ base_tree (base_is s (out-RecordType x).base) → fs ≡ fields_are me s o b (field_lists_option (out-RecordType x).fields) → t ≡ record_is me o (base_is s (out-RecordType x).base) fs → t ≡ type_is me s o (record_type (record_tree x))
record_stands me s o x b fs t e f g =
    let m = base_is s (out-RecordType x).base in
    g ∙ ap (record_is me o m) (f ∙ ap (λ (c : BaseTree). fields_are me s o c (field_lists_option (out-RecordType x).fields)) e)
    ∙ sym (ap (λ r. type_is me s o (record_type r)) (record_out x))

pub record_speaks : (me : List ℕ) (s : Scopes) (o : Origin) (x : RecordType) (b : BaseTree) (fs : Fields) (rest : List Said) → b ≡ base_tree (base_is s (out-RecordType x).base) → fs ≡ fields_are me s o b (field_lists_option (out-RecordType x).fields) → base_says s (out-RecordType x).base (fields_say me s o b (field_lists_option (out-RecordType x).fields) (record_row me o (base_is s (out-RecordType x).base) fs (out-RecordType x).word rest)) ≡ type_says me s o (record_type (record_tree x)) rest
record_speaks me s o x b fs rest e f =
    let m = base_is s (out-RecordType x).base in
    let lists = field_lists_option (out-RecordType x).fields in
    ap (λ (gs : Fields). base_says s (out-RecordType x).base (fields_say me s o b lists (record_row me o m gs (out-RecordType x).word rest))) f
    ∙ ap (λ (c : BaseTree). base_says s (out-RecordType x).base (fields_say me s o c lists (record_row me o m (fields_are me s o c lists) (out-RecordType x).word rest))) e
    ∙ sym (ap (λ r. type_says me s o (record_type r) rest) (record_out x))

-- ---- lists of fields

pub lists_stand : (me : List ℕ) (s : Scopes) (o : Origin) (b : BaseTree) (x : FieldLists) (fs gs : Fields) → fs ≡ list_is me s o b no_more (fields_tree (out-FieldLists x).first) → gs ≡ more_fields_are me s o b fs (more_fields_list (out-FieldLists x).rest.items) → gs ≡ fields_are me s o b (field_lists_tree x)
lists_stand me s o b x fs gs e f = f ∙ ap (λ (hs : Fields). more_fields_are me s o b hs (more_fields_list (out-FieldLists x).rest.items)) e ∙ sym (ap (fields_are me s o b) (field_lists_out x))

pub lists_speak : (me : List ℕ) (s : Scopes) (o : Origin) (b : BaseTree) (x : FieldLists) (fs : Fields) (rest : List Said) → fs ≡ list_is me s o b no_more (fields_tree (out-FieldLists x).first) → list_says me s o b no_more (fields_tree (out-FieldLists x).first) (more_fields_say me s o b fs (more_fields_list (out-FieldLists x).rest.items) rest) ≡ fields_say me s o b (field_lists_tree x) rest
lists_speak me s o b x fs rest e =
    ap (λ (hs : Fields). list_says me s o b no_more (fields_tree (out-FieldLists x).first) (more_fields_say me s o b hs (more_fields_list (out-FieldLists x).rest.items) rest)) e
    ∙ sym (ap (λ (ls : FieldListsTree). fields_say me s o b ls rest) (field_lists_out x))

-- one more list
pub list_loop : (me : List ℕ) (s : Scopes) (o : Origin) (b : BaseTree) (items : List NextFields) (i : ℕ) (x : NextFields) (fs gs : Fields) → i < length items → x ≡ get_or items i x → gs ≡ list_is me s o b fs (fields_tree x.fields) → more_fields_are me s o b gs (more_fields_list (drop (i + 1) items)) ≡ more_fields_are me s o b fs (more_fields_list (drop i items))
list_loop me s o b items i x fs gs l is e =
    let rest = more_fields_list (drop (i + 1) items) in
    ap (λ (hs : Fields). more_fields_are me s o b hs rest) e
    ∙ ap (λ (y : NextFields). more_fields_are me s o b fs (more_fields y.semicolon (fields_tree y.fields) rest)) is
    ∙ sym (at_drop_more (λ (ys : List NextFields). more_fields_are me s o b fs (more_fields_list ys)) items i x l)

pub list_loop_says : (me : List ℕ) (s : Scopes) (o : Origin) (b : BaseTree) (items : List NextFields) (i : ℕ) (x : NextFields) (fs gs : Fields) (rest : List Said) → i < length items → x ≡ get_or items i x → gs ≡ list_is me s o b fs (fields_tree x.fields) → more_fields_say me s o b fs (more_fields_list (drop i items)) rest ≡ list_says me s o b fs (fields_tree x.fields) (more_fields_say me s o b gs (more_fields_list (drop (i + 1) items)) rest)
list_loop_says me s o b items i x fs gs rest l is e =
    let more = more_fields_list (drop (i + 1) items) in
    at_drop_more (λ (ys : List NextFields). more_fields_say me s o b fs (more_fields_list ys) rest) items i x l
    ∙ ap (λ (y : NextFields). more_fields_say me s o b fs (more_fields y.semicolon (fields_tree y.fields) more) rest) (sym is)
    ∙ ap (λ (hs : Fields). list_says me s o b fs (fields_tree x.fields) (more_fields_say me s o b hs more rest)) (sym e)

-- ---- one list

pub list_stands : (me : List ℕ) (s : Scopes) (o : Origin) (b : BaseTree) (fs : Fields) (x : FieldList) (f : Option IdentDef) (t : TyTree) → f ≡ first_new (is_taken me o b fs) (ident_defs (ident_defs_tree x.names)) → t ≡ list_type me s o f (type_tree x.of_type) → add_fields me o b fs (ident_defs (ident_defs_tree x.names)) t ≡ list_is me s o b fs (fields_tree x)
list_stands me s o b fs x f t e g =
    let ds = ident_defs (ident_defs_tree x.names) in
    ap (add_fields me o b fs ds) (g ∙ ap (λ (h : Option IdentDef). list_type me s o h (type_tree x.of_type)) e)
    ∙ list_is_by me s o b fs ds (type_tree x.of_type) (first_new (is_taken me o b fs) ds) refl

pub list_speaks : (me : List ℕ) (s : Scopes) (o : Origin) (b : BaseTree) (fs : Fields) (x : FieldList) (f : Option IdentDef) (t : TyTree) (rest : List Said) → f ≡ first_new (is_taken me o b fs) (ident_defs (ident_defs_tree x.names)) → list_type_says me s o f (type_tree x.of_type) (fields_twice me o b fs (ident_defs (ident_defs_tree x.names)) t rest) ≡ list_says me s o b fs (fields_tree x) rest
list_speaks me s o b fs x f t rest e =
    let ds = ident_defs (ident_defs_tree x.names) in
    let twice = fields_twice me o b fs ds unknown_ty rest in
    ap (list_type_says me s o f (type_tree x.of_type)) (twice_any me o b fs fs ds t unknown_ty rest (same_itself me o fs))
    ∙ ap (λ (h : Option IdentDef). list_type_says me s o h (type_tree x.of_type) twice) e
    ∙ list_says_by me s o (type_tree x.of_type) (first_new (is_taken me o b fs) ds) twice
