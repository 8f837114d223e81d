-- One more name of a list of fields: it is taken, or it is new.
use Rattle.std.specs.Prelude.{◌≡◌, ◌++◌, Bool, true, false, if◌then◌else◌, List, ◌∷◌, map, is_some, Some, Result, Ok, Err, OnOk}
use Rattle.std.proofs.Common.{ap, sym, ◌∙◌}
use Rattle.ob_text.specs.declared.code.Code.TheVariants as codes_of
use Rattle.oberon_tree.specs.declared.leaf.IdentDef.{IdentDef}
use Rattle.oberon_types.specs.Memory.{base_option, fields_list}
use Rattle.oberon_types.specs.Types.{TyTree}
use Rattle.oberon_types.specs.Types.{FieldsTree as Fields}
use Rattle.oberon_rules.specs.Scopes.{Said, broken, named_row}
use Rattle.oberon_rules.specs.TypeRules.{is_taken, add_field, add_fields, fields_twice}
use Rattle.oberon_infer.specs.declared.said.Said.{Said as OwnSaid}
use Rattle.oberon_infer.specs.Adds.{Adds}
use Rattle.oberon_infer.specs.Memory.{plain_said}
use Rattle.oberon_declare.specs.declared.records.Made.{Made}
use Rattle.oberon_declare.specs.declared.owner.Owner.{Owner}
use Rattle.oberon_declare.specs.Records.{IsIndexed, AddsFields}

pub taken_adds : (o : Owner) (m : Made) (before behind : List OwnSaid) (d : IdentDef) (left : List IdentDef) (t : TyTree) → IsIndexed o m → is_taken o.me.now o.origin.now (base_option o.base) (fields_list m.fields.items) d.name.name ≡ true → Adds before behind (named_row true d.name codes_of.NameTwice) → AddsFields o m m before behind (d ∷ left) left t
taken_adds o m before behind d left t indexed taken a =
    let me = o.me.now in
    let b = base_option o.base in
    let fs = fields_list m.fields.items in
    let gs = add_field fs d.name.name (is_some d.export) t in
    record {
      fields = sym (ap (λ (c : Bool). if c then add_fields me o.origin.now b fs left t else add_fields me o.origin.now b gs left t) taken);
      says = record { goes = λ rest. a.goes (fields_twice me o.origin.now b fs left t rest) ∙ ap (λ said. map plain_said before ++ said) (sym (ap (λ (c : Bool). if c then broken d.name.span codes_of.NameTwice (Some d.name.name) ∷ fields_twice me o.origin.now b fs left t rest else fields_twice me o.origin.now b gs left t rest) taken)) };
      indexed = indexed;
    }

pub fresh_adds : (o : Owner) (m n : Made) (said : List OwnSaid) (d : IdentDef) (left : List IdentDef) (t : TyTree) → is_taken o.me.now o.origin.now (base_option o.base) (fields_list m.fields.items) d.name.name ≡ false → fields_list n.fields.items ≡ add_field (fields_list m.fields.items) d.name.name (is_some d.export) t → IsIndexed o n → AddsFields o m n said said (d ∷ left) left t
fresh_adds o m n said d left t fresh added indexed =
    let me = o.me.now in
    let b = base_option o.base in
    let fs = fields_list m.fields.items in
    let gs = add_field fs d.name.name (is_some d.export) t in
    record {
      fields = ap (λ (hs : Fields). add_fields me o.origin.now b hs left t) added ∙ sym (ap (λ (c : Bool). if c then add_fields me o.origin.now b fs left t else add_fields me o.origin.now b gs left t) fresh);
      says = record { goes = λ rest. ap (λ (more : List Said). map plain_said said ++ more) (ap (λ (hs : Fields). fields_twice me o.origin.now b hs left t rest) added ∙ sym (ap (λ (c : Bool). if c then broken d.name.span codes_of.NameTwice (Some d.name.name) ∷ fields_twice me o.origin.now b fs left t rest else fields_twice me o.origin.now b gs left t rest) fresh)) };
      indexed = indexed;
    }

-- two clauses of one result
pub on_ok_both : {T E : Type 0} (r : Result T E) (P Q R : Type 0) → (P → Q → R) → OnOk r P → OnOk r Q → OnOk r R
on_ok_both (Ok x) P Q R f p q = f p q
on_ok_both (Err e) P Q R f p q = tt
