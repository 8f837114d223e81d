use Rattle.std.specs.Prelude.{ℕ, Bool, ◌||◌, ◌&&◌, List, is_some}
use Rattle.std.proofs.Common.{sym, ◌∙◌, ap}
use Rattle.oberon_types.specs.Memory.{plain_ty, fields_list}
use Rattle.oberon_types.specs.Sizes.{sees, field_in}
use Rattle.oberon_types.specs.Types.{same_name}
use Rattle.oberon_types.specs.Types.{FieldsTree as Fields}
use Rattle.oberon_rules.specs.TypeRules.{add_field}
use Rattle.oberon_declare.proofs.RecordLaws.{field_last, found_more}
use Rattle.oberon_declare.proofs.records.push_field.Goals as goal

pub returns-clause-fields : goal.returns-clause-fields
returns-clause-fields c =
    let old = c.args.made.now.fields.items in
    let t = plain_ty c.in_ok-copy-2.field-0 in
    let x = c.args.at.now.name.name in
    ap fields_list c.in_ok-push.ensures.items ∙ field_last old _
    ∙ ap (λ (n : List ℕ). add_field (fields_list old) n c.is_some-exported.result t) c.in_ok-copy.ensures
    ∙ ap (λ (b : Bool). add_field (fields_list old) x b t) c.is_some-exported.ensures
    ∙ ap (add_field (fields_list old) x (is_some c.args.at.now.export)) c.in_ok-copy-2.ensures

pub returns-clause-indexed : goal.returns-clause-indexed
returns-clause-indexed c =
    let me = c.args.owner.now.me.now in
    let o = c.args.owner.now.origin.now in
    let old = c.args.made.now.fields.items in
    let t = plain_ty c.in_ok-copy-2.field-0 in
    let name = c.args.at.now.name.name in
    let b = c.is_some-exported.result in
    record {
      found = λ x.
          c.in_ok-push_name.ensures x
          ∙ ap (λ (d : Bool). d || (same_name name x && sees me o b)) (c.requires.indexed.found x)
          ∙ sym (found_more me o x (fields_list old) name b t)
          ∙ sym (ap (λ (fs : Fields). is_some (field_in me o x fs)) (ap fields_list c.in_ok-push.ensures.items ∙ field_last old _ ∙ ap (λ (n : List ℕ). add_field (fields_list old) n b t) c.in_ok-copy.ensures));
    }
