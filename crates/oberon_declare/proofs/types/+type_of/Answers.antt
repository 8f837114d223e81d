use Rattle.std.specs.Prelude.{List}
use Rattle.std.specs.Option.{option_copied}
use Rattle.std.proofs.Common.{sym, ◌∙◌, ap}
use Rattle.std.proofs.lemmas.List.{at_drop_all}
use Rattle.std.proofs.lemmas.Result.{IfOk-weaker, on_ok_weaker}
use Rattle.oberon_tree.specs.declared.types.FieldLists.{out-FieldLists}
use Rattle.oberon_tree.specs.declared.types.NextFields.{NextFields}
use Rattle.oberon_tree.specs.declared.types.RecordType.{out-RecordType}
use Rattle.oberon_tree.specs.Memory.{exprs_tree, type_tree, field_lists_option, fields_tree, more_fields_list}
use Rattle.oberon_types.specs.declared.origin.Origin.{Origin}
use Rattle.oberon_types.specs.declared.ty.Field.{Field}
use Rattle.oberon_types.specs.Memory.{plain_ty, base_option, fields_list}
use Rattle.oberon_types.specs.Types.{TyTree}
use Rattle.oberon_rules.specs.TypeRules.{element_origin, array_says, base_is, base_says, record_is, record_row, fields_say, more_fields_are, more_fields_say, list_is, list_says, type_is, type_says}
use Rattle.oberon_infer.specs.Memory.{plain_scopes}
use Rattle.oberon_declare.proofs.SaidLaws.{both_add, three_add, said_all, goes_on_as}
use Rattle.oberon_declare.proofs.TypeLaws.{record_stands, record_speaks, lists_stand, lists_speak, list_loop, list_loop_says, list_stands, list_speaks}
use Rattle.oberon_declare.proofs.types.+type_of.Goals as goal

pub of_array-returns-clause-says : goal.of_array-returns-clause-says
of_array-returns-clause-says t c =
    let me = c.args.me.now in
    let s = plain_scopes c.args.scopes.now in
    let x = c.args.tree.now in
    let es = exprs_tree x.lengths in
    let inside = element_origin c.args.origin.now es in
    on_ok_weaker c.array.result (λ a. both_add _ _ _ _ _ _ c.in_ok-element.ensures.says a (λ rest.
    ap (λ (o : Origin). type_says me s o (type_tree x.element) (array_says me s es (plain_ty c.in_ok-element.element) x.word rest)) c.in_ok-inner.ensures
    ∙ ap (λ (u : TyTree). type_says me s inside (type_tree x.element) (array_says me s es u x.word rest)) (c.in_ok-element.ensures.is ∙ ap (λ (o : Origin). type_is me s o (type_tree x.element)) c.in_ok-inner.ensures))) c.array.ensures.says

pub of_record-returns-clause-is : goal.of_record-returns-clause-is
of_record-returns-clause-is t c =
    let me = c.args.me.now in
    let s = plain_scopes c.args.scopes.now in
    let o = c.args.origin.now in
    let x = c.args.tree.now in
    let m = base_is s (out-RecordType x).base in
    let fs = fields_list c.in_ok-fields.fields.items in
    IfOk-weaker c.record_of.result _ _ (λ ty is. record_stands me s o x (base_option c.in_ok-base.base) fs (plain_ty ty) (c.in_ok-base.ensures ∙ c.in_ok-found.ensures.is.record_is) c.in_ok-fields.ensures.is (is m c.in_ok-found.ensures.is ∙ ap (λ (p : Origin). record_is me p m fs) c.in_ok-origin.ensures)) c.record_of.ensures.is

pub of_record-returns-clause-says : goal.of_record-returns-clause-says
of_record-returns-clause-says t c =
    let me = c.args.me.now in
    let s = plain_scopes c.args.scopes.now in
    let x = c.args.tree.now in
    let m = base_is s (out-RecordType x).base in
    let b = base_option c.in_ok-base.base in
    let fs = fields_list c.in_ok-fields.fields.items in
    on_ok_weaker c.record_of.result (λ a. three_add _ _ _ _ _ _ _ _ c.in_ok-found.ensures.says c.in_ok-fields.ensures.says (a m c.in_ok-found.ensures.is) (λ rest.
    ap (λ (o : Origin). base_says s (out-RecordType x).base (fields_say me s c.args.origin.now b (field_lists_option (out-RecordType x).fields) (record_row me o m fs (out-RecordType x).word rest))) c.in_ok-origin.ensures
    ∙ record_speaks me s c.args.origin.now x b fs rest (c.in_ok-base.ensures ∙ c.in_ok-found.ensures.is.record_is) c.in_ok-fields.ensures.is)) c.record_of.ensures.says

pub of_list-returns-clause-is : goal.of_list-returns-clause-is
of_list-returns-clause-is t c =
    let me = c.args.owner.now.me.now in
    let s = plain_scopes c.args.scopes.now in
    let fs = fields_list c.args.made.now.fields.items in
    on_ok_weaker c.add_fields.result (λ a. a.fields ∙ list_stands me s c.args.owner.now.origin.now (base_option c.args.owner.now.base) fs c.args.list.now (option_copied c.first_new-first.result) (plain_ty c.in_ok-ty.ty) c.first_new-first.ensures c.in_ok-ty.ensures.is) c.add_fields.ensures

pub of_list-returns-clause-says : goal.of_list-returns-clause-says
of_list-returns-clause-says t c =
    let me = c.args.owner.now.me.now in
    let s = plain_scopes c.args.scopes.now in
    let fs = fields_list c.args.made.now.fields.items in
    on_ok_weaker c.add_fields.result (λ a. both_add _ _ _ _ _ _ c.in_ok-ty.ensures.says a.says (λ rest. list_speaks me s c.args.owner.now.origin.now (base_option c.args.owner.now.base) fs c.args.list.now (option_copied c.first_new-first.result) (plain_ty c.in_ok-ty.ty) rest c.first_new-first.ensures)) c.add_fields.ensures

pub of_some_lists-loop-next-preserved : goal.of_some_lists-loop-next-preserved
of_some_lists-loop-next-preserved t c =
    let me = c.args.owner.now.me.now in
    let s = plain_scopes c.args.scopes.now in
    let o = c.args.owner.now.origin.now in
    let b = base_option c.args.owner.now.base in
    let items = c.deref-next-items.result.now in
    let i = c.loop-next.next-index in
    let x = c.next-item.result in
    let fs = fields_list c.loop-next.made.fields.items in
    let gs = fields_list c.of_list-in-loop-next.new.made.fields.items in
    record {
      fields = list_loop me s o b items i x fs gs c.loop-next-test.true c.next-item.is c.in_ok-of_list-2.ensures.is ∙ c.loop-next.invariant.fields;
      says = goes_on_as _ _ _ _ _ _ _ c.loop-next.invariant.says c.in_ok-of_list-2.ensures.says (λ rest. list_loop_says me s o b items i x fs gs rest c.loop-next-test.true c.next-item.is c.in_ok-of_list-2.ensures.is);
      indexed = c.in_ok-of_list-2.ensures.indexed;
    }

pub of_some_lists-returns-clause-is : goal.of_some_lists-returns-clause-is
of_some_lists-returns-clause-is t c =
    let me = c.args.owner.now.me.now in
    let s = plain_scopes c.args.scopes.now in
    let o = c.args.owner.now.origin.now in
    let b = base_option c.args.owner.now.base in
    let x = c.args.lists.now in
    let items = c.deref-next-items.result.now in
    let fs = fields_list c.of_list.new.made.fields.items in
    let gs = fields_list c.loop-next.made.fields.items in
    ap fields_list c.into_fields.ensures
    ∙ lists_stand me s o b x fs gs
    (c.in_ok-of_list.ensures.is ∙ ap (λ (hs : List Field). list_is me s o b (fields_list hs) (fields_tree (out-FieldLists x).first)) c.no_fields-made.ensures.fields)
    (sym (at_drop_all (λ (ys : List NextFields). more_fields_are me s o b gs (more_fields_list ys)) items c.loop-next.next-index c.loop-next-test.false)
    ∙ c.loop-next.invariant.fields
    ∙ ap (λ (ys : List NextFields). more_fields_are me s o b fs (more_fields_list ys)) c.deref-next-items.ensures.value)

pub of_some_lists-returns-clause-says : goal.of_some_lists-returns-clause-says
of_some_lists-returns-clause-says t c =
    let me = c.args.owner.now.me.now in
    let s = plain_scopes c.args.scopes.now in
    let o = c.args.owner.now.origin.now in
    let b = base_option c.args.owner.now.base in
    let x = c.args.lists.now in
    let items = c.deref-next-items.result.now in
    let made = fields_list c.no_fields-made.result.fields.items in
    let fs = fields_list c.of_list.new.made.fields.items in
    let gs = fields_list c.loop-next.made.fields.items in
    said_all _ _ _ _ _ _ _ c.in_ok-of_list.ensures.says c.loop-next.invariant.says
    (λ rest. at_drop_all (λ (ys : List NextFields). more_fields_say me s o b gs (more_fields_list ys) rest) items c.loop-next.next-index c.loop-next-test.false)
    (λ rest. ap (λ (ys : List NextFields). list_says me s o b made (fields_tree (out-FieldLists x).first) (more_fields_say me s o b fs (more_fields_list ys) rest)) c.deref-next-items.ensures.value
    ∙ ap (λ (hs : List Field). list_says me s o b (fields_list hs) (fields_tree (out-FieldLists x).first) (more_fields_say me s o b fs (more_fields_list (out-FieldLists x).rest.items) rest)) c.no_fields-made.ensures.fields
    ∙ lists_speak me s o b x fs rest (c.in_ok-of_list.ensures.is ∙ ap (λ (hs : List Field). list_is me s o b (fields_list hs) (fields_tree (out-FieldLists x).first)) c.no_fields-made.ensures.fields))
