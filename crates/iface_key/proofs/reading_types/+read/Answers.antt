use Rattle.std.proofs.Common.{refl, ◌∷◌, ◌∙◌, ap, sym, subst, map, List, ℕ, arith}
use Rattle.std.specs.Option.{option_map}
use Rattle.oberon_types.specs.Memory.{plain_ty}
use Rattle.iface_key.specs.Keys.{option_then, type_then, fields_then}
use Rattle.iface_key.specs.Read.{Reads}
use Rattle.iface_key.specs.ReadTypes.{IsNestedIn, IsNextIn, plain_field, field_then}
use Rattle.iface_key.proofs.Listed.{exits, none_next, so_far_step, so_far_last, map_more}
use Rattle.iface_key.proofs.Longer.{item_smaller, field_longer}
use Rattle.iface_key.proofs.PartLaws.{no_option_mark}
use Rattle.iface_key.proofs.TypeLaws.{no_type_empty, no_string, no_array_length, no_array_element, no_open_element, no_record_type, no_flat_type, no_type_tag, no_flat_record, no_record_origin, no_record_base, no_record_fields, no_record_size, record_read, no_base_mark, no_base_record, field_listing, listed_then, AreListedIn, next_is_in, none_listed, fields_are, no_field_name, no_field_mark, no_field_type, field_read}
use Rattle.iface_key.proofs.reading_types.+read.Goals as goal

pub read_type-returns-in_err-tag : goal.read_type-returns-in_err-tag
read_type-returns-in_err-tag t c = exits _ _ c.from_residual.result c.in_err-tag.field-0.0 c.from_residual.ensures.1 (λ e. no_type_empty (IsNestedIn c.args.depth) c.args.text.now (c.in_err-tag.ensures e))

pub read_type-returns-in-Some : goal.read_type-returns-in-Some
read_type-returns-in-Some t c = c.in_ok-tag.ensures ∙ c.in-Some.ensures c.in_ok-tag.behind.now

pub read_type-returns-in-None : goal.read_type-returns-in-None
read_type-returns-in-None t c = subst (λ (x : List ℕ). Reads plain_ty type_then (IsNestedIn c.args.depth) x c.read_larger.result) (sym c.in_ok-tag.ensures) c.read_larger.ensures

pub read_larger-returns-in_err-count : goal.read_larger-returns-in_err-count
read_larger-returns-in_err-count t c = exits _ _ c.from_residual.result c.in_err-count.field-0.0 c.from_residual.ensures.1 (λ e. no_string c.args.tag c.args.text.now (IsNestedIn c.args.depth) c.if-tag-eq6.true (c.in_err-count.ensures e))

pub read_larger-returns-then-depth-eq0 : goal.read_larger-returns-then-depth-eq0
read_larger-returns-then-depth-eq0 t c e = no_flat_type c.args.tag c.args.text.now c.args.depth (omega (arith, c.requires, c.if-tag-eq6.false)) c.if-depth-eq0.true

pub read_larger-returns-in_err-given : goal.read_larger-returns-in_err-given
read_larger-returns-in_err-given t c = exits _ _ c.from_residual-in_err-given.result c.in_err-given.field-0.0 c.from_residual-in_err-given.ensures.1 (λ e. no_record_type c.args.tag c.args.text.now c.args.depth c.if-tag-eq9.true (c.in_err-given.ensures e))

pub read_larger-returns : goal.read_larger-returns
read_larger-returns t c e = no_type_tag c.args.tag c.args.text.now (IsNestedIn c.args.depth) (omega (arith, c.requires, c.if-tag-eq6.false, c.if-tag-eq7.false, c.if-tag-eq8.false, c.if-tag-eq9.false))

pub read_record-returns-then-depth-eq0 : goal.read_record-returns-then-depth-eq0
read_record-returns-then-depth-eq0 t c e = no_flat_record c.args.depth c.args.text.now c.if-depth-eq0.true

pub read_record-returns-in_err-origin : goal.read_record-returns-in_err-origin
read_record-returns-in_err-origin t c = exits _ _ c.from_residual.result c.in_err-origin.field-0.0 c.from_residual.ensures.1 (λ e. no_record_origin c.args.depth c.args.text.now (c.in_err-origin.ensures e))

pub read_record-returns-in_err-base : goal.read_record-returns-in_err-base
read_record-returns-in_err-base t c = exits _ _ c.from_residual-in_err-base.result c.in_err-base.field-0.0 c.from_residual-in_err-base.ensures.1 (λ e. no_record_base c.args.depth c.args.text.now c.in_ok-origin.behind_origin.now c.in_ok-origin.origin c.in_ok-origin.ensures (c.in_err-base.ensures e))

pub read_record-returns-in_err-fields : goal.read_record-returns-in_err-fields
read_record-returns-in_err-fields t c = exits _ _ c.from_residual-in_err-fields.result c.in_err-fields.field-0.0 c.from_residual-in_err-fields.ensures.1 (λ e. no_record_fields c.args.depth c.args.text.now c.in_ok-origin.behind_origin.now c.in_ok-origin.origin c.in_ok-origin.ensures c.in_ok-base.behind_base.now _ c.in_ok-base.ensures (c.in_err-fields.ensures e))

pub read_record-returns-in_err-size : goal.read_record-returns-in_err-size
read_record-returns-in_err-size t c = exits _ _ c.from_residual-in_err-size.result c.in_err-size.field-0.0 c.from_residual-in_err-size.ensures.1 (λ e. no_record_size c.args.depth c.args.text.now c.in_ok-origin.behind_origin.now c.in_ok-origin.origin c.in_ok-origin.ensures c.in_ok-base.behind_base.now _ c.in_ok-base.ensures c.in_ok-fields.behind_fields.now _ c.in_ok-fields.ensures (c.in_err-size.ensures e))

pub read_record-returns : goal.read_record-returns
read_record-returns t c = record_read c.args.text.now c.in_ok-origin.behind_origin.now c.in_ok-base.behind_base.now c.in_ok-fields.behind_fields.now c.in_ok-size.behind.now c.in_ok-origin.origin c.in_ok-base.base c.in_ok-fields.fields c.in_ok-size.size c.in_ok-given.given.value c.in_ok-origin.ensures c.in_ok-base.ensures c.in_ok-fields.ensures c.in_ok-size.ensures c.in_ok-given.ensures

pub read_base-returns-in_err-extended : goal.read_base-returns-in_err-extended
read_base-returns-in_err-extended t c = exits _ _ c.from_residual.result c.in_err-extended.field-0.0 c.from_residual.ensures.1 (λ e. no_base_mark c.args.depth c.args.text.now (c.in_err-extended.ensures e))

pub read_base-returns-in_err-base : goal.read_base-returns-in_err-base
read_base-returns-in_err-base t c = exits _ _ c.from_residual-in_err-base.result c.in_err-base.field-0.0 c.from_residual-in_err-base.ensures.1 (λ e. no_base_record c.args.depth c.args.text.now c.in_ok-extended.behind_mark.now c.in_ok-extended.extended c.in_ok-extended.ensures c.if-extended.true (c.in_err-base.ensures e))

pub next_field-returns-in_err-more : goal.next_field-returns-in_err-more
next_field-returns-in_err-more t c = exits _ _ c.from_residual.result c.in_err-more.field-0.0 c.from_residual.ensures.1 (λ e. no_option_mark field_then (IsNextIn c.args.depth) c.args.text.now (c.in_err-more.ensures e))

pub next_field-returns-in_err-name : goal.next_field-returns-in_err-name
next_field-returns-in_err-name t c = exits _ _ c.from_residual-in_err-name.result c.in_err-name.field-0.0 c.from_residual-in_err-name.ensures.1 (λ e. no_field_name c.args.depth c.args.text.now c.in_ok-more.behind_mark.now c.in_ok-more.more c.in_ok-more.ensures c.if-more.true (c.in_err-name.ensures e))

pub next_field-returns-in_err-exported : goal.next_field-returns-in_err-exported
next_field-returns-in_err-exported t c = exits _ _ c.from_residual-in_err-exported.result c.in_err-exported.field-0.0 c.from_residual-in_err-exported.ensures.1 (λ e. no_field_mark c.args.depth c.args.text.now c.in_ok-more.behind_mark.now c.in_ok-more.more c.in_ok-more.ensures c.if-more.true c.in_ok-name.behind_name.now c.in_ok-name.name c.in_ok-name.ensures (c.in_err-exported.ensures e))

pub next_field-returns-in_err-ty : goal.next_field-returns-in_err-ty
next_field-returns-in_err-ty t c = exits _ _ c.from_residual-in_err-ty.result c.in_err-ty.field-0.0 c.from_residual-in_err-ty.ensures.1 (λ e. no_field_type c.args.depth c.args.text.now c.in_ok-more.behind_mark.now c.in_ok-more.more c.in_ok-more.ensures c.if-more.true c.in_ok-name.behind_name.now c.in_ok-name.name c.in_ok-name.ensures c.in_ok-exported.behind_exported.now c.in_ok-exported.exported c.in_ok-exported.ensures (c.in_err-ty.ensures e))

pub next_field-returns-then-more : goal.next_field-returns-then-more
next_field-returns-then-more t c = field_read c.args.text.now c.in_ok-more.behind_mark.now c.in_ok-name.behind_name.now c.in_ok-exported.behind_exported.now c.in_ok-ty.behind.now c.in_ok-more.more c.in_ok-name.name c.in_ok-exported.exported (plain_ty c.in_ok-ty.ty) c.in_ok-more.ensures c.if-more.true c.in_ok-name.ensures c.in_ok-exported.ensures c.in_ok-ty.ensures

pub read_fields-returns-in_err-next : goal.read_fields-returns-in_err-next
read_fields-returns-in_err-next t c = exits _ _ c.from_residual.result c.in_err-next.field-0.0 c.from_residual.ensures.1
    (λ e. none_listed c.args.depth c.args.text.now (none_next (option_then field_then) listed_then field_listing (IsNextIn c.args.depth) (AreListedIn c.args.depth) tt (next_is_in c.args.depth) (map plain_field c.fields.fields.items) c.args.text.now c.fields.left.now c.fields.invariant (c.in_err-next.ensures e)))

pub read_fields-returns-in-None : goal.read_fields-returns-in-None
read_fields-returns-in-None t c = so_far_last (option_then field_then) listed_then field_listing (map plain_field c.fields.fields.items) _ c.args.text.now c.fields.left.now c.in_ok-next.behind.now c.fields.invariant c.in_ok-next.ensures (ap (option_map plain_field) c.in-None.is) ∙ ap (λ fs. fields_then fs c.in_ok-next.behind.now) (fields_are c.fields.fields.items)

pub read_fields-fields-preserved : goal.read_fields-fields-preserved
read_fields-fields-preserved t c = so_far_step (option_then field_then) listed_then field_listing (map plain_field c.fields.fields.items) (map plain_field c.push.new.self.items) (plain_field c.in-Some.field) _ c.args.text.now c.fields.left.now c.in_ok-next.behind.now c.fields.invariant c.in_ok-next.ensures (ap (option_map plain_field) c.in-Some.is) (ap (map plain_field) c.in_ok-push-in-Some.ensures.items ∙ map_more plain_field c.fields.fields.items c.in-Some.field)

pub read_fields-fields-smaller : goal.read_fields-fields-smaller
read_fields-fields-smaller t c = item_smaller field_then field_longer _ c.fields.left.now c.in_ok-next.behind.now c.in_ok-next.ensures

pub read_larger-returns-then-tag-eq7 : goal.read_larger-returns-then-tag-eq7
read_larger-returns-then-tag-eq7 t c = subst (λ (k : ℕ). Reads plain_ty type_then (IsNestedIn c.args.depth) (k ∷ c.args.text.now) c.read_array.result) (sym c.if-tag-eq7.true) c.read_array.ensures

pub read_larger-returns-then-tag-eq8 : goal.read_larger-returns-then-tag-eq8
read_larger-returns-then-tag-eq8 t c = subst (λ (k : ℕ). Reads plain_ty type_then (IsNestedIn c.args.depth) (k ∷ c.args.text.now) c.read_open.result) (sym c.if-tag-eq8.true) c.read_open.ensures

pub read_array-returns-in_err-length : goal.read_array-returns-in_err-length
read_array-returns-in_err-length t c = exits _ _ c.from_residual.result c.in_err-length.field-0.0 c.from_residual.ensures.1 (λ e. no_array_length 7 c.args.text.now (IsNestedIn c.args.depth) refl (c.in_err-length.ensures e))

pub read_array-returns-in_err-item : goal.read_array-returns-in_err-item
read_array-returns-in_err-item t c = exits _ _ c.from_residual-in_err-item.result c.in_err-item.field-0.0 c.from_residual-in_err-item.ensures.1 (λ e. no_array_element 7 c.args.text.now c.args.depth c.in_ok-length.length c.in_ok-length.behind_length.now refl c.in_ok-length.ensures (c.in_err-item.ensures e))

pub read_open-returns-in_err-part : goal.read_open-returns-in_err-part
read_open-returns-in_err-part t c = exits _ _ c.from_residual.result c.in_err-part.field-0.0 c.from_residual.ensures.1 (λ e. no_open_element 8 c.args.text.now c.args.depth refl (c.in_err-part.ensures e))
