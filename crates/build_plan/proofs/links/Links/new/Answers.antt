use Rattle.std.proofs.Common.{◌≡◌, ◌<◌, ◌∙◌, List, ℕ, length, All, sym, subst, arith}
use Rattle.build_plan.specs.Lists.{lists}
use Rattle.build_plan.specs.Links.{IsAdded}
use Rattle.build_plan.proofs.InMemory.{same_length, row_there, inside_row}
use Rattle.build_plan.proofs.TurnedLaws.{turned_more}
use Rattle.build_plan.proofs.links.Links.new.Goals as goal

pub add_importer-requires : goal.add_importer-requires
add_importer-requires c =
    let imports = c.args.imports.items in
    let h : c.loop-place.place < length imports = omega (arith, c.len-place-end.ensures, c.args.imports.ok.0) in
    let size : length imports ≡ length c.loop-place.importers.items = sym (sym (same_length c.loop-place.importers.items) ∙ (c.loop-place.invariant.size ∙ same_length imports)) in
    subst (λ n. All (λ place. place < n) c.as_slice.result.now) size
    (subst (λ (xs : List ℕ). All (λ place. place < length imports) xs) (sym c.as_slice.ensures.value)
    (inside_row imports c.loop-place.place c.index.result.now h c.index.ensures c.requires.within))

pub loop-place-preserved : goal.loop-place-preserved
loop-place-preserved c =
    let imports = c.args.imports.items in
    let h : c.loop-place.place < length imports = omega (arith, c.len-place-end.ensures, c.args.imports.ok.0) in
    turned_more (lists c.args.imports) c.loop-place.place (lists c.loop-place.importers) (lists c.add_importer.new.importers)
    (subst (λ n. c.loop-place.place < n) (sym (same_length imports)) h) c.loop-place.invariant
    (subst (λ (xs : List ℕ). IsAdded (lists c.loop-place.importers) (lists c.add_importer.new.importers) c.loop-place.place xs)
    (c.as_slice.ensures.value ∙ sym (row_there imports c.loop-place.place c.index.result.now h c.index.ensures)) c.in_ok-add_importer.ensures)
