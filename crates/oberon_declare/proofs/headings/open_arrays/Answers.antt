use Rattle.std.proofs.Common.{sym, ◌∙◌, ap}
use Rattle.std.specs.Prelude.{◌+◌, drop}
use Rattle.oberon_types.specs.Memory.{plain_ty}
use Rattle.ob_text.specs.declared.code.Code.TheVariants as codes_of
use Rattle.oberon_types.specs.Sizes.{too_large}
use Rattle.oberon_types.specs.Types.{TyTree, open_ty}
use Rattle.oberon_rules.specs.Procedures.{opened, open_rows}
use Rattle.oberon_rules.specs.Scopes.{row}
use Rattle.oberon_declare.proofs.HeadingLaws.{open_loop, open_loop_rows}
use Rattle.oberon_declare.proofs.SaidLaws.{goes_on_as}
use Rattle.oberon_declare.proofs.headings.open_arrays.Goals as goal

pub loop-open-preserved : goal.loop-open-preserved
loop-open-preserved c =
    let me = c.args.me.now in
    let items = c.args.opens.now in
    let i = c.loop-open._open-index in
    let t = plain_ty c.loop-open.ty in
    record {
      made = ap (opened me (drop (i + 1) items)) c.in_ok-ty.ensures.is ∙ open_loop me items i t c.loop-open-test.true ∙ c.loop-open.invariant.made;
      says = goes_on_as _ _ _ _ _ _ _ c.loop-open.invariant.says c.in_ok-ty.ensures.says (λ rest. open_loop_rows me items i t c.args.place rest c.loop-open-test.true ∙ ap (λ (u : TyTree). row (too_large me (open_ty t)) c.args.place codes_of.TypeTooLarge (open_rows me (drop (i + 1) items) u c.args.place rest)) (sym c.in_ok-ty.ensures.is));
    }
