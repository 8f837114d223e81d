use Rattle.std.proofs.Common.{◌∙◌}
use Rattle.oberon_types.specs.Memory.{plain_ty}
use Rattle.oberon_declare.proofs.ArrayLaws.{array_loop, array_loop_rows}
use Rattle.oberon_declare.proofs.SaidLaws.{goes_on_as}
use Rattle.oberon_declare.proofs.arrays.arrays.Goals as goal

pub loop-length-preserved : goal.loop-length-preserved
loop-length-preserved c =
    let me = c.args.me.now in
    let t = plain_ty c.loop-length.ty in
    let u = plain_ty c.in_ok-ty.ty in
    record {
      made = array_loop me c.loop-length.lengths.items c.pop.new.self.items c.in-Some.length t u c.in-Some.ensures.items c.in_ok-ty.ensures.is ∙ c.loop-length.invariant.made;
      says = goes_on_as _ _ _ _ _ _ _ c.loop-length.invariant.says c.in_ok-ty.ensures.says (λ rest. array_loop_rows me c.loop-length.lengths.items c.pop.new.self.items c.in-Some.length t u c.args.word rest c.in-Some.ensures.items c.in_ok-ty.ensures.is);
    }
