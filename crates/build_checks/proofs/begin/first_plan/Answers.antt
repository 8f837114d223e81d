use Rattle.std.proofs.Common.{ℕ, arith}
use Rattle.std.specs.Prelude.{Vec}
use Rattle.std.specs.declared.alloc.Global.{Global}
use Rattle.std.proofs.lemmas.List.{length-map}
use Rattle.std.proofs.lemmas.Result.{IfOk-weaker}
use Rattle.build_plan.specs.Lists.{lists}
use Rattle.build_sources.proofs.RowLaws.{rows_within}
use Rattle.build_sources.specs.Sources.{world}
use Rattle.build_checks.proofs.begin.first_plan.Goals as goal

pub new-requires-clause-within : goal.new-requires-clause-within
new-requires-clause-within c = rows_within (world c.args.sources.now) (lists c.in_ok-rows.field-0) c.in_ok-rows.ensures

pub new-requires-clause-few : goal.new-requires-clause-few
new-requires-clause-few c =
    let size = c.in_ok-rows.ensures.size in
    let items = length-map c.in_ok-rows.field-0.items (λ (row : Vec ℕ Global). row.items) in
    let all = c.count-size.ensures.count in
    let few = c.count-size.ensures.few in
    omega (arith, size, items, all, few)

pub returns : goal.returns
returns c = IfOk-weaker c.new.result _ _ (λ plan is. (lists c.in_ok-rows.field-0, c.in_ok-rows.ensures, is)) c.new.ensures
