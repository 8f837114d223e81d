use Rattle.std.specs.Prelude.{◌++◌, List, [], map}
use Rattle.std.proofs.Common.{ap, ◌∙◌}
use Rattle.oberon_tree.specs.Memory.{module_tree}
use Rattle.oberon_infer.specs.declared.said.Said.{Said as OwnSaid}
use Rattle.oberon_infer.specs.Memory.{plain_said}
use Rattle.oberon_rules.specs.Module.{whole_says}
use Rattle.oberon_module.specs.Views.{views_of}
use Rattle.oberon_module.proofs.JudgeLaws.{module_spoken}
use Rattle.oberon_module.proofs.judging.judge.Goals as goal

pub returns-clause-says : goal.returns-clause-says
returns-clause-says c =
    let me = c.args.me.now in
    let views = views_of c.args.views in
    let m = module_tree c.args.root.now in
    module_spoken me views m (map plain_said c.judge_whole.new.said.items) (map plain_said c.unused.new.said.items)
    (c.in_ok-scopes.ensures.says ∙ ap (λ (xs : List OwnSaid). map plain_said xs ++ whole_says me views m) c.requires.first)
    (c.in_ok-unused.ensures.goes [])
