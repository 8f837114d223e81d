use Rattle.std.proofs.Common.{◌≡◌, map, take}
use Rattle.std.specs.List.{All}
use Rattle.bsp_records.specs.Results.{HasBuildTargetTexts}
use Rattle.bsp_records.specs.ShortAnswers.{IsShortTarget}
use Rattle.session_law.specs.Questions.{described}
use Rattle.session_answers.proofs.targets.targets_answer.Given as goal

abbrev pub invariant-loop-target : goal.invariant-loop-target
invariant-loop-target l =
    record {
      are : l.targets.items ≡ map (described l.workspace) (take l.target-index l.workspace.targets);
      texts : All HasBuildTargetTexts l.targets.items;
      short : All IsShortTarget l.targets.items;
    }
