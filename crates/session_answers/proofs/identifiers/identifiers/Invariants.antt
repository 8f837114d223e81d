use Rattle.std.proofs.Common.{◌≡◌, map, take}
use Rattle.std.specs.List.{All}
use Rattle.bsp_records.specs.Params.{IsTarget}
use Rattle.bsp_records.specs.ShortAnswers.{IsShortIdentifier}
use Rattle.session_law.specs.Questions.{identifier_at}
use Rattle.session_answers.proofs.identifiers.identifiers.Given as goal

abbrev pub invariant-loop-target : goal.invariant-loop-target
invariant-loop-target l =
    record {
      are : l.ids.items ≡ map (identifier_at l.workspace) (take l.target-index l.targets);
      texts : All IsTarget l.ids.items;
      short : All IsShortIdentifier l.ids.items;
    }
