use Rattle.std.proofs.Common.{◌≡◌, map, take}
use Rattle.std.specs.List.{All}
use Rattle.bsp_records.specs.Results.{HasSourcesTexts}
use Rattle.bsp_records.specs.ShortAnswers.{IsShortSourcesItem}
use Rattle.session_law.specs.Questions.{sources_at}
use Rattle.session_answers.proofs.sources.sources_answer.Given as goal

abbrev pub invariant-loop-target : goal.invariant-loop-target
invariant-loop-target l =
    record {
      are : l.items.items ≡ map (sources_at l.workspace) (take l.target-index l.target-items);
      texts : All HasSourcesTexts l.items.items;
      short : All IsShortSourcesItem l.items.items;
    }
