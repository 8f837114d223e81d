use Rattle.std.proofs.Common.{◌≡◌, map, take}
use Rattle.std.specs.List.{All}
use Rattle.bsp_records.specs.Results.{HasSourceTexts}
use Rattle.bsp_records.specs.ShortAnswers.{IsShortSource}
use Rattle.session_law.specs.Questions.{source_at}
use Rattle.session_answers.proofs.sources.sources_of.Given as goal

abbrev pub invariant-loop-path : goal.invariant-loop-path
invariant-loop-path l =
    record {
      are : l.sources.items ≡ map (source_at l.workspace) (take l.path-index l.paths);
      texts : All HasSourceTexts l.sources.items;
      short : All IsShortSource l.sources.items;
    }
