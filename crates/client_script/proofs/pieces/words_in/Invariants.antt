use denote.Shadow.{shadow}
use denote.Text.{Utf8}
use Rattle.std.proofs.Common.{◌≡◌, ◌++◌, map, length}
use Rattle.client_script.specs.Pieces.{now_of, pieces}
use Rattle.client_script.proofs.pieces.words_in.Given as goal

abbrev pub invariant-words : goal.invariant-words
invariant-words l = (map now_of l.words.items ++ pieces 32 l.rest ≡ pieces 32 l.initial.rest) × shadow (Utf8 l.rest)

abbrev pub decreases-words : goal.decreases-words
decreases-words l = length l.rest
