use Rattle.std.proofs.Common.{◌≡◌, map, take}
use Rattle.std.specs.List.{All}
use Rattle.client_script.specs.Lines.{IsWord}
use Rattle.client_script.specs.Pieces.{now_of}
use Rattle.client_script.proofs.reading.names.Given as goal

abbrev pub invariant-loop-word : goal.invariant-loop-word
invariant-loop-word l = (l.names.items ≡ map now_of (take l.word-index l.words)) × All IsWord l.names.items
