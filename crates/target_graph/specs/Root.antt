-- What is true of every root.
use Rattle.std.specs.Prelude.{ℕ, List}
use Rattle.ob_text.specs.Ascii.{IsGraphicWithin}
use Rattle.target_graph.specs.Limits.{root_limit}

abbrev pub IsRoot : List ℕ → Type 0
IsRoot text = IsGraphicWithin root_limit text
