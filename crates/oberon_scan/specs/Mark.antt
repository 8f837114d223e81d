-- What two bytes inside a comment are: `(*`, `*)`, or neither.
use Rattle.std.specs.Prelude.{ℕ, ◌==◌, ◌&&◌, if◌then◌else◌}
use Rattle.oberon_scan.specs.declared.comment.Mark.{Mark}
use Rattle.oberon_scan.specs.declared.comment.Mark.TheVariants.{Opens, Closes, Neither}

abbrev pub mark_of : ℕ → ℕ → Mark
mark_of first second =
    if (first == 40) && (second == 42) then Opens else
    if (first == 42) && (second == 41) then Closes else
    Neither
