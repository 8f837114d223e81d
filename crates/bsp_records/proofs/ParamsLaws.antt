-- What is told of params is plain.
use Rattle.std.proofs.Common.{ℕ, ◌≤◌, List, length}
use Rattle.ob_text.specs.Ascii.{IsGraphic}
use Rattle.ob_text.proofs.AsciiLaws.{graphic_ascii}
use Rattle.bsp_records.specs.Limits.{path_limit}
use Rattle.bsp_records.specs.Reading.{IsPlainPath}

pub plain_path : (path : List ℕ) → IsGraphic path → length path ≤ path_limit → IsPlainPath path
plain_path path graphic short = record { ascii = graphic_ascii path graphic; short = short }
