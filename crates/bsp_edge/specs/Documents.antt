-- What is handed out of what a file holds.
use Rattle.ob_text.specs.declared.held.Held.{Held}
use Rattle.ob_text.specs.declared.held.Held.TheVariants.{Text, Absent, TooLarge, NotText}
use Rattle.ob_text.specs.Held.{held_of}

abbrev pub as_handed : Held → Held
as_handed (Text text) = held_of text
as_handed Absent = Absent
as_handed TooLarge = TooLarge
as_handed NotText = NotText
