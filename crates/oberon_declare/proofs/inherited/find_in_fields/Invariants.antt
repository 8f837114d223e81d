use Rattle.std.specs.Prelude.{drop}
use Rattle.oberon_declare.proofs.InheritedLaws.{FindsUpTo, has_field}
use Rattle.oberon_declare.proofs.inherited.find_in_fields.Given as goal

abbrev pub invariant-loop-field : goal.invariant-loop-field
invariant-loop-field l = FindsUpTo l.asked.keys l.initial.found.keys l.found.keys (has_field l.me l.origin l.fields) (has_field l.me l.origin (drop l.field-index l.fields))
