use Rattle.std.specs.Prelude.{◌≡◌, drop}
use Rattle.oberon_types.specs.Names.{seen_in}
use Rattle.oberon_types.proofs.names.seen_among.Given as goal

abbrev pub invariant-loop-field : goal.invariant-loop-field
invariant-loop-field l = seen_in l.me l.origin l.name l.fields ≡ seen_in l.me l.origin l.name (drop l.field-index l.fields)
