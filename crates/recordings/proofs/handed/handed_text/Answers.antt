use Rattle.std.proofs.Common.{Option, option_map, Bor, sym, subst}
use Rattle.std.specs.List.{All}
use Rattle.ob_text.specs.declared.held.Snapshot.{Snapshot}
use Rattle.recordings.specs.Recordings.{AreTexts, IsTextEntry}
use Rattle.recordings.proofs.handed.handed_text.Goals as goal

pub print_entries-requires : goal.print_entries-requires
print_entries-requires c =
    subst (All IsTextEntry) (sym c.as_slice.ensures) (subst (λ (s : Option (Bor Snapshot)). AreTexts (option_map (λ b. b.now.entries) s)) c.in-Some.is c.requires)
