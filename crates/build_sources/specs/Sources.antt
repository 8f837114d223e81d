-- What the checks of a build go by, and the world that they are of.
use Rattle.std.specs.Prelude.{◌≡◌}
use Rattle.oberon_types.specs.Memory.{plain_view}
use Rattle.oberon_rules.specs.Views.{out_view}
use Rattle.build_rules.specs.World.{World}
use Rattle.build_sources.specs.Documents.{AreDocuments, handed_out}
use Rattle.build_sources.specs.declared.sources.Sources.{Sources}

abbrev pub world : Sources → World
world s = record { targets = s.workspace.value.targets; entries = handed_out s.documents }

pub record AreSources (s : Sources) : Type 0 where
  pub documents : AreDocuments s.documents
  pub out : plain_view s.out.value ≡ out_view
