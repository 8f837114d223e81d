-- An origin with another way from the declared type.
use Rattle.std.specs.Prelude.{List}
use Rattle.oberon_types.specs.declared.origin.Origin.{Origin}
use Rattle.oberon_types.specs.declared.origin.Step.{Step}

abbrev pub at_path : Origin → List Step → Origin
at_path o p = record { «module» = o.«module»; procedure = o.procedure; name = o.name; path = p }
