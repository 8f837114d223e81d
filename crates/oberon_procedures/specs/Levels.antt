-- Inside of a procedure, and outside of all.
use Rattle.std.specs.Prelude.{◌≡◌, None}
use Rattle.oberon_rules.specs.Scopes.{Scopes}

pub record IsOutside (s : Scopes) : Type 0 where
  pub procedure : s.procedure ≡ None
  pub locals : s.locals ≡ None

-- the module's scope, from a place inside of a procedure
abbrev pub outside : Scopes → Scopes
outside s = record { procedure = None; locals = None; globals = s.globals }
