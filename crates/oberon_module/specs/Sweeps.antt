-- Where a sweep of a text stands.
use Rattle.std.specs.Prelude.{◌≡◌}
use Rattle.oberon_module.specs.declared.places.Sweep.{Sweep}

pub record IsSweep (s : Sweep) : Type 0 where
  pub text : s.cursor.text ≡ s.text.now
  pub offset : s.cursor.offset ≡ s.reached
