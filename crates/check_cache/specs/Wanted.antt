-- What is looked for among the kept checks.
use Rattle.std.specs.Prelude.{◌≡◌, ℕ, List}
use Rattle.ob_text.specs.declared.held.Held.{Held}
use Rattle.check_cache.specs.Facts.{FactTree}

-- the fact is of this text
pub record HasText (held : Held) (fact : FactTree) : Type 0 where
  pub text : fact.held ≡ held

-- and its imports have these names and numbers, in this order
pub record IsOf (held : Held) (imports : List (List ℕ × ℕ)) (fact : FactTree) : Type 0 where
  pub text : fact.held ≡ held
  pub numbers : fact.imports ≡ imports
