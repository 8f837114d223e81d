-- What the loop over the ARRAY OF of a formal type keeps.
use Rattle.std.specs.Prelude.{◌≡◌, ℕ, ◌≤◌, ◌+◌, List, ◌∷◌, length}
use Rattle.oberon_scan.specs.declared.token.Token.{Token}
use Rattle.oberon_tree.specs.declared.module.OpenArray.{OpenArray}
use Rattle.oberon_tree.specs.Print.{print_each, print_open_array}
use Rattle.oberon_productions.specs.Expected.{Expected}
use Rattle.oberon_productions.specs.Expected as want
use Rattle.oberon_productions.specs.Machine.{stops}

-- some ARRAY OF, each a level
pub record ReadsOpens (levels left : ℕ) (given : List Token) (items : List OpenArray) (rest : List Token) : Type 0 where
  pub spelled : given ≡ print_each print_open_array items rest
  pub moves : (s : List Expected) → stops (want.opens levels ∷ s) given ≡ stops (want.opens left ∷ s) rest
  pub within : length items + left ≡ levels
  pub shorter : length rest ≤ length given
