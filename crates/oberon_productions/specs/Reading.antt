-- What the functions that read a module tell: what they read is a tree's tokens, and leads the machine past
-- the parts that they read; or where the machine stops.
use Rattle.std.specs.Prelude.{◌≡◌, ℕ, suc, ◌≤◌, Bool, true, List, [], ◌∷◌, ◌++◌, length, Some}
use Rattle.oberon_scan.specs.declared.token.Token.{Token}
use Rattle.oberon_scan.specs.declared.token.TokenKind.{TokenKind}
use Rattle.oberon_productions.specs.declared.stop.Stop.{Stop}
use Rattle.oberon_productions.specs.declared.stop.Stop.TheVariants as stop
use Rattle.oberon_productions.specs.Expected.{Expected}
use Rattle.oberon_scan.specs.declared.token.Symbol.TheVariants as symbols
use Rattle.oberon_productions.specs.Expected as want
use Rattle.oberon_productions.specs.Machine.{statements_parts, stops}

-- these parts, as a tree that prints so and opens so many levels
pub record ReadsParts (parts : List Expected) (limit : ℕ) (given : List Token) (print : List Token → List Token) (depth : ℕ) (rest : List Token) : Type 0 where
  pub spelled : given ≡ print rest
  pub moves : (s : List Expected) → stops (parts ++ s) given ≡ stops s rest
  pub within : depth ≤ limit
  pub shorter : length rest ≤ length given

-- some items of a list, after which more of them may stand
pub record ReadsSome (part : Expected) (limit : ℕ) (given : List Token) (print : List Token → List Token) (depth : ℕ) (rest : List Token) : Type 0 where
  pub spelled : given ≡ print rest
  pub moves : (s : List Expected) → stops (part ∷ s) given ≡ stops (part ∷ s) rest
  pub within : depth ≤ limit
  pub shorter : length rest ≤ length given

-- the machine stops with so many tokens left
pub record StopsAt (parts : List Expected) (given : List Token) (e : Stop) : Type 0 where
  pub there : (n : ℕ) → e ≡ stop.Left n → (s : List Expected) → stops (parts ++ s) given ≡ Some n

-- one token, of which this test holds, and which is a tree's
pub record Single (test : TokenKind → Bool) (given : List Token) (print : List Token → List Token) (rest : List Token) : Type 0 where
  pub token : Token
  pub whole : given ≡ token ∷ rest
  pub holds : test token.kind ≡ true
  pub spelled : given ≡ print rest

-- the value of a label, which may be the first of an arm
pub record FirstValue (given : List Token) (print : List Token → List Token) (rest : List Token) : Type 0 where
  pub spelled : given ≡ print rest
  pub moves : (s : List Expected) → stops (want.value ∷ s) given ≡ stops s rest
  pub enters : (d : ℕ) (s : List Expected) → stops (want.arm d ∷ s) given ≡ stops (want.some_label_upper ∷ want.labels ∷ want.symbol symbols.Colon ∷ statements_parts d ++ s) rest
  pub shorter : suc (length rest) ≤ length given

-- the machine stops in such a value
pub record StopsValue (given : List Token) (e : Stop) : Type 0 where
  pub value : StopsAt (want.value ∷ []) given e
  pub arm : (d : ℕ) → StopsAt (want.arm d ∷ []) given e
