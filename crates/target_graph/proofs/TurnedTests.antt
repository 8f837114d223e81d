-- What a test that was turned round says.
use Rattle.std.proofs.Common.{◌≡◌, Bool, true, false, not, refl}

pub from_not : (a b : Bool) → a ≡ not b → a ≡ false → b ≡ true
from_not a true e f = refl
from_not a false e f = absurd (cc)

pub from_not_true : (a b : Bool) → a ≡ not b → a ≡ true → b ≡ false
from_not_true a true e f = absurd (cc)
from_not_true a false e f = refl
