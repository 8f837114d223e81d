-- Texts that pass a test.
use Rattle.std.proofs.Common.{◌≡◌, ℕ, ◌≤◌, List, length, leb}
use Rattle.std.specs.Prelude.{nat_le}
use Rattle.std.proofs.lemmas.Bool.{leb-true}
use Rattle.json_shape.specs.Shapes.{IsPassed, IsTextWithin}

pub is_within : (limit : ℕ) (t : List ℕ) → IsPassed (λ s. nat_le (length s) limit) t → IsTextWithin limit t
is_within limit t passed = record { utf8 = passed.utf8; within = leb-true (length t) limit passed.passed }
