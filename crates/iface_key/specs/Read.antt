-- What it means to read a part from the front of a text.
use Rattle.std.specs.Prelude.{ℕ, ◌≡◌, List, ◌∷◌, Option, Some, None, Result, MatchResult, nat_lt, if◌then◌else◌}
use Rattle.std.specs.declared.alloc.Global.{Global}
use Rattle.std.specs.declared.vec.Vec.{Vec}
use Rattle.std.specs.Borrow.{Bor}
use Rattle.iface_key.specs.declared.fault.Fault.{Fault}
use Rattle.iface_key.specs.declared.fault.Fault.TheVariants as faults

-- the text begins with no such part
abbrev pub BeginsWithNone : {A : Type 0} → (A → List ℕ → List ℕ) → (A → Type 0) → List ℕ → Type 0
BeginsWithNone {A} part_then IsPart text = (x : A) (rest : List ℕ) → IsPart x → text ≡ part_then x rest → ⊥

-- a part is read, and the text goes on behind it; or the text begins with no such part, or there was no memory
abbrev pub Reads : {R A : Type 0} → (R → A) → (A → List ℕ → List ℕ) → (A → Type 0) → List ℕ → Result (R × Bor (List ℕ)) Fault → Type 0
Reads plain part_then IsPart text result = MatchResult result (λ r. text ≡ part_then (plain r.0) r.1.now) (λ fault. fault ≡ faults.NoKey → BeginsWithNone part_then IsPart text)

-- any part
abbrev pub Any : {A : Type 0} → A → Type 0
Any x = Unit {0}

abbrev pub same : {A : Type 0} → A → A
same x = x

-- the next byte of a text, or its end
abbrev pub letter_then : Option ℕ → List ℕ → List ℕ
letter_then None rest = 0 ∷ rest
letter_then (Some b) rest = if nat_lt b 2 then 1 ∷ b ∷ rest else b ∷ rest

abbrev pub items_of : Vec ℕ Global → List ℕ
items_of v = v.items
