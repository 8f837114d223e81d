-- What parts of a run pay for: each byte written is paid for by a step, but for so many that are owed.
use Rattle.std.proofs.Common.{◌≡◌, ℕ, ◌+◌, ◌-◌, ◌≤◌, Bool, true, false, length, refl, arith}
use Rattle.std.specs.Prelude.{nat_le, if◌then◌else◌}
use Rattle.run_rules.specs.World.{World, out_of_steps, Ran, went, stopped, Gives, then_do, ticks}

-- from the one world to the other no step is gained, and but for k bytes each byte is paid for
pub record Paid (k : ℕ) (w v : World) : Type 0 where
  pub left : v.left ≤ w.left
  pub output : length v.output + v.left ≤ k + (length w.output + w.left)

-- a part owes this much where it goes on, and that much where it ends the run
abbrev pub Within : {A : Type 0} → ℕ → ℕ → World → Ran A → Type 0
Within a b w (went x v) = Paid a w v
Within a b w (stopped e v) = Paid b w v

pub paid_same : (k : ℕ) (w : World) → Paid k w w
paid_same k w = record { left = omega arith; output = omega arith }

pub paid_then : (a : ℕ) (w v u : World) → Paid 0 w v → Paid a v u → Paid a w u
paid_then a w v u p q = record { left = omega (arith, p.left, q.left); output = omega (arith, p.output, q.output) }

pub lifted : {A : Type 0} (a b : ℕ) (w v : World) → Paid 0 w v → (r : Ran A) → Within a b v r → Within a b w r
lifted a b w v p (went x u) q = paid_then a w v u p q
lifted a b w v p (stopped e u) q = paid_then b w v u p q

-- a part that owes nothing where it goes on, and another behind it
pub then_paid : {A B : Type 0} (a b : ℕ) (w : World) (r : Ran A) (go : A → Gives B) → Within 0 b w r → ((x : A) (v : World) → Within a b v (go x v)) → Within a b w (then_do r go)
then_paid a b w (went x v) go p h = lifted a b w v p (go x v) (h x v)
then_paid a b w (stopped e v) go p h = p

pub owes_more : {A : Type 0} (a b : ℕ) (w : World) (r : Ran A) → Within 0 0 w r → Within a b w r
owes_more a b w (went x v) p = record { left = p.left; output = omega (arith, p.output) }
owes_more a b w (stopped e v) p = record { left = p.left; output = omega (arith, p.output) }

pub owes_one : {A : Type 0} (w : World) (r : Ran A) → Within 0 1 w r → Within 1 1 w r
owes_one w (went x v) p = record { left = p.left; output = omega (arith, p.output) }
owes_one w (stopped e v) p = p

-- ---- steps

with_left : World → ℕ → World
with_left w n = record { cells = w.cells; live = w.live; output = w.output; left = n }

ticks_by : (n : ℕ) (w : World) (q : Bool) → nat_le n w.left ≡ q → Within 0 0 w (if q then went n (record { cells = w.cells; live = w.live; output = w.output; left = w.left - n }) else stopped out_of_steps (record { cells = w.cells; live = w.live; output = w.output; left = 0 }))
ticks_by n w true e = record { left = grind arith; output = grind arith }
ticks_by n w false e = record { left = grind arith; output = grind arith }

pub ticks_paid : (n : ℕ) (w : World) → Within 0 0 w (ticks n w)
ticks_paid n w = ticks_by n w (nat_le n w.left) refl

-- so many steps pay for as many bytes behind them
spent : {A : Type 0} (n : ℕ) (w : World) → n ≤ w.left → (r : Ran A) → Within n n (record { cells = w.cells; live = w.live; output = w.output; left = w.left - n }) r → Within 0 0 w r
spent n w e (went x v) p = record { left = grind (arith, p.left); output = grind (arith, p.output) }
spent n w e (stopped s v) p = record { left = grind (arith, p.left); output = grind (arith, p.output) }

spends_by : {A : Type 0} (n : ℕ) (w : World) (go : ℕ → Gives A) → ((x : ℕ) (v : World) → Within n n v (go x v)) → (q : Bool) → nat_le n w.left ≡ q → Within 0 0 w (then_do (if q then went n (record { cells = w.cells; live = w.live; output = w.output; left = w.left - n }) else stopped out_of_steps (record { cells = w.cells; live = w.live; output = w.output; left = 0 })) go)
spends_by n w go h true e = spent n w (grind arith) (go n (record { cells = w.cells; live = w.live; output = w.output; left = w.left - n })) (h n _)
spends_by n w go h false e = record { left = grind arith; output = grind arith }

pub spends : {A : Type 0} (n : ℕ) (w : World) (go : ℕ → Gives A) → ((x : ℕ) (v : World) → Within n n v (go x v)) → Within 0 0 w (then_do (ticks n w) go)
spends n w go h = spends_by n w go h (nat_le n w.left) refl

pub step_spends : {A : Type 0} (w : World) (go : ℕ → Gives A) → ((x : ℕ) (v : World) → Within 0 1 v (go x v)) → Within 0 0 w (then_do (ticks 1 w) go)
step_spends w go h = spends 1 w go (λ x v. owes_one v (go x v) (h x v))
