-- Ways, put together, turned round, and kept to places of which a fact holds.
use Rattle.std.proofs.Common.{ℕ, List, [], ◌∷◌, ◌++◌}
use Rattle.build_plan.specs.Rows.{IsWay, Leads}

module _ (Step : ℕ → ℕ → Type 0) where
  pub one_step : (a b : ℕ) → Step a b → Leads Step a b
  one_step a b s = record { way = []; is_way = s }

  pub step_then : (a b c : ℕ) → Step a b → Leads Step b c → Leads Step a c
  step_then a b c s l = record { way = b ∷ l.way; is_way = (s, l.is_way) }

  join_ways : (way rest : List ℕ) (a b c : ℕ) → IsWay Step a way b → IsWay Step b rest c → IsWay Step a (way ++ b ∷ rest) c
  join_ways [] rest a b c w r = (w, r)
  join_ways (next ∷ way) rest a b c w r = (w.0, join_ways way rest next b c w.1 r)

  pub join : (a b c : ℕ) → Leads Step a b → Leads Step b c → Leads Step a c
  join a b c l r = record { way = l.way ++ b ∷ r.way; is_way = join_ways l.way r.way a b c l.is_way r.is_way }

  pub then_step : (a b c : ℕ) → Leads Step a b → Step b c → Leads Step a c
  then_step a b c l s = join a b c l (one_step b c s)

-- the last step, and what is before it
pub last_step : (Step : ℕ → ℕ → Type 0) (a b : ℕ) → Leads Step a b → (c : ℕ) × Step c b
last_step Step a b l = by l.way a l.is_way
  where
    by : (way : List ℕ) (x : ℕ) → IsWay Step x way b → (c : ℕ) × Step c b
    by [] x w = (x, w)
    by (next ∷ way) x w = by way next w.1

-- the first step
pub first_step : (Step : ℕ → ℕ → Type 0) (a b : ℕ) → Leads Step a b → (c : ℕ) × Step a c
first_step Step a b l = by l.way l.is_way
  where
    by : (way : List ℕ) → IsWay Step a way b → (c : ℕ) × Step a c
    by [] w = (b, w)
    by (next ∷ way) w = (next, w.0)

pub other_steps : (Step Other : ℕ → ℕ → Type 0) → ((a b : ℕ) → Step a b → Other a b) → (a b : ℕ) → Leads Step a b → Leads Other a b
other_steps Step Other f a b l = record { way = l.way; is_way = by l.way a l.is_way }
  where
    by : (way : List ℕ) (x : ℕ) → IsWay Step x way b → IsWay Other x way b
    by [] x w = f x b w
    by (next ∷ way) x w = (f x next w.0, by way next w.1)

pub turned : (Step Other : ℕ → ℕ → Type 0) → ((a b : ℕ) → Step a b → Other b a) → (a b : ℕ) → Leads Step a b → Leads Other b a
turned Step Other f a b l = by l.way a l.is_way
  where
    by : (way : List ℕ) (x : ℕ) → IsWay Step x way b → Leads Other b x
    by [] x w = one_step Other b x (f x b w)
    by (next ∷ way) x w = then_step Other b next x (by way next w.1) (f x next w.0)

abbrev pub KeptStep : (ℕ → ℕ → Type 0) → (ℕ → Type 0) → ℕ → ℕ → Type 0
KeptStep Step Kept a b = Step a b × Kept b

-- Where a fact holds of each place to which a leads and that leads back to a, the way from a to such a place is kept to
-- places of which it holds.
pub round : (Step : ℕ → ℕ → Type 0) (Kept : ℕ → Type 0) (a b : ℕ) → ((c : ℕ) → Leads Step a c → Leads Step c a → Kept c)
    → Leads Step a b → Leads Step b a → Leads (KeptStep Step Kept) a b
round Step Kept a b kept l back = by l.way a (λ c s. one_step Step a c s) l.is_way
  where
    by : (way : List ℕ) (x : ℕ) → ((c : ℕ) → Step x c → Leads Step a c) → IsWay Step x way b → Leads (KeptStep Step Kept) x b
    by [] x from w = one_step (KeptStep Step Kept) x b (w, kept b (from b w) back)
    by (next ∷ way) x from w =
        step_then (KeptStep Step Kept) x next b
        (w.0, kept next (from next w.0) (join Step next b a (record { way = way; is_way = w.1 }) back))
        (by way next (λ c s. then_step Step a next c (from next w.0) s) w.1)
