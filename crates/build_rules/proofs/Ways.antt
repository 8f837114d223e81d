-- What leads by steps of one kind leads by those of another, where each step of the first is one of the second.
use Rattle.std.proofs.Common.{ℕ, List, [], ◌∷◌}
use Rattle.build_plan.specs.Rows.{IsWay, Leads}

way_by : (S T : ℕ → ℕ → Type 0) → ((a b : ℕ) → S a b → T a b) → (a : ℕ) (way : List ℕ) (b : ℕ) → IsWay S a way b → IsWay T a way b
way_by S T step a [] b is = step a b is
way_by S T step a (next ∷ way) b is = (step a next is.0, way_by S T step next way b is.1)

pub leads_by : (S T : ℕ → ℕ → Type 0) → ((a b : ℕ) → S a b → T a b) → (a b : ℕ) → Leads S a b → Leads T a b
leads_by S T step a b leads = record { way = leads.way; is_way = way_by S T step a leads.way b leads.is_way }
