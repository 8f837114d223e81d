-- The clean build is one: each module has one state, and one list.
use Rattle.std.specs.Prelude.{◌≡◌, ℕ, List}
use Rattle.ob_text.specs.declared.diagnostic.Diagnostic.{Diagnostic}
use Rattle.oberon_types.specs.Entities.{ViewTree}
use Rattle.build_rules.specs.World.{World}
use Rattle.build_rules.specs.Views.{HasState, HasList}

pub record IsDetermined (w : World) : Type 0 where
  pub one_state : (p : ℕ) (s t : ViewTree) → HasState w p s → HasState w p t → s ≡ t
  pub one_list : (p : ℕ) (xs ys : List Diagnostic) → HasList w p xs → HasList w p ys → xs ≡ ys
