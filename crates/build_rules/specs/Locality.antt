-- Views suffice: what a module declares reaches those that import it through its view alone.
use Rattle.std.specs.Prelude.{◌≡◌, ◌↔◌, ℕ, List}
use Rattle.ob_text.specs.declared.diagnostic.Diagnostic.{Diagnostic}
use Rattle.oberon_types.specs.Entities.{ViewTree}
use Rattle.target_graph.specs.Faults.{IsRepeat}
use Rattle.build_rules.specs.World.{World}
use Rattle.build_rules.specs.Views.{as_view, HasState, HasView, HasList, HasLocalList}

-- no target sees two modules of one stem, as of each workspace that was accepted
abbrev pub IsApart : World → Type 0
IsApart w = (t q : ℕ) → ¬ (IsRepeat w.targets t q)

-- the view is that of the state which the module has
pub record IsViewOfState (w : World) (p : ℕ) (view : ViewTree) : Type 0 where
  pub state : ViewTree
  pub has : HasState w p state
  pub is : view ≡ as_view state

pub record DoViewsSuffice (w : World) : Type 0 where
  pub view_of : (p : ℕ) (state : ViewTree) → HasState w p state → HasView w p (as_view state)
  pub state_of : (p : ℕ) (view : ViewTree) → HasView w p view → IsViewOfState w p view
  pub same_lists : (p : ℕ) (list : List Diagnostic) → HasList w p list ↔ HasLocalList w p list
