-- What an initialize is owed once the tree answered it is answered at the head.
use Rattle.std.proofs.Common.{◌≡◌, ℕ, List, Option, Some, None}
use Rattle.ob_text.specs.Held.{Entries}
use Rattle.session_core.specs.Moving.{IsOwedFirst}
use Rattle.session_law.specs.Methods.{asking}
use Rattle.session_law.specs.Requests.{handed_over}
use Rattle.target_graph.specs.Workspace.{Space}

pub opened_owed : (force : Option Space) (root : List ℕ) (handed : Option Entries) → force ≡ None → IsOwedFirst force (handed_over handed (asking root))
opened_owed force root None nothing = tt
opened_owed force root (Some entries) nothing = nothing
