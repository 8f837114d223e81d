-- An initialize is answered, once the tree answered.
use Rattle.std.specs.Prelude.{◌≡◌, ℕ, List, Option, None}
use Rattle.ob_text.specs.Held.{Entries}
use Rattle.rpc_peer.specs.declared.message.Id.{Id}
use Rattle.session_core.specs.Moving.{RunsOn}
use Rattle.session_core.specs.Standing.{Moves}
use Rattle.session_core.specs.declared.session.Core.{Core}
use Rattle.session_law.specs.Methods.{asking}
use Rattle.session_law.specs.Open.{Open, none, owing}
use Rattle.session_law.specs.Requests.{handed_over}

-- Where no workspace is in force the request that asks for this root is answered by what was handed out.
abbrev pub Opens : Core → Core → Id → List ℕ → Option Entries → Type 0
Opens old new id root handed =
    (o : Open) (number : ℕ) → o.first ≡ owing id number (handed_over handed (asking root)) → RunsOn o → old.workspace ≡ None → Moves old new o (record o { first = none })
