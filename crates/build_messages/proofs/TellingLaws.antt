-- What is made of a message that tells of a task.
use Rattle.std.proofs.Common.{◌≡◌, ℕ, List, Option, Some, None, sym, subst}
use Rattle.std.specs.Option.{IfSome}
use Rattle.std.specs.Prelude.{IfOk, Result}
use Rattle.std.specs.Str.{IsUtf8}
use Rattle.std.proofs.lemmas.Result.{IfOk-weaker}
use Rattle.bsp_records.specs.Tasks.{HasTaskIdTexts}
use Rattle.bsp_records.specs.declared.tasks.TaskId.{TaskId}
use Rattle.json_shape.specs.Shapes.{IsTextWithin}
use Rattle.rpc_peer.specs.Said.{Said}
use Rattle.session_law.specs.IsFramed.{IsFramed}
use Rattle.build_messages.specs.Outgoing.{outgoing_said}
use Rattle.build_messages.specs.declared.outgoing.Outgoing.{Outgoing}

pub said_framed : {E : Type 0} (r : Result Outgoing E) (m : Said) → IsFramed m → IfOk r (λ (o : Outgoing). outgoing_said o ≡ m) → IfOk r (λ (o : Outgoing). IsFramed (outgoing_said o))
said_framed r m framed said =
    IfOk-weaker r (λ (o : Outgoing). outgoing_said o ≡ m) (λ (o : Outgoing). IsFramed (outgoing_said o)) (λ o is. subst IsFramed (sym is) framed) said

pub id_texts : {E : Type 0} (r : Result TaskId E) (t : TaskId) → HasTaskIdTexts t → IfOk r (λ (u : TaskId). u ≡ t) → IfOk r HasTaskIdTexts
id_texts r t texts is = IfOk-weaker r (λ (u : TaskId). u ≡ t) HasTaskIdTexts (λ u same. subst HasTaskIdTexts (sym same) texts) is

pub origin_utf8 : (origin : Option (List ℕ)) (limit : ℕ) → IfSome origin (IsTextWithin limit) → IfSome origin IsUtf8
origin_utf8 None limit h = tt
origin_utf8 (Some text) limit h = h.utf8
