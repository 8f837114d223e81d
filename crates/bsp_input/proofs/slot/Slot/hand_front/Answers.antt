use Rattle.std.proofs.Common.{◌∙◌, arith}
use Rattle.bsp_input.proofs.SlotLaws.{hands_rest}
use Rattle.bsp_input.proofs.slot.Slot.hand_front.Goals as goal

pub returns-else-self-len : goal.returns-else-self-len
returns-else-self-len c =
    let (left, is) = c.requires.there in
    let copied = rw (c.split_at.ensures.back, c.as_slice.ensures.value) at c.copy_front.ensures.copied in
    (left, is, hands_rest c.self.inside.state c.self.inside.bytes.items _ left c.self.inside.offset c.min-count.result (c.self.view_is ∙ is) (omega arith) (omega arith) (omega arith) copied)
