use Rattle.bsp_input.proofs.RunLaws.{end_behind_all, in_order}
use Rattle.bsp_input.proofs.laws.hands_out_what_was_read.Goals as goal

pub returns-clause-order : goal.returns-clause-order
returns-clause-order c = in_order

pub returns-clause-end : goal.returns-clause-end
returns-clause-end c = end_behind_all
