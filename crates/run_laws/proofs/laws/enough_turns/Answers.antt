use Rattle.run_laws.proofs.Turns.{enough_while, enough_repeat, enough_for}
use Rattle.run_laws.proofs.laws.enough_turns.Goals as goal

pub returns-clause-while_loop : goal.returns-clause-while_loop
returns-clause-while_loop c = enough_while

pub returns-clause-repeat_loop : goal.returns-clause-repeat_loop
returns-clause-repeat_loop c = enough_repeat

pub returns-clause-for_loop : goal.returns-clause-for_loop
returns-clause-for_loop c = enough_for
