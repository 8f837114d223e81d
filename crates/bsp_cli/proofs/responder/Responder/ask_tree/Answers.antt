use Rattle.std.proofs.Common.{Some, None}
use Rattle.session_law.specs.Verdicts.{IsBare}
use Rattle.bsp_cli.specs.Outside.{told}
use Rattle.bsp_cli.proofs.EventLaws.{hands_same, rose_never, rose_once}
use Rattle.bsp_cli.proofs.WritingLaws.{on_err_then, on_ok_then, steps_hand, stops_hand, stops_lost}
use Rattle.bsp_cli.proofs.responder.Responder.ask_tree.Goals as goal

pub returns-in-Ok-clause-steps : goal.returns-in-Ok-clause-steps
returns-in-Ok-clause-steps g c =
    let before = told (g.K.Sink.given c.args.output.now) (g.T.Tree.handed c.args.tree.now) (g.T.Tree.faults c.args.tree.now) in
    let behind = told (g.K.Sink.given c.act_on_hand.new.output) (g.T.Tree.handed c.read_all.new.self) (g.T.Tree.faults c.read_all.new.self) in
    on_ok_then _ _ _ (steps_hand IsBare c.args.self.now.core (Some c.in-Ok.snapshot.entries) before behind c.in-Ok.ensures.handed (rose_never _ _ c.in-Ok.ensures.faults) c.act_on_hand.new.self.core) c.act_on_hand.ensures.acts

pub returns-in-Ok-clause-stops : goal.returns-in-Ok-clause-stops
returns-in-Ok-clause-stops g c =
    let before = told (g.K.Sink.given c.args.output.now) (g.T.Tree.handed c.args.tree.now) (g.T.Tree.faults c.args.tree.now) in
    let behind = told (g.K.Sink.given c.act_on_hand.new.output) (g.T.Tree.handed c.read_all.new.self) (g.T.Tree.faults c.read_all.new.self) in
    on_err_then _ _ _ (stops_hand IsBare c.args.self.now.core (Some c.in-Ok.snapshot.entries) before behind c.in-Ok.ensures.handed (rose_never _ _ c.in-Ok.ensures.faults)) c.act_on_hand.ensures.halts

pub returns-in-Err-Failed-clause-steps : goal.returns-in-Err-Failed-clause-steps
returns-in-Err-Failed-clause-steps g c =
    let before = told (g.K.Sink.given c.args.output.now) (g.T.Tree.handed c.args.tree.now) (g.T.Tree.faults c.args.tree.now) in
    let behind = told (g.K.Sink.given c.act_on_hand-in-Err-Failed.new.output) (g.T.Tree.handed c.read_all.new.self) (g.T.Tree.faults c.read_all.new.self) in
    on_ok_then _ _ _ (steps_hand IsBare c.args.self.now.core None before behind (hands_same _ _ c.in-Err-Failed.ensures.handed) (rose_once _ _ (rw c.in-Err-Failed.field-0-is at c.in-Err-Failed.ensures.faults)) c.act_on_hand-in-Err-Failed.new.self.core)
    c.act_on_hand-in-Err-Failed.ensures.acts

pub returns-in-Err-Failed-clause-stops : goal.returns-in-Err-Failed-clause-stops
returns-in-Err-Failed-clause-stops g c =
    let before = told (g.K.Sink.given c.args.output.now) (g.T.Tree.handed c.args.tree.now) (g.T.Tree.faults c.args.tree.now) in
    let behind = told (g.K.Sink.given c.act_on_hand-in-Err-Failed.new.output) (g.T.Tree.handed c.read_all.new.self) (g.T.Tree.faults c.read_all.new.self) in
    on_err_then _ _ _ (stops_hand IsBare c.args.self.now.core None before behind (hands_same _ _ c.in-Err-Failed.ensures.handed) (rose_once _ _ (rw c.in-Err-Failed.field-0-is at c.in-Err-Failed.ensures.faults))) c.act_on_hand-in-Err-Failed.ensures.halts

pub returns-clause-stops : goal.returns-clause-stops
returns-clause-stops g c =
    let faults = rw c.in-Err-NoMemory.field-0-is at c.in-Err-NoMemory.ensures.faults in
    rw (c.in-Err-NoMemory.ensures.handed, faults) (stops_lost IsBare c.args.self.now.core c.args.self.now.core _ (λ order stands. stands))
