use Rattle.target_graph.proofs.Numbers.{numbered}
use Rattle.target_graph.proofs.stems.number_of.Goals as goal

pub returns : goal.returns
returns c =
    let s = c.in_ok-number.ensures.stored in
    numbered c.args.stems.now.keys c.insert_full.new.self.keys c.args.name c.in_ok-number.number c.in_ok-number.ensures.keys s.0 s.1 s.2
