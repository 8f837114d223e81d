use Rattle.std.proofs.Common.{map, refl}
use Rattle.std.proofs.lemmas.Result.{on_ok_weaker}
use Rattle.build_messages.specs.Outgoing.{outgoing_said}
use Rattle.session_core.proofs.Bare.{bare_behind, bare_told}
use Rattle.session_law.specs.Builds.{build_said}
use Rattle.session_core.proofs.session.Core.go_with.Goals as goal

pub returns-in-Ended-clause-bare : goal.returns-in-Ended-clause-bare
unfolding build_said
returns-in-Ended-clause-bare c =
    on_ok_weaker c.answer_behind.result
    (λ said bare. bare_told c.args.self.now c.answer_behind.new.self (map outgoing_said c.args.told.items) (build_said c.args.id c.args.origin c.in-Ended.failed) said bare refl)
    c.answer_behind.ensures.said

pub returns-in-On-clause-bare : goal.returns-in-On-clause-bare
returns-in-On-clause-bare c =
    on_ok_weaker c.wait_with.result (λ said. bare_behind c.args.self.now c.wait_with.new.self (map outgoing_said c.args.told.items) said) c.wait_with.ensures.said
