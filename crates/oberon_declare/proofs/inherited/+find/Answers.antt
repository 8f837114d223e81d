use Rattle.std.proofs.Common.{◌∙◌}
use Rattle.std.proofs.lemmas.Result.{on_ok_weaker}
use Rattle.oberon_declare.proofs.InheritedLaws.{record_finds}
use Rattle.oberon_declare.proofs.inherited.+find.Goals as goal

pub find_in_record-returns : goal.find_in_record-returns
find_in_record-returns t c =
    on_ok_weaker c.find_in_base.result (λ behind. record_finds c.args.asked.now.keys c.args.found.now.keys c.find_in_fields.new.found.keys c.find_in_base.new.found.keys c.args.me.now c.args.given.now c.as_slice.result.now (c.as_slice.ensures ∙ c.deref.ensures) c.in_ok-find_in_fields.ensures behind) c.find_in_base.ensures
