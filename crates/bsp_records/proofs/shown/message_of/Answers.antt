use Rattle.std.proofs.Common.{◌≡◌, sym, subst, arith}
use Rattle.std.specs.Str.{IsUtf8}
use Rattle.std.proofs.lemmas.Grind.{common_steps}
use Rattle.bsp_records.specs.Shown.{shown_message}
use Rattle.bsp_records.proofs.ShownLaws.{message_text}
use Rattle.bsp_records.proofs.shown.message_of.Goals as goal

pub returns-clause-text : goal.returns-clause-text
returns-clause-text c =
    let made : c.from_vec.result ≡ shown_message c.args.message.now c.args.name.now = grind (arith, common_steps) in
    subst IsUtf8 (sym made) (message_text c.args.message.now c.args.name.now c.utf8.message)
