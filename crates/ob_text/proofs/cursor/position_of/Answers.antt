use Rattle.std.proofs.Common.{ap, ◌∙◌}
use Rattle.ob_text.specs.Position.{position_at}
use Rattle.ob_text.proofs.Units.{character_is_utf16}
use Rattle.ob_text.proofs.cursor.position_of.Goals as goal

pub returns-clause-utf16 : goal.returns-clause-utf16
returns-clause-utf16 c characters _ e =
    ap (λ p. p.character) (c.move_to.ensures.position ∙ ap (λ text. position_at text c.args.offset) c.new.ensures.text) ∙ character_is_utf16 c.args.text.now characters c.args.offset c.requires e
