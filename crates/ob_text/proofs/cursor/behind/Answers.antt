use Rattle.std.proofs.Common.{sym, ap, ◌∙◌, arith}
use Rattle.ob_text.proofs.Positions.{line_le, character_le, behind_line_end, behind_unit, behind_rest}
use Rattle.ob_text.proofs.cursor.behind.Goals as goal

pub overflow_add-result : goal.overflow_add-result
overflow_add-result c =
    let e = ap (λ p. p.line) c.requires.before in
    omega (arith, line_le c.args.text.now c.args.at, e)

pub overflow_add-result-then-begins_unit : goal.overflow_add-result-then-begins_unit
overflow_add-result-then-begins_unit c =
    let e = ap (λ p. p.character) c.requires.before in
    omega (arith, character_le c.args.text.now c.args.at, e)

pub returns-then-ends_line : goal.returns-then-ends_line
returns-then-ends_line c =
    rw c.requires.before (behind_line_end c.args.text.now c.args.at (sym c.ends_line.ensures ∙ c.if-ends_line.true))

pub returns-then-begins_unit : goal.returns-then-begins_unit
returns-then-begins_unit c =
    rw c.requires.before (behind_unit c.args.text.now c.args.at (sym c.ends_line.ensures ∙ c.if-ends_line.false) (sym c.begins_unit.ensures ∙ c.if-begins_unit.true))

pub returns-else-begins_unit : goal.returns-else-begins_unit
returns-else-begins_unit c =
    c.requires.before ∙ behind_rest c.args.text.now c.args.at (sym c.ends_line.ensures ∙ c.if-ends_line.false) (sym c.begins_unit.ensures ∙ c.if-begins_unit.false)
