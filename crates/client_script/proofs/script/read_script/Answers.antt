use Rattle.std.proofs.Common.{◌∙◌, ◌++◌, ◌∷◌, [], arith, refl, rules, subst, sym}
use Rattle.client_script.proofs.PieceLaws.{none_more, one_more, parted}
use Rattle.client_script.proofs.ScriptLaws.{begins, first_bad, if_bad, is_script, leads_more, number_more, parts_here, parts_more, room_more}
use Rattle.client_script.specs.Scripts.{IsScript}
use Rattle.client_script.proofs.script.read_script.Goals as goal

pub returns-in_err-add_line-clause-bad : goal.returns-in_err-add_line-clause-bad
returns-in_err-add_line-clause-bad c =
    let (before, parts, number, room, leads, utf8) = c.lines.invariant in
    let next = one_more 10 (omega arith) c.lines.rest.now _ c.split_once.ensures.cases _ c.in-Some.is in
    let all = parts_here _ before _ _ c.in-Some.line.now parts next in
    if_bad c.in_err-add_line.field-0.0 c.from_residual.result _ _ c.from_residual.ensures.1 c.in_err-add_line.ensures.bad
    (λ n (is, none). first_bad c.args.text.now before c.lines.lines.items c.in-Some.line.now _ n leads all (is ∙ number) none)

pub lines-preserved : goal.lines-preserved
lines-preserved c =
    let (before, parts, number, room, leads, utf8) = c.lines.invariant in
    let line = c.in-Some.line.now in
    let split = c.split_once.ensures.cases in (
      before ++ line ∷ [],
      parts_more _ before _ _ line parts (one_more 10 (omega arith) c.lines.rest.now _ split _ c.in-Some.is),
      number_more before line c.lines.number number,
      room_more c.lines.number 262145 c.lines.rest.now line c.in-Some.more.now (parted 10 (omega arith) c.lines.rest.now _ split _ c.in-Some.is) room,
      leads_more before c.lines.lines.items c.add_line.new.lines.items line leads c.in_ok-add_line.ensures.added,
      search rules,
    )

pub returns-in_err-add_line-2-clause-bad : goal.returns-in_err-add_line-2-clause-bad
returns-in_err-add_line-2-clause-bad c =
    let (before, parts, number, room, leads, utf8) = c.lines.invariant in
    let last = none_more 10 (omega arith) c.lines.rest.now _ c.split_once.ensures.cases c.in_default.is in
    if_bad c.in_err-add_line-2.field-0.0 c.from_residual-in_err-add_line-2.result _ _ c.from_residual-in_err-add_line-2.ensures.1 c.in_err-add_line-2.ensures.bad
    (λ n (is, none). first_bad c.args.text.now before c.lines.lines.items c.lines.rest.now [] n leads (parts_here _ before _ [] c.lines.rest.now parts last) (is ∙ number) none)

pub returns-clause-script : goal.returns-clause-script
returns-clause-script c =
    let (before, parts, number, room, leads, utf8) = c.lines.invariant in
    let last = none_more 10 (omega arith) c.lines.rest.now _ c.split_once.ensures.cases c.in_default.is in
    subst (IsScript c.args.text.now) (sym c.from_vec.ensures)
    (is_script c.args.text.now before c.lines.lines.items c.add_line-2.new.lines.items c.lines.rest.now (parts_here _ before _ [] c.lines.rest.now parts last) leads c.in_ok-add_line-2.ensures.added)

pub lines-init : goal.lines-init
lines-init c = ([], refl, refl, omega (arith, c.requires), begins c.new-lines.result.items c.new-lines.ensures.items, search rules)
