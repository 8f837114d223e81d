use Rattle.std.proofs.Common.{List, get_or, sym, ap, ◌∙◌, arith}
use Rattle.std.proofs.lemmas.Option.{slice_get-get_or}
use Rattle.session_build.specs.declared.late.Late.{Late}
use Rattle.session_build.proofs.late.late_index.Goals as goal

pub returns-then-index-number : goal.returns-then-index-number
returns-then-index-number c =
    let late : List Late = c.args.late.now.items in
    let one : Late = c.index.result.now in
    let size = c.len-index-end.ensures in
    let within = c.loop-index-test.true in
    let sized = c.args.late.now.ok.0 in
    (get_or late c.loop-index.index one, slice_get-get_or late c.loop-index.index one (omega (arith, size, within, sized)), ap (λ (x : Late). x.number) (sym c.index.ensures) ∙ c.if-index-number.true)
