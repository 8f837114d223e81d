use Rattle.std.proofs.Common.{◌∙◌, List, map, ap, subst, sym}
use Rattle.std.specs.List.{All}
use Rattle.ob_text.specs.declared.diagnostic.Diagnostic.{Diagnostic}
use Rattle.bsp_address.specs.Address.{IsAddress}
use Rattle.bsp_records.specs.Shown.{shown}
use Rattle.task_stream.specs.Pieces.{pieces}
use Rattle.task_stream.specs.Waiting.{IsShortDiagnostic}
use Rattle.task_stream.specs.declared.shown.TableKey.{TableKey}
use Rattle.task_stream.proofs.PieceLaws.{pieces_make, pieces_few, pieces_short, records_short}
use Rattle.task_stream.proofs.shown.Shown.publish.Goals as goal

pub returns-clause-client : goal.returns-clause-client
returns-clause-client c =
    let same = c.in_ok-list.ensures.ok ∙ c.fitted.ensures.same in
    pieces_make c.in_ok-pieces.pieces.items c.args.self.now c.args.key.now (map shown c.args.list.items) c.args.origin.now.value
    (c.in_ok-pieces.ensures ∙ ap (λ (l : List Diagnostic). pieces c.args.key.now c.args.origin.now.value (map shown l)) same)

pub returns-clause-few : goal.returns-clause-few
returns-clause-few c = pieces_few c.in_ok-pieces.pieces.items c.args.key.now c.args.origin.now.value (map shown c.in_ok-list.list.value) c.in_ok-pieces.ensures

pub returns-clause-short : goal.returns-clause-short
returns-clause-short c =
    let short = subst (All IsShortDiagnostic) (sym c.in_ok-list.ensures.ok) c.fitted.ensures.short in
    let document = subst (λ (k : TableKey). IsAddress k.document) c.in_ok-own.ensures.same c.in_ok-own.ensures.document in
    let target = subst (λ (k : TableKey). IsAddress k.target) c.in_ok-own.ensures.same c.in_ok-own.ensures.target in
    pieces_short c.in_ok-pieces.pieces.items c.args.key.now c.args.origin.now.value (map shown c.in_ok-list.list.value) c.in_ok-pieces.ensures (records_short c.in_ok-list.list.value short) document target
