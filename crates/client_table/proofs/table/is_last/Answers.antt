use Rattle.std.proofs.Common.{◌≡◌, ◌∙◌, List, [], ℕ, Some, None, Option, ap, refl, rules}
use Rattle.std.specs.Prelude.{if◌then◌else◌}
use Rattle.bsp_records.specs.declared.diagnostics.DiagnosticRecord.{DiagnosticRecord}
use Rattle.client_table.specs.Showing.{Shelf, is_same, shown_in, shown_on, shown_there}
use Rattle.client_table.proofs.ShelfLaws.{is_shown_at, shelf_shows}
use Rattle.client_table.proofs.table.is_last.Goals as goal

pub returns-in-Some-clause-shown : goal.returns-in-Some-clause-shown
returns-in-Some-clause-shown c =
    let documents = c.args.documents.now in
    let document = c.args.document.now in
    let target = c.args.target.now in
    let was = λ (t : List ℕ). (let e : shown_on c.in-Some.shelf.now t ≡ shown_in documents document t = ap (λ (o : Option Shelf). shown_there o t) c.in-Some.ensures.value in e) in
    is_shown_at document documents (c.get_mut.follows.lender c.remove.new.self) (Some c.remove.new.self) ((c.get_mut.follows.holds c.remove.new.self).3 (search rules)) target []
    (λ t. shelf_shows target c.in-Some.shelf.now c.remove.new.self None c.remove.ensures.updates (λ (_ : List DiagnosticRecord). []) refl t
    ∙ ap (λ (list : List DiagnosticRecord). if is_same target t then [] else list) (was t))
