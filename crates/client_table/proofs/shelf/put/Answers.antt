use Rattle.std.proofs.Common.{◌≡◌, ◌∙◌, List, [], ℕ, Some, ap, sym, rules}
use Rattle.std.specs.Prelude.{if◌then◌else◌}
use Rattle.bsp_records.specs.declared.diagnostics.DiagnosticRecord.{DiagnosticRecord}
use Rattle.client_table.specs.Showing.{Shelf, after_reset, is_same, items_of, shown_on}
use Rattle.client_table.proofs.ShelfLaws.{first_list, on_err, on_ok, shelf_shows, shelf_stays}
use Rattle.client_table.proofs.shelf.put.Goals as goal

pub returns-in-Some-clause-ok : goal.returns-in-Some-clause-ok
returns-in-Some-clause-ok c =
    let shelf = c.args.shelf.now in
    let target = c.args.target.now in
    let f = λ (list : List DiagnosticRecord). after_reset c.args.reset list c.args.records.items in
    let was : shown_on shelf target ≡ c.in-Some.shown.now.items = sym (ap items_of c.in-Some.ensures.value) in
    on_ok c.join.result c.join.ensures.ok
    (λ is. shelf_shows target shelf (c.get_mut.follows.lender c.join.new.shown) (Some c.join.new.shown) ((c.get_mut.follows.holds c.join.new.shown).3 (search rules)) f (is ∙ sym (ap f was)))

pub returns-in-Some-clause-err : goal.returns-in-Some-clause-err
returns-in-Some-clause-err c =
    let shelf = c.args.shelf.now in
    let target = c.args.target.now in
    let was : shown_on shelf target ≡ c.in-Some.shown.now.items = sym (ap items_of c.in-Some.ensures.value) in
    on_err c.join.result c.join.ensures.err
    (λ is. shelf_stays target shelf (c.get_mut.follows.lender c.join.new.shown) (Some c.join.new.shown) ((c.get_mut.follows.holds c.join.new.shown).3 (search rules)) (is ∙ sym was))

pub returns-in_ok-replaced-in-None-clause-ok : goal.returns-in_ok-replaced-in-None-clause-ok
returns-in_ok-replaced-in-None-clause-ok c other =
    let target = c.args.target.now in
    let key = c.in_ok-target-in-None.target.items in
    let same : key ≡ target = c.in_ok-target-in-None.ensures.items in
    let shelf = c.get_mut.follows.lender-at-none in
    let still : shelf ≡ c.args.shelf.now = c.get_mut.follows.holds-at-none in
    let f = λ (list : List DiagnosticRecord). after_reset c.args.reset list c.args.records.items in
    let none : shown_on shelf key ≡ [] = ap (shown_on shelf) same ∙ (ap (λ (s : Shelf). shown_on s target) still ∙ sym (ap items_of c.in-None.ensures.value)) in
    shelf_shows key shelf c.insert.new.self (Some c.args.records) c.in_ok-replaced-in-None.ensures.updates f (first_list c.args.reset c.args.records.items ∙ sym (ap f none)) other
    ∙ (ap (λ (k : List ℕ). if is_same k other then f (shown_on shelf other) else shown_on shelf other) same
    ∙ ap (λ (s : Shelf). if is_same target other then f (shown_on s other) else shown_on s other) still)
