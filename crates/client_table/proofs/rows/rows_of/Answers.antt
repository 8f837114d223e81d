use Rattle.std.proofs.Common.{◌≡◌, ◌∙◌, ◌++◌, List, [], ap, sym, subst}
use Rattle.std.specs.Map.Iter.{deref_pair}
use Rattle.std.proofs.lemmas.List.{append-nil}
use Rattle.std.proofs.lemmas.Map.Iter.{rest_all}
use Rattle.client_table.specs.Rows.{AreRows, all_rows}
use Rattle.client_table.specs.Showing.{Key, Shelf, shown_in}
use Rattle.client_table.specs.declared.rows.Row.{Row}
use Rattle.client_table.proofs.RowLaws.{AreOrdered, are_rows}
use Rattle.client_table.proofs.rows.rows_of.Goals as goal

pub returns : goal.returns
returns c =
    let rest : c.loop-document.document-iterator ≡ [] =
    rest_all deref_pair c.loop-document.document-iterator c.next.new.self c.next.result c.in-None.is c.next.ensures.steps in
    let rows : c.loop-document.rows.items ≡ all_rows c.args.documents.now.entries =
    sym (append-nil c.loop-document.rows.items) ∙ (ap (λ (es : List (Key × Shelf)). c.loop-document.rows.items ++ all_rows es) (sym rest) ∙ c.loop-document.invariant.0) in
    let ordered : AreOrdered c.args.documents.now.entries =
    c.loop-document.invariant.1 (subst AreOrdered (sym rest) tt) in
    subst (λ (rows : List Row). AreRows (shown_in c.args.documents.now) rows) (sym rows) (are_rows c.args.documents.now c.into_iter-document-iterator.ensures.into_iter_gives.5 ordered)
