use Rattle.std.proofs.Common.{◌≡◌, ◌∙◌, List, ℕ, Some, Option, ap, sym, rules}
use Rattle.std.specs.Prelude.{◌&&◌, if◌then◌else◌}
use Rattle.std.specs.BTreeMap.{BTreeMap, is_at}
use Rattle.std.specs.Cmp.Lexicographic.{slice_cmp}
use Rattle.std.specs.Map.{lookup}
use Rattle.std.specs.Ordering.{nat_cmp}
use Rattle.client_table.specs.Showing.{Key, Shelf, after_reset, is_same, items_of, shown_in, shown_on, shown_there}
use Rattle.client_table.proofs.ShelfLaws.{documents_stay, is_shown_at, on_err, on_ok, put_there}
use Rattle.client_table.proofs.table.add.Goals as goal

pub returns-in-Some-clause-ok : goal.returns-in-Some-clause-ok
returns-in-Some-clause-ok c =
    let documents = c.args.documents.now in
    let document = c.args.document.now in
    let target = c.args.target.now in
    let records = c.args.records.items in
    let was = λ (t : List ℕ). (let e : shown_on c.in-Some.shelf.now t ≡ shown_in documents document t = ap (λ (o : Option Shelf). shown_there o t) c.in-Some.ensures.value in e) in
    on_ok c.put.result c.put.ensures.ok
    (λ put. is_shown_at document documents (c.get_mut.follows.lender c.put.new.shelf) (Some c.put.new.shelf) ((c.get_mut.follows.holds c.put.new.shelf).3 (search rules)) target
    (after_reset c.args.reset (shown_in documents document target) records)
    (put_there target c.args.reset records (shown_on c.in-Some.shelf.now) (shown_in documents document) (shown_on c.put.new.shelf) was put))

pub returns-in-Some-clause-err : goal.returns-in-Some-clause-err
returns-in-Some-clause-err c =
    let documents = c.args.documents.now in
    let document = c.args.document.now in
    let was = λ (t : List ℕ). (let e : shown_on c.in-Some.shelf.now t ≡ shown_in documents document t = ap (λ (o : Option Shelf). shown_there o t) c.in-Some.ensures.value in e) in
    on_err c.put.result c.put.ensures.err
    (λ same. documents_stay document documents (c.get_mut.follows.lender c.put.new.shelf) (Some c.put.new.shelf) ((c.get_mut.follows.holds c.put.new.shelf).3 (search rules)) (λ t. same t ∙ was t))

pub returns-in_ok-replaced-in-None-clause-ok : goal.returns-in_ok-replaced-in-None-clause-ok
returns-in_ok-replaced-in-None-clause-ok c d t =
    let target = c.args.target.now in
    let reset = c.args.reset in
    let records = c.args.records.items in
    let key = c.in_ok-document-in-None.document.items in
    let same : key ≡ c.args.document.now = c.in_ok-document-in-None.ensures.items in
    let documents = c.get_mut.follows.lender-at-none in
    let still : documents ≡ c.args.documents.now = c.get_mut.follows.holds-at-none in
    let new = c.put-in-None.new.shelf in
    let was = λ (t : List ℕ). (let e : shown_on c.new-shelf.result t ≡ shown_in documents key t =
    ap (λ es. items_of (lookup (is_at (λ (k : Key). slice_cmp nat_cmp t k.items)) es)) c.new-shelf.ensures.empty
    ∙ (ap (λ (o : Option Shelf). shown_there o t) c.in-None.ensures.value
    ∙ (ap (λ (m : BTreeMap Key Shelf). shown_in m c.args.document.now t) (sym still)
    ∙ ap (λ (k : List ℕ). shown_in documents k t) (sym same))) in e) in
    is_shown_at key documents c.insert.new.self (Some new) c.in_ok-replaced-in-None.ensures.updates target (after_reset reset (shown_in documents key target) records)
    (put_there target reset records (shown_on c.new-shelf.result) (shown_in documents key) (shown_on new) was c.in_ok-put-in-None.ensures.ok) d t
    ∙ (ap (λ (k : List ℕ). if is_same k d && is_same target t then after_reset reset (shown_in documents k target) records else shown_in documents d t) same
    ∙ ap (λ (m : BTreeMap Key Shelf). if is_same c.args.document.now d && is_same target t then after_reset reset (shown_in m c.args.document.now target) records else shown_in m d t) still)
