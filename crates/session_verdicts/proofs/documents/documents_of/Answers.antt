use Rattle.std.proofs.Common.{◌≡◌, ◌≢◌, ◌==◌, ◌+◌, ◌++◌, ◌∷◌, [], ◌<◌, ℕ, List, Some, length, nat_eq, get_or, map, ap, sym, subst, ◌∙◌, refl, arith}
use Rattle.std.specs.List.{AllPairs, list_any, slice_get}
use Rattle.std.proofs.lemmas.Option.{slice_get_read}
use Rattle.indexmap.specs.IndexSet.{contains}
use Rattle.session_law.specs.Builds.{AreDocuments}
use Rattle.session_law.specs.declared.BuildDocument.{BuildDocument}
use Rattle.build_messages.specs.Documents.{build_of}
use Rattle.build_messages.proofs.DocumentLaws.{among_by, apart_by, distinct_documents}
use Rattle.session_verdicts.proofs.DocumentLaws.{AreFirst, all_first, first_none, one_kept, one_left}
use Rattle.target_graph.specs.Workspace.{pairs_of}
use Rattle.target_graph.specs.declared.target.Pair.{Pair}
use Rattle.target_graph.proofs.Distinct.{AreApart}
use Rattle.session_verdicts.proofs.documents.documents_of.Goals as goal
use Rattle.session_verdicts.proofs.documents.documents_of.Goals.{then-contains+in_ok-document_of_pair+in_ok-push, else-contains}

pub loop-pair-init : goal.loop-pair-init
loop-pair-init c =
    subst (λ (ds : List BuildDocument). AreFirst c.args.workspace.now c.in_ok-targets.targets.items 0 ds) (sym c.new-documents.ensures.items)
    (first_none c.args.workspace.now c.in_ok-targets.targets.items)

pub loop-pair-preserved : goal.loop-pair-preserved
loop-pair-preserved c =
    let space = c.args.workspace.now in
    let closure = c.in_ok-targets.targets.items in
    let pairs : List Pair = pairs_of space.targets in
    let documents : List BuildDocument = c.loop-pair.documents.items in
    let i = c.loop-pair.pair in
    let pair : Pair = c.index-pairs-pair.result in
    let size : length c.pairs-pair-end.result.now ≡ length pairs = ap (λ (ps : List Pair). length ps) c.pairs-pair-end.ensures.pairs in
    let h : i < length pairs = omega (arith, size) in
    let e : pair ≡ get_or pairs i pair = c.index-pairs-pair.is ∙ ap (λ (ps : List Pair). get_or ps i pair) c.pairs.ensures.pairs in
    let there : slice_get pairs i ≡ Some pair = slice_get_read pairs (length pairs) i pair refl h e in
    let among : c.contains.result ≡ list_any (λ n. n == pair.target) closure =
    c.contains.ensures
    ∙ (ap (λ (p : Pair). contains nat_eq c.in_ok-closure.closure p.target) (sym c.index-pairs-pair.is)
    ∙ (c.in_ok-closure.ensures pair.target ∙ ap (λ (ns : List ℕ). list_any (λ n. n == pair.target) ns) c.as_slice.ensures.value)) in
    elim c.if-contains.branch [
      | then-contains+in_ok-document_of_pair+in_ok-push w ↦
          let first = one_kept space closure i pair documents there (among_by closure pair.target (sym among ∙ w.if-contains.true)) c.loop-pair.invariant in
          rw w.documents-is
          (subst (λ (ds : List BuildDocument). AreFirst space closure (i + 1) ds)
          (ap (λ (it : BuildDocument). documents ++ it ∷ []) (sym w.in_ok-document_of_pair.ensures) ∙ sym w.in_ok-push.ensures.items) first)
      | else-contains w ↦
          let first = one_left space closure i pair documents there (apart_by closure pair.target (sym among ∙ w.if-contains.false)) c.loop-pair.invariant in
          rw w.documents-is first
    ]

pub returns-clause-documents : goal.returns-clause-documents
returns-clause-documents c = λ origin.
    let space = c.args.workspace.now in
    let size : length c.pairs-pair-end.result.now ≡ length (pairs_of space.targets) = ap (λ (ps : List Pair). length ps) c.pairs-pair-end.ensures.pairs in
    subst (λ (ds : List BuildDocument). AreDocuments (build_of space c.args.asked.now origin) ds) (sym c.from_vec.ensures)
    (all_first (build_of space c.args.asked.now origin) c.in_ok-targets.targets.items c.loop-pair.pair c.loop-pair.documents.items c.in_ok-targets.ensures.closure (omega (arith, size)) c.loop-pair.invariant)

pub returns-clause-distinct : goal.returns-clause-distinct
returns-clause-distinct c =
    let space = c.args.workspace.now in
    let closure = c.in_ok-targets.targets.items in
    let first = c.loop-pair.invariant in
    subst (λ (ds : List BuildDocument). AllPairs ◌≢◌ (map (λ (it : BuildDocument). it.key) ds)) (sym (c.from_vec.ensures ∙ first.are))
    (distinct_documents space closure (subst (λ (ps : List Pair). AllPairs (AreApart space) ps) c.pairs-pair-end.ensures.pairs c.pairs-pair-end.ensures.distinct)
    first.pairs first.ordered first.each)
