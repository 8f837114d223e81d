use Rattle.std.proofs.Common.{◌≡◌, ◌+◌, ◌++◌, ◌<◌, ◌∷◌, [], ℕ, List, Vec, Global, length, get_or, length-append, refl, sym, ap, subst, ◌∙◌, arith}
use Rattle.std.specs.Prelude.{Contains, ◌↔◌, Some}
use Rattle.std.specs.List.{slice_get}
use Rattle.std.proofs.lemmas.List.{map-append}
use Rattle.std.proofs.lemmas.Option.{slice_get_read}
use Rattle.build_plan.specs.Lists.{lists, lists_of}
use Rattle.build_plan.specs.Rows.{row_at}
use Rattle.build_rules.specs.World.{Imports, handed_at, held_in}
use Rattle.target_graph.specs.Workspace.{Space, pairs_of}
use Rattle.target_graph.specs.declared.target.Pair.{Pair}
use Rattle.target_graph.proofs.Ids.{path_here}
use Rattle.build_sources.specs.Documents.{IsDocument}
use Rattle.build_sources.specs.Rows.{IsRow}
use Rattle.build_sources.specs.Sources.{world}
use Rattle.build_sources.proofs.ImportLaws.{row_imports}
use Rattle.build_sources.proofs.RowLaws.{rows_all, rows_more}
use Rattle.build_sources.proofs.sources.Sources.rows.Goals as goal

all_pairs : (s t : Space) (pairs : List Pair) → s ≡ t → pairs ≡ pairs_of s.targets → pairs ≡ pairs_of t.targets
all_pairs s t pairs same are = are ∙ ap (λ (x : Space). pairs_of x.targets) same

pub loop-pair-init : goal.loop-pair-init
loop-pair-init c =
    record {
      size = ap (λ (xs : List (Vec ℕ Global)). length (lists_of xs)) c.new-rows.ensures.items;
      each = λ p h. absurd (omega (arith, h));
    }

pub loop-pair-preserved : goal.loop-pair-preserved
loop-pair-preserved c =
    let self = c.args.self.now in
    let w = world self in
    let pairs : List Pair = pairs_of w.targets in
    let i = c.loop-pair.pair-index in
    let pair : Pair = c.pair-item.result in
    let is = all_pairs c.deref-workspace.result.now self.workspace.value c.pairs-pair-items.result.now c.deref-workspace.ensures c.pairs-pair-items.ensures.pairs in
    let h : i < length pairs = let e = ap (λ (ps : List Pair). length ps) is in omega (arith, c.loop-pair-test.true, e) in
    let e : pair ≡ get_or pairs i pair = c.pair-item.is ∙ ap (λ (ps : List Pair). get_or ps i pair) is in
    let there : slice_get pairs i ≡ Some pair = slice_get_read pairs (length pairs) i pair refl h e in
    let document : IsDocument (held_in w i) c.of.result.now = subst (λ (path : List ℕ). IsDocument (handed_at w.entries path) c.of.result.now) (path_here w.targets i pair h e) c.of.ensures in
    let row = c.in_ok-row.field-0.items in
    let is_row : IsRow w.targets pair.target c.of.result.now.imports.items row =
    subst (λ (names : List (List ℕ)). IsRow w.targets pair.target names row) c.as_slice-imports.ensures.value
    (subst (λ (s : Space). IsRow s.targets pair.target c.as_slice-imports.result.now row) c.deref-workspace.ensures c.in_ok-row.ensures) in
    let old = lists c.loop-pair.rows in
    let pushed : lists c.push.new.self ≡ old ++ row ∷ [] =
    ap (λ (xs : List (Vec ℕ Global)). lists_of xs) c.in_ok-push.ensures.items ∙ map-append (λ (r : Vec ℕ Global). r.items) c.loop-pair.rows.items (c.in_ok-row.field-0 ∷ []) in
    let one = length-append old (row ∷ []) in
    let size : length (old ++ row ∷ []) ≡ i + 1 = omega (arith, one, c.loop-pair.invariant.size) in
    record {
      size = ap (λ (rs : List (List ℕ)). length rs) pushed ∙ size;
      each = λ p below q. subst (λ (rs : List (List ℕ)). Contains (row_at rs p) q ↔ Imports w p q) (sym pushed)
          (rows_more w old i c.loop-pair.invariant.size c.loop-pair.invariant.each row (row_imports w i pair there c.of.result.now.imports.items document.imported row is_row) p below q);
    }

pub returns : goal.returns
returns c =
    let space = c.args.self.now.workspace.value in
    let all : c.loop-pair.pair-index ≡ length (pairs_of space.targets) =
    let e = ap (λ (ps : List Pair). length ps) (all_pairs c.deref-workspace.result.now space c.pairs-pair-items.result.now c.deref-workspace.ensures c.pairs-pair-items.ensures.pairs) in
    omega (arith, c.loop-pair-test.false, c.loop-pair.auto.pair-index-end, e) in
    rows_all (world c.args.self.now) (lists c.loop-pair.rows) c.loop-pair.pair-index c.loop-pair.invariant.size all c.loop-pair.invariant.each
