use Rattle.std.proofs.Common.{◌≤◌, ◌<◌, ℕ, List, Vec, Global, All, length, sym, subst, refl, arith}
use Rattle.std.proofs.lemmas.List.Elements.{All-map}
use Rattle.target_graph.specs.declared.fault.FaultKind.TheVariants as kinds
use Rattle.target_graph.specs.declared.target.Pair.{Pair}
use Rattle.target_graph.specs.Closures.{lists_of}
use Rattle.target_graph.specs.Faults.{IsFirstStemTwice}
use Rattle.target_graph.specs.Stems.{IsFirstTwice, IsTwice, HasNumbers}
use Rattle.target_graph.specs.Workspace.{pairs_of, stems_of}
use Rattle.target_graph.proofs.Groups.{no_repeat}
use Rattle.target_graph.proofs.SeenStems.{first_stem, no_repeat_more, no_repeats, no_first_stem}
use Rattle.target_graph.proofs.InMemory.{lists_size, row_marks}
use Rattle.target_graph.proofs.PairLaws.{pairs_within}
use Rattle.target_graph.proofs.Steps.{passed_on}
use Rattle.target_graph.proofs.stems.check_stems.Goals as goal

pub returns-then-not-has_shared : goal.returns-then-not-has_shared
returns-then-not-has_shared c =
    let targets = c.args.targets.now in let numbers = c.args.numbers.now in let groups = c.args.groups.now in
    let has = subst (λ (ps : List Pair). HasNumbers (stems_of ps) numbers (length groups)) c.requires.pairs c.requires.numbers in
    let single = All-map (λ (group : List ℕ). length group ≤ 1) (λ (group : Vec ℕ Global). group.items) groups (c.if-not-has_shared.ensures refl) in
    let none = no_repeat targets numbers (length groups) (lists_of groups) has c.requires.groups single in
    (none, no_first_stem targets none)

pub check_row-requires-clause-marks : goal.check_row-requires-clause-marks
check_row-requires-clause-marks c =
    let targets = c.args.targets.now in
    let m = row_marks targets c.args.closures.now c.loop-index.index c.index-closures-index.result c.as_slice-marks.result.now c.requires.closures c.loop-index-test.true c.index-closures-index.is c.as_slice-marks.ensures.value in
    subst (All (λ (pair : Pair). pair.target < length c.as_slice-marks.result.now)) (sym c.requires.pairs)
    (subst (λ n. All (λ (pair : Pair). pair.target < n) (pairs_of targets)) (sym m.size) (pairs_within targets))

pub returns-in-Err : goal.returns-in-Err
returns-in-Err c =
    let targets = c.args.targets.now in let pairs = c.args.pairs.now in let numbers = c.args.numbers.now in let groups = c.args.groups.now in
    let has = subst (λ (ps : List Pair). HasNumbers (stems_of ps) numbers (length groups)) c.requires.pairs c.requires.numbers in
    let marks = c.as_slice-marks.result.now in
    let m = row_marks targets c.args.closures.now c.loop-index.index c.index-closures-index.result marks c.requires.closures c.loop-index-test.true c.index-closures-index.is c.as_slice-marks.ensures.value in
    passed_on c.in-Err.refusal kinds.StemTwice (IsFirstTwice marks pairs numbers) (IsFirstStemTwice targets) _ _
    (λ name f. first_stem targets numbers (length groups) has c.loop-index.index marks m name (subst (λ (ps : List Pair). IsFirstTwice marks ps numbers name) c.requires.pairs f) c.loop-index.invariant)
    c.in-Err.ensures

pub loop-index-preserved : goal.loop-index-preserved
loop-index-preserved c =
    let targets = c.args.targets.now in let pairs = c.args.pairs.now in let numbers = c.args.numbers.now in let groups = c.args.groups.now in
    let has = subst (λ (ps : List Pair). HasNumbers (stems_of ps) numbers (length groups)) c.requires.pairs c.requires.numbers in
    let marks = c.as_slice-marks.result.now in
    let m = row_marks targets c.args.closures.now c.loop-index.index c.index-closures-index.result marks c.requires.closures c.loop-index-test.true c.index-closures-index.is c.as_slice-marks.ensures.value in
    no_repeat_more targets numbers (length groups) has c.loop-index.index marks m
    (subst (λ (ps : List Pair). (q : ℕ) → ¬ (IsTwice marks ps numbers q)) c.requires.pairs c.in-Ok.ensures.0) c.loop-index.invariant

pub returns : goal.returns
returns c =
    let targets = c.args.targets.now in
    let none = no_repeats targets c.loop-index.index (omega (arith, c.loop-index-test.false, lists_size c.args.closures.now, c.requires.closures.size)) c.loop-index.invariant in
    (none, no_first_stem targets none)
