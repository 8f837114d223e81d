-- The reports of the targets: by tallies they are what the law says by findings.
use Rattle.std.proofs.Common.{◌≡◌, ◌+◌, ◌++◌, ◌||◌, ℕ, suc, List, [], ◌∷◌, length, map, Bool, true, false, Some, nat_lt, refl, sym, ap, subst, ◌∙◌, arith}
use Rattle.std.specs.Prelude.{cond, if◌then◌else◌}
use Rattle.std.specs.List.{All, AllZip, filter, fold, list_any, slice_get}
use Rattle.std.specs.Str.{bytes_eq}
use Rattle.std.proofs.lemmas.Bool.Decides.{Decides-ltb}
use Rattle.std.proofs.lemmas.List.Elements.{All-append, All-cons, All-nil}
use Rattle.std.proofs.lemmas.Option.{same_Some}
use Rattle.ob_text.specs.declared.diagnostic.Diagnostic.{Diagnostic}
use Rattle.rpc_peer.specs.Said.{Said}
use Rattle.session_law.specs.Builds.{Finding, build_status, has_error}
use Rattle.session_law.specs.Course as law
use Rattle.session_law.specs.Course.{Given, Stage, all_finish, count_errors, count_warnings, has_begun, is_error, no_op_of, of_target, targets_finish}
use Rattle.session_law.specs.Past.{notice_in}
use Rattle.session_law.specs.Tasks.{build_finishes, target_finishes}
use Rattle.session_law.specs.declared.BuildDocument.{BuildDocument}
use Rattle.session_build.specs.Ending.{ends_said, no_op_by, report_of, target_reported, targets_reported}
use Rattle.session_build.specs.Tallies.{IsCount, IsTallied, has_errors, no_tally, tally_from, with_tally}
use Rattle.session_build.specs.declared.setting.Setting.{Setting}
use Rattle.session_build.specs.declared.tally.Tally.{Tally}
use Rattle.session_build.proofs.CourseSteps.{finish_told}
use Rattle.target_graph.specs.Workspace.{Space, id_of}

-- ---- what is told

-- each is a notification
abbrev pub IsTold : Said → Type 0
IsTold m = notice_in m ≡ m ∷ []

reported_told : (at : Setting) (tallies : List Tally) (i : ℕ) (targets : List ℕ) → All IsTold (targets_reported at tallies i targets)
reported_told at tallies i [] = All-nil IsTold
reported_told at tallies i (target ∷ targets) =
    All-cons IsTold (target_reported at tallies i target) (targets_reported at tallies (suc i) targets) (finish_told _) (reported_told at tallies (suc i) targets)

pub ends_told : (at : Setting) (tallies : List Tally) → All IsTold (ends_said at tallies)
ends_told at tallies =
    let last : Said = build_finishes at.number (build_status (list_any has_errors tallies)) in
    All-append IsTold (targets_reported at tallies 1 at.targets.keys) (last ∷ []) (reported_told at tallies 1 at.targets.keys)
    (All-cons IsTold last [] (finish_told _) (All-nil IsTold))

-- ---- the tallies of findings

abbrev pub documents_in : List Finding → List BuildDocument
documents_in findings = map (λ (f : Finding). f.document) findings

abbrev pub CountsIn : Stage → Finding → Tally → Type 0
CountsIn s finding tally = IsCount (has_begun s finding.document.pair) finding.list tally

-- each finding has its tally, at its index
pub zipped : (s : Stage) (findings : List Finding) (tallies : List Tally) → length findings ≡ length tallies
    → ((k : ℕ) (finding : Finding) → slice_get findings k ≡ Some finding → IsTallied s finding tallies k) → AllZip (CountsIn s) findings tallies
zipped s [] [] size each = tt
zipped s [] (tally ∷ tallies) size each = absurd (omega (arith, size))
zipped s (finding ∷ findings) [] size each = absurd (omega (arith, size))
zipped s (finding ∷ findings) (tally ∷ tallies) size each =
    let first = each 0 finding refl in (
      subst (CountsIn s finding) (sym (same_Some tally first.tally first.there)) first.is,
      zipped s findings tallies (omega (arith, size)) (λ k x here. (let it = each (suc k) x here in record { tally = it.tally; there = it.there; is = it.is })),
    )

-- ---- the tally of a target

abbrev begun_of : Stage → Finding → Bool
begun_of s finding = has_begun s finding.document.pair

abbrev more_errors : ℕ → Finding → ℕ
more_errors n finding = n + count_errors finding.list

abbrev more_warnings : ℕ → Finding → ℕ
more_warnings n finding = n + count_warnings finding.list

-- the whole is what there was and what these findings add
record IsSum (s : Stage) (findings : List Finding) (before whole : Tally) : Type 0 where
  begun_is : whole.begun ≡ (before.begun || list_any (begun_of s) findings)
  errors_are : whole.errors ≡ fold more_errors before.errors findings
  warnings_are : whole.warnings ≡ fold more_warnings before.warnings findings

or_assoc : (a b c : Bool) → ((a || b) || c) ≡ (a || (b || c))
or_assoc true b c = refl
or_assoc false b c = refl

or_none : (b : Bool) → b ≡ (b || false)
or_none true = refl
or_none false = refl

one_summed : (s : Stage) (finding : Finding) (tally before whole : Tally) (others : List Finding) → CountsIn s finding tally → IsSum s others (with_tally before tally) whole
    → IsSum s (finding ∷ others) before whole
one_summed s finding tally before whole others counts rest = record {
  begun_is =
      rest.begun_is
      ∙ (or_assoc before.begun tally.begun (list_any (begun_of s) others)
      ∙ ap (λ b. before.begun || (b || list_any (begun_of s) others)) counts.begun_is);
  errors_are = rest.errors_are ∙ ap (λ n. fold more_errors (before.errors + n) others) counts.errors_are;
  warnings_are = rest.warnings_are ∙ ap (λ n. fold more_warnings (before.warnings + n) others) counts.warnings_are;
}

summed : (id : List ℕ) (s : Stage) (findings : List Finding) (tallies : List Tally) → AllZip (CountsIn s) findings tallies → (before : Tally)
    → IsSum s (of_target id findings) before (tally_from id before (documents_in findings) tallies)
summed id s [] [] each before = record { begun_is = or_none before.begun; errors_are = refl; warnings_are = refl }
summed id s [] (tally ∷ tallies) each before = absurd each
summed id s (finding ∷ findings) [] each before = absurd each
summed id s (finding ∷ findings) (tally ∷ tallies) each before =
    by (bytes_eq finding.document.key.target id) (summed id s findings tallies each.1 before) (summed id s findings tallies each.1 (with_tally before tally))
  where
    by : (same : Bool) → IsSum s (of_target id findings) before (tally_from id before (documents_in findings) tallies)
        → IsSum s (of_target id findings) (with_tally before tally) (tally_from id (with_tally before tally) (documents_in findings) tallies)
        → IsSum s (cond same (finding ∷ of_target id findings) (of_target id findings)) before
        (tally_from id (if same then with_tally before tally else before) (documents_in findings) tallies)
    by true other own = one_summed s finding tally before (tally_from id (with_tally before tally) (documents_in findings) tallies) (of_target id findings) each.0 own
    by false other own = other

-- ---- whether there is an error

any_some : (list : List Diagnostic) → list_any is_error list ≡ nat_lt 0 (count_errors list)
any_some [] = refl
any_some (diagnostic ∷ list) = by (is_error diagnostic) (any_some list)
  where
    by : (own : Bool) → list_any is_error list ≡ nat_lt 0 (count_errors list) → (own || list_any is_error list) ≡ nat_lt 0 (length (cond own (diagnostic ∷ filter is_error list) (filter is_error list)))
    by true rest = sym ((Decides-ltb 0 (length (diagnostic ∷ filter is_error list))).1 (omega arith))
    by false rest = rest

pub failed_same : (s : Stage) (findings : List Finding) (tallies : List Tally) → AllZip (CountsIn s) findings tallies → list_any has_error findings ≡ list_any has_errors tallies
failed_same s [] [] each = refl
failed_same s [] (tally ∷ tallies) each = absurd each
failed_same s (finding ∷ findings) [] each = absurd each
failed_same s (finding ∷ findings) (tally ∷ tallies) each =
    let own : has_error finding ≡ has_errors tally = any_some finding.list ∙ ap (nat_lt 0) (sym each.0.errors_are) in
    ap (λ b. b || list_any has_error findings) own ∙ ap (λ b. has_errors tally || b) (failed_same s findings tallies each.1)

-- ---- the reports

module _ (g : Given) (at : Setting) (s : Stage) (findings : List Finding) (tallies : List Tally) (each : AllZip (CountsIn s) findings tallies)
    (space : g.active.build.space ≡ at.workspace.value) (number : g.active.number ≡ at.number) (origin : g.active.build.origin ≡ at.origin.value)
    (documents : documents_in findings ≡ at.documents) (closure : g.closure ≡ at.targets.keys) where
  report_same : (id : List ℕ) → report_of at tallies id ≡ law.report_of g s findings id
  report_same id =
      let sum = summed id s findings tallies each no_tally in
      let whole : tally_from id no_tally at.documents tallies ≡ tally_from id no_tally (documents_in findings) tallies =
      ap (λ (ds : List BuildDocument). tally_from id no_tally ds tallies) (sym documents) in
      let begun = ap (λ (t : Tally). no_op_by t.begun) whole ∙ ap no_op_by sum.begun_is in
      let errors = ap (λ (t : Tally). t.errors) whole ∙ sum.errors_are in
      let warnings = ap (λ (t : Tally). t.warnings) whole ∙ sum.warnings_are in
      let own = sym origin in
      (λ i. record { target = record { uri = id }; origin_id = own i; errors = errors i; warnings = warnings i; no_op = begun i })

  target_same : (i target : ℕ) → target_reported at tallies i target ≡ target_finishes g.active.number i (law.report_of g s findings (id_of g.active.build.space target))
  target_same i target =
      ap (target_finishes at.number i) (report_same (id_of at.workspace.value target))
      ∙ (ap (λ (w : Space). target_finishes at.number i (law.report_of g s findings (id_of w target))) (sym space)
      ∙ ap (λ n. target_finishes n i (law.report_of g s findings (id_of g.active.build.space target))) (sym number))

  targets_same : (i : ℕ) (targets : List ℕ) → targets_reported at tallies i targets ≡ targets_finish g s findings i targets
  targets_same i [] = refl
  targets_same i (target ∷ targets) =
      ap (λ (m : Said). m ∷ targets_reported at tallies (suc i) targets) (target_same i target)
      ∙ ap (λ (ms : List Said). target_finishes g.active.number i (law.report_of g s findings (id_of g.active.build.space target)) ∷ ms) (targets_same (suc i) targets)

  pub ends_same : ends_said at tallies ≡ all_finish g s findings
  ends_same =
      let reports : targets_reported at tallies 1 at.targets.keys ≡ targets_finish g s findings 1 g.closure =
      targets_same 1 at.targets.keys ∙ ap (targets_finish g s findings 1) (sym closure) in
      let failed : list_any has_errors tallies ≡ list_any has_error findings = sym (failed_same s findings tallies each) in
      let finish : build_finishes at.number (build_status (list_any has_errors tallies)) ≡ build_finishes g.active.number (build_status (list_any has_error findings)) =
      ap (λ b. build_finishes at.number (build_status b)) failed ∙ ap (λ n. build_finishes n (build_status (list_any has_error findings))) (sym number) in
      ap (λ (ms : List Said). ms ++ build_finishes at.number (build_status (list_any has_errors tallies)) ∷ []) reports
      ∙ ap (λ (m : Said). targets_finish g s findings 1 g.closure ++ m ∷ []) finish
