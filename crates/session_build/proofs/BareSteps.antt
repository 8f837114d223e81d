-- What is told as a build starts, ends or is cancelled holds no verdict.
use Rattle.std.proofs.Common.{◌++◌, ℕ, suc, List, [], ◌∷◌}
use Rattle.std.specs.List.{All, list_any}
use Rattle.std.proofs.lemmas.List.Elements.{All-append, All-cons, All-nil}
use Rattle.bsp_records.specs.declared.results.StatusCode.TheVariants as statuses
use Rattle.rpc_peer.specs.Said.{Said}
use Rattle.session_law.proofs.BareLaws.{bare_build, bare_check, bare_report, bare_start, bare_target}
use Rattle.session_law.specs.Builds.{build_status}
use Rattle.session_law.specs.Tasks.{build_finishes, build_starts, check_finishes, target_cancelled, target_starts}
use Rattle.session_law.specs.Verdicts.{IsBare}
use Rattle.session_build.specs.Cancels.{cancels_said, checks_said, targets_said}
use Rattle.session_build.specs.Ending.{ends_said, report_of, target_reported, targets_reported}
use Rattle.session_build.specs.Tallies.{has_errors}
use Rattle.session_build.specs.Telling.{starts_from}
use Rattle.session_build.specs.declared.going.Job.{Job}
use Rattle.session_build.specs.declared.setting.Setting.{Setting}
use Rattle.session_build.specs.declared.tally.Tally.{Tally}
use Rattle.target_graph.specs.Workspace.{id_of}

module _ (at : Setting) where
  starts_bare : (i : ℕ) (targets : List ℕ) → All IsBare (starts_from at i targets)
  starts_bare i [] = All-nil IsBare
  starts_bare i (target ∷ targets) =
      All-cons IsBare (target_starts at.number i (id_of at.workspace.value target)) (starts_from at (suc i) targets) (bare_start _) (starts_bare (suc i) targets)

  pub all_starts_bare : All IsBare (build_starts at.number ∷ starts_from at 1 at.targets.keys)
  all_starts_bare = All-cons IsBare (build_starts at.number) (starts_from at 1 at.targets.keys) (bare_start _) (starts_bare 1 at.targets.keys)

  -- ---- as it ends

  reports_bare : (tallies : List Tally) (i : ℕ) (targets : List ℕ) → All IsBare (targets_reported at tallies i targets)
  reports_bare tallies i [] = All-nil IsBare
  reports_bare tallies i (target ∷ targets) =
      All-cons IsBare (target_reported at tallies i target) (targets_reported at tallies (suc i) targets) (bare_report at.number i (report_of at tallies (id_of at.workspace.value target)))
      (reports_bare tallies (suc i) targets)

  pub ends_bare : (tallies : List Tally) → All IsBare (ends_said at tallies)
  ends_bare tallies =
      let last : Said = build_finishes at.number (build_status (list_any has_errors tallies)) in
      All-append IsBare (targets_reported at tallies 1 at.targets.keys) (last ∷ []) (reports_bare tallies 1 at.targets.keys)
      (All-cons IsBare last [] (bare_build at.number (build_status (list_any has_errors tallies))) (All-nil IsBare))

  -- ---- as it is cancelled

  checks_bare : (jobs : List Job) → All IsBare (checks_said at jobs)
  checks_bare [] = All-nil IsBare
  checks_bare (job ∷ jobs) =
      All-cons IsBare (check_finishes at.number job.number job.target statuses.Cancelled) (checks_said at jobs) (bare_check at.number job.number job.target) (checks_bare jobs)

  targets_bare : (i : ℕ) (targets : List ℕ) → All IsBare (targets_said at i targets)
  targets_bare i [] = All-nil IsBare
  targets_bare i (target ∷ targets) = All-cons IsBare (target_cancelled at.number i) (targets_said at (suc i) targets) (bare_target at.number i) (targets_bare (suc i) targets)

  pub cancels_bare : (jobs : List Job) → All IsBare (cancels_said at jobs)
  cancels_bare jobs =
      let last : Said = build_finishes at.number statuses.Cancelled in
      All-append IsBare (checks_said at jobs) (targets_said at 1 at.targets.keys ++ last ∷ []) (checks_bare jobs)
      (All-append IsBare (targets_said at 1 at.targets.keys) (last ∷ []) (targets_bare 1 at.targets.keys)
      (All-cons IsBare last [] (bare_build at.number statuses.Cancelled) (All-nil IsBare)))
