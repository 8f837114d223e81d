-- What is told as a build is cancelled, by the checks that run.
use Rattle.std.specs.Prelude.{◌++◌, ℕ, suc, List, [], ◌∷◌, map}
use Rattle.bsp_records.specs.declared.results.StatusCode.TheVariants as statuses
use Rattle.rpc_peer.specs.Said.{Said}
use Rattle.session_build.specs.declared.going.Job.{Job}
use Rattle.session_build.specs.declared.setting.Setting.{Setting}
use Rattle.session_law.specs.Tasks.{build_finishes, check_finishes, target_cancelled}

-- the checks finish as cancelled, in their order
abbrev pub checks_said : Setting → List Job → List Said
checks_said at jobs = map (λ job. check_finishes at.number job.number job.target statuses.Cancelled) jobs

-- so do the targets, from this number on
abbrev pub targets_said : Setting → ℕ → List ℕ → List Said
targets_said at i [] = []
targets_said at i (target ∷ targets) = target_cancelled at.number i ∷ targets_said at (suc i) targets

-- and the build
abbrev pub cancels_said : Setting → List Job → List Said
cancels_said at jobs = checks_said at jobs ++ (targets_said at 1 at.targets.keys ++ build_finishes at.number statuses.Cancelled ∷ [])
