-- Which messages of a build start a check: neither those that its targets start by nor those that they finish by.
use Rattle.std.proofs.Common.{◌≡◌, ◌<◌, ◌^◌, ℕ, suc, List, [], ◌∷◌, length, None, All, Contains, sym, ◌∙◌, arith}
use Rattle.std.proofs.lemmas.List.Elements.{All-append, All-cons, All-contains, All-nil}
use Rattle.std.proofs.lemmas.Option.{none-some}
use Rattle.rpc_peer.specs.Said.{Said}
use Rattle.session_law.proofs.ClosureLaws.{number_within}
use Rattle.session_law.proofs.TaskLaws.{build_finishes_in, build_starts_in, check_starts_in, start_in, target_finishes_in, target_starts_in}
use Rattle.session_law.specs.Builds.{Finding, build_status, has_error}
use Rattle.session_law.specs.Course.{Given, Stage, all_finish, all_start, report_of, targets_finish, targets_start}
use Rattle.session_law.specs.History.{IsTaskOf}
use Rattle.session_law.specs.Requests.{Active}
use Rattle.session_law.specs.Tasks.{build_finishes, build_starts, check_starts, target_finishes, target_starts}
use Rattle.std.specs.List.{list_any}
use Rattle.target_graph.specs.Workspace.{IsClosure, id_of}

-- ---- the numbers of targets

-- they are what a message can tell apart
abbrev pub NumbersFit : Active → Type 0
NumbersFit active = (id : List ℕ) (i : ℕ) → IsTaskOf active id i → i < 2 ^ 64

pub numbers_fit : (active : Active) (closure : List ℕ) → IsClosure active.build.space.targets active.build.asked closure → length closure < 2 ^ 64 → NumbersFit active
numbers_fit active closure closed few id i task = omega (arith, few, number_within active closure id i closed task)

-- ---- no checks

abbrev pub StartsNone : Said → Type 0
StartsNone m = start_in m ≡ None

pub no_start : (messages : List Said) (n j i : ℕ) (document : List ℕ) → All StartsNone messages → ¬ (Contains messages (check_starts n j i document))
no_start messages n j i document all there =
    none-some _ (sym (All-contains StartsNone messages (check_starts n j i document) all there) ∙ (check_starts_in n j i document).0)

starts_none : (g : Given) (i : ℕ) (targets : List ℕ) → All StartsNone (targets_start g i targets)
starts_none g i [] = All-nil StartsNone
starts_none g i (target ∷ targets) =
    All-cons StartsNone (target_starts g.active.number i (id_of g.active.build.space target)) (targets_start g (suc i) targets)
    (target_starts_in g.active.number i (id_of g.active.build.space target)).0 (starts_none g (suc i) targets)

pub none_starts : (g : Given) → All StartsNone (all_start g)
none_starts g = All-cons StartsNone (build_starts g.active.number) (targets_start g 1 g.closure) (build_starts_in g.active.number).0 (starts_none g 1 g.closure)

finishes_none : (g : Given) (s : Stage) (findings : List Finding) (i : ℕ) (targets : List ℕ) → All StartsNone (targets_finish g s findings i targets)
finishes_none g s findings i [] = All-nil StartsNone
finishes_none g s findings i (target ∷ targets) =
    All-cons StartsNone (target_finishes g.active.number i (report_of g s findings (id_of g.active.build.space target))) (targets_finish g s findings (suc i) targets)
    (target_finishes_in g.active.number i (report_of g s findings (id_of g.active.build.space target))).0 (finishes_none g s findings (suc i) targets)

pub none_finishes : (g : Given) (s : Stage) (findings : List Finding) → All StartsNone (all_finish g s findings)
none_finishes g s findings =
    let last : Said = build_finishes g.active.number (build_status (list_any has_error findings)) in
    All-append StartsNone (targets_finish g s findings 1 g.closure) (last ∷ []) (finishes_none g s findings 1 g.closure)
    (All-cons StartsNone last [] (build_finishes_in g.active.number (build_status (list_any has_error findings))).0 (All-nil StartsNone))
