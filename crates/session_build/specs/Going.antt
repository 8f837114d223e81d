-- How far a build is, by what is kept of it while it goes.
use Rattle.std.specs.Prelude.{◌≡◌, ◌≢◌, ◌≤◌, ◌<◌, ◌⊎◌, ◌+◌, ◌++◌, ℕ, suc, List, [], ◌∷◌, length, map, Bool, Some, Contains, All, slice_set}
use Rattle.std.specs.List.{AllPairs, slice_get}
use Rattle.bsp_records.specs.Table.{Table}
use Rattle.build_sources.specs.Documents.{AreImportsOf}
use Rattle.build_checks.specs.Kept.{AreNumbered, Extends, IsKept}
use Rattle.build_checks.specs.Numbers.{AreNumbersOf}
use Rattle.build_checks.specs.Stand.{AreChecks, CanBeTaken, IsClear, left_of, modules_of, settled_of, taken_of, world_of}
use Rattle.build_checks.specs.Work.{IsWorkOf}
use Rattle.build_checks.specs.declared.checks.Checks.{Checks}
use Rattle.build_rules.specs.Views.{HasView}
use Rattle.build_rules.specs.World.{IsCyclic, held_in}
use Rattle.check_cache.specs.Facts.{FactTree, IsFact, names_of}
use Rattle.check_cache.specs.declared.cache.Cache.{Cache}
use Rattle.oberon_types.specs.Memory.{plain_view}
use Rattle.rpc_peer.specs.Said.{Said}
use Rattle.build_messages.specs.Publishing.{IsPublishedOne}
use Rattle.session_build.specs.Remembering.{RemembersChecks}
use Rattle.session_build.specs.Setting.{IsNumberOf, IsSettingOf}
use Rattle.session_build.specs.Stages.{Agrees, AreBegun, IsOnCourse, Running, SameMembers}
use Rattle.session_build.specs.Tallies.{AreTallied, IsCount}
use Rattle.session_build.specs.Telling.{TellsBehind}
use Rattle.session_build.specs.declared.going.Going.{Going}
use Rattle.session_build.specs.declared.going.Job.{Job}
use Rattle.session_build.specs.declared.going.Made.{Made}
use Rattle.session_build.specs.declared.setting.Setting.{Setting}
use Rattle.session_build.specs.declared.tally.Tally.{Tally}
use Rattle.session_law.specs.Builds.{build_document}
use Rattle.session_law.specs.Course.{Given, Stage}
use Rattle.session_law.specs.History.{Told, HasChecked}
use Rattle.session_law.specs.IsFramed.{IsFramed}
use Rattle.session_law.specs.Tasks.{check_starts}
use Rattle.session_law.specs.Verdicts.{FinishesOneFirst, IsBare}
use Rattle.worker_pool.specs.Jobs.{CheckTree}

abbrev pub running_of : Job → Running
running_of job = record { pair = job.pair; document_index = job.document_index; target = job.target; number = job.number }

abbrev pub all_running : List Job → List Running
all_running jobs = map running_of jobs

abbrev pub pairs_made : List Made → List ℕ
pairs_made made = map (λ it. it.pair) made

-- ---- what holds of it whatever the course

pub record IsJob (c : Checks) (job : Job) : Type 0 where
  pub among : Contains (modules_of c) job.pair
  pub taken : Contains (taken_of c) job.pair
  pub unsettled : ¬ (Contains (settled_of c) job.pair)
  pub clear : IsClear (world_of c) (settled_of c) job.pair
  pub named : AreImportsOf (held_in (world_of c) job.pair) (names_of job.imports.items)

pub record AreSound (at : Setting) (c : Checks) (jobs : List Job) (tallies : List Tally) : Type 0 where
  pub checks : AreChecks c
  pub space : (world_of c).targets ≡ at.workspace.value.targets
  pub modules : SameMembers (map (λ document. document.pair) at.documents) (modules_of c)
  pub sized : length tallies ≡ length at.documents
  pub settled_taken : (p : ℕ) → Contains (settled_of c) p → Contains (taken_of c) p
  pub each : All (IsJob c) jobs
  pub distinct : AllPairs ◌≢◌ (map (λ job. job.pair) jobs)

abbrev pub IsSound : Setting → Going → Type 0
IsSound at going = AreSound at going.checks going.jobs.items going.tallies.items

abbrev pub numbers_of : List Job → List ℕ
numbers_of jobs = map (λ job. job.number) jobs

-- the checks that run, in the order in which they started, among so many that did
pub record AreOrdered (begun : ℕ) (jobs : List Job) : Type 0 where
  pub rising : AllPairs ◌<◌ (numbers_of jobs)
  pub counted : All (λ job. 0 < job.number) jobs
  pub within : All (λ job. job.number ≤ begun) jobs

abbrev pub IsOrdered : Going → Type 0
IsOrdered going = AreOrdered going.begun going.jobs.items

-- the world stays, and what was settled keeps its view
pub record KeepsViews (old new : Checks) : Type 0 where
  pub world : world_of new ≡ world_of old
  pub views : (keys : List (List ℕ)) → AreNumbersOf keys new → AreNumbersOf keys old

-- all checks that run go on, and others start behind them
pub record StartsMore (old new : Going) : Type 0 where
  pub stay : (job : Job) → Contains old.jobs.items job → Contains new.jobs.items job
  pub either : (job : Job) → Contains new.jobs.items job → Contains old.jobs.items job ⊎ (old.begun < job.number)
  pub fresh : (n : ℕ) → old.begun < n → n ≤ new.begun → Contains (numbers_of new.jobs.items) n
  pub more : old.begun ≤ new.begun
  pub ordered : IsOrdered old → IsOrdered new
  pub checks : KeepsViews old.checks new.checks

-- the check with this number stands at this index
pub record IsJobIndex (jobs : List Job) (number index : ℕ) : Type 0 where
  pub job : Job
  pub there : slice_get jobs index ≡ Some job
  pub number_is : job.number ≡ number

-- one of the jobs is taken out, wherever it stands
pub record TakesOut (old new : List Job) (job : Job) : Type 0 where
  pub front : List Job
  pub back : List Job
  pub before : old ≡ front ++ job ∷ back
  pub after : new ≡ front ++ back

-- no module can be taken
abbrev pub NoneCanBeTaken : Checks → Type 0
NoneCanBeTaken c = (p : ℕ) → ¬ (CanBeTaken c p)

-- how much is left to do, at most
abbrev pub all_left : Checks → List Job → ℕ
all_left c jobs = left_of c + (left_of c + length jobs)

-- ---- its course

-- it was told that the job's check starts
abbrev pub HasToldStart : Given → List Said → Job → Type 0
HasToldStart g messages job =
    Contains messages (check_starts g.active.number job.number job.target (build_document g.active.build.space job.pair).key.document)

abbrev pub told_by : Given → List Said → Told
told_by g messages = record { active = g.active; notices = messages; cleaned = [] }

-- The build is so far on this course, where it told this and these are the checks that run.
pub record IsGoingWith (g : Given) (at : Setting) (going : Going) (jobs : List Job) (told : List Said) (keys : List (List ℕ)) (table : Table) : Type 0 where
  pub of_setting : IsSettingOf at g
  pub stage : Stage
  pub on : IsOnCourse g stage told table
  pub agrees : Agrees g stage (world_of going.checks) (modules_of going.checks) (taken_of going.checks) (settled_of going.checks)
  pub count : going.begun ≡ length stage.begun
  pub begun : AreBegun g stage (all_running jobs) (pairs_made going.made.items)
  pub numbered : All (λ job. AreNumbered keys (world_of going.checks) job.pair job.imports.items) jobs
  pub made : All (λ it. IsKept keys (world_of going.checks) it.pair it.fact) going.made.items
  pub tallied : AreTallied g.documents stage going.tallies.items
  pub started : All (HasToldStart g told) jobs
  pub checked : All (λ it. HasChecked (told_by g told) (build_document at.workspace.value it.pair).key) going.made.items
  pub numbers : AreNumbersOf keys going.checks

abbrev pub IsGoing : Given → Setting → Going → List Said → List (List ℕ) → Table → Type 0
IsGoing g at going told keys table = IsGoingWith g at going going.jobs.items told keys table

-- Whatever course it was on, it went on, where this cache remembers the builds before it. What it told goes behind other
-- messages, and no check finishes by it.
pub record Goes (at : Setting) (cache : Cache) (old new : Going) (before after : List Said) (keys later : List (List ℕ)) (table shown : Table) : Type 0 where
  pub own : List Said
  pub tells : TellsBehind own before after
  pub bare : All IsBare own
  pub more : Extends keys later
  pub on : (g : Given) (told : List Said) → RemembersChecks at.workspace.value g.earlier cache keys → IsGoing g at old told keys table
      → IsGoing g at new (told ++ own) later shown

-- the same where the job runs beside those that are kept, and this fact is what its check finds
pub record GoesBy (at : Setting) (job : Job) (fact : FactTree) (old new : Going) (before after : List Said) (keys later : List (List ℕ)) (table shown : Table) : Type 0 where
  pub own : List Said
  pub tells : TellsBehind own before after
  pub one : FinishesOneFirst own
  pub more : Extends keys later
  pub on : (g : Given) (told : List Said) → IsKept keys (world_of old.checks) job.pair fact → IsGoingWith g at old (job ∷ old.jobs.items) told keys table
      → IsGoing g at new (told ++ own) later shown

-- one of the jobs has this number, and is of this pair
pub record IsAmong (jobs : List Job) (number pair : ℕ) : Type 0 where
  pub job : Job
  pub there : Contains jobs job
  pub number_is : job.number ≡ number
  pub pair_is : job.pair ≡ pair

-- The build goes on by what a check finds, whatever course it was on, where this cache remembers the builds before it and
-- the check was of the document whose check has this number.
pub record GoesOnBy (at : Setting) (cache : Cache) (number : ℕ) (work : CheckTree) (old new : Going) (before after : List Said) (keys later : List (List ℕ)) (table shown : Table) : Type 0 where
  pub own : List Said
  pub tells : TellsBehind own before after
  pub one : FinishesOneFirst own
  pub more : Extends keys later
  pub on : (g : Given) (told : List Said) → RemembersChecks at.workspace.value g.earlier cache keys
      → ((pair : ℕ) → IsAmong old.jobs.items number pair → IsWorkOf (world_of old.checks) pair work)
      → IsGoing g at old told keys table → IsGoing g at new (told ++ own) later shown

-- The check with this number runs no more, and each other goes on. Those that started since have greater numbers.
pub record FinishesOne (old : Going) (number : ℕ) (new : Going) : Type 0 where
  pub others : (job : Job) → Contains old.jobs.items job → job.number ≢ number → Contains new.jobs.items job
  pub either : IsOrdered old → (job : Job) → Contains new.jobs.items job → (Contains old.jobs.items job × (job.number ≢ number)) ⊎ (old.begun < job.number)
  pub fresh : (n : ℕ) → old.begun < n → n ≤ new.begun → Contains (numbers_of new.jobs.items) n
  pub more : old.begun ≤ new.begun
  pub less : all_left new.checks new.jobs.items < all_left old.checks old.jobs.items
  pub ordered : IsOrdered old → IsOrdered new
  pub checks : KeepsViews old.checks new.checks

-- where all that was taken is settled, all is
abbrev pub GoesThrough : Checks → Type 0
GoesThrough c = ((p : ℕ) → Contains (taken_of c) p → Contains (settled_of c) p) → (p : ℕ) → Contains (modules_of c) p → Contains (settled_of c) p

-- ---- steps

-- A check of the pair's document starts, which has these imports. That is told behind other messages.
pub record Begins (at : Setting) (old new : Going) (pair : ℕ) (imports : List (List ℕ × ℕ)) (before after : List Said) : Type 0 where
  pub job : Job
  pub pair_is : job.pair ≡ pair
  pub there : slice_get at.documents job.document_index ≡ Some (build_document at.workspace.value pair)
  pub of_target : IsNumberOf at pair job.target
  pub number_is : job.number ≡ suc old.begun
  pub imports_are : job.imports.items ≡ imports
  pub jobs : new.jobs.items ≡ old.jobs.items ++ job ∷ []
  pub count : new.begun ≡ suc old.begun
  pub messages : after ≡ before ++ check_starts at.number job.number job.target (build_document at.workspace.value pair).key.document ∷ []
  pub framed : IsFramed (check_starts at.number job.number job.target (build_document at.workspace.value pair).key.document)
  pub checks : new.checks ≡ old.checks
  pub made : new.made ≡ old.made
  pub tallies : new.tallies ≡ old.tallies

-- The pair's document is settled by this check. What is published of it goes behind other messages.
pub record SettlesBy (at : Setting) (old new : Going) (pair : ℕ) (begun : Bool) (fact : FactTree) (keys later : List (List ℕ)) (table shown : Table) (before after : List Said) : Type 0 where
  pub is_fact : IsFact fact
  pub checks : AreChecks new.checks
  pub world_same : world_of new.checks ≡ world_of old.checks
  pub modules_same : modules_of new.checks ≡ modules_of old.checks
  pub taken_same : taken_of new.checks ≡ taken_of old.checks
  pub left_same : left_of new.checks ≡ left_of old.checks
  pub settled : settled_of new.checks ≡ settled_of old.checks ++ pair ∷ []
  pub numbers : (¬ (IsCyclic (world_of old.checks) pair) → HasView (world_of old.checks) pair (plain_view fact.checked.view))
      → AreNumbersOf keys old.checks → AreNumbersOf later new.checks
  pub stays : (ks : List (List ℕ)) → AreNumbersOf ks new.checks → AreNumbersOf ks old.checks
  pub more : Extends keys later
  pub index : ℕ
  pub there : slice_get at.documents index ≡ Some (build_document at.workspace.value pair)
  pub tally : Tally
  pub counted : IsCount begun fact.checked.list.items tally
  pub tallies : new.tallies.items ≡ slice_set old.tallies.items index tally
  pub failed : Bool
  pub published : IsPublishedOne table shown (build_document at.workspace.value pair) at.origin.value fact.checked.list.items before after failed
  pub count : new.begun ≡ old.begun
  pub jobs : new.jobs ≡ old.jobs
  pub made : new.made ≡ old.made
