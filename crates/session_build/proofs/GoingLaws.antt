-- How a build goes on, by what is kept of it: a document whose check is kept is settled, or a check of it starts.
use Rattle.std.proofs.Common.{◌≡◌, ◌≢◌, ◌++◌, ℕ, List, [], ◌∷◌, length, get_or, map, Some, option_map, ap, sym, subst, ◌∙◌, refl, arith}
use Rattle.std.specs.declared.alloc.Global.{Global}
use Rattle.std.specs.Prelude.{Vec}
use Rattle.std.specs.List.{All, AllPairs, Contains, slice_get}
use Rattle.std.proofs.lemmas.List.{map-append}
use Rattle.std.proofs.lemmas.Option.{slice_get-map}
use Rattle.bsp_records.specs.Table.{Table}
use Rattle.build_checks.specs.Kept.{AreNumbered, IsKept}
use Rattle.build_checks.specs.Stand as stand
use Rattle.build_checks.specs.Numbers.{AreNumbersOf}
use Rattle.build_checks.specs.Stand.{modules_of, settled_of, taken_of, world_of}
use Rattle.build_checks.specs.declared.checks.Checks.{Checks}
use Rattle.build_rules.specs.Locality.{IsApart}
use Rattle.build_rules.specs.World.{World}
use Rattle.rpc_peer.specs.Said.{Said}
use Rattle.session_law.specs.Builds.{Finding, build_document}
use Rattle.session_law.specs.Course.{Given, Stage, IsNext, pairs_in}
use Rattle.session_law.specs.History.{IsTaskOf, world_in}
use Rattle.session_law.specs.declared.BuildDocument.{BuildDocument}
use Rattle.session_law.proofs.ListLaws.{contains_at, contains_map, one_place}
use Rattle.session_law.proofs.StageLaws.{stage_sound}
use Rattle.session_build.specs.Going.{HasToldStart, IsGoing, IsGoingWith, TakesOut, all_running, pairs_made, running_of}
use Rattle.session_build.specs.Setting.{IsNumberOf, IsSetting, IsSettingOf}
use Rattle.session_build.specs.Stages.{Agrees, AreBegun, Running, SameMembers}
use Rattle.session_build.specs.declared.going.Going.{Going}
use Rattle.session_build.specs.declared.going.Job.{Job}
use Rattle.session_build.specs.declared.setting.Setting.{Setting}
use Rattle.session_build.proofs.CourseSteps.{apart_settled}
use Rattle.build_messages.proofs.DocumentLaws.{distinct_documents}
use Rattle.build_messages.proofs.Publications as published
use Rattle.session_build.proofs.SettingLaws.{pair_of}
use Rattle.session_build.proofs.Moved.{all_by, map_around, moved_back}
use Rattle.session_build.proofs.StageLaws.{IsFirstIn, begun_moved, next_here}
use Rattle.target_graph.specs.Faults.{IsRepeat}
use Rattle.target_graph.specs.Workspace.{Space, id_of, pairs_of}
use Rattle.target_graph.specs.declared.target.Target.{Target}
use Rattle.target_graph.specs.declared.target.Pair.{Pair}

-- ---- what is read of the checks

first_in : (c : Checks) (p : ℕ) → stand.IsNext c p → IsFirstIn (world_of c) (modules_of c) (taken_of c) (settled_of c) p
first_in c p next = record { ready = next.ready; least = next.least }

pub agrees_same : (g : Given) (s : Stage) (w w' : World) (m m' t t' e e' : List ℕ) → w' ≡ w → m' ≡ m → t' ≡ t → e' ≡ e → Agrees g s w m t e → Agrees g s w' m' t' e'
agrees_same g s w w' m m' t t' e e' world modules taken settled agrees = record {
  world_is = world ∙ agrees.world_is;
  modules_are = subst (SameMembers (map (λ (d : BuildDocument). d.pair) g.documents)) (sym modules) agrees.modules_are;
  taken_are = subst (SameMembers s.taken) (sym taken) agrees.taken_are;
  settled_are = subst (SameMembers (pairs_in s.settled)) (sym settled) agrees.settled_are;
}

-- ---- the documents

module _ (at : Setting) (is : IsSetting at) where
  documents_distinct : AllPairs ◌≢◌ (map (λ (d : BuildDocument). d.key) at.documents)
  documents_distinct =
      subst (λ (ds : List BuildDocument). AllPairs ◌≢◌ (map (λ (d : BuildDocument). d.key) ds)) (sym is.are)
      (distinct_documents at.workspace.value at.targets.keys is.apart at.pairs.keys is.rising is.each)

  pub pairs_distinct : AllPairs ◌≢◌ (map (λ (d : BuildDocument). d.pair) at.documents)
  pairs_distinct = subst (λ ps. AllPairs ◌≢◌ ps) is.pairs (λ i j d h k same. (let less = is.rising i j d h k in omega (arith, less, same)))

  pub one_document : (index : ℕ) (document : BuildDocument) → slice_get at.documents index ≡ Some document
      → (k : ℕ) (d : BuildDocument) → slice_get at.documents k ≡ Some d → d.pair ≡ document.pair → k ≡ index
  one_document index document there k d here same =
      one_place (map (λ (x : BuildDocument). x.pair) at.documents) document.pair k index pairs_distinct
      (slice_get-map (λ (x : BuildDocument). x.pair) at.documents k ∙ (ap (option_map (λ (x : BuildDocument). x.pair)) here ∙ ap (λ p. Some p) same))
      (slice_get-map (λ (x : BuildDocument). x.pair) at.documents index ∙ ap (option_map (λ (x : BuildDocument). x.pair)) there)

  pub once_in : (v : World) → v.targets ≡ at.workspace.value.targets → IsApart v
  once_in v same = subst (λ (ts : List Target). (t q : ℕ) → ¬ (IsRepeat ts t q)) (sym same) is.once

-- ---- one step

-- A document of the build that is next, as a course sees it.
pub record IsTakenUp (g : Given) (at : Setting) (s : Stage) (pair : ℕ) : Type 0 where
  pub next : IsNext g s (build_document at.workspace.value pair)
  pub unbegun : ¬ (Contains s.begun pair)
  pub unsettled : ¬ (Contains (pairs_in s.settled) pair)
  pub apart : All (λ (f : Finding). published.IsApart (build_document at.workspace.value pair) f.document) s.settled
  pub target : Pair
  pub there : slice_get (pairs_of at.workspace.value.targets) pair ≡ Some target

-- a module was taken
pub record Came (old new : Checks) (pair : ℕ) : Type 0 where
  pub next : stand.IsNext old pair
  pub world_same : world_of new ≡ world_of old
  pub modules_same : modules_of new ≡ modules_of old
  pub settled_same : settled_of new ≡ settled_of old
  pub taken : taken_of new ≡ taken_of old ++ pair ∷ []
  pub numbers : (keys : List (List ℕ)) → AreNumbersOf keys old → AreNumbersOf keys new

module _ (at : Setting) (is : IsSetting at) (g : Given) (old : Going) (jobs : List Job) (told : List Said) (keys : List (List ℕ)) (table : Table) (going : IsGoingWith g at old jobs told keys table) where
  pub space_is : g.active.build.space ≡ at.workspace.value
  space_is = going.of_setting.space

  pub world_targets : (world_in g.active).targets ≡ at.workspace.value.targets
  world_targets = ap (λ (x : Space). x.targets) space_is

  pub document_there : (index pair : ℕ) → slice_get at.documents index ≡ Some (build_document at.workspace.value pair) → Contains g.documents (build_document at.workspace.value pair)
  document_there index pair here =
      subst (λ (ds : List BuildDocument). Contains ds (build_document at.workspace.value pair)) (sym going.of_setting.documents)
      (contains_at at.documents index (build_document at.workspace.value pair) here)

  pub keys_distinct : AllPairs ◌≢◌ (map (λ (d : BuildDocument). d.key) g.documents)
  keys_distinct = subst (λ (ds : List BuildDocument). AllPairs ◌≢◌ (map (λ (d : BuildDocument). d.key) ds)) (sym going.of_setting.documents) (documents_distinct at is)

  pub taken_up : (index pair : ℕ) → slice_get at.documents index ≡ Some (build_document at.workspace.value pair) → stand.IsNext old.checks pair → IsTakenUp g at going.stage pair
  taken_up index pair here first =
      let s = going.stage in
      let document = build_document at.workspace.value pair in
      let there = document_there index pair here in
      let next : IsNext g s document =
      next_here g s (world_of old.checks) (modules_of old.checks) (taken_of old.checks) (settled_of old.checks) going.agrees document there (first_in old.checks pair first) in
      let sound = stage_sound going.on.course in
      let unsettled : ¬ (Contains (pairs_in s.settled) pair) = (λ c. next.ready.is_new (sound.settled_taken pair c)) in
      let own = pair_of at is pair (contains_map (λ (d : BuildDocument). d.pair) at.documents document (contains_at at.documents index document here)) in
      record {
        next = next;
        unbegun = λ c. next.ready.is_new (sound.begun_taken pair c);
        unsettled = unsettled;
        apart = apart_settled g.documents s.settled document keys_distinct sound.documents there unsettled;
        target = own.pair;
        there = own.there;
      }

-- the number of a target, as a course has it
pub task_of : (at : Setting) (g : Given) (pair number : ℕ) → IsSettingOf at g → IsNumberOf at pair number → IsTaskOf g.active (build_document at.workspace.value pair).key.target number
task_of at g pair number of_setting is = record {
  closure = g.closure;
  closed = of_setting.are.closed;
  before = is.before;
  target = is.target;
  there = subst (λ ts. slice_get ts is.before ≡ Some is.target) (sym of_setting.closure) is.there;
  number_is = is.number_is;
  id_is = ap (λ (s : Space). id_of s is.target) of_setting.space ∙ is.id_is;
}

pub slice_get_last : (xs : List ℕ) (x : ℕ) → slice_get (xs ++ x ∷ []) (length xs) ≡ Some x
slice_get_last [] x = refl
slice_get_last (y ∷ xs) x = slice_get_last xs x

-- ---- nothing is taken

module _ (at : Setting) (g : Given) (old : Going) (c : Checks) (told : List Said) (keys : List (List ℕ)) (table : Table) (world : world_of c ≡ world_of old.checks) (modules : modules_of c ≡ modules_of old.checks)
    (taken : taken_of c ≡ taken_of old.checks) (settled : settled_of c ≡ settled_of old.checks) (numbers : AreNumbersOf keys old.checks → AreNumbersOf keys c) (going : IsGoing g at old told keys table) where
  pub idle_goes : IsGoing g at (record old { checks = c }) told keys table
  idle_goes = record {
    of_setting = going.of_setting;
    stage = going.stage;
    on = going.on;
    agrees =
        agrees_same g going.stage (world_of old.checks) (world_of c) (modules_of old.checks) (modules_of c) (taken_of old.checks) (taken_of c) (settled_of old.checks) (settled_of c)
        world modules taken settled going.agrees;
    count = going.count;
    begun = going.begun;
    numbered = λ k d h. (let job = get_or old.jobs.items k d in subst (λ w. AreNumbered keys w job.pair job.imports.items) (sym world) (going.numbered k d h));
    made = λ k d h. (let it = get_or old.made.items k d in subst (λ w. IsKept keys w it.pair it.fact) (sym world) (going.made k d h));
    tallied = going.tallied;
    started = going.started;
    checked = going.checked;
    numbers = numbers going.numbers;
  }

-- where none can be taken, and nothing changed, none can be
pub none_still : (old c : Checks) → world_of c ≡ world_of old → modules_of c ≡ modules_of old → taken_of c ≡ taken_of old → settled_of c ≡ settled_of old
    → ((p : ℕ) → ¬ (stand.CanBeTaken old p)) → (p : ℕ) → ¬ (stand.CanBeTaken c p)
none_still old c world modules taken settled none p can =
    none p
    (record {
      among = subst (λ ms. Contains ms p) modules can.among;
      is_new = λ there. can.is_new (subst (λ xs. Contains xs p) (sym taken) there);
      clear = subst (λ w. stand.IsClear w (settled_of old) p) world (subst (λ xs. stand.IsClear (world_of c) xs p) settled can.clear);
    })

-- ---- the jobs are spoken of apart from what keeps them

-- one of them is taken out, and is the first of them then
pub job_first : (g : Given) (at : Setting) (old : Going) (queue : Vec Job Global) (job : Job) (told : List Said) (keys : List (List ℕ)) (table : Table)
    → TakesOut old.jobs.items queue.items job → IsGoing g at old told keys table → IsGoingWith g at (record old { jobs = queue }) (job ∷ queue.items) told keys table
job_first g at old queue job told keys table takes going =
    let front = takes.front in
    let back = takes.back in
    let within : (it : Job) → Contains (job ∷ queue.items) it → Contains old.jobs.items it =
    (λ it there. subst (λ (js : List Job). Contains js it) (sym takes.before) (moved_back front back job it (subst (λ (js : List Job). Contains (job ∷ js) it) takes.after there))) in
    record {
      of_setting = going.of_setting;
      stage = going.stage;
      on = going.on;
      agrees = going.agrees;
      count = going.count;
      begun =
          subst (λ (js : List Job). AreBegun g going.stage (all_running (job ∷ js)) (pairs_made old.made.items)) (sym takes.after)
          (subst (λ (rs : List Running). AreBegun g going.stage (running_of job ∷ rs) (pairs_made old.made.items)) (sym (map-append running_of front back))
          (begun_moved g going.stage (all_running front) (all_running back) (running_of job) (pairs_made old.made.items)
          (subst (λ (rs : List Running). AreBegun g going.stage rs (pairs_made old.made.items)) (map_around running_of front back job)
          (subst (λ (js : List Job). AreBegun g going.stage (all_running js) (pairs_made old.made.items)) takes.before going.begun))));
      numbered = all_by (λ (j : Job). AreNumbered keys (world_of old.checks) j.pair j.imports.items) old.jobs.items (job ∷ queue.items) within going.numbered;
      made = going.made;
      tallied = going.tallied;
      started = all_by (HasToldStart g told) old.jobs.items (job ∷ queue.items) within going.started;
      checked = going.checked;
      numbers = going.numbers;
    }
