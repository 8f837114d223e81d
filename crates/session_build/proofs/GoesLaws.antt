-- Steps of a build that goes on, whatever its course: each tells something behind other messages, and they go one behind the
-- other.
use Rattle.std.proofs.Common.{◌≡◌, ◌++◌, ℕ, List, [], ◌∷◌, length, get_or, Bool, true, false, Option, refl, ap, sym, subst, append_assoc}
use Rattle.std.specs.Prelude.{Vec}
use Rattle.std.specs.declared.alloc.Global.{Global}
use Rattle.std.specs.List.{All, Contains}
use Rattle.std.proofs.lemmas.List.{append-nil}
use Rattle.std.proofs.lemmas.List.Elements.{All-append, All-cons, All-contains, All-nil}
use Rattle.bsp_records.specs.Table.{Table}
use Rattle.build_checks.proofs.KeptLaws.{AreApart}
use Rattle.build_checks.specs.Kept.{AreNumbered, IsKept}
use Rattle.build_checks.specs.Looked.{IsFound, IsLacked}
use Rattle.build_checks.specs.Numbers.{AreNumbersOf}
use Rattle.build_checks.specs.Stand.{CanBeTaken, modules_of, settled_of, taken_of, world_of}
use Rattle.build_checks.specs.Work.{IsWorkOf}
use Rattle.build_checks.specs.declared.checks.Checks.{Checks}
use Rattle.build_rules.specs.Locality.{IsApart}
use Rattle.build_rules.specs.World.{World}
use Rattle.check_cache.specs.Facts.{FactTree, IsFact}
use Rattle.check_cache.specs.declared.cache.Cache.{Cache}
use Rattle.ob_text.specs.declared.diagnostic.Diagnostic.{Diagnostic}
use Rattle.rpc_peer.specs.Said.{Said}
use Rattle.session_law.proofs.BareLaws.{bare_publication, bare_start}
use Rattle.session_law.proofs.ListLaws.{contains_first}
use Rattle.session_law.specs.Builds.{build_document, build_status, has_error}
use Rattle.session_law.specs.IsFramed.{IsFramed}
use Rattle.session_law.specs.Tasks.{check_finishes, check_starts}
use Rattle.session_law.specs.Verdicts.{FinishesOneFirst, IsBare}
use Rattle.session_law.specs.declared.BuildDocument.{BuildDocument}
use Rattle.session_build.specs.Building.{IsNotice}
use Rattle.session_build.specs.Going.{Begins, Goes, GoesBy, GoesOnBy, IsGoing, IsGoingWith, SettlesBy, TakesOut}
use Rattle.build_messages.specs.Publishing.{IsPublishedOne}
use Rattle.session_build.specs.Setting.{IsSetting}
use Rattle.session_build.specs.Telling.{TellsBehind}
use Rattle.session_build.specs.declared.going.Going.{Going}
use Rattle.session_build.specs.declared.going.Job.{Job}
use Rattle.session_build.specs.declared.going.Made.{Made}
use Rattle.session_build.specs.declared.setting.Setting.{Setting}
use Rattle.session_build.proofs.CourseSteps.{finish_told, start_told, told_publication}
use Rattle.session_build.proofs.FinishLaws.{finish_goes}
use Rattle.session_build.proofs.GoingLaws.{Came, idle_goes, job_first, once_in}
use Rattle.session_build.proofs.HitLaws.{hit_goes}
use Rattle.session_build.proofs.MissLaws.{miss_goes}
use Rattle.session_build.proofs.Moved.{moved_back}
use Rattle.session_build.proofs.RememberLaws.{remembers_on}
use Rattle.session_build.proofs.TellLaws.{tells_none, tells_on}
use Rattle.worker_pool.specs.Jobs.{CheckTree}

pub published_tells : (old new : Table) (it : BuildDocument) (origin : Option (List ℕ)) (list : List Diagnostic) (before after : List Said) (failed : Bool)
    → (one : IsPublishedOne old new it origin list before after failed) → TellsBehind one.own before after
published_tells old new it origin list before after failed one = record {
  are = one.messages;
  framed = one.framed;
  notices = λ k d h. told_publication (get_or one.own k d) (one.notices k d h);
}

-- one message alone
pub tells_one : (m : Said) (before after : List Said) → after ≡ before ++ m ∷ [] → IsFramed m → IsNotice m → TellsBehind (m ∷ []) before after
tells_one m before after is framed notice =
    record { are = is; framed = All-cons IsFramed m [] framed (All-nil IsFramed); notices = All-cons IsNotice m [] notice (All-nil IsNotice) }

-- ---- single steps

module _ (at : Setting) (cache : Cache) (old : Going) (c : Checks) (before : List Said) (keys : List (List ℕ)) (table : Table) (world : world_of c ≡ world_of old.checks)
    (modules : modules_of c ≡ modules_of old.checks) (taken : taken_of c ≡ taken_of old.checks) (settled : settled_of c ≡ settled_of old.checks)
    (numbers : AreNumbersOf keys old.checks → AreNumbersOf keys c) where
  pub goes_idle : Goes at cache old (record old { checks = c }) before before keys keys table table
  goes_idle = record {
    own = [];
    tells = tells_none before before refl;
    bare = All-nil IsBare;
    more = λ m k is. is;
    on = λ g told remembers going.
        subst (λ (ts : List Said). IsGoing g at (record old { checks = c }) ts keys table) (sym (append-nil told))
        (idle_goes at g old c told keys table world modules taken settled numbers going);
  }

module _ (at : Setting) (is : IsSetting at) (cache : Cache) (old new : Going) (c : Checks) (pair : ℕ) (before after : List Said) (keys later : List (List ℕ)) (table shown : Table)
    (came : Came old.checks c pair) (apart : AreApart keys) (imports : List (List ℕ × ℕ)) (numbered : (ks : List (List ℕ)) → AreNumbersOf ks c → AreNumbered ks (world_of c) pair imports) where
  pub goes_hit : (fact : FactTree) → IsFact fact → IsFound cache (world_of c) pair imports fact → length old.tallies.items ≡ length at.documents
      → SettlesBy at (record old { checks = c }) new pair false fact keys later table shown before after → Goes at cache old new before after keys later table shown
  goes_hit fact is_fact found sized settles = record {
    own = settles.published.own;
    tells = published_tells table shown (build_document at.workspace.value pair) at.origin.value fact.checked.list.items before after settles.failed settles.published;
    bare = λ k d h. bare_publication (get_or settles.published.own k d) (settles.published.notices k d h);
    more = settles.more;
    on = λ g told remembers going.
        hit_goes at is cache g old new c pair told before after keys later table shown came apart imports numbered fact is_fact found sized settles remembers going;
  }

  pub goes_miss : IsLacked cache (world_of c) pair imports → Begins at (record old { checks = c }) new pair imports before after → Goes at cache old new before after keys keys table table
  goes_miss lacked begins =
      let start : Said = check_starts at.number begins.job.number begins.job.target (build_document at.workspace.value pair).key.document in
      record {
        own = start ∷ [];
        tells = tells_one start before after begins.messages begins.framed (start_told _);
        bare = All-cons IsBare start [] (bare_start _) (All-nil IsBare);
        more = λ m k is. is;
        on = λ g told remembers going. miss_goes at is cache g old new c pair told before after keys table came apart imports numbered lacked begins remembers going;
      }

module _ (at : Setting) (is : IsSetting at) (old mid : Going) (job : Job) (before queued after : List Said) (made : Vec Made Global) (keys later : List (List ℕ)) (table shown : Table)
    (none : (p : ℕ) → ¬ (CanBeTaken old.checks p)) (fact : FactTree) (is_fact : IsFact fact) where
  abbrev finish : Said
  finish =
      check_finishes at.number job.number job.target (build_status (has_error (record { document = build_document at.workspace.value job.pair; list = fact.checked.list.items })))

  pub goes_by : queued ≡ before ++ finish ∷ [] → IsFramed finish → length old.tallies.items ≡ length at.documents
      → SettlesBy at old mid job.pair true fact keys later table shown queued after → made.items ≡ mid.made.items ++ record { pair = job.pair; fact = fact } ∷ []
      → GoesBy at job fact old (record mid { made = made }) before after keys later table shown
  goes_by finishes framed sized settles made_is = record {
    own = finish ∷ settles.published.own;
    tells =
        tells_on (finish ∷ []) settles.published.own before queued after (tells_one finish before queued finishes framed (finish_told _))
        (published_tells table shown (build_document at.workspace.value job.pair) at.origin.value fact.checked.list.items queued after settles.failed settles.published);
    one = record {
      number = at.number;
      check = job.number;
      target = job.target;
      status = build_status (has_error (record { document = build_document at.workspace.value job.pair; list = fact.checked.list.items }));
      others = settles.published.own;
      are = refl;
      bare = λ k d h. bare_publication (get_or settles.published.own k d) (settles.published.notices k d h);
    };
    more = settles.more;
    on = λ g told kept going.
        finish_goes at is g old mid job told queued after made keys later table shown none fact is_fact kept framed sized settles made_is going;
  }

-- ---- one behind the other

-- where one check finishes first, it still does so with more behind, by which none does
pub one_first : (before later : List Said) → FinishesOneFirst before → All IsBare later → FinishesOneFirst (before ++ later)
one_first before later first bare = record {
  number = first.number;
  check = first.check;
  target = first.target;
  status = first.status;
  others = first.others ++ later;
  are = ap (λ ms. ms ++ later) first.are;
  bare = All-append IsBare first.others later first.bare bare;
}

-- nothing was done yet
pub goes_start : (at : Setting) (cache : Cache) (a : Going) (before : List Said) (keys : List (List ℕ)) (table : Table) → Goes at cache a a before before keys keys table table
goes_start at cache a before keys table = record {
  own = [];
  tells = tells_none before before refl;
  bare = All-nil IsBare;
  more = λ m k is. is;
  on = λ g told remembers going. subst (λ (ts : List Said). IsGoing g at a ts keys table) (sym (append-nil told)) going;
}

pub goes_on : (at : Setting) (cache : Cache) (a b c : Going) (first then last : List Said) (early mid late : List (List ℕ)) (old now new : Table)
    → Goes at cache a b first then early mid old now → Goes at cache b c then last mid late now new → Goes at cache a c first last early late old new
goes_on at cache a b c first then last early mid late old now new one other = record {
  own = one.own ++ other.own;
  tells = tells_on one.own other.own first then last one.tells other.tells;
  bare = All-append IsBare one.own other.own one.bare other.bare;
  more = λ m k is. other.more m k (one.more m k is);
  on = λ g told remembers going.
      subst (λ (ts : List Said). IsGoing g at c ts late new) (append_assoc told one.own other.own)
      (other.on g (told ++ one.own) (remembers_on early mid one.more at.workspace.value g.earlier cache remembers) (one.on g told remembers going));
}

-- the check with this number is taken out and finishes, and then the build goes on
pub outcome_goes : (at : Setting) → IsSetting at → (cache : Cache) (number : ℕ) (work : CheckTree) (fact : FactTree) (old without finished new : Going) (job : Job) (first then last : List Said)
    (early mid late : List (List ℕ)) (t u v : Table) → (world_of old.checks).targets ≡ at.workspace.value.targets
    → ((keys : List (List ℕ)) (w : World) (p : ℕ) → IsApart w → IsWorkOf w p work → AreNumbered keys w p job.imports.items → IsKept keys w p fact)
    → TakesOut old.jobs.items without.jobs.items job → without ≡ record old { jobs = without.jobs } → job.number ≡ number
    → GoesBy at job fact without finished first then early mid t u → Goes at cache finished new then last mid late u v
    → GoesOnBy at cache number work old new first last early late t v
outcome_goes at is cache number work fact old without finished new job first then last early mid late t u v space made takes others number_is one other = record {
  own = one.own ++ other.own;
  tells = tells_on one.own other.own first then last one.tells other.tells;
  one = one_first one.own other.own one.one other.bare;
  more = λ m k is. other.more m k (one.more m k is);
  on = λ g told remembers found going.
      (let among : Contains old.jobs.items job =
      subst (λ (js : List Job). Contains js job) (sym takes.before) (moved_back takes.front takes.back job job (contains_first job (takes.front ++ takes.back))) in
      let numbered : AreNumbered early (world_of old.checks) job.pair job.imports.items =
      All-contains (λ (j : Job). AreNumbered early (world_of old.checks) j.pair j.imports.items) old.jobs.items job going.numbered among in
      let kept : IsKept early (world_of without.checks) job.pair fact =
      subst (λ (x : Going). IsKept early (world_of x.checks) job.pair fact) (sym others)
      (made early (world_of old.checks) job.pair (once_in at is (world_of old.checks) space) (found job.pair (record { job = job; there = among; number_is = number_is; pair_is = refl })) numbered) in
      let beside : IsGoingWith g at without (job ∷ without.jobs.items) told early t =
      subst (λ (x : Going). IsGoingWith g at x (job ∷ without.jobs.items) told early t) (sym others) (job_first g at old without.jobs job told early t takes going) in
      subst (λ (ts : List Said). IsGoing g at new ts late v) (append_assoc told one.own other.own)
      (other.on g (told ++ one.own) (remembers_on early mid one.more at.workspace.value g.earlier cache remembers) (one.on g told kept beside)));
}
