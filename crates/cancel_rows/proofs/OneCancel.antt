-- A build is cancelled in one way: what it told says which messages are told by its cancel, and in which order.
use Rattle.std.proofs.Common.{◌≡◌, ◌⊎◌, inl, inr, ◌++◌, ◌+◌, ◌<◌, ◌^◌, ℕ, suc, List, [], ◌∷◌, length, filter, Bool, cond, All, Contains, Some, refl, sym, ap, subst, ◌∙◌, arith, slice_get}
use Rattle.std.specs.Prelude.{is_some}
use Rattle.std.proofs.lemmas.List.{length-append}
use Rattle.std.proofs.lemmas.List.Elements.{All-cons, All-head, All-tail, filter-append}
use Rattle.std.proofs.lemmas.Option.{same_Some, slice_get_within}
use Rattle.bsp_records.specs.declared.results.StatusCode.TheVariants as statuses
use Rattle.rpc_peer.specs.Said.{Said}
use Rattle.target_graph.specs.Workspace.{IsClosure}
use Rattle.cancel_rows.proofs.Courses.{all_published}
use Rattle.session_law.proofs.CancelLaws.{IsFinishedAt, IsStartedAt, finished_at, started_at}
use Rattle.session_law.proofs.ClosureLaws.{IdsDiffer, one_closure, one_number}
use Rattle.session_law.proofs.CourseLaws.{IsBegun, IsFinished, OnePair, begun_told, checked_told, one_pair}
use Rattle.session_law.proofs.EndLaws.{one_documents}
use Rattle.session_law.proofs.PublishedLaws.{IsPublication, all_publications}
use Rattle.session_law.proofs.StartLaws.{NumbersFit, StartsNone, none_starts}
use Rattle.session_law.proofs.TaskLaws.{check_finishes_in, check_starts_in, same_checking, start_in}
use Rattle.session_law.specs.Builds.{AreDocuments, build_status, has_error, table_behind}
use Rattle.session_law.specs.Cancelling.{ChecksCancelled, IsCancelledBy, IsUnfinished, cancelled, finished, none, targets_cancelled}
use Rattle.session_law.specs.Course.{AreGiven, Course, Given, Stage, all_start, begins, checked, known, pairs_in, starts}
use Rattle.session_law.specs.History.{IsTaskOf}
use Rattle.session_law.specs.Past.{Now}
use Rattle.session_law.specs.Requests.{Active}
use Rattle.session_law.specs.Tasks.{build_finishes, check_finishes, check_starts, checking_name}
use Rattle.session_law.specs.TasksInOrder.{IsGivenBy}
use Rattle.session_law.specs.declared.BuildDocument.{BuildDocument}

-- ---- a build goes by one course's givens

pub one_given : (active : Active) (now : Now) (g h : Given) → IsGivenBy active now g → IsGivenBy active now h → g ≡ h
one_given active now g h first second =
    let same : g.active ≡ h.active = first.active_is ∙ sym second.active_is in
    let documents : g.documents ≡ h.documents =
    one_documents g.active.build g.documents h.documents first.are.documents
    (subst (λ (a : Active). AreDocuments a.build h.documents) (sym same) second.are.documents) in
    let closure : g.closure ≡ h.closure =
    one_closure g.active.build.space.targets g.active.build.asked g.closure h.closure first.are.closed
    (subst (λ (a : Active). IsClosure a.build.space.targets a.build.asked h.closure) (sym same) second.are.closed) in
    let earlier : g.earlier ≡ h.earlier = first.earlier_is ∙ sym second.earlier_is in
    let table : g.table ≡ h.table = first.table_is ∙ sym second.table_is in
    (λ i. record { active = same i; documents = documents i; closure = closure i; earlier = earlier i; table = table i })

-- ---- how many checks started

abbrev starts_check : Said → Bool
starts_check m = is_some (start_in m)

abbrev count_starts : List Said → ℕ
count_starts messages = length (filter starts_check messages)

no_starts : (messages : List Said) → All StartsNone messages → count_starts messages ≡ 0
no_starts [] all = refl
no_starts (m ∷ messages) all =
    ap (λ s. length (cond (is_some s) (m ∷ filter starts_check messages) (filter starts_check messages))) (All-head StartsNone m messages all)
    ∙ no_starts messages (All-tail StartsNone m messages all)

count_behind : (messages more : List Said) → count_starts (messages ++ more) ≡ count_starts messages + count_starts more
count_behind messages more = ap length (filter-append starts_check messages more) ∙ length-append (filter starts_check messages) (filter starts_check more)

publications_start_none : (messages : List Said) → All IsPublication messages → All StartsNone messages
publications_start_none messages all = all_published StartsNone (λ params. refl) messages all

pub starts_counted : {g : Given} {s : Stage} {messages : List Said} → Course g s messages → count_starts messages ≡ length s.begun
starts_counted {g} starts = no_starts (all_start g) (none_starts g)
starts_counted {g} (known {messages = messages} finding own course next is_known settles) =
    let none : count_starts own ≡ 0 =
    no_starts own (publications_start_none own (all_publications (table_behind messages g.table) g.active.build.origin finding own settles.publishes)) in
    omega (arith, count_behind messages own, none, starts_counted course)
starts_counted {g} (begins {s = stage} {messages = messages} document i course next due task) =
    let start : Said = check_starts g.active.number (suc (length stage.begun)) i document.key.document in
    let one : count_starts (start ∷ []) ≡ 1 =
    ap (λ s. length (cond (is_some s) (start ∷ []) [])) (check_starts_in g.active.number (suc (length stage.begun)) i document.key.document).0 in
    omega (arith, count_behind messages (start ∷ []), one, length-append stage.begun (document.pair ∷ []), starts_counted course)
starts_counted {g} (checked {messages = messages} finding j i own course waiting runs task settles) =
    let finish : Said = check_finishes g.active.number j i (build_status (has_error finding)) in
    let none : count_starts (finish ∷ own) ≡ 0 =
    no_starts (finish ∷ own)
    (All-cons StartsNone finish own (check_finishes_in g.active.number j i (build_status (has_error finding))).0
    (publications_start_none own (all_publications (table_behind (messages ++ finish ∷ []) g.table) g.active.build.origin finding own settles.publishes))) in
    omega (arith, count_behind messages (finish ∷ own), none, starts_counted course)

-- ---- two stages of a build that told the same

-- of a check the two say the same
record Agree (g : Given) (s t : Stage) (p q : ℕ) : Type 0 where
  forth : Contains (pairs_in s.settled) p → Contains (pairs_in t.settled) q
  back : Contains (pairs_in t.settled) q → Contains (pairs_in s.settled) p
  task : (i j : ℕ) → IsUnfinished g s p i → IsUnfinished g t q j → i ≡ j

suc_same : {a b : ℕ} → suc a ≡ suc b → a ≡ b
suc_same same = omega (arith, same)

module _ {g : Given} {s t : Stage} {told : List Said} (first : Course g s told) (second : Course g t told) (are : AreGiven g) (differ : IdsDiffer g.active) (few : length s.begun < 2 ^ 64) where
  one : OnePair g.documents
  one = one_pair g.active.build g.documents are.documents

  pub as_many : length s.begun ≡ length t.begun
  as_many = sym (starts_counted first) ∙ starts_counted second

  -- the check with this number stands in this place in both
  same_place : (j k q : ℕ) → slice_get t.begun j ≡ Some q → k < length s.begun → checking_name g.active.number (suc j) ≡ checking_name g.active.number (suc k) → j ≡ k
  same_place j k q at within name =
      suc_same
      (same_checking g.active.number (suc j) (suc k)
      (omega (arith, few, as_many, slice_get_within t.begun j q at)) (omega (arith, few, within)) name)

  pub settled_too : (k p q : ℕ) → slice_get s.begun k ≡ Some p → slice_get t.begun k ≡ Some q → Contains (pairs_in s.settled) p → Contains (pairs_in t.settled) q
  settled_too k p q at at' settled =
      let told_so : IsFinished g told k p = checked_told first one differ k p at settled in
      let there : IsFinishedAt g t (suc k) = finished_at second (suc k) told_so.begun.i told_so.failed told_so.finished in
      let place : there.before ≡ k = same_place there.before k there.pair there.at (slice_get_within s.begun k p at) there.name_is in
      subst (λ r. Contains (pairs_in t.settled) r) (same_Some there.pair q (sym there.at ∙ (ap (slice_get t.begun) place ∙ at'))) there.settled

  pub same_task : NumbersFit g.active → (k p q : ℕ) → slice_get s.begun k ≡ Some p → slice_get t.begun k ≡ Some q
      → (i j : ℕ) → IsUnfinished g s p i → IsUnfinished g t q j → i ≡ j
  same_task fit k p q at at' i j out out' =
      let begun : IsBegun g told k p = begun_told first k p at in
      let there : IsStartedAt g t.begun (suc k) begun.i begun.document.key.document =
      started_at second fit (suc k) begun.i begun.document.key.document (fit begun.document.key.target begun.i begun.of_target) begun.started in
      let place : there.before ≡ k = same_place there.before k there.document.pair there.at (slice_get_within s.begun k p at) there.name_is in
      let pair : there.document.pair ≡ q = same_Some there.document.pair q (sym there.at ∙ (ap (slice_get t.begun) place ∙ at')) in
      let document : begun.document ≡ out.document = one begun.document out.document begun.there out.there (begun.pair_is ∙ sym out.pair_is) in
      let document' : there.document ≡ out'.document = one there.document out'.document there.there out'.there (pair ∙ sym out'.pair_is) in
      let number : i ≡ begun.i =
      one_number g.active out.document.key.target i begun.i differ out.of_target
      (subst (λ (d : BuildDocument). IsTaskOf g.active d.key.target begun.i) document begun.of_target) in
      let number' : j ≡ begun.i =
      one_number g.active out'.document.key.target j begun.i differ out'.of_target
      (subst (λ (d : BuildDocument). IsTaskOf g.active d.key.target begun.i) document' there.of_target) in
      number ∙ sym number'

-- ---- the checks that are cancelled

checks_none : {g : Given} {s : Stage} {before : ℕ} {messages : List Said} → ChecksCancelled g s before [] messages → messages ≡ []
checks_none (none before) = refl

-- the first check hasn't finished
record FirstIsOut (g : Given) (s : Stage) (before pair : ℕ) (others : List ℕ) (messages : List Said) : Type 0 where
  i : ℕ
  out : IsUnfinished g s pair i
  rest : List Said
  later : ChecksCancelled g s (suc before) others rest
  are : messages ≡ check_finishes g.active.number (suc before) i statuses.Cancelled ∷ rest

checks_cases : {g : Given} {s : Stage} {before pair : ℕ} {others : List ℕ} {messages : List Said} → ChecksCancelled g s before (pair ∷ others) messages
    → (Contains (pairs_in s.settled) pair × ChecksCancelled g s (suc before) others messages) ⊎ FirstIsOut g s before pair others messages
checks_cases (finished there later) = inl (there, later)
checks_cases (cancelled {messages = messages} i out later) = inr (record { i = i; out = out; rest = messages; later = later; are = refl })

module _ (g : Given) (s t : Stage) where
  same_checks : (before : ℕ) (begun others : List ℕ) → length begun ≡ length others
      → ((k p q : ℕ) → slice_get begun k ≡ Some p → slice_get others k ≡ Some q → Agree g s t p q)
      → (a b : List Said) → ChecksCancelled g s before begun a → ChecksCancelled g t before others b → a ≡ b
  same_checks before [] [] size each a b first second = checks_none first ∙ sym (checks_none second)
  same_checks before [] (q ∷ others) size each a b first second = absurd (omega (arith, size))
  same_checks before (p ∷ begun) [] size each a b first second = absurd (omega (arith, size))
  same_checks before (p ∷ begun) (q ∷ others) size each a b first second =
      by (checks_cases first) (checks_cases second)
      (λ c d later later'. same_checks (suc before) begun others (suc_same size) (λ k p' q' at at'. each (suc k) p' q' at at') c d later later')
    where
      agree : Agree g s t p q
      agree = each 0 p q refl refl

      by : (Contains (pairs_in s.settled) p × ChecksCancelled g s (suc before) begun a) ⊎ FirstIsOut g s before p begun a
          → (Contains (pairs_in t.settled) q × ChecksCancelled g t (suc before) others b) ⊎ FirstIsOut g t before q others b
          → ((c d : List Said) → ChecksCancelled g s (suc before) begun c → ChecksCancelled g t (suc before) others d → c ≡ d)
          → a ≡ b
      by (inl done) (inl done') rest = rest a b done.1 done'.1
      by (inl done) (inr out) rest = absurd (out.out.unsettled (agree.forth done.0))
      by (inr out) (inl done) rest = absurd (out.out.unsettled (agree.back done.0))
      by (inr out) (inr out') rest =
          let finish : ℕ → Said = λ i. check_finishes g.active.number (suc before) i statuses.Cancelled in
          let same : out.rest ≡ out'.rest = rest out.rest out'.rest out.later out'.later in
          let number : out.i ≡ out'.i = agree.task out.i out'.i out.out out'.out in
          out.are ∙ ((λ i. finish (number i) ∷ same i) ∙ sym out'.are)

-- ---- one cancel

pub one_cancel : (g : Given) (told cancels others : List Said) → AreGiven g → IdsDiffer g.active → NumbersFit g.active
    → (by : IsCancelledBy g told cancels) → length by.stage.begun < 2 ^ 64 → IsCancelledBy g told others → cancels ≡ others
one_cancel g told cancels others are differ fit by few other =
    let many : length by.stage.begun ≡ length other.stage.begun = as_many by.course other.course are differ few in
    let few' : length other.stage.begun < 2 ^ 64 = omega (arith, few, many) in
    let each : (k p q : ℕ) → slice_get by.stage.begun k ≡ Some p → slice_get other.stage.begun k ≡ Some q → Agree g by.stage other.stage p q = λ k p q at at'.
    record {
      forth = settled_too by.course other.course are differ few k p q at at';
      back = settled_too other.course by.course are differ few' k q p at' at;
      task = same_task by.course other.course are differ few fit k p q at at';
    } in
    let checks : by.checks ≡ other.checks = same_checks g by.stage other.stage 0 by.stage.begun other.stage.begun many each by.checks other.checks by.of_checks other.of_checks in
    by.are
    ∙ (ap (λ messages. messages ++ (targets_cancelled g 1 g.closure ++ build_finishes g.active.number statuses.Cancelled ∷ [])) checks
    ∙ sym other.are)
