-- Wrong rows of a build, however many targets it has and however many checks it started: what is written although it is to
-- be cancelled, and what is written as if it were to be, although no request is.
use Rattle.std.proofs.Common.{◌≡◌, ◌≢◌, ◌⊎◌, ⊎_elim, ◌++◌, ◌<◌, ◌^◌, ℕ, ℤ, List, [], ◌∷◌, length, append-nil, Bool, true, false, Contains, Option, Some, None, refl, sym, ap, subst, ◌∙◌}
use Rattle.std.specs.List.{list_any}
use Rattle.std.specs.Prelude.{codes, option_and_then}
use Rattle.std.proofs.lemmas.Bool.{false≢true}
use Rattle.std.proofs.lemmas.List.Elements.{All-append, All-contains, Contains-append_right}
use Rattle.std.proofs.lemmas.Option.{none-some}
use Rattle.bsp_records.specs.Results.{compile_result_data}
use Rattle.bsp_records.specs.Tasks.{compile_report_data}
use Rattle.bsp_records.specs.declared.publishing.PublishDiagnosticsParams.{PublishDiagnosticsParams}
use Rattle.bsp_records.specs.declared.results.StatusCode.{StatusCode}
use Rattle.bsp_records.specs.declared.results.StatusCode.TheVariants as statuses
use Rattle.bsp_records.specs.declared.tasks.CompileReport.{CompileReport}
use Rattle.bsp_records.specs.declared.tasks.TaskStartParams.{TaskStartParams}
use Rattle.rpc_peer.specs.OpenIds.{same_id}
use Rattle.rpc_peer.specs.Said.{Said, notification, result, failure}
use Rattle.rpc_peer.specs.declared.message.Id.{Id}
use Rattle.serde_json.specs.Data.{Data}
use Rattle.serde_json.specs.Find.{get}
use Rattle.cancel_rows.proofs.Courses.{cancel_all, course_all}
use Rattle.cancel_rows.proofs.Next.{by_build_mark, by_mark, next_is, written_gives_up}
use Rattle.cancel_rows.proofs.Status.{CancelsNone, answers_differ, build_cancels_none, check_cancels_none, start_cancels_none, target_cancels_none, telling_cancels_none}
use Rattle.session_law.proofs.CancelLaws.{IsCancel, IsOfCancel, all_of_cancel}
use Rattle.session_law.proofs.ClosureLaws.{IdsDiffer}
use Rattle.session_law.proofs.EndLaws.{one_documents}
use Rattle.session_law.proofs.ListLaws.{contains_first}
use Rattle.session_law.proofs.OpenLaws.{all_left}
use Rattle.session_law.proofs.RequestLaws.{same_id_refl}
use Rattle.session_law.proofs.StartLaws.{NumbersFit}
use Rattle.session_law.proofs.TaskLaws.{params_named, same_checking, same_finishes}
use Rattle.session_law.specs.Builds.{AreDocuments, build_said, build_status, cancelled_said, has_error, publication_said}
use Rattle.session_law.specs.Cancelling.{IsCancelledBy}
use Rattle.session_law.specs.Course.{Given}
use Rattle.session_law.specs.If.{If}
use Rattle.session_law.specs.Lawful.{GoesOn, GoesOnOrCancels, WriteAllowed}
use Rattle.session_law.specs.Open.{working_on}
use Rattle.session_law.specs.Order.{Event}
use Rattle.session_law.specs.Past.{after}
use Rattle.session_law.specs.Requests.{Asked, active_of, first_marked}
use Rattle.session_law.specs.ShowsOldOrNew.{ShowsEither, ShowsEitherFor, ShowsFound, ShowsSame}
use Rattle.session_law.specs.TakesUpInOrder.{AnswersBuild, AnswersFor}
use Rattle.session_law.specs.Tasks.{build_finishes, check_finishes, check_starts, checking, finish_said, start_said, target_cancelled, target_finishes, task_id}
use Rattle.session_law.specs.TasksInOrder.{IsGivenBy, TellsFor, TellsNext}
use Rattle.session_law.specs.declared.BuildDocument.{BuildDocument}

-- ---- reports

-- the report that a finish tells
abbrev report_in : Said → Option Data
report_in m = option_and_then (λ params. get (codes "data") params) (params_named (codes "build/taskFinish") m)

abbrev ReportsNone : Said → Type 0
ReportsNone m = report_in m ≡ None

report_told : (n i : ℕ) (report : CompileReport) → report_in (target_finishes n i report) ≡ Some (compile_report_data report)
unfolding finish_said
report_told n i report = refl

start_reports_none : (p : TaskStartParams) → ReportsNone (start_said p)
unfolding start_said
start_reports_none p = refl

check_reports_none : (n j i : ℕ) (status : StatusCode) → ReportsNone (check_finishes n j i status)
unfolding finish_said
check_reports_none n j i status = refl

target_reports_none : (n i : ℕ) → ReportsNone (target_cancelled n i)
unfolding finish_said
target_reports_none n i = refl

build_reports_none : (n : ℕ) (status : StatusCode) → ReportsNone (build_finishes n status)
unfolding finish_said
build_reports_none n status = refl

-- ---- the build at the head is to be cancelled

module _ (past : List Event) (g : Given) (others : List Asked) (open_is : (after past).requests ≡ working_on g true ∷ others) where
  -- whatever notification is written is one of its cancel
  of_cancel : (method : List ℕ) (params : Option Data) → WriteAllowed (after past) (notification method params) → IsOfCancel (notification method params)
  of_cancel method params allowed =
      let m = notification method params in
      let owed = by_build_mark (after past) g others m open_is allowed in
      All-contains IsOfCancel (owed.before ++ m ∷ owed.rest) m (all_of_cancel owed.cancels)
      (Contains-append_right owed.before (m ∷ owed.rest) m (contains_first m owed.rest))

  -- A check of it finishes with status 1 or 2.
  pub not_a_check_with_its_own_status : (check target : ℕ) (failed : Bool) → WriteAllowed (after past) (check_finishes g.active.number check target (build_status failed)) → ⊥
  unfolding finish_said
  not_a_check_with_its_own_status check target failed allowed =
      check_cancels_none g.active.number check target failed (of_cancel _ _ allowed).cancels

  -- A target of it is reported.
  pub not_a_target_reported : (target : ℕ) (report : CompileReport) → WriteAllowed (after past) (target_finishes g.active.number target report) → ⊥
  unfolding finish_said
  not_a_target_reported target report allowed = target_cancels_none g.active.number target report (of_cancel _ _ allowed).cancels

  -- It finishes with status 1 or 2.
  pub not_the_build_with_its_own_status : (failed : Bool) → WriteAllowed (after past) (build_finishes g.active.number (build_status failed)) → ⊥
  unfolding finish_said
  not_the_build_with_its_own_status failed allowed = build_cancels_none g.active.number failed (of_cancel _ _ allowed).cancels

  -- One more check starts.
  pub not_a_check_started : (check target : ℕ) (document : List ℕ) → WriteAllowed (after past) (check_starts g.active.number check target document) → ⊥
  unfolding start_said
  not_a_check_started check target document allowed =
      start_cancels_none (record { task_id = task_id g.active.number (checking check target); message = Some document; body = None }) (of_cancel _ _ allowed).cancels

  -- A list is published behind its cancel.
  pub not_published : (published : PublishDiagnosticsParams) → WriteAllowed (after past) (publication_said published) → ⊥
  not_published published allowed = false≢true (sym (of_cancel _ _ allowed).tells.no_publication)

  -- It is refused.
  pub not_refused : (id : Option Id) (code : ℤ) (text : List ℕ) → WriteAllowed (after past) (failure id code text) → ⊥
  unfolding cancelled_said
  not_refused id code text allowed =
      let is = (by_build_mark (after past) g others (failure id code text) open_is allowed).1 in
      absurd (cc)

  -- Of two that are to be cancelled the second is answered first.
  pub not_another_answered : (id : Id) (value : Data) → same_id id g.active.id ≡ false → WriteAllowed (after past) (result (Some id) value) → ⊥
  unfolding cancelled_said
  not_another_answered id value other allowed =
      let is = (by_build_mark (after past) g others (result (Some id) value) open_is allowed).1 in
      let same : id ≡ g.active.id = cc in
      false≢true (sym other ∙ (ap (λ i. same_id i g.active.id) same ∙ same_id_refl g.active.id))

  -- It is answered while a client shows of one of its documents neither what it showed as the documents were handed out
  -- nor what the clean build finds: so a part of a list was published.
  pub not_answered_behind_a_part : (documents : List BuildDocument) (document : BuildDocument) → AreDocuments g.active.build documents → Contains documents document
      → (ShowsFound g.active (after past).table document → ⊥) → (ShowsSame (after past).table (after past).table_at_hand document → ⊥)
      → WriteAllowed (after past) (cancelled_said g.active.id g.active.build.origin) → ⊥
  unfolding cancelled_said
  not_answered_behind_a_part documents document are there unfound changed allowed =
      let answer : Said = cancelled_said g.active.id g.active.build.origin in
      let shows : ShowsEither g.active (after past).table_at_hand (after past).table =
      subst (λ same. If same (ShowsEither g.active (after past).table_at_hand (after past).table)) (same_id_refl g.active.id)
      (subst (λ requests. ShowsEitherFor answer (active_of requests) (after past)) open_is
      (by_mark (after past) (working_on g true) answer (ap first_marked open_is) allowed).old_or_new) in
      ⊎_elim unfound changed
      (All-contains (λ d. ShowsFound g.active (after past).table d ⊎ ShowsSame (after past).table (after past).table_at_hand d) shows.documents document shows.each
      (subst (λ ds. Contains ds document) (one_documents g.active.build documents shows.documents are shows.of_build) there))

  -- Its cancel was taken although a target had been reported since its documents were handed out: nothing may be written
  -- any more. So a build that reports is answered before the next body is taken.
  pub nothing_behind_a_report : (n target : ℕ) (report : CompileReport) → Contains (after past).notices (target_finishes n target report)
      → (m : Said) → WriteAllowed (after past) m → ⊥
  nothing_behind_a_report n target report reported m allowed =
      let owed = written_gives_up (after past) g others m open_is allowed in
      none-some (compile_report_data report)
      (sym (All-contains ReportsNone (owed.course ++ owed.before) (target_finishes n target report)
      (All-append ReportsNone owed.course owed.before
      (course_all ReportsNone start_reports_none (λ params. refl) (λ n j i failed. check_reports_none n j i (build_status failed)) owed.cancels.course)
      (all_left ReportsNone owed.before owed.rest (cancel_all ReportsNone (λ n j i. check_reports_none n j i statuses.Cancelled) target_reports_none (λ n. build_reports_none n statuses.Cancelled) owed.cancels)))
      (subst (λ ms. Contains ms (target_finishes n target report)) owed.told reported))
      ∙ report_told n target report)

  -- Another check finishes as cancelled than the first that is out: one that started later, or one that has finished.
  pub not_another_check_first : IsGivenBy g.active (after past) g → IdsDiffer g.active → NumbersFit g.active → (told rest : List Said) (check target : ℕ) → (after past).notices ≡ told
      → (by : IsCancelledBy g told (check_finishes g.active.number check target statuses.Cancelled ∷ rest)) → length by.stage.begun < 2 ^ 64
      → (other i : ℕ) → check < 2 ^ 64 → other < 2 ^ 64 → other ≢ check → WriteAllowed (after past) (check_finishes g.active.number other i statuses.Cancelled) → ⊥
  not_another_check_first by_build differ fit told rest check target told_is by few other i small small' apart allowed =
      let first : Said = check_finishes g.active.number check target statuses.Cancelled in
      let same = next_is past g others open_is by_build differ fit told (first ∷ rest) by few [] (first ∷ rest) (told_is ∙ sym (append-nil told)) refl
      (check_finishes g.active.number other i statuses.Cancelled) allowed in
      apart
      (same_checking g.active.number other check small' small
      (same_finishes g.active.number other i g.active.number check target statuses.Cancelled statuses.Cancelled same))

-- ---- no request is to be cancelled

module _ (past : List Event) (g : Given) (others : List Asked) (open_is : (after past).requests ≡ working_on g false ∷ others) (none : first_marked others ≡ None) where
  goes_on : (m : Said) → WriteAllowed (after past) m → GoesOn (after past) m
  goes_on m allowed = subst (λ o. GoesOnOrCancels o (after past) m) (ap first_marked open_is ∙ none) allowed.by_marks

  -- nothing that is told finishes a task as cancelled
  none_cancels : (method : List ℕ) (params : Option Data) → WriteAllowed (after past) (notification method params) → IsCancel (notification method params) → ⊥
  none_cancels method params allowed =
      let m = notification method params in
      let told : TellsNext g.active (after past) m =
      subst (λ requests. TellsFor m (active_of requests) (after past)) open_is (goes_on m allowed).tasks in
      All-contains CancelsNone told.course m (telling_cancels_none told.tells)
      (subst (λ ms. Contains ms m) (sym told.next) (Contains-append_right (after past).notices (m ∷ told.rest) m (contains_first m told.rest)))

  -- A check finishes as cancelled.
  pub not_a_check_without_cause : (check target : ℕ) → WriteAllowed (after past) (check_finishes g.active.number check target statuses.Cancelled) → ⊥
  unfolding finish_said
  not_a_check_without_cause check target allowed = none_cancels _ _ allowed refl

  -- A target finishes as cancelled.
  pub not_a_target_without_cause : (target : ℕ) → WriteAllowed (after past) (target_cancelled g.active.number target) → ⊥
  unfolding finish_said
  not_a_target_without_cause target allowed = none_cancels _ _ allowed refl

  -- The build finishes as cancelled.
  pub not_the_build_without_cause : WriteAllowed (after past) (build_finishes g.active.number statuses.Cancelled) → ⊥
  unfolding finish_said
  not_the_build_without_cause allowed = none_cancels _ _ allowed refl

  -- The build is answered as cancelled.
  pub not_answered_without_cause : (origin : Option (List ℕ)) → WriteAllowed (after past) (cancelled_said g.active.id origin) → ⊥
  unfolding build_said cancelled_said
  not_answered_without_cause origin allowed =
      let value : Data = compile_result_data (record { origin_id = origin; status_code = statuses.Cancelled }) in
      let answers : AnswersBuild g.active value =
      subst (λ same. If same (AnswersBuild g.active value)) (same_id_refl g.active.id)
      (subst (λ requests. AnswersFor (cancelled_said g.active.id origin) (active_of requests)) open_is
      (goes_on (cancelled_said g.active.id origin) allowed).in_order) in
      answers_differ g.active.id g.active.id g.active.build.origin origin (list_any has_error answers.findings)
      (ap (λ v. result (Some g.active.id) v) (sym answers.value_is))
