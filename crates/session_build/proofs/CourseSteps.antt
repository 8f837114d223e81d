-- A course goes on: what is published and kept of it, one step after another.
use Rattle.std.proofs.Common.{◌≡◌, ◌≢◌, ◌++◌, ℕ, suc, List, [], ◌∷◌, length, get_or, map, Bool, true, false, Option, Some, None, refl, sym, ap, subst, ◌∙◌}
use Rattle.std.specs.List.{All, AllPairs, Contains}
use Rattle.std.proofs.lemmas.Bool.{false≢true}
use Rattle.std.proofs.lemmas.List.{append_assoc}
use Rattle.std.proofs.lemmas.List.Elements.{All-push, All-append, Contains-append_left, Contains-get_or, Contains-push}
use Rattle.std.proofs.lemmas.List.Sums.{fold-append}
use Rattle.bsp_records.specs.Table.{Table}
use Rattle.bsp_records.specs.declared.results.StatusCode.{StatusCode}
use Rattle.bsp_records.specs.declared.tasks.TaskFinishParams.{TaskFinishParams}
use Rattle.bsp_records.specs.declared.tasks.TaskStartParams.{TaskStartParams}
use Rattle.ob_text.specs.declared.diagnostic.Diagnostic.{Diagnostic}
use Rattle.rpc_peer.specs.Said.{Said, request, notification, result, failure}
use Rattle.session_law.specs.Builds.{Finding, IsFound, Shows, build_status, has_error, is_publication, shown_by, table_behind}
use Rattle.session_law.specs.Course.{Given, Stage, Course, IsNext, NoneIsNext, Runs, Settles, known, begins, checked, pairs_in, with_known, with_begun, with_checked}
use Rattle.session_law.specs.History.{Due, IsTaskOf, Known, world_in}
use Rattle.session_law.specs.IsFramed.{IsFramed}
use Rattle.session_law.specs.Past.{notice_in}
use Rattle.session_law.specs.Tasks.{check_starts, check_finishes, checking, start_said, finish_said, task_id}
use Rattle.session_law.specs.declared.BuildDocument.{BuildDocument}
use Rattle.session_law.proofs.StageLaws.{pairs_push}
use Rattle.session_law.proofs.TaskLaws.{TellsOfTask, finish_tells, start_tells}
use Rattle.build_messages.specs.Publishing.{IsPublishedOne}
use Rattle.session_build.specs.Stages.{IsOnCourse}
use Rattle.session_build.proofs.Members.{contains_map, one_of_image}
use Rattle.build_messages.proofs.Publications.{IsApart, apart_at, publishes_same, shows_on, table_same}
use Rattle.task_stream.specs.Showing.{is_at}

abbrev IsTold : Said → Type 0
IsTold m = notice_in m ≡ m ∷ []

-- ---- messages

pub told_publication : (m : Said) → is_publication m ≡ true → IsTold m
told_publication (notification method params) is = refl
told_publication (request id method params) is = absurd (false≢true is)
told_publication (result id value) is = absurd (false≢true is)
told_publication (failure id code text) is = absurd (false≢true is)

abbrev start_of : ℕ → ℕ → ℕ → List ℕ → TaskStartParams
start_of n j i document = record { task_id = task_id n (checking j i); message = Some document; body = None }

abbrev finish_of : ℕ → ℕ → ℕ → StatusCode → TaskFinishParams
finish_of n j i status = record { task_id = task_id n (checking j i); status = status; body = None }

pub start_told : (p : TaskStartParams) → IsTold (start_said p)
unfolding start_said
start_told p = refl

pub finish_told : (p : TaskFinishParams) → IsTold (finish_said p)
unfolding finish_said
finish_told p = refl

behind_more : (table : Table) (before own : List Said) → table_behind (before ++ own) table ≡ table_behind own (table_behind before table)
behind_more table before own = fold-append (λ shows m. shown_by m shows) table before own

-- ---- what is published of one document

-- the same goes behind other messages
pub published_behind : (old new : Table) (it : BuildDocument) (origin : Option (List ℕ)) (list : List Diagnostic) (before after : List Said) (failed : Bool) (told : List Said)
    → (one : IsPublishedOne old new it origin list before after failed) → IsPublishedOne old new it origin list told (told ++ one.own) failed
published_behind old new it origin list before after failed told one = record {
  own = one.own;
  publishes = one.publishes;
  messages = refl;
  framed = one.framed;
  notices = one.notices;
  kept = one.kept;
  shows = one.shows;
  elsewhere = one.elsewhere;
  failed_is = one.failed_is;
}

-- ---- documents apart

-- one that isn't settled is apart from those that are
pub apart_settled : (documents : List BuildDocument) (settled : List Finding) (it : BuildDocument) → AllPairs ◌≢◌ (map (λ (d : BuildDocument). d.key) documents)
    → All (λ (f : Finding). Contains documents f.document) settled → Contains documents it → ¬ (Contains (pairs_in settled) it.pair)
    → All (λ (f : Finding). IsApart it f.document) settled
apart_settled documents settled it distinct among there unsettled k d h =
    let f : Finding = get_or settled k d in
    apart_at it.key f.document.key
    (λ same. unsettled
    (subst (Contains (pairs_in settled)) (ap (λ (b : BuildDocument). b.pair) (sym (one_of_image (λ (b : BuildDocument). b.key) documents it f.document distinct there (among k d h) same)))
    (contains_map (λ (x : Finding). x.document.pair) settled f (Contains-get_or settled k d h))))

-- ---- one step

module _ (g : Given) (s : Stage) (before : List Said) (mid : Table) where
  -- what is published of a finding behind more messages, which show nothing
  settles : (messages : List Said) (finding : Finding) (new : Table) (after : List Said) (failed : Bool) → IsOnCourse g s before mid
      → (one : IsPublishedOne mid new finding.document g.active.build.origin finding.list messages after failed)
      → ((document target : List ℕ) → mid document target ≡ table_behind messages g.table document target)
      → Contains g.documents finding.document → IsFound (world_in g.active) finding → Settles g messages finding one.own
  settles messages finding new after failed on one kept there found = record {
    there = there;
    found = found;
    publishes = publishes_same mid (table_behind messages g.table) g.active.build.origin finding one.own kept one.publishes;
  }

  -- the table that is kept once a list was published
  kept_on : (messages after : List Said) (finding : Finding) (new : Table) (failed : Bool) → ((document target : List ℕ) → mid document target ≡ table_behind messages g.table document target)
      → (one : IsPublishedOne mid new finding.document g.active.build.origin finding.list messages after failed)
      → (document target : List ℕ) → new document target ≡ table_behind after g.table document target
  kept_on messages after finding new failed kept one document target =
      one.kept document target
      ∙ (table_same one.own mid (table_behind messages g.table) kept document target
      ∙ ap (λ (t : Table). t document target) (sym (ap (λ ms. table_behind ms g.table) one.messages ∙ behind_more g.table messages one.own)))

  -- a document that isn't settled then is shown as before
  others_on : (finding : Finding) (new : Table) → AllPairs ◌≢◌ (map (λ (d : BuildDocument). d.key) g.documents) → IsOnCourse g s before mid → Contains g.documents finding.document
      → ((document target : List ℕ) → is_at finding.document.key document target ≡ false → new document target ≡ mid document target)
      → (document : BuildDocument) → Contains g.documents document → ¬ (Contains (pairs_in (s.settled ++ finding ∷ [])) document.pair)
      → new document.key.document document.key.target ≡ g.table document.key.document document.key.target
  others_on finding new distinct on there elsewhere document among unsettled =
      elsewhere document.key.document document.key.target
      (apart_at finding.document.key document.key
      (λ same. unsettled
      (subst (λ ps. Contains ps document.pair) (sym (pairs_push s.settled finding))
      (subst (Contains (pairs_in s.settled ++ finding.document.pair ∷ []))
      (ap (λ (d : BuildDocument). d.pair) (one_of_image (λ (d : BuildDocument). d.key) g.documents finding.document document distinct there among same))
      (Contains-push (pairs_in s.settled) finding.document.pair)))))
      ∙ on.others document among
      (λ settled. unsettled
      (subst (λ ps. Contains ps document.pair) (sym (pairs_push s.settled finding)) (Contains-append_left (pairs_in s.settled) (finding.document.pair ∷ []) document.pair settled)))

  pub on_known : (finding : Finding) (new : Table) (after : List Said) (failed : Bool) → AllPairs ◌≢◌ (map (λ (d : BuildDocument). d.key) g.documents) → IsOnCourse g s before mid → IsNext g s finding.document
      → Known g.earlier g.active finding.document → IsFound (world_in g.active) finding → All (λ (f : Finding). IsApart finding.document f.document) s.settled
      → IsPublishedOne mid new finding.document g.active.build.origin finding.list before after failed → IsOnCourse g (with_known s finding) after new
  on_known finding new after failed distinct on next is_known found apart one = record {
    course =
        subst (Course g (with_known s finding)) (sym one.messages)
        (known finding one.own on.course next is_known (settles before finding new after failed on one on.kept next.ready.there found));
    framed = subst (All IsFramed) (sym one.messages) (All-append IsFramed before one.own on.framed one.framed);
    notices = subst (All IsTold) (sym one.messages) (All-append IsTold before one.own on.notices (λ k d h. told_publication (get_or one.own k d) (one.notices k d h)));
    kept = kept_on before after finding new failed on.kept one;
    shows = All-push (Shows new) s.settled finding (shows_on mid new finding.document s.settled one.elsewhere apart on.shows) one.shows;
    others = others_on finding new distinct on next.ready.there one.elsewhere;
  }

  -- a message that publishes nothing changes no table
  shows_same : (m : Said) → TellsOfTask m → IsOnCourse g s before mid → (document target : List ℕ) → mid document target ≡ table_behind (before ++ m ∷ []) g.table document target
  shows_same m tells on document target =
      on.kept document target
      ∙ ap (λ (t : Table). t document target) (sym (behind_more g.table before (m ∷ []) ∙ tells.shows (table_behind before g.table)))

  pub on_begun : (document : BuildDocument) (i : ℕ) → IsOnCourse g s before mid → IsNext g s document → Due g.earlier g.active document
      → IsTaskOf g.active document.key.target i → IsFramed (check_starts g.active.number (suc (length s.begun)) i document.key.document)
      → IsOnCourse g (with_begun s document) (before ++ check_starts g.active.number (suc (length s.begun)) i document.key.document ∷ []) mid
  on_begun document i on next due of_target framed =
      let m = check_starts g.active.number (suc (length s.begun)) i document.key.document in
      record {
        course = begins document i on.course next due of_target;
        framed = All-push IsFramed before m on.framed framed;
        notices = All-push IsTold before m on.notices (start_told (start_of g.active.number (suc (length s.begun)) i document.key.document));
        kept = shows_same m (start_tells (start_of g.active.number (suc (length s.begun)) i document.key.document)) on;
        shows = on.shows;
        others = on.others;
      }

  pub on_checked : (finding : Finding) (j i : ℕ) (new : Table) (after : List Said) (failed : Bool) → AllPairs ◌≢◌ (map (λ (d : BuildDocument). d.key) g.documents) → IsOnCourse g s before mid → NoneIsNext g s → Runs s finding.document j
      → IsTaskOf g.active finding.document.key.target i → Contains g.documents finding.document → IsFound (world_in g.active) finding
      → All (λ (f : Finding). IsApart finding.document f.document) s.settled → IsFramed (check_finishes g.active.number j i (build_status (has_error finding)))
      → IsPublishedOne mid new finding.document g.active.build.origin finding.list (before ++ check_finishes g.active.number j i (build_status (has_error finding)) ∷ []) after failed
      → IsOnCourse g (with_checked s finding) after new
  on_checked finding j i new after failed distinct on none runs of_target there found apart framed one =
      let m = check_finishes g.active.number j i (build_status (has_error finding)) in
      let messages = before ++ m ∷ [] in
      let kept = shows_same m (finish_tells (finish_of g.active.number j i (build_status (has_error finding)))) on in
      let is : after ≡ before ++ m ∷ one.own = one.messages ∙ append_assoc before (m ∷ []) one.own in
      record {
        course =
            subst (Course g (with_checked s finding)) (sym is)
            (checked finding j i one.own on.course none runs of_target (settles messages finding new after failed on one kept there found));
        framed = subst (All IsFramed) (sym one.messages) (All-append IsFramed messages one.own (All-push IsFramed before m on.framed framed) one.framed);
        notices =
            subst (All IsTold) (sym one.messages)
            (All-append IsTold messages one.own (All-push IsTold before m on.notices (finish_told (finish_of g.active.number j i (build_status (has_error finding))))) (λ k d h. told_publication (get_or one.own k d) (one.notices k d h)));
        kept = kept_on messages after finding new failed kept one;
        shows = All-push (Shows new) s.settled finding (shows_on mid new finding.document s.settled one.elsewhere apart on.shows) one.shows;
        others = others_on finding new distinct on there one.elsewhere;
      }
