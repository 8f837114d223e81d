-- Once all documents of a build are settled and its reports are told, its course is whole.
use Rattle.std.proofs.Common.{◌≡◌, ◌⊎◌, inl, inr, ◌++◌, ℕ, List, [], ◌∷◌, length, get_or, Bool, Option, Some, option_map, refl, sym, ap, subst, ◌∙◌}
use Rattle.std.specs.List.{All, AllPairs, AllZip, Contains, list_any, slice_get}
use Rattle.std.proofs.lemmas.List.{length-map}
use Rattle.std.proofs.lemmas.List.Elements.{All-append, All-cons, All-contains, All-map, All-nil, All-weaker, Contains-get_or}
use Rattle.std.proofs.lemmas.List.Sums.{fold-append}
use Rattle.std.proofs.lemmas.Option.{slice_get-map}
use Rattle.bsp_records.specs.Table.{Table}
use Rattle.build_checks.specs.Stand.{settled_of, taken_of}
use Rattle.rpc_peer.specs.Said.{Said}
use Rattle.session_law.specs.Builds.{AreDocuments, CleanBuild, Finding, IsFound, IsPairOf, Shows, build_document, has_error, shown_by, table_behind}
use Rattle.session_law.specs.Course.{Given, Stage, HasEnded, all_finish, pairs_in}
use Rattle.session_law.specs.History.{HasChecked, HasStarted, world_in}
use Rattle.session_law.specs.declared.BuildDocument.{BuildDocument}
use Rattle.session_law.proofs.CourseLaws.{one_pair}
use Rattle.session_law.proofs.HistoryLaws.{checked_still, not_checked, started_of}
use Rattle.session_law.proofs.ListLaws.{contains_at, contains_first, contains_later, contains_map, contains_map_back, contains_none}
use Rattle.session_law.proofs.PublishedLaws.{IsOther, all_finish_other, filter_none, table_filtered}
use Rattle.session_law.proofs.StageLaws as sound
use Rattle.session_law.proofs.StageLaws.{stage_sound}
use Rattle.session_law.proofs.StartLaws.{NumbersFit}
use Rattle.session_build.specs.Ending.{ends_said}
use Rattle.session_build.specs.Going.{GoesThrough, IsGoing, all_running, pairs_made, told_by}
use Rattle.session_build.specs.Remembering.{HasDocument}
use Rattle.session_build.specs.Setting.{IsSettingOf}
use Rattle.session_build.specs.Stages.{IsOnCourse, pairs_running}
use Rattle.session_build.specs.Tallies.{AreTallied, has_errors}
use Rattle.session_build.specs.declared.going.Going.{Going}
use Rattle.session_build.specs.declared.going.Job.{Job}
use Rattle.session_build.specs.declared.going.Made.{Made}
use Rattle.session_build.specs.declared.setting.Setting.{Setting}
use Rattle.session_build.specs.declared.tally.Tally.{Tally}
use Rattle.build_messages.proofs.DocumentLaws.{key_at}
use Rattle.session_build.proofs.DocumentLaws.{document_in, one_index}
use Rattle.session_build.proofs.EndingLaws.{CountsIn, IsTold, documents_in, ends_same, ends_told, failed_same, zipped}
use Rattle.session_build.proofs.Members.{one_of_image}
use Rattle.target_graph.specs.Workspace.{Space, pairs_of}
use Rattle.target_graph.specs.declared.target.Pair.{Pair}
use Rattle.target_graph.proofs.Distinct.{AreApart}
use Rattle.task_stream.specs.declared.shown.TableKey.{TableKey}

-- ---- the findings, in the order of the documents

record AreFindings (s : Stage) (documents : List BuildDocument) : Type 0 where
  findings : List Finding
  are : documents_in findings ≡ documents
  each : All (Contains s.settled) findings

record IsSettledAs (s : Stage) (document : BuildDocument) : Type 0 where
  finding : Finding
  there : Contains s.settled finding
  is : finding.document ≡ document

findings_for : (s : Stage) (documents : List BuildDocument) → ((document : BuildDocument) → Contains documents document → IsSettledAs s document) → AreFindings s documents
findings_for s [] settled = record { findings = []; are = refl; each = All-nil (Contains s.settled) }
findings_for s (document ∷ documents) settled =
    let first = settled document (contains_first document documents) in
    let rest = findings_for s documents (λ it there. settled it (contains_later document documents it there)) in
    record {
      findings = first.finding ∷ rest.findings;
      are = ap (λ (d : BuildDocument). d ∷ documents_in rest.findings) first.is ∙ ap (λ (ds : List BuildDocument). document ∷ ds) rest.are;
      each = All-cons (Contains s.settled) first.finding rest.findings first.there rest.each;
    }

-- ---- what is told last shows nothing

others_show : (messages : List Said) (table : Table) → All IsOther messages → table_behind messages table ≡ table
others_show messages table others = sym (table_filtered messages table) ∙ ap (λ (ms : List Said). table_behind ms table) (filter_none messages others)

-- ---- the whole course

-- These messages are the whole course of a build. Of these pairs checks were made.
pub record Ends (g : Given) (messages : List Said) (table : Table) (failed : Bool) (made : List ℕ) : Type 0 where
  pub ended : HasEnded g messages
  pub among : All (Contains ended.findings) ended.stage.settled
  pub notices : All IsTold messages
  pub shown : (document target : List ℕ) → table document target ≡ table_behind messages g.table document target
  pub shows : All (Shows table) ended.findings
  pub failed_is : failed ≡ list_any has_error ended.findings
  pub begun : (q : ℕ) → Contains ended.stage.begun q → Contains made q

module _ (g : Given) (at : Setting) (of : IsSettingOf at g) (s : Stage) (messages : List Said) (table : Table) (on : IsOnCourse g s messages table)
    (tallies : List Tally) (sized : length tallies ≡ length at.documents) (tallied : AreTallied g.documents s tallies)
    (all : (document : BuildDocument) → Contains g.documents document → Contains (pairs_in s.settled) document.pair) where
  stage : sound.IsSound g s
  stage = stage_sound on.course

  settled_as : (document : BuildDocument) → Contains g.documents document → IsSettledAs s document
  settled_as document there =
      let back = contains_map_back (λ (f : Finding). f.document.pair) s.settled document.pair (all document there) in
      record {
        finding = back.0;
        there = back.1;
        is =
            one_pair g.active.build g.documents of.are.documents back.0.document document
            (All-contains (sound.IsOf g) s.settled back.0 stage.documents back.1) there back.2;
      }

  listed : AreFindings s g.documents
  listed = findings_for s g.documents settled_as

  counted : AllZip (CountsIn s) listed.findings tallies
  counted =
      zipped s listed.findings tallies
      (sym (length-map listed.findings (λ (f : Finding). f.document)) ∙ (ap length (listed.are ∙ of.documents) ∙ sym sized))
      (λ k finding here. tallied finding k
      (All-contains (Contains s.settled) listed.findings finding listed.each (contains_at listed.findings k finding here))
      (ap (λ (ds : List BuildDocument). slice_get ds k) (sym listed.are)
      ∙ (slice_get-map (λ (f : Finding). f.document) listed.findings k ∙ ap (λ (o : Option Finding). option_map (λ (f : Finding). f.document) o) here)))

  clean : CleanBuild g.active.build g.active.entries listed.findings
  clean = record {
    documents = subst (AreDocuments g.active.build) (sym listed.are) of.are.documents;
    found =
        All-weaker (Contains s.settled) (IsFound (world_in g.active)) (λ finding there. All-contains (IsFound (world_in g.active)) s.settled finding stage.found there)
        listed.findings listed.each;
  }

  all_found : All (Contains listed.findings) s.settled
  all_found k d h =
      let it : Finding = get_or s.settled k d in
      let back = contains_map_back (λ (f : Finding). f.document) listed.findings it.document
      (subst (λ (ds : List BuildDocument). Contains ds it.document) (sym listed.are) (stage.documents k d h)) in
      subst (Contains listed.findings)
      (one_of_image (λ (f : Finding). f.document.pair) s.settled back.0 it stage.settled_once
      (All-contains (Contains s.settled) listed.findings back.0 listed.each back.1) (Contains-get_or s.settled k d h) (ap (λ (d : BuildDocument). d.pair) back.2))
      back.1

  finish_is : ends_said at tallies ≡ all_finish g s listed.findings
  finish_is = ends_same g at s listed.findings tallies counted of.space of.number of.origin (listed.are ∙ of.documents) of.closure

  shown_still : table_behind (messages ++ ends_said at tallies) g.table ≡ table_behind messages g.table
  shown_still =
      fold-append (λ shows m. shown_by m shows) g.table messages (ends_said at tallies)
      ∙ others_show (ends_said at tallies) (table_behind messages g.table) (subst (All IsOther) (sym finish_is) (all_finish_other g s listed.findings))

  pub ends : (made : List ℕ) → ((q : ℕ) → Contains s.begun q → Contains made q) → Ends g (messages ++ ends_said at tallies) table (list_any has_errors tallies) made
  ends made begun = record {
    ended = record {
      stage = s;
      settling = messages;
      course = on.course;
      all_settled = all;
      findings = listed.findings;
      clean = clean;
      are = ap (λ (ms : List Said). messages ++ ms) finish_is;
    };
    among = all_found;
    notices = All-append IsTold messages (ends_said at tallies) on.notices (ends_told at tallies);
    shown = λ document target. on.kept document target ∙ ap (λ (t : Table). t document target) (sym shown_still);
    shows = All-weaker (Contains s.settled) (Shows table) (λ finding there. All-contains (Shows table) s.settled finding on.shows there) listed.findings listed.each;
    failed_is = sym (failed_same s listed.findings tallies counted);
    begun = begun;
  }

-- ---- from how far the build is

module _ (g : Given) (at : Setting) (going : Going) (told : List Said) (keys : List (List ℕ)) (table : Table) (is : IsGoing g at going told keys table) (idle : going.jobs.items ≡ []) (through : GoesThrough going.checks) where
  begun_made : (q : ℕ) → Contains is.stage.begun q → Contains (pairs_made going.made.items) q
  begun_made q there = by (is.begun.begun q there)
    where
      by : Contains (pairs_made going.made.items) q ⊎ Contains (pairs_running (all_running going.jobs.items)) q → Contains (pairs_made going.made.items) q
      by (inl made) = made
      by (inr runs) = absurd (contains_none q (subst (λ (jobs : List Job). Contains (pairs_running (all_running jobs)) q) idle runs))

  taken_settled : (q : ℕ) → Contains (taken_of going.checks) q → Contains (settled_of going.checks) q
  taken_settled q there = (is.agrees.settled_are q).0 (by (is.begun.taken q ((is.agrees.taken_are q).1 there)))
    where
      by : Contains (pairs_in is.stage.settled) q ⊎ Contains (pairs_running (all_running going.jobs.items)) q → Contains (pairs_in is.stage.settled) q
      by (inl settled) = settled
      by (inr runs) = absurd (contains_none q (subst (λ (jobs : List Job). Contains (pairs_running (all_running jobs)) q) idle runs))

  all_settled : (document : BuildDocument) → Contains g.documents document → Contains (pairs_in is.stage.settled) document.pair
  all_settled document there =
      (is.agrees.settled_are document.pair).1
      (through taken_settled document.pair ((is.agrees.modules_are document.pair).0 (contains_map (λ (d : BuildDocument). d.pair) g.documents document there)))

  pub going_ends : (sized : length going.tallies.items ≡ length at.documents)
      → Ends g (told ++ ends_said at going.tallies.items) table (list_any has_errors going.tallies.items) (pairs_made going.made.items)
  going_ends sized =
      ends g at is.of_setting is.stage told table is.on going.tallies.items sized is.tallied all_settled
      (pairs_made going.made.items) begun_made

-- ---- which documents were checked

-- each of which a check was made was, whatever is told later
pub made_checked : (g : Given) (at : Setting) (going : Going) (told more : List Said) (keys : List (List ℕ)) (table : Table) → IsGoing g at going told keys table
    → All (λ q. HasChecked (told_by g (told ++ more)) (key_at at.workspace.value q)) (pairs_made going.made.items)
made_checked g at going told more keys table is =
    All-map (λ q. HasChecked (told_by g (told ++ more)) (key_at at.workspace.value q)) (λ (it : Made). it.pair) going.made.items
    (All-weaker (λ (it : Made). HasChecked (told_by g told) (key_at at.workspace.value it.pair)) (λ (it : Made). HasChecked (told_by g (told ++ more)) (key_at at.workspace.value it.pair))
    (λ it checked. checked_still g told more (key_at at.workspace.value it.pair) checked) going.made.items is.checked)

-- and no other was

module _ (space : Space) (apart : AllPairs (AreApart space) (pairs_of space.targets)) where
  -- a document of the build with the key of a pair is the one of that pair
  pub pair_by_key : (g : Given) (documents : AreDocuments g.active.build g.documents) → g.active.build.space ≡ space
      → (p : ℕ) (pair : Pair) → slice_get (pairs_of space.targets) p ≡ Some pair → (document : BuildDocument) → Contains g.documents document → document.key ≡ key_at space p → document.pair ≡ p
  pair_by_key g documents of_space p pair here document there same =
      let from = contains_map_back (build_document g.active.build.space) documents.pairs document (subst (λ (ds : List BuildDocument). Contains ds document) documents.are there) in
      let of : IsPairOf g.active.build.space.targets documents.closure from.0 =
      All-contains (IsPairOf g.active.build.space.targets documents.closure) documents.pairs from.0 documents.each from.1 in
      let its : slice_get (pairs_of space.targets) from.0 ≡ Some of.pair = subst (λ (w : Space). slice_get (pairs_of w.targets) from.0 ≡ Some of.pair) of_space of.there in
      let key : key_at space from.0 ≡ key_at space p =
      ap (λ (w : Space). key_at w from.0) (sym of_space) ∙ (ap (λ (d : BuildDocument). d.key) from.2 ∙ same) in
      ap (λ (d : BuildDocument). d.pair) (sym from.2) ∙ one_index space apart from.0 p of.pair pair its here key

  pub not_made_unchecked : (g : Given) (documents : AreDocuments g.active.build g.documents) → g.active.build.space ≡ space → NumbersFit g.active
      → {messages : List Said} {table : Table} {failed : Bool} {made : List ℕ} → Ends g messages table failed made
      → (p : ℕ) (pair : Pair) → slice_get (pairs_of space.targets) p ≡ Some pair → ¬ (Contains made p) → ¬ (HasChecked (told_by g messages) (key_at space p))
  not_made_unchecked g documents of_space fit {made = made} ends p pair here absent =
      not_checked ends.ended (key_at space p) fit (λ document there begun same.
      absent (subst (Contains made) (pair_by_key g documents of_space p pair here document there same) (ends.begun document.pair begun)))

-- what a check started of is in the workspace
pub ended_within : (g : Given) (documents : AreDocuments g.active.build g.documents) (space : Space) → g.active.build.space ≡ space → NumbersFit g.active
    → {messages : List Said} {table : Table} {failed : Bool} {made : List ℕ} → Ends g messages table failed made
    → (key : TableKey) → HasStarted (told_by g messages) key → HasDocument space key
ended_within g documents space of_space fit ends key started =
    let from = started_of ends.ended key fit started in
    subst (HasDocument space) from.3 (document_in g.active.build g.documents space documents of_space from.0 from.1)
