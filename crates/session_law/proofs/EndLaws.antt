-- Once a build told its whole course it settled what the clean build finds, where there is one clean build.
use Rattle.std.proofs.Common.{◌≡◌, ℕ, List, get_or, map, All, Contains, sym, ap, subst, ◌∙◌}
use Rattle.std.proofs.lemmas.List.Elements.{All-contains, Contains-get_or}
use Rattle.ob_text.specs.declared.diagnostic.Diagnostic.{Diagnostic}
use Rattle.build_rules.specs.Views.{HasList}
use Rattle.build_rules.specs.World.{World}
use Rattle.rpc_peer.specs.Said.{Said}
use Rattle.session_law.proofs.ClosureLaws.{one_closure, rising_same}
use Rattle.session_law.proofs.CourseLaws.{one_pair}
use Rattle.session_law.proofs.ListLaws.{contains_map, contains_map_back}
use Rattle.session_law.proofs.StageLaws.{IsOf, stage_sound}
use Rattle.session_law.specs.Builds.{AreDocuments, Finding, IsFound, IsPairOf, build_document}
use Rattle.session_law.specs.Course.{AreGiven, Given, HasEnded}
use Rattle.session_law.specs.History.{world_in}
use Rattle.session_law.specs.Methods.{Build}
use Rattle.session_law.specs.declared.BuildDocument.{BuildDocument}

-- ---- a build is of one list of documents

pub one_documents : (build : Build) (a b : List BuildDocument) → AreDocuments build a → AreDocuments build b → a ≡ b
one_documents build a b first second =
    first.are ∙ (ap (map (build_document build.space)) pairs ∙ sym second.are)
  where
    closures : first.closure ≡ second.closure
    closures = one_closure build.space.targets build.asked first.closure second.closure first.closed second.closed

    pairs : first.pairs ≡ second.pairs
    pairs =
        rising_same first.pairs second.pairs first.ordered second.ordered
        (λ q there. second.whole q
        (subst (λ ts. IsPairOf build.space.targets ts q) closures (All-contains (IsPairOf build.space.targets first.closure) first.pairs q first.each there)))
        (λ q there. first.whole q
        (subst (λ ts. IsPairOf build.space.targets ts q) (sym closures) (All-contains (IsPairOf build.space.targets second.closure) second.pairs q second.each there)))

-- ---- the findings

-- there is one list of each module
abbrev pub OneList : World → Type 0
OneList w = (p : ℕ) (xs ys : List Diagnostic) → HasList w p xs → HasList w p ys → xs ≡ ys

same_finding : (w : World) (a b : Finding) → OneList w → IsFound w a → IsFound w b → a.document ≡ b.document → a ≡ b
same_finding w a b one found found' document =
    let list : a.list ≡ b.list =
    one b.document.pair a.list b.list (subst (λ (d : BuildDocument). HasList w d.pair a.list) document found) found' in
    (λ i. record { document = document i; list = list i })

module _ {g : Given} {messages : List Said} (ended : HasEnded g messages) (are : AreGiven g) (one : OneList (world_in g.active)) where
  documents_are : g.documents ≡ map (λ (f : Finding). f.document) ended.findings
  documents_are = one_documents g.active.build g.documents (map (λ (f : Finding). f.document) ended.findings) are.documents ended.clean.documents

  -- what is settled is what the clean build finds
  pub settled_found : All (Contains ended.findings) ended.stage.settled
  settled_found k d h =
      let sound = stage_sound ended.course in
      let it : Finding = get_or ended.stage.settled k d in
      let back = contains_map_back (λ (f : Finding). f.document) ended.findings it.document
      (subst (λ ds. Contains ds it.document) documents_are (sound.documents k d h)) in
      subst (λ (f : Finding). Contains ended.findings f)
      (same_finding (world_in g.active) back.0 it one (All-contains (IsFound (world_in g.active)) ended.findings back.0 ended.clean.found back.1) (sound.found k d h) back.2)
      back.1

  -- and all that it finds is settled
  pub found_settled : All (Contains ended.stage.settled) ended.findings
  found_settled k d h =
      let sound = stage_sound ended.course in
      let it : Finding = get_or ended.findings k d in
      let there : Contains g.documents it.document =
      subst (λ ds. Contains ds it.document) (sym documents_are)
      (contains_map (λ (f : Finding). f.document) ended.findings it (Contains-get_or ended.findings k d h)) in
      let back = contains_map_back (λ (f : Finding). f.document.pair) ended.stage.settled it.document.pair (ended.all_settled it.document there) in
      let document : back.0.document ≡ it.document =
      one_pair g.active.build g.documents are.documents back.0.document it.document (All-contains (IsOf g) ended.stage.settled back.0 sound.documents back.1) there back.2 in
      subst (λ (f : Finding). Contains ended.stage.settled f)
      (same_finding (world_in g.active) back.0 it one (All-contains (IsFound (world_in g.active)) ended.stage.settled back.0 sound.found back.1) (ended.clean.found k d h) document)
      back.1
