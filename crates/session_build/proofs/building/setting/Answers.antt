use Rattle.std.proofs.Common.{◌≡◌, ◌≢◌, ◌≤◌, ◌<◌, ℕ, List, Option, length, map, ap, sym, subst, ◌∙◌}
use Rattle.std.specs.List.{All, AllPairs}
use Rattle.std.specs.Option.{IfSome}
use Rattle.json_shape.specs.Shapes.{IsTextWithin}
use Rattle.bsp_records.specs.Limits.{origin_limit}
use Rattle.session_law.specs.Builds.{IsPairOf, build_document}
use Rattle.session_law.specs.declared.BuildDocument.{BuildDocument}
use Rattle.build_messages.specs.Documents.{build_of}
use Rattle.session_build.proofs.SettingLaws.{pairs_among, pairs_are}
use Rattle.target_graph.specs.Address.{document_address}
use Rattle.target_graph.specs.Faults.{IsRepeat}
use Rattle.target_graph.specs.Limits.{pairs_limit}
use Rattle.target_graph.specs.Workspace.{IsClosure, Space, id_of, pairs_of}
use Rattle.target_graph.specs.declared.target.Pair.{Pair}
use Rattle.session_build.proofs.building.setting.Goals as goal

pub closure-requires : goal.closure-requires
closure-requires c =
    subst (λ (s : Space). All (λ (t : ℕ). t < length s.targets) c.as_slice.result.now) (sym c.deref-space.ensures)
    (subst (λ (ts : List ℕ). All (λ (t : ℕ). t < length c.args.workspace.value.targets) ts) (sym c.as_slice.ensures) c.requires.asked)

pub as_set-requires : goal.as_set-requires
as_set-requires c = subst (λ ps. AllPairs ◌<◌ ps) (sym c.as_slice-2.ensures.value) c.in_ok-closure.ensures.closure.ordered

pub as_set-requires-2 : goal.as_set-requires-2
as_set-requires-2 c =
    let request = c.args.request in
    let build = build_of c.args.workspace.value request.asked request.origin in
    let are = c.requires.documents in
    let pairs = λ (ds : List BuildDocument). map (λ (d : BuildDocument). d.pair) ds in
    subst (λ ps. AllPairs ◌<◌ ps) (sym (c.as_slice-4.ensures.value ∙ (c.in_ok-modules.ensures ∙ (ap pairs c.as_slice-3.ensures ∙ pairs_are build request.documents are)))) are.ordered

pub returns-clause-targets : goal.returns-clause-targets
returns-clause-targets c =
    let targets : c.in_ok-targets.targets.keys ≡ c.in_ok-closure.closure.items = c.in_ok-targets.ensures ∙ c.as_slice-2.ensures.value in
    subst (IsClosure c.args.workspace.value.targets c.args.request.asked) (sym targets)
    (subst (λ (asked : List ℕ). IsClosure c.args.workspace.value.targets asked c.in_ok-closure.closure.items) c.as_slice.ensures
    (subst (λ (s : Space). IsClosure s.targets c.as_slice.result.now c.in_ok-closure.closure.items) c.deref-space.ensures c.in_ok-closure.ensures.closure))

pub returns-clause-setting : goal.returns-clause-setting
returns-clause-setting c =
    let space : Space = c.args.workspace.value in
    let request = c.args.request in
    let build = build_of space request.asked request.origin in
    let documents = request.documents in
    let are = c.requires.documents in
    let here = c.deref-space.ensures in
    let closure : IsClosure space.targets request.asked c.in_ok-closure.closure.items =
    subst (λ (asked : List ℕ). IsClosure space.targets asked c.in_ok-closure.closure.items) c.as_slice.ensures
    (subst (λ (s : Space). IsClosure s.targets c.as_slice.result.now c.in_ok-closure.closure.items) here c.in_ok-closure.ensures.closure) in
    let within : All (λ (t : ℕ). t < length space.targets) c.in_ok-closure.closure.items =
    subst (λ (s : Space). All (λ (t : ℕ). t < length s.targets) c.in_ok-closure.closure.items) here c.in_ok-closure.ensures.within in
    let pairs_in = λ (ds : List BuildDocument). map (λ (d : BuildDocument). d.pair) ds in
    let pairs : c.in_ok-pairs.pairs.keys ≡ are.pairs =
    c.in_ok-pairs.ensures ∙ (c.as_slice-4.ensures.value ∙ (c.in_ok-modules.ensures ∙ (ap pairs_in c.as_slice-3.ensures ∙ pairs_are build documents are))) in
    let targets : c.in_ok-targets.targets.keys ≡ c.in_ok-closure.closure.items = c.in_ok-targets.ensures ∙ c.as_slice-2.ensures.value in
    record {
      pairs = pairs ∙ sym (pairs_are build documents are);
      rising = subst (λ ps. AllPairs ◌<◌ ps) (sym pairs) are.ordered;
      each =
          subst (λ ps. All (IsPairOf space.targets c.in_ok-targets.targets.keys) ps) (sym pairs)
          (subst (λ ts. All (IsPairOf space.targets ts) are.pairs) (sym targets) (pairs_among build documents c.in_ok-closure.closure.items are closure));
      are = are.are ∙ ap (map (build_document space)) (sym pairs);
      within = subst (λ ts. All (λ (t : ℕ). t < length space.targets) ts) (sym targets) within;
      origin = subst (λ (o : Option (List ℕ)). IfSome o (IsTextWithin origin_limit)) (sym c.in_ok-origin.ensures.ok) c.requires.origin;
      few =
          subst (λ (s : Space). length (pairs_of s.targets) ≤ pairs_limit) here
          (subst (λ (ps : List Pair). length ps ≤ pairs_limit) c.pairs-pairs.ensures.pairs c.pairs-pairs.ensures.few);
      apart =
          subst (λ (s : Space). AllPairs (λ (p q : Pair). document_address s.root p.path ≡ document_address s.root q.path → id_of s p.target ≢ id_of s q.target) (pairs_of s.targets)) here
          (subst (λ (ps : List Pair). AllPairs (λ (p q : Pair). document_address c.deref-space.result.now.root p.path ≡ document_address c.deref-space.result.now.root q.path → id_of c.deref-space.result.now p.target ≢ id_of c.deref-space.result.now q.target) ps)
          c.pairs-pairs.ensures.pairs c.pairs-pairs.ensures.distinct);
      once = subst (λ (s : Space). (target pair : ℕ) → ¬ (IsRepeat s.targets target pair)) here c.pairs-pairs.ensures.once;
    }
