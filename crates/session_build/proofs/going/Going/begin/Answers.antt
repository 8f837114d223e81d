use Rattle.std.proofs.Common.{◌≡◌, List, Some, get_or, refl, ap, sym, subst, ◌∙◌, arith}
use Rattle.std.specs.List.{slice_get}
use Rattle.std.proofs.lemmas.Option.{get_or_from_slice_get}
use Rattle.session_law.specs.Builds.{build_document}
use Rattle.session_law.specs.IsFramed.{IsFramed}
use Rattle.session_law.specs.Tasks.{check_starts}
use Rattle.session_law.specs.declared.BuildDocument.{BuildDocument}
use Rattle.session_build.proofs.TellLaws.{said_push}
use Rattle.session_build.proofs.going.Going.begin.Goals as goal

pub returns : goal.returns
returns c =
    let at = c.args.at.now in
    let index = c.document_index-index.result in
    let number = c.in-Some.number in
    let target = c.target_of-target.result in
    let document : BuildDocument = build_document at.workspace.value c.args.pair in
    let documents : List BuildDocument = c.as_slice-documents.result.now in
    let here : get_or documents index c.index-documents-index.result ≡ document =
    get_or_from_slice_get documents index document c.index-documents-index.result
    (subst (λ (ds : List BuildDocument). slice_get ds index ≡ Some document) (sym c.as_slice-documents.ensures) c.document_index-index.ensures) in
    let address = ap (λ (d : BuildDocument). check_starts at.number number target d.key.document) here in
    let said = c.in_ok-start.ensures.said ∙ address in
    record {
      job = record { pair = c.args.pair; document_index = index; target = target; number = number; imports = c.args.imports };
      pair_is = refl;
      there = c.document_index-index.ensures;
      of_target = c.target_of-target.ensures;
      number_is = omega (arith, c.in-Some.ensures);
      imports_are = refl;
      jobs = c.in_ok-push.ensures.items;
      count = omega (arith, c.in-Some.ensures);
      messages = said_push c.args.out.now.items c.push_back.new.self.items c.in_ok-start.start (check_starts at.number number target document.key.document) c.in_ok-push_back.ensures.items said;
      framed = subst IsFramed said c.in_ok-start.ensures.framed;
      checks = refl;
      made = refl;
      tallies = refl;
    }
