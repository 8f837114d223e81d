use Rattle.std.proofs.Common.{◌≤◌, ◌<◌, ◌≡◌, ◌++◌, ◌∷◌, [], ℕ, List, length, ap, ◌∙◌, arith}
use Rattle.std.proofs.lemmas.List.{length-map, take_all}
use Rattle.check_cache.specs.Facts.{names_of}
use Rattle.session_build.proofs.MakingLaws.{all_more, names_more}
use Rattle.session_build.proofs.making.beside.Goals as goal

pub loop-index-init : goal.loop-index-init
loop-index-init c = record { names = ap names_of c.new-own.ensures.items; same = λ same. c.new-own.ensures.items }

pub loop-index-preserved : goal.loop-index-preserved
loop-index-preserved c =
    let names = c.args.names.now in
    let imports = c.args.imports.now in
    let own : List (List ℕ × ℕ) = c.loop-index.own.items in
    let index = c.loop-index.index in
    let name = c.in_ok-name.name in
    let number = c.number_at.result in
    let within : index < length names = c.loop-index-test.true in
    let is : c.push.new.self.items ≡ own ++ (name, number) ∷ [] = c.in_ok-push.ensures.items in
    record {
      names =
          ap names_of is ∙ names_more own names index name c.index-names-index.result number within (c.in_ok-name.ensures ∙ c.index-names-index.is) c.loop-index.invariant.names;
      same = λ same.
          is ∙ all_more own imports names index name c.index-names-index.result number within (c.in_ok-name.ensures ∙ c.index-names-index.is) c.number_at.ensures same (c.loop-index.invariant.same same);
    }

pub returns-clause-names : goal.returns-clause-names
returns-clause-names c = c.loop-index.invariant.names ∙ take_all c.loop-index.index c.args.names.now c.loop-index-test.false

pub returns-clause-same : goal.returns-clause-same
returns-clause-same c = λ same.
    let size = length-map c.args.imports.now (λ (i : List ℕ × ℕ). i.0) in
    let few : length c.args.imports.now ≤ c.loop-index.index =
    (let e = ap (λ (ns : List (List ℕ)). length ns) same in let past = c.loop-index-test.false in omega (arith, size, e, past)) in
    c.loop-index.invariant.same same ∙ take_all c.loop-index.index c.args.imports.now few
