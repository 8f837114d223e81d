use Rattle.std.proofs.Common.{◌≡◌, ◌+◌, ◌++◌, ◌∷◌, [], ℕ, List, take, sym, ap, subst, ◌∙◌, arith}
use Rattle.std.specs.Prelude.{All}
use Rattle.std.proofs.lemmas.List.{map-append, take_all, take_more}
use Rattle.std.proofs.lemmas.List.Elements.{All-nil, All-push}
use Rattle.check_cache.specs.Facts.{names_of}
use Rattle.build_rules.specs.World.{held_in}
use Rattle.build_sources.specs.Documents.{AreImportsOf}
use Rattle.build_sources.specs.Sources.{world}
use Rattle.build_checks.proofs.KeptLaws.{Import}
use Rattle.build_checks.proofs.NumberLaws.{number_shown}
use Rattle.build_checks.proofs.StandLaws.{import_among}
use Rattle.build_checks.specs.Kept.{IsNumbered}
use Rattle.build_checks.specs.Stand.{settled_of}
use Rattle.build_checks.proofs.checks.Checks.imports.Goals as goal

pub pair-requires : goal.pair-requires
pair-requires c = c.requires.checks.so_far.within c.args.index c.requires.among

pub imports-names-requires-clause-within : goal.imports-names-requires-clause-within
imports-names-requires-clause-within c = c.requires.checks.so_far.within c.args.index c.requires.among

pub loop-name-init : goal.loop-name-init
loop-name-init c =
    let w = world c.args.self.now.sources in
    let none : c.new-numbered.result.items ≡ [] = c.new-numbered.ensures.items in
    record {
      names = ap names_of none;
      each = λ keys are. subst (All (IsNumbered keys w c.args.index)) (sym none) (All-nil (IsNumbered keys w c.args.index));
    }

pub loop-name-preserved : goal.loop-name-preserved
loop-name-preserved c =
    let s = c.args.self.now in
    let w = world s.sources in
    let p = c.args.index in
    let far = c.requires.checks.so_far in
    let names : List (List ℕ) = c.imports-names.result.now in
    let i = c.loop-name.name-index in
    let name : List ℕ = c.name-item.result in
    let number = c.number_of-number.result in
    let pushed : List Import = c.loop-name.numbered.items in
    let more : take (i + 1) names ≡ take i names ++ name ∷ [] =
    take_more names i name c.loop-name-test.true ∙ ap (λ (x : List ℕ). take i names ++ x ∷ []) (sym c.name-item.is) in
    let one : c.push.new.self.items ≡ pushed ++ (name, number) ∷ [] =
    c.in_ok-push.ensures.items ∙ ap (λ (x : List ℕ). pushed ++ (x, number) ∷ []) c.in_ok-copy.ensures in
    record {
      names = ap names_of one ∙ map-append (λ (j : Import). j.0) pushed ((name, number) ∷ []) ∙ ap (λ (ns : List (List ℕ)). ns ++ name ∷ []) c.loop-name.invariant.names ∙ sym more;
      each = λ keys are.
          subst (All (IsNumbered keys w p)) (sym one)
          (All-push (IsNumbered keys w p) pushed (name, number) (c.loop-name.invariant.each keys are)
          (number_shown keys w s.wanted.keys (settled_of s) s.views.items s.numbers.items s.out s.missing are p c.pair.result.now c.pair.ensures.there names c.imports-names.ensures
          c.requires.clear (λ q m. import_among w s.wanted.keys s.plan s.views.items s.numbers.items far p q c.requires.among m)
          name (i, c.loop-name-test.true, sym c.name-item.is) number c.number_of-number.ensures));
    }

pub returns-clause-named : goal.returns-clause-named
returns-clause-named c =
    let w = world c.args.self.now.sources in
    let names : List (List ℕ) = c.imports-names.result.now in
    subst (AreImportsOf (held_in w c.args.index)) (sym (c.loop-name.invariant.names ∙ take_all c.loop-name.name-index names (omega (arith, c.loop-name-test.false)))) c.imports-names.ensures

pub returns-clause-numbered : goal.returns-clause-numbered
returns-clause-numbered c = λ keys are. record { named = returns-clause-named c; each = c.loop-name.invariant.each keys are }
