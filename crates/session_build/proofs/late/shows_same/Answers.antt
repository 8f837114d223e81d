use Rattle.std.proofs.Common.{rules, ◌≡◌, ◌+◌, ◌++◌, ◌∷◌, [], ℕ, List, Some, take, sym, ap, subst, ◌∙◌}
use Rattle.std.specs.List.{All, slice_get}
use Rattle.std.proofs.lemmas.List.{take_all, take_more}
use Rattle.std.proofs.lemmas.List.Elements.{All-push}
use Rattle.iface_key.specs.Keys.{key_of_view}
use Rattle.oberon_module.specs.Views.{plain_views}
use Rattle.oberon_rules.specs.Local.{view_in}
use Rattle.oberon_types.specs.Entities.{ViewTree}
use Rattle.session_build.specs.Late.{ShowsAs}
use Rattle.session_build.proofs.LateLaws.{shown_more}
use Rattle.session_build.proofs.late.shows_same.Goals as goal

pub loop-import-preserved : goal.loop-import-preserved
loop-import-preserved c =
    let imports : List (List ℕ × ℕ) = c.args.imports.now in
    let i = c.loop-import.import-index in
    let import : List ℕ × ℕ = c.import-item.result in
    let shown : List ℕ → ViewTree = view_in (plain_views c.args.views.now.entries) in
    let keys : List (List ℕ) = c.number_of.new.keys in
    let more : take (i + 1) imports ≡ take i imports ++ import ∷ [] =
    take_more imports i import c.loop-import-test.true ∙ ap (λ (x : List ℕ × ℕ). take i imports ++ x ∷ []) (sym c.import-item.is) in
    let own : ShowsAs keys shown import = subst (λ n. slice_get keys n ≡ Some (key_of_view (shown import.0))) c.if-branch-import.false c.in_ok-number_of.ensures.number in
    record {
      same = subst (All (ShowsAs keys shown)) (sym more)
          (All-push (ShowsAs keys shown) (take i imports) import (shown_more c.loop-import.keys keys c.in_ok-number_of.ensures.earlier shown (take i imports) c.loop-import.invariant.same) own);
      more = λ m k is. c.in_ok-number_of.ensures.earlier m k (c.loop-import.invariant.more m k is);
    }

pub returns-clause-same : goal.returns-clause-same
returns-clause-same c =
    let shown : List ℕ → ViewTree = view_in (plain_views c.args.views.now.entries) in (
      λ _. subst (All (ShowsAs c.loop-import.keys shown)) (take_all c.loop-import.import-index c.args.imports.now c.loop-import-test.false) c.loop-import.invariant.same,
      λ _. search rules,
    )
