use Rattle.std.proofs.Common.{◌≡◌, ◌+◌, ◌++◌, ◌∷◌, [], ℕ, List, take, sym, ap, subst, ◌∙◌, arith}
use Rattle.std.specs.Prelude.{Contains, if◌then◌else◌}
use Rattle.std.proofs.lemmas.List.{take_all, take_more}
use Rattle.oberon_module.specs.Views.{plain_views}
use Rattle.oberon_rules.specs.Local.{view_in}
use Rattle.oberon_types.specs.declared.entity.View.{View}
use Rattle.oberon_types.specs.Entities.{missing_view}
use Rattle.oberon_types.specs.Memory.{plain_view}
use Rattle.oberon_types.specs.Types.{same_name}
use Rattle.build_sources.specs.Known.{AreViewsOf}
use Rattle.build_sources.proofs.ViewLaws.{others_put, views_put}
use Rattle.build_sources.proofs.sources.Sources.views_of.Goals as goal

pub loop-name-init : goal.loop-name-init
loop-name-init c = record {
  are = λ name listed. let h = listed.1 in absurd (omega (arith, h));
  others = λ name none. ap (λ (vs : List (List ℕ × View)). view_in (plain_views vs) name) c.new-views.ensures.empty;
}

pub loop-name-preserved : goal.loop-name-preserved
loop-name-preserved c =
    let targets = c.args.self.now.workspace.value.targets in
    let kept = c.args.kept.now in
    let imports : List (List ℕ) = c.args.imports.now in
    let i = c.loop-name.name-index in
    let name : List ℕ = c.name-item.result in
    let old = view_in (plain_views c.loop-name.views.entries) in
    let new = view_in (plain_views c.put.new.views.entries) in
    let view = plain_view c.in_ok-view.view in
    let more : take (i + 1) imports ≡ take i imports ++ name ∷ [] =
    take_more imports i name c.loop-name-test.true ∙ ap (λ (x : List ℕ). take i imports ++ x ∷ []) (sym c.name-item.is) in
    let put : (x : List ℕ) → new x ≡ (if same_name name x then view else old x) =
    λ x. c.in_ok-put.ensures x ∙ ap (λ (key : List ℕ). if same_name key x then view else old x) c.in_ok-copy.ensures in
    record {
      are = subst (λ (names : List (List ℕ)). AreViewsOf targets c.args.target kept names new) (sym more)
          (views_put targets c.args.target kept (take i imports) name old new view put c.in_ok-view.ensures c.loop-name.invariant.are);
      others = subst (λ (names : List (List ℕ)). (x : List ℕ) → ¬ (Contains names x) → new x ≡ missing_view) (sym more)
          (others_put (take i imports) name old new view put c.loop-name.invariant.others);
    }

pub returns-clause-are : goal.returns-clause-are
returns-clause-are c =
    subst (λ (names : List (List ℕ)). AreViewsOf c.args.self.now.workspace.value.targets c.args.target c.args.kept.now names (view_in (plain_views c.loop-name.views.entries)))
    (take_all c.loop-name.name-index c.args.imports.now (omega (arith, c.loop-name-test.false))) c.loop-name.invariant.are

pub returns-clause-others : goal.returns-clause-others
returns-clause-others c =
    subst (λ (names : List (List ℕ)). (x : List ℕ) → ¬ (Contains names x) → view_in (plain_views c.loop-name.views.entries) x ≡ missing_view)
    (take_all c.loop-name.name-index c.args.imports.now (omega (arith, c.loop-name-test.false))) c.loop-name.invariant.others
