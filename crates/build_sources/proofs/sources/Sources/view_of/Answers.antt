use Rattle.std.proofs.Common.{◌≡◌, ◌<◌, ℕ, List, Option, length, sym, ap, subst, ◌∙◌, arith}
use Rattle.std.specs.Option.{IfSome}
use Rattle.std.proofs.lemmas.List.{get_or-map}
use Rattle.std.proofs.lemmas.Option.{slice_get_within}
use Rattle.std.proofs.lemmas.Result.{IfOk-weaker}
use Rattle.oberon_types.specs.declared.entity.View.{View}
use Rattle.oberon_types.specs.Entities.{missing_view}
use Rattle.oberon_types.specs.Memory.{plain_view}
use Rattle.target_graph.specs.Workspace.{pairs_of, IsVisible}
use Rattle.build_sources.specs.Known.{IsViewOf, view_at}
use Rattle.build_sources.proofs.sources.Sources.view_of.Goals as goal

pub returns-in-Some : goal.returns-in-Some
returns-in-Some c =
    let targets = c.args.self.now.workspace.value.targets in
    let kept : List View = c.args.kept.now in
    let q = c.in-Some.module in
    let visible : IsVisible targets c.args.target c.args.name.now q = subst (λ (o : Option ℕ). IfSome o (IsVisible targets c.args.target c.args.name.now)) c.in-Some.is c.visible.ensures.some in
    let within = slice_get_within (pairs_of targets) q visible.sees.pair visible.sees.there in
    let h : q < length kept = omega (arith, within, c.requires.all) in
    let here : plain_view c.index-kept-module.result ≡ view_at kept q = ap plain_view c.index-kept-module.is ∙ sym (get_or-map plain_view kept q c.index-kept-module.result missing_view h) in
    IfOk-weaker c.copy.result (λ (v : View). plain_view v ≡ plain_view c.index-kept-module.result) (λ (v : View). IsViewOf targets c.args.target kept c.args.name.now (plain_view v))
    (λ v same. IsViewOf.of_module q visible (same ∙ here)) c.copy.ensures
