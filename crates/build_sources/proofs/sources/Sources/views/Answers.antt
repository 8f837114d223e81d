use Rattle.std.proofs.Common.{ℕ, List, subst, ◌∙◌}
use Rattle.std.specs.Prelude.{Contains}
use Rattle.std.proofs.lemmas.Result.{IfOk-weaker}
use Rattle.build_rules.specs.World.{held_in}
use Rattle.build_sources.specs.Known.{AreViewsOf}
use Rattle.build_sources.specs.Sources.{world}
use Rattle.build_sources.proofs.CheckLaws.{shown}
use Rattle.build_sources.proofs.DocumentLaws.{same_names}
use Rattle.oberon_module.specs.Views.{plain_views}
use Rattle.oberon_rules.specs.Local.{view_in}
use Rattle.build_sources.proofs.sources.Sources.views.Goals as goal

pub returns-clause-shown : goal.returns-clause-shown
returns-clause-shown c =
    let w = world c.args.self.now in
    let p = c.args.index in
    let names = c.document.result.now.imports.items in
    IfOk-weaker c.views_of.result _ _
    (λ views are. λ known. shown w p c.pair.result.now c.pair.ensures.there names c.document.ensures.imported c.args.kept.now known (view_in (plain_views views.entries))
    (subst (λ (ns : List (List ℕ)). AreViewsOf w.targets c.pair.result.now.target c.args.kept.now ns (view_in (plain_views views.entries))) c.as_slice-imports.ensures.value are))
    c.views_of.ensures.are

pub returns-clause-others : goal.returns-clause-others
returns-clause-others c =
    let w = world c.args.self.now in
    let p = c.args.index in
    let names = c.document.result.now.imports.items in
    IfOk-weaker c.views_of.result _ _
    (λ views rest. λ others are name none. rest name
    (λ (listed : Contains c.as_slice-imports.result.now name). none (subst (λ (ns : List (List ℕ)). Contains ns name)
    (c.as_slice-imports.ensures.value ∙ same_names (held_in w p) names others c.document.ensures.imported are) listed)))
    c.views_of.ensures.others
