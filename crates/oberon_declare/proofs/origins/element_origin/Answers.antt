use Rattle.std.specs.Prelude.{◌≡◌, ◌+◌, ◌++◌, ◌∷◌, [], List, drop, IfOk}
use Rattle.std.proofs.Common.{sym, ◌∙◌, ap, subst}
use Rattle.std.proofs.lemmas.List.{at_drop_all}
use Rattle.oberon_tree.specs.declared.expression.NextExpr.{NextExpr}
use Rattle.oberon_tree.specs.Memory.{more_exprs_list}
use Rattle.oberon_types.specs.declared.origin.Origin.{Origin}
use Rattle.oberon_types.specs.declared.origin.Step.{Step}
use Rattle.oberon_types.specs.declared.origin.Step.TheVariants as steps
use Rattle.oberon_rules.specs.TypeRules.{element_steps}
use Rattle.oberon_declare.specs.Origins.{at_path}
use Rattle.oberon_declare.proofs.OriginLaws.{length_loop, element_origin_out}
use Rattle.oberon_declare.proofs.origins.element_origin.Goals as goal

pub loop-next-preserved : goal.loop-next-preserved
loop-next-preserved c =
    let o = c.args.origin.now in
    let items = c.deref-next-items.result.now in
    let i = c.loop-next._next-index in
    ap (λ (p : List Step). element_steps (at_path o p) (more_exprs_list (drop (i + 1) items))) c.in_ok-push-2.ensures.items
    ∙ length_loop (at_path o c.loop-next.path.items) items i c.loop-next-test.true
    ∙ c.loop-next.invariant

pub returns : goal.returns
returns c =
    let o = c.args.origin.now in
    let x = c.args.lengths.now in
    let items = c.deref-next-items.result.now in
    let P : Origin → Type 0 = λ q. IfOk c.with_path.result (λ p. p ≡ q) in
    subst P (
    sym (at_drop_all (λ (ys : List NextExpr). element_steps (at_path o c.loop-next.path.items) (more_exprs_list ys)) items c.loop-next._next-index c.loop-next-test.false)
    ∙ c.loop-next.invariant
    ∙ ap (λ (p : List Step). element_steps (at_path o p) (more_exprs_list items)) (c.in_ok-push.ensures.items ∙ ap (λ (p : List Step). p ++ steps.Element ∷ []) (c.in_ok-path.ensures ∙ c.as_slice.ensures))
    ∙ ap (λ (ys : List NextExpr). element_steps (at_path o (o.path ++ steps.Element ∷ [])) (more_exprs_list ys)) c.deref-next-items.ensures.value
    ∙ element_origin_out o x) c.with_path.ensures
