use Rattle.std.proofs.Common.{[], ◌∷◌, subst, sym, ap, ◌∙◌, arith}
use Rattle.oberon_scan.specs.declared.token.TokenKind.TheVariants as kinds
use Rattle.oberon_scan.specs.Lexis.{IsToken, IsFault}
use Rattle.oberon_scan.proofs.Values.{kept, above}
use Rattle.oberon_scan.proofs.number.character.Goals as goal

pub returns-in_ok-new : goal.returns-in_ok-new
returns-in_ok-new c text rest n =
    let is = kept c.value_of-value.result _ c.value_of-value.ensures (omega arith) in
    subst (λ bytes. IsToken text (kinds.Str bytes) rest) (ap (λ x. x ∷ []) is ∙ sym (c.in_ok-new.ensures {u = tt}))
    (IsToken.character c.args.run.now n (omega (arith, is)))

pub returns-else-value-le255 : goal.returns-else-value-le255
returns-else-value-le255 c text rest n =
    IsFault.large_character c.args.run.now n (above _ _ _ c.value_of-value.ensures c.if-value-le255.false)
