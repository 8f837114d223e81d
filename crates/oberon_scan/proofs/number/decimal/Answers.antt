use Rattle.std.proofs.Common.{subst, sym, ◌∙◌, arith}
use Rattle.oberon_scan.specs.declared.token.TokenKind.TheVariants as kinds
use Rattle.oberon_scan.specs.Lexis.{IsToken, IsFault}
use Rattle.oberon_scan.proofs.Values.{kept, above, positive_is}
use Rattle.oberon_scan.proofs.number.decimal.Goals as goal

pub returns-then-not-is_decimal : goal.returns-then-not-is_decimal
returns-then-not-is_decimal c text rest n e =
    IsFault.bad_number c.args.run.now n e (sym c.is_decimal.ensures ∙ c.if-not-is_decimal.true)

pub returns-then-value-le2147483647 : goal.returns-then-value-le2147483647
returns-then-value-le2147483647 c text rest n e =
    let is = kept c.value_of-value.result _ c.value_of-value.ensures (omega arith) in
    subst (λ z. IsToken text (kinds.Integer z) rest) (positive_is c.value_of-value.result _ is c.if-value-le2147483647.true)
    (IsToken.decimal c.args.run.now n e (sym c.is_decimal.ensures ∙ c.if-not-is_decimal.false) (omega (arith, is)))

pub returns-else-value-le2147483647 : goal.returns-else-value-le2147483647
returns-else-value-le2147483647 c text rest n e =
    IsFault.large_decimal c.args.run.now n e (sym c.is_decimal.ensures ∙ c.if-not-is_decimal.false) (above _ _ _ c.value_of-value.ensures c.if-value-le2147483647.false)
