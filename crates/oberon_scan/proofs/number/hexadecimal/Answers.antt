use Rattle.std.proofs.Common.{◌≡◌, subst, sym, ◌∙◌, arith, rules}
use Rattle.std.specs.Int.{w32, cast_signed, cast_unsigned}
use Rattle.std.proofs.lemmas.Int.{to_z-of_z}
use Rattle.oberon_scan.specs.declared.token.TokenKind.TheVariants as kinds
use Rattle.oberon_scan.specs.Lexis.{IsToken, IsFault}
use Rattle.oberon_scan.proofs.Values.{kept, above, signed_is}
use Rattle.oberon_scan.proofs.number.hexadecimal.Goals as goal

pub returns-then-value-le4294967295 : goal.returns-then-value-le4294967295
returns-then-value-le4294967295 c text rest n =
    let is = kept c.value_of-value.result _ c.value_of-value.ensures (omega arith) in
    let same : cast_signed w32 (cast_unsigned w32 c.cast_signed.result) ≡ c.cast_signed.result = search (rules, to_z-of_z) in
    subst (λ z. IsToken text (kinds.Integer z) rest) (signed_is c.value_of-value.result _ is (omega arith) ∙ (sym c.cast_signed.ensures ∙ sym same))
    (IsToken.hexadecimal c.args.run.now n (omega (arith, is)))

pub returns-else-value-le4294967295 : goal.returns-else-value-le4294967295
returns-else-value-le4294967295 c text rest n =
    IsFault.large_hexadecimal c.args.run.now n (above _ _ _ c.value_of-value.ensures c.if-value-le4294967295.false)
