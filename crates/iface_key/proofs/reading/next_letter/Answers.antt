use Rattle.std.proofs.Common.{◌≡◌, ◌∷◌, ◌∙◌, ap, arith}
use Rattle.iface_key.proofs.Listed.{exits}
use Rattle.iface_key.proofs.ReadLaws.{no_letter, cut_letter, wrong_letter, small_read, large_read}
use Rattle.iface_key.proofs.reading.next_letter.Goals as goal

pub returns-in_err-byte : goal.returns-in_err-byte
returns-in_err-byte c = exits _ _ c.from_residual.result c.in_err-byte.field-0.0 c.from_residual.ensures.1 (λ e. no_letter c.args.text.now (c.in_err-byte.ensures e))

pub returns-then-byte-gt1 : goal.returns-then-byte-gt1
returns-then-byte-gt1 c = c.in_ok-byte.ensures ∙ large_read c.in_ok-byte.byte c.in_ok-byte.behind.now c.if-byte-gt1.true

pub returns-in_err-small : goal.returns-in_err-small
returns-in_err-small c =
    let one : c.in_ok-byte.byte ≡ 1 = omega (arith, c.if-byte-eq0.false, c.if-byte-gt1.false) in
    exits _ _ c.from_residual-in_err-small.result c.in_err-small.field-0.0 c.from_residual-in_err-small.ensures.1 (λ e. cut_letter c.args.text.now _ (c.in_ok-byte.ensures ∙ ap (λ b. b ∷ c.in_ok-byte.behind.now) one) (c.in_err-small.ensures e))

pub returns-then-small-gt1 : goal.returns-then-small-gt1
returns-then-small-gt1 c e =
    let one : c.in_ok-byte.byte ≡ 1 = omega (arith, c.if-byte-eq0.false, c.if-byte-gt1.false) in
    wrong_letter c.args.text.now _ _ _ (c.in_ok-byte.ensures ∙ ap (λ b. b ∷ c.in_ok-byte.behind.now) one) c.in_ok-small.ensures c.if-small-gt1.true

pub returns : goal.returns
returns c =
    let one : c.in_ok-byte.byte ≡ 1 = omega (arith, c.if-byte-eq0.false, c.if-byte-gt1.false) in
    c.in_ok-byte.ensures ∙ ap (λ b. b ∷ c.in_ok-byte.behind.now) one ∙ ap (λ t. 1 ∷ t) c.in_ok-small.ensures ∙ small_read c.in_ok-small.small _ c.if-small-gt1.false
