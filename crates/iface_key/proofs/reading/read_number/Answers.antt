use Rattle.std.proofs.Common.{◌∷◌, ◌∙◌, ap}
use Rattle.iface_key.proofs.Listed.{exits}
use Rattle.iface_key.proofs.ReadLaws.{no_number_0, no_number_1, no_number_2, no_number_3}
use Rattle.iface_key.proofs.reading.read_number.Goals as goal

pub returns-in_err-a : goal.returns-in_err-a
returns-in_err-a c = exits _ _ c.from_residual.result c.in_err-a.field-0.0 c.from_residual.ensures.1 (λ e. no_number_0 c.args.text.now (c.in_err-a.ensures e))

pub returns-in_err-b : goal.returns-in_err-b
returns-in_err-b c = exits _ _ c.from_residual-in_err-b.result c.in_err-b.field-0.0 c.from_residual-in_err-b.ensures.1 (λ e. no_number_1 c.args.text.now _ _ c.in_ok-a.ensures (c.in_err-b.ensures e))

pub returns-in_err-c : goal.returns-in_err-c
returns-in_err-c c = exits _ _ c.from_residual-in_err-c.result c.in_err-c.field-0.0 c.from_residual-in_err-c.ensures.1 (λ e. no_number_2 c.args.text.now _ _ _ _ c.in_ok-a.ensures c.in_ok-b.ensures (c.in_err-c.ensures e))

pub returns-in_err-d : goal.returns-in_err-d
returns-in_err-d c = exits _ _ c.from_residual-in_err-d.result c.in_err-d.field-0.0 c.from_residual-in_err-d.ensures.1 (λ e. no_number_3 c.args.text.now _ _ _ _ _ _ c.in_ok-a.ensures c.in_ok-b.ensures c.in_ok-c.ensures (c.in_err-d.ensures e))

pub returns : goal.returns
returns c =
    c.in_ok-a.ensures
    ∙ ap (λ t. c.in_ok-a.a ∷ t) (c.in_ok-b.ensures ∙ ap (λ t. c.in_ok-b.b ∷ t) (c.in_ok-c.ensures ∙ ap (λ t. c.in_ok-c.c ∷ t) c.in_ok-d.ensures))
    ∙ c.number_of.ensures c.in_ok-d.behind.now
