use Rattle.iface_key.specs.Read.{Any, letter_then}
use Rattle.iface_key.specs.Keys.{text_then}
use Rattle.iface_key.proofs.Listed.{exits, none_next, so_far_step, so_far_last}
use Rattle.iface_key.proofs.ReadLaws.{text_listing}
use Rattle.iface_key.proofs.reading.read_text.Goals as goal

pub returns-in_err-letter : goal.returns-in_err-letter
returns-in_err-letter c =
    exits _ _ c.from_residual.result c.in_err-letter.field-0.0 c.from_residual.ensures.1
    (λ e. none_next letter_then text_then text_listing Any Any tt (λ xs zs z ok. tt) c.letters.letters.items c.args.text.now c.letters.left.now c.letters.invariant (c.in_err-letter.ensures e))

pub returns-in-None : goal.returns-in-None
returns-in-None c = so_far_last letter_then text_then text_listing c.letters.letters.items c.in_ok-letter.letter c.args.text.now c.letters.left.now c.in_ok-letter.behind.now c.letters.invariant c.in_ok-letter.ensures c.in-None.is

pub letters-preserved : goal.letters-preserved
letters-preserved c = so_far_step letter_then text_then text_listing c.letters.letters.items c.push.new.self.items c.in-Some.byte c.in_ok-letter.letter c.args.text.now c.letters.left.now c.in_ok-letter.behind.now c.letters.invariant c.in_ok-letter.ensures c.in-Some.is c.in_ok-push-in-Some.ensures.items
