use Rattle.std.proofs.Common.{◌≡◌, Bool, true, false, Some, ap, ◌∙◌, sym, refl}
use Rattle.std.specs.Prelude.{not, Option}
use Rattle.session_core.specs.declared.head.Head.{Head}
use Rattle.session_core.proofs.session.Core.take_marked_build.Goals as goal

marked : (b : Bool) → not b ≡ false → b ≡ true
marked true is = refl
marked false is = sym is

pub returns-clause-some : goal.returns-clause-some
returns-clause-some c =
    let head = c.in_ok-head.head in
    let mark : head.cancelled ≡ true = marked head.cancelled c.if-not-head.false in (
      record {
        number = head.number;
        is = sym c.in_ok-head.ensures.value ∙ (λ i. Some (record head { cancelled = mark i; phase = c.in-Built.is i }));
      },
      ap (λ (h : Option Head). record c.args.self.now { head = h }) c.take.ensures.after,
    )
