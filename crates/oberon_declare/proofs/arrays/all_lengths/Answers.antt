use Rattle.std.proofs.Common.{◌++◌, ◌∷◌, [], List, ℕ, Option, ◌∙◌, ap}
use Rattle.oberon_infer.specs.Memory.{plain_scopes}
use Rattle.oberon_declare.proofs.ArrayLaws.{lengths_done, lengths_said, lengths_end}
use Rattle.oberon_declare.proofs.SaidLaws.{said_all}
use Rattle.oberon_declare.proofs.arrays.all_lengths.Goals as goal

pub returns-clause-is : goal.returns-clause-is
returns-clause-is c =
    lengths_done c.args.me.now (plain_scopes c.args.scopes.now) c.args.lengths.now _ c.loop-next.next-index _ _ _ c.loop-next-test.false c.deref-next-items.ensures.value c.loop-next.invariant.found (c.in_ok-push.ensures.items ∙ ap (λ (ns : List (Option ℕ)). ns ++ c.in_ok-length.field-0 ∷ []) c.new-found.ensures.items) c.in_ok-length.ensures.is

pub returns-clause-says : goal.returns-clause-says
returns-clause-says c =
    let s = plain_scopes c.args.scopes.now in
    said_all _ _ _ _ _ _ _ c.in_ok-length.ensures.says c.loop-next.invariant.says (λ rest. lengths_end c.args.me.now s _ c.loop-next.next-index rest c.loop-next-test.false) (λ rest. lengths_said c.args.me.now s c.args.lengths.now _ rest c.deref-next-items.ensures.value)
