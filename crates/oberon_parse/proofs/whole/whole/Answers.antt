use Rattle.std.proofs.Common.{◌∙◌, ap, sym, Some, length, ◌≡◌, []}
use Rattle.oberon_productions.proofs.Descending.{exits}
use Rattle.oberon_parse.proofs.First.{nothing_more}
use Rattle.oberon_parse.proofs.whole.whole.Goals as goal

pub returns-in_err-found : goal.returns-in_err-found
returns-in_err-found c =
    exits _ _ c.from_residual.result c.in_err-found.field-0.0 c.from_residual.ensures.1 (λ n f. c.in_err-found.ensures.there n f [])

pub returns-else-is_empty : goal.returns-else-is_empty
returns-else-is_empty c = λ n f.
    let same : length c.in_ok-found.rest.now ≡ n = cc in
    c.in_ok-found.ensures.moves [] ∙ nothing_more c.in_ok-found.rest.now (sym c.is_empty.ensures ∙ c.if-is_empty.false) ∙ ap Some same
