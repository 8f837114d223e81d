use Rattle.std.proofs.Common.{◌≡◌, map, ap, sym, ◌∙◌}
use Rattle.std.proofs.lemmas.Result.{IfOk-weaker}
use Rattle.std.proofs.lemmas.List.Filters.{dedup_is}
use Rattle.oberon_rules.specs.Judged.{found}
use Rattle.oberon_rules.specs.Order.{IsListed}
use Rattle.oberon_infer.specs.Memory.{plain_said}
use Rattle.oberon_module.specs.contracts.listing.RowPartialEq.TheImpl.{eq-value}
use Rattle.oberon_module.specs.contracts.listing.RowEq.TheImpl.Laws.{laws-law}
use Rattle.oberon_module.specs.contracts.listing.RowOrd.TheImpl.Laws.{matches_eq-law}
use Rattle.oberon_module.proofs.ListedRows.{listing}
use Rattle.oberon_module.proofs.RowLists.{diagnostics}
use Rattle.oberon_module.proofs.RowOrder.{row_same}
use Rattle.oberon_module.proofs.listing.listed.Goals as goal

pub returns : goal.returns
returns c =
    let text = c.args.text.now in
    IfOk-weaker c.shown.result (λ list. list.items ≡ diagnostics text c.as_slice.result.now) (λ list. IsListed (found text (map plain_said c.args.said.now)) list.items)
    (λ list is. listing text (map plain_said c.args.said.now) c.in_ok-rows.rows.items c.sort_unstable.new.self.items c.dedup.new.self.items list.items eq-value.it
    laws-law matches_eq-law (λ x y h. row_same x y (sym (matches_eq-law x y) ∙ h))
    c.in_ok-rows.ensures c.sort_unstable.ensures.permutation c.sort_unstable.ensures.sorted (dedup_is _ _ _ c.dedup.ensures.filtered)
    (is ∙ ap (diagnostics text) c.as_slice.ensures.value)) c.shown.ensures
