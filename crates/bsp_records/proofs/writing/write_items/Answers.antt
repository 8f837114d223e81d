use Rattle.std.proofs.Common.{◌≡◌, ◌++◌, ◌∷◌, [], List, map, false, sym, subst, arith}
use Rattle.std.proofs.lemmas.Grind.{common_steps}
use Rattle.serde_json.specs.View.{view, items_of}
use Rattle.serde_json.specs.Written.{items_have_float}
use Rattle.serde_json.specs.declared.value.Value.{Value}
use Rattle.bsp_records.proofs.ExactLaws.{exact_push}
use Rattle.bsp_records.proofs.writing.write_items.Goals as goal

pub loop-item-preserved : goal.loop-item-preserved
loop-item-preserved g c =
    let pushed : c.push.new.self.items ≡ c.loop-item.values.items ++ c.in_ok-write.field-0 ∷ [] = c.in_ok-push.ensures.items in
    let P = λ (vs : List Value). items_have_float (items_of (map view vs)) ≡ false in
    record {
      written = grind (arith, common_steps);
      exact = subst P (sym pushed) (exact_push c.loop-item.values.items c.in_ok-write.field-0 c.loop-item.invariant.exact c.in_ok-write.ensures.exact);
    }
