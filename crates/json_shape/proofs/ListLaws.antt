-- The values in a list.
use Rattle.std.proofs.Common.{◌≡◌, ℕ, List, [], ◌∷◌, map, Option, Some, Result, refl, sym, ap, subst, unwrap_or, option_map}
use Rattle.std.specs.Option.{is_some}
use Rattle.serde_json.specs.Data.{Data, Items}
use Rattle.serde_json.specs.Find.{as_array}
use Rattle.serde_json.specs.View.{items_of}
use Rattle.json_shape.specs.Shapes.{listed, values_in, bad_item, bad_unless, first}
use Rattle.json_shape.specs.Reading.{Reads}
use Rattle.json_shape.specs.declared.bad_value.BadValue.{BadValue}

pub listed-items_of : (ds : List Data) → listed (items_of ds) ≡ ds
listed-items_of [] = refl
listed-items_of (d ∷ ds) = ap (λ rest. d ∷ rest) (listed-items_of ds)

-- a list is read as its values are
pub list_reads : {A : Type 0} (bad : Data → Option (List ℕ)) (of : Data → A) (d : Data) (ds : List Data) (r : Result (List A) BadValue)
    → Some (items_of ds) ≡ as_array d
    → Reads (bad_item bad 0 ds) (map of ds) r
    → Reads (first (bad_unless (is_some (as_array d))) (bad_item bad 0 (values_in d))) (map of (values_in d)) r
list_reads bad of d ds r is reads =
    let P = λ (found : Option Items). Reads (first (bad_unless (is_some found)) (bad_item bad 0 (unwrap_or (option_map listed found) []))) (map of (unwrap_or (option_map listed found) [])) r in
    let Q = λ (values : List Data). Reads (bad_item bad 0 values) (map of values) r in
    subst P is (subst Q (sym (listed-items_of ds)) reads)
