-- What a kept check promises.
use Rattle.std.specs.Prelude.{◌≡◌, ℕ, List, map, length}
use Rattle.std.specs.List.{zip}
use Rattle.ob_text.specs.declared.held.Held.{Held}
use Rattle.iface_key.specs.Keys.{key_of_view}
use Rattle.oberon_module.specs.declared.check.Checked.{Checked}
use Rattle.oberon_types.specs.Entities.{ViewTree}
use Rattle.oberon_types.specs.Memory.{plain_view}
use Rattle.oberon_rules.specs.Local.{Local, view_in}

-- a check as it is kept: what was held, the stem, the names of the imports with the numbers of what they showed, the keys
-- of that in the same order, and what the check found
pub record FactTree : Type 0 where
  pub held : Held
  pub stem : List ℕ
  pub imports : List (List ℕ × ℕ)
  pub keys : List (List ℕ)
  pub checked : Checked

abbrev pub fact_of : Held → List ℕ → List (List ℕ × ℕ) → List (List ℕ) → Checked → FactTree
fact_of held stem imports keys checked =
    record { held = held; stem = stem; imports = imports; keys = keys; checked = checked }

abbrev pub names_of : List (List ℕ × ℕ) → List (List ℕ)
names_of imports = map (λ i. i.0) imports

-- It is a check by the rules: there are views, one for each import, which have these keys, and by which the rules say just
-- this of the text and the stem. The names are those that the module imports.
pub record IsFact (fact : FactTree) : Type 0 where
  pub views : List ViewTree
  pub named : names_of fact.imports ≡ fact.checked.imports.items
  pub each : length views ≡ length fact.imports
  pub keyed : map key_of_view views ≡ fact.keys
  pub found : Local fact.held fact.stem (view_in (zip (names_of fact.imports) views)) fact.checked.list.items fact.checked.imports.items (plain_view fact.checked.view)
