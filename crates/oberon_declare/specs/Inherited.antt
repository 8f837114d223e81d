-- What a record inherits, as far as it asks for it.
use Rattle.std.specs.Prelude.{ℕ, ◌≡◌, Bool, true, ◌||◌, List, is_some}
use Rattle.std.specs.List.{list_any}
use Rattle.indexmap.specs.IndexSet.{contains}
use Rattle.oberon_types.specs.Types.{same_name, BaseTree}
use Rattle.oberon_types.specs.Sizes.{field_of_base}
use Rattle.oberon_declare.specs.declared.inherited.Inherited.{Inherited}

-- Of the names that are asked for, those are found that the base has visible fields of.
pub record Inherits (me : List ℕ) (b : BaseTree) (i : Inherited) : Type 0 where
  pub known : (x : List ℕ) → contains same_name i.asked x ≡ true → contains same_name i.found x ≡ is_some (field_of_base me x b)

-- With `new`, of the names that are asked for those are found that pass the test, beside those of `old`.
pub record Finds (asked old new : List (List ℕ)) (test : List ℕ → Bool) : Type 0 where
  pub finds : (x : List ℕ) → list_any (same_name x) asked ≡ true → list_any (same_name x) new ≡ (list_any (same_name x) old || test x)
