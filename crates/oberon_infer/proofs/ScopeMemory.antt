-- A scope in memory: what a look-up by hash finds is what the list of its entries has, and a new name goes last.
use Rattle.std.specs.Prelude.{ℕ, Bool, true, false, ◌≡◌, if◌then◌else◌, is_some, List, [], ◌∷◌, ◌++◌, map, Option, Some, None, refl}
use Rattle.std.specs.Map.{lookup}
use Rattle.std.proofs.Common.{ap, sym, ◌∙◌}
use Rattle.indexmap.specs.IndexMap.{insert_entry}
use Rattle.oberon_types.specs.Types.{same_name}
use Rattle.oberon_rules.specs.Scopes.{look_up}
use Rattle.oberon_infer.specs.declared.scope.Binding.{Binding}
use Rattle.std.specs.Borrow.{Bor}
use Rattle.std.specs.Option.{option_map, option_copied}
use Rattle.std.proofs.lemmas.Cmp.{nat_list_eq_equiv}
use Rattle.oberon_types.specs.declared.entity.Entity.{Entity}
use Rattle.oberon_types.specs.Memory.{plain_entity, plain_export}
use Rattle.oberon_rules.specs.Names.{exported_as}
use Rattle.oberon_infer.specs.Memory.{plain_meaning, plain_binding, plain_bindings}

choose : {A B : Type 0} (f : A → B) (b : Bool) (x y : A) → (if b then f x else f y) ≡ f (if b then x else y)
choose f true x y = refl
choose f false x y = refl

-- the look-up in the map and in the list of entries
pub found_is : (x : List ℕ) (es : List (List ℕ × Binding)) → option_map (λ (b : Binding). plain_meaning b.meaning) (lookup (same_name x) es) ≡ look_up x (plain_bindings es)
found_is x [] = refl
found_is x (p ∷ ps) =
    sym (choose (option_map (λ (b : Binding). plain_meaning b.meaning)) (same_name x p.0) (Some p.1) (lookup (same_name x) ps))
    ∙ ap (λ y. if same_name x p.0 then Some (plain_meaning (p.1).meaning) else y) (found_is x ps)

-- a new name goes last
pub new_last : (x : List ℕ) (b : Binding) (es : List (List ℕ × Binding)) → is_some (look_up x (plain_bindings es)) ≡ false → plain_bindings (insert_entry same_name es x b) ≡ plain_bindings es ++ plain_binding x b ∷ []
new_last x b [] none = refl
new_last x b (e ∷ es) none = step (same_name x e.0) none (new_last x b es)
  where
    step : (c : Bool) → is_some (if c then Some (plain_meaning (e.1).meaning) else look_up x (plain_bindings es)) ≡ false → (is_some (look_up x (plain_bindings es)) ≡ false → plain_bindings (insert_entry same_name es x b) ≡ plain_bindings es ++ plain_binding x b ∷ []) → plain_bindings (if c then (e.0, b) ∷ es else e ∷ insert_entry same_name es x b) ≡ plain_binding e.0 e.1 ∷ plain_bindings es ++ plain_binding x b ∷ []
    step true none rest = absurd cc
    step false none rest = ap (λ t. plain_binding e.0 e.1 ∷ t) (rest none)

-- ---- what a module exports

-- what is lent, and what lies there
pub copied_is : {A B : Type 0} (f : A → B) (o : Option (Bor A)) → option_map (λ (r : Bor A). f r.now) o ≡ option_map f (option_copied o)
copied_is f None = refl
copied_is f (Some r) = refl

-- the look-up in the map and in the list of exports
pub exported_is : (x : List ℕ) (es : List (List ℕ × Entity)) → option_map plain_entity (lookup (same_name x) es) ≡ exported_as x (map plain_export es)
exported_is x [] = refl
exported_is x (p ∷ ps) =
    sym (choose (option_map plain_entity) (same_name x p.0) (Some p.1) (lookup (same_name x) ps))
    ∙ ap (λ y. if same_name x p.0 then Some (plain_entity p.1) else y) (exported_is x ps)
    ∙ ap (λ b. if b then Some (plain_entity p.1) else exported_as x (map plain_export ps)) (nat_list_eq_equiv.symm x p.0)
