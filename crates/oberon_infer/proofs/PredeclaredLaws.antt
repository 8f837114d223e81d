-- The predeclared names: what is found in a part of the list is found in the list.
use Rattle.std.specs.Prelude.{◌≡◌, ℕ, Bool, true, false, if◌then◌else◌, List, [], ◌∷◌, take, drop, Option, Some, refl}
use Rattle.std.proofs.Common.{ap, ◌∙◌, suc, zero}
use Rattle.oberon_types.specs.Types.{same_name}
use Rattle.oberon_rules.specs.Scopes.{Meaning, Entry, look_up, predeclared}
use Rattle.oberon_rules.specs.Names.{nearest}
use Rattle.oberon_infer.specs.Predeclared.{type_names, function_names, procedure_names}

chosen : (b : Bool) (m : Meaning) (y z : Option Meaning) → (if b then Some m else nearest y z) ≡ nearest (if b then Some m else y) z
chosen true m y z = refl
chosen false m y z = refl

-- a list in two parts
in_parts : (x : List ℕ) (n : ℕ) (es : List Entry) → look_up x es ≡ nearest (look_up x (take n es)) (look_up x (drop n es))
in_parts x zero es = refl
in_parts x (suc n) [] = refl
in_parts x (suc n) (e ∷ es) =
    ap (λ y. if same_name x e.name then Some e.meaning else y) (in_parts x n es)
    ∙ chosen (same_name x e.name) e.meaning (look_up x (take n es)) (look_up x (drop n es))

pub in_three : (x : List ℕ) → look_up x predeclared ≡ nearest (look_up x type_names) (nearest (look_up x function_names) (look_up x procedure_names))
in_three x =
    in_parts x 5 predeclared
    ∙ ap (nearest (look_up x type_names)) (in_parts x 8 (drop 5 predeclared))
