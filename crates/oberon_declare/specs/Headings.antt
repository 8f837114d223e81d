-- The parameters that a list of names gives to a signature.
use Rattle.std.specs.Prelude.{Bool, List, map}
use Rattle.oberon_tree.specs.declared.leaf.Ident.{Ident}
use Rattle.oberon_types.specs.Entities.{ParamTree}
use Rattle.oberon_types.specs.Types.{TyTree}

abbrev pub params_of : Bool → TyTree → List Ident → List ParamTree
params_of v t = map (λ (n : Ident). record { by_var = v; ty = t })
