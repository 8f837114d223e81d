-- What names stand for outside of their module, and what a module shows, as plain data.
use Rattle.std.specs.Prelude.{ℕ, Bool, List, Option}
use Rattle.oberon_types.specs.declared.value.Value.{Value}
use Rattle.oberon_types.specs.Types.{TyTree}

pub record ParamTree : Type 0 where
  pub by_var : Bool
  pub ty : TyTree

pub record SignatureTree : Type 0 where
  pub params : List ParamTree
  pub result_type : Option TyTree

pub data EntityTree : Type 0 where
  constant_entity : Value → EntityTree
  type_entity : TyTree → EntityTree
  variable_entity : TyTree → EntityTree
  procedure_entity : SignatureTree → EntityTree

pub record Export : Type 0 where
  pub name : List ℕ
  pub entity : EntityTree

-- there is no such module, it has errors, it leads back to itself, or it shows its exports in the order of the names
pub data ViewTree : Type 0 where
  missing_view : ViewTree
  broken_view : ViewTree
  cyclic_view : ViewTree
  exports_view : List Export → ViewTree
