-- What it means to read what is exported.
use Rattle.std.specs.Prelude.{List, map, Option, Some, None}
use Rattle.std.specs.declared.alloc.Global.{Global}
use Rattle.std.specs.declared.vec.Vec.{Vec}
use Rattle.oberon_types.specs.declared.entity.Param.{Param}
use Rattle.oberon_types.specs.declared.entity.Exports.{Exports}
use Rattle.oberon_types.specs.Entities.{ParamTree, Export}
use Rattle.oberon_types.specs.Memory.{plain_param, plain_export}
use Rattle.iface_key.specs.Views.{IsParam, IsExport}

abbrev pub params_of : Vec Param Global → List ParamTree
params_of v = map plain_param v.items

abbrev pub IsNextParam : Option ParamTree → Type 0
IsNextParam None = Unit {0}
IsNextParam (Some p) = IsParam p

abbrev pub IsNextExport : Option Export → Type 0
IsNextExport None = Unit {0}
IsNextExport (Some e) = IsExport e

abbrev pub exports_in : Exports → List Export
exports_in e = map plain_export e.entities.entries
