-- What the rows import: B shows a constant, a variable, a record with a hidden field and a function; Out is Out; C is
-- broken, D leads back to the module, and there is nothing else.
use Rattle.std.specs.Prelude.{ℕ, true, false, if◌then◌else◌, codes, List, [], ◌∷◌, Some, None, pos}
use Rattle.oberon_types.specs.declared.value.Value.TheVariants as values
use Rattle.oberon_types.specs.Entities.{constant_entity, type_entity, variable_entity, procedure_entity, ViewTree, missing_view, broken_view, cyclic_view, exports_view}
use Rattle.oberon_types.specs.Types.{integer_ty, record_ty, record_of, no_base, no_fields, more_fields, same_name}
use Rattle.oberon_rules.specs.Views.{out_view}

abbrev pub shown_by_b : ViewTree
shown_by_b = exports_view (
    record { name = codes "F"; entity = procedure_entity (record { params = record { by_var = false; ty = integer_ty } ∷ []; result_type = Some integer_ty }) }
    ∷ record { name = codes "T"; entity = type_entity (record_ty (record_of (record { «module» = codes "B"; procedure = None; name = codes "T"; path = [] }) no_base (more_fields (codes "x") true integer_ty no_fields) 2)) }
    ∷ record { name = codes "c"; entity = constant_entity (values.Integer (pos 4)) }
    ∷ record { name = codes "v"; entity = variable_entity integer_ty }
    ∷ [])

abbrev pub views : List ℕ → ViewTree
views x =
    if same_name x (codes "B") then shown_by_b
    else if same_name x (codes "C") then broken_view
    else if same_name x (codes "D") then cyclic_view
    else if same_name x (codes "Out") then out_view
    else missing_view
