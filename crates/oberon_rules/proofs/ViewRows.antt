-- The views of small modules: what is exported in the order of names, and nothing where a rule is broken. A warning
-- breaks no view.
use Rattle.std.specs.Prelude.{◌≡◌, true, false, codes, [], ◌∷◌, Some, None, pos, refl}
use Rattle.oberon_tree.specs.declared.expression.MulOperator.TheVariants as muls
use Rattle.oberon_tree.specs.Trees.{ModuleTree, expr_of, no_relation, simple_of, no_addends, term_of, no_multipliers, more_multipliers, integer_factor, true_factor, designator_factor, designator_of, no_selectors, exprs_of, no_more_exprs, named_type, array_type, record_type, some_fields, no_more_fields, fields_of}
use Rattle.oberon_tree.specs.Trees.{record_of as record_text, more_fields as more_lists}
use Rattle.oberon_types.specs.declared.origin.Step.TheVariants as steps
use Rattle.oberon_types.specs.declared.value.Value.TheVariants as values
use Rattle.oberon_types.specs.Entities.{constant_entity, type_entity, variable_entity, procedure_entity, broken_view, exports_view}
use Rattle.oberon_types.specs.Types.{TyTree, integer_ty, byte_ty, char_ty, boolean_ty, array_ty, open_ty, record_ty, record_of, no_base, base_of, no_fields, more_fields}
use Rattle.oberon_rules.specs.Judged.{declared_view}
use Rattle.oberon_rules.specs.Scopes.{predeclared}
use Rattle.oberon_rules.specs.Views.{written, map_view}
use Rattle.oberon_rules.proofs.RowTrees.{at, id, own, shown, number, expr}
use Rattle.oberon_rules.proofs.RowViews.{views}

-- the type Z of the second row, written out
abbrev type_z : TyTree
type_z = record_ty (record_of (record { «module» = codes "A"; procedure = None; name = codes "Z"; path = [] })
    (base_of (record_of (record { «module» = codes "B"; procedure = None; name = codes "T"; path = [] }) no_base (more_fields (codes "x") true integer_ty no_fields) 2))
    (more_fields (codes "a") true (array_ty 2 (record_ty (record_of (record { «module» = codes "A"; procedure = None; name = codes "Z"; path = steps.Field (codes "a") ∷ steps.Element ∷ [] }) no_base (more_fields (codes "b") true char_ty no_fields) 1))) no_fields)
    5)

-- MODULE A; CONST K* = 2; L* = K * 3; TYPE T* = RECORD x*: INTEGER; y: CHAR END; END A.

abbrev module_1 : ModuleTree
module_1 = record { word = (at 0 6); name = (id 7 (codes "A")); semicolon = (at 8 9); imports = None; declarations = (record { constants = (Some (record { word = (at 10 15); items = (record { name = (shown (id 16 (codes "K")) (at 17 18)); equal = (at 19 20); value = (expr (integer_factor (number 21 22 (pos 2)))); semicolon = (at 22 23) } ∷ record { name = (shown (id 24 (codes "L")) (at 25 26)); equal = (at 27 28); value = (expr_of (simple_of None (term_of (designator_factor (designator_of (id 29 (codes "K")) no_selectors)) (more_multipliers muls.Multiply (at 31 32) (integer_factor (number 33 34 (pos 3))) no_multipliers)) no_addends) no_relation); semicolon = (at 34 35) } ∷ []) })); types = (Some (record { word = (at 36 40); items = (record { name = (shown (id 41 (codes "T")) (at 42 43)); equal = (at 44 45); of_type = (record_type (record_text (at 46 52) None (some_fields (fields_of (record { first = (shown (id 53 (codes "x")) (at 54 55)); rest = [] }) (at 55 56) (named_type (record { first = (id 57 (codes "INTEGER")); member = None }))) (more_lists (at 64 65) (fields_of (record { first = (own (id 66 (codes "y"))); rest = [] }) (at 67 68) (named_type (record { first = (id 69 (codes "CHAR")); member = None }))) no_more_fields)) (at 74 77))); semicolon = (at 77 78) } ∷ []) })); variables = None }); procedures = []; body = None; end = (at 79 82); end_name = (id 83 (codes "A")); period = (at 84 85) }

view_1 : map_view written (declared_view (codes "A") views module_1) ≡ exports_view (
    record { name = codes "K"; entity = constant_entity (values.Integer (pos 2)) }
    ∷ record { name = codes "L"; entity = constant_entity (values.Integer (pos 6)) }
    ∷ record { name = codes "T"; entity = type_entity (record_ty (record_of (record { «module» = codes "A"; procedure = None; name = codes "T"; path = [] }) no_base (more_fields (codes "x") true integer_ty no_fields) 2)) }
    ∷ [])
unfolding predeclared
view_1 = refl

-- MODULE A; IMPORT B; TYPE Z* = RECORD (B.T) a*: ARRAY 2 OF RECORD b*: CHAR END; h: SET END; VAR v*: ARRAY 3 OF BYTE; PROCEDURE P*(VAR z: Z; o: ARRAY OF CHAR): BOOLEAN; RETURN TRUE END P; END A.

abbrev module_2 : ModuleTree
module_2 = record { word = (at 0 6); name = (id 7 (codes "A")); semicolon = (at 8 9); imports = (Some (record { word = (at 10 16); first = (record { name = (id 17 (codes "B")); alias = None }); rest = []; semicolon = (at 18 19) })); declarations = (record { constants = None; types = (Some (record { word = (at 20 24); items = (record { name = (shown (id 25 (codes "Z")) (at 26 27)); equal = (at 28 29); of_type = (record_type (record_text (at 30 36) (Some (record { opening = (at 37 38); name = (record { first = (id 38 (codes "B")); member = (Some (record { period = (at 39 40); name = (id 40 (codes "T")) })) }); closing = (at 41 42) })) (some_fields (fields_of (record { first = (shown (id 43 (codes "a")) (at 44 45)); rest = [] }) (at 45 46) (array_type (at 47 52) (exprs_of (expr (integer_factor (number 53 54 (pos 2)))) no_more_exprs) (at 55 57) (record_type (record_text (at 58 64) None (some_fields (fields_of (record { first = (shown (id 65 (codes "b")) (at 66 67)); rest = [] }) (at 67 68) (named_type (record { first = (id 69 (codes "CHAR")); member = None }))) no_more_fields) (at 74 77))))) (more_lists (at 77 78) (fields_of (record { first = (own (id 79 (codes "h"))); rest = [] }) (at 80 81) (named_type (record { first = (id 82 (codes "SET")); member = None }))) no_more_fields)) (at 86 89))); semicolon = (at 89 90) } ∷ []) })); variables = (Some (record { word = (at 91 94); items = (record { names = (record { first = (shown (id 95 (codes "v")) (at 96 97)); rest = [] }); colon = (at 97 98); of_type = (array_type (at 99 104) (exprs_of (expr (integer_factor (number 105 106 (pos 3)))) no_more_exprs) (at 107 109) (named_type (record { first = (id 110 (codes "BYTE")); member = None }))); semicolon = (at 114 115) } ∷ []) })) }); procedures = (record { procedure = (record { word = (at 116 125); name = (shown (id 126 (codes "P")) (at 127 128)); formals = (Some (record { opening = (at 128 129); sections = (Some (record { first = (record { by_var = (Some (at 129 132)); names = (record { first = (id 133 (codes "z")); rest = [] }); colon = (at 134 135); of_type = record { opens = []; name = (record { first = (id 136 (codes "Z")); member = None }) } }); rest = (record { semicolon = (at 137 138); section = (record { by_var = None; names = (record { first = (id 139 (codes "o")); rest = [] }); colon = (at 140 141); of_type = record { opens = (record { word = (at 142 147); of = (at 148 150) } ∷ []); name = (record { first = (id 151 (codes "CHAR")); member = None }) } }) } ∷ []) })); closing = (at 155 156); result_type = (Some (record { colon = (at 156 157); name = (record { first = (id 158 (codes "BOOLEAN")); member = None }) })) })); semicolon = (at 165 166); locals = record { constants = None; variables = None }; body = None; returns = (Some (record { word = (at 167 173); value = (expr (true_factor (at 174 178))) })); end = (at 179 182); end_name = (id 183 (codes "P")) }); semicolon = (at 184 185) } ∷ []); body = None; end = (at 186 189); end_name = (id 190 (codes "A")); period = (at 191 192) }

view_2 : map_view written (declared_view (codes "A") views module_2) ≡ exports_view (
    record { name = codes "P"; entity = procedure_entity (record { params = record { by_var = true; ty = type_z } ∷ record { by_var = false; ty = open_ty char_ty } ∷ []; result_type = Some boolean_ty }) }
    ∷ record { name = codes "Z"; entity = type_entity type_z }
    ∷ record { name = codes "v"; entity = variable_entity (array_ty 3 byte_ty) }
    ∷ [])
unfolding predeclared
view_2 = refl

-- MODULE A; CONST c* = x; END A.

abbrev module_3 : ModuleTree
module_3 = record { word = (at 0 6); name = (id 7 (codes "A")); semicolon = (at 8 9); imports = None; declarations = (record { constants = (Some (record { word = (at 10 15); items = (record { name = (shown (id 16 (codes "c")) (at 17 18)); equal = (at 19 20); value = (expr (designator_factor (designator_of (id 21 (codes "x")) no_selectors))); semicolon = (at 22 23) } ∷ []) })); types = None; variables = None }); procedures = []; body = None; end = (at 24 27); end_name = (id 28 (codes "A")); period = (at 29 30) }

view_3 : map_view written (declared_view (codes "A") views module_3) ≡ broken_view
unfolding predeclared
view_3 = refl

-- MODULE A; IMPORT B; CONST c* = 1; END A.

abbrev module_4 : ModuleTree
module_4 = record { word = (at 0 6); name = (id 7 (codes "A")); semicolon = (at 8 9); imports = (Some (record { word = (at 10 16); first = (record { name = (id 17 (codes "B")); alias = None }); rest = []; semicolon = (at 18 19) })); declarations = (record { constants = (Some (record { word = (at 20 25); items = (record { name = (shown (id 26 (codes "c")) (at 27 28)); equal = (at 29 30); value = (expr (integer_factor (number 31 32 (pos 1)))); semicolon = (at 32 33) } ∷ []) })); types = None; variables = None }); procedures = []; body = None; end = (at 34 37); end_name = (id 38 (codes "A")); period = (at 39 40) }

view_4 : map_view written (declared_view (codes "A") views module_4) ≡ exports_view (record { name = codes "c"; entity = constant_entity (values.Integer (pos 1)) } ∷ [])
unfolding predeclared
view_4 = refl
