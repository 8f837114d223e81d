-- Declarations are read back in one way, before what begins a later part of the module.
use Rattle.std.specs.Prelude.{List, ◌∷◌, Option, Some, None, refl}
use Rattle.std.proofs.Common.{arith}
use Rattle.oberon_scan.specs.declared.token.Token.{Token}
use Rattle.oberon_scan.specs.declared.token.Symbol.TheVariants as symbols
use Rattle.oberon_tree.specs.Tokens.{symbol_token}
use Rattle.oberon_tree.specs.Trees.{ConstantsTree, TypesTree, VariablesTree, DeclarationsTree, LocalVariablesTree}
use Rattle.oberon_tree.specs.Print.{print_each, print_some, print_expr, print_type, print_constant, print_constants, print_type_declaration, print_types, print_variable, print_variables, print_declarations, print_local_constant, print_local_constants, print_local_variable, print_local_variables, print_locals}
use Rattle.grammar_laws.proofs.One.{One, Before, Any, stages, head_one, rest_one, span_one, each_one, some_one}
use Rattle.grammar_laws.proofs.Leaves.{ident_one}
use Rattle.grammar_laws.proofs.Names.{ident_def_one, ident_defs_one, idents_one}
use Rattle.grammar_laws.proofs.Expressions.{expr_one}
use Rattle.grammar_laws.proofs.Types.{type_one}

-- ---- constants

constant_one : One print_constant Any
constant_one a b r s h k e =
    let u : List Token = symbol_token symbols.Semicolon a.semicolon ∷ r in
    let v : List Token = symbol_token symbols.Semicolon b.semicolon ∷ s in
    let p = ident_def_one a.name b.name (symbol_token symbols.Equal a.equal ∷ print_expr a.value u) (symbol_token symbols.Equal b.equal ∷ print_expr b.value v) refl refl e in
    let q = expr_one a.value b.value u v (omega arith) (omega arith) (rest_one p.1) in
    (λ i. record { name = p.0 i; equal = span_one p.1 i; value = q.0 i; semicolon = span_one q.1 i }, rest_one q.1)

each_constant_one : One (print_each print_constant) (Before 7)
each_constant_one = each_one print_constant Any (Before 7) constant_one (λ xs r h. tt) (λ x q r. stages 7 r (print_constant x q) (omega arith))

constants_one : One print_constants (Before 6)
constants_one a b r s h k e =
    let p = each_constant_one a.items b.items r s (omega arith) (omega arith) (rest_one e) in
    (λ i. record { word = span_one e i; items = p.0 i }, p.1)

some_constants_one : One (print_some print_constants) (Before 6)
some_constants_one = some_one print_constants (Before 6) (Before 6) constants_one (λ r h. h) (λ x q r. stages 6 r (print_constants x q) (omega arith))

-- ---- types

type_declaration_one : One print_type_declaration Any
type_declaration_one a b r s h k e =
    let u : List Token = symbol_token symbols.Semicolon a.semicolon ∷ r in
    let v : List Token = symbol_token symbols.Semicolon b.semicolon ∷ s in
    let p = ident_def_one a.name b.name (symbol_token symbols.Equal a.equal ∷ print_type a.of_type u) (symbol_token symbols.Equal b.equal ∷ print_type b.of_type v) refl refl e in
    let q = type_one a.of_type b.of_type u v (omega arith) (omega arith) (rest_one p.1) in
    (λ i. record { name = p.0 i; equal = span_one p.1 i; of_type = q.0 i; semicolon = span_one q.1 i }, rest_one q.1)

each_type_one : One (print_each print_type_declaration) (Before 7)
each_type_one = each_one print_type_declaration Any (Before 7) type_declaration_one (λ xs r h. tt) (λ x q r. stages 7 r (print_type_declaration x q) (omega arith))

types_one : One print_types (Before 5)
types_one a b r s h k e =
    let p = each_type_one a.items b.items r s (omega arith) (omega arith) (rest_one e) in
    (λ i. record { word = span_one e i; items = p.0 i }, p.1)

some_types_one : One (print_some print_types) (Before 5)
some_types_one = some_one print_types (Before 5) (Before 5) types_one (λ r h. h) (λ x q r. stages 5 r (print_types x q) (omega arith))

-- ---- variables

variable_one : One print_variable Any
variable_one a b r s h k e =
    let u : List Token = symbol_token symbols.Semicolon a.semicolon ∷ r in
    let v : List Token = symbol_token symbols.Semicolon b.semicolon ∷ s in
    let p = ident_defs_one a.names b.names (symbol_token symbols.Colon a.colon ∷ print_type a.of_type u) (symbol_token symbols.Colon b.colon ∷ print_type b.of_type v) (omega arith) (omega arith) e in
    let q = type_one a.of_type b.of_type u v (omega arith) (omega arith) (rest_one p.1) in
    (λ i. record { names = p.0 i; colon = span_one p.1 i; of_type = q.0 i; semicolon = span_one q.1 i }, rest_one q.1)

each_variable_one : One (print_each print_variable) (Before 7)
each_variable_one = each_one print_variable Any (Before 7) variable_one (λ xs r h. tt) (λ x q r. stages 7 r (print_variable x q) (omega arith))

variables_one : One print_variables (Before 4)
variables_one a b r s h k e =
    let p = each_variable_one a.items b.items r s (omega arith) (omega arith) (rest_one e) in
    (λ i. record { word = span_one e i; items = p.0 i }, p.1)

some_variables_one : One (print_some print_variables) (Before 4)
some_variables_one = some_one print_variables (Before 4) (Before 4) variables_one (λ r h. h) (λ x q r. stages 4 r (print_variables x q) (omega arith))

-- ---- the declarations of a module

variables_next : (x : Option VariablesTree) (r : List Token) → Before 4 r → Before 5 (print_some print_variables x r)
variables_next None r h = omega arith
variables_next (Some x) r h = omega arith

types_next : (x : Option TypesTree) (r : List Token) → Before 5 r → Before 6 (print_some print_types x r)
types_next None r h = omega arith
types_next (Some x) r h = omega arith

constants_next : (x : Option ConstantsTree) (r : List Token) → Before 6 r → Before 8 (print_some print_constants x r)
constants_next None r h = omega arith
constants_next (Some x) r h = omega arith

pub declarations_next : (x : DeclarationsTree) (r : List Token) → Before 4 r → Before 8 (print_declarations x r)
declarations_next x r h = constants_next x.constants _ (types_next x.types _ (variables_next x.variables r h))

pub declarations_one : One print_declarations (Before 4)
declarations_one a b r s h k e =
    let u : List Token = print_some print_variables a.variables r in
    let v : List Token = print_some print_variables b.variables s in
    let low : Before 5 u = variables_next a.variables r h in
    let low₂ : Before 5 v = variables_next b.variables s k in
    let o = some_constants_one a.constants b.constants (print_some print_types a.types u) (print_some print_types b.types v) (types_next a.types u low) (types_next b.types v low₂) e in
    let p = some_types_one a.types b.types u v low low₂ o.1 in
    let q = some_variables_one a.variables b.variables r s h k p.1 in
    (λ i. record { constants = o.0 i; types = p.0 i; variables = q.0 i }, q.1)

-- ---- the declarations of a procedure

local_constant_one : One print_local_constant Any
local_constant_one a b r s h k e =
    let equal = rest_one e in
    let p = expr_one a.value b.value (symbol_token symbols.Semicolon a.semicolon ∷ r) (symbol_token symbols.Semicolon b.semicolon ∷ s) (omega arith) (omega arith) (rest_one equal) in
    (λ i. record { name = ident_one a.name b.name (head_one e) i; equal = span_one equal i; value = p.0 i; semicolon = span_one p.1 i }, rest_one p.1)

each_local_constant_one : One (print_each print_local_constant) (Before 7)
each_local_constant_one = each_one print_local_constant Any (Before 7) local_constant_one (λ xs r h. tt) (λ x q r. stages 7 r (print_local_constant x q) (omega arith))

local_constants_one : One print_local_constants (Before 6)
local_constants_one a b r s h k e =
    let p = each_local_constant_one a.items b.items r s (omega arith) (omega arith) (rest_one e) in
    (λ i. record { word = span_one e i; items = p.0 i }, p.1)

some_local_constants_one : One (print_some print_local_constants) (Before 6)
some_local_constants_one = some_one print_local_constants (Before 6) (Before 6) local_constants_one (λ r h. h) (λ x q r. stages 6 r (print_local_constants x q) (omega arith))

local_variable_one : One print_local_variable Any
local_variable_one a b r s h k e =
    let u : List Token = symbol_token symbols.Semicolon a.semicolon ∷ r in
    let v : List Token = symbol_token symbols.Semicolon b.semicolon ∷ s in
    let p = idents_one a.names b.names (symbol_token symbols.Colon a.colon ∷ print_type a.of_type u) (symbol_token symbols.Colon b.colon ∷ print_type b.of_type v) (omega arith) (omega arith) e in
    let q = type_one a.of_type b.of_type u v (omega arith) (omega arith) (rest_one p.1) in
    (λ i. record { names = p.0 i; colon = span_one p.1 i; of_type = q.0 i; semicolon = span_one q.1 i }, rest_one q.1)

each_local_variable_one : One (print_each print_local_variable) (Before 7)
each_local_variable_one = each_one print_local_variable Any (Before 7) local_variable_one (λ xs r h. tt) (λ x q r. stages 7 r (print_local_variable x q) (omega arith))

local_variables_one : One print_local_variables (Before 4)
local_variables_one a b r s h k e =
    let p = each_local_variable_one a.items b.items r s (omega arith) (omega arith) (rest_one e) in
    (λ i. record { word = span_one e i; items = p.0 i }, p.1)

some_local_variables_one : One (print_some print_local_variables) (Before 4)
some_local_variables_one = some_one print_local_variables (Before 4) (Before 4) local_variables_one (λ r h. h) (λ x q r. stages 4 r (print_local_variables x q) (omega arith))

local_variables_next : (x : Option LocalVariablesTree) (r : List Token) → Before 4 r → Before 6 (print_some print_local_variables x r)
local_variables_next None r h = omega arith
local_variables_next (Some x) r h = omega arith

pub locals_one : One print_locals (Before 4)
locals_one a b r s h k e =
    let p = some_local_constants_one a.constants b.constants (print_some print_local_variables a.variables r) (print_some print_local_variables b.variables s) (local_variables_next a.variables r h) (local_variables_next b.variables s k) e in
    let q = some_local_variables_one a.variables b.variables r s h k p.1 in
    (λ i. record { constants = p.0 i; variables = q.0 i }, q.1)
