-- What a reader of a module may still expect: a token, a part of the grammar with a choice in it, or a
-- part that may be left out. The number with some of them is how many more levels may be opened there.
use Rattle.std.specs.Prelude.{ℕ}
use Rattle.oberon_scan.specs.declared.token.Word.{Word}
use Rattle.oberon_scan.specs.declared.token.Symbol.{Symbol}

pub data Expected : Type 0 where
  -- one token
  ident : Expected
  word : Word → Expected
  symbol : Symbol → Expected
  -- ["." ident], ["*"], {"," identdef}, {"," ident}
  some_member : Expected
  some_mark : Expected
  ident_defs : Expected
  idents : Expected
  -- ["+" | "-"]
  some_sign : Expected
  factor : ℕ → Expected
  -- {muloperator factor}, {addoperator term}, [relator simple]
  multipliers : ℕ → Expected
  addends : ℕ → Expected
  some_relation : ℕ → Expected
  -- [element {"," element}] "}", [".." expr], {"," element}
  rest_of_set : ℕ → Expected
  some_upper : ℕ → Expected
  elements : ℕ → Expected
  -- {selector}, [exprs] ")", {"," expr}
  selectors : ℕ → Expected
  rest_of_call : ℕ → Expected
  exprs : ℕ → Expected
  -- ["(" qualident ")"], [fields {";" fields}] END, {";" fields}
  type_part : ℕ → Expected
  some_base : Expected
  rest_of_record : ℕ → Expected
  fields : ℕ → Expected
  -- value, [".." value], {"," label}
  value : Expected
  some_label_upper : Expected
  labels : Expected
  -- stmt, [":=" expr], {";" stmt}
  statement : ℕ → Expected
  some_assigned : ℕ → Expected
  statements : ℕ → Expected
  -- {ELSIF expr (THEN or DO) stmts}, [ELSE stmts], arm, {"|" arm}, [BY expr]
  elsifs : Word → ℕ → Expected
  some_else : ℕ → Expected
  arm : ℕ → Expected
  arms : ℕ → Expected
  some_step : ℕ → Expected
  -- the parts of declarations, and their items
  some_constants : ℕ → Expected
  constants : ℕ → Expected
  some_types : ℕ → Expected
  types : ℕ → Expected
  some_variables : ℕ → Expected
  variables : ℕ → Expected
  some_local_constants : ℕ → Expected
  local_constants : ℕ → Expected
  some_local_variables : ℕ → Expected
  local_variables : ℕ → Expected
  -- [VAR], {ARRAY OF}, {";" section}, [sections] ")", [formals], [":" qualident]
  some_by_var : Expected
  opens : ℕ → Expected
  sections : ℕ → Expected
  rest_of_formals : ℕ → Expected
  some_formals : ℕ → Expected
  some_result : Expected
  -- [BEGIN stmts], [RETURN expr], {procedure ";"}
  some_body : ℕ → Expected
  some_return : ℕ → Expected
  procedures : ℕ → Expected
  -- [":=" ident], {"," import}, [imports]
  some_alias : Expected
  imports : Expected
  some_imports : Expected
