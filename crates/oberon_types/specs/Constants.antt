-- From the constant expressions in memory to the plain ones, and what the answer to folding says.
use Rattle.std.specs.Prelude.{◌≡◌, List, [], ◌∷◌, Result, Ok, Err}
use Rattle.oberon_types.specs.declared.constant.ConstExpr.{ConstExpr, Known, Other, Unary', Binary', SetOf', Call', Row_of-ConstExpr-SetOf-0-2, end_of-ConstExpr-SetOf-0-2, more_of-ConstExpr-SetOf-0-2, Row_of-ConstExpr, end_of-ConstExpr, more_of-ConstExpr}
use Rattle.oberon_types.specs.declared.constant.FoldFault.{FoldFault}
use Rattle.oberon_types.specs.declared.constant.FoldFault.TheVariants as faults
use Rattle.oberon_types.specs.declared.value.Value.{Value}
use Rattle.oberon_types.specs.Folding.{ConstTree, known_const, other_const, unary_const, binary_const, set_const, call_const, RangesTree, no_ranges, more_ranges, PartsTree, no_parts, more_parts, Folded, folded, not_constant, out_of_range}

abbrev mutual
  pub const_tree : ConstExpr → ConstTree
  const_tree (Known v) = known_const v
  const_tree Other = other_const
  const_tree (Unary' o p e) = unary_const o (const_tree e)
  const_tree (Binary' o p a q b) = binary_const o (const_tree a) (const_tree b)
  const_tree (SetOf' shape row) = set_const (ranges_row row)
  const_tree (Call' f shape row) = call_const f (parts_row row)

  pub ranges_row : {m : _} → Row_of-ConstExpr-SetOf-0-2 m → RangesTree
  ranges_row end_of-ConstExpr-SetOf-0-2 = no_ranges
  ranges_row (more_of-ConstExpr-SetOf-0-2 a b row) = more_ranges (const_tree a) (const_tree b) (ranges_row row)

  pub parts_row : {m : _} → Row_of-ConstExpr m → PartsTree
  parts_row end_of-ConstExpr = no_parts
  parts_row (more_of-ConstExpr e row) = more_parts (const_tree e) (parts_row row)

abbrev pub ranges_list : List (ConstExpr × ConstExpr) → RangesTree
ranges_list [] = no_ranges
ranges_list (r ∷ rs) = more_ranges (const_tree r.0) (const_tree r.1) (ranges_list rs)

abbrev pub parts_list : List ConstExpr → PartsTree
parts_list [] = no_parts
parts_list (e ∷ es) = more_parts (const_tree e) (parts_list es)

-- want of memory says nothing
abbrev pub Folds : Folded → Result Value FoldFault → Type 0
Folds f (Ok v) = f ≡ folded v
Folds f (Err faults.NotConstant) = f ≡ not_constant
Folds f (Err faults.Range) = f ≡ out_of_range
Folds f (Err faults.NoMemory) = Unit {0}
