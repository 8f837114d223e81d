-- Constants in memory: a row of parts is the list of its items.
use Rattle.std.specs.Prelude.{ℕ, ◌≡◌, ◌≤◌, Bool, true, ◌&&◌, List, [], ◌∷◌, length, Option, None, refl}
use Rattle.std.proofs.Common.{ap, sym, ◌∙◌, arith}
use Rattle.std.specs.declared.alloc.Global.{Global}
use Rattle.std.specs.declared.vec.Vec.{Vec}
use Rattle.oberon_types.specs.declared.constant.ConstExpr.{ConstExpr, SetOf, Call, Row_of-ConstExpr-SetOf-0-2, end_of-ConstExpr-SetOf-0-2, more_of-ConstExpr-SetOf-0-2, items-the_row-ConstExpr-SetOf-0-2, Row_of-ConstExpr, end_of-ConstExpr, more_of-ConstExpr, items-the_row-ConstExpr}
use Rattle.oberon_types.specs.declared.constant.ConstExpr.TheBlock.{hidden-the_row-ConstExpr-SetOf-0-2-0, items_hidden-the_row-ConstExpr-SetOf-0-2-0, hidden-the_row-ConstExpr-1, items_hidden-the_row-ConstExpr-1}
use Rattle.oberon_types.specs.declared.constant.FoldingFunction.{FoldingFunction}
use Rattle.oberon_types.specs.Folding.{is_folding_name, folding_function, is_built, parts_built, call_value, value_of, set_const, call_const, more_ranges, more_parts}
use Rattle.oberon_types.specs.Constants.{const_tree, ranges_row, ranges_list, parts_row, parts_list}

ranges_items : {m : _} (row : Row_of-ConstExpr-SetOf-0-2 m) → ranges_row row ≡ ranges_list (items-the_row-ConstExpr-SetOf-0-2 _ row)
ranges_items end_of-ConstExpr-SetOf-0-2 = refl
ranges_items (more_of-ConstExpr-SetOf-0-2 a b row) = ap (more_ranges (const_tree a) (const_tree b)) (ranges_items row)

parts_items : {m : _} (row : Row_of-ConstExpr m) → parts_row row ≡ parts_list (items-the_row-ConstExpr _ row)
parts_items end_of-ConstExpr = refl
parts_items (more_of-ConstExpr e row) = ap (more_parts (const_tree e)) (parts_items row)

pub set_made : (v : Vec (ConstExpr × ConstExpr) Global) → const_tree (SetOf v) ≡ set_const (ranges_list v.items)
set_made v = ap set_const (ranges_items (hidden-the_row-ConstExpr-SetOf-0-2-0 v) ∙ ap ranges_list (items_hidden-the_row-ConstExpr-SetOf-0-2-0 v))

pub call_made : (f : List ℕ) (v : Vec ConstExpr Global) → const_tree (Call f v) ≡ call_const f (parts_list v.items)
call_made f v = ap (call_const f) (parts_items (hidden-the_row-ConstExpr-1 v) ∙ ap parts_list (items_hidden-the_row-ConstExpr-1 v))

-- a call that is read
pub call_is_built : (e : ConstExpr) (f : List ℕ) (v : Vec ConstExpr Global) (es : List ConstExpr) (b : Bool) → e ≡ Call f v → es ≡ v.items → is_folding_name f ≡ true → b ≡ parts_built (parts_list es) → b ≡ is_built (const_tree e)
call_is_built e f v es b is items named built =
    built ∙ ap (λ xs. parts_built (parts_list xs)) items ∙ ap (λ c. c && parts_built (parts_list v.items)) (sym named) ∙ sym (ap is_built (ap const_tree is ∙ call_made f v))

pub call_has_value : (e : ConstExpr) (f : List ℕ) (v : Vec ConstExpr Global) (es : List ConstExpr) (g : Option FoldingFunction) → e ≡ Call f v → es ≡ v.items → g ≡ folding_function f → call_value g (parts_list es) ≡ value_of (const_tree e)
call_has_value e f v es g is items named =
    ap (λ xs. call_value g (parts_list xs)) items ∙ ap (λ h. call_value h (parts_list v.items)) named ∙ sym (ap value_of (ap const_tree is ∙ call_made f v))

pub call_has_none : (f : Option FoldingFunction) (es : List ConstExpr) → 3 ≤ length es → None ≡ call_value f (parts_list es)
call_has_none f [] many = absurd (omega arith)
call_has_none f (a ∷ []) many = absurd (omega arith)
call_has_none f (a ∷ b ∷ []) many = absurd (omega arith)
call_has_none f (a ∷ b ∷ c ∷ es) many = refl
