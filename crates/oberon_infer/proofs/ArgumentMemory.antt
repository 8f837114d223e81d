-- Arguments in memory: how many they are, and what the parameters want.
use Rattle.std.specs.Prelude.{◌≡◌, ℕ, ◌+◌, ◌==◌, if◌then◌else◌, List, [], ◌∷◌, length, map, Option, Some, None, refl}
use Rattle.std.specs.Borrow.{Bor}
use Rattle.std.specs.declared.alloc.Global.{Global}
use Rattle.std.specs.declared.boxed.Box.{Box}
use Rattle.std.proofs.Common.{ap, sym, ◌∙◌, suc, arith}
use Rattle.std.proofs.lemmas.Cmp.{nat_eq_equiv}
use Rattle.oberon_tree.specs.declared.expression.Exprs.{Exprs, out-Exprs}
use Rattle.oberon_tree.specs.declared.expression.NextExpr.{NextExpr}
use Rattle.oberon_tree.specs.Memory.{expr_tree, exprs_tree, arguments_option, more_exprs_list}
use Rattle.oberon_tree.specs.Trees.{ExprTree, some_arguments, exprs_of}
use Rattle.oberon_tree.proofs.ExpressionMemory.{exprs_out, next_expr_out}
use Rattle.oberon_types.specs.declared.entity.Param.{Param}
use Rattle.oberon_types.specs.declared.entity.Signature.{Signature}
use Rattle.oberon_types.specs.Memory.{plain_param}
use Rattle.oberon_types.specs.Entities.{ParamTree}
use Rattle.oberon_rules.specs.ExpressionRules.{Wanted, a_param, argument_count}
use Rattle.oberon_infer.specs.declared.ex.Ex.{Ex as OwnEx}
use Rattle.oberon_infer.specs.declared.ex.Ex.TheVariants as exs
use Rattle.oberon_infer.specs.Memory.{plain_ex}
use Rattle.oberon_infer.specs.Parts.{wants_of}

more_are : (e : ExprTree) (xs : List NextExpr) → argument_count (some_arguments (exprs_of e (more_exprs_list xs))) ≡ 1 + length xs
more_are e [] = refl
more_are e (x ∷ xs) =
    ap (λ more. argument_count (some_arguments (exprs_of e more))) (next_expr_out x (more_exprs_list xs))
    ∙ ap (λ n. 1 + n) (more_are e xs)
    ∙ suc_is (length xs)
  where
    suc_is : (n : ℕ) → 1 + (1 + n) ≡ 1 + suc n
    suc_is n = omega arith

pub count_is : (o : Option (Box Exprs Global)) (b : Box Exprs Global) (e : Exprs) (n : ℕ) → o ≡ Some b → e ≡ b.value → n ≡ length (out-Exprs e).rest.items → 1 + n ≡ argument_count (arguments_option o)
count_is o b e n is held long =
    ap (λ m. 1 + m) long
    ∙ sym (more_are (expr_tree (out-Exprs e).first) (out-Exprs e).rest.items)
    ∙ ap (λ t. argument_count (some_arguments t)) (sym (exprs_out e))
    ∙ ap (λ (x : Exprs). argument_count (some_arguments (exprs_tree x))) held
    ∙ ap (λ (y : Option (Box Exprs Global)). argument_count (arguments_option y)) (sym is)

map_map : (qs : List Param) → map (λ (p : Param). a_param (plain_param p)) qs ≡ map (λ (q : ParamTree). a_param q) (map plain_param qs)
map_map [] = refl
map_map (q ∷ qs) = ap (λ ws. a_param (plain_param q) ∷ ws) (map_map qs)

same_length : (qs : List Param) → length qs ≡ length (map plain_param qs)
same_length [] = refl
same_length (q ∷ qs) = ap (λ n. suc n) (same_length qs)

chosen : (n m : ℕ) (ws : List Wanted) → n ≡ m → Some ws ≡ (if n == m then Some ws else None)
chosen n m ws e = sym (ap (λ b. if b then Some ws else None) (ap (λ k. k == m) e ∙ nat_eq_equiv.refl m))

pub params_are : (x : OwnEx) (f : Bor Signature) (n : ℕ) (qs : List Param) → x ≡ exs.Procedure f → n ≡ length f.now.params.items → qs ≡ f.now.params.items → Some (map (λ (p : Param). a_param (plain_param p)) qs) ≡ wants_of (plain_ex x) n
params_are x f n qs is many items =
    ap (λ ws. Some ws) (map_map qs)
    ∙ chosen n (length (map plain_param qs)) (map (λ (q : ParamTree). a_param q) (map plain_param qs)) (many ∙ ap length (sym items) ∙ same_length qs)
    ∙ ap (λ ps. if n == length (map plain_param ps) then Some (map (λ (q : ParamTree). a_param q) (map plain_param ps)) else None) items
    ∙ ap (λ y. wants_of (plain_ex y) n) (sym is)
