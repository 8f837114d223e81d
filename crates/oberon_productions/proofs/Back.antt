-- Back: where the machine takes a token and what it then expects is spelled by trees, the part that it
-- took the token for is spelled by a tree with that token first.
use Rattle.std.specs.Prelude.{◌≡◌, ℕ, zero, suc, ◌≤◌, Bool, true, false, cond, eqb, List, [], ◌∷◌, ◌++◌, Option, Some, None, refl}
use Rattle.std.proofs.Common.{◌∙◌, ap, subst, arith}
use Rattle.oberon_scan.specs.declared.token.Symbol.{Symbol}
use Rattle.oberon_tree.specs.declared.statement.LabelValue.TheVariants as values
use Rattle.oberon_tree.specs.Trees.{expr_of, RelationTree, relation_of, simple_of, more_addends, term_of, more_multipliers, designator_factor, group_factor, negation_factor, set_factor, set_of, no_elements, some_elements, more_elements, element_of, upper_of, designator_of, more_selectors, field_selector, index_selector, call_selector, no_arguments, some_arguments, exprs_of, more_exprs}
use Rattle.oberon_tree.specs.Trees.{named_type, array_type, record_type, record_of, no_fields, some_fields, more_fields, fields_of}
use Rattle.oberon_tree.specs.Trees.{step_of, statements_of, more_statements, assign_statement, call_statement, if_statement, case_statement, while_statement, repeat_statement, for_statement, if_of, guarded_of, more_elsifs, else_of, case_of, labelled_arm, more_arms, while_of, repeat_of, for_of}
use Rattle.oberon_tree.specs.Levels.{depth_of_expr}
use Rattle.ob_text.specs.declared.span.Span.{Span}
use Rattle.oberon_scan.specs.declared.token.Token.{Token}
use Rattle.oberon_scan.specs.declared.token.Word.{Word}
use Rattle.oberon_scan.specs.declared.token.Word.TheVariants as words
use Rattle.oberon_scan.specs.declared.token.Symbol.TheVariants as symbols
use Rattle.oberon_tree.specs.declared.leaf.Ident.{Ident}
use Rattle.oberon_tree.specs.declared.expression.Signed.{Signed}
use Rattle.oberon_tree.specs.Tokens.{ident_token}
use Rattle.oberon_tree.specs.Trees.{AddendsTree, ExprTree, FactorTree, MultipliersTree, RelationTree, SelectorsTree, StatementTree}
use Rattle.oberon_tree.specs.Print.{print_factor, print_selectors, print_some, print_value, print_expr}
use Rattle.oberon_tree.specs.Levels.{depth_of_expr, depth_of_selectors, depth_of_some}
use Rattle.oberon_productions.specs.Expected.{Expected}
use Rattle.oberon_productions.specs.Expected as want
use Rattle.oberon_productions.specs.Tests.{is_word, is_symbol, is_ident, is_literal, is_sign, is_constant, reach}
use Rattle.oberon_productions.specs.Machine.{Move, takes, passes, refuses, needs, allows, deeper, begins_factor, begins_expr, move, term_parts, simple_parts, expr_parts, exprs_parts, element_parts, qualident_parts, ident_defs_parts, idents_parts, fields_parts, label_parts, statements_parts, guarded_parts, section_parts, section_tail, procedure_parts, import_parts}
use Rattle.oberon_productions.proofs.Found.{word_found, symbol_found}
use Rattle.oberon_productions.proofs.Operators.{relator_found, add_found, mul_found, sign_found, ident_found, value_found, constant_found}
use Rattle.oberon_productions.proofs.Parts.{print_assigned, Part, Parts, parts_split}

cons2 : {t v : Token} {u w : List Token} → t ≡ v → u ≡ w → t ∷ u ≡ v ∷ w
cons2 a b = λ i. a i ∷ b i

-- ---- what a move that takes the token tells

from_takes : (ys xs : List Expected) (u rest : List Token) → takes ys ≡ takes xs → Parts xs u rest → Parts ys u rest
from_takes ys xs u rest e q = let same : xs ≡ ys = cc in subst (λ (l : List Expected). Parts l u rest) same q

from_allows : {P : Type 0} (b : Bool) (ys xs : List Expected) (u rest : List Token) → allows b ys ≡ takes xs → Parts xs u rest → (b ≡ true → Parts ys u rest → P) → P
from_allows true ys xs u rest e q f = f refl (from_takes ys xs u rest e q)
from_allows false ys xs u rest e q f = absurd cc

from_needs : {P : Type 0} (b : Bool) (ys xs : List Expected) (u rest : List Token) → needs b ys ≡ takes xs → Parts xs u rest → (b ≡ true → Parts ys u rest → P) → P
from_needs true ys xs u rest e q f = f refl (from_takes ys xs u rest e q)
from_needs false ys xs u rest e q f = absurd cc

from_cond : {P : Type 0} (b : Bool) (m n : Move) (xs : List Expected) → cond b m n ≡ takes xs → (b ≡ true → m ≡ takes xs → P) → (b ≡ false → n ≡ takes xs → P) → P
from_cond true m n xs e f g = f refl e
from_cond false m n xs e f g = g refl e

from_deeper : {P : Type 0} (d : ℕ) (next : ℕ → List Expected) (xs : List Expected) (u rest : List Token) → deeper d next ≡ takes xs → Parts xs u rest → ((e : ℕ) → d ≡ suc e → Parts (next e) u rest → P) → P
from_deeper zero next xs u rest e q f = absurd cc
from_deeper (suc d) next xs u rest e q f = f d refl (from_takes (next d) xs u rest e q)

from_passes : {P : Type 0} (xs : List Expected) → passes ≡ takes xs → P
from_passes xs e = absurd cc

from_refuses : {P : Type 0} (xs : List Expected) → refuses ≡ takes xs → P
from_refuses xs e = absurd cc

-- the type of what is shown of each part
abbrev pub Taken : Expected → Type 0
Taken x = (t : Token) (u rest : List Token) (xs : List Expected) → move x t.kind ≡ takes xs → Parts xs u rest → Part x (t ∷ u) rest

-- ---- one token

take_ident : Taken want.ident
take_ident t u rest xs e q = from_needs (is_ident t.kind) [] xs u rest e q (λ f p. let i = ident_found t f in record { tree = i.0; spelled = cons2 i.1 p.spelled; within = omega arith })

take_word : (w : Word) → Taken (want.word w)
take_word w t u rest xs e q = from_needs (is_word w t.kind) [] xs u rest e q (λ f p. record { tree = t.span; spelled = cons2 (word_found w t f) p.spelled; within = omega arith })

take_symbol : (s : Symbol) → Taken (want.symbol s)
take_symbol s t u rest xs e q = from_needs (is_symbol s t.kind) [] xs u rest e q (λ f p. record { tree = t.span; spelled = cons2 (symbol_found s t f) p.spelled; within = omega arith })

-- ---- names

take_some_member : Taken want.some_member
take_some_member t u rest xs e q = from_allows (is_symbol symbols.Period t.kind) (want.ident ∷ []) xs u rest e q (λ f p. record { tree = Some (record { period = t.span; name = p.trees.0 }); spelled = cons2 (symbol_found symbols.Period t f) p.spelled; within = omega arith })

take_some_mark : Taken want.some_mark
take_some_mark t u rest xs e q = from_allows (is_symbol symbols.Star t.kind) [] xs u rest e q (λ f p. record { tree = Some t.span; spelled = cons2 (symbol_found symbols.Star t f) p.spelled; within = omega arith })

take_ident_defs : Taken want.ident_defs
take_ident_defs t u rest xs e q = from_allows (is_symbol symbols.Comma t.kind) ident_defs_parts xs u rest e q (λ f p. record { tree = record { comma = t.span; ident = record { name = p.trees.0; export = p.trees.1.0 } } ∷ p.trees.1.1.0; spelled = cons2 (symbol_found symbols.Comma t f) p.spelled; within = omega arith })

take_idents : Taken want.idents
take_idents t u rest xs e q = from_allows (is_symbol symbols.Comma t.kind) idents_parts xs u rest e q (λ f p. record { tree = record { comma = t.span; ident = p.trees.0 } ∷ p.trees.1.0; spelled = cons2 (symbol_found symbols.Comma t f) p.spelled; within = omega arith })

-- ---- expressions

abbrev expr_at : {B : Type 0} → Option Signed × (FactorTree × (MultipliersTree × (AddendsTree × (RelationTree × B)))) → ExprTree
expr_at v = expr_of (simple_of v.0 (term_of v.1.0 v.1.1.0) v.1.1.1.0) v.1.1.1.1.0

abbrev behind : {B : Type 0} → Option Signed × (FactorTree × (MultipliersTree × (AddendsTree × (RelationTree × B)))) → B
behind v = v.1.1.1.1.1

-- an expression and what stands behind it
pub record ExprPart (d : ℕ) (ts rest : List Token) : Type 0 where
  pub tree : ExprTree
  pub spelled : ts ≡ print_expr tree rest
  pub within : depth_of_expr tree ≤ d

take_some_sign : Taken want.some_sign
take_some_sign t u rest xs e q = from_allows (is_sign t.kind) [] xs u rest e q (λ f p. let g = sign_found t f in record { tree = Some (record { sign = g.0; span = t.span }); spelled = cons2 g.1 p.spelled; within = omega arith })

factor_take : (d : ℕ) (t : Token) (more xs : List Expected) (u rest : List Token) → begins_factor d t.kind more ≡ takes xs → Parts xs u rest → (mid : List Token) × Part (want.factor d) (t ∷ u) mid × Parts more mid rest
factor_take d t more xs u rest e q =
    from_cond (is_constant t.kind) (takes more) _ xs e (λ f g. let c = constant_found t f in (u, record { tree = c.0; spelled = c.1 u; within = omega (arith, c.2) }, from_takes more xs u rest g q)) (λ f1 e1. from_cond (is_ident t.kind) (takes (want.selectors d ∷ more)) _ xs e1 (λ f g. let i = ident_found t f in let r = parts_split (want.selectors d ∷ []) more u rest (from_takes (want.selectors d ∷ more) xs u rest g q) in (r.0, record { tree = designator_factor (designator_of i.0 r.1.trees.0); spelled = cons2 i.1 r.1.spelled; within = r.1.within.0 }, r.2)) (λ f2 e2. from_cond (is_symbol symbols.OpenParen t.kind) (deeper d (λ n. expr_parts n ++ want.symbol symbols.CloseParen ∷ more)) _ xs e2 (λ f g. from_deeper d (λ n. expr_parts n ++ want.symbol symbols.CloseParen ∷ more) xs u rest g q (λ n j p. let r = parts_split (expr_parts n ++ want.symbol symbols.CloseParen ∷ []) more u rest p in (r.0, record { tree = group_factor t.span (expr_at r.1.trees) (behind r.1.trees).0; spelled = cons2 (symbol_found symbols.OpenParen t f) r.1.spelled; within = omega (arith, j, r.1.within) }, r.2))) (λ f3 e3. from_cond (is_symbol symbols.Tilde t.kind) (deeper d (λ n. want.factor n ∷ more)) _ xs e3 (λ f g. from_deeper d (λ n. want.factor n ∷ more) xs u rest g q (λ n j p. let r = parts_split (want.factor n ∷ []) more u rest p in (r.0, record { tree = negation_factor t.span r.1.trees.0; spelled = cons2 (symbol_found symbols.Tilde t f) r.1.spelled; within = omega (arith, j, r.1.within) }, r.2))) (λ f4 e4. from_cond (is_symbol symbols.OpenBrace t.kind) (deeper d (λ n. want.rest_of_set n ∷ more)) _ xs e4 (λ f g. from_deeper d (λ n. want.rest_of_set n ∷ more) xs u rest g q (λ n j p. let r = parts_split (want.rest_of_set n ∷ []) more u rest p in (r.0, record { tree = set_factor (set_of t.span r.1.trees.0.0 r.1.trees.0.1); spelled = cons2 (symbol_found symbols.OpenBrace t f) r.1.spelled; within = omega (arith, j, r.1.within) }, r.2))) (λ f5 e5. from_refuses xs e5)))))

take_factor : (d : ℕ) → Taken (want.factor d)
take_factor d t u rest xs e q = let r = factor_take d t [] xs u rest e q in record { tree = r.1.tree; spelled = subst (λ (l : List Token). t ∷ u ≡ print_factor r.1.tree l) r.2.spelled r.1.spelled; within = r.1.within }

expr_take : (d : ℕ) (t : Token) (more xs : List Expected) (u rest : List Token) → begins_expr d t.kind more ≡ takes xs → Parts xs u rest → (mid : List Token) × ExprPart d (t ∷ u) mid × Parts more mid rest
expr_take d t more xs u rest e q =
    from_cond (is_sign t.kind) (takes (want.factor d ∷ want.multipliers d ∷ want.addends d ∷ want.some_relation d ∷ more)) _ xs e (λ f g. let s = sign_found t f in let r = parts_split (want.factor d ∷ want.multipliers d ∷ want.addends d ∷ want.some_relation d ∷ []) more u rest (from_takes (want.factor d ∷ want.multipliers d ∷ want.addends d ∷ want.some_relation d ∷ more) xs u rest g q) in (r.0, record { tree = expr_of (simple_of (Some (record { sign = s.0; span = t.span })) (term_of r.1.trees.0 r.1.trees.1.0) r.1.trees.1.1.0) r.1.trees.1.1.1.0; spelled = cons2 s.1 r.1.spelled; within = omega (arith, r.1.within) }, r.2)) (λ f1 e1. let a = factor_take d t (want.multipliers d ∷ want.addends d ∷ want.some_relation d ∷ more) xs u rest e1 q in let r = parts_split (want.multipliers d ∷ want.addends d ∷ want.some_relation d ∷ []) more a.0 rest a.2 in (r.0, record { tree = expr_of (simple_of None (term_of a.1.tree r.1.trees.0) r.1.trees.1.0) r.1.trees.1.1.0; spelled = a.1.spelled ∙ ap (print_factor a.1.tree) r.1.spelled; within = omega (arith, a.1.within, r.1.within) }, r.2))

take_multipliers : (d : ℕ) → Taken (want.multipliers d)
take_multipliers d t u rest xs e q = from_allows (eqb (reach t.kind) 8) (term_parts d) xs u rest e q (λ f p. let o = mul_found t f in record { tree = more_multipliers o.0 t.span p.trees.0 p.trees.1.0; spelled = cons2 o.1 p.spelled; within = omega (arith, p.within) })

take_addends : (d : ℕ) → Taken (want.addends d)
take_addends d t u rest xs e q = from_allows (eqb (reach t.kind) 7) (term_parts d ++ want.addends d ∷ []) xs u rest e q (λ f p. let o = add_found t f in record { tree = more_addends o.0 t.span (term_of p.trees.0 p.trees.1.0) p.trees.1.1.0; spelled = cons2 o.1 p.spelled; within = omega (arith, p.within) })

take_some_relation : (d : ℕ) → Taken (want.some_relation d)
take_some_relation d t u rest xs e q = from_allows (eqb (reach t.kind) 6) (simple_parts d) xs u rest e q (λ f p. let o = relator_found t f in record { tree = relation_of o.0 t.span (simple_of p.trees.0 (term_of p.trees.1.0 p.trees.1.1.0) p.trees.1.1.1.0); spelled = cons2 o.1 p.spelled; within = omega (arith, p.within) })

take_rest_of_set : (d : ℕ) → Taken (want.rest_of_set d)
take_rest_of_set d t u rest xs e q =
    from_cond (is_symbol symbols.CloseBrace t.kind) (takes []) _ xs e (λ f g. let p = from_takes [] xs u rest g q in record { tree = (no_elements, t.span); spelled = cons2 (symbol_found symbols.CloseBrace t f) p.spelled; within = omega arith }) (λ f1 e1. let r = expr_take d t (want.some_upper d ∷ want.elements d ∷ want.symbol symbols.CloseBrace ∷ []) xs u rest e1 q in record { tree = (some_elements (element_of r.1.tree r.2.trees.0) r.2.trees.1.0, r.2.trees.1.1.0); spelled = r.1.spelled ∙ ap (print_expr r.1.tree) r.2.spelled; within = omega (arith, r.1.within, r.2.within) })

take_some_upper : (d : ℕ) → Taken (want.some_upper d)
take_some_upper d t u rest xs e q = from_allows (is_symbol symbols.DotDot t.kind) (expr_parts d) xs u rest e q (λ f p. record { tree = upper_of t.span (expr_at p.trees); spelled = cons2 (symbol_found symbols.DotDot t f) p.spelled; within = omega (arith, p.within) })

take_elements : (d : ℕ) → Taken (want.elements d)
take_elements d t u rest xs e q = from_allows (is_symbol symbols.Comma t.kind) (element_parts d ++ want.elements d ∷ []) xs u rest e q (λ f p. record { tree = more_elements t.span (element_of (expr_at p.trees) (behind p.trees).0) (behind p.trees).1.0; spelled = cons2 (symbol_found symbols.Comma t f) p.spelled; within = omega (arith, p.within) })

take_selectors : (d : ℕ) → Taken (want.selectors d)
take_selectors d t u rest xs e q =
    from_cond (is_symbol symbols.Period t.kind) (takes (want.ident ∷ want.selectors d ∷ [])) _ xs e (λ f g. let p = from_takes (want.ident ∷ want.selectors d ∷ []) xs u rest g q in record { tree = more_selectors (field_selector (record { period = t.span; name = p.trees.0 })) p.trees.1.0; spelled = cons2 (symbol_found symbols.Period t f) p.spelled; within = omega (arith, p.within) }) (λ f1 e1. from_cond (is_symbol symbols.OpenBracket t.kind) (deeper d (λ n. exprs_parts n ++ want.symbol symbols.CloseBracket ∷ want.selectors d ∷ [])) _ xs e1 (λ f g. from_deeper d (λ n. exprs_parts n ++ want.symbol symbols.CloseBracket ∷ want.selectors d ∷ []) xs u rest g q (λ n j p. record { tree = more_selectors (index_selector t.span (exprs_of (expr_at p.trees) (behind p.trees).0) (behind p.trees).1.0) (behind p.trees).1.1.0; spelled = cons2 (symbol_found symbols.OpenBracket t f) p.spelled; within = omega (arith, j, p.within) })) (λ f2 e2. from_cond (is_symbol symbols.OpenParen t.kind) (deeper d (λ n. want.rest_of_call n ∷ want.selectors d ∷ [])) _ xs e2 (λ f g. from_deeper d (λ n. want.rest_of_call n ∷ want.selectors d ∷ []) xs u rest g q (λ n j p. record { tree = more_selectors (call_selector t.span p.trees.0.0 p.trees.0.1) p.trees.1.0; spelled = cons2 (symbol_found symbols.OpenParen t f) p.spelled; within = omega (arith, j, p.within) })) (λ f3 e3. from_passes xs e3)))

take_rest_of_call : (d : ℕ) → Taken (want.rest_of_call d)
take_rest_of_call d t u rest xs e q =
    from_cond (is_symbol symbols.CloseParen t.kind) (takes []) _ xs e (λ f g. let p = from_takes [] xs u rest g q in record { tree = (no_arguments, t.span); spelled = cons2 (symbol_found symbols.CloseParen t f) p.spelled; within = omega arith }) (λ f1 e1. let r = expr_take d t (want.exprs d ∷ want.symbol symbols.CloseParen ∷ []) xs u rest e1 q in record { tree = (some_arguments (exprs_of r.1.tree r.2.trees.0), r.2.trees.1.0); spelled = r.1.spelled ∙ ap (print_expr r.1.tree) r.2.spelled; within = omega (arith, r.1.within, r.2.within) })

take_exprs : (d : ℕ) → Taken (want.exprs d)
take_exprs d t u rest xs e q = from_allows (is_symbol symbols.Comma t.kind) (exprs_parts d) xs u rest e q (λ f p. record { tree = more_exprs t.span (expr_at p.trees) (behind p.trees).0; spelled = cons2 (symbol_found symbols.Comma t f) p.spelled; within = omega (arith, p.within) })

-- ---- types

take_type_part : (d : ℕ) → Taken (want.type_part d)
take_type_part d t u rest xs e q =
    from_cond (is_ident t.kind) (takes (want.some_member ∷ [])) _ xs e (λ f g. let i = ident_found t f in let p = from_takes (want.some_member ∷ []) xs u rest g q in record { tree = named_type (record { first = i.0; member = p.trees.0 }); spelled = cons2 i.1 p.spelled; within = omega arith }) (λ f1 e1. from_cond (is_word words.Array t.kind) (deeper d (λ n. exprs_parts n ++ want.word words.Of ∷ want.type_part n ∷ [])) _ xs e1 (λ f g. from_deeper d (λ n. exprs_parts n ++ want.word words.Of ∷ want.type_part n ∷ []) xs u rest g q (λ n j p. record { tree = array_type t.span (exprs_of (expr_at p.trees) (behind p.trees).0) (behind p.trees).1.0 (behind p.trees).1.1.0; spelled = cons2 (word_found words.Array t f) p.spelled; within = omega (arith, j, p.within) })) (λ f2 e2. from_cond (is_word words.Record t.kind) (deeper d (λ n. want.some_base ∷ want.rest_of_record n ∷ [])) _ xs e2 (λ f g. from_deeper d (λ n. want.some_base ∷ want.rest_of_record n ∷ []) xs u rest g q (λ n j p. record { tree = record_type (record_of t.span p.trees.0 p.trees.1.0.0 p.trees.1.0.1); spelled = cons2 (word_found words.Record t f) p.spelled; within = omega (arith, j, p.within) })) (λ f3 e3. from_refuses xs e3)))

take_some_base : Taken want.some_base
take_some_base t u rest xs e q = from_allows (is_symbol symbols.OpenParen t.kind) (qualident_parts ++ want.symbol symbols.CloseParen ∷ []) xs u rest e q (λ f p. record { tree = Some (record { opening = t.span; name = record { first = p.trees.0; member = p.trees.1.0 }; closing = p.trees.1.1.0 }); spelled = cons2 (symbol_found symbols.OpenParen t f) p.spelled; within = omega arith })

take_rest_of_record : (d : ℕ) → Taken (want.rest_of_record d)
take_rest_of_record d t u rest xs e q =
    from_cond (is_word words.End t.kind) (takes []) _ xs e (λ f g. let p = from_takes [] xs u rest g q in record { tree = (no_fields, t.span); spelled = cons2 (word_found words.End t f) p.spelled; within = omega arith }) (λ f1 e1. from_needs (is_ident t.kind) (want.some_mark ∷ want.ident_defs ∷ want.symbol symbols.Colon ∷ want.type_part d ∷ want.fields d ∷ want.word words.End ∷ []) xs u rest e1 q (λ f p. let i = ident_found t f in record { tree = (some_fields (fields_of (record { first = record { name = i.0; export = p.trees.0 }; rest = p.trees.1.0 }) p.trees.1.1.0 p.trees.1.1.1.0) p.trees.1.1.1.1.0, p.trees.1.1.1.1.1.0); spelled = cons2 i.1 p.spelled; within = omega (arith, p.within) }))

take_fields : (d : ℕ) → Taken (want.fields d)
take_fields d t u rest xs e q = from_allows (is_symbol symbols.Semicolon t.kind) (fields_parts d ++ want.fields d ∷ []) xs u rest e q (λ f p. record { tree = more_fields t.span (fields_of (record { first = record { name = p.trees.0; export = p.trees.1.0 }; rest = p.trees.1.1.0 }) p.trees.1.1.1.0 p.trees.1.1.1.1.0) p.trees.1.1.1.1.1.0; spelled = cons2 (symbol_found symbols.Semicolon t f) p.spelled; within = omega (arith, p.within) })

-- ---- statements

take_value : Taken want.value
take_value t u rest xs e q =
    from_cond (is_literal t.kind) (takes []) _ xs e (λ f g. let v = value_found t f in let p = from_takes [] xs u rest g q in record { tree = v.0; spelled = v.1 u ∙ ap (print_value v.0) p.spelled; within = omega arith }) (λ f1 e1. from_needs (is_ident t.kind) (want.some_member ∷ []) xs u rest e1 q (λ f p. let i = ident_found t f in record { tree = values.Named (record { first = i.0; member = p.trees.0 }); spelled = cons2 i.1 p.spelled; within = omega arith }))

take_some_label_upper : Taken want.some_label_upper
take_some_label_upper t u rest xs e q = from_allows (is_symbol symbols.DotDot t.kind) (want.value ∷ []) xs u rest e q (λ f p. record { tree = Some (record { dots = t.span; last = p.trees.0 }); spelled = cons2 (symbol_found symbols.DotDot t f) p.spelled; within = omega arith })

take_labels : Taken want.labels
take_labels t u rest xs e q = from_allows (is_symbol symbols.Comma t.kind) (label_parts ++ want.labels ∷ []) xs u rest e q (λ f p. record { tree = record { comma = t.span; label = record { first = p.trees.0; upper = p.trees.1.0 } } ∷ p.trees.1.1.0; spelled = cons2 (symbol_found symbols.Comma t f) p.spelled; within = omega arith })

abbrev call_or_assign : Ident → SelectorsTree → Option (Span × ExprTree) → StatementTree
call_or_assign i more None = call_statement (designator_of i more)
call_or_assign i more (Some a) = assign_statement (designator_of i more) a.0 a.1

call_or_assign_part : (d : ℕ) (i : Ident) (more : SelectorsTree) (o : Option (Span × ExprTree)) (ts rest : List Token) → ts ≡ ident_token i ∷ print_selectors more (print_some print_assigned o rest) → depth_of_selectors more ≤ d → depth_of_some (λ a. depth_of_expr a.1) o ≤ d → Part (want.statement d) ts rest
call_or_assign_part d i more None ts rest e h j = record { tree = call_statement (designator_of i more); spelled = e; within = h }
call_or_assign_part d i more (Some a) ts rest e h j = record { tree = assign_statement (designator_of i more) a.0 a.1; spelled = e; within = omega arith }

take_statement : (d : ℕ) → Taken (want.statement d)
take_statement d t u rest xs e q =
    from_cond (is_ident t.kind) (takes (want.selectors d ∷ want.some_assigned d ∷ [])) _ xs e (λ f g. let i = ident_found t f in let p = from_takes (want.selectors d ∷ want.some_assigned d ∷ []) xs u rest g q in call_or_assign_part d i.0 p.trees.0 p.trees.1.0 (t ∷ u) rest (cons2 i.1 p.spelled) p.within.0 p.within.1.0) (λ f1 e1. from_cond (is_word words.If t.kind) (deeper d (λ n. guarded_parts words.Then n ++ want.elsifs words.Then n ∷ want.some_else n ∷ want.word words.End ∷ [])) _ xs e1 (λ f g. from_deeper d (λ n. guarded_parts words.Then n ++ want.elsifs words.Then n ∷ want.some_else n ∷ want.word words.End ∷ []) xs u rest g q (λ n j p. let b = behind p.trees in record { tree = if_statement (if_of (guarded_of t.span (expr_at p.trees) b.0 (statements_of b.1.0 b.1.1.0)) b.1.1.1.0 b.1.1.1.1.0 b.1.1.1.1.1.0); spelled = cons2 (word_found words.If t f) p.spelled; within = omega (arith, j, p.within) })) (λ f2 e2. from_cond (is_word words.Case t.kind) (deeper d (λ n. expr_parts n ++ want.word words.Of ∷ want.arm n ∷ want.arms n ∷ want.word words.End ∷ [])) _ xs e2 (λ f g. from_deeper d (λ n. expr_parts n ++ want.word words.Of ∷ want.arm n ∷ want.arms n ∷ want.word words.End ∷ []) xs u rest g q (λ n j p. let b = behind p.trees in record { tree = case_statement (case_of t.span (expr_at p.trees) b.0 b.1.0 b.1.1.0 b.1.1.1.0); spelled = cons2 (word_found words.Case t f) p.spelled; within = omega (arith, j, p.within) })) (λ f3 e3. from_cond (is_word words.While t.kind) (deeper d (λ n. guarded_parts words.Do n ++ want.elsifs words.Do n ∷ want.word words.End ∷ [])) _ xs e3 (λ f g. from_deeper d (λ n. guarded_parts words.Do n ++ want.elsifs words.Do n ∷ want.word words.End ∷ []) xs u rest g q (λ n j p. let b = behind p.trees in record { tree = while_statement (while_of (guarded_of t.span (expr_at p.trees) b.0 (statements_of b.1.0 b.1.1.0)) b.1.1.1.0 b.1.1.1.1.0); spelled = cons2 (word_found words.While t f) p.spelled; within = omega (arith, j, p.within) })) (λ f4 e4. from_cond (is_word words.Repeat t.kind) (deeper d (λ n. statements_parts n ++ want.word words.Until ∷ expr_parts n)) _ xs e4 (λ f g. from_deeper d (λ n. statements_parts n ++ want.word words.Until ∷ expr_parts n) xs u rest g q (λ n j p. record { tree = repeat_statement (repeat_of t.span (statements_of p.trees.0 p.trees.1.0) p.trees.1.1.0 (expr_at p.trees.1.1.1)); spelled = cons2 (word_found words.Repeat t f) p.spelled; within = omega (arith, j, p.within) })) (λ f5 e5. from_cond (is_word words.For t.kind) (deeper d (λ n. want.ident ∷ want.symbol symbols.Becomes ∷ expr_parts n ++ want.word words.To ∷ expr_parts n ++ want.some_step n ∷ want.word words.Do ∷ statements_parts n ++ want.word words.End ∷ [])) _ xs e5 (λ f g. from_deeper d (λ n. want.ident ∷ want.symbol symbols.Becomes ∷ expr_parts n ++ want.word words.To ∷ expr_parts n ++ want.some_step n ∷ want.word words.Do ∷ statements_parts n ++ want.word words.End ∷ []) xs u rest g q (λ n j p. let b = behind p.trees.1.1 in let c = behind b.1 in record { tree = for_statement (for_of t.span p.trees.0 p.trees.1.0 (expr_at p.trees.1.1) b.0 (expr_at b.1) c.0 c.1.0 (statements_of c.1.1.0 c.1.1.1.0) c.1.1.1.1.0); spelled = cons2 (word_found words.For t f) p.spelled; within = omega (arith, j, p.within) })) (λ f6 e6. from_passes xs e6))))))

take_some_assigned : (d : ℕ) → Taken (want.some_assigned d)
take_some_assigned d t u rest xs e q = from_allows (is_symbol symbols.Becomes t.kind) (expr_parts d) xs u rest e q (λ f p. record { tree = Some (t.span, expr_at p.trees); spelled = cons2 (symbol_found symbols.Becomes t f) p.spelled; within = omega (arith, p.within) })

take_statements : (d : ℕ) → Taken (want.statements d)
take_statements d t u rest xs e q = from_allows (is_symbol symbols.Semicolon t.kind) (statements_parts d) xs u rest e q (λ f p. record { tree = more_statements t.span p.trees.0 p.trees.1.0; spelled = cons2 (symbol_found symbols.Semicolon t f) p.spelled; within = omega (arith, p.within) })

take_elsifs : (w : Word) (d : ℕ) → Taken (want.elsifs w d)
take_elsifs w d t u rest xs e q = from_allows (is_word words.Elsif t.kind) (guarded_parts w d ++ want.elsifs w d ∷ []) xs u rest e q (λ f p. let b = behind p.trees in record { tree = more_elsifs (guarded_of t.span (expr_at p.trees) b.0 (statements_of b.1.0 b.1.1.0)) b.1.1.1.0; spelled = cons2 (word_found words.Elsif t f) p.spelled; within = omega (arith, p.within) })

take_some_else : (d : ℕ) → Taken (want.some_else d)
take_some_else d t u rest xs e q = from_allows (is_word words.Else t.kind) (statements_parts d) xs u rest e q (λ f p. record { tree = else_of t.span (statements_of p.trees.0 p.trees.1.0); spelled = cons2 (word_found words.Else t f) p.spelled; within = omega (arith, p.within) })

take_arm : (d : ℕ) → Taken (want.arm d)
take_arm d t u rest xs e q =
    from_cond (is_literal t.kind) (takes (want.some_label_upper ∷ want.labels ∷ want.symbol symbols.Colon ∷ statements_parts d)) _ xs e (λ f g. let v = value_found t f in let p = from_takes (want.some_label_upper ∷ want.labels ∷ want.symbol symbols.Colon ∷ statements_parts d) xs u rest g q in record { tree = labelled_arm (record { first = record { first = v.0; upper = p.trees.0 }; rest = p.trees.1.0 }) p.trees.1.1.0 (statements_of p.trees.1.1.1.0 p.trees.1.1.1.1.0); spelled = v.1 u ∙ ap (print_value v.0) p.spelled; within = omega (arith, p.within) }) (λ f1 e1. from_allows (is_ident t.kind) (want.some_member ∷ want.some_label_upper ∷ want.labels ∷ want.symbol symbols.Colon ∷ statements_parts d) xs u rest e1 q (λ f p. let i = ident_found t f in record { tree = labelled_arm (record { first = record { first = values.Named (record { first = i.0; member = p.trees.0 }); upper = p.trees.1.0 }; rest = p.trees.1.1.0 }) p.trees.1.1.1.0 (statements_of p.trees.1.1.1.1.0 p.trees.1.1.1.1.1.0); spelled = cons2 i.1 p.spelled; within = omega (arith, p.within) }))

take_arms : (d : ℕ) → Taken (want.arms d)
take_arms d t u rest xs e q = from_allows (is_symbol symbols.Bar t.kind) (want.arm d ∷ want.arms d ∷ []) xs u rest e q (λ f p. record { tree = more_arms t.span p.trees.0 p.trees.1.0; spelled = cons2 (symbol_found symbols.Bar t f) p.spelled; within = omega (arith, p.within) })

take_some_step : (d : ℕ) → Taken (want.some_step d)
take_some_step d t u rest xs e q = from_allows (is_word words.By t.kind) (expr_parts d) xs u rest e q (λ f p. record { tree = step_of t.span (expr_at p.trees); spelled = cons2 (word_found words.By t f) p.spelled; within = omega (arith, p.within) })

-- ---- declarations

take_some_constants : (d : ℕ) → Taken (want.some_constants d)
take_some_constants d t u rest xs e q = from_allows (is_word words.Const t.kind) (want.constants d ∷ []) xs u rest e q (λ f p. record { tree = Some (record { word = t.span; items = p.trees.0 }); spelled = cons2 (word_found words.Const t f) p.spelled; within = omega (arith, p.within) })

take_constants : (d : ℕ) → Taken (want.constants d)
take_constants d t u rest xs e q = from_allows (is_ident t.kind) (want.some_mark ∷ want.symbol symbols.Equal ∷ expr_parts d ++ want.symbol symbols.Semicolon ∷ want.constants d ∷ []) xs u rest e q (λ f p. let i = ident_found t f in let b = behind p.trees.1.1 in record { tree = record { name = record { name = i.0; export = p.trees.0 }; equal = p.trees.1.0; value = expr_at p.trees.1.1; semicolon = b.0 } ∷ b.1.0; spelled = cons2 i.1 p.spelled; within = omega (arith, p.within) })

take_some_types : (d : ℕ) → Taken (want.some_types d)
take_some_types d t u rest xs e q = from_allows (is_word words.Type t.kind) (want.types d ∷ []) xs u rest e q (λ f p. record { tree = Some (record { word = t.span; items = p.trees.0 }); spelled = cons2 (word_found words.Type t f) p.spelled; within = omega (arith, p.within) })

take_types : (d : ℕ) → Taken (want.types d)
take_types d t u rest xs e q = from_allows (is_ident t.kind) (want.some_mark ∷ want.symbol symbols.Equal ∷ want.type_part d ∷ want.symbol symbols.Semicolon ∷ want.types d ∷ []) xs u rest e q (λ f p. let i = ident_found t f in record { tree = record { name = record { name = i.0; export = p.trees.0 }; equal = p.trees.1.0; of_type = p.trees.1.1.0; semicolon = p.trees.1.1.1.0 } ∷ p.trees.1.1.1.1.0; spelled = cons2 i.1 p.spelled; within = omega (arith, p.within) })

take_some_variables : (d : ℕ) → Taken (want.some_variables d)
take_some_variables d t u rest xs e q = from_allows (is_word words.Var t.kind) (want.variables d ∷ []) xs u rest e q (λ f p. record { tree = Some (record { word = t.span; items = p.trees.0 }); spelled = cons2 (word_found words.Var t f) p.spelled; within = omega (arith, p.within) })

take_variables : (d : ℕ) → Taken (want.variables d)
take_variables d t u rest xs e q = from_allows (is_ident t.kind) (want.some_mark ∷ want.ident_defs ∷ want.symbol symbols.Colon ∷ want.type_part d ∷ want.symbol symbols.Semicolon ∷ want.variables d ∷ []) xs u rest e q (λ f p. let i = ident_found t f in record { tree = record { names = record { first = record { name = i.0; export = p.trees.0 }; rest = p.trees.1.0 }; colon = p.trees.1.1.0; of_type = p.trees.1.1.1.0; semicolon = p.trees.1.1.1.1.0 } ∷ p.trees.1.1.1.1.1.0; spelled = cons2 i.1 p.spelled; within = omega (arith, p.within) })

take_some_local_constants : (d : ℕ) → Taken (want.some_local_constants d)
take_some_local_constants d t u rest xs e q = from_allows (is_word words.Const t.kind) (want.local_constants d ∷ []) xs u rest e q (λ f p. record { tree = Some (record { word = t.span; items = p.trees.0 }); spelled = cons2 (word_found words.Const t f) p.spelled; within = omega (arith, p.within) })

take_local_constants : (d : ℕ) → Taken (want.local_constants d)
take_local_constants d t u rest xs e q = from_allows (is_ident t.kind) (want.symbol symbols.Equal ∷ expr_parts d ++ want.symbol symbols.Semicolon ∷ want.local_constants d ∷ []) xs u rest e q (λ f p. let i = ident_found t f in let b = behind p.trees.1 in record { tree = record { name = i.0; equal = p.trees.0; value = expr_at p.trees.1; semicolon = b.0 } ∷ b.1.0; spelled = cons2 i.1 p.spelled; within = omega (arith, p.within) })

take_some_local_variables : (d : ℕ) → Taken (want.some_local_variables d)
take_some_local_variables d t u rest xs e q = from_allows (is_word words.Var t.kind) (want.local_variables d ∷ []) xs u rest e q (λ f p. record { tree = Some (record { word = t.span; items = p.trees.0 }); spelled = cons2 (word_found words.Var t f) p.spelled; within = omega (arith, p.within) })

take_local_variables : (d : ℕ) → Taken (want.local_variables d)
take_local_variables d t u rest xs e q = from_allows (is_ident t.kind) (want.idents ∷ want.symbol symbols.Colon ∷ want.type_part d ∷ want.symbol symbols.Semicolon ∷ want.local_variables d ∷ []) xs u rest e q (λ f p. let i = ident_found t f in record { tree = record { names = record { first = i.0; rest = p.trees.0 }; colon = p.trees.1.0; of_type = p.trees.1.1.0; semicolon = p.trees.1.1.1.0 } ∷ p.trees.1.1.1.1.0; spelled = cons2 i.1 p.spelled; within = omega (arith, p.within) })

-- ---- procedures

take_some_by_var : Taken want.some_by_var
take_some_by_var t u rest xs e q = from_allows (is_word words.Var t.kind) [] xs u rest e q (λ f p. record { tree = Some t.span; spelled = cons2 (word_found words.Var t f) p.spelled; within = omega arith })

take_opens : (d : ℕ) → Taken (want.opens d)
take_opens d t u rest xs e q = from_cond (is_word words.Array t.kind) (deeper d (λ n. want.word words.Of ∷ want.opens n ∷ [])) _ xs e (λ f g. from_deeper d (λ n. want.word words.Of ∷ want.opens n ∷ []) xs u rest g q (λ n j p. record { tree = record { word = t.span; of = p.trees.0 } ∷ p.trees.1.0; spelled = cons2 (word_found words.Array t f) p.spelled; within = omega (arith, j, p.within) })) (λ f1 e1. from_passes xs e1)

take_sections : (d : ℕ) → Taken (want.sections d)
take_sections d t u rest xs e q = from_allows (is_symbol symbols.Semicolon t.kind) (section_parts d ++ want.sections d ∷ []) xs u rest e q (λ f p. let b = p.trees.1.1 in record { tree = record { semicolon = t.span; section = record { by_var = p.trees.0; names = record { first = p.trees.1.0; rest = b.0 }; colon = b.1.0; of_type = record { opens = b.1.1.0; name = record { first = b.1.1.1.0; member = b.1.1.1.1.0 } } } } ∷ b.1.1.1.1.1.0; spelled = cons2 (symbol_found symbols.Semicolon t f) p.spelled; within = omega (arith, p.within) })

take_rest_of_formals : (d : ℕ) → Taken (want.rest_of_formals d)
take_rest_of_formals d t u rest xs e q =
    from_cond (is_symbol symbols.CloseParen t.kind) (takes []) _ xs e (λ f g. let p = from_takes [] xs u rest g q in record { tree = (None, t.span); spelled = cons2 (symbol_found symbols.CloseParen t f) p.spelled; within = omega arith }) (λ f1 e1. from_cond (is_word words.Var t.kind) (takes (want.ident ∷ section_tail d ++ want.sections d ∷ want.symbol symbols.CloseParen ∷ [])) _ xs e1 (λ f g. let p = from_takes (want.ident ∷ section_tail d ++ want.sections d ∷ want.symbol symbols.CloseParen ∷ []) xs u rest g q in let b = p.trees.1 in record { tree = (Some (record { first = record { by_var = Some t.span; names = record { first = p.trees.0; rest = b.0 }; colon = b.1.0; of_type = record { opens = b.1.1.0; name = record { first = b.1.1.1.0; member = b.1.1.1.1.0 } } }; rest = b.1.1.1.1.1.0 }), b.1.1.1.1.1.1.0); spelled = cons2 (word_found words.Var t f) p.spelled; within = omega (arith, p.within) }) (λ f2 e2. from_needs (is_ident t.kind) (section_tail d ++ want.sections d ∷ want.symbol symbols.CloseParen ∷ []) xs u rest e2 q (λ f p. let i = ident_found t f in let b = p.trees in record { tree = (Some (record { first = record { by_var = None; names = record { first = i.0; rest = b.0 }; colon = b.1.0; of_type = record { opens = b.1.1.0; name = record { first = b.1.1.1.0; member = b.1.1.1.1.0 } } }; rest = b.1.1.1.1.1.0 }), b.1.1.1.1.1.1.0); spelled = cons2 i.1 p.spelled; within = omega (arith, p.within) })))

take_some_formals : (d : ℕ) → Taken (want.some_formals d)
take_some_formals d t u rest xs e q = from_allows (is_symbol symbols.OpenParen t.kind) (want.rest_of_formals d ∷ want.some_result ∷ []) xs u rest e q (λ f p. record { tree = Some (record { opening = t.span; sections = p.trees.0.0; closing = p.trees.0.1; result_type = p.trees.1.0 }); spelled = cons2 (symbol_found symbols.OpenParen t f) p.spelled; within = omega (arith, p.within) })

take_some_result : Taken want.some_result
take_some_result t u rest xs e q = from_allows (is_symbol symbols.Colon t.kind) qualident_parts xs u rest e q (λ f p. record { tree = Some (record { colon = t.span; name = record { first = p.trees.0; member = p.trees.1.0 } }); spelled = cons2 (symbol_found symbols.Colon t f) p.spelled; within = omega arith })

take_some_body : (d : ℕ) → Taken (want.some_body d)
take_some_body d t u rest xs e q = from_allows (is_word words.Begin t.kind) (statements_parts d) xs u rest e q (λ f p. record { tree = Some (record { word = t.span; statements = statements_of p.trees.0 p.trees.1.0 }); spelled = cons2 (word_found words.Begin t f) p.spelled; within = omega (arith, p.within) })

take_some_return : (d : ℕ) → Taken (want.some_return d)
take_some_return d t u rest xs e q = from_allows (is_word words.Return t.kind) (expr_parts d) xs u rest e q (λ f p. record { tree = Some (record { word = t.span; value = expr_at p.trees }); spelled = cons2 (word_found words.Return t f) p.spelled; within = omega (arith, p.within) })

take_procedures : (d : ℕ) → Taken (want.procedures d)
take_procedures d t u rest xs e q = from_cond (is_word words.Procedure t.kind) (deeper d (λ n. procedure_parts n ++ want.symbol symbols.Semicolon ∷ want.procedures d ∷ [])) _ xs e (λ f g. from_deeper d (λ n. procedure_parts n ++ want.symbol symbols.Semicolon ∷ want.procedures d ∷ []) xs u rest g q (λ n j p. let b = p.trees.1.1.1.1 in let c = b.1.1.1.1 in record { tree = record { procedure = record { word = t.span; name = record { name = p.trees.0; export = p.trees.1.0 }; formals = p.trees.1.1.0; semicolon = p.trees.1.1.1.0; locals = record { constants = b.0; variables = b.1.0 }; body = b.1.1.0; returns = b.1.1.1.0; end = c.0; end_name = c.1.0 }; semicolon = c.1.1.0 } ∷ c.1.1.1.0; spelled = cons2 (word_found words.Procedure t f) p.spelled; within = omega (arith, j, p.within) })) (λ f1 e1. from_passes xs e1)

-- ---- imports

take_some_alias : Taken want.some_alias
take_some_alias t u rest xs e q = from_allows (is_symbol symbols.Becomes t.kind) (want.ident ∷ []) xs u rest e q (λ f p. record { tree = Some (record { becomes = t.span; imported = p.trees.0 }); spelled = cons2 (symbol_found symbols.Becomes t f) p.spelled; within = omega arith })

take_imports : Taken want.imports
take_imports t u rest xs e q = from_allows (is_symbol symbols.Comma t.kind) (import_parts ++ want.imports ∷ []) xs u rest e q (λ f p. record { tree = record { comma = t.span; import = record { name = p.trees.0; alias = p.trees.1.0 } } ∷ p.trees.1.1.0; spelled = cons2 (symbol_found symbols.Comma t f) p.spelled; within = omega arith })

take_some_imports : Taken want.some_imports
take_some_imports t u rest xs e q = from_allows (is_word words.Import t.kind) (import_parts ++ want.imports ∷ want.symbol symbols.Semicolon ∷ []) xs u rest e q (λ f p. record { tree = Some (record { word = t.span; first = record { name = p.trees.0; alias = p.trees.1.0 }; rest = p.trees.1.1.0; semicolon = p.trees.1.1.1.0 }); spelled = cons2 (word_found words.Import t f) p.spelled; within = omega arith })

-- ---- every part

pub part_taken : (x : Expected) → Taken x
part_taken want.ident = take_ident
part_taken (want.word w) = take_word w
part_taken (want.symbol s) = take_symbol s
part_taken want.some_member = take_some_member
part_taken want.some_mark = take_some_mark
part_taken want.ident_defs = take_ident_defs
part_taken want.idents = take_idents
part_taken want.some_sign = take_some_sign
part_taken (want.factor d) = take_factor d
part_taken (want.multipliers d) = take_multipliers d
part_taken (want.addends d) = take_addends d
part_taken (want.some_relation d) = take_some_relation d
part_taken (want.rest_of_set d) = take_rest_of_set d
part_taken (want.some_upper d) = take_some_upper d
part_taken (want.elements d) = take_elements d
part_taken (want.selectors d) = take_selectors d
part_taken (want.rest_of_call d) = take_rest_of_call d
part_taken (want.exprs d) = take_exprs d
part_taken (want.type_part d) = take_type_part d
part_taken want.some_base = take_some_base
part_taken (want.rest_of_record d) = take_rest_of_record d
part_taken (want.fields d) = take_fields d
part_taken want.value = take_value
part_taken want.some_label_upper = take_some_label_upper
part_taken want.labels = take_labels
part_taken (want.statement d) = take_statement d
part_taken (want.some_assigned d) = take_some_assigned d
part_taken (want.statements d) = take_statements d
part_taken (want.elsifs w d) = take_elsifs w d
part_taken (want.some_else d) = take_some_else d
part_taken (want.arm d) = take_arm d
part_taken (want.arms d) = take_arms d
part_taken (want.some_step d) = take_some_step d
part_taken (want.some_constants d) = take_some_constants d
part_taken (want.constants d) = take_constants d
part_taken (want.some_types d) = take_some_types d
part_taken (want.types d) = take_types d
part_taken (want.some_variables d) = take_some_variables d
part_taken (want.variables d) = take_variables d
part_taken (want.some_local_constants d) = take_some_local_constants d
part_taken (want.local_constants d) = take_local_constants d
part_taken (want.some_local_variables d) = take_some_local_variables d
part_taken (want.local_variables d) = take_local_variables d
part_taken want.some_by_var = take_some_by_var
part_taken (want.opens d) = take_opens d
part_taken (want.sections d) = take_sections d
part_taken (want.rest_of_formals d) = take_rest_of_formals d
part_taken (want.some_formals d) = take_some_formals d
part_taken want.some_result = take_some_result
part_taken (want.some_body d) = take_some_body d
part_taken (want.some_return d) = take_some_return d
part_taken (want.procedures d) = take_procedures d
part_taken want.some_alias = take_some_alias
part_taken want.imports = take_imports
part_taken want.some_imports = take_some_imports
