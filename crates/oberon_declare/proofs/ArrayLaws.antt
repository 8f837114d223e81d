-- Arrays of several lengths, by the list of the lengths.
use Rattle.std.specs.Prelude.{ℕ, ◌≡◌, Bool, true, false, List, [], ◌∷◌, ◌++◌, Option, Some, None, if◌then◌else◌, refl}
use Rattle.std.proofs.Common.{◌≤◌, length, drop, ap, sym, ◌∙◌}
use Rattle.std.proofs.lemmas.List.{at_drop_all, append-nil}
use Rattle.oberon_tree.specs.declared.expression.Exprs.{Exprs, out-Exprs}
use Rattle.oberon_tree.specs.declared.expression.NextExpr.{NextExpr}
use Rattle.oberon_tree.specs.Memory.{expr_tree, exprs_tree, more_exprs_list}
use Rattle.oberon_tree.proofs.ExpressionMemory.{exprs_out}
use Rattle.ob_text.specs.declared.span.Span.{Span}
use Rattle.oberon_tree.specs.Trees.{ExprsTree, exprs_of, MoreExprsTree, no_more_exprs, more_exprs}
use Rattle.oberon_types.specs.Types.{TyTree, unknown_ty}
use Rattle.oberon_types.specs.Sizes.{too_large, within}
use Rattle.oberon_rules.specs.Operators.{is_bad}
use Rattle.oberon_rules.specs.Expressions.{or_unknown}
use Rattle.oberon_rules.specs.Scopes.{Scopes, Said}
use Rattle.oberon_rules.specs.TypeRules.{constant_is, length_meant, length_says, limited, array_of, array_row, dimensions, array_is, dimensions_say, array_says}
use Rattle.oberon_declare.specs.Arrays.{more_lengths, lengths_of, more_lengths_say, lengths_say, arrays_is, arrays_row}

-- ---- a type that is too large

limit_by : (b : Bool) (t : TyTree) → or_unknown (if b then None else Some t) ≡ (if b then unknown_ty else t)
limit_by true t = refl
limit_by false t = refl

bad_by : (b : Bool) (t : TyTree) → is_bad (if b then None else Some t) ≡ b
bad_by true t = refl
bad_by false t = refl

pub limited_is : (me : List ℕ) (t : TyTree) → or_unknown (within me t) ≡ limited me t
limited_is me t = limit_by (too_large me t) t

pub limited_bad : (me : List ℕ) (t : TyTree) → is_bad (within me t) ≡ too_large me t
limited_bad me t = bad_by (too_large me t) t

-- ---- the definitions by lists

pub dimensions_by : (me : List ℕ) (s : Scopes) (more : MoreExprsTree) (t : TyTree) → arrays_is me (more_lengths me s more) t ≡ dimensions me s more t
dimensions_by me s no_more_exprs t = refl
dimensions_by me s (more_exprs comma e more) t = ap (array_of me (length_meant (constant_is me s e))) (dimensions_by me s more t)

pub array_by : (me : List ℕ) (s : Scopes) (es : ExprsTree) (t : TyTree) → arrays_is me (lengths_of me s es) t ≡ array_is me s es t
array_by me s (exprs_of e more) t = ap (array_of me (length_meant (constant_is me s e))) (dimensions_by me s more t)

pub dimensions_say_by : (me : List ℕ) (s : Scopes) (more : MoreExprsTree) (t : TyTree) (word : Span) (rest : List Said) → more_lengths_say me s more (arrays_row me (more_lengths me s more) t word rest) ≡ dimensions_say me s more t word rest
dimensions_say_by me s no_more_exprs t word rest = refl
dimensions_say_by me s (more_exprs comma e more) t word rest =
    let n = length_meant (constant_is me s e) in
    ap (λ u. length_says me s e (more_lengths_say me s more (arrays_row me (more_lengths me s more) t word (array_row me n u word rest)))) (dimensions_by me s more t)
    ∙ ap (length_says me s e) (dimensions_say_by me s more t word (array_row me n (dimensions me s more t) word rest))

pub array_says_by : (me : List ℕ) (s : Scopes) (es : ExprsTree) (t : TyTree) (word : Span) (rest : List Said) → lengths_say me s es (arrays_row me (lengths_of me s es) t word rest) ≡ array_says me s es t word rest
array_says_by me s (exprs_of e more) t word rest =
    let n = length_meant (constant_is me s e) in
    ap (λ u. length_says me s e (more_lengths_say me s more (arrays_row me (more_lengths me s more) t word (array_row me n u word rest)))) (dimensions_by me s more t)
    ∙ ap (length_says me s e) (dimensions_say_by me s more t word (array_row me n (dimensions me s more t) word rest))

-- ---- the last length is the innermost

pub arrays_last : (me : List ℕ) (ns : List (Option ℕ)) (n : Option ℕ) (t : TyTree) → arrays_is me (ns ++ n ∷ []) t ≡ arrays_is me ns (array_of me n t)
arrays_last me [] n t = refl
arrays_last me (m ∷ ns) n t = ap (array_of me m) (arrays_last me ns n t)

pub rows_last : (me : List ℕ) (ns : List (Option ℕ)) (n : Option ℕ) (t : TyTree) (word : Span) (rest : List Said) → arrays_row me (ns ++ n ∷ []) t word rest ≡ array_row me n t word (arrays_row me ns (array_of me n t) word rest)
rows_last me [] n t word rest = refl
rows_last me (m ∷ ns) n t word rest =
    ap (λ u. arrays_row me (ns ++ n ∷ []) t word (array_row me m u word rest)) (arrays_last me ns n t)
    ∙ rows_last me ns n t word (array_row me m (arrays_is me ns (array_of me n t)) word rest)

-- ---- the loops

-- all lengths are found
pub lengths_done : (me : List ℕ) (s : Scopes) (x : Exprs) (items : List NextExpr) (i : ℕ) (found first : List (Option ℕ)) (n : Option ℕ) → length items ≤ i → items ≡ (out-Exprs x).rest.items → found ++ more_lengths me s (more_exprs_list (drop i items)) ≡ first ++ more_lengths me s (more_exprs_list items) → first ≡ [] ++ n ∷ [] → n ≡ length_meant (constant_is me s (expr_tree (out-Exprs x).first)) → found ≡ lengths_of me s (exprs_tree x)
lengths_done me s x items i found first n end same all started is =
    sym (append-nil found)
    ∙ sym (at_drop_all (λ (ys : List NextExpr). found ++ more_lengths me s (more_exprs_list ys)) items i end)
    ∙ all
    ∙ ap (λ (ns : List (Option ℕ)). ns ++ more_lengths me s (more_exprs_list items)) started
    ∙ ap (λ (ys : List NextExpr). n ∷ more_lengths me s (more_exprs_list ys)) same
    ∙ ap (λ (m : Option ℕ). m ∷ more_lengths me s (more_exprs_list (out-Exprs x).rest.items)) is
    ∙ sym (ap (lengths_of me s) (exprs_out x))

pub lengths_said : (me : List ℕ) (s : Scopes) (x : Exprs) (items : List NextExpr) (rest : List Said) → items ≡ (out-Exprs x).rest.items → length_says me s (expr_tree (out-Exprs x).first) (more_lengths_say me s (more_exprs_list items) rest) ≡ lengths_say me s (exprs_tree x) rest
lengths_said me s x items rest same =
    ap (λ (ys : List NextExpr). length_says me s (expr_tree (out-Exprs x).first) (more_lengths_say me s (more_exprs_list ys) rest)) same
    ∙ sym (ap (λ (es : ExprsTree). lengths_say me s es rest) (exprs_out x))

pub lengths_end : (me : List ℕ) (s : Scopes) (items : List NextExpr) (i : ℕ) (rest : List Said) → length items ≤ i → more_lengths_say me s (more_exprs_list (drop i items)) rest ≡ rest
lengths_end me s items i rest end = at_drop_all (λ (ys : List NextExpr). more_lengths_say me s (more_exprs_list ys) rest) items i end

-- one length more is made
pub array_loop : (me : List ℕ) (ns ms : List (Option ℕ)) (n : Option ℕ) (t u : TyTree) → ns ≡ ms ++ n ∷ [] → u ≡ array_of me n t → arrays_is me ms u ≡ arrays_is me ns t
array_loop me ns ms n t u last is = ap (arrays_is me ms) is ∙ sym (arrays_last me ms n t) ∙ ap (λ (ls : List (Option ℕ)). arrays_is me ls t) (sym last)

pub array_loop_rows : (me : List ℕ) (ns ms : List (Option ℕ)) (n : Option ℕ) (t u : TyTree) (word : Span) (rest : List Said) → ns ≡ ms ++ n ∷ [] → u ≡ array_of me n t → arrays_row me ns t word rest ≡ array_row me n t word (arrays_row me ms u word rest)
array_loop_rows me ns ms n t u word rest last is = ap (λ (ls : List (Option ℕ)). arrays_row me ls t word rest) last ∙ rows_last me ms n t word rest ∙ ap (λ (v : TyTree). array_row me n t word (arrays_row me ms v word rest)) (sym is)
