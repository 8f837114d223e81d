-- Types are, with what is seen, what they are with all, seen.
use Rattle.std.specs.Prelude.{ℕ, ◌≡◌, ◌+◌, Bool, true, false, ◌||◌, if◌then◌else◌, List, [], ◌∷◌, is_some, Option, Some, None, refl}
use Rattle.std.proofs.Common.{ap, sym, ◌∙◌}
use Rattle.oberon_tree.specs.declared.leaf.IdentDef.{IdentDef}
use Rattle.oberon_tree.specs.declared.leaf.Member.{Member}
use Rattle.oberon_tree.specs.declared.leaf.Qualident.{Qualident}
use Rattle.oberon_tree.specs.declared.types.Base.{Base}
use Rattle.oberon_tree.specs.Trees.{ExprTree, expr_of, RelationTree, no_relation, relation_of, SimpleTree, simple_of, AddendsTree, no_addends, more_addends, TermTree, term_of, MultipliersTree, no_multipliers, more_multipliers, FactorTree, integer_factor, string_factor, true_factor, false_factor, set_factor, designator_factor, group_factor, negation_factor, set_of, ElementsTree, no_elements, some_elements, MoreElementsTree, no_more_elements, more_elements, ElementTree, element_of, no_upper, upper_of, designator_of, SelectorsTree, no_selectors, more_selectors, field_selector, index_selector, call_selector, no_arguments, some_arguments, ExprsTree, exprs_of, MoreExprsTree, no_more_exprs, more_exprs, TypeTree, named_type, array_type, record_type, FieldListsTree, some_fields, MoreFieldsTree, no_more_fields, more_fields, FieldsTree, fields_of}
use Rattle.oberon_tree.specs.Trees.{record_of as record_text, no_fields as no_lists}
use Rattle.oberon_types.specs.declared.constant.Op.TheVariants as ops
use Rattle.oberon_types.specs.declared.origin.Origin.{Origin}
use Rattle.oberon_types.specs.declared.origin.Step.TheVariants as steps
use Rattle.oberon_types.specs.Types.{TyTree, unknown_ty, integer_ty, byte_ty, char_ty, boolean_ty, set_ty, string_ty, array_ty, open_ty, record_ty, RecordTree, record_of, BaseTree, no_base, base_of, same_name}
use Rattle.oberon_types.specs.Types.{FieldsTree as Fields, no_fields as no_more, more_fields as field_before}
use Rattle.oberon_types.specs.Sizes.{size_of, size_of_record, sees, too_large, field_in, field_of_base, size_of_fields, size_of_base, record_from}
use Rattle.oberon_types.specs.Folding.{ConstTree, RangesTree, PartsTree, fold, binary_const, more_ranges, more_parts, set_const, unary_const}
use Rattle.oberon_rules.specs.Scopes.{Meaning, unknown_meaning, constant_meaning, type_meaning, variable_meaning, procedure_meaning, word_meaning, import_meaning, Scopes}
use Rattle.oberon_rules.specs.Names.{name_is, member_is, member_of, named, type_of_meaning, type_named}
use Rattle.oberon_rules.specs.Constants.{add_op, mul_op, relation_between, signed_const, meaning_const, word_const, expr_const, relation_const, simple_const, addends_const, term_const, multipliers_const, factor_const, designator_const, exprs_const, more_exprs_const, elements_const, more_elements_const, element_const}
use Rattle.oberon_rules.specs.Expressions.{ty_of, expr_is, is_unknown}
use Rattle.oberon_rules.specs.TypeRules.{value_folded, constant_is, length_meant, ident_defs, first_new, limited, array_of, deeper, add_field, is_taken, add_fields, BaseMeant, without_base, with_base, unclear_base, bad_base, base_meant, base_is, base_tree, element_steps, record_is, dimensions, array_is, element_origin, list_origin, type_is, fields_are, more_fields_are, list_is}
use Rattle.oberon_rules.specs.Views.{kept_record, kept_base, kept_fields}
use Rattle.oberon_rules.proofs.Seen.{seen, unknown_seen, size_seen, large_seen, field_in_seen, field_base_seen}
use Rattle.oberon_rules.proofs.AgreeNames.{choose, map_meaning, seen_scopes, name_is_seen, member_seen}
use Rattle.oberon_rules.proofs.AgreeExpressions.{some_seen, ty_of_seen, expr_is_seen}

-- ---- constants

meaning_const_seen : (h : TyTree → TyTree) (m : Meaning) → meaning_const (map_meaning h m) ≡ meaning_const m
meaning_const_seen h unknown_meaning = refl
meaning_const_seen h (constant_meaning v) = refl
meaning_const_seen h (type_meaning t) = refl
meaning_const_seen h (variable_meaning t a) = refl
meaning_const_seen h (procedure_meaning p) = refl
meaning_const_seen h (word_meaning w) = refl
meaning_const_seen h (import_meaning v) = refl

word_const_seen : (h : TyTree → TyTree) (m : Meaning) (x : List ℕ) (ps : PartsTree) → word_const (map_meaning h m) x ps ≡ word_const m x ps
word_const_seen h unknown_meaning x ps = refl
word_const_seen h (constant_meaning v) x ps = refl
word_const_seen h (type_meaning t) x ps = refl
word_const_seen h (variable_meaning t a) x ps = refl
word_const_seen h (procedure_meaning p) x ps = refl
word_const_seen h (word_meaning w) x ps = refl
word_const_seen h (import_meaning v) x ps = refl

mutual
  pub expr_const_seen : (me : List ℕ) (s : Scopes) (e : ExprTree) → expr_const (seen_scopes me s) e ≡ expr_const s e
  expr_const_seen me s (expr_of a r) = ap (λ y. relation_const (seen_scopes me s) y r) (simple_const_seen me s a) ∙ relation_const_seen me s (simple_const s a) r

  relation_const_seen : (me : List ℕ) (s : Scopes) (a : ConstTree) (r : RelationTree) → relation_const (seen_scopes me s) a r ≡ relation_const s a r
  relation_const_seen me s a no_relation = refl
  relation_const_seen me s a (relation_of o place b) = ap (λ y. relation_between o a y) (simple_const_seen me s b)

  simple_const_seen : (me : List ℕ) (s : Scopes) (a : SimpleTree) → simple_const (seen_scopes me s) a ≡ simple_const s a
  simple_const_seen me s (simple_of sign first more) = ap (λ y. addends_const (seen_scopes me s) (signed_const sign y) more) (term_const_seen me s first) ∙ addends_const_seen me s (signed_const sign (term_const s first)) more

  addends_const_seen : (me : List ℕ) (s : Scopes) (a : ConstTree) (more : AddendsTree) → addends_const (seen_scopes me s) a more ≡ addends_const s a more
  addends_const_seen me s a no_addends = refl
  addends_const_seen me s a (more_addends o place t more) = ap (λ y. addends_const (seen_scopes me s) (binary_const (add_op o) a y) more) (term_const_seen me s t) ∙ addends_const_seen me s (binary_const (add_op o) a (term_const s t)) more

  term_const_seen : (me : List ℕ) (s : Scopes) (t : TermTree) → term_const (seen_scopes me s) t ≡ term_const s t
  term_const_seen me s (term_of first more) = ap (λ y. multipliers_const (seen_scopes me s) y more) (factor_const_seen me s first) ∙ multipliers_const_seen me s (factor_const s first) more

  multipliers_const_seen : (me : List ℕ) (s : Scopes) (a : ConstTree) (more : MultipliersTree) → multipliers_const (seen_scopes me s) a more ≡ multipliers_const s a more
  multipliers_const_seen me s a no_multipliers = refl
  multipliers_const_seen me s a (more_multipliers o place f more) = ap (λ y. multipliers_const (seen_scopes me s) (binary_const (mul_op o) a y) more) (factor_const_seen me s f) ∙ multipliers_const_seen me s (binary_const (mul_op o) a (factor_const s f)) more

  factor_const_seen : (me : List ℕ) (s : Scopes) (f : FactorTree) → factor_const (seen_scopes me s) f ≡ factor_const s f
  factor_const_seen me s (integer_factor n) = refl
  factor_const_seen me s (string_factor x) = refl
  factor_const_seen me s (true_factor place) = refl
  factor_const_seen me s (false_factor place) = refl
  factor_const_seen me s (set_factor (set_of a es b)) = ap (λ y. set_const y) (elements_const_seen me s es)
  factor_const_seen me s (designator_factor (designator_of x sels)) = designator_const_seen me s x.name sels
  factor_const_seen me s (group_factor a e b) = expr_const_seen me s e
  factor_const_seen me s (negation_factor place f) = ap (λ y. unary_const ops.Not y) (factor_const_seen me s f)

  designator_const_seen : (me : List ℕ) (s : Scopes) (x : List ℕ) (sels : SelectorsTree) → designator_const (seen_scopes me s) x sels ≡ designator_const s x sels
  designator_const_seen me s x no_selectors = ap (λ m. meaning_const m) (name_is_seen me s x) ∙ meaning_const_seen (seen me) (name_is s x)
  designator_const_seen me s x (more_selectors (field_selector m) no_selectors) = ap (λ y. meaning_const (member_is y m.name)) (name_is_seen me s x) ∙ ap (λ y. meaning_const y) (member_seen (seen me) (name_is s x) m.name) ∙ meaning_const_seen (seen me) (member_is (name_is s x) m.name)
  designator_const_seen me s x (more_selectors (field_selector m) (more_selectors b c)) = refl
  designator_const_seen me s x (more_selectors (call_selector a (some_arguments es) b) no_selectors) = ap (λ m. word_const m x (exprs_const (seen_scopes me s) es)) (name_is_seen me s x) ∙ word_const_seen (seen me) (name_is s x) x (exprs_const (seen_scopes me s) es) ∙ ap (λ y. word_const (name_is s x) x y) (exprs_const_seen me s es)
  designator_const_seen me s x (more_selectors (call_selector a (some_arguments es) b) (more_selectors c d)) = refl
  designator_const_seen me s x (more_selectors (call_selector a no_arguments b) more) = refl
  designator_const_seen me s x (more_selectors (index_selector a es b) more) = refl

  exprs_const_seen : (me : List ℕ) (s : Scopes) (es : ExprsTree) → exprs_const (seen_scopes me s) es ≡ exprs_const s es
  exprs_const_seen me s (exprs_of e more) = ap (λ y. more_parts y (more_exprs_const (seen_scopes me s) more)) (expr_const_seen me s e) ∙ ap (λ y. more_parts (expr_const s e) y) (more_exprs_const_seen me s more)

  more_exprs_const_seen : (me : List ℕ) (s : Scopes) (more : MoreExprsTree) → more_exprs_const (seen_scopes me s) more ≡ more_exprs_const s more
  more_exprs_const_seen me s no_more_exprs = refl
  more_exprs_const_seen me s (more_exprs comma e more) = ap (λ y. more_parts y (more_exprs_const (seen_scopes me s) more)) (expr_const_seen me s e) ∙ ap (λ y. more_parts (expr_const s e) y) (more_exprs_const_seen me s more)

  elements_const_seen : (me : List ℕ) (s : Scopes) (es : ElementsTree) → elements_const (seen_scopes me s) es ≡ elements_const s es
  elements_const_seen me s no_elements = refl
  elements_const_seen me s (some_elements e more) = element_const_seen me s e (more_elements_const (seen_scopes me s) more) ∙ ap (λ y. element_const s e y) (more_elements_const_seen me s more)

  more_elements_const_seen : (me : List ℕ) (s : Scopes) (more : MoreElementsTree) → more_elements_const (seen_scopes me s) more ≡ more_elements_const s more
  more_elements_const_seen me s no_more_elements = refl
  more_elements_const_seen me s (more_elements comma e more) = element_const_seen me s e (more_elements_const (seen_scopes me s) more) ∙ ap (λ y. element_const s e y) (more_elements_const_seen me s more)

  element_const_seen : (me : List ℕ) (s : Scopes) (e : ElementTree) (rest : RangesTree) → element_const (seen_scopes me s) e rest ≡ element_const s e rest
  element_const_seen me s (element_of e no_upper) rest = ap (λ y. more_ranges y y rest) (expr_const_seen me s e)
  element_const_seen me s (element_of e (upper_of dots f)) rest = ap (λ y. more_ranges y (expr_const (seen_scopes me s) f) rest) (expr_const_seen me s e) ∙ ap (λ y. more_ranges (expr_const s e) y rest) (expr_const_seen me s f)

pub constant_seen : (me : List ℕ) (s : Scopes) (e : ExprTree) → constant_is me (seen_scopes me s) e ≡ constant_is me s e
constant_seen me s e =
    ap (λ y. if is_unknown (ty_of y) then None else value_folded (fold (expr_const (seen_scopes me s) e))) (expr_is_seen me s e)
    ∙ ap (λ y. if is_unknown y then None else value_folded (fold (expr_const (seen_scopes me s) e))) (ty_of_seen me (expr_is me s e))
    ∙ ap (λ y. if y then None else value_folded (fold (expr_const (seen_scopes me s) e))) (unknown_seen me (ty_of (expr_is me s e)))
    ∙ ap (λ y. if is_unknown (ty_of (expr_is me s e)) then None else value_folded (fold y)) (expr_const_seen me s e)

-- ---- named types

type_of_meaning_seen : (me : List ℕ) (m : Meaning) → type_of_meaning (map_meaning (seen me) m) ≡ seen me (type_of_meaning m)
type_of_meaning_seen me unknown_meaning = refl
type_of_meaning_seen me (constant_meaning v) = refl
type_of_meaning_seen me (type_meaning t) = refl
type_of_meaning_seen me (variable_meaning t a) = refl
type_of_meaning_seen me (procedure_meaning p) = refl
type_of_meaning_seen me (word_meaning w) = refl
type_of_meaning_seen me (import_meaning v) = refl

member_of_seen : (h : TyTree → TyTree) (m : Meaning) (x : Option Member) → member_of (map_meaning h m) x ≡ map_meaning h (member_of m x)
member_of_seen h m None = refl
member_of_seen h m (Some x) = member_seen h m x.name

pub named_seen : (me : List ℕ) (s : Scopes) (q : Qualident) → named (seen_scopes me s) q ≡ map_meaning (seen me) (named s q)
named_seen me s q = ap (λ m. member_of m q.member) (name_is_seen me s q.first.name) ∙ member_of_seen (seen me) (name_is s q.first.name) q.member

pub type_named_seen : (me : List ℕ) (s : Scopes) (q : Qualident) → type_named (seen_scopes me s) q ≡ seen me (type_named s q)
type_named_seen me s q = ap (λ m. type_of_meaning m) (named_seen me s q) ∙ type_of_meaning_seen me (named s q)

-- ---- arrays

pub limited_seen : (me : List ℕ) (t : TyTree) → limited me (seen me t) ≡ seen me (limited me t)
limited_seen me t = ap (λ b. if b then unknown_ty else seen me t) (large_seen me t) ∙ choose (seen me) (too_large me t) unknown_ty t

array_of_seen : (me : List ℕ) (n : Option ℕ) (t : TyTree) → array_of me n (seen me t) ≡ seen me (array_of me n t)
array_of_seen me None t = refl
array_of_seen me (Some n) t = limited_seen me (array_ty n t)

pub dimensions_seen : (me : List ℕ) (s : Scopes) (more : MoreExprsTree) (t : TyTree) → dimensions me (seen_scopes me s) more (seen me t) ≡ seen me (dimensions me s more t)
dimensions_seen me s no_more_exprs t = refl
dimensions_seen me s (more_exprs comma e more) t =
    ap (λ y. array_of me (length_meant y) (dimensions me (seen_scopes me s) more (seen me t))) (constant_seen me s e)
    ∙ ap (λ y. array_of me (length_meant (constant_is me s e)) y) (dimensions_seen me s more t)
    ∙ array_of_seen me (length_meant (constant_is me s e)) (dimensions me s more t)

array_is_seen : (me : List ℕ) (s : Scopes) (es : ExprsTree) (t : TyTree) → array_is me (seen_scopes me s) es (seen me t) ≡ seen me (array_is me s es t)
array_is_seen me s (exprs_of e more) t =
    ap (λ y. array_of me (length_meant y) (dimensions me (seen_scopes me s) more (seen me t))) (constant_seen me s e)
    ∙ ap (λ y. array_of me (length_meant (constant_is me s e)) y) (dimensions_seen me s more t)
    ∙ array_of_seen me (length_meant (constant_is me s e)) (dimensions me s more t)

-- ---- records of the module's own: it sees all their fields

abbrev pub IsOwn : List ℕ → Origin → Type 0
IsOwn me o = same_name o.«module» me ≡ true

own_sees : (me : List ℕ) (o : Origin) (exported : Bool) → IsOwn me o → sees me o exported ≡ true
own_sees me o true e = refl
own_sees me o false e = e

pub add_field_seen : (me : List ℕ) (o : Origin) → IsOwn me o → (fs : Fields) (name : List ℕ) (exported : Bool) (t : TyTree)
    → add_field (kept_fields (sees me) o fs) name exported (seen me t) ≡ kept_fields (sees me) o (add_field fs name exported t)
add_field_seen me o own no_more name exported t = sym (ap (λ c. if c then field_before name exported (seen me t) no_more else no_more) (own_sees me o exported own))
add_field_seen me o own (field_before a b u fs) name exported t =
    ap (λ c. add_field (if c then field_before a b (seen me u) (kept_fields (sees me) o fs) else kept_fields (sees me) o fs) name exported (seen me t)) (own_sees me o b own)
    ∙ ap (λ y. field_before a b (seen me u) y) (add_field_seen me o own fs name exported t)
    ∙ sym (ap (λ c. if c then field_before a b (seen me u) (kept_fields (sees me) o (add_field fs name exported t)) else kept_fields (sees me) o (add_field fs name exported t)) (own_sees me o b own))

pub size_fields_seen : (me : List ℕ) (o : Origin) → IsOwn me o → (fs : Fields) → size_of_fields (kept_fields (sees me) o fs) ≡ size_of_fields fs
size_fields_seen me o own no_more = refl
size_fields_seen me o own (field_before a b u fs) =
    ap (λ c. size_of_fields (if c then field_before a b (seen me u) (kept_fields (sees me) o fs) else kept_fields (sees me) o fs)) (own_sees me o b own)
    ∙ ap (λ y. y + size_of_fields (kept_fields (sees me) o fs)) (size_seen me u)
    ∙ ap (λ y. size_of u + y) (size_fields_seen me o own fs)

pub is_taken_seen : (me : List ℕ) (o : Origin) (b : BaseTree) (fs : Fields) (x : List ℕ) → is_taken me o (kept_base (sees me) b) (kept_fields (sees me) o fs) x ≡ is_taken me o b fs x
is_taken_seen me o b fs x =
    ap (λ y. is_some y || is_some (field_of_base me x (kept_base (sees me) b))) (field_in_seen me o x fs)
    ∙ ap (λ y. y || is_some (field_of_base me x (kept_base (sees me) b))) (some_seen me (field_in me o x fs))
    ∙ ap (λ y. is_some (field_in me o x fs) || is_some y) (field_base_seen me x b)
    ∙ ap (λ y. is_some (field_in me o x fs) || y) (some_seen me (field_of_base me x b))

pub first_new_seen : (me : List ℕ) (o : Origin) (b : BaseTree) (fs : Fields) (ds : List IdentDef) → first_new (is_taken me o (kept_base (sees me) b) (kept_fields (sees me) o fs)) ds ≡ first_new (is_taken me o b fs) ds
first_new_seen me o b fs [] = refl
first_new_seen me o b fs (d ∷ ds) =
    ap (λ c. if c then first_new (is_taken me o (kept_base (sees me) b) (kept_fields (sees me) o fs)) ds else Some d) (is_taken_seen me o b fs d.name.name)
    ∙ ap (λ y. if is_taken me o b fs d.name.name then y else Some d) (first_new_seen me o b fs ds)

add_fields_seen : (me : List ℕ) (o : Origin) → IsOwn me o → (b : BaseTree) (fs : Fields) (ds : List IdentDef) (t : TyTree)
    → add_fields me o (kept_base (sees me) b) (kept_fields (sees me) o fs) ds (seen me t) ≡ kept_fields (sees me) o (add_fields me o b fs ds t)
add_fields_seen me o own b fs [] t = refl
add_fields_seen me o own b fs (d ∷ ds) t =
    ap (λ c. if c then add_fields me o (kept_base (sees me) b) (kept_fields (sees me) o fs) ds (seen me t) else add_fields me o (kept_base (sees me) b) (add_field (kept_fields (sees me) o fs) d.name.name (is_some d.export) (seen me t)) ds (seen me t)) (is_taken_seen me o b fs d.name.name)
    ∙ ap (λ y. if is_taken me o b fs d.name.name then y else add_fields me o (kept_base (sees me) b) (add_field (kept_fields (sees me) o fs) d.name.name (is_some d.export) (seen me t)) ds (seen me t)) (add_fields_seen me o own b fs ds t)
    ∙ ap (λ y. if is_taken me o b fs d.name.name then kept_fields (sees me) o (add_fields me o b fs ds t) else add_fields me o (kept_base (sees me) b) y ds (seen me t)) (add_field_seen me o own fs d.name.name (is_some d.export) t)
    ∙ ap (λ y. if is_taken me o b fs d.name.name then kept_fields (sees me) o (add_fields me o b fs ds t) else y) (add_fields_seen me o own b (add_field fs d.name.name (is_some d.export) t) ds t)
    ∙ choose (kept_fields (sees me) o) (is_taken me o b fs d.name.name) (add_fields me o b fs ds t) (add_fields me o b (add_field fs d.name.name (is_some d.export) t) ds t)

abbrev pub map_base : List ℕ → BaseMeant → BaseMeant
map_base me without_base = without_base
map_base me (with_base r) = with_base (kept_record (sees me) r)
map_base me unclear_base = unclear_base
map_base me bad_base = bad_base

base_meant_seen : (me : List ℕ) (t : TyTree) → base_meant (seen me t) ≡ map_base me (base_meant t)
base_meant_seen me unknown_ty = refl
base_meant_seen me integer_ty = refl
base_meant_seen me byte_ty = refl
base_meant_seen me char_ty = refl
base_meant_seen me boolean_ty = refl
base_meant_seen me set_ty = refl
base_meant_seen me (string_ty n) = refl
base_meant_seen me (array_ty n u) = refl
base_meant_seen me (open_ty u) = refl
base_meant_seen me (record_ty r) = refl

pub base_is_seen : (me : List ℕ) (s : Scopes) (b : Option Base) → base_is (seen_scopes me s) b ≡ map_base me (base_is s b)
base_is_seen me s None = refl
base_is_seen me s (Some b) = ap (λ t. base_meant t) (type_named_seen me s b.name) ∙ base_meant_seen me (type_named s b.name)

pub base_tree_seen : (me : List ℕ) (b : BaseMeant) → base_tree (map_base me b) ≡ kept_base (sees me) (base_tree b)
base_tree_seen me without_base = refl
base_tree_seen me (with_base r) = refl
base_tree_seen me unclear_base = refl
base_tree_seen me bad_base = refl

pub record_size_seen : (me : List ℕ) (r : RecordTree) → size_of_record (kept_record (sees me) r) ≡ size_of_record r
record_size_seen me (record_of o b fs n) = refl

pub base_size_seen : (me : List ℕ) (b : BaseTree) → size_of_base (kept_base (sees me) b) ≡ size_of_base b
base_size_seen me no_base = refl
base_size_seen me (base_of r) = record_size_seen me r

-- a record of the module's own is made of what it sees
pub record_from_seen : (me : List ℕ) (o : Origin) → IsOwn me o → (b : BaseTree) (fs : Fields) → record_ty (record_from o (kept_base (sees me) b) (kept_fields (sees me) o fs)) ≡ seen me (record_ty (record_from o b fs))
record_from_seen me o own b fs =
    ap (λ n. record_ty (record_of o (kept_base (sees me) b) (kept_fields (sees me) o fs) (n + size_of_fields (kept_fields (sees me) o fs)))) (base_size_seen me b)
    ∙ ap (λ n. record_ty (record_of o (kept_base (sees me) b) (kept_fields (sees me) o fs) (size_of_base b + n))) (size_fields_seen me o own fs)

record_is_seen : (me : List ℕ) (o : Origin) → IsOwn me o → (b : BaseMeant) (fs : Fields) → record_is me o (map_base me b) (kept_fields (sees me) o fs) ≡ seen me (record_is me o b fs)
record_is_seen me o own unclear_base fs = refl
record_is_seen me o own bad_base fs = refl
record_is_seen me o own without_base fs = ap (λ t. limited me t) (record_from_seen me o own no_base fs) ∙ limited_seen me (record_ty (record_from o no_base fs))
record_is_seen me o own (with_base r) fs = ap (λ t. limited me t) (record_from_seen me o own (base_of r) fs) ∙ limited_seen me (record_ty (record_from o (base_of r) fs))

own_steps : (me : List ℕ) (o : Origin) (more : MoreExprsTree) → IsOwn me o → IsOwn me (element_steps o more)
own_steps me o no_more_exprs own = own
own_steps me o (more_exprs comma e more) own = own_steps me (deeper o steps.Element) more own

pub own_elements : (me : List ℕ) (o : Origin) (es : ExprsTree) → IsOwn me o → IsOwn me (element_origin o es)
own_elements me o (exprs_of e more) own = own_steps me (deeper o steps.Element) more own

pub own_list : (me : List ℕ) (o : Origin) (d : Option IdentDef) → IsOwn me o → IsOwn me (list_origin o d)
own_list me o None own = own
own_list me o (Some d) own = own

mutual
  pub type_is_seen : (me : List ℕ) (s : Scopes) (o : Origin) → IsOwn me o → (t : TypeTree) → type_is me (seen_scopes me s) o t ≡ seen me (type_is me s o t)
  type_is_seen me s o own (named_type q) = type_named_seen me s q
  type_is_seen me s o own (array_type word es of_word t) = ap (λ y. array_is me (seen_scopes me s) es y) (type_is_seen me s (element_origin o es) (own_elements me o es own) t) ∙ array_is_seen me s es (type_is me s (element_origin o es) t)
  type_is_seen me s o own (record_type (record_text word b lists last)) =
      ap (λ y. record_is me o y (fields_are me (seen_scopes me s) o (base_tree y) lists)) (base_is_seen me s b)
      ∙ ap (λ y. record_is me o (map_base me (base_is s b)) (fields_are me (seen_scopes me s) o y lists)) (base_tree_seen me (base_is s b))
      ∙ ap (λ y. record_is me o (map_base me (base_is s b)) y) (fields_are_seen me s o own (base_tree (base_is s b)) lists)
      ∙ record_is_seen me o own (base_is s b) (fields_are me s o (base_tree (base_is s b)) lists)

  pub fields_are_seen : (me : List ℕ) (s : Scopes) (o : Origin) → IsOwn me o → (b : BaseTree) (lists : FieldListsTree) → fields_are me (seen_scopes me s) o (kept_base (sees me) b) lists ≡ kept_fields (sees me) o (fields_are me s o b lists)
  fields_are_seen me s o own b no_lists = refl
  fields_are_seen me s o own b (some_fields l more) = ap (λ y. more_fields_are me (seen_scopes me s) o (kept_base (sees me) b) y more) (list_is_seen me s o own b no_more l) ∙ more_fields_are_seen me s o own b (list_is me s o b no_more l) more

  more_fields_are_seen : (me : List ℕ) (s : Scopes) (o : Origin) → IsOwn me o → (b : BaseTree) (fs : Fields) (more : MoreFieldsTree) → more_fields_are me (seen_scopes me s) o (kept_base (sees me) b) (kept_fields (sees me) o fs) more ≡ kept_fields (sees me) o (more_fields_are me s o b fs more)
  more_fields_are_seen me s o own b fs no_more_fields = refl
  more_fields_are_seen me s o own b fs (more_fields semicolon l more) = ap (λ y. more_fields_are me (seen_scopes me s) o (kept_base (sees me) b) y more) (list_is_seen me s o own b fs l) ∙ more_fields_are_seen me s o own b (list_is me s o b fs l) more

  pub list_is_seen : (me : List ℕ) (s : Scopes) (o : Origin) → IsOwn me o → (b : BaseTree) (fs : Fields) (l : FieldsTree) → list_is me (seen_scopes me s) o (kept_base (sees me) b) (kept_fields (sees me) o fs) l ≡ kept_fields (sees me) o (list_is me s o b fs l)
  list_is_seen me s o own b fs (fields_of names colon t) =
      ap (λ y. add_fields me o (kept_base (sees me) b) (kept_fields (sees me) o fs) (ident_defs names) (type_is me (seen_scopes me s) (list_origin o y) t)) (first_new_seen me o b fs (ident_defs names))
      ∙ ap (λ y. add_fields me o (kept_base (sees me) b) (kept_fields (sees me) o fs) (ident_defs names) y) (type_is_seen me s (list_origin o (first_new (is_taken me o b fs) (ident_defs names))) (own_list me o (first_new (is_taken me o b fs) (ident_defs names)) own) t)
      ∙ add_fields_seen me o own b fs (ident_defs names) (type_is me s (list_origin o (first_new (is_taken me o b fs) (ident_defs names))) t)
