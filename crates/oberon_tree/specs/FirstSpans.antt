-- The span of the first token of a construct, where many diagnostics stand.
use Rattle.std.specs.Prelude.{List, [], ◌∷◌, Option, Some, None}
use Rattle.ob_text.specs.declared.span.Span.{Span}
use Rattle.oberon_scan.specs.declared.token.Token.{Token}
use Rattle.oberon_tree.specs.declared.statement.Label.{Label}
use Rattle.oberon_tree.specs.declared.statement.LabelValue.{LabelValue}
use Rattle.oberon_tree.specs.declared.statement.LabelValue.TheVariants as values
use Rattle.oberon_tree.specs.Trees.{ExprTree, expr_of, SimpleTree, simple_of, TermTree, term_of, FactorTree, integer_factor, string_factor, true_factor, false_factor, set_factor, designator_factor, group_factor, negation_factor, SetTree, set_of, DesignatorTree, designator_of, TypeTree, named_type, array_type, record_type, RecordTree, record_of}

-- the span of the first token of a list
abbrev pub first_token_span : List Token → Option Span
first_token_span [] = None
first_token_span (t ∷ ts) = Some t.span

abbrev pub first_of_set : SetTree → Span
first_of_set (set_of a es b) = a

abbrev pub first_of_designator : DesignatorTree → Span
first_of_designator (designator_of name more) = name.span

abbrev pub first_of_factor : FactorTree → Span
first_of_factor (integer_factor n) = n.span
first_of_factor (string_factor s) = s.span
first_of_factor (true_factor span) = span
first_of_factor (false_factor span) = span
first_of_factor (set_factor s) = first_of_set s
first_of_factor (designator_factor d) = first_of_designator d
first_of_factor (group_factor a e b) = a
first_of_factor (negation_factor span f) = span

abbrev pub first_of_term : TermTree → Span
first_of_term (term_of first more) = first_of_factor first

abbrev pub first_of_simple : SimpleTree → Span
first_of_simple (simple_of None first more) = first_of_term first
first_of_simple (simple_of (Some s) first more) = s.span

abbrev pub first_of_expr : ExprTree → Span
first_of_expr (expr_of left right) = first_of_simple left

abbrev pub first_of_record : RecordTree → Span
first_of_record (record_of word base fs last) = word

abbrev pub first_of_type : TypeTree → Span
first_of_type (named_type q) = q.first.span
first_of_type (array_type word es of_word t) = word
first_of_type (record_type r) = first_of_record r

abbrev pub first_of_value : LabelValue → Span
first_of_value (values.Integer n) = n.span
first_of_value (values.Str s) = s.span
first_of_value (values.Named q) = q.first.span

abbrev pub first_of_label : Label → Span
first_of_label l = first_of_value l.first
