-- What `first_of_x` gives is the span of the first token that an x prints, whatever follows.
use Rattle.std.specs.Prelude.{◌≡◌, List, Some, None, refl}
use Rattle.oberon_scan.specs.declared.token.Token.{Token}
use Rattle.oberon_tree.specs.FirstSpans.{first_token_span, first_of_set, first_of_designator, first_of_factor, first_of_term, first_of_simple, first_of_expr, first_of_record, first_of_type}
use Rattle.oberon_tree.specs.Print.{print_set, print_designator, print_factor, print_term, print_simple, print_expr, print_record, print_type}
use Rattle.oberon_tree.specs.Trees.{ExprTree, expr_of, SimpleTree, simple_of, TermTree, term_of, FactorTree, integer_factor, string_factor, true_factor, false_factor, set_factor, designator_factor, group_factor, negation_factor, SetTree, set_of, DesignatorTree, designator_of, TypeTree, named_type, array_type, record_type, RecordTree, record_of}

pub set_first : (s : SetTree) (rest : List Token) → first_token_span (print_set s rest) ≡ Some (first_of_set s)
set_first (set_of a es b) rest = refl

pub designator_first : (d : DesignatorTree) (rest : List Token) → first_token_span (print_designator d rest) ≡ Some (first_of_designator d)
designator_first (designator_of name more) rest = refl

pub factor_first : (f : FactorTree) (rest : List Token) → first_token_span (print_factor f rest) ≡ Some (first_of_factor f)
factor_first (integer_factor n) rest = refl
factor_first (string_factor s) rest = refl
factor_first (true_factor span) rest = refl
factor_first (false_factor span) rest = refl
factor_first (set_factor s) rest = set_first s rest
factor_first (designator_factor d) rest = designator_first d rest
factor_first (group_factor a e b) rest = refl
factor_first (negation_factor span f) rest = refl

pub term_first : (t : TermTree) (rest : List Token) → first_token_span (print_term t rest) ≡ Some (first_of_term t)
term_first (term_of first more) rest = factor_first first _

pub simple_first : (s : SimpleTree) (rest : List Token) → first_token_span (print_simple s rest) ≡ Some (first_of_simple s)
simple_first (simple_of None first more) rest = term_first first _
simple_first (simple_of (Some sign) first more) rest = refl

pub expr_first : (e : ExprTree) (rest : List Token) → first_token_span (print_expr e rest) ≡ Some (first_of_expr e)
expr_first (expr_of left right) rest = simple_first left _

pub record_first : (r : RecordTree) (rest : List Token) → first_token_span (print_record r rest) ≡ Some (first_of_record r)
record_first (record_of word base fs last) rest = refl

pub type_first : (t : TypeTree) (rest : List Token) → first_token_span (print_type t rest) ≡ Some (first_of_type t)
type_first (named_type q) rest = refl
type_first (array_type word es of_word t) rest = refl
type_first (record_type r) rest = record_first r rest
