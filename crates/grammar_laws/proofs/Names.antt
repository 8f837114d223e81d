-- Names are read back in one way: identifiers with a member or a mark, lists of them, and the labels of CASE.
use Rattle.std.specs.Prelude.{List, [], ◌∷◌, Option, Some, None, refl}
use Rattle.std.proofs.Common.{ap, arith}
use Rattle.oberon_scan.specs.declared.token.Token.{Token}
use Rattle.oberon_scan.specs.declared.token.Symbol.TheVariants as symbols
use Rattle.oberon_tree.specs.declared.statement.LabelUpper.{LabelUpper}
use Rattle.oberon_tree.specs.declared.statement.LabelValue.TheVariants as values
use Rattle.oberon_tree.specs.declared.statement.NextLabel.{NextLabel}
use Rattle.oberon_tree.specs.Print.{print_each, print_some, print_member, print_qualident, print_mark, print_ident_def, print_next_ident_def, print_ident_defs, print_next_ident, print_idents, print_value, print_label_upper, print_label, print_next_label, print_labels}
use Rattle.oberon_productions.specs.Tests.{is_symbol}
use Rattle.oberon_productions.proofs.ForthNames.{ident_defs_no_star}
use Rattle.grammar_laws.proofs.One.{One, Under, Lacks, Any, reaches, begins, head_one, rest_one, span_one, each_one, some_one}
use Rattle.grammar_laws.proofs.Leaves.{next_code, ident_one, integer_one, string_one}

pub member_one : One print_member Any
member_one a b r s h k e =
    let name = rest_one e in
    (λ i. record { period = span_one e i; name = ident_one a.name b.name (head_one name) i }, rest_one name)

some_member_one : One (print_some print_member) (Under 9)
some_member_one = some_one print_member Any (Under 9) member_one (λ r h. tt) (λ x q r. reaches 9 r (print_member x q) (omega arith))

pub qualident_one : One print_qualident (Under 9)
qualident_one a b r s h k e =
    let p = some_member_one a.member b.member r s h k (rest_one e) in
    (λ i. record { first = ident_one a.first b.first (head_one e) i; member = p.0 i }, p.1)

mark_one : One print_mark Any
mark_one a b r s h k e = (span_one e, rest_one e)

some_mark_one : One (print_some print_mark) (Lacks (is_symbol symbols.Star))
some_mark_one = some_one print_mark Any (Lacks (is_symbol symbols.Star)) mark_one (λ r h. tt) (λ x q r. begins (is_symbol symbols.Star) r (print_mark x q) refl)

pub ident_def_one : One print_ident_def (Lacks (is_symbol symbols.Star))
ident_def_one a b r s h k e =
    let p = some_mark_one a.export b.export r s h k (rest_one e) in
    (λ i. record { name = ident_one a.name b.name (head_one e) i; export = p.0 i }, p.1)

next_ident_def_one : One print_next_ident_def (Lacks (is_symbol symbols.Star))
next_ident_def_one a b r s h k e =
    let p = ident_def_one a.ident b.ident r s h k (rest_one e) in
    (λ i. record { comma = span_one e i; ident = p.0 i }, p.1)

more_ident_defs_one : One (print_each print_next_ident_def) (Under 4)
more_ident_defs_one = each_one print_next_ident_def (Lacks (is_symbol symbols.Star)) (Under 4) next_ident_def_one ident_defs_no_star (λ x q r. reaches 4 r (print_next_ident_def x q) (omega arith))

pub ident_defs_one : One print_ident_defs (Under 4)
ident_defs_one a b r s h k e =
    let p = ident_def_one a.first b.first (print_each print_next_ident_def a.rest r) (print_each print_next_ident_def b.rest s) (ident_defs_no_star a.rest r h) (ident_defs_no_star b.rest s k) e in
    let q = more_ident_defs_one a.rest b.rest r s h k p.1 in
    (λ i. record { first = p.0 i; rest = q.0 i }, q.1)

next_ident_one : One print_next_ident Any
next_ident_one a b r s h k e =
    let name = rest_one e in
    (λ i. record { comma = span_one e i; ident = ident_one a.ident b.ident (head_one name) i }, rest_one name)

more_idents_one : One (print_each print_next_ident) (Under 4)
more_idents_one = each_one print_next_ident Any (Under 4) next_ident_one (λ xs r h. tt) (λ x q r. reaches 4 r (print_next_ident x q) (omega arith))

pub idents_one : One print_idents (Under 4)
idents_one a b r s h k e =
    let p = more_idents_one a.rest b.rest r s h k (rest_one e) in
    (λ i. record { first = ident_one a.first b.first (head_one e) i; rest = p.0 i }, p.1)

-- ---- labels

value_one : One print_value (Under 9)
value_one (values.Integer a) (values.Integer b) r s h k e = (λ i. values.Integer (integer_one a b (head_one e) i), rest_one e)
value_one (values.Str a) (values.Str b) r s h k e = (λ i. values.Str (string_one a b (head_one e) i), rest_one e)
value_one (values.Named a) (values.Named b) r s h k e =
    let p = qualident_one a b r s h k e in
    (λ i. values.Named (p.0 i), p.1)
value_one a b r s h k e = absurd (omega (arith, ap next_code e))

label_upper_one : One print_label_upper (Under 9)
label_upper_one a b r s h k e =
    let p = value_one a.last b.last r s h k (rest_one e) in
    (λ i. record { dots = span_one e i; last = p.0 i }, p.1)

some_label_upper_one : One (print_some print_label_upper) (Under 5)
some_label_upper_one = some_one print_label_upper (Under 9) (Under 5) label_upper_one (λ r h. omega arith) (λ x q r. reaches 5 r (print_label_upper x q) (omega arith))

label_upper_next : (x : Option LabelUpper) (r : List Token) → Under 5 r → Under 9 (print_some print_label_upper x r)
label_upper_next None r h = omega arith
label_upper_next (Some x) r h = omega arith

label_one : One print_label (Under 5)
label_one a b r s h k e =
    let p = value_one a.first b.first (print_some print_label_upper a.upper r) (print_some print_label_upper b.upper s) (label_upper_next a.upper r h) (label_upper_next b.upper s k) e in
    let q = some_label_upper_one a.upper b.upper r s h k p.1 in
    (λ i. record { first = p.0 i; upper = q.0 i }, q.1)

next_label_one : One print_next_label (Under 5)
next_label_one a b r s h k e =
    let p = label_one a.label b.label r s h k (rest_one e) in
    (λ i. record { comma = span_one e i; label = p.0 i }, p.1)

labels_next : (xs : List NextLabel) (r : List Token) → Under 4 r → Under 5 (print_each print_next_label xs r)
labels_next [] r h = omega arith
labels_next (x ∷ xs) r h = omega arith

more_labels_one : One (print_each print_next_label) (Under 4)
more_labels_one = each_one print_next_label (Under 5) (Under 4) next_label_one labels_next (λ x q r. reaches 4 r (print_next_label x q) (omega arith))

pub labels_one : One print_labels (Under 4)
labels_one a b r s h k e =
    let p = label_one a.first b.first (print_each print_next_label a.rest r) (print_each print_next_label b.rest s) (labels_next a.rest r h) (labels_next b.rest s k) e in
    let q = more_labels_one a.rest b.rest r s h k p.1 in
    (λ i. record { first = p.0 i; rest = q.0 i }, q.1)
