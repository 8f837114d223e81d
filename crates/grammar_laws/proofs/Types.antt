-- Types are read back in one way.
use Rattle.std.specs.Prelude.{◌≡◌, ℕ, List, ◌∷◌, refl}
use Rattle.std.proofs.Common.{sym, ◌∙◌, ap, arith}
use Rattle.oberon_scan.specs.declared.token.Token.{Token}
use Rattle.oberon_scan.specs.declared.token.Word.TheVariants as words
use Rattle.oberon_scan.specs.declared.token.Symbol.TheVariants as symbols
use Rattle.oberon_tree.specs.Tokens.{symbol_token, word_token}
use Rattle.oberon_tree.specs.Trees.{TypeTree, named_type, array_type, record_type, record_of, FieldListsTree, no_fields, some_fields, MoreFieldsTree, no_more_fields, more_fields, FieldsTree, fields_of}
use Rattle.oberon_tree.specs.Print.{print_some, print_base, print_type, print_record, print_field_lists, print_more_fields, print_fields}
use Rattle.oberon_productions.proofs.Follows.{next_reach}
use Rattle.grammar_laws.proofs.One.{One, Under, Any, reaches, rest_one, span_one, some_one}
use Rattle.grammar_laws.proofs.Leaves.{ident_code, code_of_word, next_code}
use Rattle.grammar_laws.proofs.Names.{qualident_one, ident_defs_one}
use Rattle.grammar_laws.proofs.Expressions.{exprs_one}

base_one : One print_base Any
base_one a b r s h k e =
    let p = qualident_one a.name b.name (symbol_token symbols.CloseParen a.closing ∷ r) (symbol_token symbols.CloseParen b.closing ∷ s) (omega arith) (omega arith) (rest_one e) in
    (λ i. record { opening = span_one e i; name = p.0 i; closing = span_one p.1 i }, rest_one p.1)

some_base_one : One (print_some print_base) (Under 9)
some_base_one = some_one print_base Any (Under 9) base_one (λ r h. tt) (λ x q r. reaches 9 r (print_base x q) (omega arith))

-- ---- what a part begins with, and what follows it

abbrev type_code : TypeTree → ℕ
type_code (named_type q) = ident_code
type_code (array_type word es of_word t) = code_of_word words.Array
type_code (record_type x) = code_of_word words.Record

type_begins : (t : TypeTree) (r : List Token) → next_code (print_type t r) ≡ type_code t
type_begins (named_type q) r = refl
type_begins (array_type word es of_word t) r = refl
type_begins (record_type (record_of word base fs last)) r = refl

same_type_code : (a b : TypeTree) (r s : List Token) → print_type a r ≡ print_type b s → type_code a ≡ type_code b
same_type_code a b r s e = sym (type_begins a r) ∙ ap next_code e ∙ type_begins b s

fields_begin : (x : FieldsTree) (r : List Token) → next_reach (print_fields x r) ≡ 2
fields_begin (fields_of names colon t) r = refl

field_lists_next : (x : FieldListsTree) (r : List Token) → Under 1 r → Under 9 (print_field_lists x r)
field_lists_next no_fields r h = omega arith
field_lists_next (some_fields (fields_of names colon t) more) r h = omega arith

more_fields_next : (x : MoreFieldsTree) (r : List Token) → Under 1 r → Under 9 (print_more_fields x r)
more_fields_next no_more_fields r h = omega arith
more_fields_next (more_fields semicolon fs more) r h = omega arith

-- ---- the trees

mutual
  pub type_one : One print_type (Under 9)
  type_one (named_type a) (named_type b) r s h k e =
      let p = qualident_one a b r s h k e in
      (λ i. named_type (p.0 i), p.1)
  type_one (array_type word x of_word a) (array_type word₂ y of_word₂ b) r s h k e =
      let p = exprs_one x y (word_token words.Of of_word ∷ print_type a r) (word_token words.Of of_word₂ ∷ print_type b s) (omega arith) (omega arith) (rest_one e) in
      let q = type_one a b r s h k (rest_one p.1) in
      (λ i. array_type (span_one e i) (p.0 i) (span_one p.1 i) (q.0 i), q.1)
  type_one (record_type a) (record_type b) r s h k e =
      let p = record_one a b r s tt tt e in
      (λ i. record_type (p.0 i), p.1)
  type_one a b r s h k e = absurd (omega (arith, same_type_code a b r s e))

  record_one : One print_record Any
  record_one (record_of word a x last) (record_of word₂ b y last₂) r s h k e =
      let u : List Token = word_token words.End last ∷ r in
      let v : List Token = word_token words.End last₂ ∷ s in
      let p = some_base_one a b (print_field_lists x u) (print_field_lists y v) (field_lists_next x u (omega arith)) (field_lists_next y v (omega arith)) (rest_one e) in
      let q = field_lists_one x y u v (omega arith) (omega arith) p.1 in
      (λ i. record_of (span_one e i) (p.0 i) (q.0 i) (span_one q.1 i), rest_one q.1)

  field_lists_one : One print_field_lists (Under 1)
  field_lists_one no_fields no_fields r s h k e = (refl, e)
  field_lists_one no_fields (some_fields b y) r s h k e = absurd (omega (arith, fields_begin b (print_more_fields y s), ap next_reach e))
  field_lists_one (some_fields a x) no_fields r s h k e = absurd (omega (arith, fields_begin a (print_more_fields x r), ap next_reach e))
  field_lists_one (some_fields a x) (some_fields b y) r s h k e =
      let p = fields_one a b (print_more_fields x r) (print_more_fields y s) (more_fields_next x r h) (more_fields_next y s k) e in
      let q = more_fields_one x y r s h k p.1 in
      (λ i. some_fields (p.0 i) (q.0 i), q.1)

  more_fields_one : One print_more_fields (Under 1)
  more_fields_one no_more_fields no_more_fields r s h k e = (refl, e)
  more_fields_one no_more_fields (more_fields span b y) r s h k e = absurd (omega (arith, ap next_reach e))
  more_fields_one (more_fields span a x) no_more_fields r s h k e = absurd (omega (arith, ap next_reach e))
  more_fields_one (more_fields span a x) (more_fields span₂ b y) r s h k e =
      let p = fields_one a b (print_more_fields x r) (print_more_fields y s) (more_fields_next x r h) (more_fields_next y s k) (rest_one e) in
      let q = more_fields_one x y r s h k p.1 in
      (λ i. more_fields (span_one e i) (p.0 i) (q.0 i), q.1)

  fields_one : One print_fields (Under 9)
  fields_one (fields_of x colon a) (fields_of y colon₂ b) r s h k e =
      let p = ident_defs_one x y (symbol_token symbols.Colon colon ∷ print_type a r) (symbol_token symbols.Colon colon₂ ∷ print_type b s) (omega arith) (omega arith) e in
      let q = type_one a b r s h k (rest_one p.1) in
      (λ i. fields_of (p.0 i) (span_one p.1 i) (q.0 i), q.1)
