-- The operators and literals that the tests on tokens find.
use Rattle.std.specs.Prelude.{◌≡◌, ℕ, true, eqb, List, ◌∷◌, refl}
use Rattle.std.proofs.Common.{sym}
use Rattle.ob_text.specs.declared.span.Span.{Span}
use Rattle.oberon_scan.specs.declared.token.Token.{Token}
use Rattle.oberon_scan.specs.declared.token.TokenKind.{TokenKind}
use Rattle.oberon_scan.specs.declared.token.TokenKind.TheVariants as kinds
use Rattle.oberon_scan.specs.declared.token.Word.TheVariants as words
use Rattle.oberon_scan.specs.declared.token.Symbol.TheVariants as symbols
use Rattle.oberon_tree.specs.declared.leaf.Ident.{Ident}
use Rattle.oberon_tree.specs.declared.statement.LabelValue.{LabelValue}
use Rattle.oberon_tree.specs.declared.statement.LabelValue.TheVariants as values
use Rattle.oberon_tree.specs.declared.expression.Relator.{Relator}
use Rattle.oberon_tree.specs.declared.expression.Relator.TheVariants as relators
use Rattle.oberon_tree.specs.declared.expression.Sign.{Sign}
use Rattle.oberon_tree.specs.declared.expression.Sign.TheVariants as signs
use Rattle.oberon_tree.specs.declared.expression.AddOperator.{AddOperator}
use Rattle.oberon_tree.specs.declared.expression.AddOperator.TheVariants as adds
use Rattle.oberon_tree.specs.declared.expression.MulOperator.{MulOperator}
use Rattle.oberon_tree.specs.declared.expression.MulOperator.TheVariants as muls
use Rattle.oberon_tree.specs.Tokens.{ident_token, relator_kind, relator_token, sign_kind, sign_token, add_kind, add_token, mul_kind, mul_token}
use Rattle.oberon_tree.specs.Trees.{FactorTree, integer_factor, string_factor, true_factor, false_factor}
use Rattle.oberon_tree.specs.Print.{print_factor, print_value}
use Rattle.oberon_tree.specs.Levels.{depth_of_factor}
use Rattle.oberon_productions.specs.Tests.{is_ident, is_literal, is_sign, is_constant, reach}
use Rattle.oberon_productions.proofs.Found.{no}

relator_of : (k : TokenKind) → eqb (reach k) 6 ≡ true → (op : Relator) × (k ≡ relator_kind op)
relator_of (kinds.Symbol symbols.Equal) e = (relators.Equal, refl)
relator_of (kinds.Symbol symbols.Hash) e = (relators.Unequal, refl)
relator_of (kinds.Symbol symbols.Less) e = (relators.Less, refl)
relator_of (kinds.Symbol symbols.LessEqual) e = (relators.LessEqual, refl)
relator_of (kinds.Symbol symbols.Greater) e = (relators.Greater, refl)
relator_of (kinds.Symbol symbols.GreaterEqual) e = (relators.GreaterEqual, refl)
relator_of (kinds.Word words.In) e = (relators.In, refl)
relator_of (kinds.Word words.Is) e = (relators.Is, refl)
relator_of _ e = no (sym e)

add_of : (k : TokenKind) → eqb (reach k) 7 ≡ true → (op : AddOperator) × (k ≡ add_kind op)
add_of (kinds.Symbol symbols.Plus) e = (adds.Add, refl)
add_of (kinds.Symbol symbols.Minus) e = (adds.Subtract, refl)
add_of (kinds.Word words.Or) e = (adds.Or, refl)
add_of _ e = no (sym e)

mul_of : (k : TokenKind) → eqb (reach k) 8 ≡ true → (op : MulOperator) × (k ≡ mul_kind op)
mul_of (kinds.Symbol symbols.Star) e = (muls.Multiply, refl)
mul_of (kinds.Symbol symbols.Slash) e = (muls.Divide, refl)
mul_of (kinds.Word words.Div) e = (muls.Div, refl)
mul_of (kinds.Word words.Mod) e = (muls.Mod, refl)
mul_of (kinds.Symbol symbols.Ampersand) e = (muls.And, refl)
mul_of _ e = no (sym e)

sign_of : (k : TokenKind) → is_sign k ≡ true → (op : Sign) × (k ≡ sign_kind op)
sign_of (kinds.Symbol symbols.Plus) e = (signs.Plus, refl)
sign_of (kinds.Symbol symbols.Minus) e = (signs.Minus, refl)
sign_of _ e = no (sym e)

pub relator_found : (t : Token) → eqb (reach t.kind) 6 ≡ true → (op : Relator) × (t ≡ relator_token op t.span)
relator_found t e = let r = relator_of t.kind e in (r.0, λ i. record { span = t.span; kind = r.1 i })

pub add_found : (t : Token) → eqb (reach t.kind) 7 ≡ true → (op : AddOperator) × (t ≡ add_token op t.span)
add_found t e = let r = add_of t.kind e in (r.0, λ i. record { span = t.span; kind = r.1 i })

pub mul_found : (t : Token) → eqb (reach t.kind) 8 ≡ true → (op : MulOperator) × (t ≡ mul_token op t.span)
mul_found t e = let r = mul_of t.kind e in (r.0, λ i. record { span = t.span; kind = r.1 i })

pub sign_found : (t : Token) → is_sign t.kind ≡ true → (op : Sign) × (t ≡ sign_token op t.span)
sign_found t e = let r = sign_of t.kind e in (r.0, λ i. record { span = t.span; kind = r.1 i })

ident_of : (k : TokenKind) → is_ident k ≡ true → (name : List ℕ) × (k ≡ kinds.Ident name)
ident_of (kinds.Ident x) e = (x, refl)
ident_of (kinds.Integer x) e = no (sym e)
ident_of (kinds.Str x) e = no (sym e)
ident_of (kinds.Word x) e = no (sym e)
ident_of (kinds.Symbol x) e = no (sym e)

pub ident_found : (t : Token) → is_ident t.kind ≡ true → (i : Ident) × (t ≡ ident_token i)
ident_found t e = let r = ident_of t.kind e in (record { span = t.span; name = r.0 }, λ i. record { span = t.span; kind = r.1 i })

-- a number or a string, as the value of a label
value_of : (span : Span) (k : TokenKind) → is_literal k ≡ true → (v : LabelValue) × ((rest : List Token) → record { span = span; kind = k } ∷ rest ≡ print_value v rest)
value_of span (kinds.Ident x) e = no (sym e)
value_of span (kinds.Integer x) e = (values.Integer (record { span = span; value = x }), λ rest. refl)
value_of span (kinds.Str x) e = (values.Str (record { span = span; value = x }), λ rest. refl)
value_of span (kinds.Word x) e = no (sym e)
value_of span (kinds.Symbol x) e = no (sym e)

pub value_found : (t : Token) → is_literal t.kind ≡ true → (v : LabelValue) × ((rest : List Token) → t ∷ rest ≡ print_value v rest)
value_found t e = value_of t.span t.kind e

-- a number, a string, TRUE or FALSE, as a factor
constant_of : (span : Span) (k : TokenKind) → is_constant k ≡ true → (f : FactorTree) × ((rest : List Token) → record { span = span; kind = k } ∷ rest ≡ print_factor f rest) × (depth_of_factor f ≡ 0)
constant_of span (kinds.Integer x) e = (integer_factor (record { span = span; value = x }), λ rest. refl, refl)
constant_of span (kinds.Str x) e = (string_factor (record { span = span; value = x }), λ rest. refl, refl)
constant_of span (kinds.Word words.True) e = (true_factor span, λ rest. refl, refl)
constant_of span (kinds.Word words.False) e = (false_factor span, λ rest. refl, refl)
constant_of span _ e = no (sym e)

pub constant_found : (t : Token) → is_constant t.kind ≡ true → (f : FactorTree) × ((rest : List Token) → t ∷ rest ≡ print_factor f rest) × (depth_of_factor f ≡ 0)
constant_found t e = constant_of t.span t.kind e
