-- A token tells the identifier, literal or operator that it was printed for.
use Rattle.std.specs.Prelude.{◌≡◌, ℕ, ◌+◌, ℤ, pos, List, [], ◌∷◌, refl}
use Rattle.std.proofs.Common.{sym, ◌∙◌, ap}
use Rattle.ob_text.specs.declared.span.Span.{Span}
use Rattle.oberon_scan.specs.declared.token.Token.{Token}
use Rattle.oberon_scan.specs.declared.token.TokenKind.{TokenKind}
use Rattle.oberon_scan.specs.declared.token.TokenKind.TheVariants as kinds
use Rattle.oberon_scan.specs.declared.token.Word.{Word}
use Rattle.oberon_scan.specs.declared.token.Word.TheVariants as words
use Rattle.oberon_scan.specs.declared.token.Symbol.{Symbol}
use Rattle.oberon_scan.specs.declared.token.Symbol.TheVariants as symbols
use Rattle.oberon_tree.specs.declared.leaf.Ident.{Ident}
use Rattle.oberon_tree.specs.declared.leaf.IntegerLiteral.{IntegerLiteral}
use Rattle.oberon_tree.specs.declared.leaf.StringLiteral.{StringLiteral}
use Rattle.oberon_tree.specs.declared.expression.Relator.{Relator}
use Rattle.oberon_tree.specs.declared.expression.Relator.TheVariants as relators
use Rattle.oberon_tree.specs.declared.expression.Sign.{Sign}
use Rattle.oberon_tree.specs.declared.expression.Sign.TheVariants as signs
use Rattle.oberon_tree.specs.declared.expression.AddOperator.{AddOperator}
use Rattle.oberon_tree.specs.declared.expression.AddOperator.TheVariants as adds
use Rattle.oberon_tree.specs.declared.expression.MulOperator.{MulOperator}
use Rattle.oberon_tree.specs.declared.expression.MulOperator.TheVariants as muls
use Rattle.oberon_tree.specs.Tokens.{ident_token, integer_token, string_token, relator_kind, relator_token, sign_kind, sign_token, add_kind, add_token, mul_kind, mul_token}
use Rattle.oberon_tree.specs.Print.{print_sign}
use Rattle.oberon_productions.specs.Tests.{word_code, symbol_code}
use Rattle.grammar_laws.proofs.One.{One, Any, head_one, rest_one, span_one}

-- ---- which token it is, as a number

abbrev pub ident_code : ℕ
ident_code = 1

abbrev pub integer_code : ℕ
integer_code = 2

abbrev pub string_code : ℕ
string_code = 3

abbrev pub code_of_word : Word → ℕ
code_of_word w = 4 + word_code w

abbrev pub code_of_symbol : Symbol → ℕ
code_of_symbol s = 40 + symbol_code s

abbrev pub code : TokenKind → ℕ
code (kinds.Ident x) = ident_code
code (kinds.Integer x) = integer_code
code (kinds.Str x) = string_code
code (kinds.Word w) = code_of_word w
code (kinds.Symbol s) = code_of_symbol s

-- the same of the next token of a list
abbrev pub next_code : List Token → ℕ
next_code [] = 0
next_code (t ∷ ts) = code t.kind

-- ---- identifiers and literals

abbrev name_in : TokenKind → List ℕ
name_in (kinds.Ident x) = x
name_in _ = []

abbrev integer_in : TokenKind → ℤ
integer_in (kinds.Integer x) = x
integer_in _ = pos 0

abbrev string_in : TokenKind → List ℕ
string_in (kinds.Str x) = x
string_in _ = []

pub ident_one : (a b : Ident) → ident_token a ≡ ident_token b → a ≡ b
ident_one a b e = λ i. record { span = (e i).span; name = name_in (e i).kind }

pub integer_one : (a b : IntegerLiteral) → integer_token a ≡ integer_token b → a ≡ b
integer_one a b e = λ i. record { span = (e i).span; value = integer_in (e i).kind }

pub string_one : (a b : StringLiteral) → string_token a ≡ string_token b → a ≡ b
string_one a b e = λ i. record { span = (e i).span; value = string_in (e i).kind }

-- ---- operators

abbrev relator_in : TokenKind → Relator
relator_in (kinds.Symbol symbols.Equal) = relators.Equal
relator_in (kinds.Symbol symbols.Hash) = relators.Unequal
relator_in (kinds.Symbol symbols.Less) = relators.Less
relator_in (kinds.Symbol symbols.LessEqual) = relators.LessEqual
relator_in (kinds.Symbol symbols.Greater) = relators.Greater
relator_in (kinds.Symbol symbols.GreaterEqual) = relators.GreaterEqual
relator_in (kinds.Word words.In) = relators.In
relator_in _ = relators.Is

relator_back : (op : Relator) → relator_in (relator_kind op) ≡ op
relator_back relators.Equal = refl
relator_back relators.Unequal = refl
relator_back relators.Less = refl
relator_back relators.LessEqual = refl
relator_back relators.Greater = refl
relator_back relators.GreaterEqual = refl
relator_back relators.In = refl
relator_back relators.Is = refl

pub relator_one : (x y : Relator) (a b : Span) → relator_token x a ≡ relator_token y b → x ≡ y
relator_one x y a b e = sym (relator_back x) ∙ ap (λ (t : Token). relator_in t.kind) e ∙ relator_back y

abbrev sign_in : TokenKind → Sign
sign_in (kinds.Symbol symbols.Plus) = signs.Plus
sign_in _ = signs.Minus

sign_back : (op : Sign) → sign_in (sign_kind op) ≡ op
sign_back signs.Plus = refl
sign_back signs.Minus = refl

same_sign : (x y : Sign) (a b : Span) → sign_token x a ≡ sign_token y b → x ≡ y
same_sign x y a b e = sym (sign_back x) ∙ ap (λ (t : Token). sign_in t.kind) e ∙ sign_back y

pub sign_one : One print_sign Any
sign_one a b r s h k e =
    let same = same_sign a.sign b.sign a.span b.span (head_one e) in
    (λ i. record { sign = same i; span = span_one e i }, rest_one e)

abbrev add_in : TokenKind → AddOperator
add_in (kinds.Symbol symbols.Plus) = adds.Add
add_in (kinds.Symbol symbols.Minus) = adds.Subtract
add_in _ = adds.Or

add_back : (op : AddOperator) → add_in (add_kind op) ≡ op
add_back adds.Add = refl
add_back adds.Subtract = refl
add_back adds.Or = refl

pub add_one : (x y : AddOperator) (a b : Span) → add_token x a ≡ add_token y b → x ≡ y
add_one x y a b e = sym (add_back x) ∙ ap (λ (t : Token). add_in t.kind) e ∙ add_back y

abbrev mul_in : TokenKind → MulOperator
mul_in (kinds.Symbol symbols.Star) = muls.Multiply
mul_in (kinds.Symbol symbols.Slash) = muls.Divide
mul_in (kinds.Word words.Div) = muls.Div
mul_in (kinds.Word words.Mod) = muls.Mod
mul_in _ = muls.And

mul_back : (op : MulOperator) → mul_in (mul_kind op) ≡ op
mul_back muls.Multiply = refl
mul_back muls.Divide = refl
mul_back muls.Div = refl
mul_back muls.Mod = refl
mul_back muls.And = refl

pub mul_one : (x y : MulOperator) (a b : Span) → mul_token x a ≡ mul_token y b → x ≡ y
mul_one x y a b e = sym (mul_back x) ∙ ap (λ (t : Token). mul_in t.kind) e ∙ mul_back y
