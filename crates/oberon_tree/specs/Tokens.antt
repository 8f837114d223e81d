-- The tokens that stand in trees.
use Rattle.ob_text.specs.declared.span.Span.{Span}
use Rattle.oberon_scan.specs.declared.token.Token.{Token}
use Rattle.oberon_scan.specs.declared.token.TokenKind.{TokenKind}
use Rattle.oberon_scan.specs.declared.token.TokenKind.TheVariants as kinds
use Rattle.oberon_scan.specs.declared.token.Word.{Word}
use Rattle.oberon_scan.specs.declared.token.Word.TheVariants as words
use Rattle.oberon_scan.specs.declared.token.Symbol.{Symbol}
use Rattle.oberon_scan.specs.declared.token.Symbol.TheVariants as symbols
use Rattle.oberon_tree.specs.declared.leaf.Ident.{Ident}
use Rattle.oberon_tree.specs.declared.leaf.IntegerLiteral.{IntegerLiteral}
use Rattle.oberon_tree.specs.declared.leaf.StringLiteral.{StringLiteral}
use Rattle.oberon_tree.specs.declared.expression.Relator.{Relator}
use Rattle.oberon_tree.specs.declared.expression.Relator.TheVariants as relators
use Rattle.oberon_tree.specs.declared.expression.Sign.{Sign}
use Rattle.oberon_tree.specs.declared.expression.Sign.TheVariants as signs
use Rattle.oberon_tree.specs.declared.expression.AddOperator.{AddOperator}
use Rattle.oberon_tree.specs.declared.expression.AddOperator.TheVariants as adds
use Rattle.oberon_tree.specs.declared.expression.MulOperator.{MulOperator}
use Rattle.oberon_tree.specs.declared.expression.MulOperator.TheVariants as muls

abbrev pub symbol_token : Symbol → Span → Token
symbol_token symbol span = record { span = span; kind = kinds.Symbol symbol }

abbrev pub word_token : Word → Span → Token
word_token word span = record { span = span; kind = kinds.Word word }

abbrev pub ident_token : Ident → Token
ident_token i = record { span = i.span; kind = kinds.Ident i.name }

abbrev pub integer_token : IntegerLiteral → Token
integer_token n = record { span = n.span; kind = kinds.Integer n.value }

abbrev pub string_token : StringLiteral → Token
string_token s = record { span = s.span; kind = kinds.Str s.value }

abbrev pub relator_kind : Relator → TokenKind
relator_kind relators.Equal = kinds.Symbol symbols.Equal
relator_kind relators.Unequal = kinds.Symbol symbols.Hash
relator_kind relators.Less = kinds.Symbol symbols.Less
relator_kind relators.LessEqual = kinds.Symbol symbols.LessEqual
relator_kind relators.Greater = kinds.Symbol symbols.Greater
relator_kind relators.GreaterEqual = kinds.Symbol symbols.GreaterEqual
relator_kind relators.In = kinds.Word words.In
relator_kind relators.Is = kinds.Word words.Is

abbrev pub sign_kind : Sign → TokenKind
sign_kind signs.Plus = kinds.Symbol symbols.Plus
sign_kind signs.Minus = kinds.Symbol symbols.Minus

abbrev pub add_kind : AddOperator → TokenKind
add_kind adds.Add = kinds.Symbol symbols.Plus
add_kind adds.Subtract = kinds.Symbol symbols.Minus
add_kind adds.Or = kinds.Word words.Or

abbrev pub mul_kind : MulOperator → TokenKind
mul_kind muls.Multiply = kinds.Symbol symbols.Star
mul_kind muls.Divide = kinds.Symbol symbols.Slash
mul_kind muls.Div = kinds.Word words.Div
mul_kind muls.Mod = kinds.Word words.Mod
mul_kind muls.And = kinds.Symbol symbols.Ampersand

abbrev pub relator_token : Relator → Span → Token
relator_token op span = record { span = span; kind = relator_kind op }

abbrev pub sign_token : Sign → Span → Token
sign_token sign span = record { span = span; kind = sign_kind sign }

abbrev pub add_token : AddOperator → Span → Token
add_token op span = record { span = span; kind = add_kind op }

abbrev pub mul_token : MulOperator → Span → Token
mul_token op span = record { span = span; kind = mul_kind op }
