-- Tests on the kind of a token, as numbers and truth values that compute.
use Rattle.std.specs.Prelude.{ℕ, Bool, true, false, cond, eqb, List, [], ◌∷◌}
use Rattle.oberon_scan.specs.declared.token.Token.{Token}
use Rattle.oberon_scan.specs.declared.token.TokenKind.{TokenKind}
use Rattle.oberon_scan.specs.declared.token.TokenKind.TheVariants as kinds
use Rattle.oberon_scan.specs.declared.token.Word.{Word}
use Rattle.oberon_scan.specs.declared.token.Word.TheVariants as words
use Rattle.oberon_scan.specs.declared.token.Symbol.{Symbol}
use Rattle.oberon_scan.specs.declared.token.Symbol.TheVariants as symbols

-- reserved words and symbols by number
abbrev pub word_code : Word → ℕ
word_code words.Array = 0
word_code words.Begin = 1
word_code words.By = 2
word_code words.Case = 3
word_code words.Const = 4
word_code words.Div = 5
word_code words.Do = 6
word_code words.Else = 7
word_code words.Elsif = 8
word_code words.End = 9
word_code words.False = 10
word_code words.For = 11
word_code words.If = 12
word_code words.Import = 13
word_code words.In = 14
word_code words.Is = 15
word_code words.Mod = 16
word_code words.Module = 17
word_code words.Nil = 18
word_code words.Of = 19
word_code words.Or = 20
word_code words.Pointer = 21
word_code words.Procedure = 22
word_code words.Record = 23
word_code words.Repeat = 24
word_code words.Return = 25
word_code words.Then = 26
word_code words.To = 27
word_code words.True = 28
word_code words.Type = 29
word_code words.Until = 30
word_code words.Var = 31
word_code words.While = 32

abbrev pub symbol_code : Symbol → ℕ
symbol_code symbols.Plus = 0
symbol_code symbols.Minus = 1
symbol_code symbols.Star = 2
symbol_code symbols.Slash = 3
symbol_code symbols.Tilde = 4
symbol_code symbols.Ampersand = 5
symbol_code symbols.Period = 6
symbol_code symbols.Comma = 7
symbol_code symbols.Semicolon = 8
symbol_code symbols.Bar = 9
symbol_code symbols.OpenParen = 10
symbol_code symbols.CloseParen = 11
symbol_code symbols.OpenBracket = 12
symbol_code symbols.CloseBracket = 13
symbol_code symbols.OpenBrace = 14
symbol_code symbols.CloseBrace = 15
symbol_code symbols.Becomes = 16
symbol_code symbols.Caret = 17
symbol_code symbols.Equal = 18
symbol_code symbols.Hash = 19
symbol_code symbols.Less = 20
symbol_code symbols.Greater = 21
symbol_code symbols.LessEqual = 22
symbol_code symbols.GreaterEqual = 23
symbol_code symbols.Colon = 24
symbol_code symbols.DotDot = 25

-- this reserved word
abbrev pub is_word : Word → TokenKind → Bool
is_word w (kinds.Ident x) = false
is_word w (kinds.Integer x) = false
is_word w (kinds.Str x) = false
is_word w (kinds.Word x) = eqb (word_code w) (word_code x)
is_word w (kinds.Symbol x) = false

-- this symbol
abbrev pub is_symbol : Symbol → TokenKind → Bool
is_symbol w (kinds.Ident x) = false
is_symbol w (kinds.Integer x) = false
is_symbol w (kinds.Str x) = false
is_symbol w (kinds.Word x) = false
is_symbol w (kinds.Symbol x) = eqb (symbol_code w) (symbol_code x)

-- an identifier
abbrev pub is_ident : TokenKind → Bool
is_ident (kinds.Ident x) = true
is_ident (kinds.Integer x) = false
is_ident (kinds.Str x) = false
is_ident (kinds.Word x) = false
is_ident (kinds.Symbol x) = false

-- a number or a string
abbrev pub is_literal : TokenKind → Bool
is_literal (kinds.Ident x) = false
is_literal (kinds.Integer x) = true
is_literal (kinds.Str x) = true
is_literal (kinds.Word x) = false
is_literal (kinds.Symbol x) = false

abbrev pub is_sign : TokenKind → Bool
is_sign k = cond (is_symbol symbols.Plus k) true (is_symbol symbols.Minus k)

-- a number, a string, TRUE or FALSE
abbrev pub is_constant : TokenKind → Bool
is_constant k = cond (is_literal k) true (cond (is_word words.True k) true (is_word words.False k))

-- How far inside the constructs that have an open end a token goes on: 9 with a designator, 8 with a
-- term, 7 with a simple expression, 6 with an expression, 5 with a range, 4 with a list behind commas,
-- 3 with an assignment, 2 where a statement begins, 1 with a list behind semicolons.
abbrev pub symbol_reach : Symbol → ℕ
symbol_reach symbols.Plus = 7
symbol_reach symbols.Minus = 7
symbol_reach symbols.Star = 8
symbol_reach symbols.Slash = 8
symbol_reach symbols.Tilde = 0
symbol_reach symbols.Ampersand = 8
symbol_reach symbols.Period = 9
symbol_reach symbols.Comma = 4
symbol_reach symbols.Semicolon = 1
symbol_reach symbols.Bar = 0
symbol_reach symbols.OpenParen = 9
symbol_reach symbols.CloseParen = 0
symbol_reach symbols.OpenBracket = 9
symbol_reach symbols.CloseBracket = 0
symbol_reach symbols.OpenBrace = 0
symbol_reach symbols.CloseBrace = 0
symbol_reach symbols.Becomes = 3
symbol_reach symbols.Caret = 0
symbol_reach symbols.Equal = 6
symbol_reach symbols.Hash = 6
symbol_reach symbols.Less = 6
symbol_reach symbols.Greater = 6
symbol_reach symbols.LessEqual = 6
symbol_reach symbols.GreaterEqual = 6
symbol_reach symbols.Colon = 0
symbol_reach symbols.DotDot = 5

abbrev pub word_reach : Word → ℕ
word_reach words.Array = 0
word_reach words.Begin = 0
word_reach words.By = 0
word_reach words.Case = 2
word_reach words.Const = 0
word_reach words.Div = 8
word_reach words.Do = 0
word_reach words.Else = 0
word_reach words.Elsif = 0
word_reach words.End = 0
word_reach words.False = 0
word_reach words.For = 2
word_reach words.If = 2
word_reach words.Import = 0
word_reach words.In = 6
word_reach words.Is = 6
word_reach words.Mod = 8
word_reach words.Module = 0
word_reach words.Nil = 0
word_reach words.Of = 0
word_reach words.Or = 7
word_reach words.Pointer = 0
word_reach words.Procedure = 0
word_reach words.Record = 0
word_reach words.Repeat = 2
word_reach words.Return = 0
word_reach words.Then = 0
word_reach words.To = 0
word_reach words.True = 0
word_reach words.Type = 0
word_reach words.Until = 0
word_reach words.Var = 0
word_reach words.While = 2

abbrev pub reach : TokenKind → ℕ
reach (kinds.Ident x) = 2
reach (kinds.Integer x) = 0
reach (kinds.Str x) = 0
reach (kinds.Word x) = word_reach x
reach (kinds.Symbol x) = symbol_reach x

-- the same of the next token of a list
abbrev pub next_is : (TokenKind → Bool) → List Token → Bool
next_is test [] = false
next_is test (t ∷ ts) = test t.kind
