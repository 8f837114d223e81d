-- What may follow an open construct: the token behind it goes on inside fewer constructs, or begins a later part of
-- the module.
use Rattle.std.specs.Prelude.{ℕ, List, [], ◌∷◌}
use Rattle.oberon_scan.specs.declared.token.Token.{Token}
use Rattle.oberon_scan.specs.declared.token.TokenKind.{TokenKind}
use Rattle.oberon_scan.specs.declared.token.TokenKind.TheVariants as kinds
use Rattle.oberon_scan.specs.declared.token.Word.{Word}
use Rattle.oberon_scan.specs.declared.token.Word.TheVariants as words
use Rattle.oberon_productions.specs.Tests.{reach}

-- The part of a module that a token begins, the earlier part by the greater number, with an identifier
-- for an item of a declaration.
abbrev pub word_stage : Word → ℕ
word_stage words.Array = 0
word_stage words.Begin = 2
word_stage words.By = 0
word_stage words.Case = 0
word_stage words.Const = 6
word_stage words.Div = 0
word_stage words.Do = 0
word_stage words.Else = 0
word_stage words.Elsif = 0
word_stage words.End = 0
word_stage words.False = 0
word_stage words.For = 0
word_stage words.If = 0
word_stage words.Import = 8
word_stage words.In = 0
word_stage words.Is = 0
word_stage words.Mod = 0
word_stage words.Module = 0
word_stage words.Nil = 0
word_stage words.Of = 0
word_stage words.Or = 0
word_stage words.Pointer = 0
word_stage words.Procedure = 3
word_stage words.Record = 0
word_stage words.Repeat = 0
word_stage words.Return = 1
word_stage words.Then = 0
word_stage words.To = 0
word_stage words.True = 0
word_stage words.Type = 5
word_stage words.Until = 0
word_stage words.Var = 4
word_stage words.While = 0

abbrev pub stage : TokenKind → ℕ
stage (kinds.Ident x) = 7
stage (kinds.Integer x) = 0
stage (kinds.Str x) = 0
stage (kinds.Word x) = word_stage x
stage (kinds.Symbol x) = 0

abbrev pub next_reach : List Token → ℕ
next_reach [] = 0
next_reach (t ∷ ts) = reach t.kind

abbrev pub next_stage : List Token → ℕ
next_stage [] = 0
next_stage (t ∷ ts) = stage t.kind
