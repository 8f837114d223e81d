-- How the scanner finds the reserved word or the symbol that stands at the front of a text.
use Rattle.std.specs.Prelude.{ℕ, ◌==◌, ◌&&◌, if◌then◌else◌, List, [], ◌∷◌, codes, Option, None, Some, slice_index}
use Rattle.std.specs.Option.{option_or}
use Rattle.std.specs.Str.{bytes_eq}
use Rattle.oberon_scan.specs.declared.token.Word.{Word}
use Rattle.oberon_scan.specs.declared.token.Word.TheVariants as words
use Rattle.oberon_scan.specs.declared.token.Symbol.{Symbol}
use Rattle.oberon_scan.specs.declared.token.Symbol.TheVariants as symbols

-- the word, where the run is its spelling
abbrev pub only_word : List ℕ → List ℕ → Word → Option Word
only_word run text word = if bytes_eq run text then Some word else None

-- the reserved word that is spelled so, by its first letter
unfoldable pub find_word : List ℕ → Option Word
find_word [] = None
find_word (byte ∷ bytes) =
    let run : List ℕ = byte ∷ bytes in
    if byte == 65 then only_word run (codes "ARRAY") words.Array else
    if byte == 66 then option_or (only_word run (codes "BEGIN") words.Begin) (only_word run (codes "BY") words.By) else
    if byte == 67 then option_or (only_word run (codes "CASE") words.Case) (only_word run (codes "CONST") words.Const) else
    if byte == 68 then option_or (only_word run (codes "DIV") words.Div) (only_word run (codes "DO") words.Do) else
    if byte == 69 then option_or (option_or (only_word run (codes "ELSE") words.Else) (only_word run (codes "ELSIF") words.Elsif)) (only_word run (codes "END") words.End) else
    if byte == 70 then option_or (only_word run (codes "FALSE") words.False) (only_word run (codes "FOR") words.For) else
    if byte == 73 then option_or (option_or (option_or (only_word run (codes "IF") words.If) (only_word run (codes "IMPORT") words.Import)) (only_word run (codes "IN") words.In)) (only_word run (codes "IS") words.Is) else
    if byte == 77 then option_or (only_word run (codes "MOD") words.Mod) (only_word run (codes "MODULE") words.Module) else
    if byte == 78 then only_word run (codes "NIL") words.Nil else
    if byte == 79 then option_or (only_word run (codes "OF") words.Of) (only_word run (codes "OR") words.Or) else
    if byte == 80 then option_or (only_word run (codes "POINTER") words.Pointer) (only_word run (codes "PROCEDURE") words.Procedure) else
    if byte == 82 then option_or (option_or (only_word run (codes "RECORD") words.Record) (only_word run (codes "REPEAT") words.Repeat)) (only_word run (codes "RETURN") words.Return) else
    if byte == 84 then option_or (option_or (option_or (only_word run (codes "THEN") words.Then) (only_word run (codes "TO") words.To)) (only_word run (codes "TRUE") words.True)) (only_word run (codes "TYPE") words.Type) else
    if byte == 85 then only_word run (codes "UNTIL") words.Until else
    if byte == 86 then only_word run (codes "VAR") words.Var else
    if byte == 87 then only_word run (codes "WHILE") words.While else
    None

-- the symbol of two bytes
unfoldable pub pair_symbol : ℕ → ℕ → Option Symbol
pair_symbol first second =
    if (first == 58) && (second == 61) then Some symbols.Becomes else
    if (first == 60) && (second == 61) then Some symbols.LessEqual else
    if (first == 62) && (second == 61) then Some symbols.GreaterEqual else
    if (first == 46) && (second == 46) then Some symbols.DotDot else
    None

-- the symbol of one byte
unfoldable pub single_symbol : ℕ → Option Symbol
single_symbol byte =
    if byte == 43 then Some symbols.Plus else
    if byte == 45 then Some symbols.Minus else
    if byte == 42 then Some symbols.Star else
    if byte == 47 then Some symbols.Slash else
    if byte == 126 then Some symbols.Tilde else
    if byte == 38 then Some symbols.Ampersand else
    if byte == 46 then Some symbols.Period else
    if byte == 44 then Some symbols.Comma else
    if byte == 59 then Some symbols.Semicolon else
    if byte == 124 then Some symbols.Bar else
    if byte == 40 then Some symbols.OpenParen else
    if byte == 41 then Some symbols.CloseParen else
    if byte == 91 then Some symbols.OpenBracket else
    if byte == 93 then Some symbols.CloseBracket else
    if byte == 123 then Some symbols.OpenBrace else
    if byte == 125 then Some symbols.CloseBrace else
    if byte == 94 then Some symbols.Caret else
    if byte == 61 then Some symbols.Equal else
    if byte == 35 then Some symbols.Hash else
    if byte == 60 then Some symbols.Less else
    if byte == 62 then Some symbols.Greater else
    if byte == 58 then Some symbols.Colon else
    None

-- the longest symbol at the front of a text that isn't empty
abbrev pub symbol_at : List ℕ → Option Symbol
symbol_at text = option_or (pair_symbol (slice_index text 0) (slice_index text 1)) (single_symbol (slice_index text 0))
