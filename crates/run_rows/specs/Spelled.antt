-- Whether a text is that of some tokens: each is spelled where its span says, and between them stands white space alone.
use Rattle.std.specs.Prelude.{ℕ, ◌-◌, ◌==◌, nat_le, Bool, true, ◌&&◌, if◌then◌else◌, List, [], ◌∷◌, ◌++◌, take, drop, length, slice_index, ℤ, pos}
use Rattle.std.specs.Char.{is_ascii_whitespace}
use Rattle.std.specs.List.{list_all}
use Rattle.std.specs.Ordering.{int_eq}
use Rattle.oberon_scan.specs.Numbers.{digits_value, signed}
use Rattle.oberon_scan.specs.Spelling.{spelling, symbol_text}
use Rattle.oberon_scan.specs.declared.token.Token.{Token}
use Rattle.oberon_scan.specs.declared.token.TokenKind.{TokenKind}
use Rattle.oberon_scan.specs.declared.token.TokenKind.TheVariants as kinds
use Rattle.oberon_tree.specs.Print.{tokens_of}
use Rattle.oberon_types.specs.Types.{same_name}
use Rattle.run_rules.specs.Linked.{Source}

abbrev last_byte : List ℕ → ℕ
last_byte s = slice_index s (length s - 1)

abbrev front : List ℕ → List ℕ
front s = take (length s - 1) s

-- with H (72) it is hexadecimal
abbrev pub is_number : List ℕ → ℤ → Bool
is_number s n = if last_byte s == 72 then int_eq (signed (digits_value 16 (front s))) n else int_eq (pos (digits_value 10 s)) n

-- with X (88) it is one character, else it stands in quotes (34)
abbrev pub is_string : List ℕ → List ℕ → Bool
is_string s x = if last_byte s == 88 then same_name (digits_value 16 (front s) ∷ []) x else same_name s (34 ∷ x ++ 34 ∷ [])

abbrev pub is_spelled : List ℕ → TokenKind → Bool
is_spelled s (kinds.Ident x) = same_name s x
is_spelled s (kinds.Integer n) = is_number s n
is_spelled s (kinds.Str x) = is_string s x
is_spelled s (kinds.Word w) = same_name s (spelling w)
is_spelled s (kinds.Symbol y) = same_name s (symbol_text y)

abbrev pub are_spelled : List ℕ → ℕ → List Token → Bool
are_spelled text from [] = list_all is_ascii_whitespace (drop from text)
are_spelled text from (t ∷ ts) =
    nat_le from t.span.start
    && list_all is_ascii_whitespace (take (t.span.start - from) (drop from text))
    && is_spelled (take (t.span.end - t.span.start) (drop t.span.start text)) t.kind
    && are_spelled text t.span.end ts

-- the tree of each module is that of its text
abbrev pub trees_fit : List Source → Bool
trees_fit [] = true
trees_fit (m ∷ ms) = are_spelled m.text 0 (tokens_of m.tree) && trees_fit ms
