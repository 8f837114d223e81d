-- The names of targets and the paths of modules in a workspace file. A text is its bytes.
use Rattle.std.specs.Prelude.{◌≡◌, ◌≢◌, ℕ, ◌==◌, ◌&&◌, ◌||◌, Bool, true, false, not, nat_le, List, [], ◌∷◌, length, codes, is_some}
use Rattle.std.specs.Char.{is_ascii_alphabetic, is_ascii_alphanumeric}
use Rattle.std.specs.List.{list_all, slice_split, before_first, after_last}
use Rattle.std.specs.Str.{bytes_eq}
use Rattle.oberon_scan.specs.declared.token.Word.{Word}
use Rattle.oberon_scan.specs.Finding.{find_word}
use Rattle.oberon_scan.specs.Spelling.{spelling}
use Rattle.ob_text.specs.Ascii.{IsGraphicWithin}
use Rattle.target_graph.specs.Limits.{name_limit}

-- a letter, a digit, `_`, `.` or `-`
abbrev pub is_name_byte : ℕ → Bool
is_name_byte byte = is_ascii_alphanumeric byte || (byte == 95) || (byte == 46) || (byte == 45)

-- one or more bytes of names
abbrev pub are_name_bytes : List ℕ → Bool
are_name_bytes text = not (length text == 0) && list_all is_name_byte text

-- the name of a target
unfoldable pub is_name : List ℕ → Bool
is_name text = are_name_bytes text && nat_le (length text) name_limit

-- the parts of a path, between its slashes
abbrev pub segments : List ℕ → List (List ℕ)
segments path = slice_split (λ byte. byte == 47) path

-- what stands behind the last slash, or all where there is none
abbrev pub last_segment : List ℕ → List ℕ
last_segment path = after_last (λ byte. byte == 47) path

-- the stem of a path is its last segment up to the first `.`
unfoldable pub stem : List ℕ → List ℕ
stem path = before_first (λ byte. byte == 46) (last_segment path)

-- a segment of a path is a word that leads to no other folder
abbrev pub is_segment : List ℕ → Bool
is_segment text = are_name_bytes text && not (bytes_eq text (codes ".")) && not (bytes_eq text (codes ".."))

-- a letter, and then letters and digits (The Programming Language Oberon-07, section 3)
abbrev pub is_identifier : List ℕ → Bool
is_identifier [] = false
is_identifier (byte ∷ bytes) = is_ascii_alphabetic byte && list_all is_ascii_alphanumeric bytes

-- a name that a module may have: an identifier that is no reserved word and isn't the name of the predeclared module
unfoldable pub is_module_name : List ℕ → Bool
is_module_name text = is_identifier text && not (is_some (find_word text)) && not (bytes_eq text (codes "Out"))

-- the same, of a text that is a module's name
pub record IsModuleName (text : List ℕ) : Type 0 where
  pub identifier : is_identifier text ≡ true
  pub no_word : (w : Word) → text ≢ spelling w
  pub no_out : text ≢ codes "Out"

-- the path of a module
unfoldable pub is_path : List ℕ → Bool
is_path text = nat_le (length text) name_limit && list_all is_segment (segments text) && is_module_name (stem text)

-- what the names of targets, the stems of modules and the paths of a file's fields are
abbrev pub IsPlainName : List ℕ → Type 0
IsPlainName text = IsGraphicWithin name_limit text
