-- A line of a script: the words that it is spelled by.
use Rattle.std.specs.Prelude.{◌≡◌, ◌≢◌, ◌<◌, ◌≤◌, ◌^◌, ℕ, Bool, true, false, List, [], ◌∷◌, Option, None, Some, length, codes, decimal}
use Rattle.std.specs.List.{All}
use Rattle.std.specs.Str.{IsUtf8}
use Rattle.client_script.specs.Pieces.{pieces}
use Rattle.client_script.specs.Verbs.{text_of}
use Rattle.client_script.specs.declared.line.Line.{Line}
use Rattle.client_script.specs.declared.line.Line.TheVariants as line
use Rattle.client_script.specs.declared.verb.Verb.{Verb}
use Rattle.client_script.specs.declared.verb.Verb.TheVariants as verb

abbrev pub verb_of : Line → Verb
verb_of (line.Initialize uri) = verb.Initialize
verb_of line.Targets = verb.Targets
verb_of (line.Sources names) = verb.Sources
verb_of (line.Inverse path) = verb.Inverse
verb_of (line.Compile names) = verb.Compile
verb_of (line.Test names) = verb.Test
verb_of (line.Run name) = verb.Run
verb_of (line.Clean names) = verb.Clean
verb_of line.Reload = verb.Reload
verb_of (line.Cancel id) = verb.Cancel
verb_of line.Wait = verb.Wait
verb_of line.ShowAll = verb.Show
verb_of line.ShowErrors = verb.Show
verb_of line.Shutdown = verb.Shutdown
verb_of line.Exit = verb.Exit

abbrev pub arguments_of : Line → List (List ℕ)
arguments_of (line.Initialize uri) = uri ∷ []
arguments_of line.Targets = []
arguments_of (line.Sources names) = names
arguments_of (line.Inverse path) = path ∷ []
arguments_of (line.Compile names) = names
arguments_of (line.Test names) = names
arguments_of (line.Run name) = name ∷ []
arguments_of (line.Clean names) = names
arguments_of line.Reload = []
arguments_of (line.Cancel id) = decimal id ∷ []
arguments_of line.Wait = []
arguments_of line.ShowAll = codes "all" ∷ []
arguments_of line.ShowErrors = codes "errors" ∷ []
arguments_of line.Shutdown = []
arguments_of line.Exit = []

abbrev pub words_of : Line → List (List ℕ)
words_of line = text_of (verb_of line) ∷ arguments_of line

-- ---- which words may stand where

-- between two blanks, or a blank and a line's end, stands something; a word of a text is a text
pub record IsWord (word : List ℕ) : Type 0 where
  pub some : word ≢ []
  pub utf8 : IsUtf8 word

abbrev pub IsUri : List ℕ → Type 0
IsUri word = IsWord word × (length word ≤ 4096)

pub record AreNames (names : List (List ℕ)) : Type 0 where
  pub some : 0 < length names
  pub most : length names ≤ 256
  pub each : All IsWord names

abbrev pub IsId : ℕ → Type 0
IsId id = id < 2 ^ 63

abbrev pub IsLine : Line → Type 0
IsLine (line.Initialize uri) = IsUri uri
IsLine line.Targets = Unit {0}
IsLine (line.Sources names) = AreNames names
IsLine (line.Inverse path) = IsWord path
IsLine (line.Compile names) = AreNames names
IsLine (line.Test names) = AreNames names
IsLine (line.Run name) = IsWord name
IsLine (line.Clean names) = AreNames names
IsLine line.Reload = Unit {0}
IsLine (line.Cancel id) = IsId id
IsLine line.Wait = Unit {0}
IsLine line.ShowAll = Unit {0}
IsLine line.ShowErrors = Unit {0}
IsLine line.Shutdown = Unit {0}
IsLine line.Exit = Unit {0}

abbrev pub is_initialize : Line → Bool
is_initialize (line.Initialize uri) = true
is_initialize line.Targets = false
is_initialize (line.Sources names) = false
is_initialize (line.Inverse path) = false
is_initialize (line.Compile names) = false
is_initialize (line.Test names) = false
is_initialize (line.Run name) = false
is_initialize (line.Clean names) = false
is_initialize line.Reload = false
is_initialize (line.Cancel id) = false
is_initialize line.Wait = false
is_initialize line.ShowAll = false
is_initialize line.ShowErrors = false
is_initialize line.Shutdown = false
is_initialize line.Exit = false

-- The words of a text, one blank between two, are those of the line.
pub record Spells (text : List ℕ) (line : Line) : Type 0 where
  pub is_line : IsLine line
  pub words : pieces 32 text ≡ words_of line

-- the line of this verb with these arguments, or none where there is none
abbrev pub IsLineOf : Verb → List (List ℕ) → Option Line → Type 0
IsLineOf v words None = (line : Line) → IsLine line → verb_of line ≡ v → arguments_of line ≢ words
IsLineOf v words (Some line) = IsLine line × (verb_of line ≡ v) × (arguments_of line ≡ words)

-- the line that a text spells, or none where it spells none
abbrev pub IsLineIn : List ℕ → Option Line → Type 0
IsLineIn text None = (line : Line) → Spells text line → ⊥
IsLineIn text (Some line) = Spells text line
