-- A script: its lines, which line ends part, and the first bad line.
use Rattle.std.specs.Prelude.{◌≡◌, ◌≢◌, ◌+◌, ◌++◌, ℕ, Bool, true, false, List, [], ◌∷◌, length}
use Rattle.client_script.specs.Lines.{Spells, is_initialize}
use Rattle.client_script.specs.Pieces.{pieces}
use Rattle.client_script.specs.declared.line.Line.{Line}

-- a script begins with the line behind these
abbrev pub starts : List Line → Bool
starts [] = true
starts (line ∷ lines) = false

-- Each text spells its line, in order; empty texts are passed over. A line is `initialize` just where the script begins with it.
abbrev pub AreLines : Bool → List (List ℕ) → List Line → Type 0
AreLines first [] [] = Unit {0}
AreLines first [] (line ∷ lines) = ⊥
AreLines first ([] ∷ texts) lines = AreLines first texts lines
AreLines first ((byte ∷ text) ∷ texts) [] = ⊥
AreLines first ((byte ∷ text) ∷ texts) (line ∷ lines) = Spells (byte ∷ text) line × (is_initialize line ≡ first) × AreLines false texts lines

-- These are the lines of a text. Behind its last line end stands a line without one, or nothing, which is passed over.
abbrev pub IsScript : List ℕ → List Line → Type 0
IsScript text lines = AreLines true (pieces 10 text) lines

-- Line n of a text, from 1, the empty ones counted, is the first bad one: before it stand lines of a script, and it is none that may follow them.
pub record IsFirstBad (text : List ℕ) (n : ℕ) : Type 0 where
  pub before : List (List ℕ)
  pub bad : List ℕ
  pub behind : List (List ℕ)
  pub parts : pieces 10 text ≡ before ++ bad ∷ behind
  pub number : n ≡ length before + 1
  pub lines : List Line
  pub right : AreLines true before lines
  pub some : bad ≢ []
  pub none : (line : Line) → Spells bad line → is_initialize line ≡ starts lines → ⊥

-- ---- one line more

-- A text that isn't empty spells a line that may follow these, which it is put behind.
abbrev pub IsAdded : List ℕ → List Line → List Line → Type 0
IsAdded [] lines new = new ≡ lines
IsAdded (byte ∷ text) lines new = (line : Line) × Spells (byte ∷ text) line × (is_initialize line ≡ starts lines) × (new ≡ lines ++ line ∷ [])

-- the text isn't empty, and spells no line that may follow these
abbrev pub IsNoneOf : List ℕ → List Line → Type 0
IsNoneOf text lines = (text ≢ []) × ((line : Line) → Spells text line → is_initialize line ≡ starts lines → ⊥)
