-- A search through the entries of a snapshot.
use Rattle.std.proofs.Common.{◌≡◌, ◌≢◌, ℕ, zero, suc, ◌<◌, Bool, true, false, cond, List, [], ◌∷◌, length, get_or, None, Some, refl, sym, ◌∙◌, Decides, arith}
use Rattle.std.specs.List.{All}
use Rattle.std.specs.Str.{bytes_eq}
use Rattle.std.proofs.lemmas.Bool.{false≢true}
use Rattle.std.proofs.lemmas.Slice.Eq.{bytes_eq-Decides}
use Rattle.ob_text.specs.declared.held.Held.{Held}
use Rattle.ob_text.specs.Held.{held_at}

abbrev LacksPath : List ℕ → List (List ℕ × Held) → Type 0
LacksPath path entries = All (λ entry. entry.0 ≢ path) entries

-- the test says whether a path is the one that is asked for
same_path : (entry : List ℕ × Held) (path : List ℕ) → Decides (bytes_eq entry.0 path) (entry.0 ≡ path)
same_path entry path = bytes_eq-Decides entry.0 path

-- where nothing is held at a path, no entry has it
pub lacks_path : (entries : List (List ℕ × Held)) (path : List ℕ) → held_at entries path ≡ None → LacksPath path entries
lacks_path [] path e = λ k d h. absurd (omega arith)
lacks_path (entry ∷ entries) path e = go (lacks_path entries path) (bytes_eq entry.0 path) refl e
  where
    at : LacksPath path entries → bytes_eq entry.0 path ≡ false → (k : ℕ) (d : List ℕ × Held) → k < suc (length entries) → (get_or (entry ∷ entries) k d).0 ≢ path
    at rest f zero d h = λ s. false≢true (sym f ∙ (same_path entry path).1 s)
    at rest f (suc k) d h = rest k d (omega arith)

    go : (held_at entries path ≡ None → LacksPath path entries) → (b : Bool) → bytes_eq entry.0 path ≡ b → cond b (Some entry.1) (held_at entries path) ≡ None → LacksPath path (entry ∷ entries)
    go rest true f n = absurd (cc)
    go rest false f n = at (rest n) f
