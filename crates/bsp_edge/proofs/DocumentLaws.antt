-- Texts that may be handed out.
use Rattle.std.proofs.Common.{◌≡◌, ℕ, List, map, [], ◌∷◌, refl, ap}
use Rattle.std.specs.List.{All}
use Rattle.std.proofs.lemmas.List.Elements.{All-nil, All-cons}
use Rattle.ob_text.specs.declared.held.Held.{Held}
use Rattle.ob_text.specs.declared.held.Held.TheVariants.{Text, Absent, TooLarge, NotText}
use Rattle.ob_text.specs.Held.{IsReadable}
use Rattle.ob_text.proofs.Documents.{held_readable}
use Rattle.bsp_edge.specs.Documents.{as_handed}
use Rattle.bsp_edge.specs.Handing.{paths_of}

-- what is handed out may be handed out
pub as_handed_readable : (held : Held) → IsReadable (as_handed held)
as_handed_readable (Text text) = held_readable text
as_handed_readable Absent = tt
as_handed_readable TooLarge = tt
as_handed_readable NotText = tt

-- a list of what is handed out has its paths, and nothing else than what may be handed out
pub paths_handed : (f : List ℕ → Held) (paths : List (List ℕ)) → paths_of (map (λ path. (path, as_handed (f path))) paths) ≡ paths
paths_handed f [] = refl
paths_handed f (path ∷ paths) = ap (λ rest. path ∷ rest) (paths_handed f paths)

pub all_readable : (f : List ℕ → Held) (paths : List (List ℕ)) → All (λ (entry : List ℕ × Held). IsReadable entry.1) (map (λ path. (path, as_handed (f path))) paths)
all_readable f [] = All-nil (λ (entry : List ℕ × Held). IsReadable entry.1)
all_readable f (path ∷ paths) =
    All-cons (λ (entry : List ℕ × Held). IsReadable entry.1) (path, as_handed (f path)) (map (λ path. (path, as_handed (f path))) paths) (as_handed_readable (f path)) (all_readable f paths)
