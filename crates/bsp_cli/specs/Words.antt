-- The words of the command line.
use Rattle.std.specs.Prelude.{◌≡◌, ℕ, List, [], ◌∷◌, ◌==◌, ◌&&◌, length, codes, Bool, true, not, nat_eq}
use Rattle.std.specs.List.{starts_with}
use Rattle.bsp_cli.specs.declared.words.Command.{Command}
use Rattle.bsp_cli.specs.declared.words.Command.TheVariants.{Serve}

-- a word that isn't empty and isn't written as an option
abbrev pub is_folder : List ℕ → Bool
is_folder word = not (length word == 0) && not (starts_with nat_eq word (codes "--"))

-- the words ask to serve this folder
pub record ServesFolder (words : List (List ℕ)) (folder : List ℕ) : Type 0 where
  pub spelled : words ≡ codes "serve" ∷ folder ∷ []
  pub named : is_folder folder ≡ true

-- the folder of a command
abbrev pub folder_of : Command → List ℕ
folder_of (Serve folder) = folder.now

-- the words ask for nothing that the program does
pub record AskNothing (words : List (List ℕ)) : Type 0 where
  pub none : (folder : List ℕ) → ServesFolder words folder → ⊥
