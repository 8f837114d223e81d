-- Which lists of tokens are modules, and the first bad token of a list that is none.
use Rattle.std.specs.Prelude.{◌≡◌, ℕ, suc, ◌<◌, ◌≤◌, ◌⊎◌, List, ◌++◌, length, take}
use Rattle.oberon_scan.specs.declared.token.Token.{Token}
use Rattle.oberon_tree.specs.Trees.{ModuleTree}
use Rattle.oberon_tree.specs.Print.{tokens_of}
use Rattle.oberon_tree.specs.Levels.{depth_of_module}

-- how many levels a token of a module may stand inside
abbrev pub most_levels : ℕ
most_levels = 64

-- the tokens of some module, with no token inside more levels than the limit
abbrev pub IsSentence : ℕ → List Token → Type 0
IsSentence limit ts = (m : ModuleTree) × (tokens_of m ≡ ts) × (depth_of_module m ≤ limit)

-- some sentence begins with these tokens
abbrev pub IsFront : ℕ → List Token → Type 0
IsFront limit ts = (more : List Token) × IsSentence limit (ts ++ more)

-- The first k tokens begin a sentence, and so does each shorter front. With the token behind them they
-- begin none; or they are all, and no sentence themselves.
pub record IsFirstBad (limit : ℕ) (ts : List Token) (k : ℕ) : Type 0 where
  pub before : (j : ℕ) → j ≤ k → IsFront limit (take j ts)
  pub bad : ((k < length ts) × ¬ IsFront limit (take (suc k) ts)) ⊎ ((k ≡ length ts) × ¬ IsSentence limit ts)
