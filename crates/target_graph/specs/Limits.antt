-- The limits of a workspace, of its file and of its addresses.
use Rattle.std.specs.Prelude.{ℕ}

-- the most targets
abbrev pub targets_limit : ℕ
targets_limit = 256

-- the most pairs of a target and a module's path, over all targets
abbrev pub pairs_limit : ℕ
pairs_limit = 1024

-- the most dependencies, over all targets
abbrev pub dependencies_limit : ℕ
dependencies_limit = 1024

-- the most bytes of a target's name, and of a module's path
abbrev pub name_limit : ℕ
name_limit = 255

-- the most bytes of a root; `root_of` takes no longer text
abbrev pub root_limit : ℕ
root_limit = 4096
