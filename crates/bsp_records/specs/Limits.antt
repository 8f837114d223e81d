-- The limits of what a client sends, in bytes.
use Rattle.std.specs.Prelude.{ℕ}

-- of an originId
abbrev pub origin_limit : ℕ
origin_limit = 1024

-- of a rootUri
abbrev pub root_uri_limit : ℕ
root_uri_limit = 4096

-- of the path to a bad field, as it is told
abbrev pub path_limit : ℕ
path_limit = 256
