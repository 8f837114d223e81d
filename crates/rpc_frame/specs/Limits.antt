-- The limits of this server's frames. The base protocol names none.
use Rattle.std.specs.Prelude.{ℕ}

-- the most bytes of a header part, with the empty line that closes it
abbrev pub header_limit : ℕ
header_limit = 1024

-- the most bytes of a content
abbrev pub content_limit : ℕ
content_limit = 16777216

-- the most digits that say how long a content is
abbrev pub digit_limit : ℕ
digit_limit = 8

-- the most bytes of a stream
abbrev pub stream_limit : ℕ
stream_limit = 34359738368
