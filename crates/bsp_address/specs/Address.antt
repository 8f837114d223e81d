-- What an address is, of a document or of a target. A text is its bytes.
use Rattle.std.specs.Prelude.{ℕ, List}
use Rattle.ob_text.specs.Ascii.{IsGraphicWithin}

-- the most bytes of an address: 4,096 of a root, 4 of `?id=` and 255 of a name
abbrev pub address_limit : ℕ
address_limit = 4355

-- printing ASCII characters, no blank among them, no more than the limit
abbrev pub IsAddress : List ℕ → Type 0
IsAddress = IsGraphicWithin address_limit
