-- An address is UTF-8.
use Rattle.std.proofs.Common.{ℕ, List}
use Rattle.std.specs.Str.{IsUtf8}
use Rattle.std.proofs.lemmas.Str.{IsUtf8-from_ascii}
use Rattle.ob_text.proofs.AsciiLaws.{graphic_ascii}
use Rattle.bsp_address.specs.Address.{IsAddress}

pub address_utf8 : (text : List ℕ) → IsAddress text → IsUtf8 text
address_utf8 text is = IsUtf8-from_ascii text (graphic_ascii text is.graphic)
