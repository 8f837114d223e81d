-- The addresses of a workspace: of its root, of its targets and of its documents. A text is its bytes.
use Rattle.std.specs.Prelude.{◌≡◌, ◌⊎◌, ℕ, ◌-◌, ◌==◌, ◌&&◌, Bool, not, nat_le, List, ◌++◌, length, slice_index, codes, Option, None, Some, is_some, option_and_then, option_map, if◌then◌else◌}
use Rattle.std.specs.Char.{is_ascii_graphic}
use Rattle.std.specs.List.{list_all}
use Rattle.std.specs.Result.{result_ok}
use Rattle.url.specs.Parts.{Parts, serialize, cannot_be_a_base}
use Rattle.url.specs.Parser.{parse_url}
use Rattle.target_graph.specs.Limits.{root_limit}

-- the text that url prints for an address that it reads
unfoldable pub printed : List ℕ → Option (List ℕ)
printed text = option_map serialize (result_ok (parse_url None text))

-- the text with a slash at its end
abbrev pub with_slash : List ℕ → List ℕ
with_slash text = if slice_index text (length text - 1) == 47 then text else text ++ codes "/"

-- the address names a folder: its path isn't opaque, and it has neither a query nor a fragment
abbrev pub is_plain : Parts → Bool
is_plain url = not (cannot_be_a_base url) && not (is_some url.query) && not (is_some url.fragment)

-- the root, where it is no longer than its limit and holds printing ASCII characters alone, without blanks
abbrev pub plain_root : List ℕ → Option (List ℕ)
plain_root root = if nat_le (length root) root_limit && list_all is_ascii_graphic root then Some root else None

abbrev pub root_of_url : Parts → Option (List ℕ)
root_of_url url = if is_plain url then plain_root (with_slash (serialize url)) else None

-- The root at a client's `rootUri`: the text that url prints for it, with a slash at its end. There is none where
-- url refuses the address, where it has an opaque path, a query or a fragment, where the root is longer than its
-- limit, or where it holds a byte that is no printing ASCII character. url prints no such byte in an address
-- without an opaque path. The condition lets this be known of every root without a proof of how url prints.
unfoldable pub root_at : List ℕ → Option (List ℕ)
root_at text = option_and_then root_of_url (result_ok (parse_url None text))

-- the id of a target, by the root and the target's name
unfoldable pub target_address : List ℕ → List ℕ → List ℕ
target_address root name = root ++ codes "?id=" ++ name

-- the address of a document, by the root and the document's path
abbrev pub document_address : List ℕ → List ℕ → List ℕ
document_address root path = root ++ path

-- The address that comes in is spelled so, or url prints it so.
abbrev pub IsSpelling : List ℕ → List ℕ → Type 0
IsSpelling given text = (text ≡ given) ⊎ (printed given ≡ Some text)
