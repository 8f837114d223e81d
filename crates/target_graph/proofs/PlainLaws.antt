-- Names, stems, paths of fields and addresses are printing ASCII characters without blanks, and short.
use Rattle.std.proofs.Common.{◌≡◌, ℕ, ◌+◌, ◌-◌, ◌≤◌, ◌&&◌, Bool, true, not, List, ◌++◌, length, max, take, drop, codes, eqb, leb, refl, ◌∙◌, arith}
use Rattle.std.specs.Char.{is_ascii_graphic}
use Rattle.std.specs.List.{AllPass, list_all, position_or_len, suffix_len}
use Rattle.std.proofs.lemmas.Bool.{and_from, and_parts, leb-true}
use Rattle.std.proofs.lemmas.Bool.Decides.{nat_tests}
use Rattle.std.proofs.lemmas.List.{length-append, length-take, length-drop}
use Rattle.std.proofs.lemmas.List.Elements.{All-take, All-drop, All-weaker}
use Rattle.std.proofs.lemmas.List.Folds.{list_all-append}
use Rattle.std.proofs.lemmas.List.Sums.{AllPass-from_list_all, list_all-from_AllPass}
use Rattle.ob_text.specs.Ascii.{IsGraphic, IsGraphicWithin}
use Rattle.bsp_address.specs.Address.{IsAddress}
use Rattle.json_shape.specs.Paths.{longest}
use Rattle.target_graph.specs.File.{file}
use Rattle.target_graph.specs.Limits.{name_limit}
use Rattle.target_graph.specs.Address.{target_address, document_address}
use Rattle.target_graph.specs.Names.{is_name_byte, are_name_bytes, is_name, is_segment, segments, stem, is_module_name, is_path, IsPlainName}
use Rattle.target_graph.specs.Root.{IsRoot}
use Rattle.target_graph.proofs.Segments.{is_path_byte, path_bytes, words_of}

-- ---- plain texts, one behind another

-- bytes that pass a test pass one that asks less
all_weaker : (p q : ℕ → Bool) → ((b : ℕ) → p b ≡ true → q b ≡ true) → (bs : List ℕ) → list_all p bs ≡ true → list_all q bs ≡ true
all_weaker p q less bs e = list_all-from_AllPass q bs (All-weaker (λ b. p b ≡ true) (λ b. q b ≡ true) less bs (AllPass-from_list_all p bs e))

-- printing ASCII characters, no longer than the limit
pub plain_bytes : (n : ℕ) (bs : List ℕ) → list_all is_ascii_graphic bs ≡ true → length bs ≤ n → IsGraphicWithin n bs
plain_bytes n bs e h = record {
  graphic = e;
  short = h;
}

pub plain_within : (a b : ℕ) (text : List ℕ) → a ≤ b → IsGraphicWithin a text → IsGraphicWithin b text
plain_within a b text h p = plain_bytes b text p.graphic (let s = p.short in omega arith)

pub plain_append : (a b : ℕ) (xs ys : List ℕ) → IsGraphicWithin a xs → IsGraphicWithin b ys → IsGraphicWithin (a + b) (xs ++ ys)
plain_append a b xs ys p q =
    plain_bytes (a + b) (xs ++ ys) (list_all-append is_ascii_graphic xs ys ∙ and_from _ _ p.graphic q.graphic)
    (let s = p.short in let t = q.short in omega (arith, length-append xs ys))

-- ---- names

name_byte : (b : ℕ) → is_name_byte b ≡ true → is_ascii_graphic b ≡ true
name_byte b e = grind (arith, nat_tests)

word_bytes : (text : List ℕ) → are_name_bytes text ≡ true → list_all is_name_byte text ≡ true
word_bytes text e = (and_parts (not (eqb (length text) 0)) (list_all is_name_byte text) e).1

pub plain_name : (text : List ℕ) → is_name text ≡ true → IsPlainName text
unfolding is_name
plain_name text e =
    let h = and_parts (are_name_bytes text) (leb (length text) name_limit) e in
    plain_bytes name_limit text (all_weaker is_name_byte is_ascii_graphic name_byte text (word_bytes text h.0)) (leb-true (length text) name_limit h.1)

-- ---- paths and stems

path_byte : (b : ℕ) → is_path_byte b ≡ true → is_ascii_graphic b ≡ true
path_byte b e = grind (arith, nat_tests)

pub plain_path : (path : List ℕ) → is_path path ≡ true → IsPlainName path
unfolding is_path
plain_path path e =
    let h = and_parts (leb (length path) name_limit && list_all is_segment (segments path)) (is_module_name (stem path)) e in
    let k = and_parts (leb (length path) name_limit) (list_all is_segment (segments path)) h.0 in
    plain_bytes name_limit path (all_weaker is_path_byte is_ascii_graphic path_byte path (path_bytes path (words_of (segments path) k.1))) (leb-true (length path) name_limit k.0)

pub plain_stem : (path : List ℕ) → is_path path ≡ true → IsPlainName (stem path)
unfolding stem
plain_stem path e =
    let p = plain_path path e in
    let start : ℕ = length path - suffix_len (λ byte. not (eqb byte 47)) path in
    let end : ℕ = position_or_len (λ byte. eqb byte 46) (drop start path) in
    let back : AllPass is_ascii_graphic (drop start path) = All-drop (λ b. is_ascii_graphic b ≡ true) start path (AllPass-from_list_all is_ascii_graphic path p.graphic) in
    plain_bytes name_limit (take end (drop start path))
    (list_all-from_AllPass is_ascii_graphic (take end (drop start path)) (All-take (λ b. is_ascii_graphic b ≡ true) end (drop start path) back))
    (let s = p.short in omega (arith, length-take end (drop start path), length-drop start path))

-- ---- the paths of fields

pub plain_field : (name : List ℕ) → IsGraphic name → length name ≤ max (length (codes "$")) (longest file) → IsPlainName name
plain_field name graphic short = plain_bytes name_limit name graphic (omega arith)

-- ---- ids and addresses: the limits of a root, of `?id=` and of a name make that of an address

pub plain_id : (root name : List ℕ) → IsRoot root → is_name name ≡ true → IsAddress (target_address root name)
unfolding target_address
plain_id root name r n =
    plain_append 4100 255 (root ++ codes "?id=") name (plain_append 4096 4 root (codes "?id=") r (plain_bytes 4 (codes "?id=") refl (omega arith))) (plain_name name n)

pub plain_document : (root path : List ℕ) → IsRoot root → is_path path ≡ true → IsAddress (document_address root path)
plain_document root path r p = plain_within 4351 4355 (root ++ path) (omega arith) (plain_append 4096 255 root path r (plain_path path p))
