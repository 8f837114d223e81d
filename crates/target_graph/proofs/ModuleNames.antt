-- The stem of a path is a module's name.
use Rattle.std.proofs.Common.{◌≡◌, List, ℕ, ◌&&◌, Bool, not, true, false, ap, ◌∙◌, is_some, codes, leb, length}
use Rattle.std.specs.List.{list_all}
use Rattle.std.specs.Str.{bytes_eq}
use Rattle.std.proofs.lemmas.Bool.{and_parts, false≢true}
use Rattle.std.proofs.lemmas.Slice.Eq.{bytes_eq-Decides}
use Rattle.oberon_scan.specs.Finding.{find_word}
use Rattle.oberon_scan.proofs.Spelled.{word_again}
use Rattle.target_graph.specs.Limits.{name_limit}
use Rattle.target_graph.specs.Names.{is_path, is_module_name, is_identifier, is_segment, segments, stem, IsModuleName}

not_true : (b : Bool) → not b ≡ true → b ≡ true → ⊥
not_true true n t = false≢true n
not_true false n t = false≢true t

is_module : (text : List ℕ) → is_module_name text ≡ true → IsModuleName text
unfolding is_module_name
is_module text e =
    let out = and_parts (is_identifier text && not (is_some (find_word text))) (not (bytes_eq text (codes "Out"))) e in
    let word = and_parts (is_identifier text) (not (is_some (find_word text))) out.0 in
    record {
      identifier = word.0;
      no_word = λ w s. not_true _ word.1 (ap is_some (ap find_word s ∙ word_again w));
      no_out = λ s. not_true _ out.1 ((bytes_eq-Decides text (codes "Out")).1 s);
    }

pub path_name : (path : List ℕ) → is_path path ≡ true → IsModuleName (stem path)
unfolding is_path
path_name path e =
    is_module (stem path) (and_parts (leb (length path) name_limit && list_all is_segment (segments path)) (is_module_name (stem path)) e).1
