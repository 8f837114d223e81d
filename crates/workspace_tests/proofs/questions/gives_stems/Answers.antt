use Rattle.std.proofs.Common.{◌≡◌, true, List, ℕ, sym, subst, refl}
use Rattle.oberon_scan.specs.Finding.{find_word}
use Rattle.target_graph.specs.Names.{is_path, is_module_name, stem}
use Rattle.workspace_tests.proofs.questions.gives_stems.Goals as goal

pub stem_of-requires : goal.stem_of-requires
unfolding is_path is_module_name stem find_word
stem_of-requires g c = subst (λ (path : List ℕ). is_path path ≡ true) (sym c.in_ok-path.ensures) refl
