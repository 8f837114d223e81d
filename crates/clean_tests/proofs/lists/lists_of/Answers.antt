use Rattle.clean_tests.proofs.ModuleLaws.{modules_behind, modules_in_order, modules_of_library, modules_turned}
use Rattle.std.proofs.Common.{[], ◌∷◌}
use Rattle.clean_tests.proofs.lists.lists_of.Goals as goal

pub clean_build-requires-clause-modules : goal.clean_build-requires-clause-modules
clean_build-requires-clause-modules c =
    let made = c.in_ok-workspace in
    modules_behind c.args.workspace made.workspace.value (0 ∷ 1 ∷ 2 ∷ []) made.ensures.ok (modules_in_order c.args.workspace.targets c.requires.pairs)

pub clean_build-requires-in-Turned-clause-modules : goal.clean_build-requires-in-Turned-clause-modules
clean_build-requires-in-Turned-clause-modules c =
    let made = c.in_ok-workspace in
    modules_behind c.args.workspace made.workspace.value (2 ∷ 0 ∷ 1 ∷ []) made.ensures.ok (modules_turned c.args.workspace.targets c.requires.pairs)

pub clean_build-requires-in-OfLibrary-clause-modules : goal.clean_build-requires-in-OfLibrary-clause-modules
clean_build-requires-in-OfLibrary-clause-modules c =
    let made = c.in_ok-workspace in
    modules_behind c.args.workspace made.workspace.value (1 ∷ 2 ∷ []) made.ensures.ok
    (modules_of_library c.args.workspace.targets c.requires.pairs c.requires.library)
