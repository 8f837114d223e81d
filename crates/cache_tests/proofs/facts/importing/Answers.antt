use Rattle.std.proofs.Common.{◌∙◌, ℕ, List, [], ◌∷◌, ◌++◌, ap}
use Rattle.oberon_types.specs.Memory.{plain_view}
use Rattle.cache_tests.proofs.FactLaws.{single}
use Rattle.cache_tests.proofs.facts.importing.Goals as goal

pub new-requires : goal.new-requires
new-requires c =
    single c.args.held.value c.args.stem c.push-2.new.self.items c.push.new.self.items c.args.checked c.args.name c.in_ok-key.key c.args.number (plain_view c.args.view.now)
    (c.in_ok-push-2.ensures.items ∙ ap (λ (l : List (List ℕ × ℕ)). l ++ (c.args.name, c.args.number) ∷ []) c.new-imports.ensures.items)
    (c.in_ok-push.ensures.items ∙ ap (λ (l : List (List ℕ)). l ++ c.in_ok-key.key ∷ []) c.new-keys.ensures.items)
    c.in_ok-key.ensures c.requires.imports c.requires.local
