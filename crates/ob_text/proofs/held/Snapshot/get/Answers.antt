use Rattle.std.proofs.Common.{◌≡◌, ◌≤◌, length, None, refl, sym, ap, ◌∙◌, arith}
use Rattle.std.proofs.lemmas.List.{at_drop_all}
use Rattle.ob_text.specs.Held.{held_at}
use Rattle.ob_text.proofs.Holding.{lacks_path}
use Rattle.ob_text.proofs.held.Snapshot.get.Goals as goal

pub returns-clause-none : goal.returns-clause-none
returns-clause-none c =
    let path = c.args.path.now in
    let items = c.as_slice-at-items.result.now in
    let end : length items ≤ c.loop-at.at-index = omega arith in
    let none : held_at items path ≡ None = sym c.loop-at.invariant ∙ at_drop_all (λ xs. held_at xs path) items c.loop-at.at-index end in
    (λ _. lacks_path c.args.self.now.entries path (ap (λ xs. held_at xs path) (sym c.as_slice-at-items.ensures) ∙ none), λ _. refl)
