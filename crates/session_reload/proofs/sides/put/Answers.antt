use Rattle.std.proofs.Common.{List, ℕ, Some, ap, ◌∙◌}
use Rattle.std.specs.Prelude.{if◌then◌else◌}
use Rattle.std.specs.Borrow.{Bor}
use Rattle.session_reload.specs.Sides.{joined_to, same_name, side_at}
use Rattle.session_reload.specs.declared.sides.Side.{Side}
use Rattle.session_reload.proofs.sides.put.Goals as goal

pub returns-clause-sides : goal.returns-clause-sides
returns-clause-sides c = λ other.
    let old = side_at c.args.sides.now.entries in
    let key : Bor (List ℕ) = record { ref_ptr = (0, 0); now = other } in
    let is = c.joined_to-joined.ensures ∙ ap (λ f. joined_to f c.args.side) c.get.ensures.value in
    c.in_ok-replaced.ensures.updates.0 key ∙ ap (λ (side : Side). if same_name c.args.name.now other then Some side else old other) is
