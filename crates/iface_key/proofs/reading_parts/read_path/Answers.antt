use Rattle.iface_key.specs.Keys.{option_then, list_then, step_then}
use Rattle.iface_key.specs.Read.{Any}
use Rattle.iface_key.proofs.Listed.{exits, none_next, so_far_step, so_far_last}
use Rattle.iface_key.proofs.Longer.{item_smaller, step_longer}
use Rattle.iface_key.proofs.PartLaws.{path_listing}
use Rattle.iface_key.proofs.reading_parts.read_path.Goals as goal

pub returns-in_err-next : goal.returns-in_err-next
returns-in_err-next c = exits _ _ c.from_residual.result c.in_err-next.field-0.0 c.from_residual.ensures.1
    (λ e. none_next (option_then step_then) (list_then step_then) path_listing Any Any tt (λ xs zs z ok. tt) c.steps.path.items c.args.text.now c.steps.left.now c.steps.invariant (c.in_err-next.ensures e))

pub returns-in-None : goal.returns-in-None
returns-in-None c = so_far_last (option_then step_then) (list_then step_then) path_listing c.steps.path.items c.in_ok-next.next c.args.text.now c.steps.left.now c.in_ok-next.behind.now c.steps.invariant c.in_ok-next.ensures c.in-None.is

pub steps-preserved : goal.steps-preserved
steps-preserved c = so_far_step (option_then step_then) (list_then step_then) path_listing c.steps.path.items c.push.new.self.items c.in-Some.step c.in_ok-next.next c.args.text.now c.steps.left.now c.in_ok-next.behind.now c.steps.invariant c.in_ok-next.ensures c.in-Some.is c.in_ok-push-in-Some.ensures.items

pub steps-smaller : goal.steps-smaller
steps-smaller c = item_smaller step_then step_longer c.in_ok-next.next c.steps.left.now c.in_ok-next.behind.now c.in_ok-next.ensures
