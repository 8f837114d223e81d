use Rattle.std.proofs.Common.{ap, map, ◌∙◌}
use Rattle.std.specs.Option.{option_map}
use Rattle.oberon_types.specs.Memory.{plain_param}
use Rattle.iface_key.specs.Keys.{option_then, list_then, param_then}
use Rattle.iface_key.specs.Views.{AreParams}
use Rattle.iface_key.specs.ReadViews.{IsNextParam}
use Rattle.iface_key.proofs.Listed.{exits, none_next, so_far_step, so_far_last, map_more}
use Rattle.iface_key.proofs.Longer.{item_smaller, param_longer}
use Rattle.iface_key.proofs.ViewLaws.{param_listing, next_is_param}
use Rattle.iface_key.proofs.reading_view.read_params.Goals as goal

pub returns-in_err-next : goal.returns-in_err-next
returns-in_err-next c = exits _ _ c.from_residual.result c.in_err-next.field-0.0 c.from_residual.ensures.1
    (λ e. none_next (option_then param_then) (list_then param_then) param_listing IsNextParam AreParams tt next_is_param (map plain_param c.params.params.items) c.args.text.now c.params.left.now c.params.invariant (c.in_err-next.ensures e))

pub returns-in-None : goal.returns-in-None
returns-in-None c = so_far_last (option_then param_then) (list_then param_then) param_listing (map plain_param c.params.params.items) _ c.args.text.now c.params.left.now c.in_ok-next.behind.now c.params.invariant c.in_ok-next.ensures (ap (option_map plain_param) c.in-None.is)

pub params-smaller : goal.params-smaller
params-smaller c = item_smaller param_then param_longer _ c.params.left.now c.in_ok-next.behind.now c.in_ok-next.ensures

pub params-preserved : goal.params-preserved
params-preserved c = so_far_step (option_then param_then) (list_then param_then) param_listing (map plain_param c.params.params.items) (map plain_param c.push.new.self.items) (plain_param c.in-Some.param) _ c.args.text.now c.params.left.now c.in_ok-next.behind.now c.params.invariant c.in_ok-next.ensures (ap (option_map plain_param) c.in-Some.is) (ap (map plain_param) c.in_ok-push-in-Some.ensures.items ∙ map_more plain_param c.params.params.items c.in-Some.param)
