use Rattle.std.proofs.Common.{Some, ap, ◌∙◌}
use Rattle.iface_key.specs.Keys.{key_of_view}
use Rattle.oberon_types.specs.Entities.{ViewTree}
use Rattle.build_checks.proofs.begin.first_numbers.Goals as goal

pub returns-clause-first : goal.returns-clause-first
returns-clause-first c = record {
  for_out = c.in_ok-cyclic.ensures.earlier _ _ (c.in_ok-missing.ensures.earlier _ _ (c.in_ok-out.ensures.number ∙ ap (λ (v : ViewTree). Some (key_of_view v)) c.in_ok-known.ensures));
  for_missing = c.in_ok-cyclic.ensures.earlier _ _ c.in_ok-missing.ensures.number;
  for_cyclic = c.in_ok-cyclic.ensures.number;
}

pub returns-clause-earlier : goal.returns-clause-earlier
returns-clause-earlier c = λ m k h. c.in_ok-cyclic.ensures.earlier m k (c.in_ok-missing.ensures.earlier m k (c.in_ok-out.ensures.earlier m k h))
