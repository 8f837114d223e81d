use Rattle.std.proofs.Common.{◌∙◌, ap}
use Rattle.oberon_module.specs.declared.check.Checked.{Checked}
use Rattle.check_cache.proofs.cache.Cache.imports.Goals as goal

pub returns-in-Some-clause-some : goal.returns-in-Some-clause-some
returns-in-Some-clause-some c =
    (c.in-Some.fact.now, c.in-Some.ensures.some, c.checked.ensures.sound, c.as_slice.ensures.value ∙ ap (λ (k : Checked). k.imports.items) c.checked.ensures.checked)
