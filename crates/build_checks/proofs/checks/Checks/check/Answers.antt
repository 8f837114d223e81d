use Rattle.std.proofs.Common.{sym, subst}
use Rattle.std.proofs.lemmas.Result.{IfOk-weaker}
use Rattle.check_cache.specs.Facts.{names_of}
use Rattle.ob_text.specs.declared.held.Held.{Held}
use Rattle.build_sources.specs.Documents.{AreImportsOf}
use Rattle.build_checks.specs.Stand.{world_of}
use Rattle.build_checks.proofs.checks.Checks.check.Goals as goal

pub fact_of-requires-clause-named : goal.fact_of-requires-clause-named
fact_of-requires-clause-named c = subst (λ (held : Held). AreImportsOf held (names_of c.args.imports.items)) (sym c.in_ok-check.ensures.held) c.requires.named

pub returns-clause-kept : goal.returns-clause-kept
returns-clause-kept c =
    IfOk-weaker c.fact_of.result _ _
    (λ fact kept. λ keys known are. kept keys (world_of c.args.self.now) c.args.index c.are_apart.ensures (c.in_ok-check.ensures.work keys known) are)
    c.fact_of.ensures.kept
