use Rattle.std.proofs.Common.{◌<◌, ℕ, Option, length, subst, ◌∙◌, arith}
use Rattle.std.specs.Option.{IfSome}
use Rattle.std.proofs.lemmas.List.{get_or_default}
use Rattle.std.proofs.lemmas.Option.{slice_get_within}
use Rattle.target_graph.specs.Workspace.{pairs_of, IsVisible}
use Rattle.build_checks.specs.Numbers.{IsNumberOf}
use Rattle.build_checks.specs.Stand.{world_of}
use Rattle.build_checks.proofs.checks.Checks.number_of.Goals as goal

pub returns-in-Some : goal.returns-in-Some
returns-in-Some c =
    let s = c.args.self.now in
    let targets = (world_of s).targets in
    let q = c.in-Some.module in
    let visible : IsVisible targets c.args.target c.args.name.now q = subst (λ (o : Option ℕ). IfSome o (IsVisible targets c.args.target c.args.name.now)) c.in-Some.is c.visible.ensures.some in
    let within = slice_get_within (pairs_of targets) q visible.sees.pair visible.sees.there in
    let size = c.requires.checks.so_far.numbered_all in
    let h : q < length s.numbers.items = omega (arith, within, size) in
    IsNumberOf.of_module q visible (c.index.ensures ∙ get_or_default s.numbers.items q c.index.result.now 0 h)
