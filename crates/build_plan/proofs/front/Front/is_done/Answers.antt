use Rattle.std.proofs.Common.{◌≡◌, ◌<◌, ◌↔◌, ℕ, length, Contains, IsTrue, nat_eq, sym, subst, ◌∙◌, arith}
use Rattle.std.proofs.lemmas.Bool.{eqb-true, eq-eqb}
use Rattle.build_plan.specs.Front.{Stand}
use Rattle.build_plan.proofs.FrontLaws.{all_finished, finished_all}
use Rattle.build_plan.proofs.front.Front.is_done.Goals as goal

pub returns : goal.returns
returns c =
    let front = c.self.inside in
    let is = c.self.invariant in
    let size : length front.finished.items ≡ c.len.result = omega (arith, c.len.ensures, front.finished.ok.0) in
    let places : c.len-2.result ≡ length front.links = c.len-2.ensures.len in
    subst (λ (s : Stand). IsTrue (nat_eq c.len.result c.len-2.result) ↔ ((place : ℕ) → place < length s.rows → Contains s.finished place)) c.self.view_is (
      λ e. all_finished front is (size ∙ (eqb-true c.len.result c.len-2.result e ∙ places)),
      λ all. eq-eqb c.len.result c.len-2.result (sym size ∙ (finished_all front is all ∙ sym places)),
    )
