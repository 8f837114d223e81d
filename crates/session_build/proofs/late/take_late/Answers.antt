use Rattle.std.proofs.Common.{◌≡◌, ℕ, List, sym, ap, subst, ◌∙◌, Option, Some, arith}
use Rattle.std.specs.Prelude.{OnSome}
use Rattle.std.specs.List.{Contains, remove, slice_get}
use Rattle.std.proofs.lemmas.Option.{get_or_from_slice_get, slice_get_within}
use Rattle.session_build.proofs.Members.{contains_remove}
use Rattle.session_build.specs.Late.{TakesLate}
use Rattle.session_build.specs.declared.late.Late.{Late}
use Rattle.session_build.proofs.late.take_late.Goals as goal

taken : (old new : List Late) (number index : ℕ) (one : Late) → slice_get old index ≡ Some one → one.number ≡ number → OnSome (Some one) (new ≡ remove old index) → TakesLate old number (Some one) new
taken old new number index one there is left = record {
  is = ((index, slice_get_within old index one there, get_or_from_slice_get old index one one there), is);
  rest = λ late still. contains_remove index old late (subst (λ (ls : List Late). Contains ls late) left still);
}

pub returns : goal.returns
returns c =
    let at = c.in_ok-index.ensures in
    let old = c.args.late.now.items in
    let index = c.in_ok-index.index in
    let within = slice_get_within old index at.0 at.1 in
    let sized = c.args.late.now.ok.0 in
    let result : c.remove.result ≡ Some at.0 = c.remove.ensures.succeeds at.0 (omega (arith, within, sized)) ∙ ap (λ x. Some x) (get_or_from_slice_get old index at.0 at.0 at.1) in
    subst (λ (o : Option Late). TakesLate old c.args.number o c.remove.new.self.items) (sym result)
    (taken old c.remove.new.self.items c.args.number index at.0 at.1 at.2 (subst (λ (o : Option Late). OnSome o (c.remove.new.self.items ≡ remove old index)) result c.remove.ensures.items))
