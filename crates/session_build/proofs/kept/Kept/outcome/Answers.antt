use Rattle.std.proofs.Common.{Option, Some, refl, sym, subst, ◌∙◌}
use Rattle.std.proofs.lemmas.Bool.{false≢true}
use Rattle.build_checks.specs.Kept.{AreNumbered}
use Rattle.session_build.specs.Late.{TakesLate}
use Rattle.session_build.specs.declared.kept.Kept.{Kept}
use Rattle.session_build.specs.declared.late.Late.{Late}
use Rattle.session_build.proofs.KeepingLaws.{keeps_late, keeps_less, keeps_other, keeps_untaken}
use Rattle.worker_pool.specs.Jobs.{plain_check}
use Rattle.session_build.proofs.kept.Kept.outcome.Goals as goal

pub returns-in_default : goal.returns-in_default
returns-in_default c =
    let old : Kept = c.args.self.now in
    keeps_untaken c.args.number (plain_check c.args.check) c.args.checked old (record old { late = c.take_late.new.late }) c.take_late.result c.in_default.not-Some c.take_late.ensures refl refl

pub returns-then-not-branch : goal.returns-then-not-branch
returns-then-not-branch c =
    let old : Kept = c.args.self.now in
    let new : Kept = record old { keys = c.is_of.new.keys; late = c.take_late.new.late } in
    let late : Late = c.in-Some.late in
    let takes : TakesLate old.late.items c.args.number (Some late) new.late.items = subst (λ (o : Option Late). TakesLate old.late.items c.args.number o new.late.items) c.in-Some.is c.take_late.ensures in
    keeps_less c.args.number (plain_check c.args.check) c.args.checked old new (Some late) takes
    (keeps_other (plain_check c.args.check) c.args.checked new late (λ same. false≢true (sym c.if-not-branch.true ∙ c.in_ok-is_of.ensures.same.1 same))) refl c.in_ok-is_of.ensures.earlier

pub returns : goal.returns
returns c =
    let old : Kept = c.args.self.now in
    let new : Kept = record old { cache = c.store_late.new.self; keys = c.is_of.new.keys; late = c.take_late.new.late } in
    let late : Late = c.in-Some.late in
    let takes : TakesLate old.late.items c.args.number (Some late) new.late.items = subst (λ (o : Option Late). TakesLate old.late.items c.args.number o new.late.items) c.in-Some.is c.take_late.ensures in
    keeps_late late old new c.args.number takes c.in_ok-is_of.ensures.earlier (plain_check c.args.check) c.args.checked (c.in_ok-is_of.ensures.same.0 c.if-not-branch.false) c.in_ok-fact.fact
    (λ keys w p apart work numbered. c.in_ok-fact.ensures.kept keys w p apart work (subst (AreNumbered keys w p) (sym c.as_slice.ensures.value) numbered))
    c.in_ok-fact.ensures.checked c.in_ok-store_late.ensures.first c.in_ok-store_late.ensures.other
