use Rattle.std.proofs.Common.{List, sym, subst}
use Rattle.std.specs.List.{IsDistinct}
use Rattle.oberon_types.specs.Entities.{Export}
use Rattle.oberon_types.specs.Types.{same_name}
use Rattle.oberon_module.specs.Sorted.{sorted_exports, names_of}
use Rattle.oberon_module.proofs.SortedLaws.{shown_next}
use Rattle.oberon_module.proofs.exports.exports.Goals as goal

pub names-preserved : goal.names-preserved
names-preserved c =
    let all = sorted_exports c.in_ok-sorted.sorted.entries in
    let apart = subst (λ (es : List Export). IsDistinct same_name (names_of es)) (sym c.in_ok-sorted.ensures.sorted) c.in_ok-sorted.ensures.apart in
    shown_next all c.names.entities.entries c.insert.new.self.entries c.in_ok-name.name c.in-Some.name c.in-Some.entity c.names.sorted.entries _
    c.in_ok-name.ensures apart c.names.invariant c.in-Some.ensures.removal c.in_ok-old.ensures.entries
