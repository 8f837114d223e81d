use Rattle.std.proofs.Common.{◌≡◌, ℕ, List, ap, subst, ◌∙◌, arith}
use Rattle.target_graph.specs.declared.fault.FaultKind.TheVariants as kinds
use Rattle.target_graph.specs.declared.target.Pair.{Pair}
use Rattle.target_graph.specs.declared.target.Target.{Target}
use Rattle.target_graph.specs.Closures.{lists}
use Rattle.target_graph.specs.Faults.{IsFirstStemTwice, IsRepeat}
use Rattle.target_graph.specs.Stems.{IsNumbering, AreGroups}
use Rattle.target_graph.specs.Workspace.{pairs_of, stems_of}
use Rattle.target_graph.proofs.PlainFaults.{refuses}
use Rattle.target_graph.proofs.Sound.{targets_same}
use Rattle.target_graph.proofs.workspace.Workspace.of_acyclic.Goals as goal

pub invariant_of-result : goal.invariant_of-result
invariant_of-result c =
    let targets = c.args.listing.targets.items in
    let keys = c.number.new.stems.keys in
    let numbers = c.in_ok-numbers.numbers.items in
    let groups = lists c.in_ok-groups.groups in
    let ps : c.in_ok-pairs.pairs.items ≡ pairs_of targets = c.in_ok-pairs.ensures ∙ ap pairs_of c.as_slice.ensures.value in
    record {
      sound = c.requires.sound;
      pairs = ps;
      numbers = numbers;
      numbered = subst (λ (xs : List Pair). IsNumbering (stems_of xs) keys numbers) (c.as_slice-2.ensures.value ∙ ps) c.in_ok-numbers.ensures;
      groups = subst (λ n. AreGroups numbers n groups) c.len.ensures.len (subst (λ (ns : List ℕ). AreGroups ns c.len.result groups) c.as_slice-3.ensures.value c.in_ok-groups.ensures);
      closures = c.requires.closures;
      once = subst (λ (ts : List Target). (t q : ℕ) → ¬ (IsRepeat ts t q)) c.as_slice-4.ensures.value c.in-Ok.ensures.0;
    }

pub returns-in-Err : goal.returns-in-Err
returns-in-Err c = λ held is p.
    refuses held kinds.StemTwice (omega arith) c.in-Err.refusal _ _ p
    (λ name f. subst (λ (ts : List Target). IsFirstStemTwice ts name) (c.as_slice-4.ensures.value ∙ targets_same held c.args.listing is) f) c.in-Err.ensures
