use Rattle.std.proofs.Common.{◌≡◌, ◌<◌, ℕ, List, [], IfSome, IfNone, All, Contains, length, get_or, is_some, ap, sym, subst, ◌∙◌, arith}
use Rattle.std.proofs.lemmas.Bool.{false≢true}
use Rattle.target_graph.specs.Closures.{lists}
use Rattle.target_graph.specs.Stems.{IsSeen}
use Rattle.target_graph.specs.Workspace.{Space, IsVisible, pairs_of}
use Rattle.target_graph.specs.declared.target.Pair.{Pair}
use Rattle.target_graph.specs.declared.target.Target.{Target}
use Rattle.target_graph.proofs.Listed.{listed_any}
use Rattle.target_graph.proofs.PairLaws.{pairs_within}
use Rattle.target_graph.proofs.InMemory.{lists_size, list_at, row_marks}
use Rattle.target_graph.proofs.Visible.{group_shows, group_within, not_visible, key_found, one_visible}
use Rattle.target_graph.proofs.workspace.Workspace.visible.Goals as goal

pub first_seen-requires-clause-group : goal.first_seen-requires-clause-group
first_seen-requires-clause-group c =
    let w = c.self.inside in
    let kept = c.self.invariant in
    let target = c.args.target in
    let number = c.in-Some.number in
    let ts : w.targets.items ≡ c.args.self.now.targets = ap (λ (s : Space). s.targets) c.self.view_is in
    let key = key_found w.stems.keys c.args.name.now number (sym c.get_index_of.ensures.index ∙ c.in-Some.is) in
    let group : get_or (lists w.groups) number [] ≡ c.as_slice-in-Some-2.result.now =
    list_at w.groups.items number c.index-in-Some.result.now (omega (arith, key.0, kept.groups.size, lists_size w.groups.items)) c.index-in-Some.ensures ∙ sym c.as_slice-in-Some-2.ensures.value in
    let pairs : pairs_of w.targets.items ≡ c.as_slice-in-Some.result.now = sym (c.as_slice-in-Some.ensures.value ∙ kept.pairs) in
    subst (λ (xs : List Pair). All (λ q. q < length xs) c.as_slice-in-Some-2.result.now) pairs
    (subst (All (λ q. q < length (pairs_of w.targets.items))) group (group_within w.targets.items w.stems.keys kept.numbers (lists w.groups) number kept.numbered kept.groups))

pub first_seen-requires-clause-marks : goal.first_seen-requires-clause-marks
first_seen-requires-clause-marks c =
    let w = c.self.inside in
    let kept = c.self.invariant in
    let target = c.args.target in
    let ts : w.targets.items ≡ c.args.self.now.targets = ap (λ (s : Space). s.targets) c.self.view_is in
    let pairs : pairs_of w.targets.items ≡ c.as_slice-in-Some.result.now = sym (c.as_slice-in-Some.ensures.value ∙ kept.pairs) in
    let marks = c.as_slice.result.now in
    let size : length w.targets.items ≡ length c.args.self.now.targets = ap (λ (xs : List Target). length xs) ts in
    let there : target < length w.closures.items = omega (arith, size, c.requires, kept.closures.size, lists_size w.closures.items) in
    let m = row_marks w.targets.items w.closures.items target c.index.result.now marks kept.closures there c.index.ensures c.as_slice.ensures.value in
    subst (All (λ (pair : Pair). pair.target < length marks)) pairs
    (subst (λ n. All (λ (pair : Pair). pair.target < n) (pairs_of w.targets.items)) (sym m.size) (pairs_within w.targets.items))

pub returns-in-Some : goal.returns-in-Some
returns-in-Some c =
    let w = c.self.inside in
    let kept = c.self.invariant in
    let target = c.args.target in
    let number = c.in-Some.number in
    let ts : w.targets.items ≡ c.args.self.now.targets = ap (λ (s : Space). s.targets) c.self.view_is in
    let key = key_found w.stems.keys c.args.name.now number (sym c.get_index_of.ensures.index ∙ c.in-Some.is) in
    let group : get_or (lists w.groups) number [] ≡ c.as_slice-in-Some-2.result.now =
    list_at w.groups.items number c.index-in-Some.result.now (omega (arith, key.0, kept.groups.size, lists_size w.groups.items)) c.index-in-Some.ensures ∙ sym c.as_slice-in-Some-2.ensures.value in
    let pairs : pairs_of w.targets.items ≡ c.as_slice-in-Some.result.now = sym (c.as_slice-in-Some.ensures.value ∙ kept.pairs) in
    let marks = c.as_slice.result.now in
    let size : length w.targets.items ≡ length c.args.self.now.targets = ap (λ (xs : List Target). length xs) ts in
    let there : target < length w.closures.items = omega (arith, size, c.requires, kept.closures.size, lists_size w.closures.items) in
    let m = row_marks w.targets.items w.closures.items target c.index.result.now marks kept.closures there c.index.ensures c.as_slice.ensures.value in
    let both =
    group_shows w.targets.items w.stems.keys kept.numbers (lists w.groups) target marks c.args.name.now number c.first_seen.result kept.numbered kept.groups m key.0 key.1
    (subst (λ (xs : List Pair). IfSome c.first_seen.result (λ q. Contains (get_or (lists w.groups) number []) q × IsSeen marks xs q)) (sym pairs)
    (subst (λ (qs : List ℕ). IfSome c.first_seen.result (λ q. Contains qs q × IsSeen marks c.as_slice-in-Some.result.now q)) (sym group) c.first_seen.ensures.some))
    (subst (λ (xs : List Pair). IfNone c.first_seen.result (All (λ q. ¬ (IsSeen marks xs q)) (get_or (lists w.groups) number []))) (sym pairs)
    (subst (λ (qs : List ℕ). IfNone c.first_seen.result (All (λ q. ¬ (IsSeen marks c.as_slice-in-Some.result.now q)) qs)) (sym group) c.first_seen.ensures.none)) in
    record {
      some = subst (λ (xs : List Target). IfSome c.first_seen.result (IsVisible xs target c.args.name.now)) ts both.0;
      one = subst (λ (xs : List Target). IfSome c.first_seen.result (λ p. (q : ℕ) → IsVisible xs target c.args.name.now q → q ≡ p)) ts
          (one_visible w.targets.items target c.args.name.now c.first_seen.result kept.once both.0);
      none = subst (λ (xs : List Target). IfNone c.first_seen.result ((q : ℕ) → ¬ (IsVisible xs target c.args.name.now q))) ts both.1;
    }

pub returns-in-None-clause-none : goal.returns-in-None-clause-none
returns-in-None-clause-none c =
    let w = c.self.inside in
    let kept = c.self.invariant in
    let name = c.args.name.now in
    let ts : w.targets.items ≡ c.args.self.now.targets = ap (λ (s : Space). s.targets) c.self.view_is in
    subst (λ (xs : List Target). (q : ℕ) → ¬ (IsVisible xs c.args.target c.args.name.now q)) ts
    (not_visible w.targets.items w.stems.keys kept.numbers c.args.target name kept.numbered
    (λ listed. false≢true (sym (ap is_some c.in-None.is) ∙ (c.get_index_of.ensures.found ∙ listed_any w.stems.keys name listed))))
