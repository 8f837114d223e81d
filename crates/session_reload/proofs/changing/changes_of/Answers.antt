use Rattle.std.proofs.Common.{◌≡◌, ◌++◌, ℕ, List, All, length, ap, sym, subst, ◌∙◌, arith}
use Rattle.std.specs.Borrow.{Bor}
use Rattle.std.specs.Option.{option_copied}
use Rattle.std.proofs.lemmas.List.{append-nil}
use Rattle.std.proofs.lemmas.List.Elements.{All-head, All-tail}
use Rattle.reload_rules.specs.Changes.{change_between, changes_in, with_name}
use Rattle.reload_rules.specs.declared.change.ChangedTarget.{ChangedTarget}
use Rattle.session_reload.specs.Sides.{IsEntryOf, names_in}
use Rattle.session_reload.specs.declared.sides.Side.{Side}
use Rattle.session_reload.proofs.ChangeLaws.{change_more, closed_some, emptied, few_more}
use Rattle.session_reload.proofs.changing.changes_of.Goals as goal

pub names-init : goal.names-init
names-init c =
    let none = c.new-changes.ensures.items in
    record {
      done = ap (λ (items : List ChangedTarget). items ++ changes_in c.args.old.now c.args.new.now (names_in c.in_ok-sides.sides.entries)) none;
      each = c.in_ok-sides.ensures.sides.each;
      few = (let k = ap (λ (items : List ChangedTarget). length items) none in omega arith);
    }

pub change_between-change-requires-clause-before : goal.change_between-change-requires-clause-before
change_between-change-requires-clause-before c =
    let all = subst (λ (es : List (Bor (List ℕ) × Side)). All (IsEntryOf c.args.old.now c.args.new.now) es) c.in-Some.ensures.removal c.names.invariant.each in
    let here = All-head (IsEntryOf c.args.old.now c.args.new.now) (c.in-Some.name, c.in-Some.side) c.pop_first.new.self.entries all in
    closed_some c.args.old.now c.requires.old c.in-Some.name.now c.in-Some.side.old here.0

pub change_between-change-requires-clause-now : goal.change_between-change-requires-clause-now
change_between-change-requires-clause-now c =
    let all = subst (λ (es : List (Bor (List ℕ) × Side)). All (IsEntryOf c.args.old.now c.args.new.now) es) c.in-Some.ensures.removal c.names.invariant.each in
    let here = All-head (IsEntryOf c.args.old.now c.args.new.now) (c.in-Some.name, c.in-Some.side) c.pop_first.new.self.entries all in
    closed_some c.args.new.now c.requires.new c.in-Some.name.now c.in-Some.side.new here.1

pub names-smaller : goal.names-smaller
names-smaller c = (let k = ap (λ (es : List (Bor (List ℕ) × Side)). length es) c.in-Some.ensures.removal in omega arith)

pub names-preserved : goal.names-preserved
names-preserved c =
    let old = c.args.old.now in
    let new = c.args.new.now in
    let removal = c.in-Some.ensures.removal in
    let name = c.in-Some.name.now in
    let rest = c.pop_first.new.self.entries in
    let all = subst (λ (es : List (Bor (List ℕ) × Side)). All (IsEntryOf old new) es) removal c.names.invariant.each in
    let here = All-head (IsEntryOf old new) (c.in-Some.name, c.in-Some.side) rest all in
    let change = c.change_between-change.ensures ∙ (ap (λ o. change_between old new o (option_copied c.in-Some.side.new)) here.0 ∙ ap (λ o. change_between old new (with_name name old) o) here.1) in
    let done = subst (λ (es : List (Bor (List ℕ) × Side)). c.names.changes.items ++ changes_in old new (names_in es) ≡ changes_in old new (names_in c.in_ok-sides.sides.entries)) removal c.names.invariant.done in
    record {
      done = change_more old new name (names_in rest) c.names.changes.items c.push_change.new.changes.items c.change_between-change.result _ change c.in_ok-push_change.ensures done;
      each = All-tail (IsEntryOf old new) (c.in-Some.name, c.in-Some.side) rest all;
      few = few_more name c.names.changes.items c.push_change.new.changes.items c.change_between-change.result c.in_ok-push_change.ensures (length rest) (length c.names.sides.entries) _
          (ap (λ (es : List (Bor (List ℕ) × Side)). length es) removal) c.names.invariant.few;
    }

pub returns-clause-changes : goal.returns-clause-changes
returns-clause-changes c =
    let old = c.args.old.now in
    let new = c.args.new.now in
    let none = emptied c.names.sides.entries c.in_default.ensures.variant.1 in
    record {
      names = names_in c.in_ok-sides.sides.entries;
      are_names = c.in_ok-sides.ensures.sides.names;
      are_changes =
          sym (append-nil c.names.changes.items)
          ∙ (ap (λ (es : List (Bor (List ℕ) × Side)). c.names.changes.items ++ changes_in old new (names_in es)) (sym none) ∙ c.names.invariant.done);
    }

pub returns-clause-few : goal.returns-clause-few
returns-clause-few c = omega (arith, c.names.invariant.few, c.in_ok-sides.ensures.few)
