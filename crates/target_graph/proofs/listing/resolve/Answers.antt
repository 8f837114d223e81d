use Rattle.std.proofs.Common.{◌++◌, ◌∷◌, [], List, ℕ, All, Contains, map, length, ap, sym, subst, ◌∙◌, rules}
use Rattle.std.proofs.lemmas.List.{map_push, map-id, flat_map_more}
use Rattle.std.proofs.lemmas.List.Elements.{All-append}
use Rattle.std.proofs.lemmas.Iterator.Adapters.{YieldsList-from_vec}
use Rattle.std.proofs.lemmas.Iterator.Consumers.{YieldsList-so_far, YieldsList-turn, YieldsList-end}
use Rattle.target_graph.specs.declared.entry.Entry.{Entry}
use Rattle.target_graph.specs.declared.target.Target.{Target}
use Rattle.target_graph.specs.declared.fault.FaultKind.TheVariants as kinds
use Rattle.target_graph.specs.Faults.{target_of, dependencies_of, IsFirstUnknown, IsResolved}
use Rattle.target_graph.proofs.Listed.{no_unknown, unknown_within}
use Rattle.target_graph.proofs.Steps.{passed_on}
use Rattle.target_graph.proofs.listing.resolve.Goals as goal

pub returns-in-Err : goal.returns-in-Err
returns-in-Err c =
    let keys = c.args.names.now.keys in
    let entries = c.args.entries.items in
    let entry = c.in-Some.entry in
    let yielded = c.loop-entry.yielded in
    let road = YieldsList-from_vec {s = c.into_iter-entry-iterator.result} entries (search rules) (search rules) in
    let so_far = sym (map-id yielded) ∙ YieldsList-so_far road yielded c.loop-entry.entry-iterator c.loop-entry.yielded_by in
    let turn = YieldsList-turn road yielded c.loop-entry.entry-iterator c.loop-entry.yielded_by c.next.result c.next.new.self entry c.in-Some.is c.next.ensures.steps in
    passed_on c.in-Err.refusal kinds.UnknownDependency (IsFirstUnknown keys entry.dependencies) (IsFirstUnknown keys (dependencies_of entries)) _ _
    (λ name f. unknown_within (λ (e : Entry). e.dependencies) keys entries (length yielded) entry name turn.0 turn.1
    (subst (λ (xs : List Entry). All (Contains keys) (dependencies_of xs)) so_far c.loop-entry.invariant.known) f)
    c.in-Err.ensures

pub loop-entry-preserved : goal.loop-entry-preserved
loop-entry-preserved c =
    let keys = c.args.names.now.keys in
    let entry = c.in-Some.entry in
    let yielded = c.loop-entry.yielded in
    record {
      each =
          c.in_ok-push-in-Ok.ensures.items
          ∙ (ap (λ (ts : List Target). ts ++ c.in-Ok.target ∷ []) c.loop-entry.invariant.each
          ∙ (ap (λ (t : Target). map (target_of keys) yielded ++ t ∷ []) c.in-Ok.ensures.0.0
          ∙ sym (map_push (target_of keys) yielded entry)));
      known =
          subst (λ (xs : List (List ℕ)). All (Contains keys) xs) (flat_map_more (λ (e : Entry). e.dependencies) [] yielded entry)
          (All-append (Contains keys) (dependencies_of yielded) entry.dependencies c.loop-entry.invariant.known c.in-Ok.ensures.0.1);
    }

pub returns : goal.returns
returns c =
    let keys = c.args.names.now.keys in
    let entries = c.args.entries.items in
    let yielded = c.loop-entry.yielded in
    let road = YieldsList-from_vec {s = c.into_iter-entry-iterator.result} entries (search rules) (search rules) in
    let end = YieldsList-end road yielded c.loop-entry.entry-iterator c.loop-entry.yielded_by c.next.result c.next.new.self c.in-None.is c.next.ensures.steps in
    let all = sym (map-id yielded) ∙ end.0 in
    let resolved : IsResolved keys entries c.loop-entry.targets.items = subst (λ (xs : List Entry). IsResolved keys xs c.loop-entry.targets.items) all c.loop-entry.invariant in
    (resolved, λ name. no_unknown keys (dependencies_of entries) name resolved.known)
