use Rattle.std.specs.Prelude.{◌∷◌, List, map, Option, None}
use Rattle.std.specs.Option.{option_map}
use Rattle.std.proofs.Common.{ap, sym, subst, ◌∙◌}
use Rattle.oberon_tree.specs.Memory.{imports_tree}
use Rattle.oberon_tree.specs.declared.module.Imports.{Imports}
use Rattle.oberon_tree.specs.declared.module.NextImport.{NextImport}
use Rattle.oberon_infer.specs.Adds.{Adds}
use Rattle.oberon_infer.specs.Memory.{plain_scopes, plain_said}
use Rattle.oberon_infer.specs.declared.said.Said.{Said as OwnSaid}
use Rattle.oberon_rules.specs.Module.{start, import_list, import_behind, unused_say}
use Rattle.oberon_rules.specs.Scopes.{Entry}
use Rattle.oberon_module.specs.Used.{AreUsed}
use Rattle.oberon_module.specs.Views.{views_of}
use Rattle.oberon_module.proofs.UnusedLaws.{rest_of, use_says, next_use, all_uses}
use Rattle.oberon_module.proofs.unused.unused.Goals as goal

pub loop-next-preserved : goal.loop-next-preserved
loop-next-preserved c =
    let views = views_of c.args.views in
    let given = map plain_said c.args.said.now.items in
    let items = c.deref-next-items.result.now in
    let used = subst (λ (xs : List OwnSaid). AreUsed (map plain_said xs) c.in_ok-used.used.keys) c.as_slice.ensures.value c.in_ok-used.ensures in
    next_use views given (plain_scopes c.loop-next.earlier) (plain_scopes c.say_use-in-loop-next.new.earlier) items c.loop-next.next-index c.next-item.result c.say_use.new.said.items c.loop-next.said.items c.say_use-in-loop-next.new.said.items
    (unused_say views (plain_scopes c.say_use.new.earlier) (rest_of items) given)
    c.loop-next-test.true c.next-item.is c.in_ok-say_use-2.ensures.behind (c.in_ok-say_use-2.ensures.says given used) c.loop-next.invariant

pub returns : goal.returns
returns c =
    let views = views_of c.args.views in
    let said = c.args.said.now.items in
    let given = map plain_said said in
    let new = c.loop-next.said.items in
    let first = c.in-Some.tree.first in
    let items = c.deref-next-items.result.now in
    let used = subst (λ (xs : List OwnSaid). AreUsed (map plain_said xs) c.in_ok-used.used.keys) c.as_slice.ensures.value c.in_ok-used.ensures in
    let behind = c.in_ok-say_use.ensures.behind ∙ ap (λ (gs : List Entry). import_behind views (record { procedure = None; locals = None; globals = gs }) first) c.new.ensures in
    let says = subst (λ (gs : List Entry). Adds said c.say_use.new.said.items (use_says views given (record { procedure = None; locals = None; globals = gs }) first)) c.new.ensures (c.in_ok-say_use.ensures.says given used) in
    let all = all_uses views given start (plain_scopes c.say_use.new.earlier) (plain_scopes c.loop-next.earlier) first items c.loop-next.next-index said c.say_use.new.said.items new c.loop-next-test.false behind says c.loop-next.invariant in
    subst (λ (t : Option Imports). Adds said new (unused_say views start (import_list (option_map imports_tree t)) given)) (sym c.in-Some.is)
    (subst (λ (ns : List NextImport). Adds said new (unused_say views start (first ∷ rest_of ns) given)) c.deref-next-items.ensures.value all)
