use Rattle.std.proofs.Common.{◌≡◌, ◌++◌, ℕ, List, codes, length, map, None, ap, sym, ◌∙◌, arith}
use Rattle.std.proofs.lemmas.List.{length-map}
use Rattle.target_graph.specs.declared.target.Target.{Target}
use Rattle.target_graph.specs.Workspace.{Space}
use Rattle.target_graph.proofs.Ids.{found_target, no_root, no_mark, only_one}
use Rattle.target_graph.proofs.NamedLaws.{placed}
use Rattle.target_graph.proofs.workspace.Workspace.target_at.Goals as goal

pub index_of-requires : goal.index_of-requires
index_of-requires c =
    let a = ap (λ (xs : List (List ℕ)). length xs) c.self.invariant.sound.names in
    let b = length-map c.self.inside.targets.items (λ (t : Target). t.name) in
    record { few = omega (arith, a, b, c.self.invariant.sound.few) }

pub returns-in_default-clause-none : goal.returns-in_default-clause-none
returns-in_default-clause-none c =
    let space = c.args.self.now in
    let keys = c.self.inside.names.keys in
    let ts : c.self.inside.targets.items ≡ space.targets = ap (λ (s : Space). s.targets) c.self.view_is in
    let root : c.as_slice.result.now ≡ space.root = c.as_slice.ensures.text ∙ ap (λ (s : Space). s.root) c.self.view_is in
    let same = c.self.invariant.sound.names ∙ ap (map (λ (t : Target). t.name)) ts in
    no_root space keys same c.args.text.now c.as_slice.result.now root c.in_default.ensures.none

pub returns-in_default-behind-clause-none : goal.returns-in_default-behind-clause-none
returns-in_default-behind-clause-none c =
    let space = c.args.self.now in
    let keys = c.self.inside.names.keys in
    let ts : c.self.inside.targets.items ≡ space.targets = ap (λ (s : Space). s.targets) c.self.view_is in
    let root : c.as_slice.result.now ≡ space.root = c.as_slice.ensures.text ∙ ap (λ (s : Space). s.root) c.self.view_is in
    let same = c.self.invariant.sound.names ∙ ap (map (λ (t : Target). t.name)) ts in
    no_mark space keys same c.args.text.now c.as_slice.result.now c.in-Some.rest.now root c.in-Some.ensures.some c.in_default-behind.ensures.none

pub returns : goal.returns
returns c =
    let space = c.args.self.now in
    let keys = c.self.inside.names.keys in
    let ts : c.self.inside.targets.items ≡ space.targets = ap (λ (s : Space). s.targets) c.self.view_is in
    let root : c.as_slice.result.now ≡ space.root = c.as_slice.ensures.text ∙ ap (λ (s : Space). s.root) c.self.view_is in
    let same = c.self.invariant.sound.names ∙ ap (map (λ (t : Target). t.name)) ts in
    let both = found_target space keys same c.args.text.now c.as_slice.result.now c.in-Some.rest.now c.in_ok-name.name root c.in-Some.ensures.some
    (c.in-Some-behind.ensures.some ∙ ap (λ (x : List ℕ). codes "?id=" ++ x) (sym c.in_ok-name.ensures)) c.index_of.result c.index_of.ensures.some c.index_of.ensures.none in
    let one = only_one space keys same c.self.invariant.sound.distinct c.args.text.now c.index_of.result both.0 both.1 in
    record { some = both.0; none = both.1; one = one; named = placed space c.args.text.now c.index_of.result both.0 both.1 one }

pub returns-in_default-clause-one : goal.returns-in_default-clause-one
returns-in_default-clause-one c = λ t h e. absurd (returns-in_default-clause-none c t h e)

pub returns-in_default-behind-clause-one : goal.returns-in_default-behind-clause-one
returns-in_default-behind-clause-one c = λ t h e. absurd (returns-in_default-behind-clause-none c t h e)

pub returns-in_default-clause-named : goal.returns-in_default-clause-named
returns-in_default-clause-named c =
    placed c.args.self.now c.args.text.now None tt (returns-in_default-clause-none c) (returns-in_default-clause-one c)

pub returns-in_default-behind-clause-named : goal.returns-in_default-behind-clause-named
returns-in_default-behind-clause-named c =
    placed c.args.self.now c.args.text.now None tt (returns-in_default-behind-clause-none c) (returns-in_default-behind-clause-one c)
