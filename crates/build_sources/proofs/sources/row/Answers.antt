use Rattle.std.proofs.Common.{◌≡◌, ◌+◌, ◌++◌, ◌∷◌, [], ℕ, List, Option, take, sym, ap, subst, ◌∙◌, arith}
use Rattle.std.specs.Option.{IfSome, IfNone}
use Rattle.std.proofs.lemmas.List.{take_all, take_more}
use Rattle.target_graph.specs.Workspace.{IsVisible}
use Rattle.build_sources.specs.Rows.{IsRow}
use Rattle.build_sources.proofs.RowLaws.{row_none, row_more, row_same}
use Rattle.build_sources.proofs.sources.row.Goals as goal
use Rattle.build_sources.proofs.sources.row.Goals.{in-Some+in_ok-push-in-Some, in-None}

pub loop-name-init : goal.loop-name-init
loop-name-init c = subst (IsRow c.args.workspace.now.targets c.args.target []) (sym c.new-row.ensures.items) (row_none c.args.workspace.now.targets c.args.target)

pub loop-name-preserved : goal.loop-name-preserved
loop-name-preserved c =
    let targets = c.args.workspace.now.targets in
    let target = c.args.target in
    let imports : List (List ℕ) = c.args.imports.now in
    let i = c.loop-name.name-index in
    let name : List ℕ = c.name-item.result in
    let more : take (i + 1) imports ≡ take i imports ++ name ∷ [] =
    take_more imports i name c.loop-name-test.true ∙ ap (λ (x : List ℕ). take i imports ++ x ∷ []) (sym c.name-item.is) in
    subst (λ (names : List (List ℕ)). IsRow targets target names c.match-visible.row.items) (sym more)
    (elim c.match-visible.branch [
      | in-Some+in_ok-push-in-Some w ↦
          let q = w.in-Some.found in
          rw w.row-is
          (subst (IsRow targets target (take i imports ++ name ∷ [])) (sym w.in_ok-push-in-Some.ensures.items)
          (row_more targets target (take i imports) c.loop-name.row.items c.loop-name.invariant name q
          (subst (λ (o : Option ℕ). IfSome o (IsVisible targets target name)) w.in-Some.is c.visible.ensures.some)
          (subst (λ (o : Option ℕ). IfSome o (λ pair. (other : ℕ) → IsVisible targets target name other → other ≡ pair)) w.in-Some.is c.visible.ensures.one)))
      | in-None w ↦
          rw w.row-is
          (row_same targets target (take i imports) c.loop-name.row.items c.loop-name.invariant name
          (subst (λ (o : Option ℕ). IfNone o ((pair : ℕ) → ¬ (IsVisible targets target name pair))) w.in-None.is c.visible.ensures.none))
    ])

pub returns : goal.returns
returns c =
    subst (λ (names : List (List ℕ)). IsRow c.args.workspace.now.targets c.args.target names c.loop-name.row.items) (take_all c.loop-name.name-index c.args.imports.now (omega (arith, c.loop-name-test.false))) c.loop-name.invariant
