use Rattle.std.proofs.Common.{◌≡◌, ◌≢◌, ◌+◌, ◌++◌, ◌∷◌, [], true, take, cond, Contains, ap, sym, subst, ◌∙◌, List, ℕ, arith}
use Rattle.std.specs.List.{list_any, AllPairs}
use Rattle.std.specs.Str.{bytes_eq}
use Rattle.std.proofs.lemmas.List.{map_more, take_all}
use Rattle.target_graph.specs.declared.entry.Entry.{Entry}
use Rattle.target_graph.specs.declared.fault.FaultKind.TheVariants as kinds
use Rattle.target_graph.specs.Faults.{names_of, IsFirstRepeat, IsAbout, IsNameIndex}
use Rattle.target_graph.proofs.Listed.{any_listed, none_listed, distinct_more, no_repeat, repeat_at}
use Rattle.target_graph.proofs.Steps.{found}
use Rattle.target_graph.proofs.TurnedTests.{from_not, from_not_true}
use Rattle.target_graph.proofs.listing.index_names.Goals as goal

pub loop-entry-init : goal.loop-entry-init
loop-entry-init c = record { same = c.new-names.ensures.empty; distinct = λ i j d h k. absurd (omega arith) }

pub returns-then-not-branch : goal.returns-then-not-branch
returns-then-not-branch c =
    let i = c.loop-entry.entry-index in
    let entries = c.args.entries.now in
    let entry = c.entry-item.result in
    let there : list_any (bytes_eq entry.name) c.loop-entry.names.keys ≡ true = from_not _ _ c.in_ok-insert.ensures.new c.if-not-branch.true in
    found c.refusal.result kinds.NameTwice (IsFirstRepeat (names_of entries)) _ entry.name
    (subst (λ (xs : List ℕ). IsAbout c.refusal.result kinds.NameTwice xs) c.as_slice.ensures c.refusal.ensures)
    (repeat_at (λ (e : Entry). e.name) entries i entry c.loop-entry-test.true c.entry-item.is c.loop-entry.invariant.distinct
    (subst (λ (names : List (List ℕ)). Contains names entry.name) c.loop-entry.invariant.same (any_listed c.loop-entry.names.keys entry.name there)))

pub loop-entry-preserved : goal.loop-entry-preserved
loop-entry-preserved c =
    let i = c.loop-entry.entry-index in
    let entries = c.args.entries.now in
    let entry = c.entry-item.result in
    let keys = c.loop-entry.names.keys in
    let fresh = none_listed keys entry.name (from_not_true _ _ c.in_ok-insert.ensures.new c.if-not-branch.false) in
    let more : names_of (take (i + 1) entries) ≡ names_of (take i entries) ++ entry.name ∷ [] =
    map_more (λ (e : Entry). e.name) entries i entry c.loop-entry-test.true ∙ ap (λ (e : Entry). names_of (take i entries) ++ e.name ∷ []) (sym c.entry-item.is) in
    record {
      same =
          c.in_ok-insert.ensures.keys
          ∙ (ap (λ b. cond b (keys ++ entry.name ∷ []) keys) c.if-not-branch.false
          ∙ (ap (λ names. names ++ entry.name ∷ []) c.loop-entry.invariant.same ∙ sym more));
      distinct =
          subst (λ (names : List (List ℕ)). AllPairs ◌≢◌ names) (sym more)
          (distinct_more (names_of (take i entries)) entry.name c.loop-entry.invariant.distinct
          (subst (λ (names : List (List ℕ)). ¬ (Contains names entry.name)) c.loop-entry.invariant.same fresh));
    }

pub returns : goal.returns
returns c =
    let entries = c.args.entries.now in
    let all = ap names_of (take_all c.loop-entry.entry-index entries c.loop-entry-test.false) in
    let index : IsNameIndex c.loop-entry.names.keys (names_of entries) = subst (λ names. IsNameIndex c.loop-entry.names.keys names) all c.loop-entry.invariant in
    (index, λ name. no_repeat (names_of entries) name index.distinct)
