use Rattle.std.proofs.Common.{◌<◌, ℕ, List, length, refl, sym, ap, subst, ◌∙◌}
use Rattle.std.proofs.lemmas.List.{length-set}
use Rattle.std.proofs.lemmas.Option.{slice_get_read}
use Rattle.ob_text.specs.declared.held.Held.{Held}
use Rattle.build_sources.specs.Documents.{AreKnown, IsKnown}
use Rattle.build_checks.proofs.KnownLaws.{Names, known_more}
use Rattle.build_checks.proofs.known.learn.Goals as goal

pub learned-names-requires : goal.learned-names-requires
learned-names-requires c =
    let entries = c.args.entries.now in
    let known : List Names = c.args.known.now.items in
    let i = c.args.index in
    let e : List ℕ × Held = c.index-entries-index.result in
    let names : Names = c.index.result.now in
    let within : i < length entries = c.if-index-entries.true in
    let also : i < length known = subst (λ n. i < n) (sym c.requires.sized) within in
    subst (λ (x : List ℕ × Held). IsKnown x.1 names) c.index-entries-index.is
    (c.requires.known i e names (slice_get_read entries (length entries) i e refl within c.index-entries-index.is) (slice_get_read known (length known) i names refl also c.index.ensures))

pub returns-in_ok-key-clause-sized : goal.returns-in_ok-key-clause-sized
returns-in_ok-key-clause-sized c =
    let known : List Names = c.args.known.now.items in
    let names : Names = c.learned-names.result in
    ap (λ (ks : List Names). length ks) c.put.ensures ∙ length-set known c.args.index names ∙ c.requires.sized

pub returns-in_ok-key-clause-known : goal.returns-in_ok-key-clause-known
returns-in_ok-key-clause-known c =
    let entries = c.args.entries.now in
    let known : List Names = c.args.known.now.items in
    let i = c.args.index in
    let e : List ℕ × Held = c.index-entries-index.result in
    let names : Names = c.learned-names.result in
    let own : IsKnown e.1 names = subst (λ (x : List ℕ × Held). IsKnown x.1 names) (sym c.index-entries-index.is) c.learned-names.ensures in
    subst (AreKnown entries) (sym c.put.ensures)
    (known_more entries known i e names (slice_get_read entries (length entries) i e refl c.if-index-entries.true c.index-entries-index.is) c.requires.known own)
