use Rattle.std.proofs.Common.{◌≡◌, ◌+◌, ◌-◌, ◌<◌, ℕ, List, Some, length, drop, refl, sym, ap, subst, ◌∙◌, arith}
use Rattle.std.specs.Prelude.{if◌then◌else◌}
use Rattle.std.specs.Str.{bytes_eq}
use Rattle.std.proofs.lemmas.Option.{slice_get_read}
use Rattle.indexmap.specs.IndexMap.{get}
use Rattle.ob_text.specs.Held.{IsReadable, held_at}
use Rattle.ob_text.specs.declared.held.Held.{Held}
use Rattle.build_sources.specs.Documents.{AreRead, IsDocument, IsDocumentOf, IsKnown, shown_in}
use Rattle.build_sources.proofs.ReadLaws.{Shared, known_here, one_read, readable_here}
use Rattle.build_sources.proofs.documents.read_all.Goals as goal

pub bounds-entries-left : goal.bounds-entries-left
bounds-entries-left c = omega (arith, c.entries-test.true, c.entries.invariant.within)

pub new-requires-clause-text : goal.new-requires-clause-text
new-requires-clause-text c =
    let i = c.entries.left - 1 in
    let h : i < length c.args.entries.now = omega (arith, c.entries-test.true, c.entries.invariant.within) in
    subst IsReadable (sym c.in_ok-own.ensures.cases) (readable_here c.args.entries.now c.requires.texts i c.index-entries-left.result h c.index-entries-left.is)

pub new-requires-clause-known : goal.new-requires-clause-known
new-requires-clause-known c =
    let entries : List Shared = c.args.entries.now in
    let i = c.entries.left - 1 in
    let e : Shared = c.index-entries-left.result in
    let h : i < length entries = omega (arith, c.entries-test.true, c.entries.invariant.within) in
    subst (λ (held : Held). IsKnown held c.known_at.result) (sym c.in_ok-own.ensures.cases)
    (known_here entries c.args.known.now c.requires.known i e (slice_get_read entries (length entries) i e refl h c.index-entries-left.is) c.known_at.result c.known_at.ensures)

pub entries-preserved : goal.entries-preserved
entries-preserved c =
    let entries : List Shared = c.args.entries.now in
    let i = c.entries.left - 1 in
    let next : i + 1 ≡ c.entries.left = omega (arith, c.entries-test.true) in
    let h : i < length entries = omega (arith, c.entries-test.true, c.entries.invariant.within) in
    let d = c.in_ok-document.document in
    let document : IsDocument c.index-entries-left.result.1.value d = subst (λ (held : Held). IsDocument held d) c.in_ok-own.ensures.cases c.in_ok-document.ensures in
    record {
      within = omega (arith, c.entries.invariant.within);
      read = λ path.
          let later = get bytes_eq c.entries.by_path path in
          subst (IsDocumentOf (held_at (shown_in (drop i entries)) path)) (sym (c.in_ok-put.ensures path ∙ ap (λ (key : List ℕ). if bytes_eq key path then Some d else later) c.in_ok-copy.ensures))
          (one_read entries i c.index-entries-left.result path d later h c.index-entries-left.is document
          (subst (λ n. IsDocumentOf (held_at (shown_in (drop n entries)) path) later) (sym next) (c.entries.invariant.read path)));
    }

pub returns : goal.returns
returns c =
    let zero : c.entries.left ≡ 0 = omega (arith, c.entries-test.false) in
    subst (λ n. AreRead (shown_in (drop n c.args.entries.now)) c.entries.by_path) zero c.entries.invariant.read
