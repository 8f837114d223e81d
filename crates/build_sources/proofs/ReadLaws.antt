-- Documents by their paths, while they are read and once they are.
use Rattle.std.proofs.Common.{◌≡◌, ◌+◌, ◌<◌, ℕ, List, ◌∷◌, length, get_or, drop, Bool, true, false, Option, Some, None, unwrap_or, sym, ap, subst, ◌∙◌}
use Rattle.std.specs.Prelude.{if◌then◌else◌, All, IfSome, slice_get}
use Rattle.std.specs.Borrow.{Bor}
use Rattle.std.specs.Option.{option_copied, option_map}
use Rattle.std.specs.Str.{bytes_eq}
use Rattle.std.specs.declared.alloc.Global.{Global}
use Rattle.std.specs.declared.sync.Arc.{Arc}
use Rattle.std.proofs.lemmas.List.{drop_more, get_or-map, length-map}
use Rattle.std.proofs.lemmas.Option.{slice_get-map}
use Rattle.ob_text.specs.Held.{IsReadable, held_at}
use Rattle.ob_text.specs.declared.held.Held.{Held}
use Rattle.ob_text.specs.declared.held.Held.TheVariants.{Absent}
use Rattle.build_sources.specs.Documents.{AreKnown, IsDocument, IsDocumentOf, IsKnown, shown_in}
use Rattle.build_sources.specs.declared.documents.Document.{Document}

-- an entry whose text is shared
abbrev pub Shared : Type 0
Shared = List ℕ × Arc Held Global

abbrev entry_of : Shared → List ℕ × Held
entry_of e = (e.0, e.1.value)

-- one entry more, before the others
pub one_read : (shared : List Shared) (i : ℕ) (e : Shared) (path : List ℕ) (d : Document) (later : Option Document) → i < length shared → e ≡ get_or shared i e → IsDocument e.1.value d
    → IsDocumentOf (held_at (shown_in (drop (i + 1) shared)) path) later → IsDocumentOf (held_at (shown_in (drop i shared)) path) (if bytes_eq e.0 path then Some d else later)
one_read shared i e path d later h is document behind =
    subst (λ (held : Option Held). IsDocumentOf held (if bytes_eq e.0 path then Some d else later)) (sym at) (by_test (bytes_eq e.0 path))
  where
    at : held_at (shown_in (drop i shared)) path ≡ (if bytes_eq e.0 path then Some e.1.value else held_at (shown_in (drop (i + 1) shared)) path)
    at = ap (λ (es : List Shared). held_at (shown_in es) path) (drop_more shared i e h ∙ ap (λ (x : Shared). x ∷ drop (i + 1) shared) (sym is))

    by_test : (b : Bool) → IsDocumentOf (if b then Some e.1.value else held_at (shown_in (drop (i + 1) shared)) path) (if b then Some d else later)
    by_test true = document
    by_test false = behind

-- the text of one entry
pub readable_here : (shared : List Shared) → All (λ (entry : List ℕ × Held). IsReadable entry.1) (shown_in shared) → (i : ℕ) (e : Shared) → i < length shared → e ≡ get_or shared i e → IsReadable e.1.value
readable_here shared all i e h is =
    let same : get_or (shown_in shared) i (entry_of e) ≡ entry_of e = get_or-map entry_of shared i e (entry_of e) h ∙ ap entry_of (sym is) in
    subst (λ (x : List ℕ × Held). IsReadable x.1) same (all i (entry_of e) (subst (λ n. i < n) (sym (length-map shared entry_of)) h))

-- the names that are known of one entry
pub known_here : (shared : List Shared) (known : List (Option (Bor (List (List ℕ))))) → AreKnown (shown_in shared) known → (i : ℕ) (e : Shared) → slice_get shared i ≡ Some e
    → (found : Option (Bor (List (List ℕ)))) → IfSome found (λ names. slice_get known i ≡ Some (Some names)) → IsKnown e.1.value found
known_here shared known are i e at None is = tt
known_here shared known are i e at (Some names) is = are i (entry_of e) (Some names) (slice_get-map entry_of shared i ∙ ap (λ (o : Option Shared). option_map entry_of o) at) is

pub document_of : (held : Option Held) (found : Option (Bor Document)) (absent : Bor Document) → IsDocumentOf held (option_copied found) → IsDocument Absent absent.now
    → IsDocument (unwrap_or held Absent) (unwrap_or found absent).now
document_of None None absent of none = none
document_of (Some held) (Some d) absent of none = of
document_of None (Some d) absent of none = absurd of
document_of (Some held) None absent of none = absurd of
