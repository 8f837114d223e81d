-- Documents as they were read, by their paths.
use Rattle.std.specs.Prelude.{◌≡◌, ℕ, List, map, Option, Some, None, IfSome, Contains, slice_get}
use Rattle.std.specs.Borrow.{Bor}
use Rattle.std.specs.Str.{bytes_eq}
use Rattle.std.specs.declared.alloc.Global.{Global}
use Rattle.std.specs.declared.sync.Arc.{Arc}
use Rattle.indexmap.specs.IndexMap.{IndexMap, get}
use Rattle.ob_text.specs.Held.{Entries, IsReadable, held_at}
use Rattle.ob_text.specs.declared.held.Held.{Held}
use Rattle.ob_text.specs.declared.held.Held.TheVariants.{Absent}
use Rattle.oberon_module.specs.Reading.{IsRead}
use Rattle.build_rules.specs.World.{HasImports}
use Rattle.build_sources.specs.declared.documents.Document.{Document}
use Rattle.build_sources.specs.declared.documents.Documents.{Documents}

-- the names that what is held imports, in the order of its text; what is no module imports none
pub record AreImportsOf (held : Held) (names : List (List ℕ)) : Type 0 where
  pub named : (name : List ℕ) → Contains names name → HasImports held names
  pub whole : (others : List (List ℕ)) → HasImports held others → others ≡ names

-- names that are known, if any are, are those that what is held imports
abbrev pub IsKnown : Held → Option (Bor (List (List ℕ))) → Type 0
IsKnown held known = IfSome known (λ names. AreImportsOf held names.now)

-- of each document that was handed out, at its index
abbrev pub AreKnown : Entries → List (Option (Bor (List (List ℕ)))) → Type 0
AreKnown entries known = (i : ℕ) (entry : List ℕ × Held) (names : Option (Bor (List (List ℕ))))
    → slice_get entries i ≡ Some entry → slice_get known i ≡ Some names → IsKnown entry.1 names

-- this is known of what is held, and was read of it if anything was
pub record IsDocument (held : Held) (d : Document) : Type 0 where
  pub held_is : d.held.value ≡ held
  pub readable : IsReadable held
  pub read : IfSome d.reading (λ reading. IsRead held reading.value)
  pub imported : AreImportsOf held d.imports.items

abbrev pub IsDocumentOf : Option Held → Option Document → Type 0
IsDocumentOf None None = Unit {0}
IsDocumentOf (Some held) (Some d) = IsDocument held d
IsDocumentOf None (Some d) = ⊥
IsDocumentOf (Some held) None = ⊥

-- each document that was handed out, and no other
abbrev pub AreRead : {S : Type 0} → Entries → IndexMap (List ℕ) Document S → Type 0
AreRead entries known = (path : List ℕ) → IsDocumentOf (held_at entries path) (get bytes_eq known path)

-- what stands at each path, by what is shared
abbrev pub shown_in : List (List ℕ × Arc Held Global) → Entries
shown_in shared = map (λ (entry : List ℕ × Arc Held Global). (entry.0, entry.1.value)) shared

-- what was handed out
abbrev pub handed_out : Documents → Entries
handed_out documents = shown_in documents.entries.items

pub record AreDocuments (documents : Documents) : Type 0 where
  pub known : AreRead (handed_out documents) documents.by_path
  pub absent : IsDocument Absent documents.absent.value
