-- What came of the documents of a build, counted.
use Rattle.std.specs.Prelude.{◌≡◌, ◌+◌, ◌||◌, ℕ, List, [], ◌∷◌, Bool, false, nat_lt, if◌then◌else◌}
use Rattle.std.specs.List.{slice_get}
use Rattle.std.specs.Str.{bytes_eq}
use Rattle.std.specs.Prelude.{Some, Contains}
use Rattle.ob_text.specs.declared.diagnostic.Diagnostic.{Diagnostic}
use Rattle.session_build.specs.declared.tally.Tally.{Tally}
use Rattle.session_law.specs.Builds.{Finding}
use Rattle.session_law.specs.Course.{Stage, count_errors, count_warnings, has_begun}
use Rattle.session_law.specs.declared.BuildDocument.{BuildDocument}

abbrev pub no_tally : Tally
no_tally = record { begun = false; errors = 0; warnings = 0 }

-- two, taken together
abbrev pub with_tally : Tally → Tally → Tally
with_tally a b = record { begun = a.begun || b.begun; errors = a.errors + b.errors; warnings = a.warnings + b.warnings }

-- those of the documents of the target with this id, taken together
abbrev pub tally_from : List ℕ → Tally → List BuildDocument → List Tally → Tally
tally_from id sum [] tallies = sum
tally_from id sum (document ∷ documents) [] = sum
tally_from id sum (document ∷ documents) (tally ∷ tallies) =
    tally_from id (if bytes_eq document.key.target id then with_tally sum tally else sum) documents tallies

abbrev pub tally_of : List ℕ → List BuildDocument → List Tally → Tally
tally_of id documents tallies = tally_from id no_tally documents tallies

abbrev pub has_errors : Tally → Bool
has_errors tally = nat_lt 0 tally.errors

-- what came of a document that has this list
pub record IsCount (begun : Bool) (list : List Diagnostic) (tally : Tally) : Type 0 where
  pub begun_is : tally.begun ≡ begun
  pub errors_are : tally.errors ≡ count_errors list
  pub warnings_are : tally.warnings ≡ count_warnings list

pub record IsTallied (s : Stage) (finding : Finding) (tallies : List Tally) (index : ℕ) : Type 0 where
  pub tally : Tally
  pub there : slice_get tallies index ≡ Some tally
  pub is : IsCount (has_begun s finding.document.pair) finding.list tally

-- each document that is settled has its tally, at its index
abbrev pub AreTallied : List BuildDocument → Stage → List Tally → Type 0
AreTallied documents s tallies =
    (finding : Finding) (index : ℕ) → Contains s.settled finding → slice_get documents index ≡ Some finding.document → IsTallied s finding tallies index
