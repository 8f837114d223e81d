-- What came of a job of a cancelled build is kept: nothing else changes.
use Rattle.std.proofs.Common.{List, Option, Some, None, sym, true≢false}
use Rattle.std.specs.Prelude.{IsSome}
use Rattle.bsp_records.specs.Table.{Table}
use Rattle.rpc_peer.specs.Said.{Said}
use Rattle.session_build.specs.AtWork.{IsAtWork}
use Rattle.session_build.specs.Remembering.{Remembers}
use Rattle.session_build.specs.declared.building.Build.{Build}
use Rattle.session_build.specs.declared.kept.Kept.{Kept}
use Rattle.session_core.specs.Standing.{Carries, HeadFits, PhaseFits, RemembersIn}
use Rattle.session_core.specs.State.{said_out}
use Rattle.session_core.specs.declared.head.Head.{Head}
use Rattle.session_core.specs.declared.head.Phase.{Phase}
use Rattle.session_core.specs.declared.head.Phase.TheVariants as phases
use Rattle.session_core.specs.declared.session.Core.{Core}
use Rattle.session_law.specs.Course.{Given}
use Rattle.session_law.specs.History.{Told}
use Rattle.session_law.specs.Open.{First}
use Rattle.session_law.specs.Order.{onto}
use Rattle.session_law.specs.Past.{Now, after}
use Rattle.target_graph.specs.Workspace.{Space}
use Rattle.task_stream.specs.Showing.{shows}

pub carries_same : (core : Core) → Carries core core
carries_same core order whole = whole

module _ (old : Core) (kept : Kept) (begun : IsSome old.workspace)
    (remembers : (space : Space) (builds : List Told) → Remembers space builds old.kept → Remembers space builds kept)
    (at_work_on : (g : Given) (b : Build) (told : List Said) (table : Table) → IsAtWork g b told old.kept.keys table → IsAtWork g b told kept.keys table) where
  abbrev new : Core
  new = record old { kept = kept }

  fits_phase : (head : Head) (phase : Phase) (now : Now) (first : First) → PhaseFits old head phase now first → PhaseFits new head phase now first
  fits_phase head (phases.Opening root) now first it = it
  fits_phase head phases.Rereading now first it = it
  fits_phase head (phases.Planned plan) now first it = it
  fits_phase head (phases.Built b origin) now first it =
      record {
        given = it.given;
        id_is = it.id_is;
        space_is = it.space_is;
        origin_is = it.origin_is;
        is = it.is;
        at_work = at_work_on it.given b now.notices (shows old.shown) it.at_work;
      }

  fits_head : (head : Option Head) (now : Now) (first : First) → HeadFits old head now first → HeadFits new head now first
  fits_head None now first fits = fits
  fits_head (Some head) now first fits = (fits.0, fits_phase head head.phase now first fits.1)

  recalls_on : (force : Option Space) → IsSome force → (builds : List Told) → RemembersIn force old.kept builds → RemembersIn force kept builds
  recalls_on None some builds recalls = absurd (true≢false (sym some))
  recalls_on (Some space) some builds recalls = remembers space builds recalls

  pub carries_late : Carries old (record old { kept = kept })
  carries_late order whole =
      record {
        first = whole.first;
        fits = fits_head old.head (after (onto (said_out old) order)) whole.first whole.fits;
        mid =
            record {
              each = whole.mid.each;
              plain_is = whole.mid.plain_is;
              open_is = whole.mid.open_is;
              builds_are = recalls_on old.workspace begun (after (onto (said_out old) order)).builds whole.mid.builds_are;
            };
      }
