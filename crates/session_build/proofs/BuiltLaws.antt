-- A build that told all is whole, and once the checks that it made are stored it is what a build is to be.
use Rattle.std.proofs.Common.{◌≡◌, ◌≢◌, ◌<◌, ◌^◌, ◌++◌, ℕ, List, [], ◌∷◌, length, refl, sym, subst}
use Rattle.std.specs.List.{All, AllPairs, list_any}
use Rattle.std.proofs.lemmas.List.Elements.{All-append}
use Rattle.bsp_records.specs.Table.{Table}
use Rattle.build_checks.specs.Kept.{IsKept}
use Rattle.build_rules.specs.World.{World}
use Rattle.check_cache.specs.declared.cache.Cache.{Cache}
use Rattle.rpc_peer.specs.Said.{Said}
use Rattle.session_law.specs.Course.{Given}
use Rattle.session_law.specs.IsFramed.{IsFramed}
use Rattle.session_law.proofs.PublishedLaws.{published_whole}
use Rattle.session_law.proofs.StartLaws.{NumbersFit, numbers_fit}
use Rattle.session_build.specs.Building.{IsBuilt}
use Rattle.session_build.specs.Ending.{ends_said}
use Rattle.session_build.specs.Going.{GoesThrough, IsGoing, pairs_made, told_by}
use Rattle.session_build.specs.Remembering.{AreLate, Remembers, RemembersChecks}
use Rattle.session_build.specs.Setting.{IsSetting}
use Rattle.session_build.specs.Storing.{StoresAll}
use Rattle.session_build.specs.Tallies.{has_errors}
use Rattle.session_build.specs.declared.going.Going.{Going}
use Rattle.session_build.specs.declared.going.Made.{Made}
use Rattle.session_build.specs.declared.kept.Kept.{Kept}
use Rattle.session_build.specs.declared.setting.Setting.{Setting}
use Rattle.session_build.proofs.EndedLaws.{Ends, ended_within, going_ends, made_checked, not_made_unchecked}
use Rattle.session_build.proofs.LateLaws.{late_more}
use Rattle.session_build.proofs.StoredLaws.{AreMade, stored_more}
use Rattle.target_graph.specs.Workspace.{Space}

module _ (g : Given) (at : Setting) (going : Going) (told : List Said) (keys : List (List ℕ)) (table : Table) (is : IsGoing g at going told keys table) (setting : IsSetting at)
    (few : length at.targets.keys < 2 ^ 64) (sized : length going.tallies.items ≡ length at.documents) (idle : going.jobs.items ≡ []) (through : GoesThrough going.checks) where
  abbrev all_told : List Said
  all_told = told ++ ends_said at going.tallies.items

  fit : NumbersFit g.active
  fit = numbers_fit g.active g.closure is.of_setting.are.closed (subst (λ (ts : List ℕ). length ts < 2 ^ 64) (sym is.of_setting.closure) few)

  ends : Ends g (told ++ ends_said at going.tallies.items) table (list_any has_errors going.tallies.items) (pairs_made going.made.items)
  ends = going_ends g at going told keys table is idle through sized

  made_are : AreMade at.workspace.value (told_by g (told ++ ends_said at going.tallies.items)) keys going.made.items
  made_are = record {
    distinct = is.begun.made_distinct;
    each = subst (λ (w : World). All (λ (it : Made). IsKept keys w it.pair it.fact) going.made.items) is.agrees.world_is is.made;
    checked = made_checked g at going told (ends_said at going.tallies.items) keys table is;
    unchecked = not_made_unchecked at.workspace.value setting.apart g is.of_setting.are.documents is.of_setting.space fit ends;
    within = ended_within g is.of_setting.are.documents at.workspace.value is.of_setting.space fit ends;
  }

  pub built : (kept : Kept) (later : Cache) → All IsFramed (ends_said at going.tallies.items) → RemembersChecks at.workspace.value g.earlier kept.cache keys
      → AreLate keys at.workspace.value.root g.earlier kept.late.items → (AllPairs ◌≢◌ (pairs_made going.made.items) → StoresAll at.workspace.value going.made.items kept.cache later)
      → IsBuilt g.active g.earlier g.table table (record kept { cache = later; keys = keys }) (told ++ ends_said at going.tallies.items) (list_any has_errors going.tallies.items)
  built kept later framed remembers late stores = record {
    given = g;
    are = is.of_setting.are;
    active_is = refl;
    earlier_is = refl;
    table_is = refl;
    ended = ends.ended;
    framed = All-append IsFramed told (ends_said at going.tallies.items) is.on.framed framed;
    notices = ends.notices;
    done = ends.ended.stage.settled;
    among = ends.among;
    publishes = published_whole ends.ended;
    shown = ends.shown;
    shows = ends.shows;
    failed_is = ends.failed_is;
    remembers =
        subst (λ (w : Space). Remembers w (told_by g (told ++ ends_said at going.tallies.items) ∷ g.earlier) (record kept { cache = later; keys = keys })) (sym is.of_setting.space)
        (record {
          checks = stored_more at.workspace.value (record { apart = setting.apart; once = setting.once }) g is.of_setting.space (told ++ ends_said at going.tallies.items) keys kept.cache later going.made.items remembers stores made_are;
          late = late_more keys at.workspace.value.root (told_by g (told ++ ends_said at going.tallies.items)) g.earlier kept.late.items late;
        });
  }
