use Rattle.std.proofs.Common.{◌≡◌, ◌≢◌, ◌++◌, List, map, refl, sym, ap, subst, ◌∙◌}
use Rattle.std.specs.List.{AllPairs, list_any}
use Rattle.rpc_peer.specs.Said.{Said}
use Rattle.session_build.specs.Building.{IsBuilt}
use Rattle.session_build.specs.Ending.{ends_said}
use Rattle.session_build.specs.Going.{pairs_made}
use Rattle.build_messages.specs.Outgoing.{outgoing_said}
use Rattle.session_build.specs.Storing.{StoresAll}
use Rattle.session_build.specs.Tallies.{has_errors}
use Rattle.session_build.specs.Telling.{TellsBehind}
use Rattle.session_build.specs.declared.tally.Tally.{Tally}
use Rattle.session_build.proofs.BareSteps.{ends_bare}
use Rattle.session_build.proofs.BuiltLaws.{built}
use Rattle.target_graph.specs.Workspace.{Space}
use Rattle.session_build.proofs.building.Build.end.Goals as goal

pub returns : goal.returns
returns c =
    let at = c.args.self.at in
    let going = c.args.self.going in
    let tallies : List Tally = going.tallies.items in
    let same : c.as_slice.result.now ≡ tallies = c.as_slice.ensures.value in
    let first : List Said = map outgoing_said c.args.out.now.items in
    let last : List Said = map outgoing_said c.end_build.new.out.items in
    let tells : TellsBehind (ends_said at tallies) first last = subst (λ (ts : List Tally). TellsBehind (ends_said at ts) first last) same c.in_ok-failed.ensures.tells in
    let failed : c.in_ok-failed.failed ≡ list_any has_errors tallies = c.in_ok-failed.ensures.failed ∙ ap (list_any has_errors) same in
    record {
      own = ends_said at tallies;
      tells = tells;
      bare = ends_bare at tallies;
      same = refl;
      ends = λ g told table is remembers.
          subst (λ b. IsBuilt g.active g.earlier g.table table (record c.args.kept.now { cache = c.store_all.new.cache }) (told ++ ends_said at tallies) b) (sym failed)
          (built g at going told c.args.kept.now.keys table is c.requires.sound.setting c.in_ok-failed.ensures.few c.requires.sound.sound.sized c.requires.idle c.requires.sound.through
          c.args.kept.now c.store_all.new.cache tells.framed remembers.checks remembers.late
          (subst (λ (s : Space). AllPairs ◌≢◌ (pairs_made going.made.items) → StoresAll s going.made.items c.args.kept.now.cache c.store_all.new.cache) c.deref-space.ensures c.in_ok-store_all.ensures));
    }
