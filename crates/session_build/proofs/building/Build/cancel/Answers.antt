use Rattle.std.proofs.Common.{◌≢◌, List, map, refl, subst}
use Rattle.std.specs.List.{AllPairs}
use Rattle.rpc_peer.specs.Said.{Said}
use Rattle.session_build.specs.Cancels.{cancels_said}
use Rattle.session_build.specs.Going.{pairs_made}
use Rattle.build_messages.specs.Outgoing.{outgoing_said}
use Rattle.session_build.specs.Remembering.{Remembers}
use Rattle.session_build.specs.Storing.{StoresAll}
use Rattle.session_build.specs.Telling.{TellsBehind}
use Rattle.session_build.specs.declared.going.Job.{Job}
use Rattle.session_build.proofs.BareSteps.{cancels_bare}
use Rattle.session_build.proofs.CancellingLaws.{cancelled_remembers, cancels, shows_either}
use Rattle.target_graph.specs.Workspace.{Space}
use Rattle.session_build.proofs.building.Build.cancel.Goals as goal

pub returns : goal.returns
returns c =
    let at = c.args.self.at in
    let going = c.args.self.going in
    let jobs : List Job = going.jobs.items in
    let kept = c.args.kept.now in
    let first : List Said = map outgoing_said c.args.out.now.items in
    let last : List Said = map outgoing_said c.cancel_build.new.out.items in
    let tells : TellsBehind (cancels_said at jobs) first last =
    subst (λ (js : List Job). TellsBehind (cancels_said at js) first last) c.as_slice.ensures.value c.in_ok-cancel_build.ensures.tells in
    record {
      own = cancels_said at jobs;
      tells = tells;
      bare = cancels_bare at jobs;
      same = refl;
      cancels = λ g told table work. cancels g at going told kept.keys table work.going work.rests.ordered;
      shows = λ g told table work. shows_either g at going told kept.keys table work.going;
      remembers = λ g told table work remembers.
          cancelled_remembers g at going told kept.keys table work.going c.requires.setting c.requires.ordered c.in_ok-cancel_build.ensures.few c.requires.few kept
          (record kept { cache = c.store_all.new.cache; late = c.wait_for.new.late }) refl refl
          (subst (λ (w : Space). Remembers w g.earlier kept) work.going.of_setting.space remembers)
          (subst (λ (s : Space). AllPairs ◌≢◌ (pairs_made going.made.items) → StoresAll s going.made.items kept.cache c.store_all.new.cache) c.deref-space.ensures c.in_ok-store_all.ensures)
          c.in_ok-wait_for.ensures;
    }
