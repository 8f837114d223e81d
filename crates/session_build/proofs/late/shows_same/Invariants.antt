use Rattle.std.proofs.Common.{take}
use Rattle.std.specs.Prelude.{All}
use Rattle.build_checks.specs.Kept.{Extends}
use Rattle.oberon_module.specs.Views.{plain_views}
use Rattle.oberon_rules.specs.Local.{view_in}
use Rattle.session_build.specs.Late.{ShowsAs}
use Rattle.session_build.proofs.late.shows_same.Given as goal

abbrev pub invariant-loop-import : goal.invariant-loop-import
invariant-loop-import l =
    record {
      same : All (ShowsAs l.keys (view_in (plain_views l.views.entries))) (take l.import-index l.imports);
      more : Extends l.initial.keys l.keys;
    }
