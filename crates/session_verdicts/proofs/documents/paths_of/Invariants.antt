use Rattle.std.proofs.Common.{◌≡◌, bytes_eq, map, take}
use Rattle.ob_text.specs.Once.{each_once}
use Rattle.session_law.specs.declared.BuildDocument.{BuildDocument}
use Rattle.session_verdicts.proofs.documents.paths_of.Given as goal

abbrev pub invariant-loop-document : goal.invariant-loop-document
invariant-loop-document l =
    record {
      seen : l.seen.keys ≡ each_once bytes_eq (map (λ (it : BuildDocument). it.path) (take l.document-index l.documents));
      paths : l.paths.items ≡ l.seen.keys;
    }
