use Rattle.std.proofs.Common.{◌≡◌, map, take}
use Rattle.session_law.specs.declared.BuildDocument.{BuildDocument}
use Rattle.session_build.proofs.documents.modules_of.Given as goal

abbrev pub invariant-loop-document : goal.invariant-loop-document
invariant-loop-document l = l.modules.items ≡ map (λ (it : BuildDocument). it.pair) (take l.document-index l.documents)
