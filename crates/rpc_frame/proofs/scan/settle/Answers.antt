use Rattle.std.proofs.Common.{List, None, sym, subst}
use Rattle.rpc_frame.specs.declared.head.Spot.TheVariants.{Field}
use Rattle.rpc_frame.specs.declared.reading.Mark.{Mark}
use Rattle.rpc_frame.specs.declared.reading.Reading.TheVariants.{Header}
use Rattle.rpc_frame.specs.Partial.{Scanned, Stepped}
use Rattle.rpc_frame.proofs.ScanLaws.{stepped_whole}
use Rattle.rpc_frame.proofs.scan.settle.Goals as goal

pub returns-in_ok-push_back-in-Whole-clause-scanned :
    goal.returns-in_ok-push_back-in-Whole-clause-scanned
returns-in_ok-push_back-in-Whole-clause-scanned c = λ from waiting s.
    let old = c.args.marks.now.items in
    let whole = subst (λ t. Stepped from t old waiting) c.in-Whole.is s in
    subst (λ (ms : List Mark). Scanned from (Header 0 (record { size = None; spot = Field 0 })) ms waiting) (sym {A = List Mark} c.in_ok-push_back-in-Whole.ensures.items)
    (stepped_whole from c.in-Whole.mark old waiting whole)
