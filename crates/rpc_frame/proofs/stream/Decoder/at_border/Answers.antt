use Rattle.std.proofs.Common.{drop, sym, ap, subst}
use Rattle.rpc_frame.specs.Frames.{IsBorder}
use Rattle.rpc_frame.specs.Partial.{Scanned}
use Rattle.rpc_frame.proofs.ScanLaws.{scanned_border, scanned_no_border}
use Rattle.rpc_frame.proofs.KeptLaws.{true_unless}
use Rattle.rpc_frame.proofs.stream.Decoder.at_border.Goals as goal

pub returns : goal.returns
returns c =
    let d = c.self.inside in
    let waiting = drop d.start d.bytes.items in
    let same = ap (λ w. w.bytes) c.self.view_is in (
      λ yes.
          let start = c.is_start.ensures.start yes in
          subst IsBorder same (scanned_border d.given_end start.0 d.marks.items waiting (subst (λ r. Scanned d.given_end r d.marks.items waiting) start.1 c.self.invariant.scanned)),
      λ border. true_unless c.is_start.result
          (λ other. scanned_no_border d.given_end d.reading d.marks.items waiting (λ head e. other (c.is_start.ensures.other head e)) c.self.invariant.scanned (subst IsBorder (sym same) border)),
    )
