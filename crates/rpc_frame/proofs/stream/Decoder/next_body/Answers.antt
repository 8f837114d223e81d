use Rattle.std.proofs.Common.{◌≡◌, ◌+◌, List, length, take, drop, sym, ◌∙◌, ap, subst, arith, length-drop}
use Rattle.rpc_frame.specs.declared.reading.Mark.{Mark}
use Rattle.rpc_frame.specs.Frames.{BeginsWith, HasNoFrame}
use Rattle.rpc_frame.specs.Partial.{Scanned}
use Rattle.rpc_frame.proofs.FrameLaws.{begins_fewer}
use Rattle.rpc_frame.proofs.ScanLaws.{first_mark}
use Rattle.rpc_frame.proofs.KeptLaws.{inside, none_left, NextFrame, next_frame}
use Rattle.rpc_frame.proofs.stream.Decoder.next_body.Goals as goal
use Rattle.rpc_frame.proofs.stream.Decoder.next_body.Goals.{In-Some}

pub returns-in-None-clause-none : goal.returns-in-None-clause-none
returns-in-None-clause-none c =
    let d = c.self.inside in
    subst HasNoFrame (ap (λ w. w.bytes) c.self.view_is) (none_left d.given_end d.reading d.marks.items (drop d.start d.bytes.items) c.in-None.ensures.item.3 c.self.invariant.scanned)

-- the frame that is given
given : (c : In-Some) → NextFrame c.self.inside.given_end c.self.inside.reading c.in-Some.mark.now (drop 1 c.self.inside.marks.items) c.self.inside.start c.self.inside.bytes.items
given c =
    let d = c.self.inside in
    next_frame d.given_end d.reading c.in-Some.mark.now (drop 1 d.marks.items) d.start d.bytes.items (inside d c.self.invariant)
    (first_mark d.given_end d.reading c.in-Some.mark.now d.marks.items (drop d.start d.bytes.items) c.in-Some.ensures.item.3.0 c.in-Some.ensures.item.1 c.self.invariant.scanned)

pub split_at-requires-3 : goal.split_at-requires-3
split_at-requires-3 c =
    let f = given (goal.at.split_at-requires-3 c).In-Some in
    omega (arith, f.fits, c.split_at-2.ensures.back_len, c.split_at.ensures.back_len, c.as_slice.ensures.len, ap length c.as_slice.ensures.value)

pub invariant_of-self : goal.invariant_of-self
invariant_of-self c =
    let d = c.self.inside in
    let f = given (goal.at.invariant_of-self c).In-Some in
    let n = c.in-Some.mark.now.header + c.in-Some.mark.now.content in
    record {
      half = c.compact-self-inside.ensures.half;
      bound = omega (arith, f.fits, c.self.invariant.bound, length-drop d.start d.bytes.items, length-drop (d.start + n) d.bytes.items, ap length c.compact-self-inside.ensures.others);
      within = c.self.invariant.within;
      scanned =
          subst (λ (ms : List Mark). Scanned (d.given_end + n) d.reading ms (drop c.compact-self-inside.result c.compact-self-inside.new.bytes.items)) (sym c.pop_front.ensures.rest)
          (subst (Scanned (d.given_end + n) d.reading (drop 1 d.marks.items)) (sym c.compact-self-inside.ensures.others) f.others);
    }

pub returns-clause-some : goal.returns-clause-some
returns-clause-some c =
    let d = c.self.inside in
    let mark = c.in-Some.mark.now in
    let f = given (goal.at.returns-clause-some c).In-Some in
    let after = drop (d.start + (mark.header + mark.content)) d.bytes.items in
    let waiting : c.split_at.result.1.now ≡ drop d.start d.bytes.items = c.split_at.ensures.back ∙ ap (drop d.start) c.as_slice.ensures.value in
    let body : take mark.content (drop mark.header (drop d.start d.bytes.items)) ≡ c.in_ok-body.body.items =
    sym (c.in_ok-body.ensures.items ∙ c.split_at-3.ensures.front ∙ ap (take mark.content) (c.split_at-2.ensures.back ∙ ap (drop mark.header) waiting)) in
    subst (BeginsWith _ c.in_ok-body.body.items) (sym c.compact-self-inside.ensures.others)
    (subst (λ b. BeginsWith b c.in_ok-body.body.items after) (ap (λ w. w.bytes) c.self.view_is)
    (subst (λ t. BeginsWith (drop d.start d.bytes.items) t after) body f.begins))

pub returns-clause-fewer : goal.returns-clause-fewer
returns-clause-fewer c =
    let d = c.self.inside in
    let f = given (goal.at.returns-clause-fewer c).In-Some in
    omega (arith, begins_fewer (drop d.start d.bytes.items) _ _ f.begins, ap (λ w. length w.bytes) c.self.view_is, ap length c.compact-self-inside.ensures.others)

pub returns-clause-limit : goal.returns-clause-limit
returns-clause-limit c =
    let f = given (goal.at.returns-clause-limit c).In-Some in
    omega (arith, f.limit, ap length c.in_ok-body.ensures.items, c.split_at-3.ensures.front_len)
