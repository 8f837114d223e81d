use Rattle.std.proofs.Common.{◌≡◌, ◌+◌, ◌<◌, ℕ, suc, List, Option, ap, length, refl, arith}
use Rattle.bsp_edge.specs.Course.{Course}
use Rattle.rpc_frame.specs.declared.damage.Damage.{Damage}
use Rattle.rpc_frame.specs.Damages.{HasDamage}
use Rattle.rpc_frame.proofs.DamageLaws.{damage_broken}
use Rattle.rpc_frame.proofs.FrameLaws.{broken_not_sound}
use Rattle.bsp_cli.specs.Offsets.{EndsInLast, IsAt, WhereTold}
use Rattle.bsp_cli.specs.Progress.{IsWithin, MayEnd, fed}
use Rattle.bsp_cli.specs.declared.outcome.Ending.{Ending}
use Rattle.bsp_cli.specs.declared.outcome.Ending.TheVariants.{Damaged}
use Rattle.bsp_cli.specs.declared.serve.Turn.{Turn}
use Rattle.bsp_cli.specs.declared.serve.Turn.TheVariants.{Ends, Exits}
use Rattle.bsp_cli.specs.declared.serve.Fetched.TheVariants.{End}
use Rattle.bsp_cli.proofs.CourseLaws.{came_further, in_last}
use Rattle.bsp_cli.proofs.TurnLaws.{stopped_waiting, turn_ends, turn_progress, turn_stopped}
use Rattle.bsp_cli.proofs.WritingLaws.{if_ok_then, if_ok_with}
use Rattle.bsp_cli.proofs.serve.Server.take_turn.Goals as goal

pub split_at-requires : goal.split_at-requires
split_at-requires g c = ((rw c.in-Ok-Piece.field-0-is at c.in-Ok-Piece.ensures.piece) c.in-Ok-Piece.count refl).fits

pub take_piece-requires-clause-some : goal.take_piece-requires-clause-some
take_piece-requires-clause-some g c =
    let piece = ((rw c.in-Ok-Piece.field-0-is at c.in-Ok-Piece.ensures.piece) c.in-Ok-Piece.count refl) in
    omega (arith, c.split_at.ensures.front_len, piece.some)

pub returns-in-Ok-Piece-clause-progress : goal.returns-in-Ok-Piece-clause-progress
returns-in-Ok-Piece-clause-progress g c =
    turn_progress c.args.self.now.responder.core c.fetch.new.self.responder.core c.take_piece.new.self.responder.core c.args.self.now.decoder c.fetch.new.self.decoder c.take_piece.new.self.decoder _ _ _ _ _ _ _ _ _ _ _ _ c.fetch.ensures.decoder c.split_at.ensures.front c.take_piece.ensures.crew.collected
    ((rw c.in-Ok-Piece.field-0-is at c.in-Ok-Piece.ensures.progress) c.in-Ok-Piece.count refl) c.take_piece.result c.take_piece.ensures.progress

pub returns-in-Ok-Piece-clause-stopped : goal.returns-in-Ok-Piece-clause-stopped
returns-in-Ok-Piece-clause-stopped g c =
    let piece = ((rw c.in-Ok-Piece.field-0-is at c.in-Ok-Piece.ensures.piece) c.in-Ok-Piece.count refl) in
    let begun : fed c.fetch.new.self.decoder ≡ fed c.args.self.now.decoder = ap fed c.fetch.ensures.decoder in
    turn_stopped c.args.self.now.responder.core c.fetch.new.self.responder.core c.take_piece.new.self.responder.core c.args.self.now.decoder c.fetch.new.self.decoder c.take_piece.new.self.decoder _ _ _ _ _ _ _ _ _ _ _ _ c.fetch.ensures.decoder c.split_at.ensures.front c.take_piece.ensures.crew.collected
    ((rw c.in-Ok-Piece.field-0-is at c.in-Ok-Piece.ensures.progress) c.in-Ok-Piece.count refl) c.take_piece.result c.take_piece.ensures.stopped
    (λ sink start at.
    let failed = c.take_piece.ensures.failed sink in
    in_last start piece.before (g.S.Source.course c.fetch.new.input) (fed c.args.self.now.decoder) c.in-Ok-Piece.count c.take_piece.new.self.decoder.given_end (piece.stays start _ at) piece.moves (omega (arith, failed.0, begun))
    (omega (arith, failed.1, begun, c.split_at.ensures.front_len)))

pub returns-in-Ok-Piece-clause-at_end : goal.returns-in-Ok-Piece-clause-at_end
returns-in-Ok-Piece-clause-at_end g c =
    turn_ends c.args.self.now.responder.core c.fetch.new.self.responder.core c.take_piece.new.self.responder.core c.args.self.now.decoder c.fetch.new.self.decoder c.take_piece.new.self.decoder _ _ _ _ _ _ _ _ _ _ _ _ c.fetch.ensures.decoder c.split_at.ensures.front c.take_piece.ensures.crew.collected
    ((rw c.in-Ok-Piece.field-0-is at c.in-Ok-Piece.ensures.progress) c.in-Ok-Piece.count refl) c.take_piece.result c.take_piece.ensures.progress c.take_piece.ensures.broken

pub returns-in-Ok-Piece-clause-goes_on : goal.returns-in-Ok-Piece-clause-goes_on
returns-in-Ok-Piece-clause-goes_on g c = λ same.
    let may = rw c.fetch.ensures.decoder at (c.take_piece.ensures.goes_on same (g.S.Source.faults c.args.input.now)) in
    rw ((rw c.in-Ok-Piece.field-0-is at c.in-Ok-Piece.ensures.same) c.in-Ok-Piece.count refl) may

pub returns-in-Ok-Piece-clause-ends : goal.returns-in-Ok-Piece-clause-ends
returns-in-Ok-Piece-clause-ends g c =
    if_ok_then c.take_piece.result
    (λ (turn : Turn). (ending : Ending) → turn ≡ Ends ending → (left : Option (List ℕ)) (old new : ℕ) → MayEnd c.take_piece.new.self.responder.core c.take_piece.new.self.decoder ending left old new)
    (λ (turn : Turn). (ending : Ending) → turn ≡ Ends ending
    → MayEnd c.take_piece.new.self.responder.core c.take_piece.new.self.decoder ending (g.S.Source.left c.fetch.new.input) (g.S.Source.faults c.args.input.now) (g.S.Source.faults c.fetch.new.input))
    (λ turn may. λ ending same. may ending same (g.S.Source.left c.fetch.new.input) (g.S.Source.faults c.args.input.now) (g.S.Source.faults c.fetch.new.input))
    c.take_piece.ensures.ends

pub returns-in-Ok-Piece-clause-further : goal.returns-in-Ok-Piece-clause-further
returns-in-Ok-Piece-clause-further g c = λ same start at.
    let piece = ((rw c.in-Ok-Piece.field-0-is at c.in-Ok-Piece.ensures.piece) c.in-Ok-Piece.count refl) in
    let counted : fed c.take_piece.new.self.decoder ≡ fed c.fetch.new.self.decoder + length c.split_at.result.0.now = rw same at c.take_piece.ensures.count in
    let sized : fed c.take_piece.new.self.decoder ≡ fed c.args.self.now.decoder + c.in-Ok-Piece.count = omega (arith, counted, ap fed c.fetch.ensures.decoder, c.split_at.ensures.front_len) in
    rw sized (came_further start _ _ (fed c.args.self.now.decoder) c.in-Ok-Piece.count (piece.stays start _ at) piece.moves)

pub returns-in-Ok-Piece-clause-in_last : goal.returns-in-Ok-Piece-clause-in_last
returns-in-Ok-Piece-clause-in_last g c =
    let piece = ((rw c.in-Ok-Piece.field-0-is at c.in-Ok-Piece.ensures.piece) c.in-Ok-Piece.count refl) in
    let begun : fed c.fetch.new.self.decoder ≡ fed c.args.self.now.decoder = ap fed c.fetch.ensures.decoder in
    if_ok_with c.take_piece.result (fed c.take_piece.new.self.decoder ≡ fed c.fetch.new.self.decoder + length c.split_at.result.0.now)
    (λ (turn : Turn). (status : ℕ) → turn ≡ Exits status → fed c.fetch.new.self.decoder < c.take_piece.new.self.decoder.given_end)
    (λ (turn : Turn). (status : ℕ) → turn ≡ Exits status → (start : Option Course) → IsAt start (g.S.Source.course c.args.input.now) (fed c.args.self.now.decoder)
    → WhereTold (EndsInLast c.take_piece.new.self.decoder.given_end) start (g.S.Source.course c.fetch.new.input))
    (λ turn counted passes. λ status same start at.
    in_last start piece.before (g.S.Source.course c.fetch.new.input) (fed c.args.self.now.decoder) c.in-Ok-Piece.count c.take_piece.new.self.decoder.given_end (piece.stays start _ at) piece.moves (omega (arith, passes status same, begun))
    (omega (arith, counted, begun, c.split_at.ensures.front_len)))
    c.take_piece.ensures.count c.take_piece.ensures.passes

pub returns-in-Ok-Piece-clause-damaged_in_last : goal.returns-in-Ok-Piece-clause-damaged_in_last
returns-in-Ok-Piece-clause-damaged_in_last g c =
    let piece = ((rw c.in-Ok-Piece.field-0-is at c.in-Ok-Piece.ensures.piece) c.in-Ok-Piece.count refl) in
    let begun : fed c.fetch.new.self.decoder ≡ fed c.args.self.now.decoder = ap fed c.fetch.ensures.decoder in
    if_ok_then c.take_piece.result
    (λ (turn : Turn). (damage : Damage) → turn ≡ Ends (Damaged damage) → IsWithin damage (fed c.fetch.new.self.decoder) (length c.split_at.result.0.now))
    (λ (turn : Turn). (damage : Damage) → turn ≡ Ends (Damaged damage) → HasDamage c.take_piece.new.self.decoder damage → (start : Option Course) → IsAt start (g.S.Source.course c.args.input.now) (fed c.args.self.now.decoder)
    → WhereTold (EndsInLast (suc damage.place)) start (g.S.Source.course c.fetch.new.input))
    (λ turn within. λ damage same has start at.
    let found = within damage same in
    in_last start piece.before (g.S.Source.course c.fetch.new.input) (fed c.args.self.now.decoder) c.in-Ok-Piece.count (suc damage.place) (piece.stays start _ at) piece.moves (omega (arith, found.behind, begun))
    (omega (arith, found.inside, begun, c.split_at.ensures.front_len)))
    c.take_piece.ensures.damaged

pub returns-in-Ok-End-clause-progress : goal.returns-in-Ok-End-clause-progress
returns-in-Ok-End-clause-progress g c = λ from start so.
    let here = (rw c.in-Ok-End.field-0-is at c.in-Ok-End.ensures.at_end) c.in-Ok-End.ending refl from start so in
    here.progress

pub returns-in-Ok-End-clause-at_end : goal.returns-in-Ok-End-clause-at_end
returns-in-Ok-End-clause-at_end g c = λ ending same from start so.
    let one : c.in-Ok-End.ending ≡ ending = cc in
    (rw c.in-Ok-End.field-0-is at c.in-Ok-End.ensures.at_end) ending (ap End one) from start so

-- damage that is told at the end of the input lies behind all its bytes, which are sound
pub returns-in-Ok-End-clause-damaged_in_last : goal.returns-in-Ok-End-clause-damaged_in_last
returns-in-Ok-End-clause-damaged_in_last g c = λ damage same has.
    absurd (broken_not_sound _ (damage_broken _ has.place damage.kind has.at) (rw c.fetch.ensures.decoder c.requires.sound))

pub returns-in-Err-clause-stopped : goal.returns-in-Err-clause-stopped
returns-in-Err-clause-stopped g c = λ from start so at. stopped_waiting _ _ from _ start _ (c.in-Err.ensures.stopped from start so)
