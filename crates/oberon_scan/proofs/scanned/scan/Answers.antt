use Rattle.std.proofs.Common.{length, sym, subst, ◌∙◌, arith}
use Rattle.std.proofs.lemmas.Bool.{eqb-true}
use Rattle.std.proofs.lemmas.List.{nil_from_length}
use Rattle.oberon_scan.specs.Lexis.{part}
use Rattle.oberon_scan.specs.Piece.{IsWithinText, Adds}
use Rattle.oberon_scan.proofs.Going.{piece_goes}
use Rattle.oberon_scan.proofs.Sweeping.{begins_swept, piece_shown, sweeps_on, ends_swept}
use Rattle.oberon_scan.proofs.OneCut.{one_cut}
use Rattle.oberon_scan.proofs.scanned.scan.Goals as goal

pub pieces-init : goal.pieces-init
pieces-init c =
    begins_swept c.args.text.now c.without_mark-rest.result.now c.new.result.items c.new-2.result.items c.new-cursor.result
    c.without_mark-rest.ensures c.new.ensures.items c.new-2.ensures.items c.new-cursor.ensures.text c.new-cursor.ensures.offset c.requires.utf8

pub overflow_sub-span-in-pieces : goal.overflow_sub-span-in-pieces
overflow_sub-span-in-pieces c =
    let g = piece_goes c.pieces.rest.now c.in_ok-piece.after.now c.in_ok-piece.piece (c.in_ok-piece.ensures {u = tt}) in
    omega (arith, g.shorter, c.pieces.invariant.within)

pub add-requires-clause-shown : goal.add-requires-clause-shown
add-requires-clause-shown c =
    let text = c.args.text.now in
    subst (λ xs. IsWithinText xs c.in_ok-piece.piece (part text c.pieces.rest.now c.in_ok-piece.after.now)) (sym c.pieces.invariant.text_is)
    (piece_shown text c.pieces.rest.now c.in_ok-piece.after.now c.in_ok-piece.piece c.pieces.invariant.within (c.in_ok-piece.ensures {u = tt}))

pub pieces-smaller : goal.pieces-smaller
pieces-smaller c =
    let g = piece_goes c.pieces.rest.now c.in_ok-piece.after.now c.in_ok-piece.piece (c.in_ok-piece.ensures {u = tt}) in
    g.shorter

pub pieces-preserved : goal.pieces-preserved
pieces-preserved c =
    let text = c.args.text.now in
    let rest = c.pieces.rest.now in
    let after = c.in_ok-piece.after.now in
    let piece = c.in_ok-piece.piece in
    let old = c.pieces.scanned in
    let new = c.add.new.self in
    let added = subst (λ xs. Adds xs piece (part text rest after) old.tokens.items old.faults.items new.tokens.items new.faults.items) c.pieces.invariant.text_is (c.in_ok-add.ensures {u = tt}).adds in
    sweeps_on text rest after piece old.tokens.items new.tokens.items old.faults.items new.faults.items c.pieces.cursor c.add.new.cursor
    c.pieces.invariant (c.in_ok-piece.ensures {u = tt}) added (c.in_ok-add.ensures {u = tt}).text (c.in_ok-add.ensures {u = tt}).offset

pub returns-clause-lex : goal.returns-clause-lex
returns-clause-lex c =
    let empty = nil_from_length c.pieces.rest.now (eqb-true (length c.pieces.rest.now) 0 (sym c.is_empty.ensures ∙ c.pieces-test.false)) in
    ends_swept c.args.text.now c.pieces.rest.now c.pieces.scanned.tokens.items c.pieces.scanned.faults.items c.pieces.cursor empty c.pieces.invariant

pub returns-clause-only : goal.returns-clause-only
returns-clause-only c tokens faults cut =
    let empty = nil_from_length c.pieces.rest.now (eqb-true (length c.pieces.rest.now) 0 (sym c.is_empty.ensures ∙ c.pieces-test.false)) in
    one_cut cut (ends_swept c.args.text.now c.pieces.rest.now c.pieces.scanned.tokens.items c.pieces.scanned.faults.items c.pieces.cursor empty c.pieces.invariant)
