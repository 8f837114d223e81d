use Rattle.std.proofs.Common.{drop, sym, subst, arith}
use Rattle.rpc_frame.specs.declared.damage.Damage.{Damage}
use Rattle.rpc_frame.specs.declared.reading.Reading.TheVariants.{Broken}
use Rattle.rpc_frame.specs.Frames.{Waiting}
use Rattle.rpc_frame.specs.Damages.{HasDamage}
use Rattle.rpc_frame.specs.Partial.{Scanned}
use Rattle.rpc_frame.proofs.ScanLaws.{scanned_broken, scanned_damage, scanned_sound}
use Rattle.rpc_frame.proofs.DamageLaws.{damage_broken, one_damage}
use Rattle.rpc_frame.proofs.KeptLaws.{Fed, fed, fed_damage}
use Rattle.rpc_frame.proofs.stream.Decoder.feed.Goals as goal
use Rattle.rpc_frame.proofs.stream.Decoder.feed.Goals.{In-Some, In_default}

-- what was read behind the piece
after_piece : (c : In_default) → Fed c.self.inside c.in_ok-reading.reading c.append.new.marks.items c.append.new.bytes.items c.args.piece.now
after_piece c =
    let d = c.self.inside in
    fed d c.in_ok-reading.reading c.append.new.marks.items c.append.new.bytes.items c.args.piece.now _ c.self.invariant c.in_ok-reading.ensures.bytes (omega (arith, c.len.ensures)) c.in_ok-reading.ensures.scanned

behind_piece : (c : In-Some) → Fed c.self.inside c.in_ok-reading.reading c.append.new.marks.items c.append.new.bytes.items c.args.piece.now
behind_piece c =
    let d = c.self.inside in
    fed d c.in_ok-reading.reading c.append.new.marks.items c.append.new.bytes.items c.args.piece.now _ c.self.invariant c.in_ok-reading.ensures.bytes (omega (arith, c.len.ensures)) c.in_ok-reading.ensures.scanned

pub returns-clause-sound : goal.returns-clause-sound
returns-clause-sound c =
    let f = after_piece c in
    scanned_sound c.self.inside.given_end c.in_ok-reading.reading c.append.new.marks.items _ c.in_default.ensures.none f.scanned

-- the damage that was read
told : (c : In-Some) → Scanned c.self.inside.given_end (Broken c.in-Some.damage) c.append.new.marks.items (drop c.self.inside.start c.append.new.bytes.items)
told c = subst (λ r. Scanned c.self.inside.given_end r c.append.new.marks.items (drop c.self.inside.start c.append.new.bytes.items)) c.in-Some.ensures.some (behind_piece c).scanned

pub returns-in-Some-clause-damaged : goal.returns-in-Some-clause-damaged
returns-in-Some-clause-damaged c = scanned_broken c.self.inside.given_end c.in-Some.damage c.append.new.marks.items _ (told c)

pub returns-in-Some-clause-place : goal.returns-in-Some-clause-place
returns-in-Some-clause-place c = scanned_damage c.self.inside.given_end c.in-Some.damage c.append.new.marks.items _ (told c)

pub returns-in-Some-clause-exact : goal.returns-in-Some-clause-exact
returns-in-Some-clause-exact c = λ damage has memory.
    let same = one_damage _ c.in-Some.damage damage (scanned_damage c.self.inside.given_end c.in-Some.damage c.append.new.marks.items _ (told c)) has in
    cc

pub returns-in-Some-clause-again : goal.returns-in-Some-clause-again
returns-in-Some-clause-again c = λ damage had memory.
    let d = c.self.inside in
    let before = subst (λ (w : Waiting). HasDamage w damage) (sym c.self.view_is) had in
    let after = fed_damage d c.append.new.bytes.items c.args.piece.now damage (behind_piece c).waiting before in
    let same = one_damage _ c.in-Some.damage damage (scanned_damage d.given_end c.in-Some.damage c.append.new.marks.items _ (told c)) after in
    cc

-- where nothing is told, there is no damage
none_told : (c : In_default) (damage : Damage) → HasDamage (record { bytes = drop c.self.inside.start c.append.new.bytes.items; given_end = c.self.inside.given_end }) damage → ⊥
none_told c damage has =
    (damage_broken _ has.place damage.kind has.at).none
    (scanned_sound c.self.inside.given_end c.in_ok-reading.reading c.append.new.marks.items _ c.in_default.ensures.none (after_piece c).scanned)

pub returns-clause-exact : goal.returns-clause-exact
returns-clause-exact c = λ damage has memory. absurd (none_told c damage has)

pub returns-clause-again : goal.returns-clause-again
returns-clause-again c = λ damage had memory.
    let before = subst (λ (w : Waiting). HasDamage w damage) (sym c.self.view_is) had in
    absurd (none_told c damage (fed_damage c.self.inside c.append.new.bytes.items c.args.piece.now damage (after_piece c).waiting before))
