-- Over any run of a slot, what was handed out, and then what is left, is what was read.
use Rattle.std.proofs.Common.{◌≡◌, ℕ, List, [], ◌∷◌, ◌++◌, Option, Some, None, ap, refl, sym, ◌∙◌}
use Rattle.std.proofs.lemmas.List.{append_assoc, append-nil}
use Rattle.bsp_edge.specs.declared.reading.Got.{Got}
use Rattle.bsp_edge.specs.declared.reading.Got.TheVariants.{Bytes, End, Quiet, Failed}
use Rattle.bsp_input.specs.Slots.{Place, idle, asked, holds, ended, failed, left_of, asked_of, put_of, HandsOut}
use Rattle.bsp_input.specs.Runs.{Move, ask, put, hand, Leads, Runs, piece_of, handed_by, read_of, handed_of}

-- asking leaves what is left
asked_keeps : (place : Place) → left_of (asked_of place) ≡ left_of place
asked_keeps idle = refl
asked_keeps asked = refl
asked_keeps (holds left) = refl
asked_keeps ended = refl
asked_keeps failed = refl

-- what is put there is the piece that was read
put_leaves : (read : List ℕ) (got : Got) → left_of (put_of read got) ≡ piece_of read got
put_leaves read (Bytes count) = refl
put_leaves read End = refl
put_leaves read Quiet = refl
put_leaves read Failed = refl

abbrev or_none : Option (List ℕ) → List ℕ
or_none None = []
or_none (Some bytes) = bytes

-- what was left is what is handed out, and then what is left behind it
hands_front : (old : Place) (answer : Option Got) (into : List ℕ) (new : Place) → HandsOut old answer into new → left_of old ≡ handed_by answer into ++ left_of new
hands_front idle answer into new hands = rw (hands.0, hands.1) refl
hands_front asked answer into new hands = rw (hands.0, hands.1) refl
hands_front (holds left) answer into new hands = rw hands.bytes (ap or_none hands.hands.piece.taken)
hands_front ended answer into new hands = rw (hands.0, hands.1) refl
hands_front failed answer into new hands = rw (hands.0, hands.1) refl

leads_on : (move : Move) (past : List Move) (old new : Place) → read_of past ≡ handed_of past ++ left_of old → Leads move old new → read_of (move ∷ past) ≡ handed_of (move ∷ past) ++ left_of new
leads_on ask past old new before leads = before ∙ rw leads (ap (λ left. handed_of past ++ left) (sym (asked_keeps old)))
leads_on (put read got) past old new before leads =
    let none : read_of past ≡ handed_of past ++ [] = rw leads.due at before in
    rw (leads.puts, put_leaves read got) (ap (λ bytes. bytes ++ piece_of read got) (none ∙ append-nil (handed_of past)))
leads_on (hand answer into) past old new before leads =
    before ∙ ap (λ left. handed_of past ++ left) (hands_front old answer into new leads) ∙ sym (append_assoc (handed_of past) (handed_by answer into) (left_of new))

pub in_order : (moves : List Move) (place : Place) → Runs moves place → read_of moves ≡ handed_of moves ++ left_of place
in_order [] place is = rw is refl
in_order (move ∷ past) place (before, runs, leads) = leads_on move past before place (in_order past before runs) leads

-- the end is told only where all was handed out
pub end_behind_all : (past : List Move) (into : List ℕ) (place : Place) → Runs (hand (Some End) into ∷ past) place → read_of past ≡ handed_of past
end_behind_all past into place (idle, runs, leads) = let other : Some End ≡ None = leads.0 in absurd (cc)
end_behind_all past into place (asked, runs, leads) = let other : Some End ≡ None = leads.0 in absurd (cc)
end_behind_all past into place (holds left, runs, leads) = let other : Some End ≡ Some (Bytes leads.count) = leads.bytes in absurd (cc)
end_behind_all past into place (ended, runs, leads) = in_order past ended runs ∙ append-nil (handed_of past)
end_behind_all past into place (failed, runs, leads) = let other : Some End ≡ Some Failed = leads.0 in absurd (cc)
