-- What a list of events tells that is joined of two.
use Rattle.std.proofs.Common.{◌≡◌, ◌+◌, ◌++◌, ℕ, List, [], ◌∷◌, flat_map, Option, Some, None, refl, sym, ap, ◌∙◌, subst, arith, append_assoc, append-nil}
use Rattle.std.proofs.lemmas.Grind.{flat_map-append}
use Rattle.ob_text.specs.Held.{Entries}
use Rattle.bsp_edge.specs.Handing.{Hands}
use Rattle.bsp_edge.specs.Streams.{Gives}
use Rattle.bsp_edge.specs.Faults.{Rose}
use Rattle.bsp_edge.proofs.HandLaws.{hands_append, hands_nothing}
use Rattle.bsp_edge.proofs.StreamLaws.{gives_append, gives_nothing}
use Rattle.rpc_peer.specs.Said.{Said}
use Rattle.session_law.specs.declared.InputEnd.{InputEnd}
use Rattle.session_law.specs.IsFramed.{text_of}
use Rattle.session_law.specs.Order.{Event, onto, take, ends, hand, write, takes_of, writes_of, hands_of, failures_of, end_of}
use Rattle.bsp_cli.proofs.OntoLaws.{writes_of-onto, hands_of-onto, failures_of-onto}
use Rattle.bsp_cli.specs.Outside.{Told, ToldBy}
use Rattle.bsp_cli.specs.Session.{RoseBy}

-- ---- the later events stand in front

pub takes_of-append : (later earlier : List Event) → takes_of (later ++ earlier) ≡ takes_of earlier ++ takes_of later
takes_of-append [] earlier = sym (append-nil (takes_of earlier))
takes_of-append (take body ∷ later) earlier = ap (λ bodies. bodies ++ body ∷ []) (takes_of-append later earlier) ∙ append_assoc (takes_of earlier) (takes_of later) (body ∷ [])
takes_of-append (ends how ∷ later) earlier = takes_of-append later earlier
takes_of-append (hand handed ∷ later) earlier = takes_of-append later earlier
takes_of-append (write m ∷ later) earlier = takes_of-append later earlier

pub writes_of-append : (later earlier : List Event) → writes_of (later ++ earlier) ≡ writes_of earlier ++ writes_of later
writes_of-append [] earlier = sym (append-nil (writes_of earlier))
writes_of-append (take body ∷ later) earlier = writes_of-append later earlier
writes_of-append (ends how ∷ later) earlier = writes_of-append later earlier
writes_of-append (hand handed ∷ later) earlier = writes_of-append later earlier
writes_of-append (write m ∷ later) earlier = ap (λ messages. messages ++ m ∷ []) (writes_of-append later earlier) ∙ append_assoc (writes_of earlier) (writes_of later) (m ∷ [])

pub hands_of-append : (later earlier : List Event) → hands_of (later ++ earlier) ≡ hands_of earlier ++ hands_of later
hands_of-append [] earlier = sym (append-nil (hands_of earlier))
hands_of-append (take body ∷ later) earlier = hands_of-append later earlier
hands_of-append (ends how ∷ later) earlier = hands_of-append later earlier
hands_of-append (hand None ∷ later) earlier = hands_of-append later earlier
hands_of-append (hand (Some entries) ∷ later) earlier =
    ap (λ snapshots. snapshots ++ entries ∷ []) (hands_of-append later earlier) ∙ append_assoc (hands_of earlier) (hands_of later) (entries ∷ [])
hands_of-append (write m ∷ later) earlier = hands_of-append later earlier

pub failures_of-append : (later earlier : List Event) → failures_of (later ++ earlier) ≡ failures_of earlier + failures_of later
failures_of-append [] earlier = omega arith
failures_of-append (take body ∷ later) earlier = failures_of-append later earlier
failures_of-append (ends how ∷ later) earlier = failures_of-append later earlier
failures_of-append (hand None ∷ later) earlier = omega (arith, failures_of-append later earlier)
failures_of-append (hand (Some entries) ∷ later) earlier = failures_of-append later earlier
failures_of-append (write m ∷ later) earlier = failures_of-append later earlier

pub end_of-append : (later earlier : List Event) → end_of later ≡ None → end_of (later ++ earlier) ≡ end_of earlier
end_of-append [] earlier none = refl
end_of-append (take body ∷ later) earlier none = end_of-append later earlier none
end_of-append (ends how ∷ later) earlier none = absurd cc
end_of-append (hand handed ∷ later) earlier none = end_of-append later earlier none
end_of-append (write m ∷ later) earlier none = end_of-append later earlier none

-- an end that was found stays
pub end_of-ended : (later earlier : List Event) (how : InputEnd) → end_of later ≡ Some how → end_of (later ++ earlier) ≡ Some how
end_of-ended [] earlier how is = absurd cc
end_of-ended (take body ∷ later) earlier how is = end_of-ended later earlier how is
end_of-ended (ends other ∷ later) earlier how is = is
end_of-ended (hand handed ∷ later) earlier how is = end_of-ended later earlier how is
end_of-ended (write m ∷ later) earlier how is = end_of-ended later earlier how is

-- ---- what the tree and the output tell

rose_append : (m n f g h : ℕ) → RoseBy m f g → RoseBy n g h → RoseBy (m + n) f h
rose_append m n f g h first second =
    record {
      rises = omega (arith, first.rises, second.rises);
      by_all = λ below. let later = second.by_all below in let earlier = first.by_all (omega (arith, second.rises)) in omega arith;
      by_none = λ none. second.by_none (omega arith) ∙ first.by_none (omega arith);
    }

pub tells_nothing : (now : Told) → ToldBy [] [] now now
tells_nothing now =
    record {
      hands = hands_nothing now.handed;
      failures = record { rises = omega arith; by_all = λ below. omega arith; by_none = λ none. refl };
      put = gives_nothing now.given;
    }

-- events, and then others
pub tells_append : (earlier later : List Event) (tail : List ℕ) (a b c : Told) → ToldBy earlier [] a b → ToldBy later tail b c → ToldBy (later ++ earlier) tail a c
tells_append earlier later tail a b c first second =
    let texts : flat_map text_of (writes_of (later ++ earlier)) ≡ flat_map text_of (writes_of earlier) ++ flat_map text_of (writes_of later) =
    ap (flat_map text_of) (writes_of-append later earlier) ∙ flat_map-append text_of (writes_of earlier) (writes_of later) in
    let whole : flat_map text_of (writes_of (later ++ earlier)) ++ tail ≡ flat_map text_of (writes_of earlier) ++ (flat_map text_of (writes_of later) ++ tail) =
    ap (λ bytes. bytes ++ tail) texts ∙ append_assoc (flat_map text_of (writes_of earlier)) (flat_map text_of (writes_of later)) tail in
    let before = subst (λ bytes. Gives a.given b.given bytes) (append-nil (flat_map text_of (writes_of earlier))) first.put in
    record {
      hands = subst (λ snapshots. Hands a.handed c.handed snapshots) (sym (hands_of-append later earlier)) (hands_append a.handed b.handed c.handed (hands_of earlier) (hands_of later) first.hands second.hands);
      failures = subst (λ n. RoseBy n a.faults c.faults) (sym (failures_of-append later earlier)) (rose_append (failures_of earlier) (failures_of later) a.faults b.faults c.faults first.failures second.failures);
      put = subst (λ bytes. Gives a.given c.given bytes) (sym whole) (gives_append a.given b.given c.given (flat_map text_of (writes_of earlier)) (flat_map text_of (writes_of later) ++ tail) before second.put);
    }

-- messages that are written
pub tells_messages : (messages : List Said) (tail : List ℕ) (a b : Told) → Hands a.handed b.handed [] → RoseBy 0 a.faults b.faults → Gives a.given b.given (flat_map text_of messages ++ tail)
    → ToldBy (onto messages []) tail a b
tells_messages messages tail a b hands failures put =
    record {
      hands = subst (λ snapshots. Hands a.handed b.handed snapshots) (sym (hands_of-onto messages [])) hands;
      failures = subst (λ n. RoseBy n a.faults b.faults) (sym (failures_of-onto messages [])) failures;
      put = subst (λ w. Gives a.given b.given (flat_map text_of w ++ tail)) (sym (writes_of-onto messages [])) put;
    }

-- an event that is no write, and messages that are written behind it
pub tells_onto : (event : Event) (messages : List Said) (tail : List ℕ) (a b : Told) → writes_of (event ∷ []) ≡ [] → Hands a.handed b.handed (hands_of (event ∷ [])) → RoseBy (failures_of (event ∷ [])) a.faults b.faults
    → Gives a.given b.given (flat_map text_of messages ++ tail) → ToldBy (onto messages (event ∷ [])) tail a b
tells_onto event messages tail a b no_write hands failures put =
    let writes : writes_of (onto messages (event ∷ [])) ≡ messages = writes_of-onto messages (event ∷ []) ∙ ap (λ w. w ++ messages) no_write in
    record {
      hands = subst (λ snapshots. Hands a.handed b.handed snapshots) (sym (hands_of-onto messages (event ∷ []))) hands;
      failures = subst (λ n. RoseBy n a.faults b.faults) (sym (failures_of-onto messages (event ∷ []))) failures;
      put = subst (λ w. Gives a.given b.given (flat_map text_of w ++ tail)) (sym writes) put;
    }

-- a tree that isn't asked
pub unasked : (faults : ℕ) → RoseBy 0 faults faults
unasked faults = record { rises = omega arith; by_all = λ below. omega arith; by_none = λ none. refl }

-- a tree that handed something out, or failed
pub rose_once : (f g : ℕ) → Rose f g → RoseBy 1 f g
rose_once f g rose = record { rises = rose.0; by_all = λ below. let more = rose.1 below in omega arith; by_none = λ none. absurd (omega arith) }

-- nothing was handed out
pub hands_same : (old new : Option (List Entries)) → new ≡ old → Hands old new []
hands_same old new same = rw same (hands_nothing old)

pub rose_never : (f g : ℕ) → g ≡ f → RoseBy 0 f g
rose_never f g same = rw same (unasked f)
