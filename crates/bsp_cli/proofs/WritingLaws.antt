-- How what is written piece by piece, or message by message, joins.
use Rattle.std.proofs.Common.{◌≡◌, ◌++◌, ◌<◌, ℕ, List, [], ◌∷◌, length, take, drop, flat_map, map, Option, Some, None, Result, Ok, Err, All, IfOk, OnOk, OnErr, IsErrOf, refl, sym, ap, ◌∙◌, subst, arith, append_assoc, append-nil, length-append}
use Rattle.std.proofs.lemmas.List.{take-append-drop}
use Rattle.std.proofs.lemmas.List.Elements.{All-append, All-cons, All-head, All-nil, All-tail}
use Rattle.bsp_edge.specs.Handing.{Hands}
use Rattle.bsp_edge.specs.Streams.{Gives}
use Rattle.bsp_edge.specs.Writing.{TookFront}
use Rattle.bsp_edge.proofs.HandLaws.{hands_nothing}
use Rattle.bsp_edge.proofs.StreamLaws.{gives_append, gives_nothing}
use Rattle.rpc_peer.specs.Said.{Said}
use Rattle.session_law.specs.IsFramed.{IsFramed, text_of}
use Rattle.session_law.specs.Order.{Event, onto, take as takes_body, ends as ends_so, hand, write, takes_of, writes_of, hands_of, failures_of, end_of}
use Rattle.ob_text.specs.Held.{Entries}
use Rattle.session_core.specs.Standing.{StandsFor, IsQuiet}
use Rattle.session_core.specs.State.{said_out}
use Rattle.session_core.specs.declared.session.Core.{Core}
use Rattle.session_core.proofs.AtRest.{stood_lawful}
use Rattle.build_messages.specs.Outgoing.{outgoing_said}
use Rattle.session_law.specs.declared.InputEnd.{InputEnd}
use Rattle.bsp_cli.proofs.OntoLaws.{onto-append, onto-push, takes_of-onto, end_of-onto, writes_of-onto}
use Rattle.bsp_cli.specs.declared.outcome.Outcome.TheVariants.{Stopped}
use Rattle.bsp_cli.specs.declared.stop.Stop.{Stop}
use Rattle.bsp_cli.specs.declared.stop.Stop.TheVariants.{Sink, NoMemory}
use Rattle.bsp_cli.specs.Outside.{Told, told}
use Rattle.bsp_cli.specs.Session.{RoseBy}
use Rattle.bsp_cli.specs.Writing.{ActsThrough, Flushes, GivesFront, GoesWell, Halts, HaltsAt, IsAny, Sends, GoesThrough, Stops}
use Rattle.bsp_cli.proofs.EventLaws.{takes_of-append, writes_of-append, end_of-append, tells_append, tells_messages, tells_nothing, tells_onto, unasked}

-- an order that a core stands for goes well
pub stood_well : (core : Core) (order : List Event) → StandsFor core order → GoesWell order
stood_well core order stands = record { lawful = stood_lawful core order stands; rests = stands.rests }

-- the bytes before this rest were given
pub record GivesSoFar (old new : Option (List ℕ)) (bytes rest : List ℕ) : Type 0 where
  pub front : List ℕ
  pub whole : bytes ≡ front ++ rest
  pub given : Gives old new front

pub starts : (given : Option (List ℕ)) (bytes : List ℕ) → GivesSoFar given given bytes bytes
starts given bytes = record { front = []; whole = refl; given = gives_nothing given }

pub goes_on : (a b c : Option (List ℕ)) (bytes rest : List ℕ) (count : ℕ) → GivesSoFar a b bytes rest → TookFront b c rest count → GivesSoFar a c bytes (drop count rest)
goes_on a b c bytes rest count so took =
    record { front = so.front ++ take count rest; whole = so.whole ∙ (ap (λ r. so.front ++ r) (sym (take-append-drop count rest)) ∙ sym (append_assoc so.front (take count rest) (drop count rest))); given = gives_append a b c so.front (take count rest) so.given took.given }

pub breaks : (a b : Option (List ℕ)) (bytes rest : List ℕ) → GivesSoFar a b bytes rest → 0 < length rest → GivesFront a b bytes
breaks a b bytes rest so more = record { front = so.front; rest = rest; more = more; whole = so.whole; given = so.given }

pub ends : (a b : Option (List ℕ)) (bytes rest : List ℕ) → GivesSoFar a b bytes rest → rest ≡ [] → Gives a b bytes
ends a b bytes rest so none = subst (λ all. Gives a b all) (sym (so.whole ∙ (ap (λ r. so.front ++ r) none ∙ append-nil so.front))) so.given

-- a front of what stands behind what was given
pub front_behind : (a b c : Option (List ℕ)) (xs ys : List ℕ) → Gives a b xs → GivesFront b c ys → GivesFront a c (xs ++ ys)
front_behind a b c xs ys given part =
    record {
      front = xs ++ part.front;
      rest = part.rest;
      more = part.more;
      whole = ap (λ r. xs ++ r) part.whole ∙ sym (append_assoc xs part.front part.rest);
      given = gives_append a b c xs part.front given part.given;
    }

-- a front of what stands before more
pub front_before : (a b : Option (List ℕ)) (xs ys : List ℕ) → GivesFront a b xs → GivesFront a b (xs ++ ys)
front_before a b xs ys part =
    record {
      front = part.front;
      rest = part.rest ++ ys;
      more = omega (arith, part.more, length-append part.rest ys);
      whole = ap (λ r. r ++ ys) part.whole ∙ append_assoc part.front part.rest ys;
      given = part.given;
    }

-- the note of a damage, piece by piece
module _ (a b c d e f : Option (List ℕ)) (at place colon kind last : List ℕ) where
  abbrev noted : List ℕ
  noted = at ++ (place ++ (colon ++ (kind ++ last)))

  pub noted_place : Gives a b at → GivesFront b c place → GivesFront a c noted
  noted_place first part = front_behind a b c at (place ++ (colon ++ (kind ++ last))) first (front_before b c place (colon ++ (kind ++ last)) part)

  pub noted_colon : Gives a b at → Gives b c place → GivesFront c d colon → GivesFront a d noted
  noted_colon first second part =
      front_behind a b d at (place ++ (colon ++ (kind ++ last))) first (front_behind b c d place (colon ++ (kind ++ last)) second (front_before c d colon (kind ++ last) part))

  behind_kind : Gives a b at → Gives b c place → Gives c d colon → GivesFront d f (kind ++ last) → GivesFront a f noted
  behind_kind first second third part =
      front_behind a b f at (place ++ (colon ++ (kind ++ last))) first (front_behind b c f place (colon ++ (kind ++ last)) second (front_behind c d f colon (kind ++ last) third part))

  pub noted_kind : Gives a b at → Gives b c place → Gives c d colon → GivesFront d f kind → GivesFront a f noted
  noted_kind first second third part = behind_kind first second third (front_before d f kind last part)

  pub noted_last : Gives a b at → Gives b c place → Gives c d colon → Gives d e kind → GivesFront e f last → GivesFront a f noted
  noted_last first second third fourth part = behind_kind first second third (front_behind d e f kind last fourth part)

  pub noted_whole : Gives a b at → Gives b c place → Gives c d colon → Gives d e kind → Gives e f last → Gives a f noted
  noted_whole first second third fourth fifth =
      gives_append a b f at (place ++ (colon ++ (kind ++ last))) first
      (gives_append b c f place (colon ++ (kind ++ last)) second (gives_append c d f colon (kind ++ last) third (gives_append d e f kind last fourth fifth)))

-- a fact that holds anyway, and one that follows from another
pub on_err : {A E : Type 0} (r : Result A E) (P : Type 0) → P → OnErr r P
on_err (Ok a) P p = tt
on_err (Err e) P p = p

pub on_err_then : {A E : Type 0} (r : Result A E) (P Q : Type 0) → (P → Q) → OnErr r P → OnErr r Q
on_err_then (Ok a) P Q next p = tt
on_err_then (Err e) P Q next p = next p

pub on_ok_then : {A E : Type 0} (r : Result A E) (P Q : Type 0) → (P → Q) → OnOk r P → OnOk r Q
on_ok_then (Ok a) P Q next p = next p
on_ok_then (Err e) P Q next p = tt

pub on_ok_both : {A E : Type 0} (r : Result A E) (P Q R : Type 0) → (P → Q → R) → OnOk r P → OnOk r Q → OnOk r R
on_ok_both (Ok a) P Q R next p q = next p q
on_ok_both (Err e) P Q R next p q = tt

pub on_ok : {A E : Type 0} (r : Result A E) (P : Type 0) → P → OnOk r P
on_ok (Ok a) P p = p
on_ok (Err e) P p = tt

-- why a call stops doesn't depend on what it would have answered
pub stopped_so : {A B : Type 0} (e f : Stop) → IsErrOf {T = A} (Err e) f → IsErrOf {T = B} (Err e) f
stopped_so e f failed = let same : e ≡ f = cc in ap Err same

-- the outcome names the fault that stopped it
pub outcome_so : {A : Type 0} (e f : Stop) → Stopped e ≡ Stopped f → IsErrOf {T = A} (Err e) f
outcome_so e f same = let is : e ≡ f = cc in ap Err is

pub if_ok_then : {A E : Type 0} (r : Result A E) (P Q : A → Type 0) → ((a : A) → P a → Q a) → IfOk r P → IfOk r Q
if_ok_then (Ok a) P Q next p = next a p
if_ok_then (Err e) P Q next p = tt

pub if_ok_with : {A E : Type 0} (r : Result A E) (C : Type 0) (P Q : A → Type 0) → ((a : A) → C → P a → Q a) → OnOk r C → IfOk r P → IfOk r Q
if_ok_with (Ok a) C P Q next fact p = next a fact p
if_ok_with (Err e) C P Q next fact p = tt

pub if_ok_both : {A E : Type 0} (r : Result A E) (C : Type 0) (P Q : A → Type 0) → ((a : A) → C → P a → Q a) → OnOk r C → IfOk r P → IfOk r Q
if_ok_both (Ok a) C P Q next fact p = next a fact p
if_ok_both (Err e) C P Q next fact p = tt

-- ---- messages

pub flat_map-push : (messages : List Said) (m : Said) → flat_map text_of (messages ++ m ∷ []) ≡ flat_map text_of messages ++ text_of m
flat_map-push [] m = append-nil (text_of m)
flat_map-push (first ∷ messages) m = ap (λ r. text_of first ++ r) (flat_map-push messages m) ∙ sym (append_assoc (text_of first) (flat_map text_of messages) (text_of m))

-- ---- a core that writes

pub flushes_start : (core : Core) (given : Option (List ℕ)) → Flushes core core given given
flushes_start core given = record { messages = []; all = refl; stands = λ order stands. stands; put = gives_nothing given }

module _ (b c d : Core) (f g h : Option (List ℕ)) (m : Said) (so : Flushes b c f g) (next_is : said_out c ≡ m ∷ said_out d) where
  one_more : said_out b ≡ (so.messages ++ m ∷ []) ++ said_out d
  one_more = so.all ∙ (ap (λ rest. so.messages ++ rest) next_is ∙ sym (append_assoc so.messages (m ∷ []) (said_out d)))

  -- one more message was written
  pub flushes_more : ((order : List Event) → StandsFor c order → StandsFor d (write m ∷ order)) → Gives g h (text_of m) → Flushes b d f h
  flushes_more next put =
      record {
        messages = so.messages ++ m ∷ [];
        all = one_more;
        stands = λ order stands. subst (λ behind. StandsFor d behind) (sym (onto-push so.messages m order)) (next (onto so.messages order) (so.stands order stands));
        put = subst (λ bytes. Gives f h bytes) (sym (flat_map-push so.messages m)) (gives_append f g h (flat_map text_of so.messages) (text_of m) so.put put);
      }

  -- a message was written in part
  halts_inside : IsFramed m → GivesFront g h (text_of m) → Halts b f h
  halts_inside framed put =
      record {
        messages = so.messages;
        unwritten = said_out c;
        all = so.all;
        tail = put.front;
        well = λ order stands. stood_well c (onto so.messages order) (so.stands order stands);
        put = gives_append f g h (flat_map text_of so.messages) put.front so.put put.given;
        cut = λ _. record { message = m; framed = framed; rest = put.rest; more = put.more; whole = put.whole };
      }

  -- a message was not written
  halts_before : h ≡ g → Halts b f h
  halts_before same =
      record {
        messages = so.messages;
        unwritten = said_out c;
        all = so.all;
        tail = [];
        well = λ order stands. stood_well c (onto so.messages order) (so.stands order stands);
        put = subst (λ last. Gives f last (flat_map text_of so.messages ++ [])) (sym same) (subst (λ bytes. Gives f g bytes) (sym (append-nil (flat_map text_of so.messages))) so.put);
        cut = λ some. absurd (some refl);
      }

  -- whatever became of a message that wasn't written
  pub halts_by : (stop : Stop) → IsFramed m → Sends g h (text_of m) (Err stop) → Halts b f h
  halts_by Sink framed sends = halts_inside framed sends
  halts_by NoMemory framed sends = halts_before sends

-- all was written
pub flushes_end : (b c d : Core) (f g : Option (List ℕ)) → Flushes b c f g → IsQuiet c → IsQuiet d → ((order : List Event) → StandsFor c order → StandsFor d order) → Flushes b d f g
flushes_end b c d f g so quiet still keeps =
    record {
      messages = so.messages;
      all = so.all ∙ ap (λ rest. so.messages ++ rest) (ap (map outgoing_said) quiet ∙ sym (ap (map outgoing_said) still));
      stands = λ order stands. keeps (onto so.messages order) (so.stands order stands);
      put = so.put;
    }

-- ---- events

-- of what is such, each part is
all_front : (Such : Said → Type 0) (xs ys : List Said) → All Such (xs ++ ys) → All Such xs
all_front Such [] ys all = All-nil Such
all_front Such (x ∷ xs) ys all = All-cons Such x xs (All-head Such x (xs ++ ys) all) (all_front Such xs ys (All-tail Such x (xs ++ ys) all))

any_all : (messages : List Said) → All IsAny messages
any_all [] = All-nil IsAny
any_all (m ∷ messages) = All-cons IsAny m messages tt (any_all messages)

module _ (Such : Said → Type 0) (c d e : Core) (f g : Option (List ℕ)) (event : Event) (such : All Such (said_out d)) (next : (order : List Event) → StandsFor c order → StandsFor d (event ∷ order)) where
  pub acts_by : Flushes d e f g → ActsThrough Such c e event f g
  acts_by so =
      record {
        messages = so.messages;
        such = all_front Such so.messages (said_out e) (subst (All Such) so.all such);
        stands = λ order stands. so.stands (event ∷ order) (next order stands);
        put = so.put;
      }

  pub halts_at : Halts d f g → HaltsAt Such c event f g
  halts_at so =
      record {
        messages = so.messages;
        such = all_front Such so.messages so.unwritten (subst (All Such) so.all such);
        tail = so.tail;
        well = λ order stands. so.well (event ∷ order) (next order stands);
        put = so.put;
        cut = so.cut;
      }

-- the core found no memory at the event
pub halts_lost : (Such : Said → Type 0) (c d : Core) (given : Option (List ℕ)) (event : Event) → ((order : List Event) → StandsFor c order → StandsFor d (event ∷ order)) → HaltsAt Such c event given given
halts_lost Such c d given event next =
    record {
      messages = [];
      such = All-nil Such;
      tail = [];
      well = λ order stands. stood_well d (event ∷ order) (next order stands);
      put = gives_nothing given;
      cut = λ some. absurd (some refl);
    }

-- ---- steps

module _ (Such : Said → Type 0) (c : Core) (event : Event) (bodies : List (List ℕ)) (end : Option InputEnd) (a b : Told) (no_write : writes_of (event ∷ []) ≡ []) (takes : takes_of (event ∷ []) ≡ bodies)
    (ended : end_of (event ∷ []) ≡ end) (hands : Hands a.handed b.handed (hands_of (event ∷ []))) (failures : RoseBy (failures_of (event ∷ [])) a.faults b.faults) where
  writes_such : (messages : List Said) → All Such messages → All Such (writes_of (onto messages (event ∷ [])))
  writes_such messages such = subst (All Such) (sym (writes_of-onto messages (event ∷ []) ∙ ap (λ w. w ++ messages) no_write)) such

  steps_by : (d : Core) → ActsThrough Such c d event a.given b.given → GoesThrough Such c d bodies end a b
  steps_by d acts =
      record {
        events = onto acts.messages (event ∷ []);
        stands = λ order stands. subst (λ behind. StandsFor d behind) (sym (onto-append acts.messages (event ∷ []) order)) (acts.stands order stands);
        takes = takes_of-onto acts.messages (event ∷ []) ∙ takes;
        ended = end_of-onto acts.messages (event ∷ []) ∙ ended;
        such = writes_such acts.messages acts.such;
        tells = tells_onto event acts.messages [] a b no_write hands failures (subst (λ bytes. Gives a.given b.given bytes) (sym (append-nil (flat_map text_of acts.messages))) acts.put);
      }

  stops_by : HaltsAt Such c event a.given b.given → Stops Such c bodies end a b
  stops_by halts =
      record {
        events = onto halts.messages (event ∷ []);
        well = λ order stands. subst (λ behind. GoesWell behind) (sym (onto-append halts.messages (event ∷ []) order)) (halts.well order stands);
        takes = takes_of-onto halts.messages (event ∷ []) ∙ takes;
        ended = end_of-onto halts.messages (event ∷ []) ∙ ended;
        such = writes_such halts.messages halts.such;
        tail = halts.tail;
        tells = tells_onto event halts.messages halts.tail a b no_write hands failures halts.put;
        cut = halts.cut;
      }

-- a body was taken, and the tree wasn't asked
module _ (Such : Said → Type 0) (c : Core) (body : List ℕ) (handed : Option (List Entries)) (faults : ℕ) (given next : Option (List ℕ)) where
  pub steps_take : (d : Core) → ActsThrough Such c d (takes_body body) given next → GoesThrough Such c d (body ∷ []) None (told given handed faults) (told next handed faults)
  steps_take d acts = steps_by Such c (takes_body body) (body ∷ []) None (told given handed faults) (told next handed faults) refl refl refl (hands_nothing handed) (unasked faults) d acts

  pub stops_take : HaltsAt Such c (takes_body body) given next → Stops Such c (body ∷ []) None (told given handed faults) (told next handed faults)
  stops_take halts = stops_by Such c (takes_body body) (body ∷ []) None (told given handed faults) (told next handed faults) refl refl refl (hands_nothing handed) (unasked faults) halts

-- the input ended, and the tree wasn't asked
module _ (Such : Said → Type 0) (c : Core) (how : InputEnd) (handed : Option (List Entries)) (faults : ℕ) (given next : Option (List ℕ)) where
  pub steps_end : (d : Core) → ActsThrough Such c d (ends_so how) given next → GoesThrough Such c d [] (Some how) (told given handed faults) (told next handed faults)
  steps_end d acts = steps_by Such c (ends_so how) [] (Some how) (told given handed faults) (told next handed faults) refl refl refl (hands_nothing handed) (unasked faults) d acts

  pub stops_end : HaltsAt Such c (ends_so how) given next → Stops Such c [] (Some how) (told given handed faults) (told next handed faults)
  stops_end halts = stops_by Such c (ends_so how) [] (Some how) (told given handed faults) (told next handed faults) refl refl refl (hands_nothing handed) (unasked faults) halts

-- the tree was asked
module _ (Such : Said → Type 0) (c : Core) (got : Option Entries) (a b : Told) (hands : Hands a.handed b.handed (hands_of (hand got ∷ []))) (failures : RoseBy (failures_of (hand got ∷ [])) a.faults b.faults) where
  pub steps_hand : (d : Core) → ActsThrough Such c d (hand got) a.given b.given → GoesThrough Such c d [] None a b
  steps_hand d acts = steps_by Such c (hand got) [] None a b refl refl refl hands failures d acts

  pub stops_hand : HaltsAt Such c (hand got) a.given b.given → Stops Such c [] None a b
  stops_hand halts = stops_by Such c (hand got) [] None a b refl refl refl hands failures halts

-- messages were written of a core that keeps what another stood for
module _ (b c : Core) (given next : Option (List ℕ)) (keeps : (order : List Event) → StandsFor b order → StandsFor c order) (handed : Option (List Entries)) (faults : ℕ) where
  pub steps_flushed : (d : Core) → Flushes c d given next → GoesThrough IsAny b d [] None (told given handed faults) (told next handed faults)
  steps_flushed d so =
      record {
        events = onto so.messages [];
        stands = λ order stands. subst (λ behind. StandsFor d behind) (sym (onto-append so.messages [] order)) (so.stands order (keeps order stands));
        takes = takes_of-onto so.messages [];
        ended = end_of-onto so.messages [];
        such = any_all (writes_of (onto so.messages []));
        tells = tells_messages so.messages [] (told given handed faults) (told next handed faults) (hands_nothing handed) (unasked faults)
            (subst (λ bytes. Gives given next bytes) (sym (append-nil (flat_map text_of so.messages))) so.put);
      }

  pub stops_flushed : Halts c given next → Stops IsAny b [] None (told given handed faults) (told next handed faults)
  stops_flushed so =
      record {
        events = onto so.messages [];
        well = λ order stands. subst (λ behind. GoesWell behind) (sym (onto-append so.messages [] order)) (so.well order (keeps order stands));
        takes = takes_of-onto so.messages [];
        ended = end_of-onto so.messages [];
        such = any_all (writes_of (onto so.messages []));
        tail = so.tail;
        tells = tells_messages so.messages so.tail (told given handed faults) (told next handed faults) (hands_nothing handed) (unasked faults) so.put;
        cut = so.cut;
      }

-- whatever the tree tells, an outcome doesn't change it
module _ (b c : Core) (given next : Option (List ℕ)) (keeps : (order : List Event) → StandsFor b order → StandsFor c order) where
  pub outcome_steps : (d : Core) → Flushes c d given next → (handed : Option (List Entries)) (faults : ℕ) → GoesThrough IsAny b d [] None (told given handed faults) (told next handed faults)
  outcome_steps d so = λ handed faults. steps_flushed b c given next keeps handed faults d so

  pub outcome_stops : Halts c given next → (handed : Option (List Entries)) (faults : ℕ) → Stops IsAny b [] None (told given handed faults) (told next handed faults)
  outcome_stops so = λ handed faults. stops_flushed b c given next keeps handed faults so

-- nothing happened
pub steps_none : (Such : Said → Type 0) (c d : Core) (now : Told) → ((order : List Event) → StandsFor c order → StandsFor d order) → GoesThrough Such c d [] None now now
steps_none Such c d now keeps = record { events = []; stands = keeps; takes = refl; ended = refl; such = All-nil Such; tells = tells_nothing now }

-- the core found no memory
pub stops_lost : (Such : Said → Type 0) (c d : Core) (now : Told) → ((order : List Event) → StandsFor c order → StandsFor d order) → Stops Such c [] None now now
stops_lost Such c d now keeps =
    record { events = []; well = λ order stands. stood_well d order (keeps order stands); takes = refl; ended = refl; such = All-nil Such; tail = []; tells = tells_nothing now; cut = λ some. absurd (some refl) }

-- what the core keeps of an order it kept before
module _ (Such : Said → Type 0) (b c : Core) (bodies : List (List ℕ)) (end : Option InputEnd) (old new : Told) (keeps : (order : List Event) → StandsFor b order → StandsFor c order) where
  pub steps_kept : (d : Core) → GoesThrough Such c d bodies end old new → GoesThrough Such b d bodies end old new
  steps_kept d steps =
      record { events = steps.events; stands = λ order stands. steps.stands order (keeps order stands); takes = steps.takes; ended = steps.ended; such = steps.such; tells = steps.tells }

  pub stops_kept : Stops Such c bodies end old new → Stops Such b bodies end old new
  stops_kept stops =
      record { events = stops.events; well = λ order stands. stops.well order (keeps order stands); takes = stops.takes; ended = stops.ended; such = stops.such; tail = stops.tail; tells = stops.tells; cut = stops.cut }

-- what is bare is any message
steps_any : (Such : Said → Type 0) (c d : Core) (bodies : List (List ℕ)) (end : Option InputEnd) (old new : Told) → GoesThrough Such c d bodies end old new → GoesThrough IsAny c d bodies end old new
steps_any Such c d bodies end old new steps =
    record { events = steps.events; stands = steps.stands; takes = steps.takes; ended = steps.ended; such = any_all (writes_of steps.events); tells = steps.tells }

stops_any : (Such : Said → Type 0) (c : Core) (bodies : List (List ℕ)) (end : Option InputEnd) (old new : Told) → Stops Such c bodies end old new → Stops IsAny c bodies end old new
stops_any Such c bodies end old new stops =
    record { events = stops.events; well = stops.well; takes = stops.takes; ended = stops.ended; such = any_all (writes_of stops.events); tail = stops.tail; tells = stops.tells; cut = stops.cut }

-- steps, and others that take no body and find no end
module _ (Such : Said → Type 0) (b c : Core) (bodies : List (List ℕ)) (end : Option InputEnd) (x y z : Told) (so : GoesThrough Such b c bodies end x y) where
  joined_takes : (later : List Event) → takes_of later ≡ [] → takes_of (later ++ so.events) ≡ bodies
  joined_takes later none = takes_of-append later so.events ∙ (ap (λ more. takes_of so.events ++ more) none ∙ (append-nil (takes_of so.events) ∙ so.takes))

  joined_such : (later : List Event) → All Such (writes_of later) → All Such (writes_of (later ++ so.events))
  joined_such later such = subst (All Such) (sym (writes_of-append later so.events)) (All-append Such (writes_of so.events) (writes_of later) so.such such)

  pub steps_then : (d : Core) → GoesThrough Such c d [] None y z → GoesThrough Such b d bodies end x z
  steps_then d next =
      record {
        events = next.events ++ so.events;
        stands = λ order stands. subst (λ behind. StandsFor d behind) (sym (append_assoc next.events so.events order)) (next.stands (so.events ++ order) (so.stands order stands));
        takes = joined_takes next.events next.takes;
        ended = end_of-append next.events so.events next.ended ∙ so.ended;
        such = joined_such next.events next.such;
        tells = tells_append so.events next.events [] x y z so.tells next.tells;
      }

  pub stops_then : Stops Such c [] None y z → Stops Such b bodies end x z
  stops_then next =
      record {
        events = next.events ++ so.events;
        well = λ order stands. subst (λ behind. GoesWell behind) (sym (append_assoc next.events so.events order)) (next.well (so.events ++ order) (so.stands order stands));
        takes = joined_takes next.events next.takes;
        ended = end_of-append next.events so.events next.ended ∙ so.ended;
        such = joined_such next.events next.such;
        tail = next.tail;
        tells = tells_append so.events next.events next.tail x y z so.tells next.tells;
        cut = next.cut;
      }

  -- the session stops behind them
  pub stops_behind : (d : Core) → ((order : List Event) → StandsFor c order → StandsFor d order) → Stops Such b bodies end x y
  stops_behind d keeps =
      record {
        events = so.events;
        well = λ order stands. stood_well d (so.events ++ order) (keeps (so.events ++ order) (so.stands order stands));
        takes = so.takes;
        ended = so.ended;
        such = so.such;
        tail = [];
        tells = so.tells;
        cut = λ some. absurd (some refl);
      }

-- any messages, and then such that take no body and find no end
module _ (Such : Said → Type 0) (b c d : Core) (x y z : Told) (so : GoesThrough IsAny b c [] None x y) where
  pub any_behind : GoesThrough Such c d [] None y z → GoesThrough IsAny b d [] None x z
  any_behind next = steps_then IsAny b c [] None x y z so d (steps_any Such c d [] None y z next)

pub any_stops_behind : (Such : Said → Type 0) (b c : Core) (x y z : Told) → GoesThrough IsAny b c [] None x y → Stops Such c [] None y z → Stops IsAny b [] None x z
any_stops_behind Such b c x y z so next = stops_then IsAny b c [] None x y z so (stops_any Such c [] None y z next)
