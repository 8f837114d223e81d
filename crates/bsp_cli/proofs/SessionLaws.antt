-- How a session ends.
use Rattle.std.proofs.Common.{◌≡◌, ◌≢◌, ◌⊎◌, inl, inr, ◌<◌, ◌+◌, ◌++◌, ◌≤◌, ◌==◌, ℕ, suc, Bool, true, false, List, [], ◌∷◌, length, take, Option, Some, None, IfSome, refl, sym, ap, ◌∙◌, subst, lit≤, arith, append-nil, length-append}
use Rattle.std.proofs.lemmas.Bool.Decides.{nat_tests}
use Rattle.bsp_edge.specs.Course.{Course}
use Rattle.bsp_edge.specs.Faults.{Rose}
use Rattle.rpc_frame.specs.Frames.{HasNoFrame, FramesTo, Frames, Waiting}
use Rattle.rpc_frame.specs.Limits.{stream_limit}
use Rattle.rpc_frame.specs.declared.damage.Damage.{Damage}
use Rattle.rpc_frame.specs.Damages.{DamageAt, HasDamage}
use Rattle.rpc_frame.proofs.DamageLaws.{damage_behind}
use Rattle.rpc_frame.proofs.FrameLaws.{frames_apart, nil_no_frame, broken_rest, broken_not_sound, sound_behind, sound_front}
use Rattle.session_law.specs.declared.InputEnd.{InputEnd}
use Rattle.session_law.specs.declared.InputEnd.TheVariants as input_end
use Rattle.session_law.specs.Order.{Event, end_of, takes_of}
use Rattle.session_law.specs.Past.{end_status, status_after}
use Rattle.bsp_cli.proofs.EndLaws.{exit_within, status_ended}
use Rattle.session_law.specs.Verdicts.{IsBare}
use Rattle.session_core.specs.Standing.{StandsFor}
use Rattle.session_core.specs.declared.session.Core.{Core}
use Rattle.session_core.proofs.AtRest.{ended_settled, status_is, stood_lawful}
use Rattle.bsp_cli.specs.Progress.{EndsHere, IsMet, Progress, Stopped, StoppedAt, EndsBy, HasRunOut, Finishes, ended, halted, HasEnded, fed}
use Rattle.bsp_cli.specs.Session.{Change, CrewChange, FailedInLast, FoundNoMore, InputChange, TreeChange, EndsFor, HasNoMore, IsDamage, Session, changed, crew_changed, input_changed, tree_changed}
use Rattle.bsp_cli.specs.Patience.{PatientAtEnd}
use Rattle.bsp_cli.specs.Offsets.{EndsInLast, WhereTold}
use Rattle.bsp_cli.specs.Served.{Serves}
use Rattle.bsp_cli.specs.Outside.{Heard, Told}
use Rattle.bsp_cli.specs.Writing.{GoesThrough, Stops}
use Rattle.bsp_cli.specs.Outcomes.{how_of, status_by}
use Rattle.bsp_cli.specs.declared.outcome.Ending.{Ending}
use Rattle.bsp_cli.specs.declared.outcome.Ending.TheVariants.{Border, Damaged, Failed}
use Rattle.bsp_cli.specs.declared.outcome.Outcome.{Outcome}
use Rattle.bsp_cli.specs.declared.outcome.Outcome.TheVariants.{Exited, InputEnded}
use Rattle.bsp_cli.specs.declared.outcome.Outcome.TheVariants as ended_by
use Rattle.bsp_cli.specs.declared.stop.Stop.{Stop}
use Rattle.bsp_cli.specs.declared.stop.Stop.TheVariants.{Sink, NoMemory}
use Rattle.bsp_edge.proofs.StreamLaws.{takes_nothing}
use Rattle.bsp_cli.proofs.EventLaws.{end_of-ended, takes_of-append, tells_append, tells_nothing}
use Rattle.bsp_cli.proofs.HeardLaws.{end_course_on, patient_course, patient_course_on, prompt_course, prompt_course_on, starts_course}

-- ---- the frames through the last that was acted on

take_front : (front rest : List ℕ) → take (length front) (front ++ rest) ≡ front
take_front [] rest = refl
take_front (b ∷ front) rest = ap (λ more. b ∷ more) (take_front front rest)

front_taken : (front rest bytes : List ℕ) (n : ℕ) → bytes ≡ front ++ rest → length bytes ≡ n + length rest → take n bytes ≡ front
front_taken front rest bytes n whole count =
    let same : n ≡ length front = omega (arith, ap length whole, length-append front rest) in
    rw (whole, same) (take_front front rest)

all_taken : (bytes : List ℕ) → take (length bytes) bytes ≡ bytes
all_taken [] = refl
all_taken (b ∷ bytes) = ap (λ rest. b ∷ rest) (all_taken bytes)

-- the bytes through the last frame acted on are frames and nothing more
taken_frames : (read : List ℕ) (bodies : List (List ℕ)) (rest : List ℕ) (n : ℕ) → FramesTo read bodies rest → length read ≡ n + length rest → Frames (take n read) bodies []
taken_frames read bodies rest n frames count =
    let parts = frames_apart read bodies rest frames in
    record { frames = rw (front_taken parts.front rest read n parts.whole count) parts.frames; none = nil_no_frame }

status_small : (how : InputEnd) → end_status how ≤ 3
status_small input_end.Border = lit≤ tt
status_small input_end.Damaged = lit≤ tt
status_small input_end.Failed = lit≤ tt

-- the status of an exit
pub exit_is : (closed : Bool) (status : ℕ) → closed ≡ (status == 0) → status ≤ 1 → status_by (Exited closed) ≡ status
exit_is true status same low = grind (arith, nat_tests)
exit_is false status same low = grind (arith, nat_tests)

-- the status of an end of the input
ended_is : (ending : Ending) → status_by (InputEnded ending) ≡ end_status (how_of ending)
ended_is Border = refl
ended_is (Damaged damage) = refl
ended_is Failed = refl

ended_low : (ending : Ending) → status_by (InputEnded ending) ≤ 3
ended_low Border = lit≤ tt
ended_low (Damaged damage) = lit≤ tt
ended_low Failed = lit≤ tt

stopped_high : (stop : Stop) → 4 ≤ status_by (ended_by.Stopped stop)
stopped_high Sink = lit≤ tt
stopped_high NoMemory = lit≤ tt

stopped_within : (stop : Stop) → status_by (ended_by.Stopped stop) ≤ 5
stopped_within Sink = lit≤ tt
stopped_within NoMemory = lit≤ tt

-- the damage of an end
abbrev pub damage_of : Ending → Option Damage
damage_of Border = None
damage_of (Damaged damage) = Some damage
damage_of Failed = None

told_damage : (ending : Ending) (found : Damage) → InputEnded ending ≡ InputEnded (Damaged found) → damage_of ending ≡ Some found
told_damage Border found same = absurd (cc)
told_damage (Damaged damage) found same = cc
told_damage Failed found same = absurd (cc)

-- the input wasn't found to have ended
no_end : (end : Option InputEnd) → end ≡ None → (end ≡ Some input_end.Border) ⊎ (end ≡ Some input_end.Damaged) → ⊥
no_end end none (inl border) = cc
no_end end none (inr damaged) = cc

-- where the input was found to have ended, the session took no exit
some_end : {how : InputEnd} {end : Option InputEnd} → end ≡ Some how → end ≡ None → ⊥
some_end found none = cc

-- the status 4 is that of a sink that failed
stopped_sink : {P : Type 0} (stop : Stop) → (stop ≡ Sink → P) → status_by (ended_by.Stopped stop) ≡ 4 → P
stopped_sink Sink fact four = fact refl
stopped_sink NoMemory fact four = absurd (omega arith)

-- ---- why the input ended

has_more : (stream : Waiting) (input : InputChange) (read : List ℕ) → length read ≡ fed stream → HasRunOut stream input.new → HasNoMore input read
has_more stream input read count (inl dry) = inl dry
has_more stream input read count (inr limit) = inr (count ∙ limit)

-- the damage that ends an input lies in the last piece that was read
abbrev TellsLast : Ending → Waiting → Option Course → Option Course → Type 0
TellsLast ending stream course0 course = (damage : Damage) → ending ≡ Damaged damage → HasDamage stream damage → WhereTold (EndsInLast (suc damage.place)) course0 course

-- the damage of the bytes that wait is that of all bytes read
read_damage : (read : List ℕ) (bodies : List (List ℕ)) (rest : List ℕ) (given_end place : ℕ) (damage : Damage) → FramesTo read bodies rest → length read ≡ given_end + length rest
    → damage.place ≡ given_end + place → DamageAt rest place damage.kind → DamageAt read damage.place damage.kind
read_damage read bodies rest given_end place damage frames count counted at =
    let parts = frames_apart read bodies rest frames in
    let there : DamageAt (parts.front ++ rest) (length parts.front + place) damage.kind = damage_behind parts.front bodies rest place damage.kind parts.frames at in
    let same : damage.place ≡ length parts.front + place = omega (arith, counted, count, ap length parts.whole, length-append parts.front rest) in
    rw (parts.whole, same) there

is_damage : (damage : Damage) (stream : Waiting) (input : InputChange) (read : List ℕ) (bodies : List (List ℕ)) → FramesTo read bodies stream.bytes → length read ≡ fed stream
    → (HasDamage stream damage → WhereTold (EndsInLast (suc damage.place)) input.course_old input.course_new) → EndsBy (Damaged damage) stream input.new input.faults_old input.faults_new
    → IsDamage (Some damage) input read stream.bytes
is_damage damage stream input read bodies frames count last (inl has) =
    inl (record { at = read_damage read bodies stream.bytes stream.given_end has.place damage frames count has.counted has.at; last = last has })
is_damage damage stream input read bodies frames count last (inr inside) =
    inr (record { sound = sound_front read bodies stream.bytes frames inside.sound; kind = inside.kind; place = inside.place ∙ sym count; inside = inside.inside; no_more = has_more stream input read count inside.out })

ends_for : (ending : Ending) (stream : Waiting) (input : InputChange) (read : List ℕ) (bodies : List (List ℕ)) → FramesTo read bodies stream.bytes → length read ≡ fed stream
    → TellsLast ending stream input.course_old input.course_new → EndsBy ending stream input.new input.faults_old input.faults_new → EndsFor (Some (how_of ending)) (damage_of ending) input read stream.bytes
ends_for Border stream input read bodies frames count last cause = (cause.0, has_more stream input read count cause.1)
ends_for (Damaged damage) stream input read bodies frames count last cause = is_damage damage stream input read bodies frames count (last damage refl) cause
ends_for Failed stream input read bodies frames count last cause =
    (λ broken. broken_not_sound stream.bytes (broken_rest read bodies stream.bytes frames broken) cause.0, cause.1)

-- ---- the three ways

-- a tree and an output between two moments
abbrev files : Told → Told → TreeChange
files start now = tree_changed start.handed now.handed start.faults now.faults

abbrev written : Told → Told → ℕ → ℕ → Change
written start now faults_old faults_new = changed start.given now.given faults_old faults_new

abbrev crews : Heard → Heard → CrewChange
crews from to = crew_changed from.collected to.collected

module _ (from to : Heard) (start now : Told) (in_old in_new out_old out_new : ℕ) where
  abbrev input : InputChange
  input = input_changed from.left to.left from.course to.course in_old in_new

  session_exits : (core : Core) (stream : Waiting) (status : ℕ) → status ≤ 3 → (so : Progress core stream from to start now) → HasEnded core (Some status)
      → WhereTold (EndsInLast stream.given_end) from.course to.course → Session so.order so.read input (files start now) (written start now out_old out_new) status stream.given_end None
  session_exits core stream status low so end last =
      record {
        lawful = stood_lawful core so.order so.stands;
        rests = so.stands.rests;
        consumed = so.consumed;
        within = omega (arith, so.count);
        rest = [];
        frames = taken_frames so.read (takes_of so.order) stream.bytes stream.given_end so.frames so.count;
        counts = rw so.unended refl;
        ends_for = rw so.unended tt;
        in_last = λ _ _. last;
        failed_in_last = λ four. absurd (omega (arith, four, low));
        hands = so.tells.hands;
        failures = so.tells.failures;
        tail = [];
        put = so.tells.put;
        cut = λ some. absurd (some refl);
        whole = λ _. refl;
        settled = λ _. ended_settled core so.order status end.met.quiet end.met.alive end.met.settled end.status_is so.stands;
        agrees = λ _. status_is core so.order end.met.quiet end.met.alive so.stands ∙ end.status_is;
        no_other = omega arith;
      }

  -- the session took an exit
  pub serves_exit : (core : Core) (stream : Waiting) (status : ℕ) (closed : Bool) → closed ≡ (status == 0) → Progress core stream from to start now → HasEnded core (Some status)
      → WhereTold (EndsInLast stream.given_end) from.course to.course → Serves input (files start now) (written start now out_old out_new) (crews from to) (Exited closed) stream.given_end
  serves_exit core stream status closed is_closed so end last =
      let is = status_is core so.order end.met.quiet end.met.alive so.stands ∙ end.status_is in
      let low : status ≤ 1 = subst (λ found. IfSome found (λ n. n ≤ 1)) is (exit_within so.order so.unended) in
      let same : status_by (Exited closed) ≡ status = exit_is closed status is_closed low in
      record {
        damage = None;
        order = so.order;
        read = so.read;
        session = rw same (session_exits core stream status (omega arith) so end last);
        patient = patient_course so.order so.read from to so.course;
        at_end = λ found. absurd (no_end (end_of so.order) so.unended found.ended);
        prompt = prompt_course so.order so.read from to so.course;
        told = λ found other. absurd (cc);
        sink = λ four. absurd (omega (arith, same));
      }

  session_stops : (given_end status : ℕ) → 4 ≤ status → status ≤ 5 → (so : Stopped given_end from to start now)
      → (status ≡ 4 → WhereTold (FailedInLast so.order so.read given_end) from.course to.course)
      → Session so.order so.read input (files start now) (written start now out_old out_new) status given_end None
  session_stops given_end status low high so last =
      record {
        lawful = so.well.lawful;
        rests = so.well.rests;
        consumed = so.consumed;
        within = omega (arith, so.count);
        rest = [];
        frames = taken_frames so.read (takes_of so.order) so.waiting given_end so.frames so.count;
        counts = rw so.unended refl;
        ends_for = rw so.unended tt;
        in_last = λ small none. absurd (omega (arith, small, low));
        failed_in_last = λ four none. last four;
        hands = so.tells.hands;
        failures = so.tells.failures;
        tail = so.tail;
        put = so.tells.put;
        cut = so.cut;
        whole = λ small. absurd (omega arith);
        settled = λ small. absurd (omega arith);
        agrees = λ small. absurd (omega arith);
        no_other = high;
      }

  -- the session had to stop before an end of its input
  pub serves_stop : (Where : Type 0) (given_end : ℕ) (stop : Stop) → (stop ≡ Sink → Where) → (stop ≡ Sink → Rose out_old out_new) → StoppedAt Where given_end from to start now
      → Serves input (files start now) (written start now out_old out_new) (crews from to) (ended_by.Stopped stop) given_end
  serves_stop Where given_end stop failed rose here =
      let so = here.stopped in
      record {
        damage = None;
        order = so.order;
        read = so.read;
        session = session_stops given_end (status_by (ended_by.Stopped stop)) (stopped_high stop) (stopped_within stop) so (stopped_sink stop (λ same. here.at_last (failed same)));
        patient = so.patient;
        at_end = λ found. absurd (no_end (end_of so.order) so.unended found.ended);
        prompt = so.prompt;
        told = λ found other. absurd (cc);
        sink = stopped_sink stop rose;
      }

-- the input wasn't found to have ended where reading failed
not_failed : (end : Option InputEnd) (ending : Ending) → end ≡ Some (how_of ending) → (end ≡ Some input_end.Border) ⊎ (end ≡ Some input_end.Damaged) → ending ≢ Failed
not_failed end Border over found = λ failed. absurd cc
not_failed end (Damaged damage) over found = λ failed. absurd cc
not_failed end Failed over (inl border) = absurd cc
not_failed end Failed over (inr damaged) = absurd cc

module _ (from to : Heard) (start middle now : Told) (in_old in_new out_old out_new : ℕ) (c d : Core) (stream : Waiting) (ending : Ending)
    (here : EndsHere c stream ending from to start middle) (drained : HasNoFrame stream.bytes) (cause : EndsBy ending stream to.left in_old in_new) (last : TellsLast ending stream from.course to.course) where
  abbrev so : Progress c stream from to start middle
  so = here.progress

  abbrev come : InputChange
  come = input_changed from.left to.left from.course to.course in_old in_new

  ended_frames : (events : List Event) → takes_of events ≡ [] → Frames (take (fed stream) so.read) (takes_of (events ++ so.order)) stream.bytes
  ended_frames events none =
      let same : takes_of (events ++ so.order) ≡ takes_of so.order = takes_of-append events so.order ∙ (ap (λ more. takes_of so.order ++ more) none ∙ append-nil (takes_of so.order)) in
      record { frames = rw (same, ← so.count, all_taken so.read) so.frames; none = drained }

  ends_well : (steps : GoesThrough IsBare c d [] (Some (how_of ending)) middle now) → IsMet d
      → Session (steps.events ++ so.order) so.read come (files start now) (written start now out_old out_new) (status_by (InputEnded ending)) (fed stream) (damage_of ending)
  ends_well steps met =
      let order = steps.events ++ so.order in
      let stands = steps.stands so.order so.stands in
      let over = end_of-ended steps.events so.order (how_of ending) steps.ended in
      let low : status_by (InputEnded ending) ≤ 3 = ended_low ending in
      let is : status_after order ≡ Some (status_by (InputEnded ending)) = status_ended steps.events so.order (how_of ending) steps.takes steps.ended ∙ ap Some (sym (ended_is ending)) in
      let tells = tells_append so.order steps.events [] start middle now so.tells steps.tells in
      record {
        lawful = stood_lawful d order stands;
        rests = stands.rests;
        consumed = so.consumed;
        within = omega (arith, so.count);
        rest = stream.bytes;
        frames = ended_frames steps.events steps.takes;
        counts = rw over (sym so.count);
        ends_for = rw over (ends_for ending stream come so.read (takes_of so.order) so.frames so.count last cause);
        in_last = λ _ none. absurd (some_end over none);
        failed_in_last = λ four. absurd (omega (arith, four, low));
        hands = tells.hands;
        failures = tells.failures;
        tail = [];
        put = tells.put;
        cut = λ some. absurd (some refl);
        whole = λ _. refl;
        settled = λ _. ended_settled d order (status_by (InputEnded ending)) met.quiet met.alive met.settled (sym (status_is d order met.quiet met.alive stands) ∙ is) stands;
        agrees = λ _. is;
        no_other = omega arith;
      }

  ends_stopped : (status : ℕ) → 4 ≤ status → status ≤ 5 → (stops : Stops IsBare c [] (Some (how_of ending)) middle now)
      → Session (stops.events ++ so.order) so.read come (files start now) (written start now out_old out_new) status (fed stream) (damage_of ending)
  ends_stopped status low high stops =
      let over = end_of-ended stops.events so.order (how_of ending) stops.ended in
      let tells = tells_append so.order stops.events stops.tail start middle now so.tells stops.tells in
      record {
        lawful = (stops.well so.order so.stands).lawful;
        rests = (stops.well so.order so.stands).rests;
        consumed = so.consumed;
        within = omega (arith, so.count);
        rest = stream.bytes;
        frames = ended_frames stops.events stops.takes;
        counts = rw over (sym so.count);
        ends_for = rw over (ends_for ending stream come so.read (takes_of so.order) so.frames so.count last cause);
        in_last = λ small none. absurd (some_end over none);
        failed_in_last = λ four none. absurd (some_end over none);
        hands = tells.hands;
        failures = tells.failures;
        tail = stops.tail;
        put = tells.put;
        cut = stops.cut;
        whole = λ small. absurd (omega arith);
        settled = λ small. absurd (omega arith);
        agrees = λ small. absurd (omega arith);
        no_other = high;
      }

  -- where the input was found to have no more, no request was open
  found_idle : (events : List Event) → end_of events ≡ Some (how_of ending) → FoundNoMore (events ++ so.order) so.read → WhereTold (PatientAtEnd (events ++ so.order) so.read) from.course to.course
  found_idle events ends found =
      let over = end_of-ended events so.order (how_of ending) ends in
      let sound = sound_behind so.read (takes_of so.order) stream.bytes so.frames found.sound in
      let within : fed stream < stream_limit = omega (arith, so.count, found.within) in
      end_course_on events so.order so.read from to (here.at_end sound within (not_failed (end_of (events ++ so.order)) ending over found.ended))

  -- the session was told how its input ended
  pub serves_end : (outcome : Outcome) → (outcome ≡ ended_by.Stopped Sink → Rose out_old out_new) → Finishes c d ending middle now outcome
      → Serves come (files start now) (written start now out_old out_new) (crews from to) outcome (fed stream)
  serves_end outcome rose (ended steps met) =
      let low : status_by (InputEnded ending) ≤ 3 = ended_low ending in
      record {
        damage = damage_of ending;
        order = steps.events ++ so.order;
        read = so.read;
        session = ends_well steps met;
        patient = patient_course_on steps.events so.order so.read from to steps.such (patient_course so.order so.read from to so.course);
        at_end = found_idle steps.events steps.ended;
        prompt = prompt_course_on steps.events so.order so.read from to (prompt_course so.order so.read from to so.course);
        told = λ found same. told_damage ending found same;
        sink = λ four. absurd (omega arith);
      }
  serves_end outcome rose (halted stop stops) =
      record {
        damage = damage_of ending;
        order = stops.events ++ so.order;
        read = so.read;
        session = ends_stopped (status_by (ended_by.Stopped stop)) (stopped_high stop) (stopped_within stop) stops;
        patient = patient_course_on stops.events so.order so.read from to stops.such (patient_course so.order so.read from to so.course);
        at_end = found_idle stops.events stops.ended;
        prompt = prompt_course_on stops.events so.order so.read from to (prompt_course so.order so.read from to so.course);
        told = λ found other. absurd (cc);
        sink = stopped_sink stop (λ same. rose (ap ended_by.Stopped same));
      }

-- ---- at the start

pub starts : (core : Core) (stream : Waiting) (from : Heard) (now : Told) → StandsFor core [] → stream ≡ record { bytes = []; given_end = 0 } → Progress core stream from from now now
starts core stream from now stands new =
    rw new (record {
      order = [];
      stands = stands;
      unended = refl;
      read = [];
      consumed = takes_nothing from.left;
      frames = refl;
      count = refl;
      tells = tells_nothing now;
      course = starts_course from;
    })

-- nothing was read, asked or written, for want of memory
pub serves_nothing : (from : Heard) (now : Told) (in_faults out_faults : ℕ)
    → Serves (input_changed from.left from.left from.course from.course in_faults in_faults) (files now now) (written now now out_faults out_faults) (crews from from) (ended_by.Stopped NoMemory) 0
serves_nothing from now in_faults out_faults =
    serves_stop from from now now in_faults in_faults out_faults out_faults (⊥) 0 NoMemory (λ other. absurd (cc)) (λ other. absurd (cc)) (record {
      stopped = record {
        order = [];
        well = record { lawful = record { each = tt }; rests = tt };
        unended = refl;
        read = [];
        consumed = takes_nothing from.left;
        waiting = [];
        frames = refl;
        count = refl;
        tail = [];
        tells = tells_nothing now;
        cut = λ some. absurd (some refl);
        patient = patient_course [] [] from from (starts_course from);
        prompt = prompt_course [] [] from from (starts_course from);
      };
      at_last = λ failed. absurd failed;
    })

-- the cause of an end tells how the faults rose since the start
pub same_cause : (ending : Ending) (stream : Waiting) (left : Option (List ℕ)) (f g h : ℕ) → g ≡ f → EndsBy ending stream left g h → EndsBy ending stream left f h
same_cause ending stream left f g h same cause = subst (λ before. EndsBy ending stream left before h) same cause
