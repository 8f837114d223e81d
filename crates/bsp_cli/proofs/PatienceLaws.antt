-- How what a source tells of its course keeps to the order, event by event and piece by piece.
use Rattle.std.proofs.Common.{◌≡◌, ◌⊎◌, inl, inr, ◌++◌, ◌+◌, ◌-◌, ◌<◌, ◌≤◌, suc, zero, ℕ, List, [], ◌∷◌, length, get_or, set, take, All, Some, None, Contains, slice_get, refl, sym, ap, ◌∙◌, subst, arith, append_assoc, append-nil, length-append}
use Rattle.std.proofs.Math.Seq.{take-length}
use Rattle.std.proofs.lemmas.Bool.{cases_lt}
use Rattle.std.proofs.lemmas.List.{take-append-le}
use Rattle.std.proofs.lemmas.List.Elements.{All-cons, All-head, All-nil, All-tail}
use Rattle.bsp_edge.specs.Course.{Course, moved, UsesPoll}
use Rattle.bsp_edge.specs.Pieces.{HasNoPoll, PassesNoQuiet}
use Rattle.rpc_frame.specs.Frames.{Frames}
use Rattle.rpc_peer.specs.Said.{Said}
use Rattle.session_law.specs.Order.{Event, take as takes_body, ends, hand, write, takes_of, writes_of}
use Rattle.session_law.specs.Past.{after, status_after}
use Rattle.session_law.specs.Verdicts.{HasVerdict, IsBare}
use Rattle.bsp_cli.proofs.EventLaws.{takes_of-append}
use Rattle.bsp_cli.specs.Patience.{FellAt, FoundQuiet, NoneOpen, OwesNothingAtOnce, Patient, PatientAtEnd, Prompt, StoodAt, WaitsIdle, polls_left}
use Rattle.bsp_cli.specs.Progress.{SoFar, Stems}

either : {A B C : Type 0} → A ⊎ B → (A → C) → (B → C) → C
either (inl a) f g = f a
either (inr b) f g = g b

-- ---- where so many bytes were read

pub stood_on : (Holds : List Event → Type 0) (events order : List Event) (read : List ℕ) (count : ℕ) → StoodAt Holds order read count → StoodAt Holds (events ++ order) read count
stood_on Holds events order read count stood =
    record {
      later = events ++ stood.later;
      earlier = stood.earlier;
      parts = ap (λ o. events ++ o) stood.parts ∙ sym (append_assoc events stood.later stood.earlier);
      running = stood.running;
      rest = stood.rest;
      frames = stood.frames;
      holds = stood.holds;
    }

pub stood_more : (Holds : List Event → Type 0) (order : List Event) (read piece : List ℕ) (count : ℕ) → count ≤ length read → StoodAt Holds order read count → StoodAt Holds order (read ++ piece) count
stood_more Holds order read piece count short stood =
    record {
      later = stood.later;
      earlier = stood.earlier;
      parts = stood.parts;
      running = stood.running;
      rest = stood.rest;
      frames = subst (λ bytes. Frames bytes (takes_of stood.earlier) stood.rest) (sym (take-append-le count read piece short)) stood.frames;
      holds = stood.holds;
    }

-- where all was read that is read so far
pub stood_here : (Holds : List Event → Type 0) (order : List Event) (read rest : List ℕ) (count : ℕ) → count ≡ length read → Frames read (takes_of order) rest → status_after order ≡ None → Holds order → StoodAt Holds order read count
stood_here Holds order read rest count all frames running holds =
    record {
      later = [];
      earlier = order;
      parts = refl;
      running = running;
      rest = rest;
      frames = subst (λ bytes. Frames bytes (takes_of order) rest) (sym (ap (λ n. take n read) all ∙ take-length read)) frames;
      holds = holds;
    }

-- ---- verdicts

bare_front : (xs ys : List Said) → All IsBare (xs ++ ys) → All IsBare xs
bare_front [] ys all = All-nil IsBare
bare_front (x ∷ xs) ys all = All-cons IsBare x xs (All-head IsBare x (xs ++ ys) all) (bare_front xs ys (All-tail IsBare x (xs ++ ys) all))

bare_last : (xs : List Said) (m : Said) → All IsBare (xs ++ m ∷ []) → IsBare m
bare_last [] m all = All-head IsBare m [] all
bare_last (x ∷ xs) m all = bare_last xs m (All-tail IsBare x (xs ++ m ∷ []) all)

-- where no message is a verdict, each verdict was written before
bare_verdicts : (events order : List Event) (bodies : List (List ℕ)) → All IsBare (writes_of events) → HasVerdict (events ++ order) bodies → HasVerdict order bodies
bare_verdicts [] order bodies bare has = has
bare_verdicts (takes_body body ∷ events) order bodies bare has = bare_verdicts events order bodies bare has
bare_verdicts (ends how ∷ events) order bodies bare has = bare_verdicts events order bodies bare has
bare_verdicts (hand handed ∷ events) order bodies bare has = bare_verdicts events order bodies bare has
bare_verdicts (write m ∷ events) order bodies bare (inl here) = absurd (bare_last (writes_of events) m bare here.0)
bare_verdicts (write m ∷ events) order bodies bare (inr before) = bare_verdicts events order bodies (bare_front (writes_of events) (m ∷ []) bare) before

no_body : (xs : List (List ℕ)) (body : List ℕ) → xs ++ body ∷ [] ≡ [] → ⊥
no_body [] body none = absurd cc
no_body (x ∷ xs) body none = absurd cc

same_takes : (events order : List Event) → takes_of events ≡ [] → takes_of (events ++ order) ≡ takes_of order
same_takes events order none = takes_of-append events order ∙ (ap (λ more. takes_of order ++ more) none ∙ append-nil (takes_of order))

-- where no body is taken, each verdict was written before or stands behind the bodies so far
verdicts_here : (events order : List Event) (bodies : List (List ℕ)) → takes_of events ≡ [] → HasVerdict (events ++ order) bodies → HasVerdict order bodies ⊎ (takes_of order ≡ bodies)
verdicts_here [] order bodies none has = inl has
verdicts_here (takes_body body ∷ events) order bodies none has = absurd (no_body (takes_of events) body none)
verdicts_here (ends how ∷ events) order bodies none has = verdicts_here events order bodies none has
verdicts_here (hand handed ∷ events) order bodies none has = verdicts_here events order bodies none has
verdicts_here (write m ∷ events) order bodies none (inl here) = inr (sym (same_takes events order none) ∙ here.1)
verdicts_here (write m ∷ events) order bodies none (inr before) = verdicts_here events order bodies none before

-- ---- polls

pair_is : (x y : ℕ × ℕ) → Some x ≡ Some y → x ≡ y
pair_is x y same = grind arith

nothing_there : (x : ℕ × ℕ) → None ≡ Some x → ⊥
nothing_there x same = grind arith

get_set_same : (xs : List (ℕ × ℕ)) (i : ℕ) (x y : ℕ × ℕ) → slice_get xs i ≡ Some x → slice_get (set xs i y) i ≡ Some y
get_set_same [] i x y is = absurd (nothing_there _ is)
get_set_same (z ∷ xs) zero x y is = refl
get_set_same (z ∷ xs) (suc i) x y is = get_set_same xs i x y is

polls_set : (xs : List (ℕ × ℕ)) (i p a b : ℕ) → slice_get xs i ≡ Some (p, a) → polls_left (set xs i (p, b)) + a ≡ polls_left xs + b
polls_set [] i p a b is = absurd (nothing_there _ is)
polls_set (x ∷ xs) zero p a b is =
    let same : x.1 ≡ a = ap (λ q. q.1) (pair_is x (p, a) is) in
    omega (arith, same)
polls_set (x ∷ xs) (suc i) p a b is = omega (arith, polls_set xs i p a b is)

-- what a used poll leaves at each offset
used_at : (xs : List (ℕ × ℕ)) (i p a index offset before : ℕ) → slice_get xs i ≡ Some (p, a + 1) → slice_get xs index ≡ Some (offset, before)
    → (after : ℕ) × (slice_get (set xs i (p, a)) index ≡ Some (offset, after)) × (after ≤ before)
used_at [] i p a index offset before is was = absurd (nothing_there _ is)
used_at (x ∷ xs) zero p a zero offset before is was =
    let one = pair_is x (p, a + 1) is in
    let two = pair_is x (offset, before) was in
    let here : p ≡ offset = ap (λ q. q.0) (sym one ∙ two) in
    let less : a + 1 ≡ before = ap (λ q. q.1) (sym one ∙ two) in
    (a, ap (λ r. Some (r, a)) here, omega (arith, less))
used_at (x ∷ xs) zero p a (suc j) offset before is was = (before, was, omega arith)
used_at (x ∷ xs) (suc i) p a zero offset before is was = (before, was, omega arith)
used_at (x ∷ xs) (suc i) p a (suc j) offset before is was = used_at xs i p a j offset before is was

used_stems : (xs : List (ℕ × ℕ)) (i p a index offset after : ℕ) → slice_get xs i ≡ Some (p, a + 1) → slice_get (set xs i (p, a)) index ≡ Some (offset, after)
    → (before : ℕ) × (slice_get xs index ≡ Some (offset, before)) × (after ≤ before)
used_stems [] i p a index offset after is has = absurd (nothing_there _ is)
used_stems (x ∷ xs) zero p a zero offset after is has =
    let two = pair_is (p, a) (offset, after) has in
    let here : p ≡ offset = ap (λ q. q.0) two in
    let less : a ≡ after = ap (λ q. q.1) two in
    (a + 1, is ∙ ap (λ r. Some (r, a + 1)) here, omega (arith, less))
used_stems (x ∷ xs) zero p a (suc j) offset after is has = (after, has, omega arith)
used_stems (x ∷ xs) (suc i) p a zero offset after is has = (after, has, omega arith)
used_stems (x ∷ xs) (suc i) p a (suc j) offset after is has = used_stems xs i p a j offset after is has

stems_used : (xs ys : List (ℕ × ℕ)) (i p a : ℕ) → Stems xs ys → slice_get ys i ≡ Some (p, a + 1) → Stems xs (set ys i (p, a))
stems_used xs ys i p a stems is = λ index offset after has.
    let second = used_stems ys i p a index offset after is has in
    let first = stems index offset second.0 second.1 in
    (first.0, first.1, omega (arith, first.2, second.2))

used_from : (xs : List (ℕ × ℕ)) (i p a k : ℕ) (q : ℕ × ℕ) → slice_get xs i ≡ Some (p, a + 1) → k < length (set xs i (p, a)) → get_or (set xs i (p, a)) k q ≡ q
    → (r : ℕ × ℕ) × Contains xs r × (r.0 ≡ q.0) × (q.1 ≤ r.1)
used_from [] i p a k q is inside there = absurd (nothing_there _ is)
used_from (x ∷ xs) zero p a zero q is inside there =
    let one = pair_is x (p, a + 1) is in
    let here : x.0 ≡ p = ap (λ r. r.0) one in
    let more : x.1 ≡ a + 1 = ap (λ r. r.1) one in
    let offset : p ≡ q.0 = ap (λ r. r.0) there in
    let polls : a ≡ q.1 = ap (λ r. r.1) there in
    (x, (0, omega arith, refl), here ∙ offset, omega (arith, more, polls))
used_from (x ∷ xs) zero p a (suc k) q is inside there = (q, (suc k, inside, there), refl, omega arith)
used_from (x ∷ xs) (suc i) p a zero q is inside there = (q, (0, omega arith, there), refl, omega arith)
used_from (x ∷ xs) (suc i) p a (suc k) q is inside there =
    let r = used_from xs i p a k q is (omega (arith, inside)) there in
    (r.0, (suc r.1.0, omega (arith, r.1.1), r.1.2), r.2, r.3)

-- ---- at the start

pub begins : (start : Course) (collected : ℕ) → SoFar [] [] collected collected start start
begins start collected =
    record {
      at = omega arith;
      idle = λ quiet there polls from before. absurd (omega (arith, from, before));
      counted = refl;
      stems = λ index offset after has. (after, has, omega arith);
      verdicts = λ bodies has. absurd has;
      prompt = record { owed = λ some. absurd (omega (arith, some)) };
    }

-- ---- events

pub idle_on : (events order : List Event) (read : List ℕ) (start now : Course) (upto : ℕ) → WaitsIdle order read start now upto → WaitsIdle (events ++ order) read start now upto
idle_on events order read start now upto idle = λ quiet there polls from before.
    stood_on NoneOpen events order read (quiet.0 - start.offset) (idle quiet there polls from before)

pub prompt_on : (events order : List Event) (read : List ℕ) (start now : Course) → Prompt order read start now → Prompt (events ++ order) read start now
prompt_on events order read start now prompt =
    record { owed = λ some. stood_on OwesNothingAtOnce events order read (now.began - start.offset) (prompt.owed some) }

-- events in which no check finishes that was made
pub acts_so_far : (events order : List Event) (read : List ℕ) (m n : ℕ) (start now : Course) → All IsBare (writes_of events) → SoFar order read m n start now → SoFar (events ++ order) read m n start now
acts_so_far events order read m n start now bare so =
    record {
      at = so.at;
      idle = idle_on events order read start now now.offset so.idle;
      counted = so.counted;
      stems = so.stems;
      verdicts = λ bodies has. so.verdicts bodies (bare_verdicts events order bodies bare has);
      prompt = prompt_on events order read start now so.prompt;
    }

-- ---- a poll that was quiet, and an outcome

abbrev used : Course → ℕ → ℕ → Course
used now i a = record { offset = now.offset; began = now.began; polls = set now.polls i (now.offset, a) }

fell_on : (start now : Course) (read : List ℕ) (i a : ℕ) (bodies : List (List ℕ)) → slice_get now.polls i ≡ Some (now.offset, a + 1) → FellAt start now read bodies → FellAt start (used now i a) read bodies
fell_on start now read i a bodies had fell =
    let less = used_at now.polls i now.offset a fell.index fell.offset fell.after had fell.is_now in
    record {
      index = fell.index;
      offset = fell.offset;
      before = fell.before;
      after = less.0;
      was = fell.was;
      is_now = less.1;
      fell = omega (arith, fell.fell, less.2);
      behind = fell.behind;
      reached = fell.reached;
      rest = fell.rest;
      frames = fell.frames;
    }

module _ (events order : List Event) (read rest : List ℕ) (m n i a : ℕ) (start now : Course) (so : SoFar order read m n start now) (frames : Frames read (takes_of order) rest)
    (had : slice_get now.polls i ≡ Some (now.offset, a + 1)) (none : takes_of events ≡ []) where
  -- it fell where just the frames are whole that were taken
  fell_here : FellAt start (used now i a) read (takes_of order)
  fell_here =
      let stem = so.stems i now.offset (a + 1) had in
      let all : now.offset - start.offset ≡ length read = omega (arith, so.at) in
      record {
        index = i;
        offset = now.offset;
        before = stem.0;
        after = a;
        was = stem.1;
        is_now = get_set_same now.polls i (now.offset, a + 1) (now.offset, a) had;
        fell = omega (arith, stem.2);
        behind = omega (arith, so.at);
        reached = omega arith;
        rest = rest;
        frames = subst (λ bytes. Frames bytes (takes_of order) rest) (sym (ap (λ k. take k read) all ∙ take-length read)) frames;
      }

  used_idle : WaitsIdle (events ++ order) read start (used now i a) now.offset
  used_idle = λ quiet there polls from before.
      let r = used_from now.polls i now.offset a there.0 quiet had there.1 there.2 in
      let at_offset : r.0.0 ≡ quiet.0 = r.2 in
      let stood = so.idle r.0 r.1 (omega (arith, polls, r.3)) (omega (arith, from, at_offset)) (omega (arith, before, at_offset)) in
      stood_on NoneOpen events order read (quiet.0 - start.offset) (subst (λ offset. StoodAt NoneOpen order read (offset - start.offset)) at_offset stood)

  used_so_far : SoFar (events ++ order) read m (suc n) start (used now i a)
  used_so_far =
      record {
        at = so.at;
        idle = used_idle;
        counted = omega (arith, so.counted, polls_set now.polls i now.offset (a + 1) a had);
        stems = stems_used start.polls now.polls i now.offset a so.stems had;
        verdicts = λ bodies has.
            either (verdicts_here events order bodies none has) (λ old. fell_on start now read i a bodies had (so.verdicts bodies old))
            (λ same. subst (λ taken. FellAt start (used now i a) read taken) same fell_here);
        prompt = record { owed = λ some. stood_on OwesNothingAtOnce events order read (now.began - start.offset) (so.prompt.owed some) };
      }

pub quiet_so_far : (events order : List Event) (read rest : List ℕ) (m n : ℕ) (start now next : Course) → SoFar order read m n start now → Frames read (takes_of order) rest → takes_of events ≡ [] → UsesPoll now next
    → SoFar (events ++ order) read m (suc n) start next
quiet_so_far events order read rest m n start now next so frames none uses =
    subst (λ c. SoFar (events ++ order) read m (suc n) start c) (sym uses.has) (used_so_far events order read rest m n uses.index uses.after start now so frames uses.had none)

-- the input was found quiet here
pub found_quiet : (start now next : Course) → Stems start.polls now.polls → UsesPoll now next → FoundQuiet start next
found_quiet start now next stems uses = subst (λ c. FoundQuiet start c) (sym uses.has) here
  where
    here : FoundQuiet start (used now uses.index uses.after)
    here =
        let stem = stems uses.index now.offset (uses.after + 1) uses.had in
        record {
          index = uses.index;
          before = stem.0;
          after = uses.after;
          was = stem.1;
          is_now = get_set_same now.polls uses.index (now.offset, uses.after + 1) (now.offset, uses.after) uses.had;
          fell = omega (arith, stem.2);
        }

-- ---- a piece

at_quiet : (order : List Event) (read rest : List ℕ) (m n : ℕ) (start now : Course) → SoFar order read m n start now → Frames read (takes_of order) rest → status_after order ≡ None → NoneOpen order ⊎ HasNoPoll now
    → (quiet : ℕ × ℕ) → Contains now.polls quiet → 0 < quiet.1 → quiet.0 ≡ now.offset → StoodAt NoneOpen order read (quiet.0 - start.offset)
at_quiet order read rest m n start now so frames running (inl idle) quiet there polls here =
    stood_here NoneOpen order read rest (quiet.0 - start.offset) (omega (arith, here, so.at)) frames running idle
at_quiet order read rest m n start now so frames running (inr spent) quiet there polls here =
    let entry : get_or now.polls there.0 quiet ≡ quiet = there.2 in
    let zero_left = (rw entry at (spent there.0 quiet there.1)) here in
    absurd (omega (arith, zero_left, polls))

below : (a b : ℕ) → a < suc b → (a < b) ⊎ (a ≡ b)
below a b less = either (cases_lt a b) (λ l. inl l) (λ m. inr (omega (arith, less, m)))

-- so far, and at this offset too
pub idle_here : (order : List Event) (read rest : List ℕ) (m n : ℕ) (start now : Course) → SoFar order read m n start now → Frames read (takes_of order) rest → status_after order ≡ None → NoneOpen order ⊎ HasNoPoll now
    → WaitsIdle order read start now (suc now.offset)
idle_here order read rest m n start now so frames running may = λ quiet there polls from before.
    either (below quiet.0 now.offset before) (λ less. so.idle quiet there polls from less)
    (λ here. at_quiet order read rest m n start now so frames running may quiet there polls here)

fell_more : (start now : Course) (read piece : List ℕ) (count : ℕ) (bodies : List (List ℕ)) → now.offset ≡ start.offset + length read → FellAt start now read bodies → FellAt start (moved count now) (read ++ piece) bodies
fell_more start now read piece count bodies at fell =
    let short : fell.offset - start.offset ≤ length read = omega (arith, at, fell.reached) in
    record {
      index = fell.index;
      offset = fell.offset;
      before = fell.before;
      after = fell.after;
      was = fell.was;
      is_now = fell.is_now;
      fell = fell.fell;
      behind = fell.behind;
      reached = omega (arith, fell.reached);
      rest = fell.rest;
      frames = subst (λ bytes. Frames bytes bodies fell.rest) (sym (take-append-le (fell.offset - start.offset) read piece short)) fell.frames;
    }

pub piece_so_far : (order : List Event) (read rest piece : List ℕ) (m n count : ℕ) (start now : Course) → SoFar order read m n start now → Frames read (takes_of order) rest → status_after order ≡ None → OwesNothingAtOnce order
    → NoneOpen order ⊎ HasNoPoll now → PassesNoQuiet now.polls now.offset count → length piece ≡ count → SoFar order (read ++ piece) m n start (moved count now)
piece_so_far order read rest piece m n count start now so frames running caught may awake size =
    record {
      at = omega (arith, so.at, size, length-append read piece);
      idle = λ quiet there polls from before.
          let entry : get_or now.polls there.0 quiet ≡ quiet = there.2 in
          let passed = rw entry at (awake there.0 quiet there.1) in
          either (cases_lt now.offset quiet.0) (λ ahead. absurd (omega (arith, passed ahead, before)))
          (λ back. stood_more NoneOpen order read piece (quiet.0 - start.offset) (omega (arith, so.at, back)) (idle_here order read rest m n start now so frames running may quiet there polls from (omega (arith, back))));
      counted = so.counted;
      stems = so.stems;
      verdicts = λ bodies has. fell_more start now read piece count bodies so.at (so.verdicts bodies has);
      prompt = record {
        owed = λ some.
            stood_more OwesNothingAtOnce order read piece (now.offset - start.offset) (omega (arith, so.at))
            (stood_here OwesNothingAtOnce order read rest (now.offset - start.offset) (omega (arith, so.at)) frames running caught);
      };
    }

-- ---- what is promised

pub patient_by : (order : List Event) (read : List ℕ) (m n : ℕ) (start now : Course) → SoFar order read m n start now → Patient order read m n start now
patient_by order read m n start now so = record { idle = so.idle; counted = so.counted; verdicts = so.verdicts }

-- the same behind more events in which no check finishes that was made
pub patient_on : (events order : List Event) (read : List ℕ) (m n : ℕ) (start now : Course) → All IsBare (writes_of events) → Patient order read m n start now → Patient (events ++ order) read m n start now
patient_on events order read m n start now bare so =
    record {
      idle = idle_on events order read start now now.offset so.idle;
      counted = so.counted;
      verdicts = λ bodies has. so.verdicts bodies (bare_verdicts events order bodies bare has);
    }

pub at_end_on : (events order : List Event) (read : List ℕ) (start now : Course) → PatientAtEnd order read start now → PatientAtEnd (events ++ order) read start now
at_end_on events order read start now so = record { idle = idle_on events order read start now (suc now.offset) so.idle }
