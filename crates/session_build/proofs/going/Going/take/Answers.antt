use Rattle.std.proofs.Common.{ℕ, List, map, refl, sym, ap, subst}
use Rattle.std.specs.Prelude.{Vec}
use Rattle.std.specs.declared.alloc.Global.{Global}
use Rattle.std.specs.List.{Contains}
use Rattle.build_checks.specs.Looked.{IsFound, IsLacked}
use Rattle.build_checks.specs.Stand.{world_of}
use Rattle.build_messages.specs.Outgoing.{outgoing_said}
use Rattle.session_build.specs.declared.going.Job.{Job}
use Rattle.session_build.proofs.GoesLaws.{goes_hit, goes_idle, goes_miss}
use Rattle.session_build.proofs.GoingLaws.{Came, none_still}
use Rattle.session_build.proofs.JobLaws.{keeps_on, keeps_same, starts_one, starts_same}
use Rattle.session_build.proofs.SoundLaws.{among_documents, clear_here, hit_sound, idle_sound, miss_sound, taken_here, unsettled_here}
use Rattle.task_stream.specs.Showing.{shows}
use Rattle.session_build.proofs.going.Going.take.Goals as goal

-- ---- no document is next

pub returns-in_default-clause-sound : goal.returns-in_default-clause-sound
returns-in_default-clause-sound c =
    idle_sound c.args.at.now c.args.self.now c.requires.sound c.next.new.self c.next.ensures.checks c.next.ensures.world c.next.ensures.modules c.in_default.ensures.unchanged c.next.ensures.settled

pub returns-in_default-clause-goes : goal.returns-in_default-clause-goes
returns-in_default-clause-goes c =
    goes_idle c.args.at.now c.args.cache.now c.args.self.now c.next.new.self (map outgoing_said c.args.out.now.items) c.args.keys.now (shows c.args.shown.now)
    c.next.ensures.world c.next.ensures.modules c.in_default.ensures.unchanged c.next.ensures.settled (c.next.ensures.numbers c.args.keys.now)

pub returns-in_default-clause-jobs : goal.returns-in_default-clause-jobs
returns-in_default-clause-jobs c = starts_same c.args.self.now (record c.args.self.now { checks = c.next.new.self }) refl refl (record { world = c.next.ensures.world; views = c.next.ensures.stays })

pub returns-in_default-clause-none : goal.returns-in_default-clause-none
returns-in_default-clause-none c = λ same.
    none_still c.args.self.now.checks c.next.new.self c.next.ensures.world c.next.ensures.modules c.in_default.ensures.unchanged c.next.ensures.settled c.in_default.ensures.none

pub returns-in_default-clause-through : goal.returns-in_default-clause-through
returns-in_default-clause-through c = λ same all p among.
    let old = c.args.self.now.checks in
    let new = c.next.new.self in
    subst (λ xs. Contains xs p) (sym c.next.ensures.settled)
    (c.in_default.ensures.through
    (λ q there. subst (λ xs. Contains xs q) c.next.ensures.settled (all q (subst (λ xs. Contains xs q) (sym c.in_default.ensures.unchanged) there)))
    p (subst (λ xs. Contains xs p) c.next.ensures.modules among))

-- ---- one is

pub imports-requires-clause-clear : goal.imports-requires-clause-clear
imports-requires-clause-clear c =
    let came : Came c.args.self.now.checks c.next.new.self c.in-Some.pair =
    record { next = c.in-Some.ensures.next; world_same = c.next.ensures.world; modules_same = c.next.ensures.modules; settled_same = c.next.ensures.settled; taken = c.in-Some.ensures.taken; numbers = c.next.ensures.numbers } in
    clear_here c.args.at.now c.args.self.now c.requires.sound c.next.new.self c.in-Some.pair came

pub settle-requires-clause-among : goal.settle-requires-clause-among
settle-requires-clause-among c =
    let came : Came c.args.self.now.checks c.next.new.self c.in-Some.pair =
    record { next = c.in-Some.ensures.next; world_same = c.next.ensures.world; modules_same = c.next.ensures.modules; settled_same = c.next.ensures.settled; taken = c.in-Some.ensures.taken; numbers = c.next.ensures.numbers } in
    among_documents c.args.at.now c.args.self.now c.requires.sound c.next.new.self c.in-Some.pair came

pub settle-requires-clause-taken : goal.settle-requires-clause-taken
settle-requires-clause-taken c =
    let came : Came c.args.self.now.checks c.next.new.self c.in-Some.pair =
    record { next = c.in-Some.ensures.next; world_same = c.next.ensures.world; modules_same = c.next.ensures.modules; settled_same = c.next.ensures.settled; taken = c.in-Some.ensures.taken; numbers = c.next.ensures.numbers } in
    taken_here c.args.at.now c.args.self.now c.requires.sound c.next.new.self c.in-Some.pair came

pub settle-requires-clause-unsettled : goal.settle-requires-clause-unsettled
settle-requires-clause-unsettled c =
    let came : Came c.args.self.now.checks c.next.new.self c.in-Some.pair =
    record { next = c.in-Some.ensures.next; world_same = c.next.ensures.world; modules_same = c.next.ensures.modules; settled_same = c.next.ensures.settled; taken = c.in-Some.ensures.taken; numbers = c.next.ensures.numbers } in
    unsettled_here c.args.at.now c.args.self.now c.requires.sound c.next.new.self c.in-Some.pair came

pub begin-requires-clause-among : goal.begin-requires-clause-among
begin-requires-clause-among c =
    let came : Came c.args.self.now.checks c.next.new.self c.in-Some.pair =
    record { next = c.in-Some.ensures.next; world_same = c.next.ensures.world; modules_same = c.next.ensures.modules; settled_same = c.next.ensures.settled; taken = c.in-Some.ensures.taken; numbers = c.next.ensures.numbers } in
    among_documents c.args.at.now c.args.self.now c.requires.sound c.next.new.self c.in-Some.pair came

pub returns-in_ok-settle-in-Some-2-clause-sound : goal.returns-in_ok-settle-in-Some-2-clause-sound
returns-in_ok-settle-in-Some-2-clause-sound c =
    let came : Came c.args.self.now.checks c.next.new.self c.in-Some.pair =
    record { next = c.in-Some.ensures.next; world_same = c.next.ensures.world; modules_same = c.next.ensures.modules; settled_same = c.next.ensures.settled; taken = c.in-Some.ensures.taken; numbers = c.next.ensures.numbers } in
    hit_sound c.args.at.now c.args.self.now c.requires.sound c.next.new.self c.in-Some.pair came c.settle.new.self _ c.in-Some-2.hit.fact.now c.args.keys.now c.settle.new.keys
    (shows c.args.shown.now) (shows c.settle.new.shown) (map outgoing_said c.args.out.now.items) (map outgoing_said c.settle.new.out.items) c.in_ok-settle-in-Some-2.ensures

pub returns-in_ok-settle-in-Some-2-clause-jobs : goal.returns-in_ok-settle-in-Some-2-clause-jobs
returns-in_ok-settle-in-Some-2-clause-jobs c =
    starts_same c.args.self.now c.settle.new.self (ap (λ (v : Vec Job Global). v.items) c.in_ok-settle-in-Some-2.ensures.jobs) c.in_ok-settle-in-Some-2.ensures.count
    (keeps_on c.args.self.now.checks c.next.new.self c.settle.new.self.checks (record { world = c.next.ensures.world; views = c.next.ensures.stays })
    (record { world = c.in_ok-settle-in-Some-2.ensures.world_same; views = c.in_ok-settle-in-Some-2.ensures.stays }))

pub returns-in_ok-settle-in-Some-2-clause-goes : goal.returns-in_ok-settle-in-Some-2-clause-goes
returns-in_ok-settle-in-Some-2-clause-goes c =
    let came : Came c.args.self.now.checks c.next.new.self c.in-Some.pair =
    record { next = c.in-Some.ensures.next; world_same = c.next.ensures.world; modules_same = c.next.ensures.modules; settled_same = c.next.ensures.settled; taken = c.in-Some.ensures.taken; numbers = c.next.ensures.numbers } in
    let found = rw c.in-Some-2.is at c.in_ok-hit.ensures.some in
    goes_hit c.args.at.now c.requires.setting c.args.cache.now c.args.self.now c.settle.new.self c.next.new.self c.in-Some.pair (map outgoing_said c.args.out.now.items)
    (map outgoing_said c.settle.new.out.items) c.args.keys.now c.settle.new.keys (shows c.args.shown.now) (shows c.settle.new.shown) came c.numbers_differ.ensures
    c.in_ok-imports.imports.items c.in_ok-imports.ensures.numbered c.in-Some-2.hit.fact.now c.in_ok-settle-in-Some-2.ensures.is_fact
    (subst (λ (xs : List (List ℕ × ℕ)). IsFound c.args.cache.now (world_of c.next.new.self) c.in-Some.pair xs c.in-Some-2.hit.fact.now) c.as_slice.ensures.value found)
    c.requires.sound.sized c.in_ok-settle-in-Some-2.ensures

pub returns-in_ok-begin-in-None-clause-sound : goal.returns-in_ok-begin-in-None-clause-sound
returns-in_ok-begin-in-None-clause-sound c =
    let came : Came c.args.self.now.checks c.next.new.self c.in-Some.pair =
    record { next = c.in-Some.ensures.next; world_same = c.next.ensures.world; modules_same = c.next.ensures.modules; settled_same = c.next.ensures.settled; taken = c.in-Some.ensures.taken; numbers = c.next.ensures.numbers } in
    miss_sound c.args.at.now c.args.self.now c.requires.sound c.next.new.self c.in-Some.pair came c.next.ensures.checks c.begin.new.self c.in_ok-imports.imports.items
    c.in_ok-imports.ensures.named (map outgoing_said c.args.out.now.items) (map outgoing_said c.begin.new.out.items) c.in_ok-begin-in-None.ensures

pub returns-in_ok-begin-in-None-clause-jobs : goal.returns-in_ok-begin-in-None-clause-jobs
returns-in_ok-begin-in-None-clause-jobs c =
    let begins = c.in_ok-begin-in-None.ensures in
    starts_one c.args.self.now c.begin.new.self begins.job begins.jobs begins.number_is begins.count
    (keeps_on c.args.self.now.checks c.next.new.self c.begin.new.self.checks (record { world = c.next.ensures.world; views = c.next.ensures.stays })
    (keeps_same c.next.new.self c.begin.new.self.checks begins.checks))

pub returns-in_ok-begin-in-None-clause-goes : goal.returns-in_ok-begin-in-None-clause-goes
returns-in_ok-begin-in-None-clause-goes c =
    let came : Came c.args.self.now.checks c.next.new.self c.in-Some.pair =
    record { next = c.in-Some.ensures.next; world_same = c.next.ensures.world; modules_same = c.next.ensures.modules; settled_same = c.next.ensures.settled; taken = c.in-Some.ensures.taken; numbers = c.next.ensures.numbers } in
    let lacked = rw c.in-None.is at c.in_ok-hit.ensures.none in
    goes_miss c.args.at.now c.requires.setting c.args.cache.now c.args.self.now c.begin.new.self c.next.new.self c.in-Some.pair (map outgoing_said c.args.out.now.items)
    (map outgoing_said c.begin.new.out.items) c.args.keys.now c.args.keys.now (shows c.args.shown.now) (shows c.args.shown.now) came c.numbers_differ.ensures
    c.in_ok-imports.imports.items c.in_ok-imports.ensures.numbered
    (subst (λ (xs : List (List ℕ × ℕ)). IsLacked c.args.cache.now (world_of c.next.new.self) c.in-Some.pair xs) c.as_slice.ensures.value lacked)
    c.in_ok-begin-in-None.ensures
