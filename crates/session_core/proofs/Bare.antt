-- No check that was made finishes by an answer, nor by what is told as a build begins or is cancelled.
use Rattle.std.proofs.Common.{◌≡◌, ◌++◌, ◌∙◌, inl, ℕ, List, [], ◌∷◌, Option, Result, map, refl, ap, sym, subst}
use Rattle.std.specs.Prelude.{OnOk}
use Rattle.std.specs.List.{All}
use Rattle.std.proofs.lemmas.List.Elements.{All-append, All-cons, All-nil}
use Rattle.std.proofs.lemmas.Result.{on_ok_weaker}
use Rattle.rpc_peer.specs.Said.{Said}
use Rattle.rpc_peer.specs.declared.message.Id.{Id}
use Rattle.build_messages.specs.Outgoing.{outgoing_said}
use Rattle.build_messages.specs.declared.outgoing.Outgoing.{Outgoing}
use Rattle.session_build.proofs.GoesLaws.{one_first}
use Rattle.session_build.specs.declared.building.Went.{Went}
use Rattle.session_build.specs.declared.building.Went.TheVariants.{On, Ended}
use Rattle.session_core.specs.Handing.{HasWent}
use Rattle.session_core.specs.Moving.{FinishesAtMostOne, StaysBare}
use Rattle.session_core.specs.Standing.{IsQuiet}
use Rattle.session_core.specs.State.{said_out}
use Rattle.session_core.specs.declared.session.Core.{Core}
use Rattle.session_law.specs.Builds.{build_said}
use Rattle.session_law.specs.Past.{notice_in}
use Rattle.session_law.specs.Tasks.{finish_said}
use Rattle.session_law.specs.Verdicts.{FinishesOneFirst, IsBare}

not_none : (m : Said) (rest : List Said) → m ∷ rest ≡ [] → ⊥
not_none m rest same = cc

-- a message that is no notification
bare_answer : (m : Said) → notice_in m ≡ [] → IsBare m
unfolding finish_said
bare_answer m none verdict = not_none _ [] (subst (λ x. notice_in x ≡ []) verdict.is none)

one_bare : (m : Said) → notice_in m ≡ [] → All IsBare (m ∷ [])
one_bare m none = All-cons IsBare m [] (bare_answer m none) (All-nil IsBare)

pub bare_behind : (old new : Core) (messages : List Said) → said_out new ≡ said_out old ++ messages → All IsBare messages → StaysBare old new
bare_behind old new messages said bare = record {
  is = λ before. subst (λ ms. All IsBare ms) (sym said) (All-append IsBare (said_out old) messages before bare);
  one = λ before. subst FinishesOneFirst (sym said) (one_first (said_out old) messages before bare);
}

pub bare_one : (old new : Core) (m : Said) → said_out new ≡ said_out old ++ m ∷ [] → notice_in m ≡ [] → StaysBare old new
bare_one old new m said none = bare_behind old new (m ∷ []) said (one_bare m none)

-- an answer behind what was told
pub bare_told : (old new : Core) (told : List Said) (answer : Said) → said_out new ≡ said_out old ++ (told ++ answer ∷ []) → All IsBare told → notice_in answer ≡ [] → StaysBare old new
bare_told old new told answer said bare none = bare_behind old new (told ++ answer ∷ []) said (All-append IsBare told (answer ∷ []) bare (one_bare answer none))

-- what is told where nothing was before
pub told_bare : (before after own : List Said) → before ≡ [] → after ≡ before ++ own → All IsBare own → All IsBare after
told_bare before after own none are bare = subst (λ ms. All IsBare ms) (sym (are ∙ ap (λ ms. ms ++ own) none)) bare

pub bare_same : (old new : Core) → new.out ≡ old.out → StaysBare old new
bare_same old new same =
    let said : said_out new ≡ said_out old = ap (λ out. map outgoing_said out.items) same in
    record { is = subst (λ ms. All IsBare ms) (sym said); one = subst FinishesOneFirst (sym said) }

pub bare_on : (a b c : Core) → StaysBare a b → StaysBare b c → StaysBare a c
bare_on a b c first later = record { is = λ before. later.is (first.is before); one = λ before. later.one (first.one before) }

pub bare_quiet : (old new : Core) → IsQuiet old → StaysBare old new → All IsBare (said_out new)
bare_quiet old new quiet stays = stays.is (subst (λ (items : List Outgoing). All IsBare (map outgoing_said items)) (sym quiet) (All-nil IsBare))

-- where a build goes on, or ends and is answered, by what a check found
pub went_one : (old new : Core) (id : Id) (number : ℕ) (origin : Option (List ℕ)) (went : Went) (told : List Said) → IsQuiet old → HasWent old new id number origin went told
    → FinishesOneFirst told → FinishesOneFirst (said_out new)
unfolding build_said
went_one old new id number origin (On b) told quiet goes one =
    subst FinishesOneFirst (sym (goes.1 ∙ ap (λ (items : List Outgoing). map outgoing_said items ++ told) quiet)) one
went_one old new id number origin (Ended failed remains) told quiet goes one =
    let answer = build_said id origin failed in
    subst FinishesOneFirst (sym (goes.1 ∙ ap (λ (items : List Outgoing). map outgoing_said items ++ (told ++ answer ∷ [])) quiet)) (one_first told (answer ∷ []) one (one_bare answer refl))

-- where nothing is said, no check finishes
pub quiet_none : (core : Core) → IsQuiet core → FinishesAtMostOne (said_out core)
quiet_none core quiet = inl (subst (λ (items : List Outgoing). All IsBare (map outgoing_said items)) (sym quiet) (All-nil IsBare))

-- ---- what a call promises of it

-- a call that was made where nothing more had been said
pub bare_call : {T E : Type 0} (old now new : Core) (result : Result T E) → now.out ≡ old.out → OnOk result (StaysBare now new) → OnOk result (StaysBare old new)
bare_call old now new result same = on_ok_weaker result (bare_on old now new (bare_same old now same))

-- a call behind another
pub bare_after : {T E : Type 0} (a b c : Core) (result : Result T E) → StaysBare a b → OnOk result (StaysBare b c) → OnOk result (StaysBare a c)
bare_after a b c result first = on_ok_weaker result (bare_on a b c first)
