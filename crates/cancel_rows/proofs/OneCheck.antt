-- The build of these rows is cancelled by the finishes of its check, its target and itself, and the messages that it owes
-- differ.
use Rattle.std.proofs.Common.{◌≡◌, ◌≢◌, ◌++◌, ◌<◌, ◌^◌, List, [], ◌∷◌, length, get_or, map, AllPairs, Some, None, refl, sym, ap, subst, ◌∙◌, arith, slice_get}
use Rattle.std.specs.Prelude.{codes, decimal}
use Rattle.std.proofs.lemmas.List.{append_cancel_left}
use Rattle.std.proofs.lemmas.Option.{none-some, same_Some}
use Rattle.bsp_records.specs.declared.results.StatusCode.TheVariants as statuses
use Rattle.rpc_peer.specs.Said.{Said}
use Rattle.target_graph.specs.Workspace.{id_of}
use Rattle.cancel_rows.specs.OneCheck.{HasOneOut, answered_cancelled, build_gives_up, check_gives_up, gives_up, target_gives_up}
use Rattle.session_law.proofs.ClosureLaws.{IdsDiffer, number_within, one_closure}
use Rattle.session_law.proofs.CourseLaws.{IsBegun, begun_told}
use Rattle.session_law.proofs.StartLaws.{NumbersFit, numbers_fit}
use Rattle.session_law.proofs.TaskLaws.{build_finishes_in, check_finishes_in, finish_in}
use Rattle.session_law.specs.Builds.{cancelled_said}
use Rattle.session_law.specs.Cancelling.{ChecksCancelled, IsCancelledBy, IsUnfinished, cancelled, none, targets_cancelled}
use Rattle.session_law.specs.Course.{AreGiven, Course, Given, Stage, begins, checked, known, starts}
use Rattle.session_law.specs.History.{IsTaskOf}
use Rattle.session_law.specs.Tasks.{checking_name, compiling_name, finish_said, whole_name}

module _ (g : Given) (told : List Said) (are : AreGiven g) (one : HasOneOut g told) where
  begun : IsBegun g told 0 one.pair
  begun = begun_told one.course 0 one.pair (ap (λ b. slice_get b 0) one.begun_is)

  first_target : begun.i ≡ 1
  first_target =
      omega (arith, number_within g.active g.closure begun.document.key.target begun.i are.closed begun.of_target, ap length one.closure_is, begun.of_target.number_is)

  pub is_out : IsUnfinished g one.stage one.pair 1
  is_out = record {
    document = begun.document;
    there = begun.there;
    pair_is = begun.pair_is;
    unsettled = one.unsettled;
    of_target = subst (λ i. IsTaskOf g.active begun.document.key.target i) first_target begun.of_target;
  }

  abbrev pub by : IsCancelledBy g told (gives_up g)
  by = record {
    stage = one.stage;
    course = one.course;
    checks = check_gives_up g ∷ [];
    of_checks = subst (λ b. ChecksCancelled g one.stage 0 b (check_gives_up g ∷ [])) (sym one.begun_is) (cancelled 1 is_out (none 1));
    are = ap (λ c. check_gives_up g ∷ (targets_cancelled g 1 c ++ build_gives_up g ∷ [])) (sym one.closure_is);
  }

  pub few : length by.stage.begun < 2 ^ 64
  few = omega (arith, ap length one.begun_is)

  pub differ : IdsDiffer g.active
  differ closure closed =
      subst (λ c. AllPairs ◌≢◌ (map (id_of g.active.build.space) c))
      (sym one.closure_is ∙ one_closure g.active.build.space.targets g.active.build.asked g.closure closure are.closed closed)
      (λ i j d h k. absurd (omega (arith, h, k)))

  pub fit : NumbersFit g.active
  fit = numbers_fit g.active g.closure are.closed (omega (arith, ap length one.closure_is))

-- ---- it told that it starts

nothing_before : (before behind : List Said) → before ++ behind ≡ [] → before ≡ []
nothing_before [] behind same = refl
nothing_before (m ∷ before) behind same = absurd (cc)

pub starts_told : {g : Given} {s : Stage} {messages : List Said} → Course g s messages → messages ≢ []
starts_told starts none_told = cc
starts_told (known {messages = messages} finding own course next is_known settles) none_told = starts_told course (nothing_before messages own none_told)
starts_told (begins {messages = messages} document i course next due task) none_told = starts_told course (nothing_before messages (_ ∷ []) none_told)
starts_told (checked {messages = messages} finding j i own course waiting runs task settles) none_told = starts_told course (nothing_before messages (_ ∷ own) none_told)

-- ---- its messages differ

target_told : (g : Given) → finish_in (target_gives_up g) ≡ Some (compiling_name g.active.number 1)
unfolding finish_said
target_told g = refl

check_told : (g : Given) → finish_in (check_gives_up g) ≡ Some (checking_name g.active.number 1)
check_told g = (check_finishes_in g.active.number 1 1 statuses.Cancelled).1

build_told : (g : Given) → finish_in (build_gives_up g) ≡ None
build_told g = (build_finishes_in g.active.number statuses.Cancelled).1

pub check_is_no_target : (g : Given) → check_gives_up g ≢ target_gives_up g
check_is_no_target g same =
    let names : checking_name g.active.number 1 ≡ compiling_name g.active.number 1 =
    same_Some (checking_name g.active.number 1) (compiling_name g.active.number 1) (sym (check_told g) ∙ (ap finish_in same ∙ target_told g)) in
    let marks : codes ".c" ++ decimal 1 ≡ codes ".t" ++ decimal 1 = append_cancel_left (whole_name g.active.number) (codes ".c" ++ decimal 1) (codes ".t" ++ decimal 1) names in
    absurd (omega (arith, ap (λ text. get_or text 1 0) marks))

pub check_is_no_build : (g : Given) → check_gives_up g ≢ build_gives_up g
check_is_no_build g same = none-some (checking_name g.active.number 1) (sym (build_told g) ∙ (ap finish_in (sym same) ∙ check_told g))

pub target_is_no_build : (g : Given) → target_gives_up g ≢ build_gives_up g
target_is_no_build g same = none-some (compiling_name g.active.number 1) (sym (build_told g) ∙ (ap finish_in (sym same) ∙ target_told g))

pub answer_is_no_check : (g : Given) → answered_cancelled g ≢ check_gives_up g
unfolding cancelled_said finish_said
answer_is_no_check g same = cc

pub answer_is_no_target : (g : Given) → answered_cancelled g ≢ target_gives_up g
unfolding cancelled_said finish_said
answer_is_no_target g same = cc

pub answer_is_no_build : (g : Given) → answered_cancelled g ≢ build_gives_up g
unfolding cancelled_said finish_said
answer_is_no_build g same = cc
