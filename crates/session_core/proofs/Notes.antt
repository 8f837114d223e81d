-- A notification is taken: an exit, a cancel, or one that changes nothing.
use Rattle.std.proofs.Common.{◌≡◌, ◌||◌, ◌&&◌, ℕ, suc, List, [], ◌∷◌, codes, Bool, true, false, cond, Option, Some, None, Ok, refl, ap, sym, ◌∙◌, subst}
use Rattle.std.specs.Prelude.{option_map, unwrap_or}
use Rattle.rpc_peer.specs.Meaning.{id_in, meaning}
use Rattle.rpc_peer.specs.OpenIds.{same_id}
use Rattle.rpc_peer.specs.Said.{notification}
use Rattle.rpc_peer.specs.declared.message.Id.{Id}
use Rattle.serde_json.specs.Data.{Data, Members, null, object}
use Rattle.serde_json.specs.Find.{get_member}
use Rattle.serde_json.specs.View.{view}
use Rattle.serde_json.specs.declared.value.Value.{Value}
use Rattle.session_core.proofs.Requests.{no_mark}
use Rattle.session_core.proofs.Taken.{by_note, has_id_of, whole_note}
use Rattle.session_core.specs.Acting.{ActsOn, ActsOnInVain}
use Rattle.session_core.specs.Marking.{marked, marked_all, marked_one}
use Rattle.session_core.specs.Moving.{LosesAll, SettlesAll}
use Rattle.session_core.specs.Standing.{Carries, Loses, Whole}
use Rattle.session_core.specs.declared.session.Core.{Core}
use Rattle.session_law.specs.Methods.{is_named}
use Rattle.session_law.specs.Order.{Event, take}
use Rattle.session_law.specs.Past.{exit_status}
use Rattle.session_law.specs.Requests.{cancelled_id}
use Rattle.session_core.proofs.Ready.{IsReady}

-- ---- the id that a cancel names

module _ (members : Members) (found : Option Value) (is : option_map view found ≡ get_member (codes "id") members) where
  pub names_id : (value : Value) → found ≡ Some value → cancelled_id (Some (object members)) ≡ id_in (view value)
  names_id value there = ap (λ g. id_in (unwrap_or g null)) (sym is ∙ ap (option_map view) there)

  pub names_none : found ≡ None → cancelled_id (Some (object members)) ≡ None
  names_none nothing = ap (λ g. id_in (unwrap_or g null)) (sym is ∙ ap (option_map view) nothing)

-- ---- what a notification marks

module _ (old : Core) (rests : IsReady old) (number : ℕ) (is : number ≡ suc old.taken) (method : List ℕ) (params : Option Data) where
  noted : (by : Id → Bool) → by_note method params ≡ by → (status : Option ℕ) → exit_status (Ok (notification method params)) old.closed ≡ status → (body : List ℕ) → meaning body ≡ Ok (notification method params)
      → (order : List Event) → Whole old [] [] order → Whole (marked by (record old { taken = number; status = status })) [] [] (take body ∷ order)
  noted by by_is status status_is body means order whole =
      subst (λ (core : Core). Whole core [] [] (take body ∷ order))
      (λ i. marked (by_is i) (record old { taken = sym is i; status = (ap (λ m. exit_status m old.closed) means ∙ status_is) i })) (whole_note old order rests whole body method params means)

  module _ (new : Core) (exits : is_named (codes "build/exit") method ≡ true) where
    all_noted : by_note method params ≡ (λ other. true)
    all_noted = λ i other. exits i || (is_named (codes "$/cancelRequest") method && has_id_of (cancelled_id params) other)

    status_is : exit_status (Ok (notification method params)) old.closed ≡ Some (cond old.closed 0 1)
    status_is = λ i. cond (exits i) (Some (cond old.closed 0 1)) None

    pub acts_exit : (status : Option ℕ) → status ≡ Some (cond old.closed 0 1) → SettlesAll (marked_all (record old { taken = number; status = status })) new → ActsOn old new (Ok (notification method params))
    acts_exit status so settles body means order whole = settles [] [] (take body ∷ order) (noted (λ other. true) all_noted status (status_is ∙ sym so) body means order whole)

    pub loses_exit : (status : Option ℕ) → status ≡ Some (cond old.closed 0 1) → LosesAll (marked_all (record old { taken = number; status = status })) new → ActsOnInVain old new (Ok (notification method params))
    loses_exit status so loses body means order whole = loses [] [] (take body ∷ order) (noted (λ other. true) all_noted status (status_is ∙ sym so) body means order whole)

  module _ (stays : is_named (codes "build/exit") method ≡ false) where
    runs_on : exit_status (Ok (notification method params)) old.closed ≡ old.status
    runs_on = (λ i. cond (stays i) (Some (cond old.closed 0 1)) None) ∙ sym rests.running

    -- a cancel that names a request
    module _ (new : Core) (cancels : is_named (codes "$/cancelRequest") method ≡ true) (id : Id) (names : cancelled_id params ≡ Some id) where
      one_noted : by_note method params ≡ same_id id
      one_noted = λ i other. stays i || (cancels i && has_id_of (names i) other)

      pub acts_cancel : Carries (marked_one id (record old { taken = number })) new → ActsOn old new (Ok (notification method params))
      acts_cancel settles body means order whole = settles (take body ∷ order) (noted (same_id id) one_noted old.status runs_on body means order whole)

      pub loses_cancel : Loses (marked_one id (record old { taken = number })) new → ActsOnInVain old new (Ok (notification method params))
      loses_cancel loses body means order whole = loses (take body ∷ order) (noted (same_id id) one_noted old.status runs_on body means order whole)

    acts_none : by_note method params ≡ (λ other. false) → ActsOn old (record old { taken = number }) (Ok (notification method params))
    acts_none none_noted body means order whole =
        subst (λ (core : Core). Whole core [] [] (take body ∷ order)) (no_mark (record old { taken = number })) (noted (λ other. false) none_noted old.status runs_on body means order whole)

    and_false : (b : Bool) → (b && false) ≡ false
    and_false true = refl
    and_false false = refl

    -- one that names none
    pub acts_unnamed : cancelled_id params ≡ None → ActsOn old (record old { taken = number }) (Ok (notification method params))
    acts_unnamed names =
        acts_none
        ((λ i other. stays i || (is_named (codes "$/cancelRequest") method && has_id_of (names i) other)) ∙ (λ i other. and_false (is_named (codes "$/cancelRequest") method) i))

    -- any other
    pub acts_other : is_named (codes "$/cancelRequest") method ≡ false → ActsOn old (record old { taken = number }) (Ok (notification method params))
    acts_other other = acts_none (λ i id. stays i || (other i && has_id_of (cancelled_id params) id))
