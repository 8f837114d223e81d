-- Wrong rows in which something stands between two pieces of a list: a body that is taken, the end of the input, or the answer of
-- another request.
use Rattle.std.proofs.Common.{◌≡◌, ℕ, ℤ, List, ◌∷◌, Bool, true, false, Option, Some, None, refl, sym, ◌∙◌, subst}
use Rattle.std.specs.Prelude.{if◌then◌else◌}
use Rattle.std.proofs.lemmas.Bool.{false≢true}
use Rattle.bsp_records.specs.declared.publishing.PublishDiagnosticsParams.{PublishDiagnosticsParams}
use Rattle.rpc_peer.specs.declared.message.Id.{Id}
use Rattle.rpc_peer.specs.Said.{Said, request, notification, result, failure}
use Rattle.serde_json.specs.Data.{Data}
use Rattle.session_law.specs.Builds.{goes_on_in, is_later_piece, is_publication}
use Rattle.session_law.specs.If.{If}
use Rattle.session_law.specs.Lawful.{GoesOn, GoesOnOrCancels, WriteAllowed}
use Rattle.session_law.specs.Order.{Event, ends, take, write}
use Rattle.session_law.specs.Past.{after}
use Rattle.session_law.specs.Requests.{Active, active_of, first_marked}
use Rattle.session_law.specs.ShowsCleanBuild.{PublishesNext, ShowsFor}
use Rattle.session_law.specs.declared.InputEnd.{InputEnd}

-- ---- a piece behind the first is a publication

named_so : (named : Bool) (p : PublishDiagnosticsParams) → goes_on_in (if named then Some p else None) ≡ true → named ≡ true
named_so true p later = refl
named_so false p later = absurd (false≢true later)

publishes_later : (m : Said) → is_later_piece m ≡ true → is_publication m ≡ true
publishes_later (notification method (Some params)) later = named_so _ _ later
publishes_later (notification method None) later = absurd (false≢true later)
publishes_later (request id method params) later = absurd (false≢true later)
publishes_later (result id value) later = absurd (false≢true later)
publishes_later (failure id code text) later = absurd (false≢true later)

if_held : (b : Bool) (A : Type 0) → b ≡ true → If b A → A
if_held true A is a = a
if_held false A is a = absurd (false≢true is)

-- ---- it stands right behind a notification

module _ (past : List Event) (method : List ℕ) (params : Option Data) (later : is_later_piece (notification method params) ≡ true) where
  abbrev piece : Said
  piece = notification method params

  module _ (active : Active) (is_active : active_of (after past).requests ≡ Some active) (unmarked : first_marked (after past).requests ≡ None) where
    is_telling : WriteAllowed (after past) piece → (after past).telling ≡ true
    is_telling allowed =
        let goes_on : GoesOn (after past) piece = subst (λ o. GoesOnOrCancels o (after past) piece) unmarked allowed.by_marks in
        let next : PublishesNext active (after past) piece =
        if_held (is_publication piece) (PublishesNext active (after past) piece) (publishes_later piece later) (subst (λ a. ShowsFor piece a (after past)) is_active goes_on.shows) in
        if_held (is_later_piece piece) ((after past).telling ≡ true) later next.together

    not_broken_off : (after past).telling ≡ false → WriteAllowed (after past) piece → ⊥
    not_broken_off still allowed = false≢true (sym still ∙ is_telling allowed)

module _ (past : List Event) (method : List ℕ) (params : Option Data) (later : is_later_piece (notification method params) ≡ true) (active : Active) where
  -- A body was taken between this piece and the one before it.
  pub not_behind_a_take : (body : List ℕ) → active_of (after (take body ∷ past)).requests ≡ Some active → first_marked (after (take body ∷ past)).requests ≡ None
      → WriteAllowed (after (take body ∷ past)) (notification method params) → ⊥
  not_behind_a_take body is_active unmarked = not_broken_off (take body ∷ past) method params later active is_active unmarked refl

  -- The input was found to have ended there.
  pub not_behind_an_end : (how : InputEnd) → active_of (after (ends how ∷ past)).requests ≡ Some active → first_marked (after (ends how ∷ past)).requests ≡ None
      → WriteAllowed (after (ends how ∷ past)) (notification method params) → ⊥
  not_behind_an_end how is_active unmarked = not_broken_off (ends how ∷ past) method params later active is_active unmarked refl

  -- A request was answered there.
  pub not_behind_an_answer : (id : Option Id) (value : Data) → active_of (after (write (result id value) ∷ past)).requests ≡ Some active
      → first_marked (after (write (result id value) ∷ past)).requests ≡ None → WriteAllowed (after (write (result id value) ∷ past)) (notification method params) → ⊥
  not_behind_an_answer id value is_active unmarked = not_broken_off (write (result id value) ∷ past) method params later active is_active unmarked refl

  -- One was refused there.
  pub not_behind_a_refusal : (id : Option Id) (code : ℤ) (text : List ℕ) → active_of (after (write (failure id code text) ∷ past)).requests ≡ Some active
      → first_marked (after (write (failure id code text) ∷ past)).requests ≡ None → WriteAllowed (after (write (failure id code text) ∷ past)) (notification method params) → ⊥
  not_behind_a_refusal id code text is_active unmarked = not_broken_off (write (failure id code text) ∷ past) method params later active is_active unmarked refl
