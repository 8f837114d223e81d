-- Which status an order has.
use Rattle.std.proofs.Common.{◌≡◌, ◌++◌, ◌<◌, ◌≤◌, ℕ, ℤ, List, [], ◌∷◌, Bool, true, false, cond, IfSome, Result, Ok, Err, Some, None, refl, ap, subst, arith, lit≤}
use Rattle.std.specs.Prelude.{codes}
use Rattle.session_law.specs.declared.InputEnd.{InputEnd}
use Rattle.session_law.specs.declared.InputEnd.TheVariants.{Border, Damaged, Failed}
use Rattle.rpc_peer.specs.Meaning.{meaning}
use Rattle.rpc_peer.specs.Said.{Said, request, notification, result, failure}
use Rattle.session_law.specs.Methods.{is_named}
use Rattle.session_law.specs.Order.{Event, take, ends, hand, write, end_of, takes_of}
use Rattle.session_law.specs.Past.{after, exit_status, end_status, status_after}

some_apart : (m n : ℕ) → m < n → Some m ≡ Some n → ⊥
some_apart m n less same = let equal : m ≡ n = cc in omega arith

left_low : (leaves closed : Bool) → IfSome (cond leaves (Some (cond closed 0 1)) None) (λ status. status ≤ 1)
left_low true true = lit≤ tt
left_low true false = lit≤ tt
left_low false closed = tt

exit_low : (meant : Result Said ℤ) (closed : Bool) → IfSome (exit_status meant closed) (λ status. status ≤ 1)
exit_low (Ok (request id method params)) closed = tt
exit_low (Ok (notification method params)) closed = left_low (is_named (codes "build/exit") method) closed
exit_low (Ok (result id value)) closed = tt
exit_low (Ok (failure id code text)) closed = tt
exit_low (Err code) closed = tt

-- a session that took an exit has the status 0 or 1
pub exit_within : (order : List Event) → end_of order ≡ None → IfSome (status_after order) (λ status. status ≤ 1)
exit_within [] none = tt
exit_within (take body ∷ order) none = exit_low (meaning body) (after order).closed
exit_within (ends how ∷ order) none = absurd (cc)
exit_within (hand handed ∷ order) none = exit_within order none
exit_within (write m ∷ order) none = exit_within order none

-- only a failed read has the status 3
pub failed_end : (order : List Event) → status_after order ≡ Some 3 → end_of order ≡ Some Failed
failed_end [] three = absurd (cc)
failed_end (take body ∷ order) three =
    let low : 3 ≤ 1 = subst (λ found. IfSome found (λ status. status ≤ 1)) three (exit_low (meaning body) (after order).closed) in
    absurd (omega arith)
failed_end (ends Border ∷ order) three = absurd (some_apart 1 3 (omega arith) three)
failed_end (ends Damaged ∷ order) three = absurd (some_apart 2 3 (omega arith) three)
failed_end (ends Failed ∷ order) three = refl
failed_end (hand handed ∷ order) three = failed_end order three
failed_end (write m ∷ order) three = failed_end order three

no_body : (xs : List (List ℕ)) (body : List ℕ) → xs ++ body ∷ [] ≡ [] → ⊥
no_body [] body none = absurd cc
no_body (x ∷ xs) body none = absurd cc

some_same : (a b : InputEnd) → Some a ≡ Some b → a ≡ b
some_same a b same = cc

-- a session that was told of an end has its status
pub status_ended : (events order : List Event) (how : InputEnd) → takes_of events ≡ [] → end_of events ≡ Some how → status_after (events ++ order) ≡ Some (end_status how)
status_ended [] order how none is = absurd cc
status_ended (take body ∷ events) order how none is = absurd (no_body (takes_of events) body none)
status_ended (ends other ∷ events) order how none is = ap (λ (found : InputEnd). Some (end_status found)) (some_same other how is)
status_ended (hand handed ∷ events) order how none is = status_ended events order how none is
status_ended (write m ∷ events) order how none is = status_ended events order how none is
