-- Requests that are open: which of them is answered, which comes first of those that are to be cancelled, and what a mark
-- changes.
use Rattle.std.proofs.Common.{◌≡◌, ◌++◌, ◌||◌, ◌&&◌, ◌==◌, ℕ, List, [], ◌∷◌, Bool, true, false, All, Option, Some, None, refl, ap, sym, ◌∙◌, subst}
use Rattle.std.specs.Prelude.{if◌then◌else◌}
use Rattle.std.proofs.lemmas.Bool.{eq-eqb}
use Rattle.std.proofs.lemmas.Bool.Decides.{Decides-int_eq}
use Rattle.std.proofs.lemmas.List.Elements.{All-head, All-nil, All-cons, All-tail}
use Rattle.std.specs.Cmp.Lexicographic.{pointwise}
use Rattle.rpc_peer.specs.declared.message.Id.{Id}
use Rattle.rpc_peer.specs.declared.message.Id.TheVariants.{Number, Text}
use Rattle.rpc_peer.specs.OpenIds.{same_id}
use Rattle.session_law.specs.AnswersFirst.{first_at_once}
use Rattle.session_law.specs.Methods.{Verdict}
use Rattle.session_law.specs.Requests.{Asked, all_marked, first_marked, is_of_queue, marked_if, marked_where, owed_to, without}

-- ---- ids

same_text : (t : List ℕ) → pointwise ◌==◌ t t ≡ true
same_text [] = refl
same_text (b ∷ t) = rw (eq-eqb b b refl) (same_text t)

pub same_id_refl : (id : Id) → same_id id id ≡ true
same_id_refl (Number n) = (Decides-int_eq n n).1 refl
same_id_refl (Text t) = same_text t

-- the request has another id
abbrev pub HasOther : Id → Asked → Type 0
HasOther id asked = same_id id asked.id ≡ false

-- ---- what is owed at once

abbrev pub IsOfQueue : Asked → Type 0
IsOfQueue asked = is_of_queue asked.verdict ≡ true

pub none_at_once : (requests : List Asked) → All IsOfQueue requests → first_at_once requests ≡ None
none_at_once [] all = refl
none_at_once (asked ∷ others) all =
    ap (λ b. if b then first_at_once others else Some asked) (All-head IsOfQueue asked others all)
    ∙ none_at_once others (All-tail IsOfQueue asked others all)

-- where all others are of the queue, nothing is owed at once, or it is owed to this one
pub one_at_once : (before rest : List Asked) (asked : Asked) → All IsOfQueue before → All IsOfQueue rest → (P : Option Asked → Type 0) → P None → P (Some asked)
    → P (first_at_once (before ++ asked ∷ rest))
one_at_once [] rest asked earlier later P nothing own = by (is_of_queue asked.verdict)
  where
    by : (b : Bool) → P (if b then first_at_once rest else Some asked)
    by true = subst P (sym (none_at_once rest later)) nothing
    by false = own
one_at_once (first ∷ before) rest asked earlier later P nothing own =
    subst P (sym (ap (λ b. if b then first_at_once (before ++ asked ∷ rest) else Some first) (All-head IsOfQueue first before earlier)))
    (one_at_once before rest asked (All-tail IsOfQueue first before earlier) later P nothing own)

-- ---- a request behind others

pub owed_behind : (id : Id) (before rest : List Asked) (asked : Asked) → All (HasOther id) before → same_id id asked.id ≡ true
    → owed_to id (before ++ asked ∷ rest) ≡ Some asked.verdict
owed_behind id [] rest asked others same = ap (λ b. if b then Some asked.verdict else owed_to id rest) same
owed_behind id (first ∷ before) rest asked others same =
    ap (λ b. if b then Some first.verdict else owed_to id (before ++ asked ∷ rest)) (All-head (HasOther id) first before others)
    ∙ owed_behind id before rest asked (All-tail (HasOther id) first before others) same

pub without_behind : (id : Id) (before rest : List Asked) (asked : Asked) → All (HasOther id) before → same_id id asked.id ≡ true
    → without id (before ++ asked ∷ rest) ≡ before ++ rest
without_behind id [] rest asked others same = ap (λ b. if b then rest else asked ∷ without id rest) same
without_behind id (first ∷ before) rest asked others same =
    ap (λ b. if b then before ++ asked ∷ rest else first ∷ without id (before ++ asked ∷ rest)) (All-head (HasOther id) first before others)
    ∙ ap (λ requests. first ∷ requests) (without_behind id before rest asked (All-tail (HasOther id) first before others) same)

pub owed_to_none : (id : Id) (requests : List Asked) → All (HasOther id) requests → owed_to id requests ≡ None
owed_to_none id [] others = refl
owed_to_none id (first ∷ requests) others =
    ap (λ b. if b then Some first.verdict else owed_to id requests) (All-head (HasOther id) first requests others)
    ∙ owed_to_none id requests (All-tail (HasOther id) first requests others)

-- ---- which is the first that is to be cancelled

-- the request isn't to be cancelled
abbrev pub IsUnmarked : Asked → Type 0
IsUnmarked asked = asked.cancelled ≡ false

pub none_marked : (requests : List Asked) → All IsUnmarked requests → first_marked requests ≡ None
none_marked [] all = refl
none_marked (asked ∷ requests) all =
    ap (λ b. if b then Some asked else first_marked requests) (All-head IsUnmarked asked requests all)
    ∙ none_marked requests (All-tail IsUnmarked asked requests all)

pub marked_behind : (before rest : List Asked) (asked : Asked) → All IsUnmarked before → asked.cancelled ≡ true → first_marked (before ++ asked ∷ rest) ≡ Some asked
marked_behind [] rest asked all marked = ap (λ b. if b then Some asked else first_marked rest) marked
marked_behind (first ∷ before) rest asked all marked =
    ap (λ b. if b then Some first else first_marked (before ++ asked ∷ rest)) (All-head IsUnmarked first before all)
    ∙ marked_behind before rest asked (All-tail IsUnmarked first before all) marked

-- ---- marks

or_false : (b : Bool) → (b || false) ≡ b
or_false true = refl
or_false false = refl

-- a request that isn't cancelled by this stays as it is
pub unmarked_by : (cancels : Bool) (asked : Asked) → cancels ≡ false → marked_if cancels asked ≡ asked
unmarked_by cancels asked none =
    ap (λ b. record asked { cancelled = b })
    (ap (λ c. asked.cancelled || (c && is_of_queue asked.verdict)) none ∙ or_false asked.cancelled)

pub marks_none : (cancels : Asked → Bool) (requests : List Asked) → All (λ asked. cancels asked ≡ false) requests → marked_where cancels requests ≡ requests
marks_none cancels [] all = refl
marks_none cancels (asked ∷ requests) all =
    ap (λ a. a ∷ marked_where cancels requests) (unmarked_by (cancels asked) asked (All-head (λ a. cancels a ≡ false) asked requests all))
    ∙ ap (λ others. asked ∷ others) (marks_none cancels requests (All-tail (λ a. cancels a ≡ false) asked requests all))

pub marked-append : (cancels : Asked → Bool) (a b : List Asked) → marked_where cancels (a ++ b) ≡ marked_where cancels a ++ marked_where cancels b
marked-append cancels [] b = refl
marked-append cancels (asked ∷ a) b = ap (λ requests. marked_if (cancels asked) asked ∷ requests) (marked-append cancels a b)
