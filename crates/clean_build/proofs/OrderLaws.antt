-- The lists of modules in the order of the modules, one taken after the other.
use Rattle.std.proofs.Common.{◌≡◌, ◌≢◌, ◌+◌, ◌++◌, ◌<◌, ◌≤◌, ◌∷◌, [], ◌⊎◌, inl, inr, ℕ, List, length, get_or, drop, sym, ap, subst, ◌∙◌, arith}
use Rattle.std.specs.Prelude.{Contains, ◌==◌, None}
use Rattle.std.specs.List.{IsDistinct, slice_set}
use Rattle.std.proofs.lemmas.Bool.{cases_lt, false≢true, eq-eqb}
use Rattle.std.proofs.lemmas.List.{get_or-drop, get_or_past, get_or-set_other, length-drop}
use Rattle.std.proofs.lemmas.Map.Keys.{apart_from_distinct}
use Rattle.ob_text.specs.declared.diagnostic.Diagnostic.{Diagnostic}
use Rattle.build_rules.specs.Views.{AreLists, HasList}
use Rattle.build_rules.specs.World.{World}
use Rattle.clean_build.specs.Build.{HasListAt, IsListOf, Slots}

pub lists_more : (w : World) (ps : List ℕ) (ls : List (List Diagnostic)) (p : ℕ) (list : List Diagnostic) → AreLists w ps ls → HasList w p list → AreLists w (ps ++ p ∷ []) (ls ++ list ∷ [])
lists_more w [] [] p list are one = (one, tt)
lists_more w (q ∷ ps) (l ∷ ls) p list are one = (are.0, lists_more w ps ls p list are.1 one)
lists_more w [] (l ∷ ls) p list are one = absurd are
lists_more w (q ∷ ps) [] p list are one = absurd are

-- a module that stands behind another is another
later_other : (modules : List ℕ) (i m : ℕ) → IsDistinct ◌==◌ modules → i < length modules → m ≡ get_or modules i m → (p : ℕ) → Contains (drop (i + 1) modules) p → p ≢ m
later_other modules i m distinct h is p c e =
    let k = c.0 in
    let size = length-drop (i + 1) modules in
    let within = c.1 in
    let at : get_or modules (i + 1 + k) m ≡ m =
    sym (get_or-drop (i + 1) modules k m) ∙ subst (λ q. get_or (drop (i + 1) modules) k q ≡ q) e c.2 in
    let apart = apart_from_distinct ◌==◌ modules i (i + 1 + k) m distinct (omega arith) (omega (arith, within, size)) in
    false≢true (sym apart ∙ eq-eqb (get_or modules i m) (get_or modules (i + 1 + k) m) (sym is ∙ sym at))

-- the lists of those that are left, once the list of a module was taken
pub left_on : (w : World) (slots : Slots) (modules : List ℕ) (i m : ℕ) → IsDistinct ◌==◌ modules → i < length modules → m ≡ get_or modules i m
    → ((p : ℕ) → Contains (drop i modules) p → HasListAt w slots p) → (p : ℕ) → Contains (drop (i + 1) modules) p → HasListAt w (slice_set slots m None) p
left_on w slots modules i m distinct h is left p c =
    subst (IsListOf w p) (sym (get_or-set_other slots m p None None (later_other modules i m distinct h is p c))) (left p (earlier c))
  where
    earlier : Contains (drop (i + 1) modules) p → Contains (drop i modules) p
    earlier c =
        let size = length-drop (i + 1) modules in
        let all = length-drop i modules in
        let within = c.1 in
        (c.0 + 1, omega (arith, within, size, all), get_or-drop i modules (c.0 + 1) p ∙ ap (λ n. get_or modules n p) (index c.0) ∙ sym (get_or-drop (i + 1) modules c.0 p) ∙ c.2)
      where
        index : (k : ℕ) → i + (k + 1) ≡ i + 1 + k
        index k = omega arith

-- the module that comes next is one of those that are left
pub next_left : (modules : List ℕ) (i m : ℕ) → i < length modules → m ≡ get_or modules i m → Contains (drop i modules) m
next_left modules i m h is =
    let all = length-drop i modules in
    (0, omega (arith, h, all), get_or-drop i modules 0 m ∙ ap (λ n. get_or modules n m) (zero_more i) ∙ sym is)
  where
    zero_more : (n : ℕ) → n + 0 ≡ n
    zero_more n = omega arith

-- a list stands at an index of the slots alone
pub list_within : (w : World) (slots : Slots) (m : ℕ) → HasListAt w slots m → m < length slots
list_within w slots m list = by (cases_lt m (length slots))
  where
    by : (m < length slots) ⊎ (length slots ≤ m) → m < length slots
    by (inl h) = h
    by (inr past) = absurd (subst (IsListOf w m) (get_or_past slots m None past) list)
