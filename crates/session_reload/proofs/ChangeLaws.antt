-- Lists of names that are the same or not, by what stands at each index; and one change more.
use Rattle.std.proofs.Common.{◌≡◌, ◌+◌, ◌<◌, ◌≤◌, ℕ, suc, true, false, not, List, [], ◌∷◌, ◌++◌, length, get_or, map, All, Option, None, Some, Result, Ok, Err, IfOk, IfSome, Vec, refl, ap, sym, ◌∙◌, arith}
use Rattle.std.specs.Borrow.{Bor}
use Rattle.std.specs.List.{cons_option}
use Rattle.std.specs.Option.{option_copied, option_to_list}
use Rattle.std.specs.declared.alloc.Global.{Global}
use Rattle.std.specs.Str.{bytes_eq}
use Rattle.std.proofs.lemmas.Bool.{false≢true, false_from_ne_true, not-true, not-false}
use Rattle.std.proofs.lemmas.List.{append_assoc, get_or-map, get_or_default, length-append, length-map, same_lists}
use Rattle.std.proofs.lemmas.List.Elements.{All-append, All-cons, All-contains, All-head, All-map, All-nil, All-same, All-tail}
use Rattle.std.proofs.lemmas.Slice.Eq.{bytes_eq-Decides, slice_eq-Decides}
use Rattle.target_graph.specs.declared.target.Target.{Target}
use Rattle.target_graph.specs.Workspace.{name_at}
use Rattle.target_graph.specs.Names.{is_name}
use Rattle.target_graph.specs.Walk.{AreClosed}
use Rattle.target_graph.specs.Workspace.{AreValid}
use Rattle.ob_text.specs.declared.no_memory.NoMemory.{NoMemory}
use Rattle.reload_rules.specs.Changes.{AreChanges, change_of, changed, changes_in, names_of, same_texts, with_name}
use Rattle.reload_rules.specs.declared.change.Change.{Change}
use Rattle.reload_rules.specs.declared.change.ChangedTarget.{ChangedTarget}
use Rattle.session_reload.proofs.NameLaws.{found}

texts_true : (xs ys : List (List ℕ)) → same_texts xs ys ≡ true → xs ≡ ys
texts_true xs ys = (slice_eq-Decides bytes_eq-Decides xs ys (same_texts xs ys) refl).0

true_texts : (xs ys : List (List ℕ)) → xs ≡ ys → same_texts xs ys ≡ true
true_texts xs ys = (slice_eq-Decides bytes_eq-Decides xs ys (same_texts xs ys) refl).1

-- texts that differ at an index
pub other_texts : (xs ys : List (List ℕ)) (i : ℕ) → (get_or xs i [] ≡ get_or ys i [] → ⊥) → false ≡ same_texts xs ys
other_texts xs ys i differ = sym (false_from_ne_true (same_texts xs ys) (λ same. differ (ap (λ zs. get_or zs i []) (texts_true xs ys same))))

-- texts that are the same at each
pub same_by_names : (f g : ℕ → List ℕ) (a b : List ℕ) → length a ≡ length b → ((k : ℕ) → k < length a → get_or (map f a) k [] ≡ get_or (map g b) k [])
    → same_texts (map f a) (map g b) ≡ true
same_by_names f g a b size each =
    let left : length (map f a) ≡ length a = length-map a f in
    let right : length (map g b) ≡ length b = length-map b g in
    true_texts (map f a) (map g b)
    (same_lists (map f a) (map g b) (left ∙ (size ∙ sym right))
    (λ k d h. (let k_in : k < length a = omega (arith, left) in
    get_or_default (map f a) k d [] h ∙ (each k k_in ∙ get_or_default (map g b) k [] d (omega (arith, right, size))))))

-- ---- the names at an index of two lists of dependencies

name_of : (targets : List Target) (indices : List ℕ) (i : ℕ) (target : Target) → i < length indices → get_or indices i 0 < length targets
    → target ≡ get_or targets (get_or indices i 0) target → get_or (map (name_at targets) indices) i [] ≡ target.name
name_of targets indices i target h within is =
    get_or-map (name_at targets) indices i 0 [] h
    ∙ (get_or-map (λ (t : Target). t.name) targets (get_or indices i 0) target [] within ∙ ap (λ (t : Target). t.name) (sym is))

module _ (old new : List Target) (a b : List ℕ) (i : ℕ) (x y : Target) (a_in : i < length a) (b_in : i < length b)
    (x_in : get_or a i 0 < length old) (y_in : get_or b i 0 < length new) (x_is : x ≡ get_or old (get_or a i 0) x) (y_is : y ≡ get_or new (get_or b i 0) y) where
  named : (get_or (map (name_at old) a) i [] ≡ x.name) × (get_or (map (name_at new) b) i [] ≡ y.name)
  named = (name_of old a i x a_in x_in x_is, name_of new b i y b_in y_in y_is)

  pub texts_at : not (bytes_eq (get_or old (get_or a i 0) x).name (get_or new (get_or b i 0) y).name) ≡ false → get_or (map (name_at old) a) i [] ≡ get_or (map (name_at new) b) i []
  texts_at e =
      let same = (bytes_eq-Decides (get_or old (get_or a i 0) x).name (get_or new (get_or b i 0) y).name).0 (not-false _ e) in
      named.0 ∙ (ap (λ (t : Target). t.name) x_is ∙ (same ∙ (ap (λ (t : Target). t.name) (sym y_is) ∙ sym named.1)))

  pub named_at : not (bytes_eq (get_or old (get_or a i 0) x).name (get_or new (get_or b i 0) y).name) ≡ true → get_or (map (name_at old) a) i [] ≡ get_or (map (name_at new) b) i [] → ⊥
  named_at e same =
      let equal : (get_or old (get_or a i 0) x).name ≡ (get_or new (get_or b i 0) y).name =
      ap (λ (t : Target). t.name) (sym x_is) ∙ (sym named.0 ∙ (same ∙ (named.1 ∙ ap (λ (t : Target). t.name) y_is))) in
      let t = (bytes_eq-Decides (get_or old (get_or a i 0) x).name (get_or new (get_or b i 0) y).name).1 equal in
      let f = not-true _ e in
      absurd (cc)

-- ---- one change more

cons_is : (o : Option ChangedTarget) (rest : List ChangedTarget) → cons_option o rest ≡ option_to_list o ++ rest
cons_is None rest = refl
cons_is (Some c) rest = refl

pub change_more : (old new : List Target) (name : List ℕ) (rest : List (List ℕ)) (items more : List ChangedTarget) (change : Option Change) (all : List ChangedTarget)
    → change ≡ change_of old new name → more ≡ items ++ option_to_list (changed name change) → items ++ changes_in old new (name ∷ rest) ≡ all
    → more ++ changes_in old new rest ≡ all
change_more old new name rest items more change all is grown was =
    ap (λ (xs : List ChangedTarget). xs ++ changes_in old new rest) grown
    ∙ (append_assoc items (option_to_list (changed name change)) (changes_in old new rest)
    ∙ (ap (λ (xs : List ChangedTarget). items ++ xs) (sym (cons_is (changed name change) (changes_in old new rest)))
    ∙ (ap (λ o. items ++ cons_option (changed name o) (changes_in old new rest)) is ∙ was)))

one_at_most : (name : List ℕ) (change : Option Change) → length (option_to_list (changed name change)) ≤ 1
one_at_most name None = omega arith
one_at_most name (Some c) = omega arith

pub few_more : (name : List ℕ) (items more : List ChangedTarget) (change : Option Change) → more ≡ items ++ option_to_list (changed name change)
    → (rest sides all : ℕ) → sides ≡ suc rest → length items + sides ≤ all → length more + rest ≤ all
few_more name items more change grown rest sides all one was =
    let size : length more ≡ length items + length (option_to_list (changed name change)) = ap length grown ∙ length-append items (option_to_list (changed name change)) in
    let most = one_at_most name change in
    omega arith

pub emptied : {X : Type 0} (entries : List X) → (0 < length entries → false ≡ true) → entries ≡ []
emptied [] none = refl
emptied (e ∷ es) none = absurd (false≢true (none (omega arith)))

-- ---- the targets of a name

pub closed_some : (targets : List Target) → AreClosed targets → (name : List ℕ) (target : Option (Bor Target)) → option_copied target ≡ with_name name targets
    → IfSome target (λ (t : Bor Target). All (λ index. index < length targets) t.now.dependencies)
closed_some targets closed name None is = tt
closed_some targets closed name (Some t) is =
    All-contains (λ (x : Target). All (λ index. index < length targets) x.dependencies) targets t.now closed
    (found (λ (x : Target). bytes_eq name x.name) targets t.now (sym is)).0

-- ---- the names of changes are ones of targets

changed_valid : (name : List ℕ) (change : Option Change) (rest : List ChangedTarget) → is_name name ≡ true → All (λ (c : ChangedTarget). is_name c.name ≡ true) rest
    → All (λ (c : ChangedTarget). is_name c.name ≡ true) (cons_option (changed name change) rest)
changed_valid name None rest valid others = others
changed_valid name (Some c) rest valid others =
    All-cons (λ (x : ChangedTarget). is_name x.name ≡ true) (record { name = name; change = c }) rest valid others

changes_valid : (old new : List Target) (names : List (List ℕ)) → All (λ n. is_name n ≡ true) names → All (λ (c : ChangedTarget). is_name c.name ≡ true) (changes_in old new names)
changes_valid old new [] valid = All-nil (λ (c : ChangedTarget). is_name c.name ≡ true)
changes_valid old new (name ∷ names) valid =
    changed_valid name (change_of old new name) (changes_in old new names) (All-head (λ n. is_name n ≡ true) name names valid)
    (changes_valid old new names (All-tail (λ n. is_name n ≡ true) name names valid))

names_valid : (targets : List Target) → AreValid targets → All (λ (t : Target). is_name t.name ≡ true) targets
names_valid targets valid = λ k d h. (valid k d h).0

are_valid : (old new : List Target) → AreValid old → AreValid new → (changes : List ChangedTarget) → AreChanges old new changes
    → All (λ (c : ChangedTarget). is_name c.name ≡ true) changes
are_valid old new old_valid new_valid changes are =
    let all = All-map (λ n. is_name n ≡ true) (λ (t : Target). t.name) (old ++ new)
    (All-append (λ (t : Target). is_name t.name ≡ true) old new (names_valid old old_valid) (names_valid new new_valid)) in
    All-same (λ (c : ChangedTarget). is_name c.name ≡ true) changes (changes_in old new are.names) are.are_changes
    (changes_valid old new are.names (λ k d h. All-contains (λ n. is_name n ≡ true) (names_of (old ++ new)) (get_or are.names k d) all (are.are_names.each k d h)))

pub all_valid : (old new : List Target) → AreValid old → AreValid new → (r : Result (Vec ChangedTarget Global) NoMemory) → IfOk r (λ changes. AreChanges old new changes.items)
    → IfOk r (λ changes. All (λ (c : ChangedTarget). is_name c.name ≡ true) changes.items)
all_valid old new old_valid new_valid (Ok changes) are = are_valid old new old_valid new_valid changes.items are
all_valid old new old_valid new_valid (Err e) are = tt
