-- What holds of each pair.
use Rattle.std.proofs.Common.{◌≡◌, ℕ, suc, ◌+◌, ◌<◌, true, List, [], ◌∷◌, length, All, ap, subst, ◌∙◌, zero-add, arith}
use Rattle.std.proofs.lemmas.List.{get_or-map}
use Rattle.std.proofs.lemmas.List.Elements.{All-nil, All-head, All-tail, All-map, All-append, All-weaker}
use Rattle.target_graph.specs.declared.target.Pair.{Pair}
use Rattle.target_graph.specs.declared.target.Target.{Target}
use Rattle.target_graph.specs.Names.{is_name, is_path}
use Rattle.target_graph.specs.Workspace.{pairs_at, pairs_from, pairs_of, name_at, path_at, AreValid}

abbrev IsValid : Target → Type 0
IsValid target = (is_name target.name ≡ true) × All (λ path. is_path path ≡ true) target.modules

valid_from : (n : ℕ) (targets : List Target) → AreValid targets → All (λ (pair : Pair). is_path pair.path ≡ true) (pairs_from n targets)
valid_from n [] valid = All-nil (λ (pair : Pair). is_path pair.path ≡ true)
valid_from n (target ∷ targets) valid =
    All-append (λ (pair : Pair). is_path pair.path ≡ true) (pairs_at n target.modules) (pairs_from (suc n) targets)
    (All-map (λ (pair : Pair). is_path pair.path ≡ true) (λ (path : List ℕ). let p : Pair = record { target = n; path = path } in p) target.modules (All-head IsValid target targets valid).1)
    (valid_from (suc n) targets (All-tail IsValid target targets valid))

-- the path of each pair is a module's path
pub pairs_valid : (targets : List Target) → AreValid targets → All (λ (pair : Pair). is_path pair.path ≡ true) (pairs_of targets)
unfolding pairs_of
pairs_valid targets valid = valid_from 0 targets valid

within_from : (n : ℕ) (targets : List Target) → All (λ (pair : Pair). pair.target < n + length targets) (pairs_from n targets)
within_from n [] = All-nil (λ (pair : Pair). pair.target < n + 0)
within_from n (target ∷ targets) =
    All-append (λ (pair : Pair). pair.target < n + length (target ∷ targets)) (pairs_at n target.modules) (pairs_from (suc n) targets)
    (All-map (λ (pair : Pair). pair.target < n + length (target ∷ targets)) (λ (path : List ℕ). let p : Pair = record { target = n; path = path } in p) target.modules (λ k d h. omega arith))
    (All-weaker (λ (pair : Pair). pair.target < suc n + length targets) (λ (pair : Pair). pair.target < n + length (target ∷ targets)) (λ pair h. omega arith) (pairs_from (suc n) targets)
    (within_from (suc n) targets))

-- the target of each pair is one of the targets
pub pairs_within : (targets : List Target) → All (λ (pair : Pair). pair.target < length targets) (pairs_of targets)
unfolding pairs_of
pairs_within targets = subst (λ n. All (λ (pair : Pair). pair.target < n) (pairs_of targets)) (zero-add (length targets)) (within_from 0 targets)

-- the name at an index is one
pub name_valid : (targets : List Target) (t : ℕ) (target : Target) → t < length targets → AreValid targets → is_name (name_at targets t) ≡ true
name_valid targets t target h valid = ap is_name (get_or-map (λ (x : Target). x.name) targets t target [] h) ∙ (valid t target h).0

-- the path of the pair at an index is one
pub path_valid : (targets : List Target) (q : ℕ) (pair : Pair) → q < length (pairs_of targets) → AreValid targets → is_path (path_at targets q) ≡ true
path_valid targets q pair h valid = ap is_path (get_or-map (λ (x : Pair). x.path) (pairs_of targets) q pair [] h) ∙ pairs_valid targets valid q pair h
