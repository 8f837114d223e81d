-- What bytes lead to, one list of them after another.
use Rattle.std.proofs.Common.{◌≡◌, ℕ, List, [], ◌∷◌, ◌++◌, sym, ◌∙◌, ap, refl}
use Rattle.rpc_frame.specs.declared.damage.DamageKind.{DamageKind}
use Rattle.rpc_frame.specs.declared.damage.DamageKind.TheVariants.{Truncated}
use Rattle.rpc_frame.specs.declared.head.Head.{Head}
use Rattle.rpc_frame.specs.declared.head.Next.{Next}
use Rattle.rpc_frame.specs.declared.head.Next.TheVariants.{On, Closed, Bad}
use Rattle.rpc_frame.specs.Heads.{run, spot_next}

pub run_bad : (kind : DamageKind) (x : List ℕ) → run (Bad kind) x ≡ Bad kind
run_bad kind [] = refl
run_bad kind (b ∷ x) = refl

pub run-append : (n : Next) (x y : List ℕ) → run n (x ++ y) ≡ run (run n x) y
run-append n [] y = refl
run-append (On head) (b ∷ x) y = run-append (spot_next head.spot head.size b) x y
run-append (Closed size) (b ∷ x) y = sym (run_bad Truncated y)
run-append (Bad kind) (b ∷ x) y = sym (run_bad kind y)

-- bytes behind what a list of them led to
pub run_on : (n m : Next) (x y : List ℕ) → run n x ≡ m → run n (x ++ y) ≡ run m y
run_on n m x y e = run-append n x y ∙ ap (λ t. run t y) e

-- Behind a closed header part there is nothing to read.
pub closed_on : (size : ℕ) (x : List ℕ) (head : Head) → run (Closed size) x ≡ On head → ⊥
closed_on size [] head e = cc
closed_on size (b ∷ x) head e = cc

pub closed_bad : (size : ℕ) (x : List ℕ) (kind : DamageKind) → run (Closed size) x ≡ Bad kind → kind ≡ Truncated
closed_bad size [] kind e = cc
closed_bad size (b ∷ x) kind e = cc

pub closed_same : (size said : ℕ) (x : List ℕ) → run (Closed size) x ≡ Closed said → (x ≡ []) × (size ≡ said)
closed_same size said [] e = (refl, cc)
closed_same size said (b ∷ x) e = cc
