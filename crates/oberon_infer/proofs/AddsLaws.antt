-- What is said, added step by step.
use Rattle.std.specs.Prelude.{◌≡◌, List, ◌++◌, map, Result, OnOk, IfOk, refl}
use Rattle.std.proofs.Common.{ap, sym, ◌∙◌}
use Rattle.std.proofs.lemmas.Result.{IfOk-weaker}
use Rattle.oberon_rules.specs.Scopes.{Said}
use Rattle.oberon_infer.specs.declared.said.Said.{Said as OwnSaid}
use Rattle.oberon_infer.specs.Memory.{plain_said}
use Rattle.oberon_infer.specs.Adds.{Goes, Adds}

pub adds_none : (a : List OwnSaid) → Adds a a (λ rest. rest)
adds_none a = record { goes = λ rest. refl }

pub adds_then : {a b c : List OwnSaid} {f g : List Said → List Said} → Adds a b f → Adds b c g → Adds a c (λ rest. f (g rest))
adds_then {f} {g} p q = record { goes = λ rest. q.goes rest ∙ p.goes (g rest) }

-- the same, said otherwise
pub adds_as : {a b : List OwnSaid} {f g : List Said → List Said} → Adds a b f → ((rest : List Said) → f rest ≡ g rest) → Adds a b g
adds_as {a} p same = record { goes = λ rest. p.goes rest ∙ ap (λ y. map plain_said a ++ y) (same rest) }

-- a last call, whose answer is the answer
pub adds_last : {X E : Type 0} (r : Result X E) (c : List OwnSaid) (g h : List Said → List Said) {a b : List OwnSaid} {f : List Said → List Said} → Adds a b f → OnOk r (Adds b c g) → ((rest : List Said) → f (g rest) ≡ h rest) → OnOk r (Adds a c h)
adds_last r c g h {a} {b} {f} p q same = IfOk-weaker r (λ _. Adds b c g) (λ _. Adds a c h) (λ _ last. adds_as (adds_then p last) same) q

pub adds_only : {X E : Type 0} (r : Result X E) (a b : List OwnSaid) (f g : List Said → List Said) → OnOk r (Adds a b f) → ((rest : List Said) → f rest ≡ g rest) → OnOk r (Adds a b g)
adds_only r a b f g p same = IfOk-weaker r (λ _. Adds a b f) (λ _. Adds a b g) (λ _ last. adds_as last same) p

pub is_as : {X E Y : Type 0} (r : Result X E) (plain : X → Y) (y z : Y) → IfOk r (λ x. plain x ≡ y) → y ≡ z → IfOk r (λ x. plain x ≡ z)
is_as r plain y z p e = IfOk-weaker r (λ x. plain x ≡ y) (λ x. plain x ≡ z) (λ x is. is ∙ e) p

-- ---- loops: what is left, from here, is what all was

pub goes_none : (a : List OwnSaid) (f : List Said → List Said) → Goes a a f f
goes_none a f = record { goes = λ rest. refl }

pub goes_on : {a b c : List OwnSaid} {f g h k : List Said → List Said} → Goes a b f g → Adds b c h → ((rest : List Said) → g rest ≡ h (k rest)) → Goes a c f k
goes_on {b} {k} p q same = record { goes = λ rest. q.goes (k rest) ∙ ap (λ y. map plain_said b ++ y) (sym (same rest)) ∙ p.goes rest }

pub goes_end : {a b : List OwnSaid} {f g : List Said → List Said} → Goes a b f g → ((rest : List Said) → g rest ≡ rest) → Adds a b f
goes_end {b} p same = record { goes = λ rest. ap (λ y. map plain_said b ++ y) (sym (same rest)) ∙ p.goes rest }

pub goes_to : {a b : List OwnSaid} {f g h : List Said → List Said} → Goes a b f g → ((rest : List Said) → g rest ≡ h rest) → Goes a b f h
goes_to {b} p same = record { goes = λ rest. ap (λ y. map plain_said b ++ y) (sym (same rest)) ∙ p.goes rest }
