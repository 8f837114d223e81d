-- What is said by one step and then by another.
use Rattle.std.specs.Prelude.{◌≡◌, ◌++◌, List, map, Result, Ok, Err, OnOk}
use Rattle.std.proofs.Common.{ap, sym, ◌∙◌}
use Rattle.oberon_infer.specs.declared.said.Said.{Said as OwnSaid}
use Rattle.oberon_infer.specs.Memory.{plain_said}
use Rattle.oberon_infer.specs.Adds.{Goes, Adds}
use Rattle.oberon_rules.specs.Scopes.{Said}

pub then_adds : (old mid new : List OwnSaid) (f g : List Said → List Said) → Adds old mid f → Adds mid new g → Adds old new (λ rest. f (g rest))
then_adds old mid new f g a b = record { goes = λ rest. b.goes rest ∙ a.goes (g rest) }

pub adds_as : (old new : List OwnSaid) (f g : List Said → List Said) → Adds old new f → ((rest : List Said) → f rest ≡ g rest) → Adds old new g
adds_as old new f g a same = record { goes = λ rest. a.goes rest ∙ ap (λ said. map plain_said old ++ said) (same rest) }

-- what is left from here on, by what one more step says
pub goes_on : (old mid new : List OwnSaid) (f g h : List Said → List Said) → Goes old mid f (λ rest. g (h rest)) → Adds mid new g → Goes old new f h
goes_on old mid new f g h a b = record { goes = λ rest. b.goes (h rest) ∙ a.goes rest }

-- two steps, as one
pub both_add : (old mid new : List OwnSaid) (f g h : List Said → List Said) → Adds old mid f → Adds mid new g → ((rest : List Said) → f (g rest) ≡ h rest) → Adds old new h
both_add old mid new f g h a b same = record { goes = λ rest. b.goes rest ∙ a.goes (g rest) ∙ ap (λ said. map plain_said old ++ said) (same rest) }

-- three steps, as one
pub three_add : (one two three four : List OwnSaid) (f g k h : List Said → List Said) → Adds one two f → Adds two three g → Adds three four k → ((rest : List Said) → f (g (k rest)) ≡ h rest) → Adds one four h
three_add one two three four f g k h a b d same = record { goes = λ rest. d.goes rest ∙ b.goes (k rest) ∙ a.goes (g (k rest)) ∙ ap (λ said. map plain_said one ++ said) (same rest) }

-- a first step, and a loop that comes to its end
pub said_all : (old mid new : List OwnSaid) (f g k h : List Said → List Said) → Adds old mid f → Goes mid new g k → ((rest : List Said) → k rest ≡ rest) → ((rest : List Said) → f (g rest) ≡ h rest) → Adds old new h
said_all old mid new f g k h a b end same = record { goes = λ rest. sym (ap (λ said. map plain_said new ++ said) (end rest)) ∙ b.goes rest ∙ a.goes (g rest) ∙ ap (λ said. map plain_said old ++ said) (same rest) }

-- a loop that comes to its end
pub said_end : (old new : List OwnSaid) (g k : List Said → List Said) → Goes old new g k → ((rest : List Said) → k rest ≡ rest) → Adds old new g
said_end old new g k b end = record { goes = λ rest. sym (ap (λ said. map plain_said new ++ said) (end rest)) ∙ b.goes rest }

-- one step of a loop
pub goes_on_as : (old mid new : List OwnSaid) (f g k h : List Said → List Said) → Goes old mid f g → Adds mid new k → ((rest : List Said) → g rest ≡ k (h rest)) → Goes old new f h
goes_on_as old mid new f g k h a b same = record { goes = λ rest. b.goes (h rest) ∙ sym (ap (λ said. map plain_said mid ++ said) (same rest)) ∙ a.goes rest }

-- what holds whatever a call answers
pub on_ok_always : {T E : Type 0} (r : Result T E) (P : Type 0) → P → OnOk r P
on_ok_always (Ok x) P p = p
on_ok_always (Err e) P p = tt
