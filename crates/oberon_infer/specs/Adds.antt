-- What a function adds to what is said.
use Rattle.std.specs.Prelude.{◌≡◌, List, ◌++◌, map}
use Rattle.oberon_infer.specs.declared.said.Said.{Said as OwnSaid}
use Rattle.oberon_infer.specs.Memory.{plain_said}
use Rattle.oberon_rules.specs.Scopes.{Said}

-- With `new`, what is said in front of a rest goes on by `g` as it did with `old` by `f`.
pub record Goes (old new : List OwnSaid) (f g : List Said → List Said) : Type 0 where
  pub goes : (rest : List Said) → map plain_said new ++ g rest ≡ map plain_said old ++ f rest

abbrev pub Adds : List OwnSaid → List OwnSaid → (List Said → List Said) → Type 0
Adds old new f = Goes old new f (λ rest. rest)
