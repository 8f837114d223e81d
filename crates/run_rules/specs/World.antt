-- What a run has in hand, and how a part of it comes out.
use Rattle.std.specs.Prelude.{ℕ, ◌-◌, nat_le, if◌then◌else◌, List, ◌++◌}
use Rattle.oberon_types.specs.declared.value.Value.{Value}
use Rattle.run_rules.specs.declared.trap_kind.TrapKind.{TrapKind}

-- The cells of all variables: of the modules first, then of each call. How many of them are live, since a call's cells
-- count from its entry on; the bytes written; the steps that are left.
pub record World : Type 0 where
  pub cells : List Value
  pub live : ℕ
  pub output : List ℕ
  pub left : ℕ

-- a trap, with the stem of the module in whose text it is and the offset there; no step is left; or no rule applies
pub data Ending : Type 0 where
  trapped : TrapKind → List ℕ → ℕ → Ending
  out_of_steps : Ending
  no_rule : Ending

-- a part of a run gives something and goes on, or ends the run
pub data Ran (A : Type 0) : Type 0 where
  went : A → World → Ran A
  stopped : Ending → World → Ran A

-- what a part does
abbrev pub Gives : Type 0 → Type 0
Gives A = World → Ran A

-- one part behind another
abbrev pub then_do : {A B : Type 0} → Ran A → (A → Gives B) → Ran B
then_do (went x w) go = go x w
then_do (stopped e w) go = stopped e w

-- a place in a text: the stem of its module, and the offset
pub record At : Type 0 where
  pub stem : List ℕ
  pub offset : ℕ

abbrev pub trap : {A : Type 0} → TrapKind → At → Gives A
trap kind at w = stopped (trapped kind at.stem at.offset) w

abbrev pub stuck : {A : Type 0} → Gives A
stuck w = stopped no_rule w

-- so many steps, if they are left; else all steps are taken, and nothing else happens
abbrev pub ticks : ℕ → Gives ℕ
ticks n w =
    if nat_le n w.left then went n (record { cells = w.cells; live = w.live; output = w.output; left = w.left - n })
    else stopped out_of_steps (record { cells = w.cells; live = w.live; output = w.output; left = 0 })

abbrev pub with_cells : World → List Value → World
with_cells w cells = record { cells = cells; live = w.live; output = w.output; left = w.left }

abbrev pub with_output : World → List ℕ → World
with_output w bytes = record { cells = w.cells; live = w.live; output = w.output ++ bytes; left = w.left }
