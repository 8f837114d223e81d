-- Whole runs: of a main module, and of a test of a module. `sources` are the modules of a workspace that build clean, in
-- whatever order; those that aren't imported, directly or have no part in a run.
use Rattle.std.specs.Prelude.{ℕ, ◌-◌, nat_lt, Bool, true, ◌&&◌, not, if◌then◌else◌, codes, List, [], ◌∷◌, ◌++◌, take, length, is_some, Option, Some, None}
use Rattle.std.specs.Fmt.{decimal}
use Rattle.ob_text.specs.declared.position.Position.{Position}
use Rattle.ob_text.specs.Position.{position_at}
use Rattle.oberon_tree.specs.Trees.{FormalsTree, ProcedureTree, ProcedureItemTree, ModuleTree}
use Rattle.oberon_types.specs.Types.{same_name}
use Rattle.oberon_rules.specs.Declarations.{is_exported}
use Rattle.run_rules.specs.declared.trap_kind.TrapKind.{TrapKind}
use Rattle.run_rules.specs.declared.trap_kind.TrapKind.TheVariants as traps
use Rattle.run_rules.specs.World.{World, Ending, trapped, out_of_steps, no_rule, Ran, went, stopped, Gives, then_do, At, trap, ticks}
use Rattle.run_rules.specs.Cells.{Operand, nothing}
use Rattle.run_rules.specs.Linked.{Source, Linked, linked_as, program_of, cells_of_all}
use Rattle.run_rules.specs.Expressions.{Env}
use Rattle.run_rules.specs.Statements.{body_does, module_procedure, calls, most_live}

-- ---- how a run ends

-- a trap, with the stem of the module in whose text it is and its position there
pub data End : Type 0 where
  done : End
  trap_at : TrapKind → List ℕ → Position → End
  no_steps : End

-- with the bytes that it wrote and the steps that it took
pub record Finished : Type 0 where
  pub end : End
  pub output : List ℕ
  pub steps : ℕ

abbrev pub text_among : Option Linked → List ℕ
text_among None = []
text_among (Some m) = m.source.text

abbrev pub trap_in : List Linked → TrapKind → List ℕ → ℕ → End
trap_in ms kind stem offset = trap_at kind stem (position_at (text_among (linked_as stem ms)) offset)

-- where no rule applies the place is that of the whole run
abbrev pub end_of : List Linked → At → Ending → End
end_of ms at (trapped kind stem offset) = trap_in ms kind stem offset
end_of ms at out_of_steps = no_steps
end_of ms at no_rule = trap_in ms traps.Stuck at.stem at.offset

abbrev pub finished : List Linked → At → ℕ → Ran Operand → Finished
finished ms at limit (went x w) = record { end = done; output = w.output; steps = limit - w.left }
finished ms at limit (stopped e w) = record { end = end_of ms at e; output = w.output; steps = limit - w.left }

-- ---- runs

abbrev pub module_env : List Linked → Linked → Env
module_env ms m = record { modules = ms; own = m; scope = m.scope; locals = [] }

-- the bodies of modules, each once, in order
abbrev pub bodies_do : List Linked → List Linked → Gives ℕ
bodies_do ms [] w = went 0 w
bodies_do ms (m ∷ rest) w = then_do (ticks 1 w) (λ n w1. then_do (body_does (calls ms 256) (module_env ms m) m.source.tree.body w1) (λ k w2. bodies_do ms rest w2))

-- the word MODULE of the main or tested module is the place of the whole run
abbrev pub word_of : Option Linked → At
word_of None = record { stem = []; offset = 0 }
word_of (Some m) = record { stem = m.source.stem; offset = m.source.tree.word.start }

abbrev pub begun : List Linked → ℕ → World
begun ms limit = record { cells = cells_of_all ms; live = length (cells_of_all ms); output = []; left = limit }

-- the variables of the modules, and then their bodies
abbrev pub modules_run : List Linked → At → Gives ℕ
modules_run ms at w = if nat_lt most_live (length w.cells) then trap traps.Storage at w else bodies_do ms ms w

abbrev pub program_runs : List Linked → List ℕ → ℕ → Finished
program_runs ms main limit =
    let at = word_of (linked_as main ms) in
    finished ms at limit (then_do (modules_run ms at (begun ms limit)) (λ n w. went nothing w))

-- a run of the main module of this stem
abbrev pub run_main : List Source → List ℕ → ℕ → Finished
run_main sources main limit = program_runs (program_of sources main) main limit

abbrev pub program_tested : List Linked → List ℕ → List ℕ → ℕ → Finished
program_tested ms m x limit =
    let at = word_of (linked_as m ms) in
    finished ms at limit (then_do (modules_run ms at (begun ms limit)) (λ n w. module_procedure (calls ms 256) ms x at (length w.cells) [] (linked_as m ms) w))

-- a test, a procedure of this name in the module of this stem, behind the bodies of the modules
abbrev pub run_test : List Source → List ℕ → List ℕ → ℕ → Finished
run_test sources m x limit = program_tested (program_of sources m) m x limit

-- ---- what is said of an end

abbrev pub kind_text : TrapKind → List ℕ
kind_text traps.Overflow = codes "overflow"
kind_text traps.Division = codes "division"
kind_text traps.Index = codes "index"
kind_text traps.Range = codes "range"
kind_text traps.NoCase = codes "noCase"
kind_text traps.Guard = codes "guard"
kind_text traps.Assertion = codes "assertion"
kind_text traps.Depth = codes "depth"
kind_text traps.Storage = codes "storage"
kind_text traps.Stuck = codes "stuck"

abbrev pub position_text : Position → List ℕ
position_text p = decimal p.line ++ codes ":" ++ decimal p.character

abbrev pub end_text : End → Option (List ℕ)
end_text done = None
end_text (trap_at kind stem p) = Some (codes "trap " ++ kind_text kind ++ codes " at " ++ stem ++ codes " " ++ position_text p)
end_text no_steps = Some (codes "out of steps")

-- ---- the tests of a module: its exported procedures without parameters and result whose names begin with Test

abbrev pub takes_and_gives_nothing : Option FormalsTree → Bool
takes_and_gives_nothing None = true
takes_and_gives_nothing (Some f) = not (is_some f.sections) && not (is_some f.result_type)

abbrev pub is_test : ProcedureTree → Bool
is_test p = is_exported p.name && takes_and_gives_nothing p.formals && same_name (take 4 p.name.name.name) (codes "Test")

abbrev pub tests_among : List ProcedureItemTree → List (List ℕ)
tests_among [] = []
tests_among (p ∷ ps) = if is_test p.procedure then p.procedure.name.name.name ∷ tests_among ps else tests_among ps

-- in the order of the text
abbrev pub tests_of : ModuleTree → List (List ℕ)
tests_of m = tests_among m.procedures
