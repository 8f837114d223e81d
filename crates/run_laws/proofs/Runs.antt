-- What calls and whole runs pay for.
use Rattle.std.proofs.Common.{ℕ, zero, suc, ◌+◌, ◌-◌, ◌≤◌, Bool, true, false, List, [], ◌∷◌, length, drop, Option, Some, None, arith}
use Rattle.std.specs.Prelude.{nat_lt, if◌then◌else◌}
use Rattle.oberon_rules.specs.Procedures.{signature_of}
use Rattle.run_rules.specs.World.{World, Ran, went, stopped, At, ticks}
use Rattle.run_rules.specs.Cells.{Spot, Operand, nothing}
use Rattle.run_rules.specs.Linked.{Source, Linked, linked_as, Found, procedure_in, cells_from, program_of}
use Rattle.run_rules.specs.Expressions.{Calls}
use Rattle.run_rules.specs.Statements.{body_does, most_live, entered, entries, inside_of, procedure_does, found_does, module_procedure, calls}
use Rattle.oberon_rules.specs.Scopes.{Entry}
use Rattle.run_rules.specs.Runs.{finished, module_env, bodies_do, word_of, begun, modules_run, run_main, run_test}
use Rattle.run_laws.proofs.Paid.{paid_same, ticks_paid}
use Rattle.run_laws.proofs.Expressions.{CallsPay}
use Rattle.run_laws.proofs.Statements.{Settles, then_settles, settled_pays, body_settles, procedure_settles}

if_settles : {A : Type 0} (q : Bool) (w : World) (r s : Ran A) → Settles w r → Settles w s → Settles w (if q then r else s)
if_settles true w r s p n = p
if_settles false w r s p n = n

-- ---- calls

entered_settles : (at : At) (mark : ℕ) (es : List Entry) (w : World) → Settles w (entered at mark es w)
entered_settles at mark es w = if_settles (nat_lt most_live (w.live + (length w.cells - mark + length (cells_from es)))) w _ _ (paid_same 0 w) (record { left = omega arith; output = omega arith })

found_settles : (c : Calls) → CallsPay c → (ms : List Linked) (at : At) (mark : ℕ) (spots : List Spot) (m : Linked) (f : Option Found) (w : World) → Settles w (found_does c ms at mark spots m f w)
found_settles c good ms at mark spots m None w = paid_same 0 w
found_settles c good ms at mark spots m (Some f) w =
    let v = inside_of ms m f spots (length w.cells) in
    let t = (signature_of m.source.stem f.before f.procedure).result_type in
    then_settles w (entered at mark (drop (length spots) (entries v.scope.locals)) w) _ (entered_settles at mark (drop (length spots) (entries v.scope.locals)) w)
    (λ own u. then_settles u (procedure_does c v f.procedure t u) _ (procedure_settles c good v f.procedure t u) (λ x z. record { left = omega arith; output = omega arith }))

pub module_procedure_settles : (c : Calls) → CallsPay c → (ms : List Linked) (x : List ℕ) (at : At) (mark : ℕ) (spots : List Spot) (m : Option Linked) (w : World) → Settles w (module_procedure c ms x at mark spots m w)
module_procedure_settles c good ms x at mark spots None w = paid_same 0 w
module_procedure_settles c good ms x at mark spots (Some m) w = found_settles c good ms at mark spots m (procedure_in ms x m) w

pub calls_pay : (ms : List Linked) (d : ℕ) → CallsPay (calls ms d)
calls_pay ms zero m x at mark spots w = paid_same 1 w
calls_pay ms (suc d) m x at mark spots w = settled_pays w _ (module_procedure_settles (calls ms d) (calls_pay ms d) ms x at mark spots (linked_as m ms) w)

-- ---- runs

bodies_settle : (ms rest : List Linked) (w : World) → Settles w (bodies_do ms rest w)
bodies_settle ms [] w = paid_same 0 w
bodies_settle ms (m ∷ rest) w = then_settles w (ticks 1 w) _ (ticks_paid 1 w) (λ n u. then_settles u (body_does (calls ms 256) (module_env ms m) m.source.tree.body u) _ (body_settles (calls ms 256) (calls_pay ms 256) (module_env ms m) m.source.tree.body u) (λ k z. bodies_settle ms rest z))

modules_settle : (ms : List Linked) (at : At) (w : World) → Settles w (modules_run ms at w)
modules_settle ms at w = if_settles (nat_lt most_live (length w.cells)) w _ _ (paid_same 0 w) (bodies_settle ms ms w)

finished_within : (ms : List Linked) (at : At) (limit : ℕ) (r : Ran Operand) → Settles (begun ms limit) r → (length (finished ms at limit r).output ≤ (finished ms at limit r).steps) × ((finished ms at limit r).steps ≤ limit)
finished_within ms at limit (went x v) p = (omega (arith, p.output, p.left), omega arith)
finished_within ms at limit (stopped e v) p = (omega (arith, p.output, p.left), omega arith)

pub run_within : (sources : List Source) (main : List ℕ) (limit : ℕ) → (length (run_main sources main limit).output ≤ (run_main sources main limit).steps) × ((run_main sources main limit).steps ≤ limit)
run_within sources main limit =
    let ms = program_of sources main in
    let at = word_of (linked_as main ms) in
    finished_within ms at limit _ (then_settles (begun ms limit) (modules_run ms at (begun ms limit)) (λ n w. went nothing w) (modules_settle ms at (begun ms limit)) (λ n w. paid_same 0 w))

pub test_within : (sources : List Source) (m x : List ℕ) (limit : ℕ) → (length (run_test sources m x limit).output ≤ (run_test sources m x limit).steps) × ((run_test sources m x limit).steps ≤ limit)
test_within sources m x limit =
    let ms = program_of sources m in
    let at = word_of (linked_as m ms) in
    finished_within ms at limit _ (then_settles (begun ms limit) (modules_run ms at (begun ms limit)) (λ n w. module_procedure (calls ms 256) ms x at (length w.cells) [] (linked_as m ms) w) (modules_settle ms at (begun ms limit)) (λ n w. module_procedure_settles (calls ms 256) (calls_pay ms 256) ms x at (length w.cells) [] (linked_as m ms) w))
