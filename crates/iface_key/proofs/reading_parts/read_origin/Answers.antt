use Rattle.iface_key.proofs.Listed.{exits}
use Rattle.iface_key.proofs.PartLaws.{no_origin_home, no_origin_procedure, no_origin_name, no_origin_path}
use Rattle.iface_key.proofs.reading_parts.read_origin.Goals as goal

pub returns-in_err-home : goal.returns-in_err-home
returns-in_err-home c = exits _ _ c.from_residual.result c.in_err-home.field-0.0 c.from_residual.ensures.1 (λ e. no_origin_home c.args.text.now (c.in_err-home.ensures e))

pub returns-in_err-procedure : goal.returns-in_err-procedure
returns-in_err-procedure c = exits _ _ c.from_residual-in_err-procedure.result c.in_err-procedure.field-0.0 c.from_residual-in_err-procedure.ensures.1 (λ e. no_origin_procedure c.args.text.now c.in_ok-home.behind_home.now c.in_ok-home.home c.in_ok-home.ensures (c.in_err-procedure.ensures e))

pub returns-in_err-name : goal.returns-in_err-name
returns-in_err-name c = exits _ _ c.from_residual-in_err-name.result c.in_err-name.field-0.0 c.from_residual-in_err-name.ensures.1 (λ e. no_origin_name c.args.text.now c.in_ok-home.behind_home.now c.in_ok-home.home c.in_ok-home.ensures c.in_ok-procedure.behind_procedure.now c.in_ok-procedure.procedure c.in_ok-procedure.ensures (c.in_err-name.ensures e))

pub returns-in_err-path : goal.returns-in_err-path
returns-in_err-path c = exits _ _ c.from_residual-in_err-path.result c.in_err-path.field-0.0 c.from_residual-in_err-path.ensures.1 (λ e. no_origin_path c.args.text.now c.in_ok-home.behind_home.now c.in_ok-home.home c.in_ok-home.ensures c.in_ok-procedure.behind_procedure.now c.in_ok-procedure.procedure c.in_ok-procedure.ensures c.in_ok-name.behind_name.now c.in_ok-name.name c.in_ok-name.ensures (c.in_err-path.ensures e))
