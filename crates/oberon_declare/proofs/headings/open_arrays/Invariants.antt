use Rattle.std.specs.Prelude.{◌≡◌, drop}
use Rattle.oberon_types.specs.Memory.{plain_ty}
use Rattle.oberon_rules.specs.Procedures.{opened, open_rows}
use Rattle.oberon_infer.specs.Adds.{Goes}
use Rattle.oberon_declare.proofs.headings.open_arrays.Given as goal

abbrev pub invariant-loop-open : goal.invariant-loop-open
invariant-loop-open l = record {
  made : opened l.me (drop l._open-index l.opens) (plain_ty l.ty) ≡ opened l.me l.opens (plain_ty l.initial.ty);
  says : Goes l.initial.said.items l.said.items (open_rows l.me l.opens (plain_ty l.initial.ty) l.place) (open_rows l.me (drop l._open-index l.opens) (plain_ty l.ty) l.place);
}
