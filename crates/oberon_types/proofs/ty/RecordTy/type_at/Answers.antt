use Rattle.std.proofs.Common.{map, Some, ap, sym, ◌∙◌, arith}
use Rattle.oberon_types.specs.declared.ty.Ty.TheVariants as tys
use Rattle.oberon_types.specs.Memory.{plain_ty, type_at}
use Rattle.oberon_types.proofs.TypeMemory.{types_out, known_is}
use Rattle.oberon_types.proofs.ty.RecordTy.type_at.Goals as goal

pub returns-clause-is : goal.returns-clause-is
returns-clause-is c =
    known_is c.get.result c.deref.result.now c.args.at (c.get.ensures.lookup.4 (omega arith) tys.Unknown)
    ∙ ap (λ ts. type_at ts (Some c.args.at)) (ap (map plain_ty) c.deref.ensures.value ∙ sym (types_out c.args.self.now))
