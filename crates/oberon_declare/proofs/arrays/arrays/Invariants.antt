use Rattle.std.proofs.Common.{◌≡◌, vec_len}
use Rattle.oberon_types.specs.Memory.{plain_ty}
use Rattle.oberon_infer.specs.Adds.{Goes}
use Rattle.oberon_declare.specs.Arrays.{arrays_is, arrays_row}
use Rattle.oberon_declare.proofs.arrays.arrays.Given as goal

abbrev pub decreases-loop-length : goal.decreases-loop-length
decreases-loop-length l = vec_len l.lengths

abbrev pub invariant-loop-length : goal.invariant-loop-length
invariant-loop-length l = record {
  made : arrays_is l.me l.lengths.items (plain_ty l.ty) ≡ arrays_is l.me l.initial.lengths.items (plain_ty l.initial.ty);
  says : Goes l.initial.said.items l.said.items (arrays_row l.me l.initial.lengths.items (plain_ty l.initial.ty) l.word) (arrays_row l.me l.lengths.items (plain_ty l.ty) l.word);
}
