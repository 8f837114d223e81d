use Rattle.std.specs.Prelude.{ℕ, ◌≡◌, List, Option, IfOk}
use Rattle.std.proofs.Common.{◌∙◌, ap, subst}
use Rattle.std.proofs.lemmas.Result.{on_ok_weaker}
use Rattle.oberon_tree.specs.Memory.{exprs_tree}
use Rattle.oberon_types.specs.Memory.{plain_ty}
use Rattle.oberon_types.specs.Types.{TyTree}
use Rattle.oberon_infer.specs.Memory.{plain_scopes}
use Rattle.oberon_declare.specs.Arrays.{lengths_say, arrays_is, arrays_row}
use Rattle.oberon_declare.proofs.ArrayLaws.{array_by, array_says_by}
use Rattle.oberon_declare.proofs.SaidLaws.{both_add}
use Rattle.oberon_declare.proofs.arrays.array.Goals as goal

pub returns-clause-is : goal.returns-clause-is
returns-clause-is c =
    let me = c.args.me.now in
    let s = plain_scopes c.args.scopes.now in
    let es = exprs_tree c.args.lengths.now in
    let t = plain_ty c.args.element in
    let P : TyTree → Type 0 = λ u. IfOk c.arrays.result (λ v. plain_ty v ≡ u) in
    subst P (ap (λ (ns : List (Option ℕ)). arrays_is me ns t) c.in_ok-lengths.ensures.is ∙ array_by me s es t) c.arrays.ensures.is

pub returns-clause-says : goal.returns-clause-says
returns-clause-says c =
    let me = c.args.me.now in
    let s = plain_scopes c.args.scopes.now in
    let es = exprs_tree c.args.lengths.now in
    let t = plain_ty c.args.element in
    on_ok_weaker c.arrays.result (λ a. both_add _ _ _ _ _ _ c.in_ok-lengths.ensures.says a (λ rest. ap (λ (ns : List (Option ℕ)). lengths_say me s es (arrays_row me ns t c.args.word rest)) c.in_ok-lengths.ensures.is ∙ array_says_by me s es t c.args.word rest)) c.arrays.ensures.says
