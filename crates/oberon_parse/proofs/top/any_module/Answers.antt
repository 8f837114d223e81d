use Rattle.std.proofs.Common.{refl, arith, ◌∷◌, ◌++◌, ◌∙◌, []}
use Rattle.oberon_productions.specs.Machine.{declarations_parts, module_parts}
use Rattle.oberon_productions.proofs.Descending.{via, exits, behind}
use Rattle.oberon_productions.specs.Expected as want
use Rattle.oberon_scan.specs.declared.token.Symbol.TheVariants as symbols
use Rattle.oberon_scan.specs.declared.token.Word.TheVariants as words
use Rattle.oberon_parse.proofs.top.any_module.Goals as goal

pub returns-in_err-declarations : goal.returns-in_err-declarations
returns-in_err-declarations c =
    exits _ _ c.from_residual-in_err-declarations.result c.in_err-declarations.field-0.0 c.from_residual-in_err-declarations.ensures.1
    (via (declarations_parts c.args.levels ++ []) (module_parts c.args.levels) _ c.args.given.now _ (λ s. (want.procedures c.args.levels ∷ (want.some_body c.args.levels ∷ (want.word words.End ∷ (want.ident ∷ (want.symbol symbols.Period ∷ s)))))) (λ s. c.in_ok-found.ensures.moves (declarations_parts c.args.levels ++ (want.procedures c.args.levels ∷ (want.some_body c.args.levels ∷ (want.word words.End ∷ (want.ident ∷ (want.symbol symbols.Period ∷ s))))))) (rw c.in_err-declarations.ensures at c.declarations.ensures))

pub returns-in_err-procedures : goal.returns-in_err-procedures
returns-in_err-procedures c =
    let ok_declarations = rw c.in_ok-declarations.ensures.0 at c.declarations.ensures in
    exits _ _ c.from_residual-in_err-procedures.result c.in_err-procedures.field-0.0 c.from_residual-in_err-procedures.ensures.1
    (via (want.procedures c.args.levels ∷ []) (module_parts c.args.levels) _ c.args.given.now _ (λ s. (want.some_body c.args.levels ∷ (want.word words.End ∷ (want.ident ∷ (want.symbol symbols.Period ∷ s))))) (λ s. c.in_ok-found.ensures.moves (declarations_parts c.args.levels ++ (want.procedures c.args.levels ∷ (want.some_body c.args.levels ∷ (want.word words.End ∷ (want.ident ∷ (want.symbol symbols.Period ∷ s)))))) ∙ ok_declarations.moves (want.procedures c.args.levels ∷ (want.some_body c.args.levels ∷ (want.word words.End ∷ (want.ident ∷ (want.symbol symbols.Period ∷ s)))))) (rw c.in_err-procedures.ensures at c.procedures.ensures))

pub returns-in_err-behind : goal.returns-in_err-behind
returns-in_err-behind c =
    let ok_declarations = rw c.in_ok-declarations.ensures.0 at c.declarations.ensures in
    let ok_procedures = rw c.in_ok-procedures.ensures.0 at c.procedures.ensures in
    exits _ _ c.from_residual-in_err-behind.result c.in_err-behind.field-0.0 c.from_residual-in_err-behind.ensures.1
    (via (want.some_body c.args.levels ∷ (want.word words.End ∷ (want.ident ∷ (want.symbol symbols.Period ∷ [])))) (module_parts c.args.levels) _ c.args.given.now _ (λ s. s) (λ s. c.in_ok-found.ensures.moves (declarations_parts c.args.levels ++ (want.procedures c.args.levels ∷ (want.some_body c.args.levels ∷ (want.word words.End ∷ (want.ident ∷ (want.symbol symbols.Period ∷ s)))))) ∙ ok_declarations.moves (want.procedures c.args.levels ∷ (want.some_body c.args.levels ∷ (want.word words.End ∷ (want.ident ∷ (want.symbol symbols.Period ∷ s))))) ∙ ok_procedures.moves (want.some_body c.args.levels ∷ (want.word words.End ∷ (want.ident ∷ (want.symbol symbols.Period ∷ s))))) (rw c.in_err-behind.ensures at c.rest_of_module.ensures))

pub returns : goal.returns
returns c =
    let ok_declarations = rw c.in_ok-declarations.ensures.0 at c.declarations.ensures in
    let ok_procedures = rw c.in_ok-procedures.ensures.0 at c.procedures.ensures in
    let ok_behind = rw c.in_ok-behind.ensures.0 at c.rest_of_module.ensures in
    rw (c.in_ok-behind.ensures.1, c.in_ok-procedures.ensures.1, c.in_ok-declarations.ensures.1) (record {
      spelled = behind c.in_ok-found.ensures (behind ok_declarations (behind ok_procedures (behind ok_behind refl)));
      moves = λ s. c.in_ok-found.ensures.moves (declarations_parts c.args.levels ++ (want.procedures c.args.levels ∷ (want.some_body c.args.levels ∷ (want.word words.End ∷ (want.ident ∷ (want.symbol symbols.Period ∷ s)))))) ∙ ok_declarations.moves (want.procedures c.args.levels ∷ (want.some_body c.args.levels ∷ (want.word words.End ∷ (want.ident ∷ (want.symbol symbols.Period ∷ s))))) ∙ ok_procedures.moves (want.some_body c.args.levels ∷ (want.word words.End ∷ (want.ident ∷ (want.symbol symbols.Period ∷ s)))) ∙ ok_behind.moves s;
      within = omega (arith, c.in_ok-found.ensures.within, ok_declarations.within, ok_procedures.within, ok_behind.within);
      shorter = omega (arith, c.in_ok-found.ensures.shorter, ok_declarations.shorter, ok_procedures.shorter, ok_behind.shorter);
    })
