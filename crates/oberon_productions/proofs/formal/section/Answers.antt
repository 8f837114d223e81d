use Rattle.std.proofs.Common.{refl, arith, ◌∷◌, ◌++◌, ◌∙◌, []}
use Rattle.oberon_productions.specs.Machine.{idents_parts, formal_type_parts, section_parts}
use Rattle.oberon_productions.proofs.Descending.{via, after_symbol, fewer, exits, onto, behind}
use Rattle.oberon_productions.specs.Expected as want
use Rattle.oberon_scan.specs.declared.token.Symbol.TheVariants as symbols
use Rattle.oberon_productions.proofs.formal.section.Goals as goal

pub returns-in_err-names : goal.returns-in_err-names
returns-in_err-names c =
    exits _ _ c.from_residual.result c.in_err-names.field-0.0 c.from_residual.ensures.1
    (via (idents_parts ++ []) (section_parts c.args.levels) _ c.args.given.now _ (λ s. (want.symbol symbols.Colon ∷ (formal_type_parts c.args.levels ++ s))) (λ s. c.by_var-by_var.ensures.moves (idents_parts ++ (want.symbol symbols.Colon ∷ (formal_type_parts c.args.levels ++ s)))) c.in_err-names.ensures)

pub returns-in_err-colon : goal.returns-in_err-colon
returns-in_err-colon c =
    exits _ _ c.from_residual-in_err-colon.result c.in_err-colon.field-0.0 c.from_residual-in_err-colon.ensures.1
    (via (want.symbol symbols.Colon ∷ []) (section_parts c.args.levels) _ c.args.given.now _ (λ s. (formal_type_parts c.args.levels ++ s)) (λ s. c.by_var-by_var.ensures.moves (idents_parts ++ (want.symbol symbols.Colon ∷ (formal_type_parts c.args.levels ++ s))) ∙ c.in_ok-names.ensures.moves (want.symbol symbols.Colon ∷ (formal_type_parts c.args.levels ++ s))) (rw c.in_err-colon.ensures at c.need_symbol.ensures))

pub returns-in_err-of_type : goal.returns-in_err-of_type
returns-in_err-of_type c =
    let ok_colon = rw c.in_ok-colon.ensures.0 at c.need_symbol.ensures in
    exits _ _ c.from_residual-in_err-of_type.result c.in_err-of_type.field-0.0 c.from_residual-in_err-of_type.ensures.1
    (via (formal_type_parts c.args.levels ++ []) (section_parts c.args.levels) _ c.args.given.now _ (λ s. s) (λ s. c.by_var-by_var.ensures.moves (idents_parts ++ (want.symbol symbols.Colon ∷ (formal_type_parts c.args.levels ++ s))) ∙ c.in_ok-names.ensures.moves (want.symbol symbols.Colon ∷ (formal_type_parts c.args.levels ++ s)) ∙ after_symbol symbols.Colon (formal_type_parts c.args.levels ++ s) ok_colon) (rw c.in_err-of_type.ensures at c.formal_type.ensures))

pub returns : goal.returns
returns c =
    let ok_colon = rw c.in_ok-colon.ensures.0 at c.need_symbol.ensures in
    let ok_of_type = rw c.in_ok-of_type.ensures.0 at c.formal_type.ensures in
    rw (c.in_ok-of_type.ensures.1, c.in_ok-colon.ensures.1) (record {
      spelled = behind c.by_var-by_var.ensures (behind c.in_ok-names.ensures (onto ok_colon (behind ok_of_type refl)));
      moves = λ s. c.by_var-by_var.ensures.moves (idents_parts ++ (want.symbol symbols.Colon ∷ (formal_type_parts c.args.levels ++ s))) ∙ c.in_ok-names.ensures.moves (want.symbol symbols.Colon ∷ (formal_type_parts c.args.levels ++ s)) ∙ after_symbol symbols.Colon (formal_type_parts c.args.levels ++ s) ok_colon ∙ ok_of_type.moves s;
      within = omega (arith, c.by_var-by_var.ensures.within, c.in_ok-names.ensures.within, ok_of_type.within);
      shorter = omega (arith, c.by_var-by_var.ensures.shorter, c.in_ok-names.ensures.shorter, fewer ok_colon, ok_of_type.shorter);
    })
