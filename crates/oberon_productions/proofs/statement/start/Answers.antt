use Rattle.std.proofs.Common.{refl, arith, ◌∷◌, ◌++◌, ◌∙◌, []}
use Rattle.oberon_productions.specs.Machine.{expr_parts}
use Rattle.oberon_productions.proofs.Descending.{via, after_symbol, after_ident, fewer, exits, onto, behind}
use Rattle.oberon_productions.specs.Expected as want
use Rattle.oberon_scan.specs.declared.token.Symbol.TheVariants as symbols
use Rattle.oberon_productions.proofs.statement.start.Goals as goal

pub returns-in_err-variable : goal.returns-in_err-variable
returns-in_err-variable c =
    exits _ _ c.from_residual.result c.in_err-variable.field-0.0 c.from_residual.ensures.1
    (via (want.ident ∷ []) (want.ident ∷ want.symbol symbols.Becomes ∷ expr_parts c.args.levels) _ (c.args.given.now) _ (λ s. want.symbol symbols.Becomes ∷ expr_parts c.args.levels ++ s) (λ s. refl) c.in_err-variable.ensures)

pub returns-in_err-becomes : goal.returns-in_err-becomes
returns-in_err-becomes c =
    exits _ _ c.from_residual-in_err-becomes.result c.in_err-becomes.field-0.0 c.from_residual-in_err-becomes.ensures.1
    (via (want.symbol symbols.Becomes ∷ []) (want.ident ∷ want.symbol symbols.Becomes ∷ expr_parts c.args.levels) _ (c.args.given.now) _ (λ s. expr_parts c.args.levels ++ s) (λ s. after_ident (want.symbol symbols.Becomes ∷ expr_parts c.args.levels ++ s) c.in_ok-variable.ensures) (rw c.in_err-becomes.ensures at c.need_symbol.ensures))

pub returns-in_err-from : goal.returns-in_err-from
returns-in_err-from c =
    let y = rw c.in_ok-becomes.ensures.0 at c.need_symbol.ensures in
    exits _ _ c.from_residual-in_err-from.result c.in_err-from.field-0.0 c.from_residual-in_err-from.ensures.1
    (via (expr_parts c.args.levels) (want.ident ∷ want.symbol symbols.Becomes ∷ expr_parts c.args.levels) _ (c.args.given.now) _ (λ s. s) (λ s. after_ident (want.symbol symbols.Becomes ∷ expr_parts c.args.levels ++ s) c.in_ok-variable.ensures ∙ after_symbol symbols.Becomes (expr_parts c.args.levels ++ s) y) (rw c.in_err-from.ensures at c.expr.ensures))

pub returns : goal.returns
returns c =
    let y = rw c.in_ok-becomes.ensures.0 at c.need_symbol.ensures in
    let e = rw c.in_ok-from.ensures.0 at c.expr.ensures in
    rw (c.in_ok-from.ensures.1, c.in_ok-becomes.ensures.1) (record {
      spelled = onto c.in_ok-variable.ensures (onto y (behind e refl));
      moves = λ s. after_ident (want.symbol symbols.Becomes ∷ expr_parts c.args.levels ++ s) c.in_ok-variable.ensures ∙ after_symbol symbols.Becomes (expr_parts c.args.levels ++ s) y ∙ e.moves s;
      within = omega (arith, e.within);
      shorter = omega (arith, fewer c.in_ok-variable.ensures, fewer y, e.shorter);
    })
