use Rattle.std.proofs.Common.{◌∷◌, subst, sym, refl}
use Rattle.oberon_scan.specs.declared.token.TokenKind.TheVariants as kinds
use Rattle.oberon_scan.specs.Runs.{quote}
use Rattle.oberon_scan.specs.Lexis.{IsToken}
use Rattle.oberon_scan.proofs.piece.closed_string.Goals as goal

pub returns : goal.returns
returns c line rest h =
    subst (λ xs. IsToken (quote ∷ line) (kinds.Str xs) rest) (sym (c.in_ok-new.ensures {u = tt}))
    (IsToken.string c.args.run.now (record { line = line; first = refl; longest = h }))
