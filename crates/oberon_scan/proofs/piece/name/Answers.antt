use Rattle.std.proofs.Common.{subst, sym, ◌∙◌}
use Rattle.std.specs.Char.{is_ascii_alphanumeric}
use Rattle.oberon_scan.specs.declared.token.TokenKind.TheVariants as kinds
use Rattle.oberon_scan.specs.Runs.{IsRun}
use Rattle.oberon_scan.specs.Lexis.{IsToken}
use Rattle.oberon_scan.proofs.Spelled.{word_found, word_missing}
use Rattle.oberon_scan.proofs.piece.name.Goals as goal

pub returns-in-Some : goal.returns-in-Some
returns-in-Some c =
    let text = c.args.text.now in
    let run = c.run_of.result.0.now in
    let rest = c.run_of.result.1.now in
    let found = word_found run c.in-Some.word (sym c.word_of.ensures ∙ c.in-Some.is) in
    IsToken.word c.in-Some.word (record { first = c.requires; longest = subst (λ xs. IsRun is_ascii_alphanumeric text xs rest) found c.run_of.ensures })

pub returns-in_ok-new-in-None : goal.returns-in_ok-new-in-None
returns-in_ok-new-in-None c =
    let text = c.args.text.now in
    let run = c.run_of.result.0.now in
    let rest = c.run_of.result.1.now in
    let missing = word_missing run (sym c.word_of.ensures ∙ c.in-None.is) in
    subst (λ xs. IsToken text (kinds.Ident xs) rest) (sym (c.in_ok-new-in-None.ensures {u = tt}))
    (IsToken.name run (record { first = c.requires; longest = c.run_of.ensures }) missing)
