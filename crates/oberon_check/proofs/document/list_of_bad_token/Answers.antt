use Rattle.std.proofs.Common.{◌≡◌, ◌∷◌, [], ◌∙◌, ap, sym, subst}
use Rattle.std.proofs.lemmas.Result.{IfOk-weaker}
use Rattle.ob_text.specs.Position.{IsPart}
use Rattle.document_rules.specs.Diagnosed.{bad_token, bad_span}
use Rattle.oberon_check.proofs.Parts.{bad_part}
use Rattle.oberon_check.proofs.document.list_of_bad_token.Goals as goal

pub bad_token-requires : goal.bad_token-requires
bad_token-requires c =
    subst (IsPart c.args.text.now) (sym c.bad_span.ensures) (bad_part c.args.text.now c.args.tokens.now c.args.index c.requires)

pub returns : goal.returns
returns c =
    IfOk-weaker c.one.result (λ list. list.items ≡ c.bad_token.result ∷ []) (λ list. list.items ≡ bad_token c.args.text.now (bad_span c.args.tokens.now c.args.index) ∷ [])
    (λ list e. e ∙ ap (λ d. d ∷ []) (c.bad_token.ensures ∙ ap (bad_token c.args.text.now) c.bad_span.ensures)) c.one.ensures
