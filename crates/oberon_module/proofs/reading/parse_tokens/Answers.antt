use Rattle.std.proofs.Common.{◌∷◌, [], ℕ, List, ◌∙◌, ap}
use Rattle.document_rules.specs.Diagnosed.{bad_token, bad_span}
use Rattle.oberon_module.proofs.ReadingLaws.{bad_read}
use Rattle.oberon_module.proofs.reading.parse_tokens.Goals as goal

pub returns-in_ok-list-in-Err-FirstBad : goal.returns-in_ok-list-in-Err-FirstBad
returns-in_ok-list-in-Err-FirstBad c =
    let tokens = c.args.tokens.now in
    let k = c.in-Err-FirstBad.index in
    let bad = c.in-Err-FirstBad.ensures {u = tt} in
    bad_read c.args.held.now tokens k c.in_ok-list-in-Err-FirstBad.list.items c.requires (bad.first_bad _ c.in-Err-FirstBad.field-0-is)
    (c.in_ok-list-in-Err-FirstBad.ensures {u = tt} ∙ ap (λ (text : List ℕ). bad_token text (bad_span tokens k) ∷ []) c.text_of.ensures)
