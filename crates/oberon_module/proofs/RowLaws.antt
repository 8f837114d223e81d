-- Lists of diagnostics by the rows that they are made of.
use Rattle.std.specs.Prelude.{ℕ, ◌≡◌, List, [], ◌∷◌, map, refl}
use Rattle.std.proofs.Common.{ap, ◌∙◌}
use Rattle.ob_text.specs.declared.code.Code.{Code}
use Rattle.ob_text.specs.declared.diagnostic.Diagnostic.{Diagnostic}
use Rattle.ob_text.specs.Position.{range_at}
use Rattle.oberon_rules.specs.Judged.{found}
use Rattle.oberon_rules.specs.Scopes.{Said, broken, resolved}
use Rattle.oberon_module.specs.Rows.{plain_rows, diagnostic_of}
use Rattle.oberon_module.proofs.NumberLaws.{numbered_again}

pub found_by_rows : (text : List ℕ) (said : List Said) → map (diagnostic_of text) (plain_rows said) ≡ found text said
found_by_rows text [] = refl
found_by_rows text (broken place code name ∷ rest) =
    ap (λ (c : Code). record { span = place; range = range_at text place; code = c; name = name } ∷ map (diagnostic_of text) (plain_rows rest)) (numbered_again code)
    ∙ ap (λ (ds : List Diagnostic). record { span = place; range = range_at text place; code = code; name = name } ∷ ds) (found_by_rows text rest)
found_by_rows text (resolved x ∷ rest) = found_by_rows text rest
