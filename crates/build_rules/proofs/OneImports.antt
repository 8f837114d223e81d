-- A document imports one list of names.
use Rattle.std.proofs.Common.{◌≡◌, ℕ, List, [], sym, ap, subst, ◌∙◌}
use Rattle.ob_text.specs.declared.held.Held.{Held}
use Rattle.ob_text.specs.declared.held.Held.TheVariants.{Text, Absent, TooLarge, NotText}
use Rattle.document_rules.proofs.OneImportList.{one_import_list}
use Rattle.oberon_scan.proofs.OneCut.{one_cut}
use Rattle.oberon_scan.specs.Lexis.{Lex}
use Rattle.build_rules.specs.World.{HasImports}

abbrev pub text_in : Held → List ℕ
text_in (Text text) = text
text_in Absent = []
text_in TooLarge = []
text_in NotText = []

pub one_imports : (held : Held) (xs ys : List (List ℕ)) → HasImports held xs → HasImports held ys → xs ≡ ys
one_imports held xs ys a b =
    let same : b.parsed.text ≡ a.parsed.text = ap text_in (sym b.parsed.is ∙ a.parsed.is) in
    let cut = one_cut a.parsed.lexis (subst (λ (text : List ℕ). Lex text b.parsed.tokens []) same b.parsed.lexis) in
    a.imported ∙ one_import_list a.tree b.tree (a.parsed.printed ∙ cut.0 ∙ sym b.parsed.printed) ∙ sym b.imported
