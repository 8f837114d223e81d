-- What was read of a document is what its check goes by: a list where it has no tree, or the tree.
use Rattle.std.specs.Prelude.{◌≡◌, ◌≢◌, ◌∷◌, ℕ, List, [], refl}
use Rattle.std.proofs.Common.{inl, inr, ap, sym, subst, ◌∙◌}
use Rattle.ob_text.specs.declared.diagnostic.Diagnostic.{Diagnostic}
use Rattle.ob_text.specs.declared.held.Held.{Held}
use Rattle.ob_text.specs.declared.held.Held.TheVariants.{Text}
use Rattle.document_rules.specs.Diagnosed.{bad_token, bad_span}
use Rattle.document_rules.specs.Sentence.{IsFirstBad, most_levels}
use Rattle.oberon_scan.specs.Lexis.{Lex}
use Rattle.oberon_scan.specs.declared.token.Token.{Token}
use Rattle.oberon_tree.specs.Trees.{ModuleTree}
use Rattle.oberon_types.specs.Entities.{ViewTree, broken_view}
use Rattle.oberon_rules.specs.Local.{Local, IsTreeless}
use Rattle.oberon_module.specs.Checked.{IsChecked}
use Rattle.oberon_module.specs.Reading.{HasNoTree, HasTokens, HasTree, text_of}

treeless : IsTreeless [] broken_view
treeless = record { imported = refl; shown = refl }

-- lexical faults
pub faults_read : (text : List ℕ) (tokens : List Token) (faults : List Diagnostic) → Lex text tokens faults → faults ≢ [] → HasNoTree (Text text) faults
faults_read text tokens [] lexis some = absurd (some refl)
faults_read text tokens (f ∷ fs) lexis some = λ me views. record { tokens = tokens; faults = f ∷ fs; lexis = lexis; told = (refl, treeless) }

-- tokens that are no module
pub bad_read : (held : Held) (tokens : List Token) (k : ℕ) (list : List Diagnostic) → HasTokens held tokens → IsFirstBad most_levels tokens k → list ≡ bad_token (text_of held) (bad_span tokens k) ∷ [] → HasNoTree held list
bad_read held tokens k list has first only =
    let same = only ∙ ap (λ (h : Held). bad_token (text_of h) (bad_span tokens k) ∷ []) has.is in
    subst (λ (h : Held). HasNoTree h list) (sym has.is)
    (λ me views. record {
      tokens = tokens;
      faults = [];
      lexis = has.lexis;
      told = inr (record { index = k; first = first; only = same }, treeless);
    })

-- a module by its tree
pub tree_checked : (held : Held) (tree : ModuleTree) (me : List ℕ) (views : List ℕ → ViewTree) (list : List Diagnostic) (imports : List (List ℕ)) (view : ViewTree) → HasTree held tree → IsChecked (text_of held) me views tree list imports view → Local held me views list imports view
tree_checked held tree me views list imports view has found =
    let is = has.has_tokens.is in
    let found_in = subst (λ (h : Held). IsChecked (text_of h) me views tree list imports view) is found in
    subst (λ (h : Held). Local h me views list imports view) (sym is)
    (record {
      tokens = has.tokens;
      faults = [];
      lexis = has.has_tokens.lexis;
      told = inl (record { tree = tree; printed = has.printed; levels = has.levels; listed = found_in.listed; imported = found_in.imported; shown = found_in.shown });
    })
