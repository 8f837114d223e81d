-- What is found of a document is found in one way, by the views of what it imports. Which names these are is found
-- whatever the views.
use Rattle.std.specs.Prelude.{◌≡◌, ℕ, List, [], ◌∷◌}
use Rattle.std.proofs.Common.{sym, ◌∙◌, ap, subst, inl, inr}
use Rattle.ob_text.specs.declared.diagnostic.Diagnostic.{Diagnostic}
use Rattle.ob_text.specs.declared.held.Held.{Held}
use Rattle.ob_text.specs.declared.held.Held.TheVariants.{Text, Absent, TooLarge, NotText}
use Rattle.document_rules.proofs.OneDiagnosis as only
use Rattle.document_rules.specs.Imports.{imports_in}
use Rattle.document_rules.specs.Sentence.{most_levels}
use Rattle.oberon_rules.specs.Judged.{found, all_said, declared_view}
use Rattle.oberon_rules.specs.Local.{IsTreeless, TokensLocal, FaultsLocal, TextLocal, Local}
use Rattle.oberon_rules.specs.Order.{IsListed}
use Rattle.oberon_rules.specs.Views.{written, map_view}
use Rattle.oberon_scan.proofs.OneCut.{one_cut}
use Rattle.oberon_scan.specs.Lexis.{Lex}
use Rattle.oberon_scan.specs.declared.token.Token.{Token}
use Rattle.oberon_tree.specs.Trees.{ModuleTree}
use Rattle.oberon_types.specs.Entities.{ViewTree}
use Rattle.grammar_laws.proofs.OneTree.{one_tree}
use Rattle.document_laws.proofs.Imported.{AgreeOn, same_said}
use Rattle.std.specs.Prelude.{Contains}
use Rattle.oberon_rules.specs.Scopes.{Said}

abbrev pub OneList : Type 0
OneList = (given xs ys : List Diagnostic) → IsListed given xs → IsListed given ys → xs ≡ ys

-- what has no tree imports nothing, and is broken
treeless : (is js : List (List ℕ)) (v w : ViewTree) → IsTreeless is v → IsTreeless js w → (is ≡ js) × (v ≡ w)
treeless is js v w a b = (a.imported ∙ sym b.imported, a.shown ∙ sym b.shown)

tokens_local : OneList → (text : List ℕ) (tokens : List Token) (me : List ℕ) (views others : List ℕ → ViewTree) (xs ys : List Diagnostic) (is js : List (List ℕ)) (v w : ViewTree) → (is ≡ js → AgreeOn is views others) → Lex text tokens [] → TokensLocal text tokens me views xs is v → TokensLocal text tokens me others ys js w → (xs ≡ ys) × (is ≡ js) × (v ≡ w)
tokens_local one text tokens me views others xs ys is js v w alike l (inl a) (inl b) =
    let same : b.tree ≡ a.tree = one_tree b.tree a.tree (b.printed ∙ sym a.printed) in
    let names : is ≡ js = a.imported ∙ sym (ap imports_in same) ∙ sym b.imported in
    let said = same_said me views others a.tree (λ x c. alike names x (subst (λ (names : List (List ℕ)). Contains names x) (sym a.imported) c)) in
    let of_tree : IsListed (found text (all_said me others a.tree)) ys = subst (λ (tree : ModuleTree). IsListed (found text (all_said me others tree)) ys) same b.listed in
    let listed : IsListed (found text (all_said me views a.tree)) ys = subst (λ (s : List Said). IsListed (found text s) ys) (sym said.0) of_tree in (
      one (found text (all_said me views a.tree)) xs ys a.listed listed,
      names,
      a.shown ∙ ap (map_view written) said.1 ∙ sym (ap (λ (tree : ModuleTree). map_view written (declared_view me others tree)) same) ∙ sym b.shown,
    )
tokens_local one text tokens me views others xs ys is js v w alike l (inl a) (inr b) = absurd (only.none_bad most_levels tokens b.0.index (a.tree, a.printed, a.levels) b.0.first)
tokens_local one text tokens me views others xs ys is js v w alike l (inr a) (inl b) = absurd (only.none_bad most_levels tokens a.0.index (b.tree, b.printed, b.levels) a.0.first)
tokens_local one text tokens me views others xs ys is js v w alike l (inr a) (inr b) =
    let p = treeless is js v w a.1 b.1 in
    (only.one_list (Text text) xs ys (record { tokens = tokens; faults = []; lexis = l; found = inr a.0 }) (record { tokens = tokens; faults = []; lexis = l; found = inr b.0 }), p.0, p.1)

faults_local : OneList → (text : List ℕ) (tokens : List Token) (faults : List Diagnostic) (me : List ℕ) (views others : List ℕ → ViewTree) (xs ys : List Diagnostic) (is js : List (List ℕ)) (v w : ViewTree) → (is ≡ js → AgreeOn is views others) → Lex text tokens faults → FaultsLocal text tokens faults me views xs is v → FaultsLocal text tokens faults me others ys js w → (xs ≡ ys) × (is ≡ js) × (v ≡ w)
faults_local one text tokens [] me views others xs ys is js v w alike l a b = tokens_local one text tokens me views others xs ys is js v w alike l a b
faults_local one text tokens (fault ∷ faults) me views others xs ys is js v w alike l a b =
    let p = treeless is js v w a.1 b.1 in
    (a.0 ∙ sym b.0, p.0, p.1)

text_local : OneList → (text me : List ℕ) (views others : List ℕ → ViewTree) (xs ys : List Diagnostic) (is js : List (List ℕ)) (v w : ViewTree) → (is ≡ js → AgreeOn is views others) → TextLocal text me views xs is v → TextLocal text me others ys js w → (xs ≡ ys) × (is ≡ js) × (v ≡ w)
text_local one text me views others xs ys is js v w alike a b =
    let same = one_cut b.lexis a.lexis in
    let with_faults = subst (λ (faults : List Diagnostic). FaultsLocal text b.tokens faults me others ys js w) same.1 b.told in
    faults_local one text a.tokens a.faults me views others xs ys is js v w alike a.lexis a.told (subst (λ (tokens : List Token). FaultsLocal text tokens a.faults me others ys js w) same.0 with_faults)

pub one_document : OneList → (held : Held) (me : List ℕ) (views others : List ℕ → ViewTree) (xs ys : List Diagnostic) (is js : List (List ℕ)) (v w : ViewTree) → (is ≡ js → AgreeOn is views others) → Local held me views xs is v → Local held me others ys js w → (xs ≡ ys) × (is ≡ js) × (v ≡ w)
one_document one (Text text) me views others xs ys is js v w alike a b = text_local one text me views others xs ys is js v w alike a b
one_document one Absent me views others xs ys is js v w alike a b =
    let p = treeless is js v w a.1 b.1 in
    (a.0 ∙ sym b.0, p.0, p.1)
one_document one TooLarge me views others xs ys is js v w alike a b =
    let p = treeless is js v w a.1 b.1 in
    (a.0 ∙ sym b.0, p.0, p.1)
one_document one NotText me views others xs ys is js v w alike a b =
    let p = treeless is js v w a.1 b.1 in
    (a.0 ∙ sym b.0, p.0, p.1)
