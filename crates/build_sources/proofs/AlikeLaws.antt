-- What is found of a document by some views is found by others too that are the same at the names which it imports.
use Rattle.std.proofs.Common.{◌≡◌, ℕ, List, [], ◌∷◌, inl, inr, sym, ap, subst, ◌∙◌}
use Rattle.std.specs.Prelude.{Contains}
use Rattle.document_laws.proofs.Imported.{AgreeOn, same_said}
use Rattle.ob_text.specs.declared.diagnostic.Diagnostic.{Diagnostic}
use Rattle.ob_text.specs.declared.held.Held.{Held}
use Rattle.ob_text.specs.declared.held.Held.TheVariants.{Text, Absent, TooLarge, NotText}
use Rattle.oberon_rules.specs.Judged.{found}
use Rattle.oberon_rules.specs.Local.{Local, FaultsLocal, TokensLocal}
use Rattle.oberon_rules.specs.Order.{IsListed}
use Rattle.oberon_rules.specs.Scopes.{Said}
use Rattle.oberon_rules.specs.Views.{written, map_view}
use Rattle.oberon_scan.specs.declared.token.Token.{Token}
use Rattle.oberon_types.specs.Entities.{ViewTree}

module _ (me : List ℕ) (views others : List ℕ → ViewTree) (list : List Diagnostic) (imports : List (List ℕ)) (view : ViewTree) (alike : AgreeOn imports views others) where
  by_tokens : (text : List ℕ) (tokens : List Token) → TokensLocal text tokens me views list imports view → TokensLocal text tokens me others list imports view
  by_tokens text tokens (inl t) =
      let said = same_said me views others t.tree (λ x c. alike x (subst (λ (names : List (List ℕ)). Contains names x) (sym t.imported) c)) in
      inl (record {
        tree = t.tree;
        printed = t.printed;
        levels = t.levels;
        listed = subst (λ (s : List Said). IsListed (found text s) list) said.0 t.listed;
        imported = t.imported;
        shown = t.shown ∙ ap (map_view written) said.1;
      })
  by_tokens text tokens (inr bad) = inr bad

  by_faults : (text : List ℕ) (tokens : List Token) (faults : List Diagnostic) → FaultsLocal text tokens faults me views list imports view → FaultsLocal text tokens faults me others list imports view
  by_faults text tokens [] told = by_tokens text tokens told
  by_faults text tokens (fault ∷ faults) told = told

  pub found_alike : (held : Held) → Local held me views list imports view → Local held me others list imports view
  found_alike (Text text) local = record { tokens = local.tokens; faults = local.faults; lexis = local.lexis; told = by_faults text local.tokens local.faults local.told }
  found_alike Absent local = local
  found_alike TooLarge local = local
  found_alike NotText local = local
