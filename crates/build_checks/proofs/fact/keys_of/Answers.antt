use Rattle.std.proofs.Common.{◌≡◌, ◌+◌, ◌++◌, ◌∷◌, [], ℕ, List, map, take, sym, ap, ◌∙◌, arith}
use Rattle.std.proofs.lemmas.List.{map-append, take_all, take_more}
use Rattle.iface_key.specs.Keys.{key_of_view}
use Rattle.oberon_module.specs.Views.{plain_views}
use Rattle.oberon_rules.specs.Local.{view_in}
use Rattle.build_checks.proofs.KeptLaws.{Import}
use Rattle.build_checks.proofs.fact.keys_of.Goals as goal

pub loop-import-preserved : goal.loop-import-preserved
loop-import-preserved c =
    let imports : List Import = c.args.imports.now in
    let i = c.loop-import.import-index in
    let import : Import = c.import-item.result in
    let key : Import → List ℕ = λ j. key_of_view (view_in (plain_views c.args.views.now.entries) j.0) in
    let more : take (i + 1) imports ≡ take i imports ++ import ∷ [] =
    take_more imports i import c.loop-import-test.true ∙ ap (λ (x : Import). take i imports ++ x ∷ []) (sym c.import-item.is) in
    c.in_ok-push.ensures.items ∙ ap (λ (ks : List (List ℕ)). ks ++ c.in_ok-key_of_import.field-0 ∷ []) c.loop-import.invariant
    ∙ ap (λ (k : List ℕ). map key (take i imports) ++ k ∷ []) c.in_ok-key_of_import.ensures
    ∙ sym (map-append key (take i imports) (import ∷ [])) ∙ ap (map key) (sym more)

pub returns : goal.returns
returns c =
    let imports : List Import = c.args.imports.now in
    let key : Import → List ℕ = λ j. key_of_view (view_in (plain_views c.args.views.now.entries) j.0) in
    c.loop-import.invariant ∙ ap (map key) (take_all c.loop-import.import-index imports (omega (arith, c.loop-import-test.false)))
