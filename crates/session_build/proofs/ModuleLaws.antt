-- The documents of a build are modules that a clean build takes: each name in them means one of them, or none at all.
use Rattle.std.proofs.Common.{◌≡◌, ◌++◌, ◌<◌, ◌==◌, ℕ, List, [], ◌∷◌, get_or, map, Contains, Some, ap, sym, subst, ◌∙◌, refl, arith}
use Rattle.std.specs.List.{AllPairs, IsDistinct, slice_get}
use Rattle.std.proofs.lemmas.Bool.Decides.{Decides-eqb}
use Rattle.std.proofs.lemmas.List.Elements.{All-contains}
use Rattle.std.proofs.lemmas.Map.Made.{IsDistinct-from_AllPairs}
use Rattle.std.proofs.lemmas.Option.{same_Some, slice_get_within}
use Rattle.build_sources.specs.Modules.{AreModules}
use Rattle.session_law.specs.Builds.{AreDocuments, IsPairOf, build_document}
use Rattle.session_law.specs.Methods.{Build}
use Rattle.session_law.specs.declared.BuildDocument.{BuildDocument}
use Rattle.target_graph.specs.Workspace.{Space, IsReached, IsVisible, IsWay, Leads, pairs_of}
use Rattle.target_graph.specs.declared.target.Pair.{Pair}
use Rattle.target_graph.specs.declared.target.Target.{Target}

-- ---- two ways, one behind the other

way_on : (targets : List Target) (a : ℕ) (first : List ℕ) (b : ℕ) (second : List ℕ) (c : ℕ) → IsWay targets a first b → IsWay targets b second c → IsWay targets a (first ++ second) c
way_on targets a [] b second c is more = subst (λ x. IsWay targets x second c) (sym is) more
way_on targets a (next ∷ first) b second c is more = (is.0, way_on targets next first b second c is.1 more)

leads_on : (targets : List Target) (a b c : ℕ) → Leads targets a b → Leads targets b c → Leads targets a c
leads_on targets a b c first second =
    record { way = first.way ++ second.way; is_way = way_on targets a first.way b second.way c first.is_way second.is_way }

reached_on : (targets : List Target) (asked : List ℕ) (b c : ℕ) → IsReached targets asked b → Leads targets b c → IsReached targets asked c
reached_on targets asked b c reached leads =
    record { from = reached.from; asked_for = reached.asked_for; leads = leads_on targets reached.from b c reached.leads leads }

-- ---- the modules of a build

distinct_rising : (pairs : List ℕ) → AllPairs ◌<◌ pairs → IsDistinct ◌==◌ pairs
distinct_rising pairs rising = IsDistinct-from_AllPairs Decides-eqb pairs (λ i j d h k same. (let less = rising i j d h k in omega (arith, less, same)))

own_pairs : (space : Space) (pairs : List ℕ) → map (λ (it : BuildDocument). it.pair) (map (build_document space) pairs) ≡ pairs
own_pairs space [] = refl
own_pairs space (q ∷ pairs) = ap (λ qs. q ∷ qs) (own_pairs space pairs)

module _ (build : Build) (documents : List BuildDocument) (are : AreDocuments build documents) where
  abbrev targets : List Target
  targets = build.space.targets

  -- what a name in one of them means is one of them
  closed : (p : ℕ) → Contains are.pairs p → (pair : Pair) → slice_get (pairs_of targets) p ≡ Some pair
      → (name : List ℕ) (q : ℕ) → IsVisible targets pair.target name q → Contains are.pairs q
  closed p here pair there name q visible =
      let own = All-contains (IsPairOf targets are.closure) are.pairs p are.each here in
      let same : own.pair ≡ pair = same_Some own.pair pair (sym own.there ∙ there) in
      let reached = All-contains (IsReached targets build.asked) are.closure own.pair.target are.closed.reached own.among in
      let sees = visible.sees in
      let leads : Leads targets own.pair.target sees.pair.target = subst (λ (x : Pair). Leads targets x.target sees.pair.target) (sym same) sees.leads in
      are.whole q
      (record {
        pair = sees.pair;
        there = sees.there;
        among = are.closed.whole sees.pair.target (reached_on targets build.asked own.pair.target sees.pair.target reached leads);
      })

  pub modules_of_build : AreModules targets (map (λ (it : BuildDocument). it.pair) documents)
  modules_of_build =
      subst (AreModules targets) (sym (ap (map (λ (it : BuildDocument). it.pair)) are.are ∙ own_pairs build.space are.pairs))
      (record {
        within = λ k d h. (let p = are.each k d h in slice_get_within (pairs_of targets) (get_or are.pairs k d) p.pair p.there);
        distinct = distinct_rising are.pairs are.ordered;
        closed = closed;
      })
