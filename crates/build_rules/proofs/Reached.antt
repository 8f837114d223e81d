-- The modules that a module leads to by its imports: its target sees them, and so none of them has its stem where no
-- target sees two modules of one stem.
use Rattle.std.proofs.Common.{◌≡◌, ◌⊎◌, inl, inr, ℕ, ◌<◌, List, [], ◌∷◌, ◌++◌, sym, subst, ◌∙◌, refl}
use Rattle.std.specs.Prelude.{Contains, Some}
use Rattle.std.proofs.lemmas.Bool.{cases_order}
use Rattle.build_plan.specs.Rows.{Leads, IsWay}
use Rattle.build_plan.proofs.LeadsLaws.{one_step, step_then, then_step}
use Rattle.target_graph.specs.Workspace.{pairs_of, stem_at, Sees}
use Rattle.target_graph.specs.Workspace as graph
use Rattle.target_graph.specs.declared.target.Pair.{Pair}
use Rattle.build_rules.specs.World.{World, held_in, HasImports, Means, Imports, IsCyclic}
use Rattle.build_rules.specs.Locality.{IsApart}

-- the module leads to this one by imports, or is it
pub data Reaches (w : World) (p r : ℕ) : Type 0 where
  itself : p ≡ r → Reaches w p r
  beyond : Leads (Imports w) p r → Reaches w p r

-- it imports the name
pub record ImportsName (w : World) (p : ℕ) (name : List ℕ) : Type 0 where
  pub names : List (List ℕ)
  pub has : HasImports (held_in w p) names
  pub listed : Contains names name

pub same_pair : (a b : Pair) → Some a ≡ Some b → a ≡ b
same_pair a b is = cc

module _ (w : World) where
  pub named_import : (p q : ℕ) (name : List ℕ) → ImportsName w p name → Means w p name q → Imports w p q
  named_import p q name i means = record { names = i.names; has = i.has; name = name; listed = i.listed; means = means }

  pub reaches_on : (p q r : ℕ) → Imports w p q → Reaches w q r → Reaches w p r
  reaches_on p q r i (itself e) = Reaches.beyond (one_step (Imports w) p r (subst (Imports w p) e i))
  reaches_on p q r i (beyond leads) = Reaches.beyond (step_then (Imports w) p q r i leads)

  -- a module that one reaches by an import, and which reaches that one, is on a cycle
  pub back_again : (p q : ℕ) → Imports w p q → Reaches w q p → IsCyclic w q
  back_again p q i (itself e) = one_step (Imports w) q q (subst (λ x. Imports w x q) (sym e) i)
  back_again p q i (beyond leads) = then_step (Imports w) q p q leads i

  -- ---- what its target sees

  join_ways : (a b c : ℕ) (way rest : List ℕ) → graph.IsWay w.targets a way b → graph.IsWay w.targets b rest c → graph.IsWay w.targets a (way ++ rest) c
  join_ways a b c [] rest first then = subst (λ x. graph.IsWay w.targets x rest c) (sym first) then
  join_ways a b c (next ∷ way) rest first then = (first.0, join_ways next b c way rest first.1 then)

  sees_import : (t p q : ℕ) → Sees w.targets t p → Imports w p q → Sees w.targets t q
  sees_import t p q s i =
      let seen = i.means.visible.sees in
      let same : i.means.pair ≡ s.pair = same_pair i.means.pair s.pair (sym i.means.there ∙ s.there) in
      let way : graph.IsWay w.targets s.pair.target seen.leads.way seen.pair.target = subst (λ (x : Pair). graph.IsWay w.targets x.target seen.leads.way seen.pair.target) same seen.leads.is_way in
      record {
        pair = seen.pair;
        there = seen.there;
        leads = record { way = s.leads.way ++ seen.leads.way; is_way = join_ways t s.pair.target seen.pair.target s.leads.way seen.leads.way s.leads.is_way way };
      }

  sees_way : (t : ℕ) (way : List ℕ) (p q : ℕ) → Sees w.targets t p → IsWay (Imports w) p way q → Sees w.targets t q
  sees_way t [] p q s i = sees_import t p q s i
  sees_way t (next ∷ way) p q s i = sees_way t way next q (sees_import t p next s i.0) i.1

  sees_reached : (t p q : ℕ) → Sees w.targets t p → Reaches w p q → Sees w.targets t q
  sees_reached t p q s (itself e) = subst (Sees w.targets t) e s
  sees_reached t p q s (beyond leads) = sees_way t leads.way p q s leads.is_way

  module _ (apart : IsApart w) where
    pub one_stem : (t p q : ℕ) → Sees w.targets t p → Sees w.targets t q → stem_at w.targets p ≡ stem_at w.targets q → p ≡ q
    one_stem t p q s r same = by (cases_order p q)
      where
        by : (p ≡ q) ⊎ ((p < q) ⊎ (q < p)) → p ≡ q
        by (inl e) = e
        by (inr (inl before)) = absurd (apart t q (record { earlier = p; before = before; sees_earlier = s; sees = r; same = same }))
        by (inr (inr behind)) = absurd (apart t p (record { earlier = q; before = behind; sees_earlier = r; sees = s; same = sym same }))

    -- a module that an import reaches, and which has the importer's stem, is the importer
    pub reached_stem : (p q r : ℕ) → Imports w p q → Reaches w q r → stem_at w.targets r ≡ stem_at w.targets p → r ≡ p
    reached_stem p q r i reached same =
        let own : Sees w.targets i.means.pair.target p = record { pair = i.means.pair; there = i.means.there; leads = record { way = []; is_way = refl } } in
        one_stem i.means.pair.target r p (sees_reached i.means.pair.target p r own (reaches_on p q r i reached)) own same
