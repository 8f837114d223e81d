-- What comes late is kept: it is a check of some build that was answered.
use Rattle.std.proofs.Common.{◌≡◌, ℕ, List, map, Bool, true, false, Option, None, Some, refl, sym, ap, subst, ◌∙◌}
use Rattle.std.specs.Prelude.{IfSome, if◌then◌else◌}
use Rattle.std.specs.List.{All, Contains, slice_get}
use Rattle.std.proofs.lemmas.List.Elements.{All-contains}
use Rattle.std.proofs.lemmas.Option.{same_Some}
use Rattle.build_checks.specs.Kept.{AreNumbered, AreShown, Extends, IsKept, IsNumbered}
use Rattle.build_checks.specs.Work.{IsWorkOf}
use Rattle.build_checks.proofs.KeptLaws.{numbered_on, same_view}
use Rattle.build_rules.specs.Locality.{IsApart}
use Rattle.build_rules.specs.Views.{as_view, IsShown}
use Rattle.build_rules.specs.World.{World}
use Rattle.check_cache.specs.Facts.{FactTree}
use Rattle.check_cache.specs.Pairs.{key_of, same_pair}
use Rattle.check_cache.specs.Places.{first_at, other_at}
use Rattle.check_cache.specs.declared.pair.PairKey.{PairKey}
use Rattle.check_cache.proofs.FilterLaws.{one_pair}
use Rattle.iface_key.specs.Keys.{key_of_view}
use Rattle.oberon_module.specs.declared.check.Checked.{Checked}
use Rattle.oberon_rules.specs.Local.{view_in}
use Rattle.oberon_types.specs.Entities.{ViewTree}
use Rattle.session_law.specs.History.{Told, world_in}
use Rattle.session_law.proofs.ListLaws.{contains_map_back}
use Rattle.session_build.specs.Late.{HasKept, IsSameCheck, KeepsIf, ShowsAs, TakesLate}
use Rattle.session_build.specs.Remembering.{FirstFits, IsLateOf, IsOfRoot, IsOfSome, OtherFits, Remembers, RemembersChecks, table_key}
use Rattle.session_build.specs.declared.kept.Kept.{Kept}
use Rattle.session_build.specs.declared.late.Late.{Late}
use Rattle.build_messages.proofs.DocumentLaws.{key_at}
use Rattle.session_build.proofs.DocumentLaws.{table_key_here}
use Rattle.session_build.proofs.LateLaws.{at_work_on, late_on}
use Rattle.session_build.proofs.Moved.{all_by}
use Rattle.session_build.proofs.RememberLaws.{first_on, other_on, remembers_on}
use Rattle.session_build.proofs.StoringLaws.{same_key}
use Rattle.target_graph.specs.Workspace.{Space, pairs_of}
use Rattle.target_graph.specs.declared.target.Pair.{Pair}
use Rattle.task_stream.specs.declared.shown.TableKey.{TableKey}
use Rattle.worker_pool.specs.Jobs.{CheckTree}

-- ---- nothing is stored

-- where keys got numbers, and less is waited for
pub keeps_less : (number : ℕ) (check : CheckTree) (checked : Checked) (old new : Kept) (late : Option Late) → TakesLate old.late.items number late new.late.items
    → IfSome late (KeepsIf check checked new) → new.cache ≡ old.cache → Extends old.keys new.keys → HasKept number check checked old new
keeps_less number check checked old new late takes keeps cache more = record {
  late = late;
  takes = takes;
  keeps = keeps;
  more = more;
  remembers = λ space builds remembers.
      record {
        checks = subst (λ c. RemembersChecks space builds c new.keys) (sym cache) (remembers_on old.keys new.keys more space builds old.cache remembers.checks);
        late = late_on old.keys new.keys more space.root builds new.late.items (all_by (IsLateOf old.keys space.root builds) old.late.items new.late.items takes.rest remembers.late);
      };
  at_work = at_work_on old.keys new.keys more;
}

pub keeps_untaken : (number : ℕ) (check : CheckTree) (checked : Checked) (old new : Kept) (taken : Option Late) → ((late : Late) → taken ≡ Some late → ⊥)
    → TakesLate old.late.items number taken new.late.items → new.cache ≡ old.cache → new.keys ≡ old.keys → HasKept number check checked old new
keeps_untaken number check checked old new None none takes cache keys =
    keeps_less number check checked old new None takes tt cache (λ m k is. subst (λ ks. slice_get ks m ≡ Some k) (sym keys) is)
keeps_untaken number check checked old new (Some late) none takes cache keys = absurd (none late refl)

-- where it isn't the check that was waited for, nothing is to be kept
pub keeps_other : (check : CheckTree) (checked : Checked) (new : Kept) (late : Late) → ¬ (IsSameCheck new.keys late check) → KeepsIf check checked new late
keeps_other check checked new late other same = absurd (other same)

-- ---- the check is that of the build

some_key : (a b : List ℕ) → Some a ≡ Some b → a ≡ b
some_key a b same = same_Some a b same

module _ (old new : List (List ℕ)) (more : Extends old new) (w : World) (p : ℕ) (imports : List (List ℕ × ℕ)) (numbered : AreNumbered old w p imports) (shown : List ℕ → ViewTree)
    (same : All (ShowsAs new shown) imports) where
  shown_one : (import : List ℕ × ℕ) → Contains imports import → IsShown w as_view p import.0 (shown import.0)
  shown_one import there =
      let one : IsNumbered old w p import = All-contains (IsNumbered old w p) imports import numbered.each there in
      let number : Some (key_of_view one.view) ≡ Some (key_of_view (shown import.0)) =
      sym (more import.1 (key_of_view one.view) one.number) ∙ All-contains (ShowsAs new shown) imports import same there in
      subst (IsShown w as_view p import.0) (same_view one.view (shown import.0) (some_key (key_of_view one.view) (key_of_view (shown import.0)) number)) one.shown

  -- the imports show to it what they show in the world
  pub shown_all : AreShown w p shown
  shown_all names has name listed =
      let listed_here : Contains (map (λ (i : List ℕ × ℕ). i.0) imports) name = subst (λ (ns : List (List ℕ)). Contains ns name) (numbered.named.whole names has) listed in
      let from = contains_map_back (λ (i : List ℕ × ℕ). i.0) imports name listed_here in
      subst (λ n. IsShown w as_view p n (shown n)) from.2 (shown_one from.0 from.1)

module _ (root : List ℕ) (late : Late) (old new : List (List ℕ)) (more : Extends old new) (check : CheckTree) (same : IsSameCheck new late check) (builds : List Told)
    (of : IsLateOf old root builds late) where
  work : IsWorkOf (world_in of.told.active) of.pair check
  work = record {
    held_is = same.held_is ∙ of.held_is;
    stem_is = same.stem_is ∙ of.stem_is;
    shown = shown_all old new more (world_in of.told.active) of.pair late.imports.items of.numbered (view_in check.views) same.shown;
  }

-- ---- it is stored

module _ (late : Late) (old new : Kept) (number : ℕ) (takes : TakesLate old.late.items number (Some late) new.late.items) (more : Extends old.keys new.keys)
    (check : CheckTree) (checked : Checked) (same : IsSameCheck new.keys late check) (fact : FactTree)
    (made : (keys : List (List ℕ)) (w : World) (p : ℕ) → IsApart w → IsWorkOf w p check → AreNumbered keys w p late.imports.items → IsKept keys w p fact)
    (found : fact.checked ≡ checked)
    (first_is : (q : PairKey) → first_at new.cache q ≡ first_at old.cache q)
    (other_is : (q : PairKey) → other_at new.cache q ≡ (if same_pair late.key q then Some fact else other_at old.cache q)) where
  module _ (space : Space) (builds : List Told) (remembers : Remembers space builds old) where
    of : IsLateOf old.keys space.root builds late
    of = All-contains (IsLateOf old.keys space.root builds) old.late.items late remembers.late takes.is.0

    of_root : IsOfRoot space.root of.told
    of_root = All-contains (IsOfRoot space.root) builds of.told remembers.checks.of_root of.there

    kept : IsKept new.keys (world_in of.told.active) of.pair fact
    kept =
        made new.keys (world_in of.told.active) of.pair of_root.once (work space.root late old.keys new.keys more check same builds of)
        (numbered_on old.keys new.keys more (world_in of.told.active) of.pair late.imports.items of.numbered)

    own_place : IsOfSome new.keys builds (table_key space.root late.key) fact
    own_place = record { told = of.told; there = of.there; started = of.started; pair = of.pair; at = of.at; kept = kept }

    module _ (p : ℕ) (pair : Pair) (here : slice_get (pairs_of space.targets) p ≡ Some pair) where
      abbrev own : PairKey
      own = key_of space.targets pair

      first_fits : FirstFits new.keys builds (key_at space p) (first_at new.cache (key_of space.targets pair))
      first_fits =
          subst (FirstFits new.keys builds (key_at space p)) (sym (first_is own))
          (first_on old.keys new.keys more builds (key_at space p) (first_at old.cache own) (remembers.checks.first p pair here))

      other_fits : (is : Bool) → same_pair late.key own ≡ is → OtherFits new.keys builds (key_at space p) (other_at new.cache (key_of space.targets pair))
      other_fits true is =
          let key_is : table_key space.root late.key ≡ key_at space p = ap (table_key space.root) (one_pair late.key own is) ∙ sym (table_key_here space p pair here) in
          subst (OtherFits new.keys builds (key_at space p)) (sym (other_is own ∙ ap (λ (b : Bool). if b then Some fact else other_at old.cache own) is))
          (subst (λ (k : TableKey). IsOfSome new.keys builds k fact) key_is own_place)
      other_fits false is =
          subst (OtherFits new.keys builds (key_at space p)) (sym (other_is own ∙ ap (λ (b : Bool). if b then Some fact else other_at old.cache own) is))
          (other_on old.keys new.keys more builds (key_at space p) (other_at old.cache own) (remembers.checks.other p pair here))

    remembers_late : Remembers space builds new
    remembers_late = record {
      checks = record {
        of_root = remembers.checks.of_root;
        within = remembers.checks.within;
        first = first_fits;
        other = λ p pair here. other_fits p pair here (same_pair late.key (key_of space.targets pair)) refl;
      };
      late =
          late_on old.keys new.keys more space.root builds new.late.items
          (all_by (IsLateOf old.keys space.root builds) old.late.items new.late.items takes.rest remembers.late);
    }

  placed : KeepsIf check checked new late
  placed own_check = record {
    fact = fact;
    there = other_is late.key ∙ ap (λ (b : Bool). if b then Some fact else other_at old.cache late.key) (same_key late.key);
    is = found;
  }

  pub keeps_late : HasKept number check checked old new
  keeps_late = record {
    late = Some late;
    takes = takes;
    keeps = placed;
    more = more;
    remembers = remembers_late;
    at_work = at_work_on old.keys new.keys more;
  }
