-- What is kept of earlier builds: a check that is found is known, and where none is found a check is due.
use Rattle.std.proofs.Common.{◌≡◌, inl, inr, ℕ, List, [], Option, Some, None, sym, ap, subst, ◌∙◌}
use Rattle.std.specs.List.{Contains, slice_get}
use Rattle.std.proofs.lemmas.List.Elements.{All-contains, All-nil}
use Rattle.build_checks.specs.Kept.{AreNumbered, Extends, IsKept}
use Rattle.build_checks.proofs.KeptLaws.{AreApart, ShowAlike, hit_alike, kept_here, kept_on, same_imports}
use Rattle.build_rules.specs.Locality.{IsApart}
use Rattle.build_rules.specs.World.{World, held_in}
use Rattle.check_cache.specs.Facts.{FactTree}
use Rattle.check_cache.specs.Pairs.{key_of}
use Rattle.check_cache.specs.Places.{Chosen, Lacks, first_at, other_at}
use Rattle.check_cache.specs.Wanted.{IsOf}
use Rattle.check_cache.specs.declared.cache.Cache.{Cache}
use Rattle.session_law.specs.Builds.{build_document}
use Rattle.session_law.specs.History.{AreShown, Due, IsKeyOf, Known, LastChecked, SameCheck, Told, world_in}
use Rattle.session_law.specs.Requests.{Active}
use Rattle.session_law.proofs.HistoryLaws.{checked_started, last_checked, last_one}
use Rattle.session_law.proofs.ListLaws.{contains_none}
use Rattle.session_build.specs.Remembering.{AreLate, FirstFits, IsEmpty, IsLateOf, IsOfLast, IsOfRoot, IsOfSome, OtherFits, Remembers, RemembersChecks}
use Rattle.session_build.specs.declared.kept.Kept.{Kept}
use Rattle.session_build.proofs.DocumentLaws.{one_index, one_stem}
use Rattle.target_graph.specs.Workspace.{Space, pairs_of, stem_at}
use Rattle.target_graph.specs.declared.target.Pair.{Pair}
use Rattle.task_stream.specs.declared.shown.TableKey.{TableKey}

-- ---- as keys get numbers

module _ (old new : List (List ℕ)) (more : Extends old new) where
  pub first_on : (builds : List Told) (key : TableKey) (place : Option FactTree) → FirstFits old builds key place → FirstFits new builds key place
  first_on builds key None fits = fits
  first_on builds key (Some fact) fits =
      record { told = fits.told; last = fits.last; pair = fits.pair; at = fits.at; kept = kept_on old new more (world_in fits.told.active) fits.pair fact fits.kept }

  pub other_on : (builds : List Told) (key : TableKey) (place : Option FactTree) → OtherFits old builds key place → OtherFits new builds key place
  other_on builds key None fits = tt
  other_on builds key (Some fact) fits =
      record {
        told = fits.told;
        there = fits.there;
        started = fits.started;
        pair = fits.pair;
        at = fits.at;
        kept = kept_on old new more (world_in fits.told.active) fits.pair fact fits.kept;
      }

  pub remembers_on : (space : Space) (builds : List Told) (cache : Cache) → RemembersChecks space builds cache old → RemembersChecks space builds cache new
  remembers_on space builds cache remembers = record {
    of_root = remembers.of_root;
    within = remembers.within;
    first = λ p pair there. first_on builds (build_document space p).key (first_at cache (key_of space.targets pair)) (remembers.first p pair there);
    other = λ p pair there. other_on builds (build_document space p).key (other_at cache (key_of space.targets pair)) (remembers.other p pair there);
  }

-- ---- where nothing is kept

none_last : (key : TableKey) (told : Told) → ¬ (LastChecked key [] told)
none_last key told last = contains_none told (last_checked last).0

pub remembers_none : (space : Space) (kept : Kept) → IsEmpty kept → Remembers space [] kept
remembers_none space kept none = record {
  checks = record {
    of_root = All-nil (IsOfRoot space.root);
    within = λ told key there started. absurd (contains_none told there);
    first = λ p pair there. subst (FirstFits kept.keys [] (build_document space p).key) (sym (none.first (key_of space.targets pair))) (none_last (build_document space p).key);
    other = λ p pair there. subst (OtherFits kept.keys [] (build_document space p).key) (sym (none.other (key_of space.targets pair))) tt;
  };
  late = subst (AreLate kept.keys space.root []) (sym none.late) (All-nil (IsLateOf kept.keys space.root []));
}

-- ---- what stands in a place

-- what is of the last build that checked the document is of some build in which a check of it started
pub last_some : (keys : List (List ℕ)) (builds : List Told) (key : TableKey) (fact : FactTree) → IsOfLast keys builds key fact → IsOfSome keys builds key fact
last_some keys builds key fact is =
    let last = last_checked is.last in
    record { told = is.told; there = last.0; started = checked_started is.told key last.1; pair = is.pair; at = is.at; kept = is.kept }

module _ (keys : List (List ℕ)) (builds : List Told) (space : Space) (cache : Cache) (remembers : RemembersChecks space builds cache keys)
    (active : Active) (of_space : active.build.space ≡ space) (p : ℕ) (pair : Pair) (there : slice_get (pairs_of space.targets) p ≡ Some pair) where
  abbrev w : World
  w = world_in active

  abbrev key : TableKey
  key = (build_document space p).key

  chosen_made : (P : FactTree → Type 0) (fact : FactTree) → Chosen P (first_at cache (key_of space.targets pair)) (other_at cache (key_of space.targets pair)) fact
      → P fact × IsOfSome keys builds key fact
  chosen_made P fact (inl here) = (here.1, last_some keys builds key fact (subst (FirstFits keys builds key) here.0 (remembers.first p pair there)))
  chosen_made P fact (inr here) = (here.2, subst (OtherFits keys builds key) here.1 (remembers.other p pair there))

  told_root : (told : Told) → Contains builds told → IsOfRoot space.root told
  told_root told among = All-contains (IsOfRoot space.root) builds told remembers.of_root among

  -- ---- a check that is found

  module _ (imports : List (List ℕ × ℕ)) (numbered : AreNumbered keys w p imports) (fact : FactTree) (of : IsOf (held_in w p) imports fact) (made : IsOfSome keys builds key fact) where
    numbered_here : AreNumbered keys w p fact.imports
    numbered_here = subst (AreNumbered keys w p) (sym of.numbers) numbered

    same_held : held_in (world_in made.told.active) made.pair ≡ held_in w p
    same_held = sym made.kept.held_is ∙ of.text

    same_stem : stem_at made.told.active.build.space.targets made.pair ≡ stem_at active.build.space.targets p
    same_stem =
        one_stem made.told.active.build.space space (told_root made.told made.there).root_is made.pair p made.at.pair pair made.at.there there made.at.is
        ∙ ap (λ (s : Space). stem_at s.targets p) (sym of_space)

    pub hit_kept : IsKept keys w p fact
    hit_kept = kept_here keys (world_in made.told.active) made.pair w p fact made.kept same_stem of.text numbered_here

    pub hit_known : Known builds active (build_document space p)
    hit_known =
        let alike : ShowAlike (world_in made.told.active) made.pair w p =
        hit_alike keys (world_in made.told.active) made.pair w p same_held fact made.kept numbered_here in
        record {
          earlier = made.told;
          there = made.there;
          started = made.started;
          same = record {
            pair = made.pair;
            there = made.at;
            text = same_held;
            shown = alike.shown;
            before = alike.first;
            still = alike.other;
          };
        }

  pub found_made : (imports : List (List ℕ × ℕ)) (fact : FactTree)
      → Chosen (IsOf (held_in w p) imports) (first_at cache (key_of space.targets pair)) (other_at cache (key_of space.targets pair)) fact
      → IsOf (held_in w p) imports fact × IsOfSome keys builds key fact
  found_made imports fact chosen = chosen_made (IsOf (held_in w p) imports) fact chosen

  -- ---- where none is found

  module _ (once : IsApart w) (keys_apart : AreApart keys) (imports : List (List ℕ × ℕ)) (numbered : AreNumbered keys w p imports) where
    due_of : (place : Option FactTree) → FirstFits keys builds key place → Lacks (IsOf (held_in w p) imports) place → (last : Told) → LastChecked key builds last
        → ¬ (SameCheck last.active active (build_document space p))
    due_of None fits lacks last checked same = fits last checked
    due_of (Some fact) fits lacks last checked same =
        let one : fits.told ≡ last = last_one fits.last checked in
        let kept : IsKept keys (world_in last.active) fits.pair fact = subst (λ (t : Told). IsKept keys (world_in t.active) fits.pair fact) one fits.kept in
        let at : IsKeyOf last.active fits.pair key = subst (λ (t : Told). IsKeyOf t.active fits.pair key) one fits.at in
        let of_root : IsOfRoot space.root last = told_root last (last_checked checked).0 in
        let same_pair : same.pair ≡ fits.pair =
        one_index last.active.build.space of_root.apart same.pair fits.pair same.there.pair at.pair same.there.there at.there (same.there.is ∙ sym at.is) in
        let before : AreShown (world_in last.active) fits.pair same.shown = subst (λ q. AreShown (world_in last.active) q same.shown) same_pair same.before in
        let text : held_in (world_in last.active) fits.pair ≡ held_in w p = ap (held_in (world_in last.active)) (sym same_pair) ∙ same.text in
        lacks (same_imports keys (world_in last.active) fits.pair w p text of_root.once once keys_apart
        (record { shown = same.shown; first = before; other = same.still }) fact kept imports numbered)

    pub miss_due : Lacks (IsOf (held_in w p) imports) (first_at cache (key_of space.targets pair)) → Due builds active (build_document space p)
    miss_due lacks last checked = due_of (first_at cache (key_of space.targets pair)) (remembers.first p pair there) lacks last checked
