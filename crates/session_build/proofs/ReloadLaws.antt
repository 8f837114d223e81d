-- What was kept is of the builds that were answered still, once another workspace is in force, or once documents are cleaned.
use Rattle.std.proofs.Common.{◌≡◌, ℕ, List, get_or, Bool, true, false, filter, None, Some, refl, sym, ap, subst, ◌∙◌}
use Rattle.std.specs.Prelude.{if◌then◌else◌}
use Rattle.std.specs.List.{All, Contains, slice_get}
use Rattle.std.proofs.lemmas.List.Elements.{All-contains, All-map, All-weaker, Contains-get_or}
use Rattle.check_cache.specs.Pairs.{key_of}
use Rattle.check_cache.specs.Places.{first_at, other_at}
use Rattle.check_cache.specs.declared.pair.PairKey.{PairKey}
use Rattle.session_law.proofs.HistoryLaws.{checked_started}
use Rattle.session_law.proofs.ListLaws.{contains_map, contains_map_back}
use Rattle.session_law.specs.History.{HasStarted, IsKeyOf, Told, all_cleaned, with_cleaned}
use Rattle.session_build.specs.Cleaning.{KeepsOnly}
use Rattle.session_build.specs.Remembering.{AreLate, FirstFits, HasDocument, IsLateOf, IsOfRoot, OtherFits, Remembers, RemembersChecks, table_key}
use Rattle.session_build.specs.declared.kept.Kept.{Kept}
use Rattle.session_build.specs.declared.late.Late.{Late}
use Rattle.session_build.proofs.CleanedLaws.{cleaned_started, first_gone, first_still, other_still, still_started}
use Rattle.build_messages.proofs.DocumentLaws.{key_at}
use Rattle.session_build.proofs.DocumentLaws.{table_key_here}
use Rattle.session_build.proofs.FilterLaws.{filtered}
use Rattle.target_graph.specs.Workspace.{Space, pairs_of}
use Rattle.target_graph.specs.declared.target.Pair.{Pair}
use Rattle.task_stream.specs.declared.shown.TableKey.{TableKey}

-- the workspace has a pair with this key
pub record HasPair (space : Space) (key : PairKey) : Type 0 where
  pub index : ℕ
  pub pair : Pair
  pub there : slice_get (pairs_of space.targets) index ≡ Some pair
  pub is : key_of space.targets pair ≡ key

-- These documents are gone, and the checks of these pairs alone are kept, as one workspace takes the place of another: the
-- pairs are none of those that are gone, and each other pair of the new workspace is gone or was in none.
pub record Parts (before now : Space) (gone : List TableKey) (among : PairKey → Bool) : Type 0 where
  pub root : before.root ≡ now.root
  pub stays : (key : PairKey) → among key ≡ true → ¬ (Contains gone (table_key before.root key))
  pub within : (key : TableKey) → HasDocument before key → ¬ (Contains gone key) → HasDocument now key
  pub same : (p : ℕ) (pair : Pair) → slice_get (pairs_of now.targets) p ≡ Some pair → among (key_of now.targets pair) ≡ true → HasPair before (key_of now.targets pair)
  pub lost : (p : ℕ) (pair : Pair) → slice_get (pairs_of now.targets) p ≡ Some pair → among (key_of now.targets pair) ≡ false
      → HasDocument before (key_at now p) → Contains gone (key_at now p)

module _ (before now : Space) (gone : List TableKey) (among : PairKey → Bool) (parts : Parts before now gone among) (old new : Kept) (only : KeepsOnly among old new)
    (builds : List Told) (remembers : Remembers before builds old) where
  abbrev cleaned : List Told
  cleaned = all_cleaned gone builds

  one_table : (key : PairKey) → table_key before.root key ≡ table_key now.root key
  one_table key = ap (λ r. table_key r key) parts.root

  root_still : (told : Told) → IsOfRoot before.root told → IsOfRoot now.root (with_cleaned gone told)
  root_still told is = record { root_is = is.root_is ∙ parts.root; apart = is.apart; once = is.once }

  roots_still : All (IsOfRoot now.root) (all_cleaned gone builds)
  roots_still =
      All-map (IsOfRoot now.root) (with_cleaned gone) builds
      (All-weaker (IsOfRoot before.root) (λ (told : Told). IsOfRoot now.root (with_cleaned gone told)) root_still builds remembers.checks.of_root)

  within_still : (told : Told) (key : TableKey) → Contains (all_cleaned gone builds) told → HasStarted told key → HasDocument now key
  within_still told key there started =
      let from = contains_map_back (with_cleaned gone) builds told there in
      let own = cleaned_started gone key from.0 (subst (λ (t : Told). HasStarted t key) (sym from.2) started) in
      parts.within key (remembers.checks.within from.0 key from.1 own.0) own.1

  -- ---- the places of a pair

  module _ (p : ℕ) (pair : Pair) (there : slice_get (pairs_of now.targets) p ≡ Some pair) where
    abbrev own : PairKey
    own = key_of now.targets pair

    key_here : table_key before.root (key_of now.targets pair) ≡ key_at now p
    key_here = one_table own ∙ sym (table_key_here now p pair there)

    stays_here : among (key_of now.targets pair) ≡ true → ¬ (Contains gone (key_at now p))
    stays_here is = subst (λ (k : TableKey). ¬ (Contains gone k)) key_here (parts.stays own is)

    module _ (is : among (key_of now.targets pair) ≡ true) where
      was : HasPair before (key_of now.targets pair)
      was = parts.same p pair there is

      key_was : key_at before was.index ≡ key_at now p
      key_was = table_key_here before was.index was.pair was.there ∙ (ap (table_key before.root) was.is ∙ key_here)

      first_was : FirstFits old.keys builds (key_at now p) (first_at old.cache (key_of now.targets pair))
      first_was =
          subst (λ (k : PairKey). FirstFits old.keys builds (key_at now p) (first_at old.cache k)) was.is
          (subst (λ (k : TableKey). FirstFits old.keys builds k (first_at old.cache (key_of before.targets was.pair))) key_was
          (remembers.checks.first was.index was.pair was.there))

      other_was : OtherFits old.keys builds (key_at now p) (other_at old.cache (key_of now.targets pair))
      other_was =
          subst (λ (k : PairKey). OtherFits old.keys builds (key_at now p) (other_at old.cache k)) was.is
          (subst (λ (k : TableKey). OtherFits old.keys builds k (other_at old.cache (key_of before.targets was.pair))) key_was
          (remembers.checks.other was.index was.pair was.there))

    first_fits : (b : Bool) → among (key_of now.targets pair) ≡ b → FirstFits old.keys (all_cleaned gone builds) (key_at now p) (first_at new.cache (key_of now.targets pair))
    first_fits true is =
        subst (FirstFits old.keys cleaned (key_at now p)) (sym (only.first own ∙ ap (λ b. if b then first_at old.cache own else None) is))
        (first_still gone (key_at now p) (stays_here is) old.keys builds (first_at old.cache own) (first_was is))
    first_fits false is =
        subst (FirstFits old.keys cleaned (key_at now p)) (sym (only.first own ∙ ap (λ b. if b then first_at old.cache own else None) is))
        (first_gone gone (key_at now p) builds
        (λ told listed checked. parts.lost p pair there is (remembers.checks.within told (key_at now p) listed (checked_started told (key_at now p) checked))))

    other_fits : (b : Bool) → among (key_of now.targets pair) ≡ b → OtherFits old.keys (all_cleaned gone builds) (key_at now p) (other_at new.cache (key_of now.targets pair))
    other_fits true is =
        subst (OtherFits old.keys cleaned (key_at now p)) (sym (only.other own ∙ ap (λ b. if b then other_at old.cache own else None) is))
        (other_still gone (key_at now p) (stays_here is) old.keys builds (other_at old.cache own) (other_was is))
    other_fits false is =
        subst (OtherFits old.keys cleaned (key_at now p)) (sym (only.other own ∙ ap (λ b. if b then other_at old.cache own else None) is)) tt

  -- ---- checks that may come late

  late_still : (late : Late) → Contains (filter (λ (one : Late). among one.key) old.late.items) late → IsLateOf old.keys now.root (all_cleaned gone builds) late
  late_still late there =
      let from = filtered (λ (one : Late). among one.key) old.late.items late there in
      let is : IsLateOf old.keys before.root builds late = All-contains (IsLateOf old.keys before.root builds) old.late.items late remembers.late from.0 in
      let key_is : table_key before.root late.key ≡ table_key now.root late.key = one_table late.key in
      record {
        told = with_cleaned gone is.told;
        there = contains_map (with_cleaned gone) builds is.told is.there;
        started =
            subst (HasStarted (with_cleaned gone is.told)) key_is
            (still_started gone (table_key before.root late.key) (parts.stays late.key from.1) is.told is.started);
        pair = is.pair;
        at = subst (IsKeyOf is.told.active is.pair) key_is is.at;
        stem_is = is.stem_is;
        held_is = is.held_is;
        numbered = is.numbered;
      }

  lates_still : AreLate old.keys now.root (all_cleaned gone builds) new.late.items
  lates_still =
      subst (AreLate old.keys now.root cleaned) (sym only.late)
      (λ k d h. late_still (get_or (filter (λ (one : Late). among one.key) old.late.items) k d) (Contains-get_or (filter (λ (one : Late). among one.key) old.late.items) k d h))

  checks_still : RemembersChecks now (all_cleaned gone builds) new.cache old.keys
  checks_still = record {
    of_root = roots_still;
    within = within_still;
    first = λ p pair there. first_fits p pair there (among (key_of now.targets pair)) refl;
    other = λ p pair there. other_fits p pair there (among (key_of now.targets pair)) refl;
  }

  pub remembers_still : Remembers now (all_cleaned gone builds) new
  remembers_still = record {
    checks = subst (RemembersChecks now cleaned new.cache) (sym only.keys) checks_still;
    late = subst (λ ks. AreLate ks now.root cleaned new.late.items) (sym only.keys) lates_still;
  }
