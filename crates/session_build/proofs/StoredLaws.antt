-- What is kept of a build and of those before it, once the checks that it made are stored.
use Rattle.std.proofs.Common.{◌≡◌, ◌≢◌, ◌==◌, ◌⊎◌, inl, inr, ℕ, List, ◌∷◌, Bool, true, false, Option, Some, None, refl, sym, ap, subst, ◌∙◌}
use Rattle.std.specs.List.{All, AllPairs, Contains, list_any, slice_get}
use Rattle.std.proofs.lemmas.List.Elements.{All-cons, All-contains}
use Rattle.build_checks.specs.Kept.{IsKept}
use Rattle.check_cache.specs.Facts.{FactTree}
use Rattle.check_cache.specs.Pairs.{key_of}
use Rattle.check_cache.specs.Places.{first_at, moved, other_at}
use Rattle.check_cache.specs.declared.cache.Cache.{Cache}
use Rattle.check_cache.specs.declared.pair.PairKey.{PairKey}
use Rattle.rpc_peer.specs.Said.{Said}
use Rattle.session_law.specs.Course.{Given}
use Rattle.session_law.specs.History.{HasChecked, HasStarted, IsKeyOf, LastChecked, Told, newest, older, world_in}
use Rattle.session_law.proofs.ListLaws.{contains_cases, contains_later, contains_map}
use Rattle.session_build.specs.Going.{pairs_made, told_by}
use Rattle.session_build.specs.Remembering.{FirstFits, HasDocument, IsOfRoot, IsOfSome, OtherFits, RemembersChecks}
use Rattle.session_build.specs.Storing.{StoresAll}
use Rattle.session_build.specs.declared.going.Made.{Made}
use Rattle.build_messages.proofs.DocumentLaws.{key_at, among_by, apart_by}
use Rattle.session_build.proofs.Members.{image_of}
use Rattle.session_build.proofs.RememberLaws.{last_some}
use Rattle.target_graph.specs.Faults.{IsRepeat}
use Rattle.target_graph.specs.Workspace.{Space, pairs_of}
use Rattle.target_graph.specs.declared.target.Pair.{Pair}
use Rattle.target_graph.proofs.Distinct.{AreApart}
use Rattle.task_stream.specs.declared.shown.TableKey.{TableKey}

-- ---- one build more, which didn't check the document

last_before : {key : TableKey} {told last : Told} {earlier : List Told} → ¬ (HasChecked told key) → LastChecked key (told ∷ earlier) last → LastChecked key earlier last
last_before unchecked (newest checked) = absurd (unchecked checked)
last_before unchecked (older other rest) = rest

module _ (keys : List (List ℕ)) (now : Told) (earlier : List Told) (key : TableKey) where
  first_left : ¬ (HasChecked now key) → (place : Option FactTree) → FirstFits keys earlier key place → FirstFits keys (now ∷ earlier) key place
  first_left unchecked None fits = λ told last. fits told (last_before unchecked last)
  first_left unchecked (Some fact) fits = record { told = fits.told; last = older unchecked fits.last; pair = fits.pair; at = fits.at; kept = fits.kept }

  some_more : (fact : FactTree) → IsOfSome keys earlier key fact → IsOfSome keys (now ∷ earlier) key fact
  some_more fact fits =
      record { told = fits.told; there = contains_later now earlier fits.told fits.there; started = fits.started; pair = fits.pair; at = fits.at; kept = fits.kept }

  other_more : (place : Option FactTree) → OtherFits keys earlier key place → OtherFits keys (now ∷ earlier) key place
  other_more None fits = tt
  other_more (Some fact) fits = some_more fact fits

  -- what stood first stands in the other place
  other_moved : (first other : Option FactTree) → FirstFits keys earlier key first → OtherFits keys earlier key other → OtherFits keys (now ∷ earlier) key (moved first other)
  other_moved None other first_fits other_fits = other_more other other_fits
  other_moved (Some fact) other first_fits other_fits = some_more fact (last_some keys earlier key fact first_fits)

-- ---- the checks that a build made

-- as of each workspace that was accepted
pub record IsSoundSpace (space : Space) : Type 0 where
  pub apart : AllPairs (AreApart space) (pairs_of space.targets)
  pub once : (target pair : ℕ) → ¬ (IsRepeat space.targets target pair)

-- Each is of a pair of its own, and no other document of the workspace was checked. Each document whose check started is in
-- the workspace.
pub record AreMade (space : Space) (told : Told) (keys : List (List ℕ)) (made : List Made) : Type 0 where
  pub distinct : AllPairs ◌≢◌ (pairs_made made)
  pub each : All (λ (it : Made). IsKept keys (world_in told.active) it.pair it.fact) made
  pub checked : All (λ q. HasChecked told (key_at space q)) (pairs_made made)
  pub unchecked : (p : ℕ) (pair : Pair) → slice_get (pairs_of space.targets) p ≡ Some pair → ¬ (Contains (pairs_made made) p) → ¬ (HasChecked told (key_at space p))
  pub within : (key : TableKey) → HasStarted told key → HasDocument space key

-- ---- all that is kept

module _ (space : Space) (sound : IsSoundSpace space) (g : Given) (of_space : g.active.build.space ≡ space) (messages : List Said) (keys : List (List ℕ)) (old new : Cache) (made : List Made)
    (remembers : RemembersChecks space g.earlier old keys) (stored : StoresAll space made old new) (are : AreMade space (told_by g messages) keys made) where
  abbrev now : Told
  now = told_by g messages

  own_root : IsOfRoot space.root (told_by g messages)
  own_root = record {
    root_is = ap (λ (s : Space). s.root) of_space;
    apart = subst (λ (s : Space). AllPairs (AreApart s) (pairs_of s.targets)) (sym of_space) sound.apart;
    once = subst (λ (s : Space). (target pair : ℕ) → ¬ (IsRepeat s.targets target pair)) (sym of_space) sound.once;
  }

  module _ (p : ℕ) (pair : Pair) (there : slice_get (pairs_of space.targets) p ≡ Some pair) where
    abbrev own : PairKey
    own = key_of space.targets pair

    first_made : (it : Made) → Contains made it → it.pair ≡ p → FirstFits keys (now ∷ g.earlier) (key_at space p) (first_at new (key_of space.targets pair))
    first_made it among is =
        let here : slice_get (pairs_of space.targets) it.pair ≡ Some pair = ap (slice_get (pairs_of space.targets)) is ∙ there in
        let kept : IsKept keys (world_in g.active) p it.fact =
        subst (λ q. IsKept keys (world_in g.active) q it.fact) is (All-contains (λ (m : Made). IsKept keys (world_in g.active) m.pair m.fact) made it are.each among) in
        let was : HasChecked now (key_at space p) =
        All-contains (λ q. HasChecked now (key_at space q)) (pairs_made made) p are.checked
        (subst (Contains (pairs_made made)) is (contains_map (λ (m : Made). m.pair) made it among)) in
        let at : IsKeyOf g.active p (key_at space p) =
        record {
          pair = pair;
          there = subst (λ (s : Space). slice_get (pairs_of s.targets) p ≡ Some pair) (sym of_space) there;
          is = ap (λ (s : Space). key_at s p) of_space;
        } in
        subst (FirstFits keys (now ∷ g.earlier) (key_at space p)) (sym (stored.own it pair among here).first)
        (record { told = now; last = newest was; pair = p; at = at; kept = kept })

    other_made : (it : Made) → Contains made it → it.pair ≡ p → OtherFits keys (now ∷ g.earlier) (key_at space p) (other_at new (key_of space.targets pair))
    other_made it among is =
        let here : slice_get (pairs_of space.targets) it.pair ≡ Some pair = ap (slice_get (pairs_of space.targets)) is ∙ there in
        subst (OtherFits keys (now ∷ g.earlier) (key_at space p)) (sym (stored.own it pair among here).other)
        (other_moved keys now g.earlier (key_at space p) (first_at old own) (other_at old own) (remembers.first p pair there) (remembers.other p pair there))

    first_still : ¬ (Contains (pairs_made made) p) → FirstFits keys (now ∷ g.earlier) (key_at space p) (first_at new (key_of space.targets pair))
    first_still absent =
        subst (FirstFits keys (now ∷ g.earlier) (key_at space p)) (sym (stored.others p pair there absent).first)
        (first_left keys now g.earlier (key_at space p) (are.unchecked p pair there absent) (first_at old own) (remembers.first p pair there))

    other_still : ¬ (Contains (pairs_made made) p) → OtherFits keys (now ∷ g.earlier) (key_at space p) (other_at new (key_of space.targets pair))
    other_still absent =
        subst (OtherFits keys (now ∷ g.earlier) (key_at space p)) (sym (stored.others p pair there absent).other)
        (other_more keys now g.earlier (key_at space p) (other_at old own) (remembers.other p pair there))

    first_fits : (among : Bool) → list_any (λ n. n == p) (pairs_made made) ≡ among → FirstFits keys (now ∷ g.earlier) (key_at space p) (first_at new (key_of space.targets pair))
    first_fits true is =
        let image = image_of (λ (m : Made). m.pair) made p (among_by (pairs_made made) p is) in
        first_made image.it image.there image.is
    first_fits false is = first_still (apart_by (pairs_made made) p is)

    other_fits : (among : Bool) → list_any (λ n. n == p) (pairs_made made) ≡ among → OtherFits keys (now ∷ g.earlier) (key_at space p) (other_at new (key_of space.targets pair))
    other_fits true is =
        let image = image_of (λ (m : Made). m.pair) made p (among_by (pairs_made made) p is) in
        other_made image.it image.there image.is
    other_fits false is = other_still (apart_by (pairs_made made) p is)

  within : (told : Told) (key : TableKey) → Contains (now ∷ g.earlier) told → HasStarted told key → HasDocument space key
  within told key there started = by (contains_cases now g.earlier told there)
    where
      by : (now ≡ told) ⊎ Contains g.earlier told → HasDocument space key
      by (inl same) = are.within key (subst (λ (t : Told). HasStarted t key) (sym same) started)
      by (inr earlier) = remembers.within told key earlier started

  remembers_more : RemembersChecks space (now ∷ g.earlier) new keys
  remembers_more = record {
    of_root = All-cons (IsOfRoot space.root) now g.earlier own_root remembers.of_root;
    within = within;
    first = λ p pair there. first_fits p pair there (list_any (λ n. n == p) (pairs_made made)) refl;
    other = λ p pair there. other_fits p pair there (list_any (λ n. n == p) (pairs_made made)) refl;
  }

pub stored_more : (space : Space) → IsSoundSpace space → (g : Given) → g.active.build.space ≡ space → (messages : List Said) (keys : List (List ℕ)) (old new : Cache) (made : List Made)
    → RemembersChecks space g.earlier old keys → (AllPairs ◌≢◌ (pairs_made made) → StoresAll space made old new) → AreMade space (told_by g messages) keys made
    → RemembersChecks space (told_by g messages ∷ g.earlier) new keys
stored_more space sound g of_space messages keys old new made remembers stores are =
    remembers_more space sound g of_space messages keys old new made remembers (stores are.distinct) are
