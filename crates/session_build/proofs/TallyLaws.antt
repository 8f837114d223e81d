-- Tallies, one document after another, and what they say of a whole build.
use Rattle.std.proofs.Common.{◌≡◌, ◌≢◌, ◌⊎◌, inl, inr, ◌<◌, ◌+◌, ◌++◌, ◌||◌, ◌==◌, ℕ, zero, suc, List, [], ◌∷◌, length, get_or, drop, Bool, true, false, Some, refl, sym, ap, subst, ◌∙◌, arith}
use Rattle.std.specs.Prelude.{if◌then◌else◌, slice_set}
use Rattle.std.specs.List.{Contains, slice_get}
use Rattle.std.specs.Str.{bytes_eq}
use Rattle.std.proofs.lemmas.Bool.{cases_eq}
use Rattle.std.proofs.lemmas.Bool.Decides.{Decides-eqb}
use Rattle.std.proofs.lemmas.List.{drop_more}
use Rattle.std.proofs.lemmas.List.Elements.{Contains-push_cases}
use Rattle.std.proofs.lemmas.List.Folds.{list_any-append}
use Rattle.std.proofs.lemmas.Option.{same_Some}
use Rattle.session_law.specs.Builds.{Finding}
use Rattle.session_law.specs.Course.{Stage, first_stage, has_begun, pairs_in, with_begun}
use Rattle.session_law.specs.declared.BuildDocument.{BuildDocument}
use Rattle.session_law.proofs.ListLaws.{contains_map, contains_none}
use Rattle.session_build.specs.Tallies.{AreTallied, IsCount, IsTallied, tally_from, with_tally}
use Rattle.session_build.specs.declared.tally.Tally.{Tally}
use Rattle.build_messages.proofs.DocumentLaws.{among_by, any_at}

module _ (id : List ℕ) (sum : Tally) (documents : List BuildDocument) (tallies : List Tally) (k : ℕ) (d : BuildDocument) (t : Tally) (h : k < length documents) (l : k < length tallies) where
  step : (same : Bool) → same ≡ bytes_eq (get_or documents k d).key.target id
      → tally_from id (if same then with_tally sum (get_or tallies k t) else sum) (drop (k + 1) documents) (drop (k + 1) tallies) ≡ tally_from id sum (drop k documents) (drop k tallies)
  step same is =
      sym
      (ap (λ (xs : List BuildDocument). tally_from id sum xs (drop k tallies)) (drop_more documents k d h)
      ∙ (ap (λ (xs : List Tally). tally_from id sum (get_or documents k d ∷ drop (k + 1) documents) xs) (drop_more tallies k t l)
      ∙ ap (λ b. tally_from id (if b then with_tally sum (get_or tallies k t) else sum) (drop (k + 1) documents) (drop (k + 1) tallies)) (sym is)))

  pub step_same : true ≡ bytes_eq (get_or documents k d).key.target id
      → tally_from id (with_tally sum (get_or tallies k t)) (drop (k + 1) documents) (drop (k + 1) tallies) ≡ tally_from id sum (drop k documents) (drop k tallies)
  step_same is = step true is

  pub step_other : false ≡ bytes_eq (get_or documents k d).key.target id
      → tally_from id sum (drop (k + 1) documents) (drop (k + 1) tallies) ≡ tally_from id sum (drop k documents) (drop k tallies)
  step_other is = step false is

-- ---- which checks started

pub begun_not : (s : Stage) (pair : ℕ) → ¬ (Contains s.begun pair) → has_begun s pair ≡ false
begun_not s pair absent = by (has_begun s pair) refl
  where
    by : (b : Bool) → has_begun s pair ≡ b → has_begun s pair ≡ false
    by true is = absurd (absent (among_by s.begun pair is))
    by false is = is

pub begun_has : (s : Stage) (pair : ℕ) → Contains s.begun pair → has_begun s pair ≡ true
begun_has s pair there = any_at s.begun pair there.0 there.1 there.2

begun_push : (s : Stage) (document : BuildDocument) (pair : ℕ) → document.pair ≢ pair → has_begun (with_begun s document) pair ≡ has_begun s pair
begun_push s document pair other =
    list_any-append (λ n. n == pair) s.begun (document.pair ∷ [])
    ∙ (ap (λ b. has_begun s pair || (b || false)) (apart (document.pair == pair) refl) ∙ or_none (has_begun s pair))
  where
    apart : (b : Bool) → (document.pair == pair) ≡ b → (document.pair == pair) ≡ false
    apart true is = absurd (other ((Decides-eqb document.pair pair).0 is))
    apart false is = is

    or_none : (b : Bool) → (b || (false || false)) ≡ b
    or_none true = refl
    or_none false = refl

-- ---- where tallies stand

set_same : (xs : List Tally) (i : ℕ) (t : Tally) → i < length xs → slice_get (slice_set xs i t) i ≡ Some t
set_same [] i t h = absurd (omega arith)
set_same (x ∷ xs) zero t h = refl
set_same (x ∷ xs) (suc i) t h = set_same xs i t (omega arith)

set_other : (xs : List Tally) (k i : ℕ) (t : Tally) → k ≢ i → slice_get (slice_set xs i t) k ≡ slice_get xs k
set_other [] k i t other = refl
set_other (x ∷ xs) zero zero t other = absurd (other refl)
set_other (x ∷ xs) zero (suc i) t other = refl
set_other (x ∷ xs) (suc k) zero t other = refl
set_other (x ∷ xs) (suc k) (suc i) t other = set_other xs k i t (λ e. other (ap (λ n. suc n) e))

pub tallied_none : (documents : List BuildDocument) (tallies : List Tally) → AreTallied documents first_stage tallies
tallied_none documents tallies finding index there here = absurd (contains_none finding there)

module _ (documents : List BuildDocument) (s : Stage) (tallies : List Tally) (are : AreTallied documents s tallies) where
  -- a document is settled
  pub tallied_settled : (taken : List ℕ) (finding : Finding) (index : ℕ) (tally : Tally) → index < length tallies → slice_get documents index ≡ Some finding.document
      → ((k : ℕ) (d : BuildDocument) → slice_get documents k ≡ Some d → d.pair ≡ finding.document.pair → k ≡ index)
      → ¬ (Contains (pairs_in s.settled) finding.document.pair) → IsCount (has_begun s finding.document.pair) finding.list tally
      → AreTallied documents (record { begun = s.begun; taken = taken; settled = s.settled ++ finding ∷ [] }) (slice_set tallies index tally)
  tallied_settled taken finding index tally h there one unsettled count other k among here = by (Contains-push_cases s.settled finding other among) (cases_eq k index)
    where
      own : finding ≡ other → IsTallied (record { begun = s.begun; taken = taken; settled = s.settled ++ finding ∷ [] }) other (slice_set tallies index tally) k
      own same =
          let index_is : k ≡ index = one k other.document here (ap (λ (f : Finding). f.document.pair) (sym same)) in
          record {
            tally = tally;
            there = ap (slice_get (slice_set tallies index tally)) index_is ∙ set_same tallies index tally h;
            is = subst (λ (f : Finding). IsCount (has_begun s f.document.pair) f.list tally) same count;
          }

      by : Contains s.settled other ⊎ (finding ≡ other) → (k ≡ index) ⊎ (k ≡ index → ⊥) → IsTallied (record { begun = s.begun; taken = taken; settled = s.settled ++ finding ∷ [] }) other (slice_set tallies index tally) k
      by (inr same) o = own same
      by (inl old) (inr apart) =
          let it = are other k old here in
          record { tally = it.tally; there = set_other tallies k index tally apart ∙ it.there; is = it.is }
      by (inl old) (inl same) =
          let document : finding.document ≡ other.document = same_Some finding.document other.document (sym there ∙ (ap (slice_get documents) (sym same) ∙ here)) in
          absurd (unsettled (subst (Contains (pairs_in s.settled)) (ap (λ (d : BuildDocument). d.pair) (sym document)) (contains_map (λ (f : Finding). f.document.pair) s.settled other old)))

  -- a check starts
  pub tallied_begun : (document : BuildDocument) → ¬ (Contains (pairs_in s.settled) document.pair) → AreTallied documents (with_begun s document) tallies
  tallied_begun document unsettled finding k among here =
      let it = are finding k among here in
      let other : document.pair ≢ finding.document.pair =
      (λ same. unsettled (subst (Contains (pairs_in s.settled)) (sym same) (contains_map (λ (f : Finding). f.document.pair) s.settled finding among))) in
      record { tally = it.tally; there = it.there; is = subst (λ b. IsCount b finding.list it.tally) (sym (begun_push s document finding.document.pair other)) it.is }
