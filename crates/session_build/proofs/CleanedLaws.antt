-- Documents of builds that were answered are cleaned: what was kept of the others is so still.
use Rattle.std.proofs.Common.{◌⊎◌, inl, inr, ℕ, List, [], ◌∷◌, Option, None, Some, sym, subst}
use Rattle.std.specs.List.{Contains}
use Rattle.std.proofs.lemmas.List.Elements.{Contains-append_cases, Contains-append_left, Contains-append_right}
use Rattle.check_cache.specs.Facts.{FactTree}
use Rattle.session_law.proofs.HistoryLaws.{last_checked}
use Rattle.session_law.proofs.ListLaws.{contains_map, contains_map_back, contains_none}
use Rattle.session_law.specs.History.{HasChecked, HasStarted, LastChecked, Told, all_cleaned, newest, older, with_cleaned}
use Rattle.session_build.specs.Remembering.{FirstFits, IsOfSome, OtherFits}
use Rattle.task_stream.specs.declared.shown.TableKey.{TableKey}

module _ (gone : List TableKey) (key : TableKey) where
  -- ---- what started and wasn't cleaned

  pub cleaned_started : (told : Told) → HasStarted (with_cleaned gone told) key → HasStarted told key × (¬ (Contains gone key))
  cleaned_started told started = (
    record {
      j = started.j;
      i = started.i;
      of_target = started.of_target;
      started = started.started;
      uncleaned = λ there. started.uncleaned (Contains-append_left told.cleaned gone key there);
    },
    λ there. started.uncleaned (Contains-append_right told.cleaned gone key there),
  )

  cleaned_checked : (told : Told) → HasChecked (with_cleaned gone told) key → HasChecked told key × (¬ (Contains gone key))
  cleaned_checked told checked = (
    record {
      j = checked.j;
      i = checked.i;
      failed = checked.failed;
      of_target = checked.of_target;
      started = checked.started;
      finished = checked.finished;
      uncleaned = λ there. checked.uncleaned (Contains-append_left told.cleaned gone key there);
    },
    λ there. checked.uncleaned (Contains-append_right told.cleaned gone key there),
  )

  -- where the document is among these, no build checked it any more
  pub first_gone : (builds : List Told) → ((told : Told) → Contains builds told → HasChecked told key → Contains gone key) → (told : Told) → ¬ (LastChecked key (all_cleaned gone builds) told)
  first_gone builds is_gone told last =
      let found = last_checked last in
      let from = contains_map_back (with_cleaned gone) builds told found.0 in
      let own = cleaned_checked from.0 (subst (λ (t : Told). HasChecked t key) (sym from.2) found.1) in
      own.1 (is_gone from.0 from.1 own.0)

  -- ---- where the document isn't among these

  module _ (stays : ¬ (Contains gone key)) where
    clean_still : (told : Told) → ¬ (Contains told.cleaned key) → ¬ (Contains (with_cleaned gone told).cleaned key)
    clean_still told clean there = by (Contains-append_cases told.cleaned gone key there)
      where
        by : Contains told.cleaned key ⊎ Contains gone key → ⊥
        by (inl earlier) = clean earlier
        by (inr now) = stays now

    pub still_started : (told : Told) → HasStarted told key → HasStarted (with_cleaned gone told) key
    still_started told started = record { j = started.j; i = started.i; of_target = started.of_target; started = started.started; uncleaned = clean_still told started.uncleaned }

    still_checked : (told : Told) → HasChecked told key → HasChecked (with_cleaned gone told) key
    still_checked told checked = record {
      j = checked.j;
      i = checked.i;
      failed = checked.failed;
      of_target = checked.of_target;
      started = checked.started;
      finished = checked.finished;
      uncleaned = clean_still told checked.uncleaned;
    }

    last_still : {builds : List Told} {last : Told} → LastChecked key builds last → LastChecked key (all_cleaned gone builds) (with_cleaned gone last)
    last_still (newest {told = told} checked) = newest (still_checked told checked)
    last_still (older {told = told} other rest) = older (λ checked. other (cleaned_checked told checked).0) (last_still rest)

    last_back : (builds : List Told) (last : Told) → LastChecked key (all_cleaned gone builds) last → (told : Told) × LastChecked key builds told
    last_back [] last checked = absurd (contains_none last (last_checked checked).0)
    last_back (told ∷ earlier) last (newest checked) = (told, newest (cleaned_checked told checked).0)
    last_back (told ∷ earlier) last (older other rest) =
        let back = last_back earlier last rest in
        (back.0, older (λ checked. other (still_checked told checked)) back.1)

    -- what stands in the places stays

    pub first_still : (keys : List (List ℕ)) (builds : List Told) (place : Option FactTree) → FirstFits keys builds key place → FirstFits keys (all_cleaned gone builds) key place
    first_still keys builds None fits = λ told last. (let back = last_back builds told last in fits back.0 back.1)
    first_still keys builds (Some fact) fits = record { told = with_cleaned gone fits.told; last = last_still fits.last; pair = fits.pair; at = fits.at; kept = fits.kept }

    pub other_still : (keys : List (List ℕ)) (builds : List Told) (place : Option FactTree) → OtherFits keys builds key place → OtherFits keys (all_cleaned gone builds) key place
    other_still keys builds None fits = tt
    other_still keys builds (Some fact) fits = some_still
      where
        some_still : IsOfSome keys (all_cleaned gone builds) key fact
        some_still = record {
          told = with_cleaned gone fits.told;
          there = contains_map (with_cleaned gone) builds fits.told fits.there;
          started = still_started fits.told fits.started;
          pair = fits.pair;
          at = fits.at;
          kept = fits.kept;
        }
