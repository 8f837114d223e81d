-- What is kept of a stage agrees with it, one step after another.
use Rattle.std.proofs.Common.{◌≡◌, ◌≢◌, ◌≤◌, ◌⊎◌, inl, inr, ◌++◌, ℕ, zero, suc, List, [], ◌∷◌, get_or, Some, sym, subst, ◌∙◌, arith}
use Rattle.std.specs.Prelude.{◌↔◌}
use Rattle.std.specs.List.{AllPairs, Contains, slice_get}
use Rattle.std.proofs.lemmas.List.{map-append}
use Rattle.std.proofs.lemmas.List.Elements.{All-nil, All-push, All-head, All-tail, All-contains, All-weaker, Contains-get_or, Contains-push, Contains-push_cases, Contains-append_left}
use Rattle.build_checks.specs.Stand as stand
use Rattle.build_rules.specs.World.{World, Imports, IsCyclic}
use Rattle.session_law.specs.Builds.{Finding}
use Rattle.session_law.specs.Course.{Given, Stage, IsNext, IsReady, NoneIsNext, first_stage, pairs_in, with_known, with_begun, with_checked}
use Rattle.session_law.specs.History.{world_in}
use Rattle.session_law.specs.declared.BuildDocument.{BuildDocument}
use Rattle.session_law.proofs.ListLaws.{contains_cases, contains_none}
use Rattle.session_build.specs.Stages.{Agrees, AreBegun, IsRunning, Running, SameMembers, pairs_running}
use Rattle.session_build.proofs.Moved.{all_by, map_moved, moved_back, moved_map}
use Rattle.session_build.proofs.Members.{IsImage, contains_at, contains_map, distinct_first, distinct_push, distinct_rest, image_of}

-- ---- members

-- the module, and no other, came to these
abbrev pub Adds : List ℕ → ℕ → List ℕ → Type 0
Adds old p new = (q : ℕ) → Contains new q ↔ (Contains old q ⊎ (p ≡ q))

members_push : (xs ys zs : List ℕ) (p : ℕ) → SameMembers xs ys → Adds ys p zs → SameMembers (xs ++ p ∷ []) zs
members_push xs ys zs p same adds q = (λ there. (adds q).1 (on (Contains-push_cases xs p q there)), λ there. back ((adds q).0 there))
  where
    on : Contains xs q ⊎ (p ≡ q) → Contains ys q ⊎ (p ≡ q)
    on (inl h) = inl ((same q).0 h)
    on (inr e) = inr e

    back : Contains ys q ⊎ (p ≡ q) → Contains (xs ++ p ∷ []) q
    back (inl h) = Contains-append_left xs (p ∷ []) q ((same q).1 h)
    back (inr e) = subst (Contains (xs ++ p ∷ [])) e (Contains-push xs p)

pub adds_push : (xs ys : List ℕ) (p : ℕ) → ys ≡ xs ++ p ∷ [] → Adds xs p ys
adds_push xs ys p is q = (λ there. on (Contains-push_cases xs p q (subst (λ zs. Contains zs q) is there)), λ there. subst (λ zs. Contains zs q) (sym is) (back there))
  where
    on : Contains xs q ⊎ (p ≡ q) → Contains xs q ⊎ (p ≡ q)
    on h = h

    back : Contains xs q ⊎ (p ≡ q) → Contains (xs ++ p ∷ []) q
    back (inl h) = Contains-append_left xs (p ∷ []) q h
    back (inr e) = subst (Contains (xs ++ p ∷ [])) e (Contains-push xs p)

pairs_push : (findings : List Finding) (finding : Finding) → pairs_in (findings ++ finding ∷ []) ≡ pairs_in findings ++ finding.document.pair ∷ []
pairs_push findings finding = map-append (λ (f : Finding). f.document.pair) findings (finding ∷ [])

running_push : (running : List Running) (it : Running) → pairs_running (running ++ it ∷ []) ≡ pairs_running running ++ it.pair ∷ []
running_push running it = map-append (λ (r : Running). r.pair) running (it ∷ [])

slice_get_left : (xs ys : List ℕ) (k q : ℕ) → slice_get xs k ≡ Some q → slice_get (xs ++ ys) k ≡ Some q
slice_get_left [] ys k q there = cc
slice_get_left (x ∷ xs) ys zero q there = there
slice_get_left (x ∷ xs) ys (suc k) q there = slice_get_left xs ys k q there

-- ---- which document is next

-- no module that can be taken is before this one
pub record IsFirstIn (w : World) (modules taken settled : List ℕ) (p : ℕ) : Type 0 where
  pub ready : stand.IsReady w modules taken settled p
  pub least : (q : ℕ) → stand.IsReady w modules taken settled q → p ≤ q

module _ (g : Given) (s : Stage) (w : World) (modules taken settled : List ℕ) (agrees : Agrees g s w modules taken settled) where
  ready_in : (document : BuildDocument) → IsReady g s document → stand.IsReady w modules taken settled document.pair
  ready_in document ready = record {
    among =
        (agrees.modules_are document.pair).0 (contains_map (λ (d : BuildDocument). d.pair) g.documents document ready.there);
    is_new = λ there. ready.is_new ((agrees.taken_are document.pair).1 there);
    clear = λ q imports. on q (ready.clear q (subst (λ v. Imports v document.pair q) agrees.world_is imports));
  }
    where
      on : (q : ℕ) → Contains (pairs_in s.settled) q ⊎ IsCyclic (world_in g.active) q → Contains settled q ⊎ IsCyclic w q
      on q (inl there) = inl ((agrees.settled_are q).0 there)
      on q (inr cyclic) = inr (subst (λ v. IsCyclic v q) (sym agrees.world_is) cyclic)

  ready_back : (document : BuildDocument) → Contains g.documents document → stand.IsReady w modules taken settled document.pair → IsReady g s document
  ready_back document there ready = record {
    there = there;
    is_new = λ taken_it. ready.is_new ((agrees.taken_are document.pair).0 taken_it);
    clear = λ q imports. on q (ready.clear q (subst (λ v. Imports v document.pair q) (sym agrees.world_is) imports));
  }
    where
      on : (q : ℕ) → Contains settled q ⊎ IsCyclic w q → Contains (pairs_in s.settled) q ⊎ IsCyclic (world_in g.active) q
      on q (inl here) = inl ((agrees.settled_are q).1 here)
      on q (inr cyclic) = inr (subst (λ v. IsCyclic v q) agrees.world_is cyclic)

  pub next_here : (document : BuildDocument) → Contains g.documents document → IsFirstIn w modules taken settled document.pair → IsNext g s document
  next_here document there first = record {
    ready = ready_back document there first.ready;
    least = λ other ready. first.least other.pair (ready_in other ready);
  }

  pub none_here : ((p : ℕ) → ¬ (stand.IsReady w modules taken settled p)) → NoneIsNext g s
  none_here none document ready = none document.pair (ready_in document ready)

  -- ---- members, step by step

  pub agrees_known : (finding : Finding) (taken' settled' : List ℕ) → Adds taken finding.document.pair taken' → Adds settled finding.document.pair settled'
      → Agrees g (with_known s finding) w modules taken' settled'
  agrees_known finding taken' settled' takes settles = record {
    world_is = agrees.world_is;
    modules_are = agrees.modules_are;
    taken_are = members_push s.taken taken taken' finding.document.pair agrees.taken_are takes;
    settled_are =
        subst (λ xs. SameMembers xs settled') (sym (pairs_push s.settled finding))
        (members_push (pairs_in s.settled) settled settled' finding.document.pair agrees.settled_are settles);
  }

  pub agrees_begun : (document : BuildDocument) (taken' : List ℕ) → Adds taken document.pair taken' → Agrees g (with_begun s document) w modules taken' settled
  agrees_begun document taken' takes = record {
    world_is = agrees.world_is;
    modules_are = agrees.modules_are;
    taken_are = members_push s.taken taken taken' document.pair agrees.taken_are takes;
    settled_are = agrees.settled_are;
  }

  pub agrees_checked : (finding : Finding) (settled' : List ℕ) → Adds settled finding.document.pair settled' → Agrees g (with_checked s finding) w modules taken settled'
  agrees_checked finding settled' settles = record {
    world_is = agrees.world_is;
    modules_are = agrees.modules_are;
    taken_are = agrees.taken_are;
    settled_are =
        subst (λ xs. SameMembers xs settled') (sym (pairs_push s.settled finding))
        (members_push (pairs_in s.settled) settled settled' finding.document.pair agrees.settled_are settles);
  }

-- ---- the checks that started

module _ (g : Given) where
  pub begun_none : AreBegun g first_stage [] []
  begun_none = record {
    each = All-nil (IsRunning g first_stage);
    distinct = λ i j d h k. absurd (omega arith);
    taken = λ q there. absurd (contains_none q there);
    begun = λ q there. absurd (contains_none q there);
    made_begun = All-nil (Contains []);
    made_settled = All-nil (Contains []);
    made_distinct = λ i j d h k. absurd (omega arith);
  }

  module _ (s : Stage) (running : List Running) (made : List ℕ) (are : AreBegun g s running made) where
    settled_more : (finding : Finding) (q : ℕ) → Contains (pairs_in s.settled) q → Contains (pairs_in (s.settled ++ finding ∷ [])) q
    settled_more finding q there =
        subst (λ xs. Contains xs q) (sym (pairs_push s.settled finding)) (Contains-append_left (pairs_in s.settled) (finding.document.pair ∷ []) q there)

    settled_last : (finding : Finding) (q : ℕ) → finding.document.pair ≡ q → Contains (pairs_in (s.settled ++ finding ∷ [])) q
    settled_last finding q is =
        subst (λ xs. Contains xs q) (sym (pairs_push s.settled finding))
        (subst (Contains (pairs_in s.settled ++ finding.document.pair ∷ [])) is (Contains-push (pairs_in s.settled) finding.document.pair))

    settled_cases : (finding : Finding) (q : ℕ) → Contains (pairs_in (s.settled ++ finding ∷ [])) q → Contains (pairs_in s.settled) q ⊎ (finding.document.pair ≡ q)
    settled_cases finding q there =
        Contains-push_cases (pairs_in s.settled) finding.document.pair q (subst (λ xs. Contains xs q) (pairs_push s.settled finding) there)

    -- a check that runs still does, where another document is settled
    runs_on : (begun' taken' : List ℕ) (finding : Finding) (it : Running) → ((k : ℕ) (q : ℕ) → slice_get s.begun k ≡ Some q → slice_get begun' k ≡ Some q)
        → finding.document.pair ≢ it.pair → IsRunning g s it
        → IsRunning g (record { begun = begun'; taken = taken'; settled = s.settled ++ finding ∷ [] }) it
    runs_on begun' taken' finding it stays apart runs = record {
      document = runs.document;
      there = runs.there;
      pair_is = runs.pair_is;
      runs = record {
        before = runs.runs.before;
        there = stays runs.runs.before runs.document.pair runs.runs.there;
        number_is = runs.runs.number_is;
        unfinished = λ settled. by (settled_cases finding runs.document.pair settled);
      };
      of_target = runs.of_target;
    }
      where
        by : Contains (pairs_in s.settled) runs.document.pair ⊎ (finding.document.pair ≡ runs.document.pair) → ⊥
        by (inl h) = runs.runs.unfinished h
        by (inr e) = apart (e ∙ runs.pair_is)

    pub begun_known : (finding : Finding) → ¬ (Contains s.begun finding.document.pair) → AreBegun g (with_known s finding) running made
    begun_known finding new = record {
      each = λ k d h. runs_on s.begun (s.taken ++ finding.document.pair ∷ []) finding (get_or running k d) (λ k q there. there)
          (λ same. (let runs = are.each k d h in
          new (subst (Contains s.begun) (runs.pair_is ∙ sym same) (contains_at s.begun runs.runs.before runs.document.pair runs.runs.there)))) (are.each k d h);
      distinct = are.distinct;
      taken = λ q there. by q (Contains-push_cases s.taken finding.document.pair q there);
      begun = are.begun;
      made_begun = are.made_begun;
      made_settled = All-weaker (Contains (pairs_in s.settled)) (Contains (pairs_in (s.settled ++ finding ∷ []))) (settled_more finding) made are.made_settled;
      made_distinct = are.made_distinct;
    }
      where
        old : (q : ℕ) → Contains (pairs_in s.settled) q ⊎ Contains (pairs_running running) q
            → Contains (pairs_in (s.settled ++ finding ∷ [])) q ⊎ Contains (pairs_running running) q
        old q (inl h) = inl (settled_more finding q h)
        old q (inr h) = inr h

        by : (q : ℕ) → Contains s.taken q ⊎ (finding.document.pair ≡ q) → Contains (pairs_in (s.settled ++ finding ∷ [])) q ⊎ Contains (pairs_running running) q
        by q (inl there) = old q (are.taken q there)
        by q (inr is) = inl (settled_last finding q is)

    pub begun_begun : (document : BuildDocument) (it : Running) → ¬ (Contains s.taken document.pair) → ((q : ℕ) → Contains s.begun q → Contains s.taken q)
        → it.pair ≡ document.pair → IsRunning g (with_begun s document) it → AreBegun g (with_begun s document) (running ++ it ∷ []) made
    begun_begun document it new begun_taken own runs = record {
      each = All-push (IsRunning g (with_begun s document)) running it (λ k d h. on (get_or running k d) (are.each k d h)) runs;
      distinct = subst (λ xs. AllPairs ◌≢◌ xs) (sym (running_push running it)) (distinct_push (pairs_running running) it.pair are.distinct (λ there. new (subst (Contains s.taken) own (running_taken it.pair there))));
      taken = λ q there. taken q (Contains-push_cases s.taken document.pair q there);
      begun = λ q there. begun q (Contains-push_cases s.begun document.pair q there);
      made_begun = All-weaker (Contains s.begun) (Contains (s.begun ++ document.pair ∷ [])) (Contains-append_left s.begun (document.pair ∷ [])) made are.made_begun;
      made_settled = are.made_settled;
      made_distinct = are.made_distinct;
    }
      where
        on : (old : Running) → IsRunning g s old → IsRunning g (with_begun s document) old
        on old runs = record {
          document = runs.document;
          there = runs.there;
          pair_is = runs.pair_is;
          runs = record {
            before = runs.runs.before;
            there = slice_get_left s.begun (document.pair ∷ []) runs.runs.before runs.document.pair runs.runs.there;
            number_is = runs.runs.number_is;
            unfinished = runs.runs.unfinished;
          };
          of_target = runs.of_target;
        }

        running_taken : (q : ℕ) → Contains (pairs_running running) q → Contains s.taken q
        running_taken q there =
            let image : IsImage (λ (r : Running). r.pair) running q = image_of (λ (r : Running). r.pair) running q there in
            let its = All-contains (IsRunning g s) running image.it are.each image.there in
            begun_taken q (subst (Contains s.begun) (its.pair_is ∙ image.is) (contains_at s.begun its.runs.before its.document.pair its.runs.there))

        here : (q : ℕ) → document.pair ≡ q → Contains (pairs_running (running ++ it ∷ [])) q
        here q is =
            subst (λ xs. Contains xs q) (sym (running_push running it))
            (subst (Contains (pairs_running running ++ it.pair ∷ [])) (own ∙ is) (Contains-push (pairs_running running) it.pair))

        more : (q : ℕ) → Contains (pairs_running running) q → Contains (pairs_running (running ++ it ∷ [])) q
        more q there = subst (λ xs. Contains xs q) (sym (running_push running it)) (Contains-append_left (pairs_running running) (it.pair ∷ []) q there)

        taken_old : (q : ℕ) → Contains (pairs_in s.settled) q ⊎ Contains (pairs_running running) q → Contains (pairs_in s.settled) q ⊎ Contains (pairs_running (running ++ it ∷ [])) q
        taken_old q (inl h) = inl h
        taken_old q (inr h) = inr (more q h)

        taken : (q : ℕ) → Contains s.taken q ⊎ (document.pair ≡ q) → Contains (pairs_in s.settled) q ⊎ Contains (pairs_running (running ++ it ∷ [])) q
        taken q (inl h) = taken_old q (are.taken q h)
        taken q (inr is) = inr (here q is)

        begun_old : (q : ℕ) → Contains made q ⊎ Contains (pairs_running running) q → Contains made q ⊎ Contains (pairs_running (running ++ it ∷ [])) q
        begun_old q (inl h) = inl h
        begun_old q (inr h) = inr (more q h)

        begun : (q : ℕ) → Contains s.begun q ⊎ (document.pair ≡ q) → Contains made q ⊎ Contains (pairs_running (running ++ it ∷ [])) q
        begun q (inl h) = begun_old q (are.begun q h)
        begun q (inr is) = inr (here q is)

  -- the first of those that run finishes
  pub begun_checked : (s : Stage) (it : Running) (rest : List Running) (made : List ℕ) (finding : Finding) → AreBegun g s (it ∷ rest) made
      → finding.document.pair ≡ it.pair → AreBegun g (with_checked s finding) rest (made ++ it.pair ∷ [])
  begun_checked s it rest made finding are own = record {
    each = λ k d h. (let old : Running = get_or rest k d in
        runs_on s (it ∷ rest) made are s.begun s.taken finding old (λ k q there. there)
        (λ same. distinct_first it.pair (pairs_running rest) are.distinct
        (subst (Contains (pairs_running rest)) (sym same ∙ own) (contains_map (λ (r : Running). r.pair) rest old (Contains-get_or rest k d h))))
        (All-tail (IsRunning g s) it rest are.each k d h));
    distinct = distinct_rest it.pair (pairs_running rest) are.distinct;
    taken = λ q there. taken q (are.taken q there);
    begun = λ q there. begun q (are.begun q there);
    made_begun = All-push (Contains s.begun) made it.pair are.made_begun (subst (Contains s.begun) first.pair_is (contains_at s.begun first.runs.before first.document.pair first.runs.there));
    made_settled =
        All-push (Contains (pairs_in (s.settled ++ finding ∷ []))) made it.pair
        (All-weaker (Contains (pairs_in s.settled)) (Contains (pairs_in (s.settled ++ finding ∷ []))) (settled_more s (it ∷ rest) made are finding) made are.made_settled)
        (settled_last s (it ∷ rest) made are finding it.pair own);
    made_distinct = distinct_push made it.pair are.made_distinct
        (λ there. first.runs.unfinished (subst (Contains (pairs_in s.settled)) (sym first.pair_is) (All-contains (Contains (pairs_in s.settled)) made it.pair are.made_settled there)));
  }
    where
      first : IsRunning g s it
      first = All-head (IsRunning g s) it rest are.each

      taken_rest : (q : ℕ) → (it.pair ≡ q) ⊎ Contains (pairs_running rest) q → Contains (pairs_in (s.settled ++ finding ∷ [])) q ⊎ Contains (pairs_running rest) q
      taken_rest q (inl is) = inl (settled_last s (it ∷ rest) made are finding q (own ∙ is))
      taken_rest q (inr h) = inr h

      taken : (q : ℕ) → Contains (pairs_in s.settled) q ⊎ Contains (pairs_running (it ∷ rest)) q → Contains (pairs_in (s.settled ++ finding ∷ [])) q ⊎ Contains (pairs_running rest) q
      taken q (inl h) = inl (settled_more s (it ∷ rest) made are finding q h)
      taken q (inr h) = taken_rest q (contains_cases it.pair (pairs_running rest) q h)

      begun_rest : (q : ℕ) → (it.pair ≡ q) ⊎ Contains (pairs_running rest) q → Contains (made ++ it.pair ∷ []) q ⊎ Contains (pairs_running rest) q
      begun_rest q (inl is) = inl (subst (Contains (made ++ it.pair ∷ [])) is (Contains-push made it.pair))
      begun_rest q (inr h) = inr h

      begun : (q : ℕ) → Contains made q ⊎ Contains (pairs_running (it ∷ rest)) q → Contains (made ++ it.pair ∷ []) q ⊎ Contains (pairs_running rest) q
      begun q (inl h) = inl (Contains-append_left made (it.pair ∷ []) q h)
      begun q (inr h) = begun_rest q (contains_cases it.pair (pairs_running rest) q h)

-- which of those that run is spoken of first changes nothing
pub begun_moved : (g : Given) (s : Stage) (front back : List Running) (it : Running) (made : List ℕ) → AreBegun g s (front ++ it ∷ back) made → AreBegun g s (it ∷ (front ++ back)) made
begun_moved g s front back it made are = record {
  each = all_by (IsRunning g s) (front ++ it ∷ back) (it ∷ (front ++ back)) (moved_back front back it) are.each;
  distinct = map_moved (λ (r : Running). r.pair) front back it are.distinct;
  taken = λ q there. settled_or q (are.taken q there);
  begun = λ q there. made_or q (are.begun q there);
  made_begun = are.made_begun;
  made_settled = are.made_settled;
  made_distinct = are.made_distinct;
}
  where
    settled_or : (q : ℕ) → Contains (pairs_in s.settled) q ⊎ Contains (pairs_running (front ++ it ∷ back)) q → Contains (pairs_in s.settled) q ⊎ Contains (pairs_running (it ∷ (front ++ back))) q
    settled_or q (inl h) = inl h
    settled_or q (inr h) = inr (moved_map (λ (r : Running). r.pair) front back it q h)

    made_or : (q : ℕ) → Contains made q ⊎ Contains (pairs_running (front ++ it ∷ back)) q → Contains made q ⊎ Contains (pairs_running (it ∷ (front ++ back))) q
    made_or q (inl h) = inl h
    made_or q (inr h) = inr (moved_map (λ (r : Running). r.pair) front back it q h)
