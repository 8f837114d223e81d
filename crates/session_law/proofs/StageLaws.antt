-- What the stages of a build keep: a document is looked at once, before its check starts and before it is settled.
use Rattle.std.proofs.Common.{◌≡◌, ◌≢◌, ◌⊎◌, inl, inr, ⊎_elim, ◌++◌, ℕ, List, [], ◌∷◌, All, AllPairs, Contains, sym, subst, arith}
use Rattle.std.proofs.lemmas.List.{map-append}
use Rattle.std.proofs.lemmas.List.Elements.{All-nil, All-push, Contains-append_left, Contains-push, Contains-push_cases}
use Rattle.rpc_peer.specs.Said.{Said}
use Rattle.session_law.proofs.ListLaws.{contains_at, contains_none, distinct_push}
use Rattle.session_law.specs.Builds.{Finding, IsFound}
use Rattle.session_law.specs.Course.{Course, Given, Stage, Runs, begins, checked, first_stage, known, pairs_in, starts, with_begun, with_checked, with_known}
use Rattle.session_law.specs.History.{world_in}
use Rattle.session_law.specs.declared.BuildDocument.{BuildDocument}

-- ---- the pairs of what is settled

pub pairs_push : (findings : List Finding) (finding : Finding) → pairs_in (findings ++ finding ∷ []) ≡ pairs_in findings ++ finding.document.pair ∷ []
pairs_push findings finding = map-append (λ (f : Finding). f.document.pair) findings (finding ∷ [])

pub pairs_cases : (findings : List Finding) (finding : Finding) (p : ℕ) → Contains (pairs_in (findings ++ finding ∷ [])) p → Contains (pairs_in findings) p ⊎ (finding.document.pair ≡ p)
pairs_cases findings finding p there =
    Contains-push_cases (pairs_in findings) finding.document.pair p (subst (λ ps. Contains ps p) (pairs_push findings finding) there)

pairs_distinct : (findings : List Finding) (finding : Finding) → AllPairs ◌≢◌ (pairs_in findings) → ¬ (Contains (pairs_in findings) finding.document.pair)
    → AllPairs ◌≢◌ (pairs_in (findings ++ finding ∷ []))
pairs_distinct findings finding apart absent =
    subst (λ (ps : List ℕ). AllPairs ◌≢◌ ps) (sym (pairs_push findings finding)) (distinct_push (pairs_in findings) finding.document.pair apart absent)

-- ---- what stays true

abbrev pub IsOf : Given → Finding → Type 0
IsOf g finding = Contains g.documents finding.document

-- what a stage is, however far the build is
pub record IsSound (g : Given) (s : Stage) : Type 0 where
  pub begun_taken : (p : ℕ) → Contains s.begun p → Contains s.taken p
  pub settled_taken : (p : ℕ) → Contains (pairs_in s.settled) p → Contains s.taken p
  pub begun_once : AllPairs ◌≢◌ s.begun
  pub taken_once : AllPairs ◌≢◌ s.taken
  pub settled_once : AllPairs ◌≢◌ (pairs_in s.settled)
  pub documents : All (IsOf g) s.settled
  pub found : All (IsFound (world_in g.active)) s.settled

first_sound : (g : Given) → IsSound g first_stage
first_sound g = record {
  begun_taken = λ p there. absurd (contains_none p there);
  settled_taken = λ p there. absurd (contains_none p there);
  begun_once = λ i j d h k. absurd (omega arith);
  taken_once = λ i j d h k. absurd (omega arith);
  settled_once = λ i j d h k. absurd (omega arith);
  documents = All-nil (IsOf g);
  found = All-nil (IsFound (world_in g.active));
}

-- a pair that was pushed, or that was there before
pushed : (xs : List ℕ) (y p : ℕ) → Contains xs p ⊎ (y ≡ p) → Contains (xs ++ y ∷ []) p
pushed xs y p (inl there) = Contains-append_left xs (y ∷ []) p there
pushed xs y p (inr same) = subst (λ q. Contains (xs ++ y ∷ []) q) same (Contains-push xs y)

known_sound : (g : Given) (s : Stage) (finding : Finding) → IsSound g s → ¬ (Contains s.taken finding.document.pair) → IsOf g finding → IsFound (world_in g.active) finding
    → IsSound g (with_known s finding)
known_sound g s finding sound new there found = record {
  begun_taken = λ p h. Contains-append_left s.taken (finding.document.pair ∷ []) p (sound.begun_taken p h);
  settled_taken = λ p h. pushed s.taken finding.document.pair p (⊎_elim (λ k. inl (sound.settled_taken p k)) (λ k. inr k) (pairs_cases s.settled finding p h));
  begun_once = sound.begun_once;
  taken_once = distinct_push s.taken finding.document.pair sound.taken_once new;
  settled_once = pairs_distinct s.settled finding sound.settled_once (λ k. new (sound.settled_taken finding.document.pair k));
  documents = All-push (IsOf g) s.settled finding sound.documents there;
  found = All-push (IsFound (world_in g.active)) s.settled finding sound.found found;
}

begun_sound : (g : Given) (s : Stage) (document : BuildDocument) → IsSound g s → ¬ (Contains s.taken document.pair) → IsSound g (with_begun s document)
begun_sound g s document sound new = record {
  begun_taken = λ p h. pushed s.taken document.pair p (⊎_elim (λ k. inl (sound.begun_taken p k)) (λ k. inr k) (Contains-push_cases s.begun document.pair p h));
  settled_taken = λ p h. Contains-append_left s.taken (document.pair ∷ []) p (sound.settled_taken p h);
  begun_once = distinct_push s.begun document.pair sound.begun_once (λ k. new (sound.begun_taken document.pair k));
  taken_once = distinct_push s.taken document.pair sound.taken_once new;
  settled_once = sound.settled_once;
  documents = sound.documents;
  found = sound.found;
}

checked_sound : (g : Given) (s : Stage) (finding : Finding) (j : ℕ) → IsSound g s → Runs s finding.document j → IsOf g finding → IsFound (world_in g.active) finding
    → IsSound g (with_checked s finding)
checked_sound g s finding j sound runs there found = record {
  begun_taken = sound.begun_taken;
  settled_taken = λ p h.
      ⊎_elim (sound.settled_taken p)
      (λ same. subst (λ q. Contains s.taken q) same (sound.begun_taken finding.document.pair (contains_at s.begun runs.before finding.document.pair runs.there)))
      (pairs_cases s.settled finding p h);
  begun_once = sound.begun_once;
  taken_once = sound.taken_once;
  settled_once = pairs_distinct s.settled finding sound.settled_once runs.unfinished;
  documents = All-push (IsOf g) s.settled finding sound.documents there;
  found = All-push (IsFound (world_in g.active)) s.settled finding sound.found found;
}

pub stage_sound : {g : Given} {s : Stage} {messages : List Said} → Course g s messages → IsSound g s
stage_sound {g} starts = first_sound g
stage_sound {g} (known {s = before} finding own course next is_known settles) =
    known_sound g before finding (stage_sound course) next.ready.is_new settles.there settles.found
stage_sound {g} (begins {s = before} document i course next due task) = begun_sound g before document (stage_sound course) next.ready.is_new
stage_sound {g} (checked {s = before} finding j i own course none runs task settles) =
    checked_sound g before finding j (stage_sound course) runs settles.there settles.found
