-- What a course says of the checks of a build: one that starts is due, a document that is settled without one is known, and
-- none is looked at before all that it imports is settled or on a cycle.
use Rattle.std.proofs.Common.{◌≡◌, ◌⊎◌, inl, inr, ⊎_elim, ◌++◌, ℕ, List, [], ◌∷◌, Contains, refl, sym, subst}
use Rattle.std.proofs.lemmas.List.Elements.{Contains-append_left, Contains-push_cases}
use Rattle.build_rules.specs.World.{Imports, IsCyclic}
use Rattle.rpc_peer.specs.Said.{Said}
use Rattle.session_law.proofs.ListLaws.{contains_at, contains_none}
use Rattle.session_law.proofs.StageLaws.{pairs_cases, pairs_push}
use Rattle.session_law.specs.Builds.{Finding}
use Rattle.session_law.specs.Course.{Course, Given, HasEnded, Stage, begins, checked, known, pairs_in, starts}
use Rattle.session_law.specs.History.{Due, Known, world_in}
use Rattle.session_law.specs.declared.BuildDocument.{BuildDocument}

-- the pair's document is one of the build, and a check of it is due
pub record IsDueAt (g : Given) (p : ℕ) : Type 0 where
  pub document : BuildDocument
  pub there : Contains g.documents document
  pub pair_is : document.pair ≡ p
  pub due : Due g.earlier g.active document

-- a check that started was due
pub begun_due : {g : Given} {s : Stage} {messages : List Said} → Course g s messages → (p : ℕ) → Contains s.begun p → IsDueAt g p
begun_due {g} starts p there = absurd (contains_none p there)
begun_due {g} (known finding own course next is_known settles) p there = begun_due course p there
begun_due {g} (begins {s = before} document i course next due task) p there =
    ⊎_elim (begun_due course p) (λ same. record { document = document; there = next.ready.there; pair_is = same; due = due }) (Contains-push_cases before.begun document.pair p there)
begun_due {g} (checked finding j i own course none runs task settles) p there = begun_due course p there

-- the pair's document is one of the build, and a check of it is known
pub record IsKnownAt (g : Given) (p : ℕ) : Type 0 where
  pub document : BuildDocument
  pub there : Contains g.documents document
  pub pair_is : document.pair ≡ p
  pub known : Known g.earlier g.active document

-- what is settled had a check that started, or is known
pub settled_checked : {g : Given} {s : Stage} {messages : List Said} → Course g s messages → (p : ℕ) → Contains (pairs_in s.settled) p → Contains s.begun p ⊎ IsKnownAt g p
settled_checked {g} starts p there = absurd (contains_none p there)
settled_checked {g} (known {s = before} finding own course next is_known settles) p there =
    ⊎_elim (settled_checked course p) (λ same. inr (record { document = finding.document; there = settles.there; pair_is = same; known = is_known })) (pairs_cases before.settled finding p there)
settled_checked {g} (begins {s = before} document i course next due task) p there =
    ⊎_elim (λ h. inl (Contains-append_left before.begun (document.pair ∷ []) p h)) (λ h. inr h) (settled_checked course p there)
settled_checked {g} (checked {s = before} finding j i own course none runs task settles) p there =
    ⊎_elim (settled_checked course p)
    (λ same. inl (subst (λ q. Contains before.begun q) same (contains_at before.begun runs.before finding.document.pair runs.there)))
    (pairs_cases before.settled finding p there)

-- so is each document of a build that told all
pub all_checked : {g : Given} {messages : List Said} (ended : HasEnded g messages) (document : BuildDocument) → Contains g.documents document
    → Contains ended.stage.begun document.pair ⊎ IsKnownAt g document.pair
all_checked ended document there = settled_checked ended.course document.pair (ended.all_settled document there)

-- what a document imports is settled or on a cycle
abbrev pub IsClearAt : Given → Stage → ℕ → Type 0
IsClearAt g s p = (q : ℕ) → Imports (world_in g.active) p q → Contains (pairs_in s.settled) q ⊎ IsCyclic (world_in g.active) q

-- it stays so as more is settled
clear_on : (g : Given) (s : Stage) (finding : Finding) (p : ℕ) → IsClearAt g s p
    → (q : ℕ) → Imports (world_in g.active) p q → Contains (pairs_in (s.settled ++ finding ∷ [])) q ⊎ IsCyclic (world_in g.active) q
clear_on g s finding p clear q imports =
    ⊎_elim
    (λ h. inl (subst (λ ps. Contains ps q) (sym (pairs_push s.settled finding)) (Contains-append_left (pairs_in s.settled) (finding.document.pair ∷ []) q h)))
    (λ h. inr h)
    (clear q imports)

-- a document that was looked at imports nothing that isn't settled, cycles aside
pub taken_clear : {g : Given} {s : Stage} {messages : List Said} → Course g s messages → (p : ℕ) → Contains s.taken p → IsClearAt g s p
taken_clear {g} starts p there = absurd (contains_none p there)
taken_clear {g} (known {s = before} finding own course next is_known settles) p there =
    clear_on g before finding p
    (⊎_elim (taken_clear course p) (λ same. subst (IsClearAt g before) same next.ready.clear) (Contains-push_cases before.taken finding.document.pair p there))
taken_clear {g} (begins {s = before} document i course next due task) p there =
    ⊎_elim (taken_clear course p) (λ same. subst (IsClearAt g before) same next.ready.clear) (Contains-push_cases before.taken document.pair p there)
taken_clear {g} (checked {s = before} finding j i own course none runs task settles) p there = clear_on g before finding p (taken_clear course p there)
