-- How far a build is: its course, and what is kept of its stage.
use Rattle.std.specs.Prelude.{◌≡◌, ◌≢◌, ◌⊎◌, ◌↔◌, ℕ, List, [], ◌∷◌, map, Some, Contains, All}
use Rattle.std.specs.List.{AllPairs, slice_get}
use Rattle.bsp_records.specs.Table.{Table}
use Rattle.build_rules.specs.World.{World}
use Rattle.rpc_peer.specs.Said.{Said}
use Rattle.session_law.specs.Builds.{Shows, table_behind}
use Rattle.session_law.specs.Course.{Given, Stage, Course, Runs, pairs_in}
use Rattle.session_law.specs.History.{IsTaskOf, world_in}
use Rattle.session_law.specs.IsFramed.{IsFramed}
use Rattle.session_law.specs.Past.{notice_in}
use Rattle.session_law.specs.declared.BuildDocument.{BuildDocument}

-- ---- what was told

-- A course is so far, and the table that is kept is the one that a client has.
pub record IsOnCourse (g : Given) (s : Stage) (messages : List Said) (table : Table) : Type 0 where
  pub course : Course g s messages
  pub framed : All IsFramed messages
  pub notices : All (λ m. notice_in m ≡ m ∷ []) messages
  pub kept : (document target : List ℕ) → table document target ≡ table_behind messages g.table document target
  pub shows : All (Shows table) s.settled
  -- and of each document that isn't settled what it showed at first
  pub others : (document : BuildDocument) → Contains g.documents document → ¬ (Contains (pairs_in s.settled) document.pair)
      → table document.key.document document.key.target ≡ g.table document.key.document document.key.target

-- ---- which modules are settled

abbrev pub SameMembers : List ℕ → List ℕ → Type 0
SameMembers xs ys = (q : ℕ) → Contains xs q ↔ Contains ys q

-- the modules that a build takes, those that it took, and those that are settled
pub record Agrees (g : Given) (s : Stage) (w : World) (modules taken settled : List ℕ) : Type 0 where
  pub world_is : w ≡ world_in g.active
  pub modules_are : SameMembers (map (λ document. document.pair) g.documents) modules
  pub taken_are : SameMembers s.taken taken
  pub settled_are : SameMembers (pairs_in s.settled) settled

-- ---- the checks that started

-- what is kept of a check that started and hasn't finished: its pair, the index of the document, the number of its target
-- and its own
pub record Running : Type 0 where
  pub pair : ℕ
  pub document_index : ℕ
  pub target : ℕ
  pub number : ℕ

pub record IsRunning (g : Given) (s : Stage) (running : Running) : Type 0 where
  pub document : BuildDocument
  pub there : slice_get g.documents running.document_index ≡ Some document
  pub pair_is : document.pair ≡ running.pair
  pub runs : Runs s document running.number
  pub of_target : IsTaskOf g.active document.key.target running.target

abbrev pub pairs_running : List Running → List ℕ
pairs_running running = map (λ it. it.pair) running

-- These checks run, and these pairs' finished.
pub record AreBegun (g : Given) (s : Stage) (running : List Running) (made : List ℕ) : Type 0 where
  pub each : All (IsRunning g s) running
  pub distinct : AllPairs ◌≢◌ (pairs_running running)
  pub taken : (q : ℕ) → Contains s.taken q → Contains (pairs_in s.settled) q ⊎ Contains (pairs_running running) q
  pub begun : (q : ℕ) → Contains s.begun q → Contains made q ⊎ Contains (pairs_running running) q
  pub made_begun : All (Contains s.begun) made
  pub made_settled : All (Contains (pairs_in s.settled)) made
  pub made_distinct : AllPairs ◌≢◌ made
