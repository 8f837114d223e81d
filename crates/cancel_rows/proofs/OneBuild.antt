-- There is a build of the kind that the rows speak of: that of a target with one document, which isn't there, in a session
-- that answered no build before.
use Rattle.std.proofs.Common.{◌≡◌, ◌⊎◌, inl, inr, ◌++◌, ℕ, zero, suc, List, [], ◌∷◌, Contains, Some, None, refl, sym, subst, ◌∙◌, arith, slice_get}
use Rattle.std.specs.Prelude.{codes}
use Rattle.std.proofs.lemmas.List.Elements.{All-cons, All-nil}
use Rattle.std.proofs.lemmas.Option.{none-some, same_Some}
use Rattle.bsp_records.specs.Table.{nothing_shown}
use Rattle.rpc_peer.specs.Said.{Said}
use Rattle.rpc_peer.specs.declared.message.Id.{Id}
use Rattle.target_graph.specs.Workspace.{IsClosure, IsReached, IsWay, Space, pairs_of}
use Rattle.target_graph.specs.declared.target.Pair.{Pair}
use Rattle.target_graph.specs.declared.target.Target.{Target}
use Rattle.target_graph.specs.declared.target.TargetKind.TheVariants.{Library}
use Rattle.cancel_rows.specs.OneCheck.{HasOneOut}
use Rattle.session_law.proofs.HistoryLaws.{last_checked}
use Rattle.session_law.proofs.ListLaws.{contains_cases, contains_first, contains_none}
use Rattle.session_law.specs.Builds.{AreDocuments, IsPairOf, build_document}
use Rattle.session_law.specs.Course.{AreGiven, Course, Given, IsNext, Stage, all_start, begins, first_stage, starts, with_begun}
use Rattle.session_law.specs.History.{Due, IsTaskOf}
use Rattle.session_law.specs.Methods.{Build}
use Rattle.session_law.specs.Past.{Now}
use Rattle.session_law.specs.Requests.{Active}
use Rattle.session_law.specs.Tasks.{check_starts}
use Rattle.session_law.specs.TasksInOrder.{IsGivenBy}
use Rattle.session_law.specs.declared.BuildDocument.{BuildDocument}

-- ---- the workspace

abbrev target : Target
target = record { name = codes "A"; kind = Library; modules = codes "A.Mod" ∷ []; dependencies = []; main = None }

abbrev space : Space
space = record { root = codes "file:///w/"; targets = target ∷ [] }

no_way : (way : List ℕ) (from b : ℕ) → from ≡ 0 → IsWay space.targets from way b → b ≡ 0
no_way [] from b first same = sym same ∙ first
no_way (next ∷ way) from b first leads =
    let there = subst (λ a. slice_get space.targets a ≡ Some leads.0.target) first leads.0.there in
    absurd (contains_none next (subst (λ (t : Target). Contains t.dependencies next) (sym (same_Some target leads.0.target there)) leads.0.listed))

is_first : (n : ℕ) → Contains (0 ∷ []) n → n ≡ 0
is_first n there = by (contains_cases 0 [] n there)
  where
    by : (0 ≡ n) ⊎ Contains [] n → n ≡ 0
    by (inl same) = sym same
    by (inr none) = absurd (contains_none n none)

reaches_first : (b : ℕ) → IsReached space.targets (0 ∷ []) b → b ≡ 0
reaches_first b reached = no_way reached.leads.way reached.from b (is_first reached.from reached.asked_for) reached.leads.is_way

closed : IsClosure space.targets (0 ∷ []) (0 ∷ [])
closed = record {
  ordered = λ i j d h k. absurd (omega (arith, h, k));
  reached =
      All-cons (IsReached space.targets (0 ∷ [])) 0 []
      (record { from = 0; asked_for = contains_first 0 []; leads = record { way = []; is_way = refl } }) (All-nil (IsReached space.targets (0 ∷ [])));
  whole = λ b reached. subst (λ n. Contains (0 ∷ []) n) (sym (reaches_first b reached)) (contains_first 0 []);
}

-- ---- the build

module _ (id : Id) (number : ℕ) where
  abbrev build : Build
  build = record { space = space; asked = 0 ∷ []; origin = None }

  abbrev active : Active
  active = record { id = id; number = number; build = build; entries = [] }

  abbrev document : BuildDocument
  document = build_document space 0

  abbrev pub given : Given
  given = record { active = active; documents = document ∷ []; closure = 0 ∷ []; earlier = []; table = nothing_shown }

  one_pair : (pair other : Pair) (q : ℕ) → slice_get (pair ∷ []) q ≡ Some other → q ≡ 0
  one_pair pair other zero there = refl
  one_pair pair other (suc q) there = absurd (none-some other there)

  are_documents : AreDocuments build (document ∷ [])
  unfolding pairs_of
  are_documents = record {
    closure = 0 ∷ [];
    closed = closed;
    pairs = 0 ∷ [];
    ordered = λ i j d h k. absurd (omega (arith, h, k));
    each =
        All-cons (IsPairOf space.targets (0 ∷ [])) 0 []
        (record { pair = record { target = 0; path = codes "A.Mod" }; there = refl; among = contains_first 0 [] }) (All-nil (IsPairOf space.targets (0 ∷ [])));
    whole = λ q of. subst (λ n. Contains (0 ∷ []) n) (sym (one_pair (record { target = 0; path = codes "A.Mod" }) of.pair q of.there)) (contains_first 0 []);
    are = refl;
  }

  -- The course goes by this.
  pub are_given : AreGiven given
  are_given = record { documents = are_documents; closed = closed }

  -- So it is of a build that has just been handed its documents, where none was answered before.
  pub given_by : (now : Now) → now.builds ≡ [] → now.table_at_hand ≡ nothing_shown → IsGivenBy active now given
  given_by now none nothing = record { are = are_given; active_is = refl; earlier_is = sym none; table_is = sym nothing }

  -- ---- its course

  task : IsTaskOf active document.key.target 1
  unfolding pairs_of
  task = record { closure = 0 ∷ []; closed = closed; before = 0; target = 0; there = refl; number_is = refl; id_is = refl }

  next : IsNext given first_stage document
  next = record {
    ready = record {
      there = contains_first document [];
      is_new = contains_none 0;
      clear = λ q imports. let absent = imports.has.parsed.is in absurd (cc);
    };
    least = λ other ready. omega arith;
  }

  due : Due [] active document
  due last was same = contains_none last (last_checked was).0

  abbrev stage : Stage
  stage = with_begun first_stage document

  abbrev pub told : List Said
  told = all_start given ++ check_starts number 1 1 document.key.document ∷ []

  course : Course given stage told
  course = begins document 1 starts next due task

  -- It told that it and its target start, and then its check.
  pub has_one_out : HasOneOut given told
  has_one_out = record { target = 0; closure_is = refl; stage = stage; course = course; pair = 0; begun_is = refl; unsettled = contains_none 0 }
