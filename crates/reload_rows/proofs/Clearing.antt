-- What a reload tells shows nothing that wasn't shown, and what it drops shows nothing behind it.
use Rattle.std.proofs.Common.{◌≡◌, ◌⊎◌, inl, inr, ◌++◌, ◌&&◌, ◌==◌, ℕ, List, [], ◌∷◌, Bool, true, false, All, Contains, refl, sym, ap, subst, ◌∙◌}
use Rattle.std.specs.Prelude.{if◌then◌else◌, Some}
use Rattle.std.specs.Cmp.Lexicographic.{pointwise}
use Rattle.std.proofs.lemmas.List.Elements.{All-append, All-cons, All-head, All-nil, All-tail}
use Rattle.std.proofs.lemmas.List.Sums.{fold-append}
use Rattle.std.proofs.lemmas.Slice.Eq.{bytes_eq-Decides}
use Rattle.bsp_records.specs.Table.{Table}
use Rattle.bsp_records.specs.declared.diagnostics.DiagnosticRecord.{DiagnosticRecord}
use Rattle.ob_text.specs.declared.held.Held.{Held}
use Rattle.reload_rows.proofs.Pairs.{stays_or_goes}
use Rattle.reload_rows.specs.OneDropped.{empty_list}
use Rattle.reload_rows.specs.Own.{HasKey, IsShown, ShowsOwn}
use Rattle.reload_rules.specs.declared.change.ChangedTarget.{ChangedTarget}
use Rattle.rpc_peer.specs.Said.{Said}
use Rattle.session_law.proofs.ListLaws.{contains_cases, contains_none}
use Rattle.session_law.proofs.PublishedLaws.{IsOther, other_shows}
use Rattle.session_law.specs.Builds.{shown_by, table_behind}
use Rattle.session_law.specs.Reloading.{Reloads, changes_said, clears, clears_shown, keys_dropped, space_in, tells_changes}
use Rattle.target_graph.specs.Workspace.{Space}
use Rattle.task_stream.specs.declared.shown.TableKey.{TableKey}

-- nothing is shown at the key
abbrev pub IsBlank : Table → TableKey → Type 0
IsBlank table key = table key.document key.target ≡ []

-- two tables show the same at the key
abbrev pub IsSame : Table → Table → TableKey → Type 0
IsSame a b key = a key.document key.target ≡ b key.document key.target

-- at each key the message leaves nothing, or what was shown
abbrev pub LeavesOrClears : Said → Type 0
LeavesOrClears m = (table : Table) (key : TableKey) → IsBlank (shown_by m table) key ⊎ IsSame (shown_by m table) table key

-- ---- one empty list

abbrev is_at : TableKey → TableKey → Bool
is_at key other = pointwise ◌==◌ key.document other.document && pointwise ◌==◌ key.target other.target

at_itself : (key : TableKey) → is_at key key ≡ true
at_itself key =
    ap (λ b. b && pointwise ◌==◌ key.target key.target) ((bytes_eq-Decides key.document key.document).1 refl) ∙ (bytes_eq-Decides key.target key.target).1 refl

cleared_shows : (key other : TableKey) (table : Table)
    → shown_by (empty_list key) table other.document other.target ≡ (if is_at key other then [] else table other.document other.target)
cleared_shows key other table = refl

pub cleared_itself : (key : TableKey) (table : Table) → IsBlank (shown_by (empty_list key) table) key
cleared_itself key table = cleared_shows key key table ∙ ap (λ b. if b then [] else table key.document key.target) (at_itself key)

pub cleared_leaves : (key : TableKey) → LeavesOrClears (empty_list key)
cleared_leaves key table other = by (is_at key other) refl
  where
    by : (b : Bool) → is_at key other ≡ b → IsBlank (shown_by (empty_list key) table) other ⊎ IsSame (shown_by (empty_list key) table) table other
    by true is = inl (cleared_shows key other table ∙ ap (λ b. if b then [] else table other.document other.target) is)
    by false is = inr (cleared_shows key other table ∙ ap (λ b. if b then [] else table other.document other.target) is)

-- ---- all that a reload tells

pub other_leaves : (m : Said) → IsOther m → LeavesOrClears m
other_leaves m other table key = inr (ap (λ (t : Table). t key.document key.target) (other_shows m table other))

shown_leaves : (key : TableKey) (list : List DiagnosticRecord) → All LeavesOrClears (clears_shown key list)
shown_leaves key [] = All-nil LeavesOrClears
shown_leaves key (one ∷ others) = All-cons LeavesOrClears (empty_list key) [] (cleared_leaves key) (All-nil LeavesOrClears)

clears_leave : (table : Table) (keys : List TableKey) → All LeavesOrClears (clears table keys)
clears_leave table [] = All-nil LeavesOrClears
clears_leave table (key ∷ keys) =
    All-append LeavesOrClears (clears_shown key (table key.document key.target)) (clears table keys)
    (shown_leaves key (table key.document key.target)) (clears_leave table keys)

pub changes_other : (root : List ℕ) (changes : List ChangedTarget) → IsOther (changes_said root changes)
unfolding changes_said
changes_other root changes = refl

changes_leave : (root : List ℕ) (changes : List ChangedTarget) → All LeavesOrClears (tells_changes root changes)
changes_leave root [] = All-nil LeavesOrClears
changes_leave root (change ∷ changes) =
    All-cons LeavesOrClears (changes_said root (change ∷ changes)) []
    (other_leaves (changes_said root (change ∷ changes)) (changes_other root (change ∷ changes))) (All-nil LeavesOrClears)

pub reload_leaves : {space : Space} {file : Held} {table : Table} {messages : List Said} → Reloads space file table messages → All LeavesOrClears messages
reload_leaves {space} {file} {table} {messages} reloads =
    subst (All LeavesOrClears) (sym reloads.are)
    (All-append LeavesOrClears (clears table (keys_dropped space file)) (tells_changes space.root reloads.changes)
    (clears_leave table (keys_dropped space file)) (changes_leave space.root reloads.changes))

-- ---- what is shown behind such messages

pub still_blank : (m : Said) (table : Table) (key : TableKey) → LeavesOrClears m → IsBlank table key → IsBlank (shown_by m table) key
still_blank m table key leaves blank = by (leaves table key)
  where
    by : IsBlank (shown_by m table) key ⊎ IsSame (shown_by m table) table key → IsBlank (shown_by m table) key
    by (inl now) = now
    by (inr same) = same ∙ blank

pub all_blank : (messages : List Said) (table : Table) (key : TableKey) → All LeavesOrClears messages → IsBlank table key → IsBlank (table_behind messages table) key
all_blank [] table key all blank = blank
all_blank (m ∷ messages) table key all blank =
    all_blank messages (shown_by m table) key (All-tail LeavesOrClears m messages all)
    (still_blank m table key (All-head LeavesOrClears m messages all) blank)

-- what is shown was shown before
pub was_shown : (m : Said) (table : Table) (key : TableKey) → LeavesOrClears m → IsShown (shown_by m table) key → IsShown table key
was_shown m table key leaves shown blank = shown (still_blank m table key leaves blank)

pub all_shown : (messages : List Said) (table : Table) (key : TableKey) → All LeavesOrClears messages → IsShown (table_behind messages table) key → IsShown table key
all_shown messages table key all shown blank = shown (all_blank messages table key all blank)

-- ---- what is dropped shows nothing

behind_both : (first second : List Said) (table : Table) → table_behind (first ++ second) table ≡ table_behind second (table_behind first table)
behind_both first second table = fold-append (λ shows m. shown_by m shows) table first second

shown_blank : (key : TableKey) (list : List DiagnosticRecord) (table : Table) → (list ≡ [] → IsBlank table key) → IsBlank (table_behind (clears_shown key list) table) key
shown_blank key [] table blank = blank refl
shown_blank key (one ∷ others) table blank = cleared_itself key table

keys_blank : (hand : Table) (keys : List TableKey) (key : TableKey) → Contains keys key → (table : Table) → (IsBlank hand key → IsBlank table key)
    → IsBlank (table_behind (clears hand keys) table) key
keys_blank hand [] key there table blank = absurd (contains_none key there)
keys_blank hand (first ∷ keys) key there table blank = by (contains_cases first keys key there) (λ later. keys_blank hand keys key later)
  where
    own : List Said
    own = clears_shown first (hand first.document first.target)

    by : (first ≡ key) ⊎ Contains keys key
        → (Contains keys key → (t : Table) → (IsBlank hand key → IsBlank t key) → IsBlank (table_behind (clears hand keys) t) key)
        → IsBlank (table_behind (clears hand (first ∷ keys)) table) key
    by (inl same) rest = ap (λ (t : Table). t key.document key.target) (behind_both own (clears hand keys) table)
        ∙ all_blank (clears hand keys) (table_behind own table) key (clears_leave hand keys)
        (subst (λ k. IsBlank (table_behind own table) k) same
        (shown_blank first (hand first.document first.target) table (subst (λ k. IsBlank hand k → IsBlank table k) (sym same) blank)))
    by (inr later) rest = ap (λ (t : Table). t key.document key.target) (behind_both own (clears hand keys) table)
        ∙ rest later (table_behind own table)
        (λ none. all_blank own table key (shown_leaves first (hand first.document first.target)) (blank none))

pub dropped_blank : {space : Space} {file : Held} {hand : Table} {messages : List Said} → Reloads space file hand messages → (key : TableKey) → Contains (keys_dropped space file) key
    → IsBlank (table_behind messages hand) key
dropped_blank {space} {file} {hand} {messages} reloads key there =
    let first : List Said = clears hand (keys_dropped space file) in
    let second : List Said = tells_changes space.root reloads.changes in
    ap (λ ms. table_behind ms hand key.document key.target) reloads.are
    ∙ (ap (λ (t : Table). t key.document key.target) (behind_both first second hand)
    ∙ all_blank second (table_behind first hand) key (changes_leave space.root reloads.changes)
    (keys_blank hand (keys_dropped space file) key there hand (λ none. none)))

-- ---- so the new workspace shows its own

pub reload_own : {space : Space} {file : Held} {hand : Table} {messages : List Said} → Reloads space file hand messages → ShowsOwn (Some space) hand
    → ShowsOwn (Some (space_in space.root file)) (table_behind messages hand)
reload_own {space} {file} {hand} {messages} reloads own key shown =
    by (stays_or_goes space file key (own key (all_shown messages hand key (reload_leaves reloads) shown)))
  where
    by : HasKey (space_in space.root file) key ⊎ Contains (keys_dropped space file) key → HasKey (space_in space.root file) key
    by (inl has) = has
    by (inr gone) = absurd (shown (dropped_blank reloads key gone))
