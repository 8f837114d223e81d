-- What a client shows is cleared at one key after another.
use Rattle.std.proofs.Common.{◌≡◌, ◌≢◌, ◌++◌, ◌<◌, ℕ, suc, List, [], ◌∷◌, length, map, take, get_or, filter, Bool, false, refl, ap, sym, ◌∙◌, subst, append-nil, append_assoc, arith}
use Rattle.std.specs.Prelude.{None, if◌then◌else◌}
use Rattle.std.specs.List.{All, AllPairs}
use Rattle.std.proofs.lemmas.List.{get_or-take, get_or_default, length-take-le}
use Rattle.std.proofs.lemmas.List.Elements.{All-append, All-cons, All-head, All-map, All-nil, All-tail}
use Rattle.std.proofs.lemmas.List.Kept.{AllPairs-cons, AllPairs-filter}
use Rattle.std.proofs.lemmas.List.Sums.{fold-append}
use Rattle.bsp_records.specs.Table.{Table, table_with}
use Rattle.bsp_records.specs.declared.diagnostics.DiagnosticRecord.{DiagnosticRecord}
use Rattle.bsp_records.specs.declared.publishing.PublishDiagnosticsParams.{PublishDiagnosticsParams}
use Rattle.reload_messages.specs.Cleared.{HasCleared, HasClearedOne}
use Rattle.rpc_peer.specs.Said.{Said}
use Rattle.build_messages.proofs.Publications.{all_shown, apart_at, table_same}
use Rattle.session_law.specs.Builds.{publication_said, shown_by, table_behind}
use Rattle.session_law.specs.IsFramed.{IsFramed}
use Rattle.session_law.specs.Reloading.{clears, clears_shown, key_of}
use Rattle.target_graph.specs.Address.{document_address}
use Rattle.target_graph.specs.Workspace.{Space, id_of}
use Rattle.target_graph.specs.declared.target.Pair.{Pair}
use Rattle.task_stream.specs.Pieces.{pieces}
use Rattle.task_stream.specs.Showing.{is_at}
use Rattle.task_stream.specs.declared.shown.TableKey.{TableKey}

-- ---- one key

full : {A : Type 0} (x : A) (xs : List A) → x ∷ xs ≢ []
full {A} x xs same = subst IsFull same tt
  where
    IsFull : List A → Type 0
    IsFull [] = ⊥
    IsFull (y ∷ ys) = Unit {0}

pub one_cleared : (old new : Table) (key : TableKey) (ps : List PublishDiagnosticsParams) (before after : List Said)
    → (old key.document key.target ≡ [] → ps ≡ []) → (old key.document key.target ≢ [] → ps ≡ pieces key None [])
    → ((document target : List ℕ) → table_with ps old document target ≡ (if is_at key document target then [] else old document target))
    → ((document target : List ℕ) → new document target ≡ (if is_at key document target then [] else old document target))
    → after ≡ before ++ map publication_said ps → All IsFramed (map publication_said ps) → HasClearedOne old new key before after
one_cleared old new key ps before after same other client table behind framed =
    let own_is = own (old key.document key.target) refl in
    record {
      behind = behind ∙ ap (λ ms. before ++ ms) own_is;
      framed = subst (All IsFramed) own_is framed;
      kept = λ document target.
          table document target ∙ (sym (client document target)
          ∙ (ap (λ (t : Table). t document target) (sym (all_shown ps old)) ∙ ap (λ ms. table_behind ms old document target) own_is));
      elsewhere = λ document target apart. table document target ∙ ap (λ b. if b then [] else old document target) apart;
    }
  where
    own : (list : List DiagnosticRecord) → old key.document key.target ≡ list → map publication_said ps ≡ clears_shown key list
    own [] is = ap (map publication_said) (same is)
    own (one ∷ others) is = ap (map publication_said) (other (λ none. full one others (sym is ∙ none)))

-- ---- key after key

-- what is shown at another key stays
abbrev IsApart : List ℕ → List ℕ → TableKey → Type 0
IsApart document target key = is_at key document target ≡ false

-- so far these keys are cleared
pub record AreCleared (old new : Table) (keys : List TableKey) (before after : List Said) : Type 0 where
  pub cleared : HasCleared old new keys before after
  pub elsewhere : (document target : List ℕ) → All (IsApart document target) keys → new document target ≡ old document target

pub none_cleared : (table : Table) (before : List Said) → AreCleared table table [] before before
none_cleared table before = record {
  cleared = record { behind = sym (append-nil before); framed = All-nil IsFramed; kept = λ document target. refl };
  elsewhere = λ document target apart. refl;
}

clears_push : (table : Table) (keys : List TableKey) (key : TableKey) → clears table (keys ++ key ∷ []) ≡ clears table keys ++ clears_shown key (table key.document key.target)
clears_push table [] key = append-nil (clears_shown key (table key.document key.target))
clears_push table (first ∷ keys) key =
    ap (λ ms. clears_shown first (table first.document first.target) ++ ms) (clears_push table keys key)
    ∙ sym (append_assoc (clears_shown first (table first.document first.target)) (clears table keys) (clears_shown key (table key.document key.target)))

pub one_more : (old mid new : Table) (keys : List TableKey) (key : TableKey) (before middle after : List Said) → All (IsApart key.document key.target) keys
    → AreCleared old mid keys before middle → HasClearedOne mid new key middle after → AreCleared old new (keys ++ key ∷ []) before after
one_more old mid new keys key before middle after apart are one =
    let still : mid key.document key.target ≡ old key.document key.target = are.elsewhere key.document key.target apart in
    let own = clears_shown key (old key.document key.target) in
    let pushed = clears_push old keys key in
    record {
      cleared = record {
        behind =
            one.behind ∙ (ap (λ list. middle ++ clears_shown key list) still
            ∙ (ap (λ ms. ms ++ own) are.cleared.behind ∙ (append_assoc before (clears old keys) own ∙ ap (λ ms. before ++ ms) (sym pushed))));
        framed =
            subst (All IsFramed) (sym pushed)
            (All-append IsFramed (clears old keys) own are.cleared.framed (subst (λ list. All IsFramed (clears_shown key list)) still one.framed));
        kept = λ document target.
            one.kept document target
            ∙ (ap (λ list. table_behind (clears_shown key list) mid document target) still
            ∙ (table_same own mid (table_behind (clears old keys) old) are.cleared.kept document target
            ∙ ap (λ (t : Table). t document target) (sym (ap (λ ms. table_behind ms old) pushed ∙ fold-append (λ shows m. shown_by m shows) old (clears old keys) own))));
      };
      elsewhere = λ document target all.
          one.elsewhere document target (last document target keys all) ∙ are.elsewhere document target (front document target keys all);
    }
  where
    front : (document target : List ℕ) (ks : List TableKey) → All (IsApart document target) (ks ++ key ∷ []) → All (IsApart document target) ks
    front document target [] all = All-nil (IsApart document target)
    front document target (k ∷ ks) all =
        All-cons (IsApart document target) k ks (All-head (IsApart document target) k (ks ++ key ∷ []) all) (front document target ks (All-tail (IsApart document target) k (ks ++ key ∷ []) all))

    last : (document target : List ℕ) (ks : List TableKey) → All (IsApart document target) (ks ++ key ∷ []) → IsApart document target key
    last document target [] all = All-head (IsApart document target) key [] all
    last document target (k ∷ ks) all = last document target ks (All-tail (IsApart document target) k (ks ++ key ∷ []) all)

-- a key is apart from each before it
pub keys_before : (keys : List TableKey) (i : ℕ) (key : TableKey) → i < length keys → key ≡ get_or keys i key → AllPairs ◌≢◌ keys → All (IsApart key.document key.target) (take i keys)
keys_before keys i key h e distinct k d k_in =
    let front : length (take i keys) ≡ i = length-take-le i keys (omega arith) in
    let below : k < i = omega (arith, front) in
    let is : get_or (take i keys) k d ≡ get_or keys k key = get_or-take i keys k d below ∙ get_or_default keys k d key (omega arith) in
    apart_at (get_or (take i keys) k d) key (λ same. distinct k i key below h (sym is ∙ (same ∙ e)))

-- ---- the keys of pairs

-- two pairs are apart in the client's table
abbrev pub IsOther : Space → Pair → Pair → Type 0
IsOther space p q = document_address space.root p.path ≡ document_address space.root q.path → id_of space p.target ≢ id_of space q.target

pub keys_differ : (space : Space) (pairs : List Pair) → AllPairs (IsOther space) pairs → AllPairs ◌≢◌ (map (key_of space) pairs)
keys_differ space [] apart = λ i j d h k. absurd (omega arith)
keys_differ space (pair ∷ pairs) apart =
    AllPairs-cons ◌≢◌ (key_of space pair) (map (key_of space) pairs)
    (All-map (λ key. key_of space pair ≢ key) (key_of space) pairs
    (λ k d h. (λ same. apart 0 (suc k) d (omega arith) (omega arith) (ap (λ (key : TableKey). key.document) same) (ap (λ (key : TableKey). key.target) same))))
    (keys_differ space pairs (λ i j d h k. apart (suc i) (suc j) d (omega arith) (omega arith)))

pub some_differ : (space : Space) (test : Pair → Bool) (pairs : List Pair) → AllPairs (IsOther space) pairs → AllPairs ◌≢◌ (map (key_of space) (filter test pairs))
some_differ space test pairs apart = keys_differ space (filter test pairs) (AllPairs-filter (IsOther space) test pairs apart)
