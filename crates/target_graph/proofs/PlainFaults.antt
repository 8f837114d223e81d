-- What a refusal names is plain.
use Rattle.std.proofs.Common.{◌≡◌, ℕ, Bool, true, false, cond, ltb, List, [], ◌∷◌, ◌++◌, length, get_or, codes, Some, None, Err, All, refl, sym, subst, ap, ◌∙◌, arith}
use Rattle.std.proofs.lemmas.List.{get_or-map}
use Rattle.std.proofs.lemmas.List.Elements.{All-nil, All-head, All-tail, All-map, All-append}
use Rattle.std.proofs.lemmas.Option.{none-some, same_Some, slice_get_within, get_or_from_slice_get}
use Rattle.ob_text.specs.declared.held.Held.{Held}
use Rattle.target_graph.specs.declared.entry.Entry.{Entry}
use Rattle.target_graph.specs.declared.fault.FaultKind.{FaultKind}
use Rattle.target_graph.specs.declared.fault.FaultKind.TheVariants as kinds
use Rattle.target_graph.specs.declared.fault.WorkspaceRefusal.{WorkspaceRefusal}
use Rattle.target_graph.specs.declared.fault.WorkspaceRefusal.TheVariants as refusals
use Rattle.target_graph.specs.declared.target.Pair.{Pair}
use Rattle.target_graph.specs.declared.target.Target.{Target}
use Rattle.target_graph.specs.Faults.{file_entries, names_of, dependencies_of, modules_of, file_targets, too_many, rank, Passed, HasFault, IsFirstCycle, IsFirstStemTwice, Looks}
use Rattle.target_graph.specs.Listing.{Refuses}
use Rattle.target_graph.specs.Names.{is_name, stem, IsPlainName}
use Rattle.target_graph.specs.Workspace.{pairs_of, stem_at, AreValid}
use Rattle.target_graph.proofs.PairLaws.{pairs_valid}
use Rattle.target_graph.proofs.PlainLaws.{plain_bytes, plain_name, plain_stem}
use Rattle.target_graph.proofs.Refusals.{refused}
use Rattle.target_graph.proofs.Sound.{IsRight, held_right, valid_of, parts_of_all}

plain_empty : (name : List ℕ) → name ≡ [] → IsPlainName name
plain_empty name e = subst IsPlainName (sym e) (plain_bytes 255 [] refl (omega arith))

-- what there are too many of
plain_many : (entries : List Entry) (name : List ℕ) → too_many entries ≡ Some name → IsPlainName name
plain_many entries name e = go (ltb 256 (length entries)) (ltb 1024 (length (modules_of entries))) (ltb 1024 (length (dependencies_of entries))) e
  where
    go : (a b c : Bool) → cond a (Some (codes "targets")) (cond b (Some (codes "modules")) (cond c (Some (codes "dependencies")) None)) ≡ Some name → IsPlainName name
    go true b c h = subst IsPlainName (same_Some (codes "targets") name h) (plain_bytes 255 (codes "targets") refl (omega arith))
    go false true c h = subst IsPlainName (same_Some (codes "modules") name h) (plain_bytes 255 (codes "modules") refl (omega arith))
    go false false true h = subst IsPlainName (same_Some (codes "dependencies") name h) (plain_bytes 255 (codes "dependencies") refl (omega arith))
    go false false false h = absurd (none-some name h)

-- a text among names
plain_among : (names before : List (List ℕ)) (name : List ℕ) (after : List (List ℕ)) → All (λ text. is_name text ≡ true) names → names ≡ before ++ name ∷ after → IsPlainName name
plain_among names before name after right whole =
    let P : List ℕ → Type 0 = λ text. is_name text ≡ true in
    let rest = parts_of_all P before (name ∷ after) (subst (All P) whole right) in
    plain_name name (All-head P name after rest.1)

names_right : (entries : List Entry) → All IsRight entries → All (λ text. is_name text ≡ true) (names_of entries)
names_right entries right = All-map (λ text. is_name text ≡ true) (λ (entry : Entry). entry.name) entries (λ k d h. (right k d h).0)

dependencies_right : (entries : List Entry) → All IsRight entries → All (λ text. is_name text ≡ true) (dependencies_of entries)
dependencies_right [] right = All-nil (λ text. is_name text ≡ true)
dependencies_right (entry ∷ entries) right =
    All-append (λ text. is_name text ≡ true) entry.dependencies (dependencies_of entries) (All-head IsRight entry entries right).2
    (dependencies_right entries (All-tail IsRight entry entries right))

-- the name of a target
plain_target : (targets : List Target) (name : List ℕ) → AreValid targets → IsFirstCycle targets name → IsPlainName name
plain_target targets name valid f =
    let h = slice_get_within targets f.index f.target f.there in
    let v = valid f.index f.target h in
    let e : get_or targets f.index f.target ≡ f.target = get_or_from_slice_get targets f.index f.target f.target f.there in
    plain_name name (subst (λ (text : List ℕ). is_name text ≡ true) (ap (λ (t : Target). t.name) e ∙ f.named) v.0)

-- the stem of a pair
plain_pair : (targets : List Target) (name : List ℕ) → AreValid targets → IsFirstStemTwice targets name → IsPlainName name
plain_pair targets name valid f =
    let pairs = pairs_of targets in
    let s = f.repeats.sees in
    let h = slice_get_within pairs f.pair s.pair s.there in
    let e : get_or pairs f.pair s.pair ≡ s.pair = get_or_from_slice_get pairs f.pair s.pair s.pair s.there in
    let there : stem_at targets f.pair ≡ stem (get_or pairs f.pair s.pair).path = get_or-map (λ (pair : Pair). stem pair.path) pairs f.pair s.pair [] h in
    subst IsPlainName (sym there ∙ f.named) (plain_stem (get_or pairs f.pair s.pair).path (pairs_valid targets valid f.pair s.pair h))

-- what a fault is about, but for a field, whose index may be any
plain_fault : (held : Held) (kind : FaultKind) → ¬ (rank kind ≡ 2) → Passed held (rank kind) → (name : List ℕ) → HasFault held kind name → IsPlainName name
plain_fault held kinds.NoFile other passed name f = plain_empty name f.1
plain_fault held kinds.BadJson other passed name f = plain_empty name f.1
plain_fault held kinds.BadField other passed name f = absurd (other refl)
plain_fault held kinds.TooMany other passed name f = plain_many (file_entries held) name f
plain_fault held kinds.NameTwice other passed name f =
    plain_among (names_of (file_entries held)) f.before name f.after (names_right (file_entries held) (held_right held (λ k n h. passed k n (omega arith)))) f.whole
plain_fault held kinds.UnknownDependency other passed name f =
    plain_among (dependencies_of (file_entries held)) f.before name f.after (dependencies_right (file_entries held) (held_right held (λ k n h. passed k n (omega arith)))) f.whole
plain_fault held kinds.DependencyCycle other passed name f =
    plain_target (file_targets held) name (valid_of (names_of (file_entries held)) (file_entries held) (held_right held (λ k n h. passed k n (omega arith)))) f
plain_fault held kinds.StemTwice other passed name f =
    plain_pair (file_targets held) name (valid_of (names_of (file_entries held)) (file_entries held) (held_right held (λ k n h. passed k n (omega arith)))) f

-- a step that found a fault refuses the file
pub refuses : {T : Type 0} (held : Held) (kind : FaultKind) → ¬ (rank kind ≡ 2) → (r : WorkspaceRefusal) (IsBad : List ℕ → Type 0) (IsGood : T → Type 0) → Passed held (rank kind)
    → ((name : List ℕ) → IsBad name → HasFault held kind name) → Looks (Err r) kind IsBad IsGood → Refuses held r
refuses held kind other (refusals.Fault fault) IsBad IsGood before is h =
    (refused held kind (refusals.Fault fault) IsBad IsGood before is h, plain_fault held kind other before fault.name (is fault.name h.1))
refuses held kind other refusals.NoMemory IsBad IsGood before is h = (tt, tt)

-- the same of a field, of whose path more is known
pub refuses_field : {T : Type 0} (held : Held) (r : WorkspaceRefusal) (IsBad : List ℕ → Type 0) (IsGood : T → Type 0) → Passed held 2
    → ((name : List ℕ) → IsBad name → HasFault held kinds.BadField name × IsPlainName name) → Looks (Err r) kinds.BadField IsBad IsGood → Refuses held r
refuses_field held (refusals.Fault fault) IsBad IsGood before is h =
    (refused held kinds.BadField (refusals.Fault fault) IsBad IsGood before (λ name bad. (is name bad).0) h, (is fault.name h.1).1)
refuses_field held refusals.NoMemory IsBad IsGood before is h = (tt, tt)
