-- The pairs of a workspace stand at distinct addresses, since no two that a target sees have one stem.
use Rattle.std.proofs.Common.{◌≡◌, ◌≢◌, ◌++◌, ℕ, ◌<◌, List, [], length, get_or, map, ap, sym, subst, ◌∙◌, refl, arith}
use Rattle.std.specs.Prelude.{codes}
use Rattle.std.specs.List.{AllPairs}
use Rattle.std.proofs.lemmas.List.{append_cancel_left, get_or_default, get_or-map, length-map}
use Rattle.std.proofs.lemmas.Option.{slice_get_read}
use Rattle.target_graph.specs.declared.target.Pair.{Pair}
use Rattle.target_graph.specs.declared.target.Target.{Target}
use Rattle.target_graph.specs.Address.{document_address, target_address}
use Rattle.target_graph.specs.Names.{stem}
use Rattle.target_graph.specs.Faults.{IsRepeat}
use Rattle.target_graph.specs.Workspace.{Space, id_of, name_at, pairs_of, Sees}
use Rattle.target_graph.proofs.PairLaws.{pairs_within}
use Rattle.target_graph.proofs.SeenStems.{same_index}

-- a target sees its own pairs
sees_own : (targets : List Target) (i : ℕ) (pair : Pair) (t : ℕ) → i < length (pairs_of targets) → pair ≡ get_or (pairs_of targets) i pair → t ≡ pair.target → Sees targets t i
sees_own targets i pair t h e own = record {
  pair = pair;
  there = slice_get_read (pairs_of targets) (length (pairs_of targets)) i pair refl h e;
  leads = record { way = []; is_way = own };
}

pairs_distinct : (targets : List Target) → ((t q : ℕ) → ¬ (IsRepeat targets t q)) → AllPairs ◌≢◌ (pairs_of targets)
pairs_distinct targets once i j d h k same =
    let pairs : List Pair = pairs_of targets in
    let i_in : i < length pairs = omega arith in
    let p : Pair = get_or pairs i d in
    let q : Pair = get_or pairs j d in
    once p.target j
    (record {
      earlier = i;
      before = h;
      sees_earlier = sees_own targets i p p.target i_in (get_or_default pairs i d p i_in) refl;
      sees = sees_own targets j q p.target k (get_or_default pairs j d q k) (ap (λ (x : Pair). x.target) same);
      same = get_or-map (λ (x : Pair). stem x.path) pairs i d [] i_in ∙ (ap (λ (x : Pair). stem x.path) same ∙ sym (get_or-map (λ (x : Pair). stem x.path) pairs j d [] k));
    })

-- ---- two pairs at one address are one

same_name : (root a b : List ℕ) → target_address root a ≡ target_address root b → a ≡ b
unfolding target_address
same_name root a b same = append_cancel_left (root ++ codes "?id=") a b same

parts_same : (p q : Pair) → p.target ≡ q.target → p.path ≡ q.path → p ≡ q
parts_same p q target path = rw (target, path) refl

abbrev pub AreApart : Space → Pair → Pair → Type 0
AreApart space p q = document_address space.root p.path ≡ document_address space.root q.path → id_of space p.target ≢ id_of space q.target

same_pair : (space : Space) → AllPairs ◌≢◌ (map (λ (t : Target). t.name) space.targets) → (p q : Pair) → p.target < length space.targets → q.target < length space.targets
    → document_address space.root p.path ≡ document_address space.root q.path → id_of space p.target ≡ id_of space q.target → p ≡ q
same_pair space names p q h k documents ids =
    let size : length (map (λ (t : Target). t.name) space.targets) ≡ length space.targets = length-map space.targets (λ (t : Target). t.name) in
    let path : p.path ≡ q.path = append_cancel_left space.root p.path q.path documents in
    let name : name_at space.targets p.target ≡ name_at space.targets q.target = same_name space.root (name_at space.targets p.target) (name_at space.targets q.target) ids in
    parts_same p q (same_index (map (λ (t : Target). t.name) space.targets) p.target q.target names (subst (λ n. p.target < n) (sym size) h) (subst (λ n. q.target < n) (sym size) k) name) path

pub pairs_apart : (space : Space) → AllPairs ◌≢◌ (map (λ (t : Target). t.name) space.targets) → ((t q : ℕ) → ¬ (IsRepeat space.targets t q))
    → AllPairs (AreApart space) (pairs_of space.targets)
pairs_apart space names once i j d h k documents ids =
    pairs_distinct space.targets once i j d h k
    (same_pair space names (get_or (pairs_of space.targets) i d) (get_or (pairs_of space.targets) j d)
    (pairs_within space.targets i d (omega arith)) (pairs_within space.targets j d k) documents ids)
