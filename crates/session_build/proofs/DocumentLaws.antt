-- The documents of a build are those of its workspace, and one key stands for one pair.
use Rattle.std.proofs.Common.{◌≡◌, ◌⊎◌, inl, inr, ◌<◌, ◌≤◌, ◌∷◌, ℕ, List, [], length, get_or, map, All, Contains, Some, ap, sym, subst, ◌∙◌, arith}
use Rattle.std.specs.List.{AllPairs, slice_get}
use Rattle.std.proofs.lemmas.Bool.{cases_lt}
use Rattle.std.proofs.lemmas.List.{append_cancel_left, get_or-map}
use Rattle.std.proofs.lemmas.List.Elements.{All-contains}
use Rattle.std.proofs.lemmas.Option.{get_or_from_slice_get, slice_get_within}
use Rattle.build_checks.specs.Looked.{IsKeyIn}
use Rattle.build_messages.proofs.DocumentLaws.{key_at, key_here, keys_apart, path_here}
use Rattle.build_rules.specs.World.{World}
use Rattle.check_cache.specs.Pairs.{key_of}
use Rattle.check_cache.specs.declared.pair.PairKey.{PairKey}
use Rattle.session_build.specs.Remembering.{HasDocument, table_key}
use Rattle.session_law.proofs.ListLaws.{contains_first, contains_later, contains_map_back}
use Rattle.session_law.specs.Builds.{AreDocuments, IsPairOf, build_document}
use Rattle.session_law.specs.Methods.{Build}
use Rattle.session_law.specs.declared.BuildDocument.{BuildDocument}
use Rattle.target_graph.specs.Address.{document_address}
use Rattle.target_graph.specs.Names.{stem}
use Rattle.target_graph.specs.Workspace.{Space, pairs_of, path_at, stem_at}
use Rattle.target_graph.specs.declared.target.Pair.{Pair}
use Rattle.target_graph.specs.declared.target.Target.{Target}
use Rattle.target_graph.proofs.Distinct.{AreApart}
use Rattle.task_stream.specs.declared.shown.TableKey.{TableKey}

-- the key of a pair is that of its document
pub table_key_here : (space : Space) (p : ℕ) (pair : Pair) → slice_get (pairs_of space.targets) p ≡ Some pair → key_at space p ≡ table_key space.root (key_of space.targets pair)
table_key_here space p pair there = key_here space p pair there

pub key_in_here : (space : Space) (w : World) (p : ℕ) (key : PairKey) → w.targets ≡ space.targets → IsKeyIn w p key → key_at space p ≡ table_key space.root key
key_in_here space w p key same is =
    let here : slice_get (pairs_of space.targets) p ≡ Some is.pair = subst (λ (ts : List Target). slice_get (pairs_of ts) p ≡ Some is.pair) same is.there in
    let own : key ≡ key_of space.targets is.pair = is.is ∙ ap (λ (ts : List Target). key_of ts is.pair) same in
    table_key_here space p is.pair here ∙ ap (table_key space.root) (sym own)

pub stem_here : (targets : List Target) (p : ℕ) (pair : Pair) → slice_get (pairs_of targets) p ≡ Some pair → stem pair.path ≡ stem_at targets p
stem_here targets p pair there =
    ap (λ (x : Pair). stem x.path) (sym (get_or_from_slice_get (pairs_of targets) p pair pair there))
    ∙ sym (get_or-map (λ (x : Pair). stem x.path) (pairs_of targets) p pair [] (slice_get_within (pairs_of targets) p pair there))

-- documents with one key, under one root, have one path
one_path : (a b : Space) → a.root ≡ b.root → (p q : ℕ) → key_at a p ≡ key_at b q → path_at a.targets p ≡ path_at b.targets q
one_path a b root p q same =
    append_cancel_left b.root (path_at a.targets p) (path_at b.targets q)
    (ap (λ r. document_address r (path_at a.targets p)) (sym root) ∙ ap (λ (k : TableKey). k.document) same)

-- and one stem
pub one_stem : (a b : Space) → a.root ≡ b.root → (p q : ℕ) (x y : Pair) → slice_get (pairs_of a.targets) p ≡ Some x → slice_get (pairs_of b.targets) q ≡ Some y
    → key_at a p ≡ key_at b q → stem_at a.targets p ≡ stem_at b.targets q
one_stem a b root p q x y here there same =
    sym (stem_here a.targets p x here)
    ∙ (ap stem (sym (path_here a.targets p x here) ∙ (one_path a b root p q same ∙ path_here b.targets q y there)) ∙ stem_here b.targets q y there)

-- one key stands for one pair of a workspace
pub one_index : (space : Space) → AllPairs (AreApart space) (pairs_of space.targets)
    → (p q : ℕ) (a b : Pair) → slice_get (pairs_of space.targets) p ≡ Some a → slice_get (pairs_of space.targets) q ≡ Some b → key_at space p ≡ key_at space q → p ≡ q
one_index space apart p q a b here there same = by (cases_lt p q) (cases_lt q p)
  where
    targets : List ℕ
    targets = a.target ∷ b.target ∷ []

    first : IsPairOf space.targets targets p
    first = record { pair = a; there = here; among = contains_first a.target (b.target ∷ []) }

    second : IsPairOf space.targets targets q
    second = record { pair = b; there = there; among = contains_later a.target (b.target ∷ []) b.target (contains_first b.target []) }

    by : (p < q) ⊎ (q ≤ p) → (q < p) ⊎ (p ≤ q) → p ≡ q
    by (inl h) k = absurd (keys_apart space targets apart p q h first second same)
    by (inr h) (inl k) = absurd (keys_apart space targets apart q p k second first (sym same))
    by (inr h) (inr k) = omega arith

-- each document of a build is one of its workspace
pub document_in : (build : Build) (documents : List BuildDocument) (space : Space) → AreDocuments build documents → build.space ≡ space
    → (document : BuildDocument) → Contains documents document → HasDocument space document.key
document_in build documents space are of_space document there =
    let from = contains_map_back (build_document build.space) are.pairs document (subst (λ (ds : List BuildDocument). Contains ds document) are.are there) in
    let of : IsPairOf build.space.targets are.closure from.0 = All-contains (IsPairOf build.space.targets are.closure) are.pairs from.0 are.each from.1 in
    record {
      index = from.0;
      pair = of.pair;
      there = subst (λ (w : Space). slice_get (pairs_of w.targets) from.0 ≡ Some of.pair) of_space of.there;
      is = ap (λ (w : Space). key_at w from.0) (sym of_space) ∙ ap (λ (d : BuildDocument). d.key) from.2;
    }
