-- What stands in a setting at a pair.
use Rattle.std.proofs.Common.{◌≡◌, ◌<◌, ◌+◌, ◌||◌, Option, option_map, ℕ, zero, suc, List, [], ◌∷◌, length, get_or, map, true, Some, refl, sym, ap, subst, ◌∙◌, arith, nat_eq}
use Rattle.std.specs.List.{All, Contains, list_any, position, slice_get}
use Rattle.std.proofs.lemmas.Bool.Decides.{Decides-eqb}
use Rattle.std.proofs.lemmas.List.Elements.{All-contains}
use Rattle.std.proofs.lemmas.List.Quantifiers.{position-Some}
use Rattle.std.proofs.lemmas.Option.{same_Some, slice_get-get_or, slice_get-map, slice_get_read, slice_get_within}
use Rattle.session_law.specs.Builds.{AreDocuments, IsPairOf, build_document}
use Rattle.session_law.specs.Methods.{Build}
use Rattle.session_law.specs.declared.BuildDocument.{BuildDocument}
use Rattle.session_build.specs.Setting.{IsNumberOf, IsSetting}
use Rattle.session_build.specs.declared.setting.Setting.{Setting}
use Rattle.build_messages.proofs.DocumentLaws.{target_here, or_true}
use Rattle.target_graph.specs.Workspace.{IsClosure, IsReached, Space, id_of, pairs_of}
use Rattle.target_graph.specs.declared.target.Pair.{Pair}

pub listed_any : (xs : List ℕ) (n k : ℕ) → k < length xs → get_or xs k n ≡ n → list_any (nat_eq n) xs ≡ true
listed_any [] n k h e = absurd (omega arith)
listed_any (x ∷ xs) n zero h e = ap (λ b. b || list_any (nat_eq n) xs) ((Decides-eqb n x).1 (sym e))
listed_any (x ∷ xs) n (suc k) h e = ap (λ b. nat_eq n x || b) (listed_any xs n k (omega arith) e) ∙ or_true (nat_eq n x)

pub index_there : (xs : List ℕ) (n k : ℕ) → position (nat_eq n) xs ≡ Some k → slice_get xs k ≡ Some n
index_there xs n k is =
    let found = position-Some (nat_eq n) xs k n is in
    slice_get-get_or xs k n found.0 ∙ ap (λ m. Some m) (sym ((Decides-eqb n (get_or xs k n)).0 found.1))

module _ (at : Setting) (is : IsSetting at) (pair : ℕ) (among : Contains (map (λ (d : BuildDocument). d.pair) at.documents) pair) where
  keyed : Contains at.pairs.keys pair
  keyed = subst (λ ps. Contains ps pair) (sym is.pairs) among

  pub pair_of : IsPairOf at.workspace.value.targets at.targets.keys pair
  pair_of = All-contains (IsPairOf at.workspace.value.targets at.targets.keys) at.pairs.keys pair is.each keyed

  pub document_at : (index : ℕ) → position (nat_eq pair) at.pairs.keys ≡ Some index → slice_get at.documents index ≡ Some (build_document at.workspace.value pair)
  document_at index found =
      ap (λ (ds : List BuildDocument). slice_get ds index) is.are
      ∙ (slice_get-map (build_document at.workspace.value) at.pairs.keys index
      ∙ ap (λ (o : Option ℕ). option_map (build_document at.workspace.value) o) (index_there at.pairs.keys pair index found))

  pub number_at : (target : Pair) (before : ℕ) → slice_get (pairs_of at.workspace.value.targets) pair ≡ Some target → position (nat_eq target.target) at.targets.keys ≡ Some before
      → IsNumberOf at pair (before + 1)
  number_at target before there found = record {
    before = before;
    target = target.target;
    there = index_there at.targets.keys target.target before found;
    number_is = omega arith;
    id_is = ap (id_of at.workspace.value) (sym (target_here at.workspace.value.targets pair target there));
  }

  pub target_listed : (target : Pair) → slice_get (pairs_of at.workspace.value.targets) pair ≡ Some target → Contains at.targets.keys target.target
  target_listed target there =
      subst (λ (x : Pair). Contains at.targets.keys x.target) (same_Some pair_of.pair target (sym pair_of.there ∙ there)) pair_of.among

  pub pair_there : (pairs : List Pair) (x : Pair) → pairs ≡ pairs_of at.workspace.value.targets → x ≡ get_or pairs pair x → slice_get (pairs_of at.workspace.value.targets) pair ≡ Some x
  pair_there pairs x are e =
      slice_get_read (pairs_of at.workspace.value.targets) (length (pairs_of at.workspace.value.targets)) pair x refl
      (slice_get_within (pairs_of at.workspace.value.targets) pair pair_of.pair pair_of.there) (e ∙ ap (λ (ps : List Pair). get_or ps pair x) are)

-- ---- the pairs of documents

pub own_pairs : (space : Space) (pairs : List ℕ) → map (λ (d : BuildDocument). d.pair) (map (build_document space) pairs) ≡ pairs
own_pairs space [] = refl
own_pairs space (q ∷ pairs) = ap (λ qs. q ∷ qs) (own_pairs space pairs)

-- those of a build's documents are in order
pub pairs_are : (build : Build) (documents : List BuildDocument) → (are : AreDocuments build documents) → map (λ (d : BuildDocument). d.pair) documents ≡ are.pairs
pairs_are build documents are = ap (map (λ (d : BuildDocument). d.pair)) are.are ∙ own_pairs build.space are.pairs

-- each is of a target of a closure
pub pairs_among : (build : Build) (documents : List BuildDocument) (closure : List ℕ) → (are : AreDocuments build documents) → IsClosure build.space.targets build.asked closure
    → All (IsPairOf build.space.targets closure) are.pairs
pairs_among build documents closure are closed k d h =
    let it = are.each k d h in
    record {
      pair = it.pair;
      there = it.there;
      among = closed.whole it.pair.target (All-contains (IsReached build.space.targets build.asked) are.closure it.pair.target are.closed.reached it.among);
    }
