-- The targets that a compile names, and the path of one that is none.
use Rattle.std.proofs.Common.{◌≡◌, ◌++◌, ◌<◌, ◌≤◌, ◌+◌, ◌^◌, ℕ, List, [], ◌∷◌, length, drop, get_or, Some, None, refl, ap, sym, ◌∙◌, arith, append_assoc, append-nil, length-append}
use Rattle.std.specs.Prelude.{codes, decimal}
use Rattle.std.specs.List.{All}
use Rattle.std.proofs.lemmas.Fmt.{IsAscii-decimal, length-decimal-le}
use Rattle.std.proofs.lemmas.List.{drop_more}
use Rattle.std.proofs.lemmas.Str.{IsAscii-append}
use Rattle.bsp_records.specs.declared.identifiers.BuildTargetIdentifier.{BuildTargetIdentifier}
use Rattle.ob_text.specs.Ascii.{IsPlain}
use Rattle.ob_text.proofs.AsciiLaws.{ascii_from_test}
use Rattle.session_verdicts.specs.Judging.{said_limit}
use Rattle.session_law.specs.Methods.{Found, all_found, unknown_at, found_first, found_from, target_path}
use Rattle.target_graph.specs.Workspace.{Space, named}

-- what is found behind these targets
abbrev pub after : List ℕ → Found → Found
after asked (all_found targets) = all_found (asked ++ targets)
after asked (unknown_at index) = unknown_at index

after_nothing : (found : Found) → found ≡ after [] found
after_nothing (all_found targets) = refl
after_nothing (unknown_at index) = refl

after_one : (asked : List ℕ) (target index : ℕ) (found : Found) → after asked (found_first (Some target) index found) ≡ after (asked ++ target ∷ []) found
after_one asked target index (all_found targets) = ap all_found (sym (append_assoc asked (target ∷ []) targets))
after_one asked target index (unknown_at later) = refl

-- the first targets are found
pub record FindsTo (space : Space) (ids : List BuildTargetIdentifier) (index : ℕ) (asked : List ℕ) : Type 0 where
  pub found : found_from space 0 ids ≡ after asked (found_from space index (drop index ids))
  pub within : All (λ target. target < length space.targets) asked

module _ (space : Space) (ids : List BuildTargetIdentifier) where
  pub finds_none : found_from space 0 ids ≡ after [] (found_from space 0 (drop 0 ids))
  finds_none = after_nothing (found_from space 0 ids)

  next : (index : ℕ) (d : BuildTargetIdentifier) → index < length ids
      → found_from space index (drop index ids) ≡ found_first (named space (get_or ids index d).uri) index (found_from space (index + 1) (drop (index + 1) ids))
  next index d h = ap (found_from space index) (drop_more ids index d h)

  pub finds_more : (index : ℕ) (asked : List ℕ) (d : BuildTargetIdentifier) (target : ℕ) → index < length ids → named space (get_or ids index d).uri ≡ Some target
      → found_from space 0 ids ≡ after asked (found_from space index (drop index ids)) → found_from space 0 ids ≡ after (asked ++ target ∷ []) (found_from space (index + 1) (drop (index + 1) ids))
  finds_more index asked d target h is found =
      found ∙ ap (after asked) (next index d h ∙ ap (λ o. found_first o index (found_from space (index + 1) (drop (index + 1) ids))) is)
      ∙ after_one asked target index (found_from space (index + 1) (drop (index + 1) ids))

  pub finds_unknown : (index : ℕ) (asked : List ℕ) (d : BuildTargetIdentifier) → index < length ids → named space (get_or ids index d).uri ≡ None
      → found_from space 0 ids ≡ after asked (found_from space index (drop index ids)) → found_from space 0 ids ≡ unknown_at index
  finds_unknown index asked d h is found =
      found ∙ ap (after asked) (next index d h ∙ ap (λ o. found_first o index (found_from space (index + 1) (drop (index + 1) ids))) is)

  pub finds_all : (index : ℕ) (asked : List ℕ) → drop index ids ≡ [] → found_from space 0 ids ≡ after asked (found_from space index (drop index ids)) → found_from space 0 ids ≡ all_found asked
  finds_all index asked nothing found = found ∙ ap (λ rest. after asked (found_from space index rest)) nothing ∙ ap all_found (append-nil asked)

pub short_path : (index : ℕ) → index < 2 ^ 64 → IsPlain said_limit (target_path index)
unfolding target_path
short_path index h =
    let digits : length (decimal index) ≤ 20 = length-decimal-le 20 index (omega arith) (omega arith) h in
    let front = length-append (codes "targets[") (decimal index ++ codes "].uri") in
    let back = length-append (decimal index) (codes "].uri") in
    record {
      ascii = IsAscii-append (codes "targets[") (decimal index ++ codes "].uri") (ascii_from_test (codes "targets[") refl)
          (IsAscii-append (decimal index) (codes "].uri") (IsAscii-decimal index h) (ascii_from_test (codes "].uri") refl));
      short = omega (arith, digits, front, back);
    }
