-- The segments of a path, as one sweep over its bytes finds them.
use Rattle.std.proofs.Common.{◌≡◌, ℕ, ◌+◌, ◌-◌, ◌<◌, ◌≤◌, ◌&&◌, ◌||◌, Bool, true, false, cond, List, [], ◌∷◌, ◌++◌, length, take, drop, get_or, codes, not, eqb, refl, ap, sym, ◌∙◌, arith, drop-cons, length-drop, suc}
use Rattle.std.specs.List.{All, list_all, onto_first}
use Rattle.std.specs.Str.{bytes_eq}
use Rattle.std.proofs.lemmas.Bool.{and_from, and_parts}
use Rattle.std.proofs.lemmas.Bool.Decides.{nat_tests}
use Rattle.std.proofs.lemmas.List.{take-append-drop, drop-drop, take_rest, take_more, get_or-drop}
use Rattle.std.proofs.Math.Bool.{and-true}
use Rattle.std.proofs.lemmas.List.Elements.{All-weaker}
use Rattle.std.proofs.lemmas.List.Folds.{list_all-append}
use Rattle.std.proofs.lemmas.List.Splits.{slice_split_none, slice_split_at}
use Rattle.std.proofs.lemmas.List.Sums.{AllPass-from_list_all}
use Rattle.target_graph.specs.Names.{is_name_byte, are_name_bytes, is_segment, segments}

-- ---- paths whose segments are words

abbrev pub are_words : List (List ℕ) → Bool
are_words parts = list_all (λ part. list_all is_name_byte part) parts

pub words_of : (parts : List (List ℕ)) → list_all is_segment parts ≡ true → are_words parts ≡ true
words_of [] e = refl
words_of (part ∷ parts) e =
    let h = and_parts (is_segment part) (list_all is_segment parts) e in
    let one = and_parts (are_name_bytes part && not (bytes_eq part (codes "."))) (not (bytes_eq part (codes ".."))) h.0 in
    let two = and_parts (are_name_bytes part) (not (bytes_eq part (codes "."))) one.0 in
    ap (λ b. b && are_words parts) (and_parts (not (eqb (length part) 0)) (list_all is_name_byte part) two.0).1 ∙ words_of parts h.1

-- a byte of a name, or a slash
abbrev pub is_path_byte : ℕ → Bool
is_path_byte byte = eqb byte 47 || is_name_byte byte

-- one byte before the first part
onto_words : (b : ℕ) (parts : List (List ℕ)) → are_words (onto_first b parts) ≡ true → (is_name_byte b ≡ true) × (are_words parts ≡ true)
onto_words b [] e =
    let h = and_parts (list_all is_name_byte (b ∷ [])) true e in
    ((and_parts (is_name_byte b) true h.0).0, refl)
onto_words b (part ∷ parts) e =
    let h = and_parts (list_all is_name_byte (b ∷ part)) (are_words parts) e in
    let one = and_parts (is_name_byte b) (list_all is_name_byte part) h.0 in
    (one.0, ap (λ x. x && are_words parts) one.1 ∙ h.1)

pub path_bytes : (path : List ℕ) → are_words (segments path) ≡ true → list_all is_path_byte path ≡ true
path_bytes [] e = refl
path_bytes (b ∷ bs) e = go (eqb b 47) refl e (path_bytes bs)
  where
    rest : List (List ℕ)
    rest = segments bs

    go : (slash : Bool) → eqb b 47 ≡ slash → are_words (cond slash ([] ∷ rest) (onto_first b rest)) ≡ true → (are_words rest ≡ true → list_all is_path_byte bs ≡ true) → list_all is_path_byte (b ∷ bs) ≡ true
    go true is h more = and_from _ _ (ap (λ x. x || is_name_byte b) is) (more h)
    go false is h more = let w = onto_words b rest h in and_from _ _ (ap (λ x. x || is_name_byte b) is ∙ w.0) (more w.1)

-- ---- the sweep

-- from the start of a segment, all before which is right, to a byte of it; what lies between is of names
pub record Sweeps (path : List ℕ) (start at : ℕ) : Type 0 where
  pub order : start ≤ at
  pub within : at ≤ length path
  pub plain : list_all is_name_byte (take (at - start) (drop start path)) ≡ true
  pub before : list_all is_segment (segments path) ≡ list_all is_segment (segments (drop start path))

no_slash : (b : ℕ) → is_name_byte b ≡ true → eqb b 47 ≡ false
no_slash b e = grind (arith, nat_tests)

no_slashes : (bs : List ℕ) → list_all is_name_byte bs ≡ true → All (λ b. eqb b 47 ≡ false) bs
no_slashes bs e = All-weaker (λ b. is_name_byte b ≡ true) (λ b. eqb b 47 ≡ false) no_slash bs (AllPass-from_list_all is_name_byte bs e)

-- what a test says of a text that leads on, where its bytes are of names
pub segment_is : (bs : List ℕ) (leads : Bool) → list_all is_name_byte bs ≡ true → is_segment bs ≡ (list_all is_name_byte bs && leads) → is_segment bs ≡ leads
segment_is bs leads e h = h ∙ ap (λ b. b && leads) e

module _ (path : List ℕ) (start at : ℕ) (h : Sweeps path start at) where
  -- the segment so far, and what stands behind it
  abbrev seen : List ℕ
  seen = take (at - start) (drop start path)

  cut : at < length path → drop start path ≡ seen ++ get_or path at 0 ∷ drop (at + 1) path
  cut l =
      let o = h.order in
      let on : suc at ≡ at + 1 = omega arith in
      sym (take-append-drop (at - start) (drop start path))
      ∙ ap (λ bs. seen ++ bs) (drop-drop (at - start) start path ∙ ap (λ n. drop n path) (omega arith) ∙ drop-cons path at 0 l ∙ ap (λ n. get_or path at 0 ∷ drop n path) on)

  pub at_slash : at < length path → get_or path at 0 ≡ 47 → list_all is_segment (segments path) ≡ (is_segment seen && list_all is_segment (segments (drop (at + 1) path)))
  at_slash l e =
      h.before ∙ ap (λ bs. list_all is_segment (segments bs)) (cut l)
      ∙ ap (list_all is_segment) (slice_split_at (λ b. eqb b 47) seen (get_or path at 0) (drop (at + 1) path) (no_slashes seen h.plain) (ap (λ b. eqb b 47) e))

  pub at_other : (b : Bool) → at < length path → list_all is_segment (segments path) ≡ b → eqb (get_or path at 0) 47 ≡ false → is_name_byte (get_or path at 0) ≡ false → b ≡ false
  at_other false l is e n = refl
  at_other true l is e n =
      let bytes = path_bytes (drop start path) (words_of (segments (drop start path)) (sym h.before ∙ is)) in
      let parts = and_parts (list_all is_path_byte seen) (list_all is_path_byte (get_or path at 0 ∷ drop (at + 1) path)) (sym (list_all-append is_path_byte seen (get_or path at 0 ∷ drop (at + 1) path)) ∙ ap (list_all is_path_byte) (sym (cut l)) ∙ bytes) in
      let one = (and_parts (is_path_byte (get_or path at 0)) (list_all is_path_byte (drop (at + 1) path)) parts.1).0 in
      sym one ∙ ap (λ x. x || is_name_byte (get_or path at 0)) e ∙ n

  -- the last segment, which is of names
  abbrev last : List ℕ
  last = take (length path - start) (drop start path)

  pub last_plain : length path ≤ at → list_all is_name_byte last ≡ true
  last_plain l =
      let w = h.within in
      ap (λ n. list_all is_name_byte (take (n - start) (drop start path))) {x = length path} {y = at} (omega arith) ∙ h.plain

  pub at_end : length path ≤ at → list_all is_segment (segments path) ≡ is_segment last
  at_end l =
      h.before ∙ ap (λ bs. list_all is_segment (segments bs)) (sym (take_rest path start))
      ∙ ap (list_all is_segment) (slice_split_none (λ b. eqb b 47) last (no_slashes last (last_plain l)))
      ∙ and-true (is_segment last)

  pub sweeps_on : at < length path → is_name_byte (get_or path at 0) ≡ true → Sweeps path start (at + 1)
  sweeps_on l e =
      let o = h.order in
      let more : take (at + 1 - start) (drop start path) ≡ seen ++ get_or path at 0 ∷ [] =
      ap (λ n. take n (drop start path)) (omega arith)
      ∙ take_more (drop start path) (at - start) 0 (omega (arith, length-drop start path))
      ∙ ap (λ b. seen ++ b ∷ []) (get_or-drop start path (at - start) 0 ∙ ap (λ n. get_or path n 0) (omega arith)) in
      record {
        order = omega arith;
        within = omega arith;
        plain = ap (list_all is_name_byte) more ∙ list_all-append is_name_byte seen (get_or path at 0 ∷ []) ∙ and_from _ _ h.plain (and_from _ _ e refl);
        before = h.before;
      }

  pub sweeps_behind : at < length path → get_or path at 0 ≡ 47 → is_segment seen ≡ true → Sweeps path (at + 1) (at + 1)
  sweeps_behind l e s = record {
    order = omega arith;
    within = omega arith;
    plain = let none : at + 1 - (at + 1) ≡ 0 = omega arith in ap (λ n. list_all is_name_byte (take n (drop (at + 1) path))) none;
    before = at_slash l e ∙ ap (λ b. b && list_all is_segment (segments (drop (at + 1) path))) s;
  }
