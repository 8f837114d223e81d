-- The targets of two workspaces by their names: one target more, and what is true of all at the end.
use Rattle.std.proofs.Common.{◌≡◌, ◌⊎◌, inl, inr, ℕ, ◌<◌, ◌||◌, Bool, true, false, List, [], ◌++◌, length, get_or, Contains, Option, None, Some, is_some, refl, ap, sym, subst, ◌∙◌, arith}
use Rattle.std.specs.Prelude.{if◌then◌else◌}
use Rattle.std.specs.Borrow.{Bor}
use Rattle.std.specs.Cmp.Lexicographic.{slice_cmp}
use Rattle.std.specs.List.{AllPairs}
use Rattle.std.specs.Map.{keys_of}
use Rattle.std.specs.Option.{option_copied, option_or}
use Rattle.std.specs.Ordering.{eq_by_cmp, nat_cmp}
use Rattle.std.specs.declared.cmp.Ordering.TheVariants.{Less}
use Rattle.std.proofs.lemmas.Bool.{or_cases}
use Rattle.std.proofs.lemmas.Cmp.{nat_list_cmp_total, on_total, eq_by_cmp_equiv}
use Rattle.std.proofs.lemmas.List.{get_or-map, length-map, map-append}
use Rattle.std.proofs.lemmas.List.Elements.{All-append, All-map, Contains-append_left, Contains-append_right, Contains-get_or}
use Rattle.std.proofs.lemmas.Map.Entries.{lookup_from_place, place_from_lookup}
use Rattle.std.proofs.lemmas.Map.Keys.{IsDistinct-from_sorted, Less-from_sorted}
use Rattle.std.proofs.lemmas.Option.{slice_get-get_or, slice_get_within, get_or_from_slice_get}
use Rattle.std.specs.Str.{bytes_eq}
use Rattle.std.proofs.lemmas.Slice.Eq.{bytes_eq-Decides}
use Rattle.target_graph.specs.declared.target.Target.{Target}
use Rattle.reload_rules.specs.Changes.{IsBefore, names_of, with_name}
use Rattle.session_reload.specs.Sides.{AreSides, IsEntryOf, IsInOrder, joined_to, name_cmp, names_in, same_name, side_at}
use Rattle.session_reload.specs.declared.sides.Side.{Side}
use Rattle.session_reload.proofs.NameLaws.{found, finds, or_none, same_from, some_of}

-- ---- what is known of a name

abbrev pub old_of : Option Side → Option Target
old_of None = None
old_of (Some side) = option_copied side.old

abbrev pub new_of : Option Side → Option Target
new_of None = None
new_of (Some side) = option_copied side.new

-- what is there at the name, where these targets are there
pub record IsSideAt (old new : List Target) (name : List ℕ) (found : Option Side) : Type 0 where
  pub old_is : old_of found ≡ with_name name old
  pub new_is : new_of found ≡ with_name name new
  pub there : is_some found ≡ (is_some (with_name name old) || is_some (with_name name new))

abbrev pub HasSides : List Target → List Target → List (Bor (List ℕ) × Side) → Type 0
HasSides old new entries = (name : List ℕ) → IsSideAt old new name (side_at entries name)

-- ---- one more target

copied_or : (a b : Option (Bor Target)) → option_copied (option_or a b) ≡ option_or (option_copied a) (option_copied b)
copied_or None b = refl
copied_or (Some x) b = refl

old_joined : (first : Option Side) (side : Side) → old_of (Some (joined_to first side)) ≡ option_or (old_of first) (option_copied side.old)
old_joined None side = refl
old_joined (Some first) side = copied_or first.old side.old

new_joined : (first : Option Side) (side : Side) → new_of (Some (joined_to first side)) ≡ option_or (new_of first) (option_copied side.new)
new_joined None side = refl
new_joined (Some first) side = copied_or first.new side.new

there_or : (a b c d : Option Target) → (is_some c || is_some d) ≡ true → true ≡ (is_some (option_or a c) || is_some (option_or b d))
there_or (Some a) b c d e = refl
there_or None (Some b) (Some c) d e = refl
there_or None (Some b) None d e = refl
there_or None None c d e = sym e

module _ (olds news more_olds more_news : List Target) (name : List ℕ) (side : Side) (before after : List ℕ → Option Side)
    (old_more : (q : List ℕ) → with_name q more_olds ≡ option_or (with_name q olds) (if same_name name q then option_copied side.old else None))
    (new_more : (q : List ℕ) → with_name q more_news ≡ option_or (with_name q news) (if same_name name q then option_copied side.new else None))
    (some : (is_some (option_copied side.old) || is_some (option_copied side.new)) ≡ true)
    (put : (q : List ℕ) → after q ≡ (if same_name name q then Some (joined_to (before name) side) else before q))
    (was : (q : List ℕ) → IsSideAt olds news q (before q)) where
  put_by : (q : List ℕ) (b : Bool) → same_name name q ≡ b → IsSideAt more_olds more_news q (after q)
  put_by q true e =
      let is : after q ≡ Some (joined_to (before q) side) =
      put q ∙ (ap (λ b. if b then Some (joined_to (before name) side) else before q) e ∙ ap (λ n. Some (joined_to (before n) side)) (same_from name q e)) in
      let old : with_name q more_olds ≡ option_or (with_name q olds) (option_copied side.old) =
      old_more q ∙ ap (λ b. option_or (with_name q olds) (if b then option_copied side.old else None)) e in
      let new : with_name q more_news ≡ option_or (with_name q news) (option_copied side.new) =
      new_more q ∙ ap (λ b. option_or (with_name q news) (if b then option_copied side.new else None)) e in
      record {
        old_is = ap old_of is ∙ (old_joined (before q) side ∙ (ap (λ o. option_or o (option_copied side.old)) (was q).old_is ∙ sym old));
        new_is = ap new_of is ∙ (new_joined (before q) side ∙ (ap (λ o. option_or o (option_copied side.new)) (was q).new_is ∙ sym new));
        there =
            ap is_some is
            ∙ (there_or (with_name q olds) (with_name q news) (option_copied side.old) (option_copied side.new) some
            ∙ (ap (λ o. is_some o || is_some (option_or (with_name q news) (option_copied side.new))) (sym old)
            ∙ ap (λ o. is_some (with_name q more_olds) || is_some o) (sym new)));
      }
  put_by q false e =
      let is : after q ≡ before q = put q ∙ ap (λ b. if b then Some (joined_to (before name) side) else before q) e in
      let old : with_name q more_olds ≡ with_name q olds =
      old_more q ∙ (ap (λ b. option_or (with_name q olds) (if b then option_copied side.old else None)) e ∙ or_none (with_name q olds)) in
      let new : with_name q more_news ≡ with_name q news =
      new_more q ∙ (ap (λ b. option_or (with_name q news) (if b then option_copied side.new else None)) e ∙ or_none (with_name q news)) in
      record {
        old_is = ap old_of is ∙ ((was q).old_is ∙ sym old);
        new_is = ap new_of is ∙ ((was q).new_is ∙ sym new);
        there =
            ap is_some is
            ∙ ((was q).there
            ∙ (ap (λ o. is_some o || is_some (with_name q news)) (sym old)
            ∙ ap (λ o. is_some (with_name q more_olds) || is_some o) (sym new)));
      }

  pub put_more : (q : List ℕ) → IsSideAt more_olds more_news q (after q)
  put_more q = put_by q (same_name name q) refl

pub no_sides : HasSides [] [] []
no_sides name = record { old_is = refl; new_is = refl; there = refl }

-- ---- all of them

module _ (old new : List Target) (entries : List (Bor (List ℕ) × Side)) (has : HasSides old new entries) (sorted : IsInOrder entries) where
  at_index : (k : ℕ) (d : Bor (List ℕ) × Side) → k < length entries → side_at entries (get_or entries k d).0.now ≡ Some (get_or entries k d).1
  at_index k d h =
      lookup_from_place {eq = eq_by_cmp name_cmp} (eq_by_cmp_equiv (on_total (λ (b : Bor (List ℕ)). b.now) nat_list_cmp_total)) entries k (get_or entries k d).0 (get_or entries k d).1
      (IsDistinct-from_sorted name_cmp (keys_of entries) sorted) (slice_get-get_or entries k d h)

  entry_at : (k : ℕ) (d : Bor (List ℕ) × Side) → k < length entries → IsEntryOf old new (get_or entries k d)
  entry_at k d h =
      let is = at_index k d h in
      (ap old_of (sym is) ∙ (has (get_or entries k d).0.now).old_is, ap new_of (sym is) ∙ (has (get_or entries k d).0.now).new_is)

  ordered : AllPairs IsBefore (names_in entries)
  ordered i j d h k =
      let size : length (names_in entries) ≡ length entries = length-map entries (λ (e : Bor (List ℕ) × Side). e.0.now) in
      let j_in : j < length entries = omega (arith, size) in
      let i_in : i < length entries = omega arith in
      let none : Bor (List ℕ) × Side = (record { ref_ptr = (0, 0); now = d }, record { old = None; new = None }) in
      let less : name_cmp (get_or (keys_of entries) i none.0) (get_or (keys_of entries) j none.0) ≡ Less =
      Less-from_sorted name_cmp (keys_of entries) i j none.0 sorted h (subst (λ n. j < n) (sym (length-map entries (λ (e : Bor (List ℕ) × Side). e.0))) j_in) in
      let at = λ (x : ℕ) (x_in : x < length entries). (let e : get_or (names_in entries) x d ≡ (get_or (keys_of entries) x none.0).now =
      get_or-map (λ (e : Bor (List ℕ) × Side). e.0.now) entries x none d x_in ∙ sym (ap (λ (b : Bor (List ℕ)). b.now) (get_or-map (λ (e : Bor (List ℕ) × Side). e.0) entries x none none.0 x_in)) in e) in
      ap (λ n. slice_cmp nat_cmp n (get_or (names_in entries) j d)) (at i i_in)
      ∙ (ap (λ n. slice_cmp nat_cmp (get_or (keys_of entries) i none.0).now n) (at j j_in) ∙ less)

  named : (targets : List Target) (name : List ℕ) → is_some (with_name name targets) ≡ true → Contains (names_of targets) name
  named targets name there =
      let s = some_of (with_name name targets) there in
      let f = found (λ (t : Target). bytes_eq name t.name) targets s.0 s.1 in
      let same : name ≡ s.0.name = (bytes_eq-Decides name s.0.name).0 f.1 in
      let size : length (names_of targets) ≡ length targets = length-map targets (λ (t : Target). t.name) in
      (f.0.0, subst (λ n. f.0.0 < n) (sym size) f.0.1, get_or-map (λ (t : Target). t.name) targets f.0.0 s.0 name f.0.1 ∙ (ap (λ (t : Target). t.name) f.0.2 ∙ sym same))

  both : names_of (old ++ new) ≡ names_of old ++ names_of new
  both = map-append (λ (t : Target). t.name) old new

  named_in : (name : List ℕ) → is_some (with_name name old) ≡ true ⊎ (is_some (with_name name new) ≡ true) → Contains (names_of (old ++ new)) name
  named_in name (inl there) = subst (λ (ns : List (List ℕ)). Contains ns name) (sym both) (Contains-append_left (names_of old) (names_of new) name (named old name there))
  named_in name (inr there) = subst (λ (ns : List (List ℕ)). Contains ns name) (sym both) (Contains-append_right (names_of old) (names_of new) name (named new name there))

  each_at : (k : ℕ) (d : Bor (List ℕ) × Side) → k < length entries → Contains (names_of (old ++ new)) (get_or entries k d).0.now
  each_at k d h =
      let name = (get_or entries k d).0.now in
      named_in name (or_cases (is_some (with_name name old)) (is_some (with_name name new)) (sym (has name).there ∙ ap is_some (at_index k d h)))

  listed : (name : List ℕ) → is_some (side_at entries name) ≡ true → Contains (names_in entries) name
  listed name there =
      let s = some_of (side_at entries name) there in
      let p = place_from_lookup (λ (key : Bor (List ℕ)). same_name name key.now) entries s.0 s.1 in
      let within : p.0 < length entries = slice_get_within entries p.0 (p.1, s.0) p.2 in
      let at : get_or entries p.0 (p.1, s.0) ≡ (p.1, s.0) = get_or_from_slice_get entries p.0 (p.1, s.0) (p.1, s.0) p.2 in
      let size : length (names_in entries) ≡ length entries = length-map entries (λ (e : Bor (List ℕ) × Side). e.0.now) in (
        p.0,
        subst (λ n. p.0 < n) (sym size) within,
        get_or-map (λ (e : Bor (List ℕ) × Side). e.0.now) entries p.0 (p.1, s.0) name within
            ∙ (ap (λ (e : Bor (List ℕ) × Side). e.0.now) at ∙ sym (same_from name p.1.now p.3)),
      )

  has_old : (t : Target) → Contains old t → Contains (names_in entries) t.name
  has_old t c =
      let there = finds (λ (x : Target). bytes_eq t.name x.name) old t c ((bytes_eq-Decides t.name t.name).1 refl) in
      listed t.name ((has t.name).there ∙ ap (λ b. b || is_some (with_name t.name new)) there)

  or_true : (b : Bool) → (b || true) ≡ true
  or_true true = refl
  or_true false = refl

  has_new : (t : Target) → Contains new t → Contains (names_in entries) t.name
  has_new t c =
      let there = finds (λ (x : Target). bytes_eq t.name x.name) new t c ((bytes_eq-Decides t.name t.name).1 refl) in
      listed t.name ((has t.name).there ∙ (ap (λ b. is_some (with_name t.name old) || b) there ∙ or_true (is_some (with_name t.name old))))

  pub are_sides : AreSides old new entries
  are_sides = record {
    each = λ k d h. entry_at k d h;
    names = record {
      ordered = ordered;
      each = All-map (Contains (names_of (old ++ new))) (λ (e : Bor (List ℕ) × Side). e.0.now) entries (λ k d h. each_at k d h);
      whole =
          All-map (Contains (names_in entries)) (λ (t : Target). t.name) (old ++ new)
          (All-append (λ (t : Target). Contains (names_in entries) t.name) old new
          (λ k d h. has_old (get_or old k d) (Contains-get_or old k d h)) (λ k d h. has_new (get_or new k d) (Contains-get_or new k d h)));
    };
  }
