-- What holds of the targets of a file that has passed.
use Rattle.std.proofs.Common.{◌≡◌, ◌≢◌, ℕ, suc, ◌+◌, ◌<◌, ◌≤◌, Bool, true, false, not, cond, ◌||◌, List, [], ◌∷◌, ◌++◌, length, get_or, map, codes, Option, None, Some, is_some, All, Contains, ap, sym, subst, ◌∙◌, refl, arith, ltb}
use Rattle.std.specs.Option.{option_map, option_map_or}
use Rattle.std.specs.List.{list_any, prefix_len, flat_map, AllPairs}
use Rattle.std.specs.Str.{bytes_eq}
use Rattle.std.proofs.lemmas.Bool.{false≢true, ltb-false}
use Rattle.std.proofs.lemmas.List.{length-append, length-map}
use Rattle.std.proofs.lemmas.List.Elements.{All-nil, All-cons, All-map, All-head, All-tail}
use Rattle.ob_text.specs.declared.held.Held.{Held}
use Rattle.serde_json.specs.Data.{Data}
use Rattle.serde_json.specs.Find.{get, as_array, as_object, as_str}
use Rattle.json_shape.specs.Shapes.{at, bad, bad_field, bad_if_given, bad_item, bad_unless, item_step, list_of, member_step, named_path, text_where, under, values_in, whole}
use Rattle.json_shape.proofs.NoneLaws.{none_first, none_under, passed_text, passed_texts}
use Rattle.target_graph.specs.declared.entry.Entry.{Entry}
use Rattle.target_graph.specs.declared.fault.FaultKind.TheVariants as kinds
use Rattle.target_graph.specs.declared.target.Target.{Target}
use Rattle.target_graph.specs.declared.target.Pair.{Pair}
use Rattle.target_graph.specs.Names.{is_name, is_path}
use Rattle.target_graph.specs.File.{bad_file, dependency_fields, entries_of, entry_of, file, file_fields, given_texts, is_kind, kind_fields, main_fields, module_fields, target, target_fields, targets_fields}
use Rattle.target_graph.specs.Faults.{file_value, file_entries, names_of, modules_of, dependencies_of, index_of, target_of, file_targets, too_many, Passed}
use Rattle.target_graph.specs.Listing.{IsListing}
use Rattle.target_graph.specs.declared.reading.Listing.{Listing}
use Rattle.target_graph.specs.Workspace.{AreValid, pairs_at, pairs_from, pairs_of}
use Rattle.target_graph.specs.Kept.{IsSoundListing, IsSoundOf}
use Rattle.target_graph.proofs.Listed.{listed_any}
use Rattle.target_graph.proofs.Refusals.{bad_of_value, entries_of_value}

-- ---- where no field is bad

abbrev pub IsRight : Entry → Type 0
IsRight entry = (is_name entry.name ≡ true) × All (λ path. is_path path ≡ true) entry.modules × All (λ name. is_name name ≡ true) entry.dependencies

given_right : (found : Option Data) → bad_if_given (bad (list_of (text_where is_name))) found ≡ None → All (λ name. is_name name ≡ true) (given_texts found)
given_right None e = All-nil (λ name. is_name name ≡ true)
given_right (Some d) e = passed_texts is_name d e

entry_right : (d : Data) → bad target d ≡ None → IsRight (entry_of d)
entry_right d e =
    let name = under (member_step (codes "name")) (bad (text_where is_name) (at (codes "name") d)) in
    let kind = under (member_step (codes "kind")) (bad (text_where is_kind) (at (codes "kind") d)) in
    let modules = under (member_step (codes "modules")) (bad (list_of (text_where is_path)) (at (codes "modules") d)) in
    let dependencies = under (member_step (codes "dependencies")) (bad_if_given (bad (list_of (text_where is_name))) (get (codes "dependencies") d)) in
    let whole = none_first (bad_unless (is_some (as_object d))) (bad_field target_fields d) e in
    let one = none_first name (bad_field kind_fields d) whole.1 in
    let two = none_first kind (bad_field module_fields d) one.1 in
    let three = none_first modules (bad_field dependency_fields d) two.1 in
    let four = none_first dependencies (bad_field main_fields d) three.1 in (
      passed_text is_name (as_str (at (codes "name") d)) (none_under (member_step (codes "name")) (bad (text_where is_name) (at (codes "name") d)) one.0),
      passed_texts is_path (at (codes "modules") d) (none_under (member_step (codes "modules")) (bad (list_of (text_where is_path)) (at (codes "modules") d)) three.0),
      given_right (get (codes "dependencies") d)
          (none_under (member_step (codes "dependencies")) (bad_if_given (bad (list_of (text_where is_name))) (get (codes "dependencies") d)) four.0),
    )

entries_right : (index : ℕ) (ds : List Data) → bad_item (bad target) index ds ≡ None → All IsRight (map entry_of ds)
entries_right index [] e = All-nil IsRight
entries_right index (d ∷ ds) e =
    let h = none_first (under (item_step index) (bad target d)) (bad_item (bad target) (index + 1) ds) e in
    All-cons IsRight (entry_of d) (map entry_of ds) (entry_right d (none_under (item_step index) (bad target d) h.0)) (entries_right (index + 1) ds h.1)

none_named : (own : List ℕ) (found : Option (List ℕ)) → option_map (named_path own) found ≡ None → found ≡ None
none_named own None e = refl
none_named own (Some path) e = absurd (cc)

file_right : (d : Data) → bad_file d ≡ None → All IsRight (entries_of d)
file_right d e =
    let list = at (codes "targets") d in
    let version = under (member_step (codes "version")) (bad (whole 1 1) (at (codes "version") d)) in
    let targets = under (member_step (codes "targets")) (bad (list_of target) list) in
    let one = none_first (bad_unless (is_some (as_object d))) (bad_field file_fields d) (none_named (codes "$") (bad file d) e) in
    let two = none_first version (bad_field targets_fields d) one.1 in
    let three = none_first targets None two.1 in
    let items = none_first (bad_unless (is_some (as_array list))) (bad_item (bad target) 0 (values_in list)) (none_under (member_step (codes "targets")) (bad (list_of target) list) three.0) in
    entries_right 0 (values_in list) items.1

passed_fields : (o : Option (List ℕ)) → ((name : List ℕ) → ¬ (o ≡ Some name)) → o ≡ None
passed_fields None none = refl
passed_fields (Some name) none = absurd (none name refl)

none_in : (held : Held) → file_value held ≡ None → file_entries held ≡ []
unfolding file_entries
none_in held e = ap (λ (o : Option Data). option_map_or entries_of o []) e

pub held_right : (held : Held) → Passed held 3 → All IsRight (file_entries held)
held_right held passed = go (file_value held) refl
  where
    go : (o : Option Data) → file_value held ≡ o → All IsRight (file_entries held)
    go None e = subst (λ (es : List Entry). All IsRight es) (sym (none_in held e)) (All-nil IsRight)
    go (Some d) e =
        subst (λ (es : List Entry). All IsRight es) (sym (entries_of_value held d e))
        (file_right d (passed_fields (bad_file d) (λ name f. passed kinds.BadField name (omega arith) (bad_of_value held d e ∙ f))))

-- ---- indices

pub index_within : (names : List (List ℕ)) (x : List ℕ) → list_any (bytes_eq x) names ≡ true → index_of names x < length names
index_within [] x e = absurd (false≢true e)
index_within (y ∷ ys) x e = go (bytes_eq x y) e (index_within ys x)
  where
    go : (b : Bool) → (b || list_any (bytes_eq x) ys) ≡ true → (list_any (bytes_eq x) ys ≡ true → index_of ys x < length ys)
        → cond (not b) (1 + prefix_len (λ z. not (bytes_eq x z)) ys) 0 < length (y ∷ ys)
    go true h rest = omega arith
    go false h rest = (let k = rest h in omega arith)

indices_within : (names : List (List ℕ)) (xs : List (List ℕ)) → All (Contains names) xs → All (λ index. index < length names) (map (index_of names) xs)
indices_within names xs known = All-map (λ index. index < length names) (index_of names) xs (λ k d h. index_within names (get_or xs k d) (listed_any names (get_or xs k d) (known k d h)))

pub parts_of_all : (P : List ℕ → Type 0) (xs ys : List (List ℕ)) → All P (xs ++ ys) → All P xs × All P ys
parts_of_all P [] ys h = (All-nil P, h)
parts_of_all P (x ∷ xs) ys h =
    let rest = parts_of_all P xs ys (All-tail P x (xs ++ ys) h) in
    (All-cons P x xs (All-head P x (xs ++ ys) h) rest.0, rest.1)

known_of : (names : List (List ℕ)) (entries : List Entry) → All (Contains names) (dependencies_of entries) → All (λ (e : Entry). All (Contains names) e.dependencies) entries
known_of names [] h = All-nil (λ (e : Entry). All (Contains names) e.dependencies)
known_of names (e ∷ es) h =
    let parts = parts_of_all (Contains names) e.dependencies (dependencies_of es) h in
    All-cons (λ (x : Entry). All (Contains names) x.dependencies) e es parts.0 (known_of names es parts.1)

-- ---- pairs

-- the names and the paths of these targets are ones
pub valid_of : (names : List (List ℕ)) (entries : List Entry) → All IsRight entries → AreValid (map (target_of names) entries)
valid_of names entries right =
    All-map (λ (t : Target). (is_name t.name ≡ true) × All (λ path. is_path path ≡ true) t.modules) (target_of names) entries
    (λ k d h. (let r = right k d h in (r.0, r.1)))

pairs_count : (names : List (List ℕ)) (n : ℕ) (entries : List Entry) → length (pairs_from n (map (target_of names) entries)) ≡ length (modules_of entries)
pairs_count names n [] = refl
pairs_count names n (e ∷ es) =
    let rest = pairs_count names (suc n) es in
    let a = length-append (pairs_at n e.modules) (pairs_from (suc n) (map (target_of names) es)) in
    let b = length-map e.modules (λ (path : List ℕ). let p : Pair = record { target = n; path = path } in p) in
    let c = length-append e.modules (modules_of es) in
    a ∙ (omega (arith, rest, b) ∙ sym c)

modules_count : (names : List (List ℕ)) (entries : List Entry) → length (flat_map (λ (t : Target). t.modules) (map (target_of names) entries)) ≡ length (modules_of entries)
modules_count names [] = refl
modules_count names (e ∷ es) =
    let rest = modules_count names es in
    let a = length-append e.modules (flat_map (λ (t : Target). t.modules) (map (target_of names) es)) in
    let b = length-append e.modules (modules_of es) in
    omega (arith, rest, a, b)

dependencies_count : (names : List (List ℕ)) (entries : List Entry)
    → length (flat_map (λ (t : Target). t.dependencies) (map (target_of names) entries)) ≡ length (dependencies_of entries)
dependencies_count names [] = refl
dependencies_count names (e ∷ es) =
    let rest = dependencies_count names es in
    let a = length-append (map (index_of names) e.dependencies) (flat_map (λ (t : Target). t.dependencies) (map (target_of names) es)) in
    let b = length-map e.dependencies (index_of names) in
    let c = length-append e.dependencies (dependencies_of es) in
    omega (arith, rest, a, b, c)

-- there are few of these
record AreFew (entries : List Entry) : Type 0 where
  targets : length entries ≤ 256
  modules : length (modules_of entries) ≤ 1024
  dependencies : length (dependencies_of entries) ≤ 1024

few_of : (entries : List Entry) → too_many entries ≡ None → AreFew entries
few_of entries e = go (ltb 256 (length entries)) refl (ltb 1024 (length (modules_of entries))) refl (ltb 1024 (length (dependencies_of entries))) refl e
  where
    go : (a : Bool) → ltb 256 (length entries) ≡ a → (b : Bool) → ltb 1024 (length (modules_of entries)) ≡ b → (c : Bool) → ltb 1024 (length (dependencies_of entries)) ≡ c
        → cond a (Some (codes "targets")) (cond b (Some (codes "modules")) (cond c (Some (codes "dependencies")) None)) ≡ None
        → AreFew entries
    go true p b q c r h = absurd (cc)
    go false p true q c r h = absurd (cc)
    go false p false q true r h = absurd (cc)
    go false p false q false r h = record {
      targets = ltb-false 256 (length entries) p;
      modules = ltb-false 1024 (length (modules_of entries)) q;
      dependencies = ltb-false 1024 (length (dependencies_of entries)) r;
    }

names_same : (keys : List (List ℕ)) (entries : List Entry) → names_of entries ≡ map (λ (t : Target). t.name) (map (target_of keys) entries)
names_same keys [] = refl
names_same keys (e ∷ es) = ap (λ (xs : List (List ℕ)). e.name ∷ xs) (names_same keys es)

-- ---- all together

pub sound_of : (held : Held) (listing : Listing) → IsListing held listing → IsSoundListing listing
unfolding pairs_of
sound_of held listing is =
    let entries = file_entries held in
    let keys = listing.names.keys in
    let targets = map (target_of keys) entries in
    let few = few_of entries is.few in
    let size : length targets ≡ length entries = length-map entries (target_of keys) in
    let names : length keys ≡ length entries = ap (λ (xs : List (List ℕ)). length xs) is.index.same ∙ length-map entries (λ (e : Entry). e.name) in
    let known = known_of keys entries is.resolved.known in
    subst (λ (ts : List Target). IsSoundOf keys ts) (sym is.resolved.each) (record {
      closed = All-map (λ (t : Target). All (λ index. index < length targets) t.dependencies) (target_of keys) entries
          (λ k d h. subst (λ n. All (λ index. index < n) (map (index_of keys) (get_or entries k d).dependencies)) (names ∙ sym size)
          (indices_within keys (get_or entries k d).dependencies (known k d h)));
      valid = valid_of keys entries (held_right held (λ kind name h. is.passed kind name (omega arith)));
      few = (let a = few.targets in omega arith);
      few_pairs = (let a = few.modules in let b = pairs_count keys 0 entries in omega arith);
      few_modules = (let a = few.modules in let b = modules_count keys entries in omega arith);
      few_dependencies = (let a = few.dependencies in let b = dependencies_count keys entries in omega arith);
      names = is.index.same ∙ names_same keys entries;
      distinct = subst (λ (xs : List (List ℕ)). AllPairs ◌≢◌ xs) (sym is.index.same) is.index.distinct;
    })

pub targets_same : (held : Held) (listing : Listing) → IsListing held listing → listing.targets.items ≡ file_targets held
targets_same held listing is = is.resolved.each ∙ ap (λ (keys : List (List ℕ)). map (target_of keys) (file_entries held)) is.index.same
