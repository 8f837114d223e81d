-- An object that a member was taken out of keeps the others.
use Rattle.std.proofs.Common.{◌≡◌, ◌==◌, ℕ, List, [], ◌∷◌, Bool, true, false, cond, Some, string_bytes, nat_cmp, is_eq, refl, sym, ap, ◌∙◌}
use Rattle.std.proofs.lemmas.Map.Text.{is_eq-slice_cmp}
use Rattle.std.specs.BTreeMap.{is_at}
use Rattle.std.specs.Cmp.Lexicographic.{pointwise, slice_cmp, same_text, other_text}
use Rattle.std.specs.Map.{remove_entry}
use Rattle.std.specs.Ordering.{match_ordering}
use Rattle.serde_json.proofs.Views.{Entry, member_later}
use Rattle.serde_json.specs.Find.{get_member}
use Rattle.serde_json.specs.View.{view, members_view}

-- without the first member of this name
abbrev without_name : List ℕ → List Entry → List Entry
without_name name es = remove_entry (is_at (λ k. slice_cmp nat_cmp name (string_bytes k))) es

past_first : (b : Bool) (name other : List ℕ) (e : Entry) (es rest : List Entry) → is_eq (slice_cmp nat_cmp name (string_bytes e.0)) ≡ b → pointwise ◌==◌ other name ≡ false
    → get_member other (members_view rest) ≡ get_member other (members_view es) → get_member other (members_view (cond b es (e ∷ rest))) ≡ get_member other (members_view (e ∷ es))
past_first true name other e es rest here apart same =
    let named : name ≡ string_bytes e.0 = same_text name (string_bytes e.0) (sym (sym (is_eq-slice_cmp name (string_bytes e.0)) ∙ here)) in
    sym (member_later other e es (λ (h : other ≡ string_bytes e.0). other_text other name (sym apart) (h ∙ sym named)))
past_first false name other e es rest here apart same =
    ap (λ r. match_ordering (slice_cmp nat_cmp other (string_bytes e.0)) r (Some (view e.1)) r) same

pub others_stay : (name other : List ℕ) (es : List Entry) → pointwise ◌==◌ other name ≡ false → get_member other (members_view (without_name name es)) ≡ get_member other (members_view es)
others_stay name other [] apart = refl
others_stay name other (e ∷ es) apart = past_first _ name other e es _ refl apart (others_stay name other es apart)
