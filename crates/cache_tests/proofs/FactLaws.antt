-- The check of a module that imports one is a fact.
use Rattle.std.proofs.Common.{◌≡◌, ◌∙◌, ℕ, List, [], ◌∷◌, length, sym, ap, subst}
use Rattle.std.specs.List.{zip}
use Rattle.ob_text.specs.declared.held.Held.{Held}
use Rattle.oberon_module.specs.declared.check.Checked.{Checked}
use Rattle.oberon_rules.specs.Local.{Local, view_in}
use Rattle.oberon_types.specs.Entities.{ViewTree}
use Rattle.oberon_types.specs.Memory.{plain_view}
use Rattle.iface_key.specs.Keys.{KeyOf}
use Rattle.check_cache.specs.Facts.{IsFact, fact_of, names_of}

pub single : (held : Held) (stem : List ℕ) (imports : List (List ℕ × ℕ)) (keys : List (List ℕ)) (checked : Checked) (name key : List ℕ) (number : ℕ) (view : ViewTree)
    → imports ≡ (name, number) ∷ [] → keys ≡ key ∷ [] → KeyOf view key → checked.imports.items ≡ name ∷ []
    → Local held stem (view_in ((name, view) ∷ [])) checked.list.items checked.imports.items (plain_view checked.view)
    → IsFact (fact_of held stem imports keys checked)
single held stem imports keys checked name key number view one one_key of_view named found =
    record {
      views = view ∷ [];
      named = ap names_of one ∙ sym named;
      each = sym (ap (λ (is : List (List ℕ × ℕ)). length is) one);
      keyed = ap (λ (k : List ℕ). k ∷ []) (sym of_view) ∙ sym one_key;
      found =
          subst (λ (is : List (List ℕ × ℕ)). Local held stem (view_in (zip (names_of is) (view ∷ []))) checked.list.items checked.imports.items (plain_view checked.view)) (sym one) found;
    }
