-- Tests that decide whether parts are the same, and so whether the whole is.
use Rattle.std.proofs.Common.{◌≡◌, ◌∙◌, ℕ, Bool, true, false, List, refl, sym, ap}
use Rattle.std.specs.Prelude.{◌↔◌, ◌&&◌, IsTrue}
use Rattle.ob_text.specs.declared.held.Held.{Held}
use Rattle.check_cache.specs.Facts.{FactTree}
use Rattle.check_cache.specs.Wanted.{IsOf}

differs : false ≡ true → ⊥
differs f = cc

parts_same : (x y : List ℕ × ℕ) → x.0 ≡ y.0 → x.1 ≡ y.1 → x ≡ y
parts_same x y name number = rw (name, number) refl

pub decides_import : (a b : Bool) (x y : List ℕ × ℕ) → IsTrue a ↔ (x.0 ≡ y.0) → IsTrue b ↔ (x.1 ≡ y.1) → IsTrue (a && b) ↔ (x ≡ y)
decides_import true true x y name number = (λ _. parts_same x y (name.0 refl) (number.0 refl), λ h. refl)
decides_import false b x y name number = (λ (f : false ≡ true). absurd (cc), λ h. absurd (differs (name.1 (ap (λ (p : List ℕ × ℕ). p.0) h))))
decides_import true false x y name number = (λ (f : false ≡ true). absurd (cc), λ h. absurd (differs (number.1 (ap (λ (p : List ℕ × ℕ). p.1) h))))

-- a fact is of this text and these imports
pub decides_fact : (a b : Bool) (fact : FactTree) (held own : Held) (imports own_imports : List (List ℕ × ℕ)) → own ≡ fact.held → own_imports ≡ fact.imports
    → IsTrue a ↔ (own ≡ held) → IsTrue b ↔ (own_imports ≡ imports) → IsTrue (a && b) ↔ IsOf held imports fact
decides_fact true true fact held own imports own_imports is are text numbers =
    (λ _. record { text = sym is ∙ text.0 refl; numbers = sym are ∙ numbers.0 refl }, λ h. refl)
decides_fact false b fact held own imports own_imports is are text numbers =
    (λ (f : false ≡ true). absurd (cc), λ h. absurd (differs (text.1 (is ∙ h.text))))
decides_fact true false fact held own imports own_imports is are text numbers =
    (λ (f : false ≡ true). absurd (cc), λ h. absurd (differs (numbers.1 (are ∙ h.numbers))))
