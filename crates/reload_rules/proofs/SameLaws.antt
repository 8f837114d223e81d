-- Two workspaces say the same of a target where all that they say is the same.
use Rattle.std.proofs.Common.{◌≡◌, ◌↔◌, ◌&&◌, ℕ, Bool, true, false, List, Option, None, Some, refl, ap, subst}
use Rattle.std.proofs.lemmas.Bool.{false≢true}
use Rattle.std.proofs.lemmas.Slice.Eq.{bytes_eq-Decides, slice_eq-Decides}
use Rattle.target_graph.specs.declared.target.Target.{Target}
use Rattle.target_graph.specs.declared.target.TargetKind.{TargetKind}
use Rattle.target_graph.specs.declared.target.TargetKind.TheVariants.{Library, Application, Test}
use Rattle.reload_rules.specs.Changes.{SaysSame, dependencies_of, same_kind, same_main, same_texts, says_same}

-- ---- kinds

kind_from : (a b : TargetKind) → same_kind a b ≡ true → a ≡ b
kind_from Library Library e = refl
kind_from Application Application e = refl
kind_from Test Test e = refl
kind_from Library Application e = absurd (false≢true e)
kind_from Library Test e = absurd (false≢true e)
kind_from Application Library e = absurd (false≢true e)
kind_from Application Test e = absurd (false≢true e)
kind_from Test Library e = absurd (false≢true e)
kind_from Test Application e = absurd (false≢true e)

kind_itself : (a : TargetKind) → same_kind a a ≡ true
kind_itself Library = refl
kind_itself Application = refl
kind_itself Test = refl

-- ---- texts

texts_from : (a b : List (List ℕ)) → same_texts a b ≡ true → a ≡ b
texts_from a b = (slice_eq-Decides bytes_eq-Decides a b (same_texts a b) refl).0

texts_to : (a b : List (List ℕ)) → a ≡ b → same_texts a b ≡ true
texts_to a b = (slice_eq-Decides bytes_eq-Decides a b (same_texts a b) refl).1

main_from : (a b : Option (List ℕ)) → same_main a b ≡ true → a ≡ b
main_from None None e = refl
main_from (Some a) (Some b) e = ap (λ x. Some x) ((bytes_eq-Decides a b).0 e)
main_from None (Some b) e = absurd (false≢true e)
main_from (Some a) None e = absurd (false≢true e)

main_itself : (a : Option (List ℕ)) → same_main a a ≡ true
main_itself None = refl
main_itself (Some a) = (bytes_eq-Decides a a).1 refl

-- ---- all of it

parts : (a b c d : Bool) → (a && b && c && d) ≡ true → (a ≡ true) × (b ≡ true) × (c ≡ true) × (d ≡ true)
parts true true true true e = (refl, refl, refl, refl)
parts true true true false e = absurd (false≢true e)
parts true true false d e = absurd (false≢true e)
parts true false c d e = absurd (false≢true e)
parts false b c d e = absurd (false≢true e)

whole : (a b c d : Bool) → a ≡ true → b ≡ true → c ≡ true → d ≡ true → (a && b && c && d) ≡ true
whole true true true true p q r s = refl
whole true true true false p q r s = s
whole true true false d p q r s = absurd (false≢true r)
whole true false c d p q r s = absurd (false≢true q)
whole false b c d p q r s = absurd (false≢true p)

same_is : (old : List Target) (a : Target) (new : List Target) (b : Target) → says_same old a new b ≡ true → SaysSame old a new b
same_is old a new b e =
    let p = parts (same_kind a.kind b.kind) (same_texts a.modules b.modules) (same_texts (dependencies_of old a) (dependencies_of new b)) (same_main a.main b.main) e in
    record {
      kind = kind_from a.kind b.kind p.0;
      modules = texts_from a.modules b.modules p.1;
      dependencies = texts_from (dependencies_of old a) (dependencies_of new b) p.2;
      main = main_from a.main b.main p.3;
    }

is_same : (old : List Target) (a : Target) (new : List Target) (b : Target) → SaysSame old a new b → says_same old a new b ≡ true
is_same old a new b s =
    whole (same_kind a.kind b.kind) (same_texts a.modules b.modules) (same_texts (dependencies_of old a) (dependencies_of new b)) (same_main a.main b.main)
    (subst (λ k. same_kind a.kind k ≡ true) s.kind (kind_itself a.kind)) (texts_to a.modules b.modules s.modules)
    (texts_to (dependencies_of old a) (dependencies_of new b) s.dependencies) (subst (λ m. same_main a.main m ≡ true) s.main (main_itself a.main))

pub decided : (old new : List Target) (a b : Target) → (says_same old a new b ≡ true) ↔ SaysSame old a new b
decided old new a b = (same_is old a new b, is_same old a new b)
