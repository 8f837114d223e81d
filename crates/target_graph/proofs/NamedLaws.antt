-- The target that an address names.
use Rattle.std.proofs.Common.{◌≡◌, ◌≢◌, ◌≤◌, ℕ, ◌<◌, Bool, true, false, cond, ltb, List, [], length, get_or, Option, Some, None, IfSome, IfNone, ap, sym, ◌∙◌, refl, arith}
use Rattle.std.specs.List.{position_or_len}
use Rattle.std.specs.Str.{bytes_eq}
use Rattle.std.proofs.lemmas.Bool.{false≢true}
use Rattle.std.proofs.lemmas.Bool.Decides.{nat_tests}
use Rattle.std.proofs.lemmas.List.{get_or-map}
use Rattle.std.proofs.lemmas.List.Sums.{passes_at_first, fails_before_first}
use Rattle.std.proofs.lemmas.Slice.Eq.{bytes_eq-Decides}
use Rattle.target_graph.specs.declared.target.Target.{Target}
use Rattle.target_graph.specs.declared.target.TargetKind.TheVariants.{Library}
use Rattle.target_graph.specs.Address.{target_address}
use Rattle.target_graph.specs.Workspace.{Space, id_of, with_id}

nobody : Target
nobody = record { name = []; kind = Library; modules = []; dependencies = []; main = None }

module _ (space : Space) (text : List ℕ) where
  abbrev has_id : Target → Bool
  has_id target = bytes_eq text (target_address space.root target.name)

  abbrev first : ℕ
  first = position_or_len has_id space.targets

  id_here : (t : ℕ) (d : Target) → t < length space.targets → target_address space.root (get_or space.targets t d).name ≡ id_of space t
  id_here t d h = ap (target_address space.root) (sym (get_or-map (λ (x : Target). x.name) space.targets t d [] h))

  module _ (o : Option ℕ) (some : IfSome o (λ t. (t < length space.targets) × (id_of space t ≡ text)))
      (none : IfNone o ((t : ℕ) → t < length space.targets → id_of space t ≢ text)) (one : (t : ℕ) → t < length space.targets → id_of space t ≡ text → o ≡ Some t) where
    there : first < length space.targets → o ≡ Some first
    there h = one first h (sym (id_here first nobody h) ∙ sym ((bytes_eq-Decides text _).0 (passes_at_first has_id space.targets nobody h)))

    nowhere : length space.targets ≤ first → (p : Option ℕ) → IfSome p (λ t. (t < length space.targets) × (id_of space t ≡ text)) → p ≡ None
    nowhere h None is = refl
    nowhere h (Some t) is =
        let fails = fails_before_first has_id space.targets t nobody (omega (arith, h, is.0)) in
        let passes : has_id (get_or space.targets t nobody) ≡ true = (bytes_eq-Decides text _).1 (sym is.1 ∙ sym (id_here t nobody is.0)) in
        absurd (false≢true (sym fails ∙ passes))

    by_index : (b : Bool) → ltb first (length space.targets) ≡ b → o ≡ cond b (Some first) None
    by_index true is = there (grind (arith, nat_tests))
    by_index false is = nowhere (grind (arith, nat_tests)) o some

    pub placed : o ≡ with_id space text
    placed = by_index (ltb first (length space.targets)) refl
