-- What stands at the key of a module is what a look finds for it.
use Rattle.std.proofs.Common.{◌≡◌, ℕ, List, Option, None, Some, sym, ap, subst, ◌∙◌}
use Rattle.std.specs.Prelude.{IfNone, IfSome}
use Rattle.std.specs.List.{slice_get}
use Rattle.std.proofs.lemmas.Option.{same_Some}
use Rattle.ob_text.specs.declared.held.Held.{Held}
use Rattle.check_cache.specs.Facts.{FactTree}
use Rattle.check_cache.specs.Pairs.{key_of}
use Rattle.check_cache.specs.Places.{Chosen, Lacks, first_at, other_at}
use Rattle.check_cache.specs.Wanted.{IsOf}
use Rattle.check_cache.specs.declared.cache.Cache.{Cache}
use Rattle.check_cache.specs.declared.pair.PairKey.{PairKey}
use Rattle.target_graph.specs.Workspace.{pairs_of}
use Rattle.target_graph.specs.declared.target.Pair.{Pair}
use Rattle.build_rules.specs.World.{World, held_in}
use Rattle.build_checks.specs.Looked.{IsFound, IsKeyIn, IsLacked}

pub some_weaker : {X : Type 0} (o : Option X) (P Q : X → Type 0) → ((x : X) → P x → Q x) → IfSome o P → IfSome o Q
some_weaker None P Q weaker all = all
some_weaker (Some x) P Q weaker all = weaker x all

pub none_both : {X : Type 0} (o : Option X) (P Q R : Type 0) → (P → Q → R) → IfNone o P → IfNone o Q → IfNone o R
none_both None P Q R both first other = both first other
none_both (Some x) P Q R both first other = first

module _ (cache : Cache) (w : World) (p : ℕ) (imports : List (List ℕ × ℕ)) (key : PairKey) (is : IsKeyIn w p key) (held : Held) (held_is : held ≡ held_in w p) where
  one_key : (pair : Pair) → slice_get (pairs_of w.targets) p ≡ Some pair → key ≡ key_of w.targets pair
  one_key pair there = is.is ∙ ap (key_of w.targets) (same_Some is.pair pair (sym is.there ∙ there))

  pub found_here : (fact : FactTree) → Chosen (IsOf held imports) (first_at cache key) (other_at cache key) fact → IsFound cache w p imports fact
  found_here fact chosen pair there =
      subst (λ (k : PairKey). Chosen (IsOf (held_in w p) imports) (first_at cache k) (other_at cache k) fact) (one_key pair there)
      (subst (λ (h : Held). Chosen (IsOf h imports) (first_at cache key) (other_at cache key) fact) held_is chosen)

  pub lacked_here : Lacks (IsOf held imports) (first_at cache key) → Lacks (IsOf held imports) (other_at cache key) → IsLacked cache w p imports
  lacked_here first other = record {
    first = λ pair there.
        subst (λ (k : PairKey). Lacks (IsOf (held_in w p) imports) (first_at cache k)) (one_key pair there)
        (subst (λ (h : Held). Lacks (IsOf h imports) (first_at cache key)) held_is first);
    other = λ pair there.
        subst (λ (k : PairKey). Lacks (IsOf (held_in w p) imports) (other_at cache k)) (one_key pair there)
        (subst (λ (h : Held). Lacks (IsOf h imports) (other_at cache key)) held_is other);
  }
