-- Lists of the parts of declarations with one more at their end, and moves of the machine at them.
use Rattle.std.specs.Prelude.{◌≡◌, ℕ, suc, max, map, List, [], ◌∷◌, ◌++◌, refl}
use Rattle.std.proofs.Common.{sym, ◌∙◌, ap, subst, arith}
use Rattle.oberon_scan.specs.declared.token.Token.{Token}
use Rattle.oberon_tree.specs.Print.{print_each}
use Rattle.oberon_tree.specs.Levels.{depth_of_each}
use Rattle.oberon_productions.specs.declared.stop.Stop.{Stop}
use Rattle.oberon_productions.specs.Expected.{Expected}
use Rattle.oberon_productions.specs.Machine.{stops}
use Rattle.oberon_productions.specs.Reading.{ReadsSome, StopsAt}

pub mapped_push : {A B : Type 0} (print : B → List Token → List Token) (tree : A → B) (xs : List A) (x : A) (rest : List Token) → print_each print (map tree (xs ++ x ∷ [])) rest ≡ print_each print (map tree xs) (print (tree x) rest)
mapped_push print tree [] x rest = refl
mapped_push print tree (y ∷ ys) x rest = ap (print (tree y)) (mapped_push print tree ys x rest)

pub mapped_depth : {A B : Type 0} (depth : B → ℕ) (tree : A → B) (xs : List A) (x : A) → depth_of_each depth (map tree (xs ++ x ∷ [])) ≡ max (depth_of_each depth (map tree xs)) (depth (tree x))
mapped_depth depth tree [] x = omega arith
mapped_depth depth tree (y ∷ ys) x = omega (arith, mapped_depth depth tree ys x)

-- what was read one level further in
pub at_level : (part : ℕ → Expected) (d e : ℕ) → d ≡ suc e → {given : List Token} {print : List Token → List Token} {depth : ℕ} {rest : List Token} → ReadsSome (part (suc e)) (suc e) given print depth rest → ReadsSome (part d) d given print depth rest
at_level part d e z {given} {print} {depth} {rest} q = subst (λ n. ReadsSome (part n) n given print depth rest) (sym z) q

pub via_level : (part : ℕ → Expected) (d e : ℕ) (mid given : List Token) (x : Stop) → d ≡ suc e → ((s : List Expected) → stops (part d ∷ s) given ≡ stops (part d ∷ s) mid) → StopsAt (part (suc e) ∷ []) mid x → StopsAt (part d ∷ []) given x
via_level part d e mid given x z h q =
    let r : StopsAt (part d ∷ []) mid x = subst (λ n. StopsAt (part n ∷ []) mid x) (sym z) q in
    record { there = λ n f s. h s ∙ r.there n f s }
