-- What is read back from its tokens in one way, and that so are lists and parts that may be missing.
use Rattle.std.specs.Prelude.{◌≡◌, ℕ, ◌<◌, ◌≤◌, Bool, true, false, List, [], ◌∷◌, Some, None, refl}
use Rattle.std.proofs.Common.{sym, ◌∙◌, ap, arith}
use Rattle.oberon_scan.specs.declared.token.Token.{Token}
use Rattle.oberon_scan.specs.declared.token.TokenKind.{TokenKind}
use Rattle.oberon_tree.specs.Print.{print_each, print_some}
use Rattle.oberon_productions.specs.Tests.{next_is}
use Rattle.oberon_productions.proofs.Follows.{next_reach, next_stage}
use Rattle.oberon_productions.proofs.Found.{no}

-- Before a rest that ends them, two trees that print the same tokens are the same tree before the same rest.
abbrev pub One : {A : Type 0} → (A → List Token → List Token) → (List Token → Type 0) → Type 0
One {A} print Ends = (a b : A) (r s : List Token) → Ends r → Ends s → print a r ≡ print b s → (a ≡ b) × (r ≡ s)

-- ---- what may follow

-- a token that goes on inside fewer constructs, or none
abbrev pub Under : ℕ → List Token → Type 0
Under n ts = next_reach ts < n

-- a token that begins a later part of the module, or none
abbrev pub Before : ℕ → List Token → Type 0
Before n ts = next_stage ts < n

-- a token of which the test fails, or none
abbrev pub Lacks : (TokenKind → Bool) → List Token → Type 0
Lacks test ts = next_is test ts ≡ false

-- whatever there is
abbrev pub Any : List Token → Type 0
Any ts = Unit {0}

-- ---- what does not follow

pub reaches : (n : ℕ) (r q : List Token) → n ≤ next_reach q → Under n r → ¬ (r ≡ q)
reaches n r q l h e = let same : next_reach r ≡ next_reach q = ap next_reach e in omega (arith, same)

pub stages : (n : ℕ) (r q : List Token) → n ≤ next_stage q → Before n r → ¬ (r ≡ q)
stages n r q l h e = let same : next_stage r ≡ next_stage q = ap next_stage e in omega (arith, same)

pub begins : (test : TokenKind → Bool) (r q : List Token) → next_is test q ≡ true → Lacks test r → ¬ (r ≡ q)
begins test r q t f e = no (sym t ∙ ap (next_is test) (sym e) ∙ f)

-- ---- the first token of a list, and what follows it

abbrev first_or : Token → List Token → Token
first_or d [] = d
first_or d (t ∷ ts) = t

abbrev behind : List Token → List Token
behind [] = []
behind (t ∷ ts) = ts

pub head_one : {t v : Token} {u w : List Token} → t ∷ u ≡ v ∷ w → t ≡ v
head_one {t} e = ap (first_or t) e

pub rest_one : {t v : Token} {u w : List Token} → t ∷ u ≡ v ∷ w → u ≡ w
rest_one e = ap behind e

pub span_one : {t v : Token} {u w : List Token} → t ∷ u ≡ v ∷ w → t.span ≡ v.span
span_one {t} e = ap (λ ts. (first_or t ts).span) e

-- ---- lists, and parts that may be missing

pub each_one : {A : Type 0} (print : A → List Token → List Token) (Item Ends : List Token → Type 0) → One print Item → ((xs : List A) (r : List Token) → Ends r → Item (print_each print xs r)) → ((x : A) (q r : List Token) → Ends r → ¬ (r ≡ print x q)) → One (print_each print) Ends
each_one print Item Ends one next ends [] [] r s h k e = (refl, e)
each_one print Item Ends one next ends [] (y ∷ ys) r s h k e = absurd (ends y (print_each print ys s) r h e)
each_one print Item Ends one next ends (x ∷ xs) [] r s h k e = absurd (ends x (print_each print xs r) s k (sym e))
each_one print Item Ends one next ends (x ∷ xs) (y ∷ ys) r s h k e =
    let p = one x y (print_each print xs r) (print_each print ys s) (next xs r h) (next ys s k) e in
    let q = each_one print Item Ends one next ends xs ys r s h k p.1 in
    (λ i. p.0 i ∷ q.0 i, q.1)

pub some_one : {A : Type 0} (print : A → List Token → List Token) (Item Ends : List Token → Type 0) → One print Item → ((r : List Token) → Ends r → Item r) → ((x : A) (q r : List Token) → Ends r → ¬ (r ≡ print x q)) → One (print_some print) Ends
some_one print Item Ends one next ends None None r s h k e = (refl, e)
some_one print Item Ends one next ends None (Some y) r s h k e = absurd (ends y s r h e)
some_one print Item Ends one next ends (Some x) None r s h k e = absurd (ends x r s k (sym e))
some_one print Item Ends one next ends (Some x) (Some y) r s h k e =
    let p = one x y r s (next r h) (next s k) e in
    (λ i. Some (p.0 i), p.1)
