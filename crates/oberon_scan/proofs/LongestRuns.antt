-- A text has just one longest run of bytes of a class.
use Rattle.std.proofs.Common.{◌≡◌, ℕ, ◌<◌, Bool, true, false, List, [], ◌∷◌, ◌++◌, length, get_or, refl, sym, ap, subst, ◌∙◌, arith}
use Rattle.std.specs.List.{list_all}
use Rattle.std.proofs.lemmas.Bool.{and_parts, true≢false}
use Rattle.oberon_scan.specs.Runs.{HasFirst, LacksFirst, IsRun}

-- a rest that begins with a byte that passes doesn't end the run
runs_on : (test : ℕ → Bool) (rest more : List ℕ) (byte : ℕ) → rest ≡ byte ∷ more → test byte ≡ true → LacksFirst test rest → ⊥
runs_on test rest more byte e passes ends =
    let fails : test byte ≡ false = subst (LacksFirst test) e ends in
    true≢false (sym passes ∙ fails)

same_runs : (test : ℕ → Bool) (a c b d : List ℕ) → a ++ b ≡ c ++ d → list_all test a ≡ true → list_all test c ≡ true → LacksFirst test b → LacksFirst test d → (a ≡ c) × (b ≡ d)
same_runs test [] [] b d e p q x y = (refl, e)
same_runs test [] (n ∷ c) b d e p q x y = absurd (runs_on test b (c ++ d) n e (and_parts (test n) (list_all test c) q).0 x)
same_runs test (m ∷ a) [] b d e p q x y = absurd (runs_on test d (a ++ b) m (sym e) (and_parts (test m) (list_all test a) p).0 y)
same_runs test (m ∷ a) (n ∷ c) b d e p q x y =
    let heads : m ≡ n = cc in
    let tails : a ++ b ≡ c ++ d = cc in
    let rest = same_runs test a c b d tails (and_parts (test m) (list_all test a) p).1 (and_parts (test n) (list_all test c) q).1 x y in
    (ap (λ k. k ∷ a) heads ∙ ap (λ xs. n ∷ xs) rest.0, rest.1)

pub run_is : (test : ℕ → Bool) (text a b c d : List ℕ) → IsRun test text a b → IsRun test text c d → (a ≡ c) × (b ≡ d)
run_is test text a b c d r s = same_runs test a c b d (sym r.whole ∙ s.whole) r.each s.each r.longest s.longest

-- a text that isn't empty begins with its first byte
pub begins_so : (test : ℕ → Bool) (text : List ℕ) → 0 < length text → test (get_or text 0 0) ≡ true → HasFirst test text
begins_so test [] h e = absurd (omega arith)
begins_so test (byte ∷ rest) h e = e
