-- Rows in their order are diagnostics in theirs.
use Rattle.std.proofs.Common.{◌≡◌, ◌<◌, ℕ, Bool, true, false, ◌&&◌, ◌||◌, ◌==◌, nat_lt, IsTrue, List, [], ◌∷◌, Option, Some, None, refl, sym, ◌∙◌, ap, subst, eq-eqb}
use Rattle.std.specs.Borrow.{Bor}
use Rattle.std.specs.Cmp.{IsTotalOrder}
use Rattle.std.specs.Cmp.Lexicographic.{slice_cmp, options_total, on_texts}
use Rattle.std.specs.Option.{option_cmp, option_copied}
use Rattle.std.specs.Ordering.{nat_cmp, ordering_then, is_eq, eq_by_cmp}
use Rattle.std.specs.declared.cmp.Ordering.{Ordering}
use Rattle.std.specs.declared.cmp.Ordering.TheVariants.{Less, Equal, Greater}
use Rattle.std.proofs.lemmas.Bool.{lt-ltb}
use Rattle.std.proofs.lemmas.Map.Lookups.{exact_unsigned, exact_bytes}
use Rattle.std.proofs.lemmas.Cmp.{ranked, by_ranked, nat_cmp_total, on_total, then_total}
use Rattle.oberon_rules.specs.Order.{name_before, name_option_before, number_of, less_or, before}
use Rattle.oberon_module.specs.declared.listing.Row.{Row}
use Rattle.oberon_module.specs.Numbers.{code_numbered}
use Rattle.oberon_module.specs.Rows.{plain_row, diagnostic_of}

-- the order that the rows have as a struct
abbrev pub row_cmp : Row → Row → Ordering
row_cmp x y = ordering_then (nat_cmp x.start y.start) (ordering_then (nat_cmp x.end y.end) (ordering_then (nat_cmp x.number y.number) (option_cmp (λ (a b : Bor (List ℕ)). slice_cmp nat_cmp a.now b.now) x.name y.name)))

pub row_total : IsTotalOrder row_cmp
row_total =
    then_total (on_total (λ (r : Row). r.start) nat_cmp_total)
    (then_total (on_total (λ (r : Row). r.end) nat_cmp_total)
    (then_total (on_total (λ (r : Row). r.number) nat_cmp_total)
    (on_total (λ (r : Row). r.name) (options_total (on_texts (λ (a : Bor (List ℕ)). a.now))))))

or_true : (b : Bool) → (b || true) ≡ true
or_true true = refl
or_true false = refl

less_or_by : (a b : ℕ) (o : Ordering) (p : Bool) → (o ≡ Less → IsTrue p) → ordering_then (nat_cmp a b) o ≡ Less → IsTrue (less_or a b p)
less_or_by a b o p f h =
    by_ranked (a < b) (a ≡ b) (b < a) (nat_cmp a b) (ranked a b (nat_cmp a b) refl)
    (λ e l. ap (λ c. c || (a == b && p)) (lt-ltb a b l))
    (λ e same. ap (λ c. nat_lt a b || (c && p)) (eq-eqb a b same) ∙ ap (λ c. nat_lt a b || c) (f (sym (ap (λ c. ordering_then c o) e) ∙ h)) ∙ or_true (nat_lt a b))
    (λ e more. greater (sym (ap (λ c. ordering_then c o) e) ∙ h))
  where
    greater : Greater ≡ Less → IsTrue (less_or a b p)
    greater k = absurd cc

name_less : (a b : List ℕ) → slice_cmp nat_cmp a b ≡ Less → IsTrue (name_before a b)
name_less [] [] h = absurd cc
name_less [] (y ∷ b) h = refl
name_less (x ∷ a) [] h = absurd cc
name_less (x ∷ a) (y ∷ b) h = less_or_by x y (slice_cmp nat_cmp a b) (name_before a b) (name_less a b) h

option_less : (a b : Option (Bor (List ℕ))) → option_cmp (λ (a b : Bor (List ℕ)). slice_cmp nat_cmp a.now b.now) a b ≡ Less → IsTrue (name_option_before (option_copied a) (option_copied b))
option_less None None h = absurd cc
option_less None (Some b) h = refl
option_less (Some a) None h = absurd cc
option_less (Some a) (Some b) h = name_less a.now b.now h

-- its number is a code's
abbrev pub IsNumbered : Row → Type 0
IsNumbered r = number_of (code_numbered r.number) ≡ r.number

pub row_less : (text : List ℕ) (x y : Row) → IsNumbered x → IsNumbered y → row_cmp x y ≡ Less → IsTrue (before (diagnostic_of text (plain_row x)) (diagnostic_of text (plain_row y)))
row_less text x y numbered other h =
    less_or_by x.start y.start _ _
    (λ f. less_or_by x.end y.end _ _
    (λ g. subst (λ n. IsTrue (less_or n (number_of (code_numbered y.number)) (name_option_before (option_copied x.name) (option_copied y.name)))) (sym numbered)
    (subst (λ n. IsTrue (less_or x.number n (name_option_before (option_copied x.name) (option_copied y.name)))) (sym other)
    (less_or_by x.number y.number _ _ (option_less x.name y.name) g))) f) h

-- ---- rows that are equal

is_equal : (o : Ordering) → is_eq o ≡ true → o ≡ Equal
is_equal Less h = absurd cc
is_equal Equal h = refl
is_equal Greater h = absurd cc

then_equal : (o p : Ordering) → ordering_then o p ≡ Equal → (o ≡ Equal) × (p ≡ Equal)
then_equal Less p h = absurd cc
then_equal Equal p h = (refl, h)
then_equal Greater p h = absurd cc

option_same : (a b : Option (Bor (List ℕ))) → option_cmp (λ (a b : Bor (List ℕ)). slice_cmp nat_cmp a.now b.now) a b ≡ Equal → option_copied a ≡ option_copied b
option_same None None h = refl
option_same None (Some b) h = absurd cc
option_same (Some a) None h = absurd cc
option_same (Some a) (Some b) h = ap Some (exact_bytes a.now b.now h)

pub row_same : (x y : Row) → eq_by_cmp row_cmp x y ≡ true → plain_row x ≡ plain_row y
row_same x y h =
    let a = then_equal (nat_cmp x.start y.start) _ (is_equal (row_cmp x y) h) in
    let b = then_equal (nat_cmp x.end y.end) _ a.1 in
    let n = then_equal (nat_cmp x.number y.number) _ b.1 in
    let start = exact_unsigned x.start y.start a.0 in
    let end = exact_unsigned x.end y.end b.0 in
    let number = exact_unsigned x.number y.number n.0 in
    let name = option_same x.name y.name n.1 in
    λ i. record { start = start i; end = end i; number = number i; name = name i }
