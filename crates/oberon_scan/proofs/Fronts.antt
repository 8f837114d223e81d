-- The symbol that is found at the front of a text is the longest one there.
use Rattle.std.proofs.Common.{◌≡◌, ℕ, ◌<◌, ◌≤◌, true, false, eqb, ◌&&◌, List, [], ◌∷◌, ◌++◌, length, get_or, drop, Option, None, Some, refl, sym, ap, subst, ◌∙◌, arith}
use Rattle.std.specs.Prelude.{nat_eq, ◌==◌}
use Rattle.std.specs.Option.{option_or}
use Rattle.std.specs.List.{starts_with}
use Rattle.std.proofs.lemmas.Bool.{eqb-true, and_parts, false≢true}
use Rattle.oberon_scan.specs.declared.token.Symbol.{Symbol}
use Rattle.oberon_scan.specs.Runs.{HasFirst}
use Rattle.oberon_scan.specs.Spelling.{symbol_text}
use Rattle.oberon_scan.specs.Finding.{pair_symbol, single_symbol, symbol_at}
use Rattle.oberon_scan.proofs.Spelled.{Spelled, single_found, pair_found, no_pair_at_end, either}

abbrev StandsFirst : List ℕ → Symbol → Type 0
StandsFirst text s = text ≡ symbol_text s ++ drop (length (symbol_text s)) text

stands : (text spelling : List ℕ) (s : Symbol) → symbol_text s ≡ spelling → text ≡ spelling ++ drop (length spelling) text → StandsFirst text s
stands text spelling s e h = subst (λ xs. text ≡ xs ++ drop (length xs) text) (sym e) h

pub found_first : (text : List ℕ) (s : Symbol) → 0 < length text → symbol_at text ≡ Some s → StandsFirst text s
found_first [] s h e = absurd (omega arith)
found_first (a ∷ []) s h e =
    let text : List ℕ = a ∷ [] in
    either (pair_symbol a 0) (single_symbol a) (StandsFirst text s) e
    (λ f. absurd (no_pair_at_end a s f)) (λ f. stands text (a ∷ []) s (single_found a s f) refl)
found_first (a ∷ b ∷ rest) s h e =
    let text : List ℕ = a ∷ b ∷ rest in
    either (pair_symbol a b) (single_symbol a) (StandsFirst text s) e
    (λ f. stands text (a ∷ b ∷ []) s (pair_found a b s f) refl) (λ f. stands text (a ∷ []) s (single_found a s f) refl)

pub symbol_some : (s : Symbol) → Spelled s → 1 ≤ length (symbol_text s)
symbol_some s (Spelled.alone a _ e _) = omega (arith, ap length e)
symbol_some s (Spelled.paired a b _ _ _ e _ _) = omega (arith, ap length e)

-- where both bytes of a symbol stand first, it is the one that is found
pair_first : (text : List ℕ) (a b : ℕ) (s t : Symbol) → pair_symbol a b ≡ Some t → symbol_at text ≡ Some s → starts_with nat_eq text (a ∷ b ∷ []) ≡ true → s ≡ t
pair_first [] a b s t f e h = absurd (false≢true h)
pair_first (x ∷ []) a b s t f e h = absurd (false≢true (and_parts (eqb a x) false h).1)
pair_first (x ∷ y ∷ rest) a b s t f e h =
    let p = and_parts (eqb a x) (eqb b y && true) h in
    let q = and_parts (eqb b y) true p.1 in
    let same : pair_symbol x y ≡ Some t = ap (λ n. pair_symbol n y) (sym (eqb-true a x p.0)) ∙ (ap (λ n. pair_symbol a n) (sym (eqb-true b y q.0)) ∙ f) in
    let g : option_or (Some t) (single_symbol x) ≡ Some s = sym (ap (λ o. option_or o (single_symbol x)) same) ∙ e in
    cc

pub longest_first : (text : List ℕ) (s t : Symbol) → symbol_at text ≡ Some s → Spelled s → Spelled t → starts_with nat_eq text (symbol_text t) ≡ true → length (symbol_text t) ≤ length (symbol_text s)
longest_first text s t e p (Spelled.alone a _ f _) h = omega (arith, ap length f, symbol_some s p)
longest_first text s t e p (Spelled.paired a b _ _ _ f g _) h =
    let starts : starts_with nat_eq text (a ∷ b ∷ []) ≡ true = ap (starts_with nat_eq text) (sym f) ∙ h in
    omega (arith, ap (λ x. length (symbol_text x)) (pair_first text a b s t g e starts))

nothing_alone : (pair single : Option Symbol) → option_or pair single ≡ None → single ≡ None
nothing_alone None single e = e
nothing_alone (Some s) single e = absurd (no_none e)
  where
    no_none : ◌≡◌ {A = Option Symbol} (Some s) None → ⊥
    no_none e = cc

-- where none is found, no symbol alone has the first byte
alone_missing : (text rest : List ℕ) (c : ℕ) → symbol_at text ≡ None → text ≡ c ∷ rest → single_symbol c ≡ None
alone_missing text rest c e f =
    ap (λ xs. single_symbol (get_or xs 0 0)) (sym f) ∙ nothing_alone (pair_symbol (get_or text 0 0) (get_or text 1 0)) (single_symbol (get_or text 0 0)) e

not_both : (o : Option Symbol) (s : Symbol) → o ≡ None → o ≡ Some s → ⊥
not_both o s e f = cc

-- the first byte of a symbol
first_is : (c a : ℕ) (rest text : List ℕ) → text ≡ a ∷ rest → HasFirst (λ b. b == c) text → a ≡ c
first_is c a rest text e h = eqb-true a c (subst (HasFirst (λ b. b == c)) e h)

-- where none is found, none begins with the first byte
pub none_first : (text rest : List ℕ) (c : ℕ) (s : Symbol) → symbol_at text ≡ None → text ≡ c ∷ rest → Spelled s → HasFirst (λ b. b == c) (symbol_text s) → ⊥
none_first text rest c s e f (Spelled.alone a _ g k) h =
    not_both (single_symbol c) s (alone_missing text rest c e f) (ap single_symbol (sym (first_is c a [] (symbol_text s) g h)) ∙ k)
none_first text rest c s e f (Spelled.paired a b other _ _ g _ k) h =
    not_both (single_symbol c) other (alone_missing text rest c e f) (ap single_symbol (sym (first_is c a (b ∷ []) (symbol_text s) g h)) ∙ k)

-- no symbol begins with a byte beyond ASCII
pub none_beyond : (c : ℕ) (s : Symbol) → 128 ≤ c → Spelled s → HasFirst (λ b. b == c) (symbol_text s) → ⊥
none_beyond c s h (Spelled.alone a low g _) b =
    let same = first_is c a [] (symbol_text s) g b in
    omega arith
none_beyond c s h (Spelled.paired a x _ low _ g _ _) b =
    let same = first_is c a (x ∷ []) (symbol_text s) g b in
    omega arith
