-- One step of the machine, by what its top does with the next token.
use Rattle.std.specs.Prelude.{◌≡◌, ℕ, suc, Bool, true, false, cond, List, [], ◌∷◌, ◌++◌, length, Option, Some, None, refl}
use Rattle.std.proofs.Common.{◌∙◌, ap}
use Rattle.oberon_scan.specs.declared.token.Token.{Token}
use Rattle.oberon_scan.specs.declared.token.TokenKind.{TokenKind}
use Rattle.oberon_scan.specs.declared.token.Word.TheVariants as words
use Rattle.oberon_scan.specs.declared.token.Symbol.TheVariants as symbols
use Rattle.oberon_productions.specs.Expected.{Expected}
use Rattle.oberon_productions.specs.Expected as want
use Rattle.oberon_productions.specs.Tests.{is_word, is_symbol, is_ident, is_literal, next_is}
use Rattle.oberon_productions.specs.Machine.{Move, takes, passes, refuses, allows, needs, move, may_miss, feed, may_end, stops}

pub taken : (x : Expected) (xs s : List Expected) (t : Token) (ts : List Token) → move x t.kind ≡ takes xs → stops (x ∷ s) (t ∷ ts) ≡ stops (xs ++ s) ts
unfolding stops feed
taken x xs s t ts e =
    let feeds : Move → Option (List Expected) = λ m. elim m [ takes ys ↦ Some (ys ++ s) | passes ↦ feed s t.kind | refuses ↦ None ] in
    let goes : Option (List Expected) → Option ℕ = λ o. elim o [ None ↦ Some (suc (length ts)) | Some next ↦ stops next ts ] in
    ap (λ m. goes (feeds m)) e

pub passed : (x : Expected) (s : List Expected) (t : Token) (ts : List Token) → move x t.kind ≡ passes → stops (x ∷ s) (t ∷ ts) ≡ stops s (t ∷ ts)
unfolding stops feed
passed x s t ts e =
    let feeds : Move → Option (List Expected) = λ m. elim m [ takes ys ↦ Some (ys ++ s) | passes ↦ feed s t.kind | refuses ↦ None ] in
    let goes : Option (List Expected) → Option ℕ = λ o. elim o [ None ↦ Some (suc (length ts)) | Some next ↦ stops next ts ] in
    ap (λ m. goes (feeds m)) e

pub refused : (x : Expected) (s : List Expected) (t : Token) (ts : List Token) → move x t.kind ≡ refuses → stops (x ∷ s) (t ∷ ts) ≡ Some (suc (length ts))
unfolding stops feed
refused x s t ts e =
    let feeds : Move → Option (List Expected) = λ m. elim m [ takes ys ↦ Some (ys ++ s) | passes ↦ feed s t.kind | refuses ↦ None ] in
    let goes : Option (List Expected) → Option ℕ = λ o. elim o [ None ↦ Some (suc (length ts)) | Some next ↦ stops next ts ] in
    ap (λ m. goes (feeds m)) e

pub missed : (x : Expected) (s : List Expected) → may_miss x ≡ true → stops (x ∷ s) [] ≡ stops s []
unfolding stops may_end
missed x s e = ap (λ b. cond (cond b (may_end s) false) None (Some 0)) e

pub lacked : (x : Expected) (s : List Expected) → may_miss x ≡ false → stops (x ∷ s) [] ≡ Some 0
unfolding stops may_end
lacked x s e = ap (λ b. cond (cond b (may_end s) false) None (Some 0)) e

-- ---- what may stand here doesn't

pub skip : (x : Expected) (test : TokenKind → Bool) (xs s : List Expected) (ts : List Token) → may_miss x ≡ true → ((k : TokenKind) → move x k ≡ allows (test k) xs) → next_is test ts ≡ false → stops (x ∷ s) ts ≡ stops s ts
skip x test xs s [] m f e = missed x s m
skip x test xs s (t ∷ ts) m f e = passed x s t ts (f t.kind ∙ ap (λ b. allows b xs) e)

pub lack : (x : Expected) (test : TokenKind → Bool) (xs s : List Expected) (ts : List Token) → may_miss x ≡ false → ((k : TokenKind) → move x k ≡ needs (test k) xs) → next_is test ts ≡ false → stops (x ∷ s) ts ≡ Some (length ts)
lack x test xs s [] m f e = lacked x s m
lack x test xs s (t ∷ ts) m f e = refused x s t ts (f t.kind ∙ ap (λ b. needs b xs) e)

pub skip_selectors : (d : ℕ) (s : List Expected) (ts : List Token) → next_is (is_symbol symbols.Period) ts ≡ false → next_is (is_symbol symbols.OpenBracket) ts ≡ false → next_is (is_symbol symbols.OpenParen) ts ≡ false → stops (want.selectors d ∷ s) ts ≡ stops s ts
skip_selectors d s [] e f g = missed (want.selectors d) s refl
skip_selectors d s (t ∷ ts) e f g = passed (want.selectors d) s t ts (rw (e, f, g) refl)

pub skip_opens : (d : ℕ) (s : List Expected) (ts : List Token) → next_is (is_word words.Array) ts ≡ false → stops (want.opens d ∷ s) ts ≡ stops s ts
skip_opens d s [] e = missed (want.opens d) s refl
skip_opens d s (t ∷ ts) e = passed (want.opens d) s t ts (rw e refl)

pub skip_procedures : (d : ℕ) (s : List Expected) (ts : List Token) → next_is (is_word words.Procedure) ts ≡ false → stops (want.procedures d ∷ s) ts ≡ stops s ts
skip_procedures d s [] e = missed (want.procedures d) s refl
skip_procedures d s (t ∷ ts) e = passed (want.procedures d) s t ts (rw e refl)

pub skip_arm : (d : ℕ) (s : List Expected) (ts : List Token) → next_is is_literal ts ≡ false → next_is is_ident ts ≡ false → stops (want.arm d ∷ s) ts ≡ stops s ts
skip_arm d s [] e f = missed (want.arm d) s refl
skip_arm d s (t ∷ ts) e f = passed (want.arm d) s t ts (rw (e, f) refl)

pub skip_statement : (d : ℕ) (s : List Expected) (ts : List Token) → next_is is_ident ts ≡ false → next_is (is_word words.If) ts ≡ false → next_is (is_word words.Case) ts ≡ false → next_is (is_word words.While) ts ≡ false → next_is (is_word words.Repeat) ts ≡ false → next_is (is_word words.For) ts ≡ false → stops (want.statement d ∷ s) ts ≡ stops s ts
skip_statement d s [] e f g h i j = missed (want.statement d) s refl
skip_statement d s (t ∷ ts) e f g h i j = passed (want.statement d) s t ts (rw (e, f, g, h, i, j) refl)
