-- What the tests on tokens tell: a token of which a test holds is that token, and a test fails where the
-- token's reach or stage is too low.
use Rattle.std.specs.Prelude.{◌≡◌, ℕ, ◌<◌, Bool, true, false, cond, eqb, List, [], ◌∷◌, refl}
use Rattle.std.proofs.Common.{sym, ◌∙◌, ap, inl, inr, arith}
use Rattle.std.proofs.lemmas.Bool.{ne_eqb}
use Rattle.std.proofs.lemmas.Bool.Decides.{eqb_tells}
use Rattle.oberon_scan.specs.declared.token.Token.{Token}
use Rattle.oberon_scan.specs.declared.token.TokenKind.{TokenKind}
use Rattle.oberon_scan.specs.declared.token.TokenKind.TheVariants as kinds
use Rattle.oberon_scan.specs.declared.token.Word.{Word}
use Rattle.oberon_scan.specs.declared.token.Word.TheVariants as words
use Rattle.oberon_scan.specs.declared.token.Symbol.{Symbol}
use Rattle.oberon_scan.specs.declared.token.Symbol.TheVariants as symbols
use Rattle.oberon_tree.specs.Tokens.{symbol_token, word_token}
use Rattle.oberon_productions.specs.Tests.{word_code, symbol_code, is_word, is_symbol, is_ident, word_reach, symbol_reach, reach, next_is}
use Rattle.oberon_productions.proofs.Follows.{word_stage, stage, next_reach, next_stage}

pub no : {A : Type 0} → true ≡ false → A
no e = absurd cc

pub not : {A : Type 0} (b : Bool) → b ≡ true → b ≡ false → A
not b e f = no (sym e ∙ f)

eqb_true : (a b : ℕ) → eqb a b ≡ true → a ≡ b
eqb_true a b e = elim (eqb_tells a b) [ inl h ↦ h.1 | inr h ↦ not (eqb a b) e h.0 ]

abbrev word_at : ℕ → Word
word_at n = cond (eqb n 0) words.Array (cond (eqb n 1) words.Begin (cond (eqb n 2) words.By (cond (eqb n 3) words.Case (cond (eqb n 4) words.Const (cond (eqb n 5) words.Div (cond (eqb n 6) words.Do (cond (eqb n 7) words.Else (cond (eqb n 8) words.Elsif (cond (eqb n 9) words.End (cond (eqb n 10) words.False (cond (eqb n 11) words.For (cond (eqb n 12) words.If (cond (eqb n 13) words.Import (cond (eqb n 14) words.In (cond (eqb n 15) words.Is (cond (eqb n 16) words.Mod (cond (eqb n 17) words.Module (cond (eqb n 18) words.Nil (cond (eqb n 19) words.Of (cond (eqb n 20) words.Or (cond (eqb n 21) words.Pointer (cond (eqb n 22) words.Procedure (cond (eqb n 23) words.Record (cond (eqb n 24) words.Repeat (cond (eqb n 25) words.Return (cond (eqb n 26) words.Then (cond (eqb n 27) words.To (cond (eqb n 28) words.True (cond (eqb n 29) words.Type (cond (eqb n 30) words.Until (cond (eqb n 31) words.Var (words.While))))))))))))))))))))))))))))))))

abbrev symbol_at : ℕ → Symbol
symbol_at n = cond (eqb n 0) symbols.Plus (cond (eqb n 1) symbols.Minus (cond (eqb n 2) symbols.Star (cond (eqb n 3) symbols.Slash (cond (eqb n 4) symbols.Tilde (cond (eqb n 5) symbols.Ampersand (cond (eqb n 6) symbols.Period (cond (eqb n 7) symbols.Comma (cond (eqb n 8) symbols.Semicolon (cond (eqb n 9) symbols.Bar (cond (eqb n 10) symbols.OpenParen (cond (eqb n 11) symbols.CloseParen (cond (eqb n 12) symbols.OpenBracket (cond (eqb n 13) symbols.CloseBracket (cond (eqb n 14) symbols.OpenBrace (cond (eqb n 15) symbols.CloseBrace (cond (eqb n 16) symbols.Becomes (cond (eqb n 17) symbols.Caret (cond (eqb n 18) symbols.Equal (cond (eqb n 19) symbols.Hash (cond (eqb n 20) symbols.Less (cond (eqb n 21) symbols.Greater (cond (eqb n 22) symbols.LessEqual (cond (eqb n 23) symbols.GreaterEqual (cond (eqb n 24) symbols.Colon (symbols.DotDot)))))))))))))))))))))))))

word_at-code : (w : Word) → word_at (word_code w) ≡ w
word_at-code words.Array = refl
word_at-code words.Begin = refl
word_at-code words.By = refl
word_at-code words.Case = refl
word_at-code words.Const = refl
word_at-code words.Div = refl
word_at-code words.Do = refl
word_at-code words.Else = refl
word_at-code words.Elsif = refl
word_at-code words.End = refl
word_at-code words.False = refl
word_at-code words.For = refl
word_at-code words.If = refl
word_at-code words.Import = refl
word_at-code words.In = refl
word_at-code words.Is = refl
word_at-code words.Mod = refl
word_at-code words.Module = refl
word_at-code words.Nil = refl
word_at-code words.Of = refl
word_at-code words.Or = refl
word_at-code words.Pointer = refl
word_at-code words.Procedure = refl
word_at-code words.Record = refl
word_at-code words.Repeat = refl
word_at-code words.Return = refl
word_at-code words.Then = refl
word_at-code words.To = refl
word_at-code words.True = refl
word_at-code words.Type = refl
word_at-code words.Until = refl
word_at-code words.Var = refl
word_at-code words.While = refl

symbol_at-code : (s : Symbol) → symbol_at (symbol_code s) ≡ s
symbol_at-code symbols.Plus = refl
symbol_at-code symbols.Minus = refl
symbol_at-code symbols.Star = refl
symbol_at-code symbols.Slash = refl
symbol_at-code symbols.Tilde = refl
symbol_at-code symbols.Ampersand = refl
symbol_at-code symbols.Period = refl
symbol_at-code symbols.Comma = refl
symbol_at-code symbols.Semicolon = refl
symbol_at-code symbols.Bar = refl
symbol_at-code symbols.OpenParen = refl
symbol_at-code symbols.CloseParen = refl
symbol_at-code symbols.OpenBracket = refl
symbol_at-code symbols.CloseBracket = refl
symbol_at-code symbols.OpenBrace = refl
symbol_at-code symbols.CloseBrace = refl
symbol_at-code symbols.Becomes = refl
symbol_at-code symbols.Caret = refl
symbol_at-code symbols.Equal = refl
symbol_at-code symbols.Hash = refl
symbol_at-code symbols.Less = refl
symbol_at-code symbols.Greater = refl
symbol_at-code symbols.LessEqual = refl
symbol_at-code symbols.GreaterEqual = refl
symbol_at-code symbols.Colon = refl
symbol_at-code symbols.DotDot = refl

pub same_word : (w x : Word) → eqb (word_code w) (word_code x) ≡ true → w ≡ x
same_word w x e = sym (word_at-code w) ∙ ap word_at (eqb_true (word_code w) (word_code x) e) ∙ word_at-code x

pub same_symbol : (s x : Symbol) → eqb (symbol_code s) (symbol_code x) ≡ true → s ≡ x
same_symbol s x e = sym (symbol_at-code s) ∙ ap symbol_at (eqb_true (symbol_code s) (symbol_code x) e) ∙ symbol_at-code x

-- ---- the token that is found

word_kind : (w : Word) (k : TokenKind) → is_word w k ≡ true → k ≡ kinds.Word w
word_kind w (kinds.Ident x) e = no (sym e)
word_kind w (kinds.Integer x) e = no (sym e)
word_kind w (kinds.Str x) e = no (sym e)
word_kind w (kinds.Word x) e = ap kinds.Word (sym (same_word w x e))
word_kind w (kinds.Symbol x) e = no (sym e)

symbol_kind : (s : Symbol) (k : TokenKind) → is_symbol s k ≡ true → k ≡ kinds.Symbol s
symbol_kind s (kinds.Ident x) e = no (sym e)
symbol_kind s (kinds.Integer x) e = no (sym e)
symbol_kind s (kinds.Str x) e = no (sym e)
symbol_kind s (kinds.Word x) e = no (sym e)
symbol_kind s (kinds.Symbol x) e = ap kinds.Symbol (sym (same_symbol s x e))

pub word_found : (w : Word) (t : Token) → is_word w t.kind ≡ true → t ≡ word_token w t.span
word_found w t e = λ i. record { span = t.span; kind = word_kind w t.kind e i }

pub symbol_found : (s : Symbol) (t : Token) → is_symbol s t.kind ≡ true → t ≡ symbol_token s t.span
symbol_found s t e = λ i. record { span = t.span; kind = symbol_kind s t.kind e i }

-- ---- tests that fail by the reach

symbol_low : (s : Symbol) (k : TokenKind) → reach k < symbol_reach s → is_symbol s k ≡ false
symbol_low s (kinds.Ident x) h = refl
symbol_low s (kinds.Integer x) h = refl
symbol_low s (kinds.Str x) h = refl
symbol_low s (kinds.Word x) h = refl
symbol_low s (kinds.Symbol x) h = ne_eqb (symbol_code s) (symbol_code x) (λ e. let same : symbol_reach s ≡ symbol_reach x = ap symbol_reach (sym (symbol_at-code s) ∙ ap symbol_at e ∙ symbol_at-code x) in omega arith)

word_low : (w : Word) (k : TokenKind) → reach k < word_reach w → is_word w k ≡ false
word_low w (kinds.Ident x) h = refl
word_low w (kinds.Integer x) h = refl
word_low w (kinds.Str x) h = refl
word_low w (kinds.Word x) h = ne_eqb (word_code w) (word_code x) (λ e. let same : word_reach w ≡ word_reach x = ap word_reach (sym (word_at-code w) ∙ ap word_at e ∙ word_at-code x) in omega arith)
word_low w (kinds.Symbol x) h = refl

word_late : (w : Word) (k : TokenKind) → stage k < word_stage w → is_word w k ≡ false
word_late w (kinds.Ident x) h = refl
word_late w (kinds.Integer x) h = refl
word_late w (kinds.Str x) h = refl
word_late w (kinds.Word x) h = ne_eqb (word_code w) (word_code x) (λ e. let same : word_stage w ≡ word_stage x = ap word_stage (sym (word_at-code w) ∙ ap word_at e ∙ word_at-code x) in omega arith)
word_late w (kinds.Symbol x) h = refl

ident_low : (k : TokenKind) → reach k < 2 → is_ident k ≡ false
ident_low (kinds.Ident x) h = absurd (omega arith)
ident_low (kinds.Integer x) h = refl
ident_low (kinds.Str x) h = refl
ident_low (kinds.Word x) h = refl
ident_low (kinds.Symbol x) h = refl

ident_late : (k : TokenKind) → stage k < 7 → is_ident k ≡ false
ident_late (kinds.Ident x) h = absurd (omega arith)
ident_late (kinds.Integer x) h = refl
ident_late (kinds.Str x) h = refl
ident_late (kinds.Word x) h = refl
ident_late (kinds.Symbol x) h = refl

pub no_symbol : (s : Symbol) (ts : List Token) → next_reach ts < symbol_reach s → next_is (is_symbol s) ts ≡ false
no_symbol s [] h = refl
no_symbol s (t ∷ ts) h = symbol_low s t.kind h

pub no_word : (w : Word) (ts : List Token) → next_reach ts < word_reach w → next_is (is_word w) ts ≡ false
no_word w [] h = refl
no_word w (t ∷ ts) h = word_low w t.kind h

pub no_ident : (ts : List Token) → next_reach ts < 2 → next_is is_ident ts ≡ false
no_ident [] h = refl
no_ident (t ∷ ts) h = ident_low t.kind h

pub past_word : (w : Word) (ts : List Token) → next_stage ts < word_stage w → next_is (is_word w) ts ≡ false
past_word w [] h = refl
past_word w (t ∷ ts) h = word_late w t.kind h

pub past_ident : (ts : List Token) → next_stage ts < 7 → next_is is_ident ts ≡ false
past_ident [] h = refl
past_ident (t ∷ ts) h = ident_late t.kind h

pub no_rank : (n : ℕ) (ts : List Token) → next_reach ts < n → next_is (λ k. eqb (reach k) n) ts ≡ false
no_rank n [] h = refl
no_rank n (t ∷ ts) h = ne_eqb (reach t.kind) n (λ e. omega arith)
