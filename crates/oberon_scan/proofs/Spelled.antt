-- A reserved word is found exactly where it is spelled, and so is a symbol.
use Rattle.std.proofs.Common.{◌≡◌, ◌≢◌, ℕ, ◌<◌, Bool, true, false, cond, eqb, ◌&&◌, List, [], ◌∷◌, Option, None, Some, refl, sym, ap, ◌∙◌, lit<}
use Rattle.std.specs.Prelude.{codes}
use Rattle.std.specs.Option.{option_or}
use Rattle.std.specs.Str.{bytes_eq}
use Rattle.std.proofs.lemmas.Bool.{eqb-true, and_parts, false≢true}
use Rattle.std.proofs.lemmas.Slice.Eq.{bytes_eq-Decides}
use Rattle.oberon_scan.specs.declared.token.Word.{Word}
use Rattle.oberon_scan.specs.declared.token.Word.TheVariants as words
use Rattle.oberon_scan.specs.declared.token.Symbol.{Symbol}
use Rattle.oberon_scan.specs.declared.token.Symbol.TheVariants as symbols
use Rattle.oberon_scan.specs.Spelling.{spelling, symbol_text}
use Rattle.oberon_scan.specs.Finding.{only_word, find_word, pair_symbol, single_symbol}

-- a choice that gave something gave it on one of its sides
chosen : {X : Type 0} {w : X} (test : Bool) (a b : Option X) (P : Type 0) → cond test a b ≡ Some w → (a ≡ Some w → P) → (b ≡ Some w → P) → P
chosen true a b P e f g = f e
chosen false a b P e f g = g e

pub either : {X : Type 0} {w : X} (a b : Option X) (P : Type 0) → option_or a b ≡ Some w → (a ≡ Some w → P) → (b ≡ Some w → P) → P
either None b P e f g = g e
either (Some x) b P e f g = f e

only_found : (run text : List ℕ) (v w : Word) → only_word run text v ≡ Some w → text ≡ spelling v → run ≡ spelling w
only_found run text v w e s = go (bytes_eq run text) refl e
  where
    go : (test : Bool) → bytes_eq run text ≡ test → cond test (Some v) None ≡ Some w → run ≡ spelling w
    go true t h =
        let same : v ≡ w = cc in
        (bytes_eq-Decides run text).0 t ∙ (s ∙ ap spelling same)
    go false t h = absurd (cc)

no_word : {w : Word} → ◌≡◌ {A = Option Word} None (Some w) → ⊥
no_word e = cc

-- each word is found by its spelling
pub word_again : (w : Word) → find_word (spelling w) ≡ Some w
unfolding find_word spelling
word_again words.Array = refl
word_again words.Begin = refl
word_again words.By = refl
word_again words.Case = refl
word_again words.Const = refl
word_again words.Div = refl
word_again words.Do = refl
word_again words.Else = refl
word_again words.Elsif = refl
word_again words.End = refl
word_again words.False = refl
word_again words.For = refl
word_again words.If = refl
word_again words.Import = refl
word_again words.In = refl
word_again words.Is = refl
word_again words.Mod = refl
word_again words.Module = refl
word_again words.Nil = refl
word_again words.Of = refl
word_again words.Or = refl
word_again words.Pointer = refl
word_again words.Procedure = refl
word_again words.Record = refl
word_again words.Repeat = refl
word_again words.Return = refl
word_again words.Then = refl
word_again words.To = refl
word_again words.True = refl
word_again words.Type = refl
word_again words.Until = refl
word_again words.Var = refl
word_again words.While = refl

-- what is found is spelled so
pub word_found : (run : List ℕ) (w : Word) → find_word run ≡ Some w → run ≡ spelling w
unfolding find_word spelling
word_found [] w e = absurd (cc)
word_found (byte ∷ bytes) w e =
    let run : List ℕ = byte ∷ bytes in
    let P : Type 0 = run ≡ spelling w in
    chosen (eqb byte 65) _ _ P e (λ h. only_found run (codes "ARRAY") words.Array w h refl) (λ e0.
    chosen (eqb byte 66) _ _ P e0 (λ h. either (only_word run (codes "BEGIN") words.Begin) (only_word run (codes "BY") words.By) P h (λ f. only_found run (codes "BEGIN") words.Begin w f refl) (λ g. only_found run (codes "BY") words.By w g refl)) (λ e1.
    chosen (eqb byte 67) _ _ P e1 (λ h. either (only_word run (codes "CASE") words.Case) (only_word run (codes "CONST") words.Const) P h (λ f. only_found run (codes "CASE") words.Case w f refl) (λ g. only_found run (codes "CONST") words.Const w g refl)) (λ e2.
    chosen (eqb byte 68) _ _ P e2 (λ h. either (only_word run (codes "DIV") words.Div) (only_word run (codes "DO") words.Do) P h (λ f. only_found run (codes "DIV") words.Div w f refl) (λ g. only_found run (codes "DO") words.Do w g refl)) (λ e3.
    chosen (eqb byte 69) _ _ P e3 (λ h. either (option_or (only_word run (codes "ELSE") words.Else) (only_word run (codes "ELSIF") words.Elsif)) (only_word run (codes "END") words.End) P h (λ f. either (only_word run (codes "ELSE") words.Else) (only_word run (codes "ELSIF") words.Elsif) P f (λ f. only_found run (codes "ELSE") words.Else w f refl) (λ g. only_found run (codes "ELSIF") words.Elsif w g refl)) (λ g. only_found run (codes "END") words.End w g refl)) (λ e4.
    chosen (eqb byte 70) _ _ P e4 (λ h. either (only_word run (codes "FALSE") words.False) (only_word run (codes "FOR") words.For) P h (λ f. only_found run (codes "FALSE") words.False w f refl) (λ g. only_found run (codes "FOR") words.For w g refl)) (λ e5.
    chosen (eqb byte 73) _ _ P e5 (λ h. either (option_or (option_or (only_word run (codes "IF") words.If) (only_word run (codes "IMPORT") words.Import)) (only_word run (codes "IN") words.In)) (only_word run (codes "IS") words.Is) P h (λ f. either (option_or (only_word run (codes "IF") words.If) (only_word run (codes "IMPORT") words.Import)) (only_word run (codes "IN") words.In) P f (λ f. either (only_word run (codes "IF") words.If) (only_word run (codes "IMPORT") words.Import) P f (λ f. only_found run (codes "IF") words.If w f refl) (λ g. only_found run (codes "IMPORT") words.Import w g refl)) (λ g. only_found run (codes "IN") words.In w g refl)) (λ g. only_found run (codes "IS") words.Is w g refl)) (λ e6.
    chosen (eqb byte 77) _ _ P e6 (λ h. either (only_word run (codes "MOD") words.Mod) (only_word run (codes "MODULE") words.Module) P h (λ f. only_found run (codes "MOD") words.Mod w f refl) (λ g. only_found run (codes "MODULE") words.Module w g refl)) (λ e7.
    chosen (eqb byte 78) _ _ P e7 (λ h. only_found run (codes "NIL") words.Nil w h refl) (λ e8.
    chosen (eqb byte 79) _ _ P e8 (λ h. either (only_word run (codes "OF") words.Of) (only_word run (codes "OR") words.Or) P h (λ f. only_found run (codes "OF") words.Of w f refl) (λ g. only_found run (codes "OR") words.Or w g refl)) (λ e9.
    chosen (eqb byte 80) _ _ P e9 (λ h. either (only_word run (codes "POINTER") words.Pointer) (only_word run (codes "PROCEDURE") words.Procedure) P h (λ f. only_found run (codes "POINTER") words.Pointer w f refl) (λ g. only_found run (codes "PROCEDURE") words.Procedure w g refl)) (λ e10.
    chosen (eqb byte 82) _ _ P e10 (λ h. either (option_or (only_word run (codes "RECORD") words.Record) (only_word run (codes "REPEAT") words.Repeat)) (only_word run (codes "RETURN") words.Return) P h (λ f. either (only_word run (codes "RECORD") words.Record) (only_word run (codes "REPEAT") words.Repeat) P f (λ f. only_found run (codes "RECORD") words.Record w f refl) (λ g. only_found run (codes "REPEAT") words.Repeat w g refl)) (λ g. only_found run (codes "RETURN") words.Return w g refl)) (λ e11.
    chosen (eqb byte 84) _ _ P e11 (λ h. either (option_or (option_or (only_word run (codes "THEN") words.Then) (only_word run (codes "TO") words.To)) (only_word run (codes "TRUE") words.True)) (only_word run (codes "TYPE") words.Type) P h (λ f. either (option_or (only_word run (codes "THEN") words.Then) (only_word run (codes "TO") words.To)) (only_word run (codes "TRUE") words.True) P f (λ f. either (only_word run (codes "THEN") words.Then) (only_word run (codes "TO") words.To) P f (λ f. only_found run (codes "THEN") words.Then w f refl) (λ g. only_found run (codes "TO") words.To w g refl)) (λ g. only_found run (codes "TRUE") words.True w g refl)) (λ g. only_found run (codes "TYPE") words.Type w g refl)) (λ e12.
    chosen (eqb byte 85) _ _ P e12 (λ h. only_found run (codes "UNTIL") words.Until w h refl) (λ e13.
    chosen (eqb byte 86) _ _ P e13 (λ h. only_found run (codes "VAR") words.Var w h refl) (λ e14.
    chosen (eqb byte 87) _ _ P e14 (λ h. only_found run (codes "WHILE") words.While w h refl) (λ e15.
    absurd (no_word e15)))))))))))))))))

pub word_missing : (run : List ℕ) → find_word run ≡ None → (w : Word) → run ≢ spelling w
word_missing run e w s = no_word (sym e ∙ (ap find_word s ∙ word_again w))

-- A symbol has one byte or two, and is found by them. The first of two is a symbol too.
pub data Spelled (s : Symbol) : Type 0 where
  alone : (a : ℕ) → a < 128 → symbol_text s ≡ a ∷ [] → single_symbol a ≡ Some s → Spelled s
  paired : (a b : ℕ) (other : Symbol) → a < 128 → b < 128 → symbol_text s ≡ a ∷ b ∷ [] → pair_symbol a b ≡ Some s → single_symbol a ≡ Some other → Spelled s

pub spelled : (s : Symbol) → Spelled s
unfolding symbol_text single_symbol pair_symbol
spelled symbols.Plus = alone 43 (lit< tt) refl refl
spelled symbols.Minus = alone 45 (lit< tt) refl refl
spelled symbols.Star = alone 42 (lit< tt) refl refl
spelled symbols.Slash = alone 47 (lit< tt) refl refl
spelled symbols.Tilde = alone 126 (lit< tt) refl refl
spelled symbols.Ampersand = alone 38 (lit< tt) refl refl
spelled symbols.Period = alone 46 (lit< tt) refl refl
spelled symbols.Comma = alone 44 (lit< tt) refl refl
spelled symbols.Semicolon = alone 59 (lit< tt) refl refl
spelled symbols.Bar = alone 124 (lit< tt) refl refl
spelled symbols.OpenParen = alone 40 (lit< tt) refl refl
spelled symbols.CloseParen = alone 41 (lit< tt) refl refl
spelled symbols.OpenBracket = alone 91 (lit< tt) refl refl
spelled symbols.CloseBracket = alone 93 (lit< tt) refl refl
spelled symbols.OpenBrace = alone 123 (lit< tt) refl refl
spelled symbols.CloseBrace = alone 125 (lit< tt) refl refl
spelled symbols.Becomes = paired 58 61 symbols.Colon (lit< tt) (lit< tt) refl refl refl
spelled symbols.Caret = alone 94 (lit< tt) refl refl
spelled symbols.Equal = alone 61 (lit< tt) refl refl
spelled symbols.Hash = alone 35 (lit< tt) refl refl
spelled symbols.Less = alone 60 (lit< tt) refl refl
spelled symbols.Greater = alone 62 (lit< tt) refl refl
spelled symbols.LessEqual = paired 60 61 symbols.Less (lit< tt) (lit< tt) refl refl refl
spelled symbols.GreaterEqual = paired 62 61 symbols.Greater (lit< tt) (lit< tt) refl refl refl
spelled symbols.Colon = alone 58 (lit< tt) refl refl
spelled symbols.DotDot = paired 46 46 symbols.Period (lit< tt) (lit< tt) refl refl refl

-- a choice by a test, with what the test said
tested : {X : Type 0} {w : X} (test : Bool) (a b : Option X) (P : Type 0) → cond test a b ≡ Some w → (test ≡ true → a ≡ Some w → P) → (b ≡ Some w → P) → P
tested true a b P e f g = f refl e
tested false a b P e f g = g e

no_symbol : {s : Symbol} → ◌≡◌ {A = Option Symbol} None (Some s) → ⊥
no_symbol e = cc

is_some : (v s : Symbol) → ◌≡◌ {A = Option Symbol} (Some v) (Some s) → s ≡ v
is_some v s e = cc

one_is : (byte code : ℕ) (v s : Symbol) → eqb byte code ≡ true → ◌≡◌ {A = Option Symbol} (Some v) (Some s) → symbol_text v ≡ code ∷ [] → symbol_text s ≡ byte ∷ []
one_is byte code v s t e f = ap symbol_text (is_some v s e) ∙ (f ∙ ap (λ x. x ∷ []) (sym (eqb-true byte code t)))

two_are : (a b x y : ℕ) (v s : Symbol) → (eqb a x && eqb b y) ≡ true → ◌≡◌ {A = Option Symbol} (Some v) (Some s) → symbol_text v ≡ x ∷ y ∷ [] → symbol_text s ≡ a ∷ b ∷ []
two_are a b x y v s t e f =
    let p = and_parts (eqb a x) (eqb b y) t in
    ap symbol_text (is_some v s e) ∙ (f ∙ (ap (λ n. n ∷ y ∷ []) (sym (eqb-true a x p.0)) ∙ ap (λ n. a ∷ n ∷ []) (sym (eqb-true b y p.1))))

-- what is found is spelled so
pub single_found : (byte : ℕ) (s : Symbol) → single_symbol byte ≡ Some s → symbol_text s ≡ byte ∷ []
unfolding single_symbol symbol_text
single_found byte s e =
    let P : Type 0 = symbol_text s ≡ byte ∷ [] in
    tested (eqb byte 43) _ _ P e (λ t f. one_is byte 43 symbols.Plus s t f refl) (λ e0.
    tested (eqb byte 45) _ _ P e0 (λ t f. one_is byte 45 symbols.Minus s t f refl) (λ e1.
    tested (eqb byte 42) _ _ P e1 (λ t f. one_is byte 42 symbols.Star s t f refl) (λ e2.
    tested (eqb byte 47) _ _ P e2 (λ t f. one_is byte 47 symbols.Slash s t f refl) (λ e3.
    tested (eqb byte 126) _ _ P e3 (λ t f. one_is byte 126 symbols.Tilde s t f refl) (λ e4.
    tested (eqb byte 38) _ _ P e4 (λ t f. one_is byte 38 symbols.Ampersand s t f refl) (λ e5.
    tested (eqb byte 46) _ _ P e5 (λ t f. one_is byte 46 symbols.Period s t f refl) (λ e6.
    tested (eqb byte 44) _ _ P e6 (λ t f. one_is byte 44 symbols.Comma s t f refl) (λ e7.
    tested (eqb byte 59) _ _ P e7 (λ t f. one_is byte 59 symbols.Semicolon s t f refl) (λ e8.
    tested (eqb byte 124) _ _ P e8 (λ t f. one_is byte 124 symbols.Bar s t f refl) (λ e9.
    tested (eqb byte 40) _ _ P e9 (λ t f. one_is byte 40 symbols.OpenParen s t f refl) (λ e10.
    tested (eqb byte 41) _ _ P e10 (λ t f. one_is byte 41 symbols.CloseParen s t f refl) (λ e11.
    tested (eqb byte 91) _ _ P e11 (λ t f. one_is byte 91 symbols.OpenBracket s t f refl) (λ e12.
    tested (eqb byte 93) _ _ P e12 (λ t f. one_is byte 93 symbols.CloseBracket s t f refl) (λ e13.
    tested (eqb byte 123) _ _ P e13 (λ t f. one_is byte 123 symbols.OpenBrace s t f refl) (λ e14.
    tested (eqb byte 125) _ _ P e14 (λ t f. one_is byte 125 symbols.CloseBrace s t f refl) (λ e15.
    tested (eqb byte 94) _ _ P e15 (λ t f. one_is byte 94 symbols.Caret s t f refl) (λ e16.
    tested (eqb byte 61) _ _ P e16 (λ t f. one_is byte 61 symbols.Equal s t f refl) (λ e17.
    tested (eqb byte 35) _ _ P e17 (λ t f. one_is byte 35 symbols.Hash s t f refl) (λ e18.
    tested (eqb byte 60) _ _ P e18 (λ t f. one_is byte 60 symbols.Less s t f refl) (λ e19.
    tested (eqb byte 62) _ _ P e19 (λ t f. one_is byte 62 symbols.Greater s t f refl) (λ e20.
    tested (eqb byte 58) _ _ P e20 (λ t f. one_is byte 58 symbols.Colon s t f refl) (λ e21.
    absurd (no_symbol e21)))))))))))))))))))))))

pub pair_found : (a b : ℕ) (s : Symbol) → pair_symbol a b ≡ Some s → symbol_text s ≡ a ∷ b ∷ []
unfolding pair_symbol symbol_text
pair_found a b s e =
    let P : Type 0 = symbol_text s ≡ a ∷ b ∷ [] in
    tested (eqb a 58 && eqb b 61) _ _ P e (λ t f. two_are a b 58 61 symbols.Becomes s t f refl) (λ e0.
    tested (eqb a 60 && eqb b 61) _ _ P e0 (λ t f. two_are a b 60 61 symbols.LessEqual s t f refl) (λ e1.
    tested (eqb a 62 && eqb b 61) _ _ P e1 (λ t f. two_are a b 62 61 symbols.GreaterEqual s t f refl) (λ e2.
    tested (eqb a 46 && eqb b 46) _ _ P e2 (λ t f. two_are a b 46 46 symbols.DotDot s t f refl) (λ e3.
    absurd (no_symbol e3)))))

-- no symbol of two bytes has the second byte 0
pub no_pair_at_end : (a : ℕ) (s : Symbol) → pair_symbol a 0 ≡ Some s → ⊥
unfolding pair_symbol
no_pair_at_end a s e =
    tested (eqb a 58 && eqb 0 61) _ _ ⊥ e (λ t f. false≢true (and_parts (eqb a 58) (eqb 0 61) t).1) (λ e0.
    tested (eqb a 60 && eqb 0 61) _ _ ⊥ e0 (λ t f. false≢true (and_parts (eqb a 60) (eqb 0 61) t).1) (λ e1.
    tested (eqb a 62 && eqb 0 61) _ _ ⊥ e1 (λ t f. false≢true (and_parts (eqb a 62) (eqb 0 61) t).1) (λ e2.
    tested (eqb a 46 && eqb 0 46) _ _ ⊥ e2 (λ t f. false≢true (and_parts (eqb a 46) (eqb 0 46) t).1) (λ e3.
    no_symbol e3))))
