-- The pieces that the answers of the descent are made of.
use Rattle.std.specs.Prelude.{◌≡◌, ℕ, suc, ◌≤◌, Bool, true, false, eqb, List, [], ◌∷◌, ◌++◌, length, Some, Result, Err, MatchResult, max, refl}
use Rattle.std.proofs.Common.{sym, ◌∙◌, ap, subst, arith}
use Rattle.std.specs.Result.{IsErrAnd}
use Rattle.std.proofs.lemmas.Result.{err_from_is_err_and}
use Rattle.oberon_scan.specs.declared.token.Token.{Token}
use Rattle.oberon_scan.specs.declared.token.Word.{Word}
use Rattle.oberon_scan.specs.declared.token.Word.TheVariants as words
use Rattle.oberon_scan.specs.declared.token.Symbol.{Symbol}
use Rattle.oberon_scan.specs.declared.token.Symbol.TheVariants as symbols
use Rattle.oberon_tree.specs.declared.expression.Relator.{Relator}
use Rattle.oberon_tree.specs.declared.expression.Relator.TheVariants as relators
use Rattle.oberon_tree.specs.declared.expression.AddOperator.{AddOperator}
use Rattle.oberon_tree.specs.declared.expression.AddOperator.TheVariants as adds
use Rattle.oberon_tree.specs.declared.expression.MulOperator.{MulOperator}
use Rattle.oberon_tree.specs.declared.expression.MulOperator.TheVariants as muls
use Rattle.ob_text.specs.declared.span.Span.{Span}
use Rattle.oberon_tree.specs.declared.leaf.Ident.{Ident}
use Rattle.oberon_tree.specs.Tokens.{symbol_token, word_token, ident_token, relator_kind, add_kind, mul_kind}
use Rattle.oberon_tree.specs.Print.{print_each}
use Rattle.oberon_tree.specs.Levels.{depth_of_each}
use Rattle.oberon_productions.specs.declared.stop.Stop.{Stop}
use Rattle.oberon_productions.specs.declared.stop.Stop.TheVariants as stop
use Rattle.oberon_productions.specs.Expected.{Expected}
use Rattle.oberon_productions.specs.Expected as want
use Rattle.oberon_productions.specs.Tests.{is_symbol, is_word, is_ident, is_literal, is_constant, is_sign, reach, next_is, symbol_code, word_code}
use Rattle.oberon_productions.specs.Machine.{takes, refuses, move, needs, stops}
use Rattle.oberon_productions.specs.Reading.{ReadsParts, ReadsSome, StopsAt}
use Rattle.oberon_productions.proofs.Found.{no}
use Rattle.oberon_productions.proofs.Operators.{relator_found, add_found, mul_found}
use Rattle.oberon_productions.proofs.Steps.{taken, refused, lack}
use Rattle.oberon_productions.proofs.ForthStatements.{own_code}

-- ---- exits

-- the machine stops here
pub halts : (parts : List Expected) (given : List Token) (m : ℕ) → ((s : List Expected) → stops (parts ++ s) given ≡ Some m) → StopsAt parts given (stop.Left m)
halts parts given m f = record { there = λ n e s. let same : m ≡ n = cc in f s ∙ ap Some same }

-- there was no memory
pub no_memory : (parts : List Expected) (given : List Token) → StopsAt parts given stop.NoMemory
no_memory parts given = record { there = λ n e s. absurd cc }

pub by_memory : (parts : List Expected) (given : List Token) (e : Stop) → e ≡ stop.NoMemory → StopsAt parts given e
by_memory parts given e h = subst (λ (f : Stop). StopsAt parts given f) (sym h) (no_memory parts given)

-- where an inner part stops, the whole does
pub via : (inner outer : List Expected) (mid given : List Token) (e : Stop) (more : List Expected → List Expected) → ((s : List Expected) → stops (outer ++ s) given ≡ stops (inner ++ more s) mid) → StopsAt inner mid e → StopsAt outer given e
via inner outer mid given e more h q = record { there = λ n f s. h s ∙ q.there n f (more s) }

-- ---- single tokens

pub past_symbol : (w : Symbol) (s : List Expected) (t : Token) (given rest : List Token) → given ≡ t ∷ rest → is_symbol w t.kind ≡ true → stops (want.symbol w ∷ s) given ≡ stops s rest
past_symbol w s t given rest h e = ap (stops (want.symbol w ∷ s)) h ∙ taken (want.symbol w) [] s t rest (ap (λ b. needs b []) e)

pub after_symbol : (w : Symbol) (s : List Expected) {span : Span} {given rest : List Token} → given ≡ symbol_token w span ∷ rest → stops (want.symbol w ∷ s) given ≡ stops s rest
after_symbol w s {span} {given} {rest} h = past_symbol w s (symbol_token w span) given rest h (own_code (symbol_code w))

pub after_word : (w : Word) (s : List Expected) {span : Span} {given rest : List Token} → given ≡ word_token w span ∷ rest → stops (want.word w ∷ s) given ≡ stops s rest
after_word w s {span} {given} {rest} h = ap (stops (want.word w ∷ s)) h ∙ taken (want.word w) [] s (word_token w span) rest (ap (λ b. needs b []) (own_code (word_code w)))

pub after_ident : (s : List Expected) {i : Ident} {given rest : List Token} → given ≡ ident_token i ∷ rest → stops (want.ident ∷ s) given ≡ stops s rest
after_ident s {i} {given} {rest} h = ap (stops (want.ident ∷ s)) h ∙ taken want.ident [] s (ident_token i) rest refl

-- the top of the stack takes the token
pub entered : (x : Expected) (xs s : List Expected) (t : Token) (given rest : List Token) → given ≡ t ∷ rest → move x t.kind ≡ takes xs → stops (x ∷ s) given ≡ stops (xs ++ s) rest
entered x xs s t given rest h e = ap (stops (x ∷ s)) h ∙ taken x xs s t rest e

-- and refuses it
pub refused_at : (x : Expected) (s : List Expected) (t : Token) (given rest : List Token) → given ≡ t ∷ rest → move x t.kind ≡ refuses → stops (x ∷ s) given ≡ Some (length given)
refused_at x s t given rest h e = ap (stops (x ∷ s)) h ∙ refused x s t rest e ∙ ap (λ (l : List Token). Some (length l)) (sym h)

pub lacks_symbol : (w : Symbol) (given : List Token) → next_is (is_symbol w) given ≡ false → StopsAt (want.symbol w ∷ []) given (stop.Left (length given))
lacks_symbol w given h = halts (want.symbol w ∷ []) given (length given) (λ s. lack (want.symbol w) (is_symbol w) [] s given refl (λ k. refl) h)

pub lacks_word : (w : Word) (given : List Token) → next_is (is_word w) given ≡ false → StopsAt (want.word w ∷ []) given (stop.Left (length given))
lacks_word w given h = halts (want.word w ∷ []) given (length given) (λ s. lack (want.word w) (is_word w) [] s given refl (λ k. refl) h)

pub lacks_ident : (given : List Token) → next_is is_ident given ≡ false → StopsAt (want.ident ∷ []) given (stop.Left (length given))
lacks_ident given h = halts (want.ident ∷ []) given (length given) (λ s. lack want.ident is_ident [] s given refl (λ k. refl) h)

-- one token is fewer
pub fewer : {t : Token} {given rest : List Token} → given ≡ t ∷ rest → suc (length rest) ≤ length given
fewer {t} {given} {rest} h = omega (arith, ap length h)

-- ---- tests that fail together

pub no_constant : (given : List Token) → next_is (is_word words.True) given ≡ false → next_is (is_word words.False) given ≡ false → next_is is_literal given ≡ false → next_is is_constant given ≡ false
no_constant [] e f g = refl
no_constant (t ∷ ts) e f g = rw (g, e, f) refl

pub no_sign : (given : List Token) → next_is (is_symbol symbols.Plus) given ≡ false → next_is (is_symbol symbols.Minus) given ≡ false → next_is is_sign given ≡ false
no_sign [] e f = refl
no_sign (t ∷ ts) e f = rw (e, f) refl

same_kind : {t v : Token} → t ≡ v → t.kind ≡ v.kind
same_kind e = ap (λ (x : Token). x.kind) e

false_by : (b : Bool) → (b ≡ true → ⊥) → b ≡ false
false_by true f = absurd (f refl)
false_by false f = refl

no_relator_case : (t : Token) (op : Relator) → t.kind ≡ relator_kind op → is_symbol symbols.Equal t.kind ≡ false → is_symbol symbols.Hash t.kind ≡ false → is_symbol symbols.Less t.kind ≡ false → is_symbol symbols.LessEqual t.kind ≡ false → is_symbol symbols.Greater t.kind ≡ false → is_symbol symbols.GreaterEqual t.kind ≡ false → is_word words.In t.kind ≡ false → is_word words.Is t.kind ≡ false → ⊥
no_relator_case t relators.Equal h e0 e1 e2 e3 e4 e5 e6 e7 = no (sym (ap (is_symbol symbols.Equal) h) ∙ e0)
no_relator_case t relators.Unequal h e0 e1 e2 e3 e4 e5 e6 e7 = no (sym (ap (is_symbol symbols.Hash) h) ∙ e1)
no_relator_case t relators.Less h e0 e1 e2 e3 e4 e5 e6 e7 = no (sym (ap (is_symbol symbols.Less) h) ∙ e2)
no_relator_case t relators.LessEqual h e0 e1 e2 e3 e4 e5 e6 e7 = no (sym (ap (is_symbol symbols.LessEqual) h) ∙ e3)
no_relator_case t relators.Greater h e0 e1 e2 e3 e4 e5 e6 e7 = no (sym (ap (is_symbol symbols.Greater) h) ∙ e4)
no_relator_case t relators.GreaterEqual h e0 e1 e2 e3 e4 e5 e6 e7 = no (sym (ap (is_symbol symbols.GreaterEqual) h) ∙ e5)
no_relator_case t relators.In h e0 e1 e2 e3 e4 e5 e6 e7 = no (sym (ap (is_word words.In) h) ∙ e6)
no_relator_case t relators.Is h e0 e1 e2 e3 e4 e5 e6 e7 = no (sym (ap (is_word words.Is) h) ∙ e7)

pub no_relator : (given : List Token) → next_is (is_symbol symbols.Equal) given ≡ false → next_is (is_symbol symbols.Hash) given ≡ false → next_is (is_symbol symbols.Less) given ≡ false → next_is (is_symbol symbols.LessEqual) given ≡ false → next_is (is_symbol symbols.Greater) given ≡ false → next_is (is_symbol symbols.GreaterEqual) given ≡ false → next_is (is_word words.In) given ≡ false → next_is (is_word words.Is) given ≡ false → next_is (λ k. eqb (reach k) 6) given ≡ false
no_relator [] e0 e1 e2 e3 e4 e5 e6 e7 = refl
no_relator (t ∷ ts) e0 e1 e2 e3 e4 e5 e6 e7 = false_by (eqb (reach t.kind) 6) (λ f. let r = relator_found t f in no_relator_case t r.0 (same_kind r.1) e0 e1 e2 e3 e4 e5 e6 e7)

no_add_case : (t : Token) (op : AddOperator) → t.kind ≡ add_kind op → is_symbol symbols.Plus t.kind ≡ false → is_symbol symbols.Minus t.kind ≡ false → is_word words.Or t.kind ≡ false → ⊥
no_add_case t adds.Add h e0 e1 e2 = no (sym (ap (is_symbol symbols.Plus) h) ∙ e0)
no_add_case t adds.Subtract h e0 e1 e2 = no (sym (ap (is_symbol symbols.Minus) h) ∙ e1)
no_add_case t adds.Or h e0 e1 e2 = no (sym (ap (is_word words.Or) h) ∙ e2)

pub no_add : (given : List Token) → next_is (is_symbol symbols.Plus) given ≡ false → next_is (is_symbol symbols.Minus) given ≡ false → next_is (is_word words.Or) given ≡ false → next_is (λ k. eqb (reach k) 7) given ≡ false
no_add [] e0 e1 e2 = refl
no_add (t ∷ ts) e0 e1 e2 = false_by (eqb (reach t.kind) 7) (λ f. let r = add_found t f in no_add_case t r.0 (same_kind r.1) e0 e1 e2)

no_mul_case : (t : Token) (op : MulOperator) → t.kind ≡ mul_kind op → is_symbol symbols.Star t.kind ≡ false → is_symbol symbols.Slash t.kind ≡ false → is_word words.Div t.kind ≡ false → is_word words.Mod t.kind ≡ false → is_symbol symbols.Ampersand t.kind ≡ false → ⊥
no_mul_case t muls.Multiply h e0 e1 e2 e3 e4 = no (sym (ap (is_symbol symbols.Star) h) ∙ e0)
no_mul_case t muls.Divide h e0 e1 e2 e3 e4 = no (sym (ap (is_symbol symbols.Slash) h) ∙ e1)
no_mul_case t muls.Div h e0 e1 e2 e3 e4 = no (sym (ap (is_word words.Div) h) ∙ e2)
no_mul_case t muls.Mod h e0 e1 e2 e3 e4 = no (sym (ap (is_word words.Mod) h) ∙ e3)
no_mul_case t muls.And h e0 e1 e2 e3 e4 = no (sym (ap (is_symbol symbols.Ampersand) h) ∙ e4)

pub no_mul : (given : List Token) → next_is (is_symbol symbols.Star) given ≡ false → next_is (is_symbol symbols.Slash) given ≡ false → next_is (is_word words.Div) given ≡ false → next_is (is_word words.Mod) given ≡ false → next_is (is_symbol symbols.Ampersand) given ≡ false → next_is (λ k. eqb (reach k) 8) given ≡ false
no_mul [] e0 e1 e2 e3 e4 = refl
no_mul (t ∷ ts) e0 e1 e2 e3 e4 = false_by (eqb (reach t.kind) 8) (λ f. let r = mul_found t f in no_mul_case t r.0 (same_kind r.1) e0 e1 e2 e3 e4)

-- ---- what an answer joins

pub exits : {T : Type 0} (P : T → Type 0) (Q : Stop → Type 0) (r : Result T Stop) (e : Stop) → IsErrAnd r (λ x. x ≡ e) → Q e → MatchResult r P Q
exits {T} P Q r e h k = let p = err_from_is_err_and r h in subst (λ (x : Result T Stop). MatchResult x P Q) (sym (p.1 ∙ ap Err p.2)) k

-- a token, and what follows it
pub onto : {t : Token} {given rest all : List Token} → given ≡ t ∷ rest → rest ≡ all → given ≡ t ∷ all
onto {t} {given} {rest} {all} h e = h ∙ ap (λ (l : List Token). t ∷ l) e

-- a part that was read, and what follows it
pub behind : {parts : List Expected} {limit : ℕ} {given : List Token} {print : List Token → List Token} {depth : ℕ} {rest all : List Token} → ReadsParts parts limit given print depth rest → rest ≡ all → given ≡ print all
behind {parts} {limit} {given} {print} {depth} {rest} {all} r e = r.spelled ∙ ap print e

-- items that were read, and what follows them
pub after_some : {part : Expected} {limit : ℕ} {given : List Token} {print : List Token → List Token} {depth : ℕ} {rest all : List Token} → ReadsSome part limit given print depth rest → rest ≡ all → given ≡ print all
after_some {part} {limit} {given} {print} {depth} {rest} {all} r e = r.spelled ∙ ap print e

pub each_push : {A : Type 0} (print : A → List Token → List Token) (xs : List A) (x : A) (rest : List Token) → print_each print (xs ++ x ∷ []) rest ≡ print_each print xs (print x rest)
each_push print [] x rest = refl
each_push print (y ∷ ys) x rest = ap (print y) (each_push print ys x rest)

pub depth_push : {A : Type 0} (depth : A → ℕ) (xs : List A) (x : A) → depth_of_each depth (xs ++ x ∷ []) ≡ max (depth_of_each depth xs) (depth x)
depth_push depth [] x = omega arith
depth_push depth (y ∷ ys) x = omega (arith, depth_push depth ys x)
