-- Where a list that may be empty isn't, its first part is expected: the machine with the list's symbol on
-- top goes on as with that part's.
use Rattle.std.specs.Prelude.{◌≡◌, ℕ, zero, suc, Bool, true, false, cond, List, [], ◌∷◌, ◌++◌, refl}
use Rattle.std.proofs.Common.{sym, ◌∙◌, ap, append_assoc}
use Rattle.oberon_scan.specs.declared.token.Token.{Token}
use Rattle.oberon_scan.specs.declared.token.TokenKind.{TokenKind}
use Rattle.oberon_scan.specs.declared.token.Word.TheVariants as words
use Rattle.oberon_scan.specs.declared.token.Symbol.TheVariants as symbols
use Rattle.oberon_productions.specs.Expected.{Expected}
use Rattle.oberon_productions.specs.Expected as want
use Rattle.oberon_productions.specs.Tests.{is_word, is_symbol, is_ident, is_sign, is_constant, next_is}
use Rattle.oberon_productions.specs.Machine.{Move, takes, passes, refuses, needs, deeper, begins_factor, begins_expr, move, may_end, stops, expr_parts, exprs_parts, element_parts, fields_parts, section_parts, section_tail}
use Rattle.oberon_productions.proofs.Steps.{taken, passed, refused}

-- the first takes what the second takes, with more behind it, or both refuse
abbrev pub Grown : List Expected → Move → Move → Type 0
Grown more m (takes ys) = m ≡ takes (ys ++ more)
Grown more m passes = ⊥
Grown more m refuses = m ≡ refuses

grown_cond : (more : List Expected) (b : Bool) (x y x' y' : Move) → Grown more x x' → Grown more y y' → Grown more (cond b x y) (cond b x' y')
grown_cond more true x y x' y' p q = p
grown_cond more false x y x' y' p q = q

grown_deeper : (more : List Expected) (d : ℕ) (f g : ℕ → List Expected) → ((e : ℕ) → f e ≡ g e ++ more) → Grown more (deeper d f) (deeper d g)
grown_deeper more zero f g h = refl
grown_deeper more (suc d) f g h = ap takes (h d)

grown_factor : (more : List Expected) (d : ℕ) (k : TokenKind) → Grown more (begins_factor d k more) (begins_factor d k [])
grown_factor more d k =
    grown_cond more (is_constant k) _ _ _ _ refl (grown_cond more (is_ident k) _ _ _ _ refl (grown_cond more (is_symbol symbols.OpenParen k) _ _ _ _ (grown_deeper more d (λ e. expr_parts e ++ want.symbol symbols.CloseParen ∷ more) (λ e. expr_parts e ++ want.symbol symbols.CloseParen ∷ []) (λ e. refl)) (grown_cond more (is_symbol symbols.Tilde k) _ _ _ _ (grown_deeper more d (λ e. want.factor e ∷ more) (λ e. want.factor e ∷ []) (λ e. refl)) (grown_cond more (is_symbol symbols.OpenBrace k) _ _ _ _ (grown_deeper more d (λ e. want.rest_of_set e ∷ more) (λ e. want.rest_of_set e ∷ []) (λ e. refl)) refl))))

goes_grown : (x y : Expected) (more s : List Expected) (t : Token) (ts : List Token) (m : Move) → move y t.kind ≡ m → Grown more (move x t.kind) m → stops (x ∷ s) (t ∷ ts) ≡ stops (y ∷ more ++ s) (t ∷ ts)
goes_grown x y more s t ts (takes ys) e g = taken x (ys ++ more) s t ts g ∙ ap (λ l. stops l ts) (append_assoc ys more s) ∙ sym (taken y ys (more ++ s) t ts e)
goes_grown x y more s t ts passes e g = absurd g
goes_grown x y more s t ts refuses e g = refused x s t ts g ∙ sym (refused y (more ++ s) t ts e)

goes_factor : (x : Expected) (d : ℕ) (more s : List Expected) (t : Token) (ts : List Token) → move x t.kind ≡ begins_factor d t.kind more → stops (x ∷ s) (t ∷ ts) ≡ stops (want.factor d ∷ more ++ s) (t ∷ ts)
goes_factor x d more s t ts e = goes_grown x (want.factor d) more s t ts (begins_factor d t.kind []) refl (rw e (grown_factor more d t.kind))

goes_expr : (x : Expected) (d : ℕ) (more s : List Expected) (t : Token) (ts : List Token) (b : Bool) → is_sign t.kind ≡ b → move x t.kind ≡ begins_expr d t.kind more → stops (x ∷ s) (t ∷ ts) ≡ stops (expr_parts d ++ (more ++ s)) (t ∷ ts)
goes_expr x d more s t ts true b e =
    taken x (want.factor d ∷ want.multipliers d ∷ want.addends d ∷ want.some_relation d ∷ more) s t ts (e ∙ ap (λ v. cond v (takes (want.factor d ∷ want.multipliers d ∷ want.addends d ∷ want.some_relation d ∷ more)) (begins_factor d t.kind (want.multipliers d ∷ want.addends d ∷ want.some_relation d ∷ more))) b) ∙ sym (taken want.some_sign [] _ t ts (ap (λ v. cond v (takes []) passes) b))
goes_expr x d more s t ts false b e =
    goes_factor x d (want.multipliers d ∷ want.addends d ∷ want.some_relation d ∷ more) s t ts (e ∙ ap (λ v. cond v (takes (want.factor d ∷ want.multipliers d ∷ want.addends d ∷ want.some_relation d ∷ more)) (begins_factor d t.kind (want.multipliers d ∷ want.addends d ∷ want.some_relation d ∷ more))) b) ∙ sym (passed want.some_sign _ t ts (ap (λ v. cond v (takes []) passes) b))

-- ---- the lists that may be empty

pub expand_call : (d : ℕ) (s : List Expected) (ts : List Token) → next_is (is_symbol symbols.CloseParen) ts ≡ false → stops (want.rest_of_call d ∷ s) ts ≡ stops (exprs_parts d ++ want.symbol symbols.CloseParen ∷ s) ts
unfolding stops may_end
expand_call d s [] e = refl
expand_call d s (t ∷ ts) e = goes_expr (want.rest_of_call d) d (want.exprs d ∷ want.symbol symbols.CloseParen ∷ []) s t ts (is_sign t.kind) refl (ap (λ v. cond v (takes []) (begins_expr d t.kind (want.exprs d ∷ want.symbol symbols.CloseParen ∷ []))) e)

pub expand_set : (d : ℕ) (s : List Expected) (ts : List Token) → next_is (is_symbol symbols.CloseBrace) ts ≡ false → stops (want.rest_of_set d ∷ s) ts ≡ stops (element_parts d ++ want.elements d ∷ want.symbol symbols.CloseBrace ∷ s) ts
unfolding stops may_end
expand_set d s [] e = refl
expand_set d s (t ∷ ts) e = goes_expr (want.rest_of_set d) d (want.some_upper d ∷ want.elements d ∷ want.symbol symbols.CloseBrace ∷ []) s t ts (is_sign t.kind) refl (ap (λ v. cond v (takes []) (begins_expr d t.kind (want.some_upper d ∷ want.elements d ∷ want.symbol symbols.CloseBrace ∷ []))) e)

grown_ident : (more : List Expected) (k : TokenKind) → Grown more (needs (is_ident k) more) (needs (is_ident k) [])
grown_ident more k = grown_cond more (is_ident k) _ _ _ _ refl refl

goes_ident : (x : Expected) (more s : List Expected) (t : Token) (ts : List Token) → move x t.kind ≡ needs (is_ident t.kind) more → stops (x ∷ s) (t ∷ ts) ≡ stops (want.ident ∷ more ++ s) (t ∷ ts)
goes_ident x more s t ts e = goes_grown x want.ident more s t ts (needs (is_ident t.kind) []) refl (rw e (grown_ident more t.kind))

pub expand_record : (d : ℕ) (s : List Expected) (ts : List Token) → next_is (is_word words.End) ts ≡ false → stops (want.rest_of_record d ∷ s) ts ≡ stops (fields_parts d ++ want.fields d ∷ want.word words.End ∷ s) ts
unfolding stops may_end
expand_record d s [] e = refl
expand_record d s (t ∷ ts) e = goes_ident (want.rest_of_record d) (want.some_mark ∷ want.ident_defs ∷ want.symbol symbols.Colon ∷ want.type_part d ∷ want.fields d ∷ want.word words.End ∷ []) s t ts (ap (λ v. cond v (takes []) (needs (is_ident t.kind) (want.some_mark ∷ want.ident_defs ∷ want.symbol symbols.Colon ∷ want.type_part d ∷ want.fields d ∷ want.word words.End ∷ []))) e)

goes_section : (d : ℕ) (s : List Expected) (t : Token) (ts : List Token) (b : Bool) → is_word words.Var t.kind ≡ b → is_symbol symbols.CloseParen t.kind ≡ false → stops (want.rest_of_formals d ∷ s) (t ∷ ts) ≡ stops (section_parts d ++ want.sections d ∷ want.symbol symbols.CloseParen ∷ s) (t ∷ ts)
goes_section d s t ts true b e = taken (want.rest_of_formals d) (want.ident ∷ section_tail d ++ want.sections d ∷ want.symbol symbols.CloseParen ∷ []) s t ts (rw (e, b) refl) ∙ sym (taken want.some_by_var [] (want.ident ∷ section_tail d ++ want.sections d ∷ want.symbol symbols.CloseParen ∷ s) t ts (rw b refl))
goes_section d s t ts false b e = goes_ident (want.rest_of_formals d) (section_tail d ++ want.sections d ∷ want.symbol symbols.CloseParen ∷ []) s t ts (rw (e, b) refl) ∙ sym (passed want.some_by_var (want.ident ∷ section_tail d ++ want.sections d ∷ want.symbol symbols.CloseParen ∷ s) t ts (rw b refl))

pub expand_formals : (d : ℕ) (s : List Expected) (ts : List Token) → next_is (is_symbol symbols.CloseParen) ts ≡ false → stops (want.rest_of_formals d ∷ s) ts ≡ stops (section_parts d ++ want.sections d ∷ want.symbol symbols.CloseParen ∷ s) ts
unfolding stops may_end
expand_formals d s [] e = refl
expand_formals d s (t ∷ ts) e = goes_section d s t ts (is_word words.Var t.kind) refl e
