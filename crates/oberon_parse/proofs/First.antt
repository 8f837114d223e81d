-- The machine stops at the first bad token: up to there some sentence begins with the tokens, and with
-- the next one none does.
use Rattle.std.specs.Prelude.{◌≡◌, ℕ, zero, suc, ◌≤◌, ◌+◌, ◌-◌, ◌==◌, ◌⊎◌, pos, Bool, true, false, cond, List, [], ◌∷◌, ◌++◌, length, take, Option, Some, None, refl}
use Rattle.std.proofs.Common.{sym, ◌∙◌, ap, subst, inl, inr, arith, append_assoc, length-append}
use Rattle.ob_text.specs.declared.span.Span.{Span}
use Rattle.oberon_scan.specs.declared.token.Token.{Token}
use Rattle.oberon_scan.specs.declared.token.TokenKind.{TokenKind}
use Rattle.oberon_scan.specs.declared.token.Word.TheVariants as words
use Rattle.oberon_scan.specs.declared.token.Symbol.TheVariants as symbols
use Rattle.oberon_tree.specs.declared.leaf.Ident.{Ident}
use Rattle.oberon_tree.specs.declared.statement.LabelValue.TheVariants as values
use Rattle.oberon_tree.specs.Trees.{no_relation, no_addends, no_multipliers, integer_factor, no_elements, no_more_elements, no_upper, no_selectors, no_arguments, no_more_exprs, named_type, no_fields, no_more_fields, no_step, no_more_statements, empty_statement, no_elsifs, no_else, empty_arm, no_more_arms, ModuleTree}
use Rattle.oberon_parse.specs.declared.whole.ParseRefusal.TheVariants as refusals
use Rattle.oberon_productions.specs.Expected.{Expected}
use Rattle.oberon_productions.specs.Expected as want
use Rattle.oberon_productions.specs.Tests.{is_word, is_symbol, is_ident, is_literal, is_sign, is_constant}
use Rattle.oberon_productions.specs.Machine.{Move, takes, passes, refuses, needs, deeper, begins_factor, begins_expr, move, may_miss, feed, may_end, stops, module_parts, expr_parts, exprs_parts, section_tail}
use Rattle.document_rules.specs.Sentence.{IsSentence, IsFront, IsFirstBad, most_levels}
use Rattle.oberon_productions.proofs.Found.{no}
use Rattle.oberon_productions.proofs.Parts.{Shape, spell, deep, limit, Part, Parts, parts_split, parts_join}
use Rattle.oberon_productions.proofs.Back.{part_taken}
use Rattle.oberon_productions.proofs.ForthModules.{over_module}

-- ---- the shortest tree of each part

span : Span
span = record { start = 0; end = 0 }

a_name : Ident
a_name = record { span = span; name = 65 ∷ [] }

shortest : (x : Expected) → Shape x
shortest want.ident = a_name
shortest (want.word w) = span
shortest (want.symbol w) = span
shortest want.some_member = None
shortest want.some_mark = None
shortest want.ident_defs = []
shortest want.idents = []
shortest want.some_sign = None
shortest (want.factor d) = integer_factor (record { span = span; value = pos 0 })
shortest (want.multipliers d) = no_multipliers
shortest (want.addends d) = no_addends
shortest (want.some_relation d) = no_relation
shortest (want.rest_of_set d) = (no_elements, span)
shortest (want.some_upper d) = no_upper
shortest (want.elements d) = no_more_elements
shortest (want.selectors d) = no_selectors
shortest (want.rest_of_call d) = (no_arguments, span)
shortest (want.exprs d) = no_more_exprs
shortest (want.type_part d) = named_type (record { first = a_name; member = None })
shortest want.some_base = None
shortest (want.rest_of_record d) = (no_fields, span)
shortest (want.fields d) = no_more_fields
shortest want.value = values.Integer (record { span = span; value = pos 0 })
shortest want.some_label_upper = None
shortest want.labels = []
shortest (want.statement d) = empty_statement
shortest (want.some_assigned d) = None
shortest (want.statements d) = no_more_statements
shortest (want.elsifs w d) = no_elsifs
shortest (want.some_else d) = no_else
shortest (want.arm d) = empty_arm
shortest (want.arms d) = no_more_arms
shortest (want.some_step d) = no_step
shortest (want.some_constants d) = None
shortest (want.constants d) = []
shortest (want.some_types d) = None
shortest (want.types d) = []
shortest (want.some_variables d) = None
shortest (want.variables d) = []
shortest (want.some_local_constants d) = None
shortest (want.local_constants d) = []
shortest (want.some_local_variables d) = None
shortest (want.local_variables d) = []
shortest want.some_by_var = None
shortest (want.opens d) = []
shortest (want.sections d) = []
shortest (want.rest_of_formals d) = (None, span)
shortest (want.some_formals d) = None
shortest want.some_result = None
shortest (want.some_body d) = None
shortest (want.some_return d) = None
shortest (want.procedures d) = []
shortest want.some_alias = None
shortest want.imports = []
shortest want.some_imports = None

shortest_within : (x : Expected) → deep x (shortest x) ≤ limit x
unfolding shortest
shortest_within want.ident = omega arith
shortest_within (want.word w) = omega arith
shortest_within (want.symbol w) = omega arith
shortest_within want.some_member = omega arith
shortest_within want.some_mark = omega arith
shortest_within want.ident_defs = omega arith
shortest_within want.idents = omega arith
shortest_within want.some_sign = omega arith
shortest_within (want.factor d) = omega arith
shortest_within (want.multipliers d) = omega arith
shortest_within (want.addends d) = omega arith
shortest_within (want.some_relation d) = omega arith
shortest_within (want.rest_of_set d) = omega arith
shortest_within (want.some_upper d) = omega arith
shortest_within (want.elements d) = omega arith
shortest_within (want.selectors d) = omega arith
shortest_within (want.rest_of_call d) = omega arith
shortest_within (want.exprs d) = omega arith
shortest_within (want.type_part d) = omega arith
shortest_within want.some_base = omega arith
shortest_within (want.rest_of_record d) = omega arith
shortest_within (want.fields d) = omega arith
shortest_within want.value = omega arith
shortest_within want.some_label_upper = omega arith
shortest_within want.labels = omega arith
shortest_within (want.statement d) = omega arith
shortest_within (want.some_assigned d) = omega arith
shortest_within (want.statements d) = omega arith
shortest_within (want.elsifs w d) = omega arith
shortest_within (want.some_else d) = omega arith
shortest_within (want.arm d) = omega arith
shortest_within (want.arms d) = omega arith
shortest_within (want.some_step d) = omega arith
shortest_within (want.some_constants d) = omega arith
shortest_within (want.constants d) = omega arith
shortest_within (want.some_types d) = omega arith
shortest_within (want.types d) = omega arith
shortest_within (want.some_variables d) = omega arith
shortest_within (want.variables d) = omega arith
shortest_within (want.some_local_constants d) = omega arith
shortest_within (want.local_constants d) = omega arith
shortest_within (want.some_local_variables d) = omega arith
shortest_within (want.local_variables d) = omega arith
shortest_within want.some_by_var = omega arith
shortest_within (want.opens d) = omega arith
shortest_within (want.sections d) = omega arith
shortest_within (want.rest_of_formals d) = omega arith
shortest_within (want.some_formals d) = omega arith
shortest_within want.some_result = omega arith
shortest_within (want.some_body d) = omega arith
shortest_within (want.some_return d) = omega arith
shortest_within (want.procedures d) = omega arith
shortest_within want.some_alias = omega arith
shortest_within want.imports = omega arith
shortest_within want.some_imports = omega arith

-- what may be missing is spelled by no token
empty_part : (x : Expected) (ts : List Token) → may_miss x ≡ true → Part x ts ts
empty_part want.ident ts e = no (sym e)
empty_part (want.word w) ts e = no (sym e)
empty_part (want.symbol w) ts e = no (sym e)
empty_part want.some_member ts e = record { tree = None; spelled = refl; within = omega arith }
empty_part want.some_mark ts e = record { tree = None; spelled = refl; within = omega arith }
empty_part want.ident_defs ts e = record { tree = []; spelled = refl; within = omega arith }
empty_part want.idents ts e = record { tree = []; spelled = refl; within = omega arith }
empty_part want.some_sign ts e = record { tree = None; spelled = refl; within = omega arith }
empty_part (want.factor d) ts e = no (sym e)
empty_part (want.multipliers d) ts e = record { tree = no_multipliers; spelled = refl; within = omega arith }
empty_part (want.addends d) ts e = record { tree = no_addends; spelled = refl; within = omega arith }
empty_part (want.some_relation d) ts e = record { tree = no_relation; spelled = refl; within = omega arith }
empty_part (want.rest_of_set d) ts e = no (sym e)
empty_part (want.some_upper d) ts e = record { tree = no_upper; spelled = refl; within = omega arith }
empty_part (want.elements d) ts e = record { tree = no_more_elements; spelled = refl; within = omega arith }
empty_part (want.selectors d) ts e = record { tree = no_selectors; spelled = refl; within = omega arith }
empty_part (want.rest_of_call d) ts e = no (sym e)
empty_part (want.exprs d) ts e = record { tree = no_more_exprs; spelled = refl; within = omega arith }
empty_part (want.type_part d) ts e = no (sym e)
empty_part want.some_base ts e = record { tree = None; spelled = refl; within = omega arith }
empty_part (want.rest_of_record d) ts e = no (sym e)
empty_part (want.fields d) ts e = record { tree = no_more_fields; spelled = refl; within = omega arith }
empty_part want.value ts e = no (sym e)
empty_part want.some_label_upper ts e = record { tree = None; spelled = refl; within = omega arith }
empty_part want.labels ts e = record { tree = []; spelled = refl; within = omega arith }
empty_part (want.statement d) ts e = record { tree = empty_statement; spelled = refl; within = omega arith }
empty_part (want.some_assigned d) ts e = record { tree = None; spelled = refl; within = omega arith }
empty_part (want.statements d) ts e = record { tree = no_more_statements; spelled = refl; within = omega arith }
empty_part (want.elsifs w d) ts e = record { tree = no_elsifs; spelled = refl; within = omega arith }
empty_part (want.some_else d) ts e = record { tree = no_else; spelled = refl; within = omega arith }
empty_part (want.arm d) ts e = record { tree = empty_arm; spelled = refl; within = omega arith }
empty_part (want.arms d) ts e = record { tree = no_more_arms; spelled = refl; within = omega arith }
empty_part (want.some_step d) ts e = record { tree = no_step; spelled = refl; within = omega arith }
empty_part (want.some_constants d) ts e = record { tree = None; spelled = refl; within = omega arith }
empty_part (want.constants d) ts e = record { tree = []; spelled = refl; within = omega arith }
empty_part (want.some_types d) ts e = record { tree = None; spelled = refl; within = omega arith }
empty_part (want.types d) ts e = record { tree = []; spelled = refl; within = omega arith }
empty_part (want.some_variables d) ts e = record { tree = None; spelled = refl; within = omega arith }
empty_part (want.variables d) ts e = record { tree = []; spelled = refl; within = omega arith }
empty_part (want.some_local_constants d) ts e = record { tree = None; spelled = refl; within = omega arith }
empty_part (want.local_constants d) ts e = record { tree = []; spelled = refl; within = omega arith }
empty_part (want.some_local_variables d) ts e = record { tree = None; spelled = refl; within = omega arith }
empty_part (want.local_variables d) ts e = record { tree = []; spelled = refl; within = omega arith }
empty_part want.some_by_var ts e = record { tree = None; spelled = refl; within = omega arith }
empty_part (want.opens d) ts e = record { tree = []; spelled = refl; within = omega arith }
empty_part (want.sections d) ts e = record { tree = []; spelled = refl; within = omega arith }
empty_part (want.rest_of_formals d) ts e = no (sym e)
empty_part (want.some_formals d) ts e = record { tree = None; spelled = refl; within = omega arith }
empty_part want.some_result ts e = record { tree = None; spelled = refl; within = omega arith }
empty_part (want.some_body d) ts e = record { tree = None; spelled = refl; within = omega arith }
empty_part (want.some_return d) ts e = record { tree = None; spelled = refl; within = omega arith }
empty_part (want.procedures d) ts e = record { tree = []; spelled = refl; within = omega arith }
empty_part want.some_alias ts e = record { tree = None; spelled = refl; within = omega arith }
empty_part want.imports ts e = record { tree = []; spelled = refl; within = omega arith }
empty_part want.some_imports ts e = record { tree = None; spelled = refl; within = omega arith }

-- ---- what passes a token on may be missing

never_takes : {A : Type 0} (xs : List Expected) → takes xs ≡ passes → A
never_takes xs e = absurd cc

never_refuses : {A : Type 0} → refuses ≡ passes → A
never_refuses e = absurd cc

never_needs : {A : Type 0} (b : Bool) (xs : List Expected) → needs b xs ≡ passes → A
never_needs true xs e = absurd cc
never_needs false xs e = absurd cc

never_cond : {A : Type 0} (b : Bool) (m n : Move) → (m ≡ passes → A) → (n ≡ passes → A) → cond b m n ≡ passes → A
never_cond true m n f g e = f e
never_cond false m n f g e = g e

never_deeper : {A : Type 0} (d : ℕ) (next : ℕ → List Expected) → deeper d next ≡ passes → A
never_deeper zero next e = absurd cc
never_deeper (suc d) next e = absurd cc

never_factor : {A : Type 0} (d : ℕ) (k : TokenKind) (more : List Expected) → begins_factor d k more ≡ passes → A
never_factor d k more =
    never_cond (is_constant k) (takes more) _ (never_takes more) (never_cond (is_ident k) (takes (want.selectors d ∷ more)) _ (never_takes (want.selectors d ∷ more)) (never_cond (is_symbol symbols.OpenParen k) _ _ (never_deeper d (λ e. expr_parts e ++ want.symbol symbols.CloseParen ∷ more)) (never_cond (is_symbol symbols.Tilde k) _ _ (never_deeper d (λ e. want.factor e ∷ more)) (never_cond (is_symbol symbols.OpenBrace k) _ _ (never_deeper d (λ e. want.rest_of_set e ∷ more)) never_refuses))))

never_expr : {A : Type 0} (d : ℕ) (k : TokenKind) (more : List Expected) → begins_expr d k more ≡ passes → A
never_expr d k more = never_cond (is_sign k) (takes (want.factor d ∷ want.multipliers d ∷ want.addends d ∷ want.some_relation d ∷ more)) _ (never_takes (want.factor d ∷ want.multipliers d ∷ want.addends d ∷ want.some_relation d ∷ more)) (never_factor d k (want.multipliers d ∷ want.addends d ∷ want.some_relation d ∷ more))

passing : (x : Expected) (k : TokenKind) → move x k ≡ passes → may_miss x ≡ true
passing want.ident k e = never_needs (is_ident k) [] e
passing (want.word w) k e = never_needs (is_word w k) [] e
passing (want.symbol s) k e = never_needs (is_symbol s k) [] e
passing (want.factor d) k e = never_factor d k [] e
passing (want.rest_of_set d) k e = never_cond (is_symbol symbols.CloseBrace k) (takes []) (begins_expr d k (want.some_upper d ∷ want.elements d ∷ want.symbol symbols.CloseBrace ∷ [])) (never_takes []) (never_expr d k (want.some_upper d ∷ want.elements d ∷ want.symbol symbols.CloseBrace ∷ [])) e
passing (want.rest_of_call d) k e = never_cond (is_symbol symbols.CloseParen k) (takes []) (begins_expr d k (want.exprs d ∷ want.symbol symbols.CloseParen ∷ [])) (never_takes []) (never_expr d k (want.exprs d ∷ want.symbol symbols.CloseParen ∷ [])) e
passing (want.type_part d) k e = never_cond (is_ident k) (takes (want.some_member ∷ [])) _ (never_takes (want.some_member ∷ [])) (never_cond (is_word words.Array k) _ _ (never_deeper d (λ n. exprs_parts n ++ want.word words.Of ∷ want.type_part n ∷ [])) (never_cond (is_word words.Record k) _ _ (never_deeper d (λ n. want.some_base ∷ want.rest_of_record n ∷ [])) never_refuses)) e
passing (want.rest_of_record d) k e = never_cond (is_word words.End k) (takes []) _ (never_takes []) (never_needs (is_ident k) (want.some_mark ∷ want.ident_defs ∷ want.symbol symbols.Colon ∷ want.type_part d ∷ want.fields d ∷ want.word words.End ∷ [])) e
passing want.value k e = never_cond (is_literal k) (takes []) _ (never_takes []) (never_needs (is_ident k) (want.some_member ∷ [])) e
passing (want.rest_of_formals d) k e = never_cond (is_symbol symbols.CloseParen k) (takes []) _ (never_takes []) (never_cond (is_word words.Var k) _ _ (never_takes (want.ident ∷ section_tail d ++ want.sections d ∷ want.symbol symbols.CloseParen ∷ [])) (never_needs (is_ident k) (section_tail d ++ want.sections d ∷ want.symbol symbols.CloseParen ∷ []))) e
passing want.some_member k e = refl
passing want.some_mark k e = refl
passing want.ident_defs k e = refl
passing want.idents k e = refl
passing want.some_sign k e = refl
passing (want.multipliers d) k e = refl
passing (want.addends d) k e = refl
passing (want.some_relation d) k e = refl
passing (want.some_upper d) k e = refl
passing (want.elements d) k e = refl
passing (want.selectors d) k e = refl
passing (want.exprs d) k e = refl
passing want.some_base k e = refl
passing (want.fields d) k e = refl
passing want.some_label_upper k e = refl
passing want.labels k e = refl
passing (want.statement d) k e = refl
passing (want.some_assigned d) k e = refl
passing (want.statements d) k e = refl
passing (want.elsifs w d) k e = refl
passing (want.some_else d) k e = refl
passing (want.arm d) k e = refl
passing (want.arms d) k e = refl
passing (want.some_step d) k e = refl
passing (want.some_constants d) k e = refl
passing (want.constants d) k e = refl
passing (want.some_types d) k e = refl
passing (want.types d) k e = refl
passing (want.some_variables d) k e = refl
passing (want.variables d) k e = refl
passing (want.some_local_constants d) k e = refl
passing (want.local_constants d) k e = refl
passing (want.some_local_variables d) k e = refl
passing (want.local_variables d) k e = refl
passing want.some_by_var k e = refl
passing (want.opens d) k e = refl
passing (want.sections d) k e = refl
passing (want.some_formals d) k e = refl
passing want.some_result k e = refl
passing (want.some_body d) k e = refl
passing (want.some_return d) k e = refl
passing (want.procedures d) k e = refl
passing want.some_alias k e = refl
passing want.imports k e = refl
passing want.some_imports k e = refl

-- ---- back along the tokens that were taken

feed_by : (x : Expected) (s : List Expected) (k : TokenKind) (m : Move) → move x k ≡ m → feed (x ∷ s) k ≡ elim m [ takes xs ↦ Some (xs ++ s) | passes ↦ feed s k | refuses ↦ None ]
unfolding feed
feed_by x s k m e =
    let feeds : Move → Option (List Expected) = λ n. elim n [ takes xs ↦ Some (xs ++ s) | passes ↦ feed s k | refuses ↦ None ] in
    ap feeds e

back_by : (x : Expected) (s : List Expected) (t : Token) (next : List Expected) (u : List Token) (m : Move) → move x t.kind ≡ m → feed (x ∷ s) t.kind ≡ Some next → Parts next u [] → (feed s t.kind ≡ Some next → Parts s (t ∷ u) []) → Parts (x ∷ s) (t ∷ u) []
back_by x s t next u (takes xs) e f q more =
    let g : Some (xs ++ s) ≡ Some next = sym (feed_by x s t.kind (takes xs) e) ∙ f in
    let same : next ≡ xs ++ s = cc in
    let r = parts_split xs s u [] (subst (λ (l : List Expected). Parts l u []) same q) in
    parts_join x s (t ∷ u) r.0 [] (part_taken x t u r.0 xs e r.1) r.2
back_by x s t next u passes e f q more = parts_join x s (t ∷ u) (t ∷ u) [] (empty_part x (t ∷ u) (passing x t.kind e)) (more (sym (feed_by x s t.kind passes e) ∙ f))
back_by x s t next u refuses e f q more =
    let g : None ≡ Some next = sym (feed_by x s t.kind refuses e) ∙ f in
    absurd cc

back : (s : List Expected) (t : Token) (next : List Expected) (u : List Token) → feed s t.kind ≡ Some next → Parts next u [] → Parts s (t ∷ u) []
unfolding feed
back [] t next u e q = absurd cc
back (x ∷ s) t next u e q = back_by x s t next u (move x t.kind) refl e q (λ f. back s t next u f q)

-- each stack is spelled by some tokens
some_parts : (s : List Expected) → (u : List Token) × Parts s u []
some_parts [] = ([], record { trees = tt; spelled = refl; within = tt })
some_parts (x ∷ s) =
    let r = some_parts s in
    (spell x (shortest x) r.0, parts_join x s (spell x (shortest x) r.0) r.0 [] (record { tree = shortest x; spelled = refl; within = shortest_within x }) r.1)

-- the tokens lead from one stack to another
abbrev Comes : List Expected → List Token → List Expected → Type 0
Comes s [] z = s ≡ z
Comes s (t ∷ ts) z = (next : List Expected) × (feed s t.kind ≡ Some next) × Comes next ts z

comes_back : (s : List Expected) (front : List Token) (z : List Expected) (u : List Token) → Comes s front z → Parts z u [] → Parts s (front ++ u) []
comes_back s [] z u c q = subst (λ (l : List Expected). Parts l u []) (sym c) q
comes_back s (t ∷ ts) z u c q = back s t c.0 (ts ++ u) c.1 (comes_back c.0 ts z u c.2 q)

-- and the machine goes on from there
comes_stops : (s : List Expected) (front : List Token) (z : List Expected) (u : List Token) → Comes s front z → stops s (front ++ u) ≡ stops z u
unfolding stops
comes_stops s [] z u c = ap (λ l. stops l u) c
comes_stops s (t ∷ ts) z u c =
    let goes : Option (List Expected) → Option ℕ = λ o. elim o [ None ↦ Some (suc (length (ts ++ u))) | Some next ↦ stops next (ts ++ u) ] in
    ap goes c.1 ∙ comes_stops c.0 ts z u c.2

-- ---- where it stops

record Halt (s : List Expected) (ts : List Token) (left : ℕ) : Type 0 where
  front : List Token
  rest : List Token
  stack : List Expected
  whole : ts ≡ front ++ rest
  comes : Comes s front stack
  count : length rest ≡ left
  stuck : (rest ≡ []) ⊎ ((t : Token) × (u : List Token) × (rest ≡ t ∷ u) × (feed stack t.kind ≡ None))

halt_by : (s : List Expected) (t : Token) (ts : List Token) (left : ℕ) (o : Option (List Expected)) → feed s t.kind ≡ o → stops s (t ∷ ts) ≡ Some left → ((next : List Expected) → stops next ts ≡ Some left → Halt next ts left) → Halt s (t ∷ ts) left
unfolding stops
halt_by s t ts left None e f more =
    let goes : Option (List Expected) → Option ℕ = λ o. elim o [ None ↦ Some (suc (length ts)) | Some next ↦ stops next ts ] in
    let g : Some (suc (length ts)) ≡ Some left = sym (ap goes e) ∙ f in
    record { front = []; rest = t ∷ ts; stack = s; whole = refl; comes = refl; count = cc; stuck = inr (t, ts, refl, e) }
halt_by s t ts left (Some next) e f more =
    let goes : Option (List Expected) → Option ℕ = λ o. elim o [ None ↦ Some (suc (length ts)) | Some n ↦ stops n ts ] in
    let h = more next (sym (ap goes e) ∙ f) in
    record { front = t ∷ h.front; rest = h.rest; stack = h.stack; whole = ap (λ l. t ∷ l) h.whole; comes = (next, e, h.comes); count = h.count; stuck = h.stuck }

halt : (s : List Expected) (ts : List Token) (left : ℕ) → stops s ts ≡ Some left → Halt s ts left
unfolding stops
halt s [] left e = record { front = []; rest = []; stack = s; whole = refl; comes = refl; count = none_left (may_end s) left e; stuck = inl refl }
  where
    none_left : (b : Bool) (n : ℕ) → cond b None (Some 0) ≡ Some n → 0 ≡ n
    none_left true n f = absurd cc
    none_left false n f = cc
halt s (t ∷ ts) left e = halt_by s t ts left (feed s t.kind) refl e (λ next f. halt next ts left f)

-- ---- sentences

-- what the parts of a module spell is a sentence
parts_sentence : (limit : ℕ) (ts : List Token) → Parts (module_parts limit) ts [] → IsSentence limit ts
parts_sentence limit ts q =
    let b = q.trees.1.1.1 in
    let c = b.1.1.1.1.1 in
    let m : ModuleTree = record { word = q.trees.0; name = q.trees.1.0; semicolon = q.trees.1.1.0; imports = b.0; declarations = record { constants = b.1.0; types = b.1.1.0; variables = b.1.1.1.0 }; procedures = b.1.1.1.1.0; body = c.0; end = c.1.0; end_name = c.1.1.0; period = c.1.1.1.0 } in
    (m, sym q.spelled, omega (arith, q.within))

-- a sentence is taken whole
sentence_taken : (limit : ℕ) (ts : List Token) → IsSentence limit ts → stops (module_parts limit) ts ≡ None
unfolding stops may_end
sentence_taken limit ts h = ap (stops (module_parts limit)) (sym h.1) ∙ over_module h.0 limit [] [] h.2

front_comes : (s : List Expected) (j : ℕ) (front rest : List Token) (z : List Expected) → Comes s front z → j ≤ length front → (y : List Expected) × Comes s (take j (front ++ rest)) y
front_comes s zero front rest z c h = (s, refl)
front_comes s (suc j) [] rest z c h = absurd (omega arith)
front_comes s (suc j) (t ∷ ts) rest z c h =
    let r = front_comes c.0 j ts rest z c.2 (omega arith) in
    (r.0, (c.0, c.1, r.1))

comes_begins : (limit : ℕ) (front : List Token) (z : List Expected) → Comes (module_parts limit) front z → IsFront limit front
comes_begins limit front z c = let r = some_parts z in (r.0, parts_sentence limit (front ++ r.0) (comes_back (module_parts limit) front z r.0 c r.1))

none_some : {A : Type 0} (n : ℕ) → None ≡ Some n → A
none_some n e = absurd cc

stuck_stops : (z : List Expected) (t : Token) (u : List Token) → feed z t.kind ≡ None → stops z (t ∷ u) ≡ Some (suc (length u))
unfolding stops
stuck_stops z t u e =
    let goes : Option (List Expected) → Option ℕ = λ o. elim o [ None ↦ Some (suc (length u)) | Some next ↦ stops next u ] in
    ap goes e

take_front : (front : List Token) (t : Token) (u : List Token) → take (suc (length front)) (front ++ t ∷ u) ≡ front ++ t ∷ []
take_front [] t u = refl
take_front (x ∷ front) t u = ap (λ l. x ∷ l) (take_front front t u)

-- with the token that it is stuck at no sentence begins
stuck_bad : (limit : ℕ) (front : List Token) (z : List Expected) (t : Token) (u : List Token) → Comes (module_parts limit) front z → feed z t.kind ≡ None → ¬ IsFront limit (take (suc (length front)) (front ++ t ∷ u))
stuck_bad limit front z t u c e b =
    let again : (front ++ t ∷ []) ++ b.0 ≡ front ++ t ∷ b.0 = append_assoc front (t ∷ []) b.0 in
    let read : stops (module_parts limit) (take (suc (length front)) (front ++ t ∷ u) ++ b.0) ≡ None = sentence_taken limit (take (suc (length front)) (front ++ t ∷ u) ++ b.0) b.1 in
    let moved : stops (module_parts limit) (take (suc (length front)) (front ++ t ∷ u) ++ b.0) ≡ Some (suc (length b.0)) = ap (λ l. stops (module_parts limit) (l ++ b.0)) (take_front front t u) ∙ ap (stops (module_parts limit)) again ∙ comes_stops (module_parts limit) front z (t ∷ b.0) c ∙ stuck_stops z t b.0 e in
    none_some (suc (length b.0)) (sym read ∙ moved)

pub left_within : (s : List Expected) (ts : List Token) (left : ℕ) → stops s ts ≡ Some left → left ≤ length ts
left_within s ts left e =
    let h = halt s ts left e in
    omega (arith, length-append h.front h.rest, ap length h.whole, h.count)

pub first_bad : (limit : ℕ) (ts : List Token) (left k : ℕ) → stops (module_parts limit) ts ≡ Some left → k + left ≡ length ts → IsFirstBad limit ts k
first_bad limit ts left k e f =
    let h = halt (module_parts limit) ts left e in
    let same : k ≡ length h.front = omega (arith, length-append h.front h.rest, ap length h.whole, h.count) in
    record {
      before = λ j l. let r = front_comes (module_parts limit) j h.front h.rest h.stack h.comes (omega arith) in subst (λ (x : List Token). IsFront limit (take j x)) (sym h.whole) (comes_begins limit (take j (h.front ++ h.rest)) r.0 r.1);
      bad = elim h.stuck [ inl g ↦ inr (omega (arith, length-append h.front h.rest, ap length h.whole, ap length g), λ s. none_some left (sym (sentence_taken limit ts s) ∙ e)) | inr g ↦ inl (omega (arith, length-append h.front h.rest, ap length h.whole, ap length g.2), λ b. stuck_bad limit h.front h.stack g.0 g.1 h.comes g.3 (subst (λ (x : List Token). IsFront limit (take (suc (length h.front)) x)) (h.whole ∙ ap (λ (l : List Token). h.front ++ l) g.2) (subst (λ (n : ℕ). IsFront limit (take (suc n) ts)) same b))) ];
    }

-- where nothing is expected any more, the machine stops before what is left
pub nothing_more : (rest : List Token) → (length rest == 0) ≡ false → stops [] rest ≡ Some (length rest)
unfolding stops feed
nothing_more [] h = absurd cc
nothing_more (t ∷ ts) h = refl

-- the index at which a machine stops
pub first_bad_at : (ts : List Token) (left m k : ℕ) → stops (module_parts most_levels) ts ≡ Some left → left ≡ m → refusals.FirstBad (length ts - m) ≡ refusals.FirstBad k → IsFirstBad most_levels ts k
first_bad_at ts left m k e same f =
    let index : length ts - m ≡ k = cc in
    first_bad most_levels ts left k e (omega (arith, left_within (module_parts most_levels) ts left e, same, index))
