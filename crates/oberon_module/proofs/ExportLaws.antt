-- The weight of an interface is that of its exports in any order, and the exports in order are the one list of them.
use Rattle.std.specs.Prelude.{ℕ, zero, suc, ◌≡◌, ◌+◌, ◌-◌, ◌<◌, nat_lt, length, drop, slice_get, Bool, true, false, List, [], ◌∷◌, Option, Some, None, if◌then◌else◌, refl}
use Rattle.std.proofs.Common.{nat_eq, ap, sym, ◌∙◌, arith, add-one}
use Rattle.oberon_infer.specs.declared.scope.Binding.{Binding}
use Rattle.oberon_infer.specs.Memory.{plain_bindings}
use Rattle.std.proofs.lemmas.Bool.{ltb-true, ltb-false, eqb-true, eqb-false}
use Rattle.oberon_types.specs.Entities.{EntityTree, Export}
use Rattle.oberon_rules.specs.Order.{name_before}
use Rattle.oberon_rules.specs.Scopes.{Entry}
use Rattle.oberon_rules.specs.Views.{put_in, put_entity, entity_of, exported_in, is_interface_too_large, weight_of_entity, interface_weight}
use Rattle.oberon_module.specs.Exported.{weight_of_option, weight_of_meaning, weight_of_exported, weight_of_binding, weight_at}

abbrev pub weight_of_bindings : List Entry → ℕ
weight_of_bindings [] = 0
weight_of_bindings (e ∷ es) = weight_of_exported e.exported e.meaning + weight_of_bindings es

swapped : (a b c : ℕ) → a + (b + c) ≡ b + (a + c)
swapped a b c = omega arith

put_by : (b : Bool) (e x : Export) (xs : List Export) → interface_weight (put_in e xs) ≡ weight_of_entity e.entity + interface_weight xs → interface_weight (if b then e ∷ x ∷ xs else x ∷ put_in e xs) ≡ weight_of_entity e.entity + (weight_of_entity x.entity + interface_weight xs)
put_by true e x xs rest = refl
put_by false e x xs rest = ap (λ n. weight_of_entity x.entity + n) rest ∙ swapped (weight_of_entity x.entity) (weight_of_entity e.entity) (interface_weight xs)

put_weighs : (e : Export) (es : List Export) → interface_weight (put_in e es) ≡ weight_of_entity e.entity + interface_weight es
put_weighs e [] = refl
put_weighs e (x ∷ xs) = put_by (name_before e.name x.name) e x xs (put_weighs e xs)

option_weighs : (x : List ℕ) (o : Option EntityTree) (es : List Export) → interface_weight (put_entity x o es) ≡ weight_of_option o + interface_weight es
option_weighs x None es = omega arith
option_weighs x (Some e) es = put_weighs (record { name = x; entity = e }) es

entry_weighs : (b : Bool) (e : Entry) (es : List Entry) → interface_weight (exported_in es) ≡ weight_of_bindings es → interface_weight (if b then put_entity e.name (entity_of e.meaning) (exported_in es) else exported_in es) ≡ weight_of_exported b e.meaning + weight_of_bindings es
entry_weighs true e es rest = option_weighs e.name (entity_of e.meaning) (exported_in es) ∙ ap (λ n. weight_of_meaning e.meaning + n) rest
entry_weighs false e es rest = rest ∙ omega arith

pub exports_weigh : (es : List Entry) → interface_weight (exported_in es) ≡ weight_of_bindings es
exports_weigh [] = refl
exports_weigh (e ∷ es) = entry_weighs e.exported e es (exports_weigh es)

-- ---- a binding after another

step_left : (left new w r : ℕ) → new ≡ left - w → new - r ≡ left - (w + r)
step_left left new w r e = omega (arith, e)

step_suc : (es : List (List ℕ × Binding)) (i left new : ℕ) → i < length es → new ≡ left - weight_at (slice_get es i) → new - weight_of_bindings (plain_bindings (drop (suc i) es)) ≡ left - weight_of_bindings (plain_bindings (drop i es))
step_suc [] i left new h e = absurd (omega (arith, h))
step_suc (x ∷ xs) zero left new h e = step_left left new (weight_of_binding x.1) (weight_of_bindings (plain_bindings xs)) e
step_suc (x ∷ xs) (suc i) left new h e = step_suc xs i left new (omega (arith, h)) e

pub binding_step : (es : List (List ℕ × Binding)) (i left new : ℕ) → i < length es → new ≡ left - weight_at (slice_get es i) → new - weight_of_bindings (plain_bindings (drop (i + 1) es)) ≡ left - weight_of_bindings (plain_bindings (drop i es))
binding_step es i left new h e = ap (λ n. new - weight_of_bindings (plain_bindings (drop n es))) (add-one i) ∙ step_suc es i left new h e

over_by : (w : ℕ) (b c : Bool) → nat_eq (65537 - w) 0 ≡ b → nat_lt 65536 w ≡ c → b ≡ c
over_by w true true e f = refl
over_by w false false e f = refl
over_by w true false e f = absurd (omega (arith, eqb-true (65537 - w) 0 e, ltb-false 65536 w f))
over_by w false true e f = absurd (eqb-false (65537 - w) 0 e (omega (arith, ltb-true 65536 w f)))

pub too_large : (es : List Entry) (bound : List (List ℕ × Binding)) (left : ℕ) → plain_bindings bound ≡ es → left - weight_of_bindings [] ≡ 65537 - weight_of_bindings (plain_bindings bound) → nat_eq left 0 ≡ is_interface_too_large (exported_in es)
too_large es bound left same e =
    let all = ap weight_of_bindings same in
    let is : left ≡ 65537 - weight_of_bindings es = omega (arith, e, all) in
    ap (λ n. nat_eq n 0) is
    ∙ over_by (weight_of_bindings es) (nat_eq (65537 - weight_of_bindings es) 0) (nat_lt 65536 (weight_of_bindings es)) refl refl
    ∙ sym (ap (nat_lt 65536) (exports_weigh es))
