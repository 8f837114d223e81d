-- Equal texts begin with equal parts and go on with equal rests: the form can be read in one way only.
use Rattle.std.specs.Prelude.{ℕ, ◌+◌, ◌*◌, ◌/◌, ◌%◌, ◌≤◌, ◌≡◌, nat_lt, if◌then◌else◌, Bool, true, false, List, [], ◌∷◌, Option, Some, None, pos, negsuc, refl}
use Rattle.std.proofs.Common.{ap, sym, ◌∙◌, arith}
use Rattle.std.proofs.lemmas.Bool.{ltb-false}
use Rattle.oberon_types.specs.declared.origin.Origin.{Origin}
use Rattle.oberon_types.specs.declared.origin.Step.{Step}
use Rattle.oberon_types.specs.declared.origin.Step.TheVariants as steps
use Rattle.oberon_types.specs.declared.value.Value.TheVariants as values
use Rattle.oberon_types.specs.Types.{TyTree, unknown_ty, integer_ty, byte_ty, char_ty, boolean_ty, set_ty, string_ty, array_ty, open_ty, record_ty, record_of, no_base, base_of, no_fields, more_fields}
use Rattle.oberon_types.specs.Entities.{ParamTree, SignatureTree, EntityTree, constant_entity, type_entity, variable_entity, procedure_entity, Export, missing_view, broken_view, cyclic_view, exports_view}
use Rattle.iface_key.specs.Keys.{number_then, bool_then, integer_then, text_then, list_then, option_then, value_then, step_then, origin_then, type_then, record_then, base_then, fields_then, param_then, signature_then, entity_then, export_then, view_then}

abbrev pub OneWay : {A : Type 0} → (A → List ℕ → List ℕ) → Type 0
OneWay {A} part_then = (a b : A) (r s : List ℕ) → part_then a r ≡ part_then b s → (a ≡ b) × (r ≡ s)

-- ---- numbers

two_digits : (a b : ℕ) → a % 256 ≡ b % 256 → a / 256 ≡ b / 256 → a ≡ b
two_digits a b low high = omega arith

pub number_one : OneWay number_then
unfolding number_then
number_one a b r s e =
    let d : a / 256 / 256 / 256 ≡ b / 256 / 256 / 256 = cc in
    let d2 : a / 256 / 256 % 256 ≡ b / 256 / 256 % 256 = cc in
    let d1 : a / 256 % 256 ≡ b / 256 % 256 = cc in
    let d0 : a % 256 ≡ b % 256 = cc in
    let rest : r ≡ s = cc in
    (two_digits a b d0 (two_digits (a / 256) (b / 256) d1 (two_digits (a / 256 / 256) (b / 256 / 256) d2 d)), rest)

pub bool_one : OneWay bool_then
bool_one false false r s e = (refl, cc)
bool_one true true r s e = (refl, cc)
bool_one _ _ r s e = absurd cc

even_odd : (n m : ℕ) → 2 * n ≡ 2 * m + 1 → ⊥
even_odd n m e = omega arith

twice : (n m : ℕ) → 2 * n ≡ 2 * m → n ≡ m
twice n m e = omega arith

twice_one : (n m : ℕ) → 2 * n + 1 ≡ 2 * m + 1 → n ≡ m
twice_one n m e = omega arith

pub integer_one : OneWay integer_then
integer_one (pos n) (pos m) r s e = let h = number_one (2 * n) (2 * m) r s e in (ap pos (twice n m h.0), h.1)
integer_one (negsuc n) (negsuc m) r s e = let h = number_one (2 * n + 1) (2 * m + 1) r s e in (ap negsuc (twice_one n m h.0), h.1)
integer_one (pos n) (negsuc m) r s e = absurd (even_odd n m ((number_one (2 * n) (2 * m + 1) r s e).0))
integer_one (negsuc n) (pos m) r s e = absurd (even_odd m n (sym ((number_one (2 * n + 1) (2 * m) r s e).0)))

-- ---- texts and lists

abbrev pub byte_then : Bool → ℕ → List ℕ → List ℕ
byte_then small b rest = if small then 1 ∷ b ∷ rest else b ∷ rest

pub more_one : (b c : ℕ) (x y : List ℕ) (p q : Bool) → nat_lt b 2 ≡ p → nat_lt c 2 ≡ q → byte_then p b x ≡ byte_then q c y → (b ≡ c) × (x ≡ y)
more_one b c x y true true low under e = (cc, cc)
more_one b c x y false false low under e = (cc, cc)
more_one b c x y true false low under e = let h : 2 ≤ c = ltb-false c 2 under in let k : 1 ≡ c = cc in absurd (omega arith)
more_one b c x y false true low under e = let h : 2 ≤ b = ltb-false b 2 low in let k : b ≡ 1 = cc in absurd (omega arith)

pub not_end : (b : ℕ) (x r : List ℕ) (p : Bool) → nat_lt b 2 ≡ p → 0 ∷ r ≡ byte_then p b x → ⊥
not_end b x r true low e = cc
not_end b x r false low e = let h : 2 ≤ b = ltb-false b 2 low in let k : 0 ≡ b = cc in omega arith

pub text_one : OneWay text_then
text_one [] [] r s e = (refl, cc)
text_one [] (c ∷ cs) r s e = absurd (not_end c (text_then cs s) r (nat_lt c 2) refl e)
text_one (b ∷ bs) [] r s e = absurd (not_end b (text_then bs r) s (nat_lt b 2) refl (sym e))
text_one (b ∷ bs) (c ∷ cs) r s e =
    let h = more_one b c (text_then bs r) (text_then cs s) (nat_lt b 2) (nat_lt c 2) refl refl e in
    let k = text_one bs cs r s h.1 in
    let first = h.0 in
    let others = k.0 in
    (cc, k.1)

pub list_one : {A : Type 0} (item_then : A → List ℕ → List ℕ) → OneWay item_then → OneWay (list_then item_then)
list_one item_then one [] [] r s e = (refl, cc)
list_one item_then one [] (y ∷ ys) r s e = absurd cc
list_one item_then one (x ∷ xs) [] r s e = absurd cc
list_one item_then one (x ∷ xs) (y ∷ ys) r s e =
    let t : item_then x (list_then item_then xs r) ≡ item_then y (list_then item_then ys s) = cc in
    let h = one x y (list_then item_then xs r) (list_then item_then ys s) t in
    let k = list_one item_then one xs ys r s h.1 in
    let first = h.0 in
    let others = k.0 in
    (cc, k.1)

pub option_one : {A : Type 0} (item_then : A → List ℕ → List ℕ) → OneWay item_then → OneWay (option_then item_then)
option_one item_then one None None r s e = (refl, cc)
option_one item_then one None (Some y) r s e = absurd cc
option_one item_then one (Some x) None r s e = absurd cc
option_one item_then one (Some x) (Some y) r s e =
    let t : item_then x r ≡ item_then y s = cc in
    let h = one x y r s t in
    (ap Some h.0, h.1)

-- ---- constants

tail_same : (n m : ℕ) (r s : List ℕ) → n ∷ r ≡ m ∷ s → r ≡ s
tail_same n m r s e = cc

pub value_one : OneWay value_then
value_one (values.Integer x) (values.Integer y) r s e = let h = integer_one x y r s (tail_same 0 0 _ _ e) in (ap values.Integer h.0, h.1)
value_one (values.Char x) (values.Char y) r s e = (cc, cc)
value_one (values.Boolean x) (values.Boolean y) r s e = let h = bool_one x y r s (tail_same 2 2 _ _ e) in (ap values.Boolean h.0, h.1)
value_one (values.Set x) (values.Set y) r s e = let h = number_one x y r s (tail_same 3 3 _ _ e) in (ap values.Set h.0, h.1)
value_one (values.Str x) (values.Str y) r s e = let h = text_one x y r s (tail_same 4 4 _ _ e) in (ap values.Str h.0, h.1)
value_one _ _ r s e = absurd cc

-- ---- types

pub step_one : OneWay step_then
step_one steps.Element steps.Element r s e = (refl, cc)
step_one (steps.Field x) (steps.Field y) r s e = let h = text_one x y r s (tail_same 1 1 _ _ e) in (ap steps.Field h.0, h.1)
step_one _ _ r s e = absurd cc

pub procedure_one : OneWay (option_then text_then)
procedure_one = option_one text_then text_one

pub path_one : OneWay (list_then step_then)
path_one = list_one step_then step_one

abbrev made_origin : List ℕ → Option (List ℕ) → List ℕ → List Step → Origin
made_origin m p n q = record { «module» = m; procedure = p; name = n; path = q }

pub origin_one : OneWay origin_then
origin_one a b r s e =
    let m = text_one a.«module» b.«module» _ _ e in
    let p = procedure_one a.procedure b.procedure _ _ m.1 in
    let n = text_one a.name b.name _ _ p.1 in
    let q = path_one a.path b.path r s n.1 in
    let first = ap (λ x. made_origin x a.procedure a.name a.path) m.0 ∙ ap (λ x. made_origin b.«module» x a.name a.path) p.0 in
    (first ∙ ap (λ x. made_origin b.«module» b.procedure x a.path) n.0 ∙ ap (made_origin b.«module» b.procedure b.name) q.0, q.1)

mutual
  pub type_one : OneWay type_then
  type_one unknown_ty unknown_ty r s e = (refl, tail_same 0 0 _ _ e)
  type_one integer_ty integer_ty r s e = (refl, tail_same 1 1 _ _ e)
  type_one byte_ty byte_ty r s e = (refl, tail_same 2 2 _ _ e)
  type_one char_ty char_ty r s e = (refl, tail_same 3 3 _ _ e)
  type_one boolean_ty boolean_ty r s e = (refl, tail_same 4 4 _ _ e)
  type_one set_ty set_ty r s e = (refl, tail_same 5 5 _ _ e)
  type_one (string_ty n) (string_ty m) r s e = let h = number_one n m r s (tail_same 6 6 _ _ e) in (ap string_ty h.0, h.1)
  type_one (array_ty n t) (array_ty m u) r s e =
      let h = number_one n m _ _ (tail_same 7 7 _ _ e) in
      let k = type_one t u r s h.1 in
      let h0 = h.0 in let k0 = k.0 in
      (cc, k.1)
  type_one (open_ty t) (open_ty u) r s e = let k = type_one t u r s (tail_same 8 8 _ _ e) in (ap open_ty k.0, k.1)
  type_one (record_ty t) (record_ty u) r s e = let k = record_one t u r s (tail_same 9 9 _ _ e) in (ap record_ty k.0, k.1)
  type_one _ _ r s e = absurd cc

  pub record_one : OneWay record_then
  record_one (record_of o b fs n) (record_of p c gs m) r s e =
      let h = origin_one o p _ _ e in
      let k = base_one b c _ _ h.1 in
      let l = fields_one fs gs _ _ k.1 in
      let i = number_one n m r s l.1 in
      let h0 = h.0 in let k0 = k.0 in let l0 = l.0 in let i0 = i.0 in
      (cc, i.1)

  pub base_one : OneWay base_then
  base_one no_base no_base r s e = (refl, tail_same 0 0 _ _ e)
  base_one (base_of x) (base_of y) r s e = let k = record_one x y r s (tail_same 1 1 _ _ e) in (ap base_of k.0, k.1)
  base_one _ _ r s e = absurd cc

  pub fields_one : OneWay fields_then
  fields_one no_fields no_fields r s e = (refl, tail_same 0 0 _ _ e)
  fields_one (more_fields x a t fs) (more_fields y b u gs) r s e =
      let h = text_one x y _ _ (tail_same 1 1 _ _ e) in
      let k = bool_one a b _ _ h.1 in
      let l = type_one t u _ _ k.1 in
      let i = fields_one fs gs r s l.1 in
      let h0 = h.0 in let k0 = k.0 in let l0 = l.0 in let i0 = i.0 in
      (cc, i.1)
  fields_one _ _ r s e = absurd cc

-- ---- what is exported

abbrev made_param : Bool → TyTree → ParamTree
made_param by_var t = record { by_var = by_var; ty = t }

abbrev made_signature : List ParamTree → Option TyTree → SignatureTree
made_signature params t = record { params = params; result_type = t }

abbrev made_export : List ℕ → EntityTree → Export
made_export name entity = record { name = name; entity = entity }

pub param_one : OneWay param_then
param_one a b r s e =
    let h = bool_one a.by_var b.by_var _ _ e in
    let k = type_one a.ty b.ty r s h.1 in
    (ap (λ x. made_param x a.ty) h.0 ∙ ap (made_param b.by_var) k.0, k.1)

pub signature_one : OneWay signature_then
signature_one a b r s e =
    let h = list_one param_then param_one a.params b.params _ _ e in
    let k = option_one type_then type_one a.result_type b.result_type r s h.1 in
    (ap (λ x. made_signature x a.result_type) h.0 ∙ ap (made_signature b.params) k.0, k.1)

pub entity_one : OneWay entity_then
entity_one (constant_entity x) (constant_entity y) r s e = let h = value_one x y r s (tail_same 0 0 _ _ e) in (ap constant_entity h.0, h.1)
entity_one (type_entity x) (type_entity y) r s e = let h = type_one x y r s (tail_same 1 1 _ _ e) in (ap type_entity h.0, h.1)
entity_one (variable_entity x) (variable_entity y) r s e = let h = type_one x y r s (tail_same 2 2 _ _ e) in (ap variable_entity h.0, h.1)
entity_one (procedure_entity x) (procedure_entity y) r s e = let h = signature_one x y r s (tail_same 3 3 _ _ e) in (ap procedure_entity h.0, h.1)
entity_one _ _ r s e = absurd cc

pub export_one : OneWay export_then
export_one a b r s e =
    let h = text_one a.name b.name _ _ e in
    let k = entity_one a.entity b.entity r s h.1 in
    (ap (λ x. made_export x a.entity) h.0 ∙ ap (made_export b.name) k.0, k.1)

pub view_one : OneWay view_then
view_one missing_view missing_view r s e = (refl, tail_same 0 0 _ _ e)
view_one broken_view broken_view r s e = (refl, tail_same 1 1 _ _ e)
view_one cyclic_view cyclic_view r s e = (refl, tail_same 2 2 _ _ e)
view_one (exports_view xs) (exports_view ys) r s e = let h = list_one export_then export_one xs ys r s (tail_same 3 3 _ _ e) in (ap exports_view h.0, h.1)
view_one _ _ r s e = absurd cc
