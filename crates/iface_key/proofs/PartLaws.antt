-- Constants and origins that are read.
use Rattle.std.specs.Prelude.{ℕ, ◌≡◌, ◌<◌, Bool, true, false, List, [], ◌∷◌, Option, Some, None, refl}
use Rattle.std.proofs.Common.{ap, sym, ◌∙◌, arith}
use Rattle.oberon_types.specs.declared.origin.Step.TheVariants as steps
use Rattle.oberon_types.specs.declared.value.Value.TheVariants as values
use Rattle.iface_key.specs.Keys.{number_then, bool_then, integer_then, text_then, list_then, option_then, value_then, step_then, origin_then}
use Rattle.iface_key.specs.Read.{BeginsWithNone, Any}
use Rattle.iface_key.proofs.OneWay.{OneWay, text_one, option_one, procedure_one, step_one}
use Rattle.iface_key.proofs.Listed.{Listing}

-- ---- what may be lacking

pub no_option_mark : {A : Type 0} (item_then : A → List ℕ → List ℕ) (IsNext : Option A → Type 0) (text : List ℕ) → BeginsWithNone bool_then Any text → BeginsWithNone (option_then item_then) IsNext text
no_option_mark item_then IsNext text none None rest is e = none false rest tt e
no_option_mark item_then IsNext text none (Some x) rest is e = none true (item_then x rest) tt e

pub no_option_item : {A : Type 0} (item_then : A → List ℕ → List ℕ) (IsNext : Option A → Type 0) (IsItem : A → Type 0) (text behind : List ℕ) (b : Bool) → ((x : A) → IsNext (Some x) → IsItem x) → text ≡ bool_then b behind → b ≡ true → BeginsWithNone item_then IsItem behind → BeginsWithNone (option_then item_then) IsNext text
no_option_item item_then IsNext IsItem text behind b valid read is_true none None rest is e =
    let r : text ≡ 1 ∷ behind = read ∙ ap (λ x. bool_then x behind) is_true in cc
no_option_item item_then IsNext IsItem text behind b valid read is_true none (Some x) rest is e =
    let r : text ≡ 1 ∷ behind = read ∙ ap (λ x. bool_then x behind) is_true in
    none x rest (valid x is) cc

pub option_listing : {A : Type 0} (item_then : A → List ℕ → List ℕ) → OneWay item_then → Listing (option_then item_then) (list_then item_then)
option_listing item_then one = record { ended = λ r. refl; more = λ x xs r. refl; one = option_one item_then one }

pub path_listing : Listing (option_then step_then) (list_then step_then)
path_listing = option_listing step_then step_one

-- ---- constants

pub no_value : (text : List ℕ) → text ≡ [] → BeginsWithNone value_then Any text
no_value text empty (values.Integer x) rest is e = cc
no_value text empty (values.Char x) rest is e = cc
no_value text empty (values.Boolean x) rest is e = cc
no_value text empty (values.Set x) rest is e = cc
no_value text empty (values.Str x) rest is e = cc

pub no_integer_value : (text behind : List ℕ) (t : ℕ) → text ≡ t ∷ behind → t ≡ 0 → BeginsWithNone integer_then Any behind → BeginsWithNone value_then Any text
no_integer_value text behind t read tag none (values.Integer x) rest is e = none x rest tt cc
no_integer_value text behind t read tag none (values.Char x) rest is e = cc
no_integer_value text behind t read tag none (values.Boolean x) rest is e = cc
no_integer_value text behind t read tag none (values.Set x) rest is e = cc
no_integer_value text behind t read tag none (values.Str x) rest is e = cc

pub no_char_value : (text behind : List ℕ) (t : ℕ) → text ≡ t ∷ behind → t ≡ 1 → behind ≡ [] → BeginsWithNone value_then Any text
no_char_value text behind t read tag empty (values.Integer x) rest is e = cc
no_char_value text behind t read tag empty (values.Char x) rest is e = cc
no_char_value text behind t read tag empty (values.Boolean x) rest is e = cc
no_char_value text behind t read tag empty (values.Set x) rest is e = cc
no_char_value text behind t read tag empty (values.Str x) rest is e = cc

pub no_boolean_value : (text behind : List ℕ) (t : ℕ) → text ≡ t ∷ behind → t ≡ 2 → BeginsWithNone bool_then Any behind → BeginsWithNone value_then Any text
no_boolean_value text behind t read tag none (values.Integer x) rest is e = cc
no_boolean_value text behind t read tag none (values.Char x) rest is e = cc
no_boolean_value text behind t read tag none (values.Boolean x) rest is e = none x rest tt cc
no_boolean_value text behind t read tag none (values.Set x) rest is e = cc
no_boolean_value text behind t read tag none (values.Str x) rest is e = cc

pub no_set_value : (text behind : List ℕ) (t : ℕ) → text ≡ t ∷ behind → t ≡ 3 → BeginsWithNone number_then Any behind → BeginsWithNone value_then Any text
no_set_value text behind t read tag none (values.Integer x) rest is e = cc
no_set_value text behind t read tag none (values.Char x) rest is e = cc
no_set_value text behind t read tag none (values.Boolean x) rest is e = cc
no_set_value text behind t read tag none (values.Set x) rest is e = none x rest tt cc
no_set_value text behind t read tag none (values.Str x) rest is e = cc

pub no_text_value : (text behind : List ℕ) (t : ℕ) → text ≡ t ∷ behind → t ≡ 4 → BeginsWithNone text_then Any behind → BeginsWithNone value_then Any text
no_text_value text behind t read tag none (values.Integer x) rest is e = cc
no_text_value text behind t read tag none (values.Char x) rest is e = cc
no_text_value text behind t read tag none (values.Boolean x) rest is e = cc
no_text_value text behind t read tag none (values.Set x) rest is e = cc
no_text_value text behind t read tag none (values.Str x) rest is e = none x rest tt cc

pub no_value_tag : (text behind : List ℕ) (t : ℕ) → text ≡ t ∷ behind → 4 < t → BeginsWithNone value_then Any text
no_value_tag text behind t read above (values.Integer x) rest is e = let k : t ≡ 0 = cc in omega arith
no_value_tag text behind t read above (values.Char x) rest is e = let k : t ≡ 1 = cc in omega arith
no_value_tag text behind t read above (values.Boolean x) rest is e = let k : t ≡ 2 = cc in omega arith
no_value_tag text behind t read above (values.Set x) rest is e = let k : t ≡ 3 = cc in omega arith
no_value_tag text behind t read above (values.Str x) rest is e = let k : t ≡ 4 = cc in omega arith

-- ---- steps and origins

pub no_step_mark : (text : List ℕ) → BeginsWithNone bool_then Any text → BeginsWithNone step_then Any text
no_step_mark text none steps.Element rest is e = none false rest tt e
no_step_mark text none (steps.Field x) rest is e = none true (text_then x rest) tt e

pub no_step_name : (text behind : List ℕ) (b : Bool) → text ≡ bool_then b behind → b ≡ true → BeginsWithNone text_then Any behind → BeginsWithNone step_then Any text
no_step_name text behind b read is_true none steps.Element rest is e =
    let r : text ≡ 1 ∷ behind = read ∙ ap (λ x. bool_then x behind) is_true in cc
no_step_name text behind b read is_true none (steps.Field x) rest is e =
    let r : text ≡ 1 ∷ behind = read ∙ ap (λ x. bool_then x behind) is_true in none x rest tt cc

pub no_origin_home : (text : List ℕ) → BeginsWithNone text_then Any text → BeginsWithNone origin_then Any text
no_origin_home text none o rest is e = none o.«module» _ tt e

module _ (text t1 : List ℕ) (home : List ℕ) (read1 : text ≡ text_then home t1) where
  pub no_origin_procedure : BeginsWithNone (option_then text_then) Any t1 → BeginsWithNone origin_then Any text
  no_origin_procedure none o rest is e =
      let h = text_one home o.«module» _ _ (sym read1 ∙ e) in
      none o.procedure _ tt h.1

  module _ (t2 : List ℕ) (procedure : Option (List ℕ)) (read2 : t1 ≡ option_then text_then procedure t2) where
    pub no_origin_name : BeginsWithNone text_then Any t2 → BeginsWithNone origin_then Any text
    no_origin_name none o rest is e =
        let h = text_one home o.«module» _ _ (sym read1 ∙ e) in
        let k = procedure_one procedure o.procedure _ _ (sym read2 ∙ h.1) in
        none o.name _ tt k.1

    module _ (t3 : List ℕ) (name : List ℕ) (read3 : t2 ≡ text_then name t3) where
      pub no_origin_path : BeginsWithNone (list_then step_then) Any t3 → BeginsWithNone origin_then Any text
      no_origin_path none o rest is e =
          let h = text_one home o.«module» _ _ (sym read1 ∙ e) in
          let k = procedure_one procedure o.procedure _ _ (sym read2 ∙ h.1) in
          let l = text_one name o.name _ _ (sym read3 ∙ k.1) in
          none o.path _ tt l.1
