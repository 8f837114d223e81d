-- What is known of a value in which no place is bad.
use Rattle.std.proofs.Common.{◌≡◌, ℕ, ◌+◌, List, [], ◌∷◌, Bool, true, false, Option, None, Some, All, unwrap_or, map, refl}
use Rattle.std.proofs.lemmas.Bool.{false≢true}
use Rattle.std.proofs.lemmas.List.Elements.{All-nil, All-cons}
use Rattle.serde_json.specs.Data.{Data}
use Rattle.serde_json.specs.Find.{as_array, as_str}
use Rattle.std.specs.Option.{is_some}
use Rattle.json_shape.specs.Shapes.{bad, bad_item, bad_unless, first, item_step, list_of, passes, text_in, text_where, under, values_in}

pub none_first : (a b : Option (List ℕ)) → first a b ≡ None → (a ≡ None) × (b ≡ None)
none_first None b e = (refl, e)
none_first (Some path) b e = absurd (cc)

pub none_under : (step : List ℕ) (found : Option (List ℕ)) → under step found ≡ None → found ≡ None
none_under step None e = refl
none_under step (Some path) e = absurd (cc)

pub none_unless : (good : Bool) → bad_unless good ≡ None → good ≡ true
none_unless true e = refl
none_unless false e = absurd (cc)

-- a text that passes
pub passed_text : (test : List ℕ → Bool) (found : Option (List ℕ)) → bad_unless (passes test found) ≡ None → test (unwrap_or found []) ≡ true
passed_text test None e = absurd (false≢true (none_unless false e))
passed_text test (Some t) e = none_unless (test t) e

none_items : (test : List ℕ → Bool) (index : ℕ) (ds : List Data) → bad_item (bad (text_where test)) index ds ≡ None → All (λ t. test t ≡ true) (map text_in ds)
none_items test index [] e = All-nil (λ t. test t ≡ true)
none_items test index (d ∷ ds) e =
    let h = none_first (under (item_step index) (bad (text_where test) d)) (bad_item (bad (text_where test)) (index + 1) ds) e in
    All-cons (λ t. test t ≡ true) (text_in d) (map text_in ds) (passed_text test (as_str d) (none_under (item_step index) (bad (text_where test) d) h.0))
    (none_items test (index + 1) ds h.1)

-- texts that pass
pub passed_texts : (test : List ℕ → Bool) (d : Data) → bad (list_of (text_where test)) d ≡ None → All (λ t. test t ≡ true) (map text_in (values_in d))
passed_texts test d e =
    none_items test 0 (values_in d) (none_first (bad_unless (is_some (as_array d))) (bad_item (bad (text_where test)) 0 (values_in d)) e).1
