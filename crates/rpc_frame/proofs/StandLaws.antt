-- What a further byte makes of what stands in a header part.
use Rattle.std.proofs.Common.{◌≡◌, ◌≢◌, ℕ, ◌+◌, ◌-◌, ◌*◌, ◌<◌, inl, inr, true, false, ◌&&◌, eqb, nat_lt, Option, Some, None, List, [], ◌∷◌, ◌++◌, length, take, get_or, sym, ◌∙◌, ap, subst, refl, arith, append_assoc, length-append}
use Rattle.std.proofs.lemmas.List.{append-nil, length-map, length-take-le, map-append, take_more, take_all, get_or_at, length_push, nil_from_length}
use Rattle.std.proofs.lemmas.List.Concat.{flat_map-append}
use Rattle.std.proofs.lemmas.Bool.{and_parts, and_cases, and_from, both_ways, cond_both, eqb-true, eqb-false, eq-eqb, ltb-true, ltb-false, lt-ltb}
use Rattle.std.specs.List.{flat_map}
use Rattle.std.specs.Char.{is_ascii_digit, to_ascii_lowercase}
use Rattle.rpc_frame.specs.Limits.{content_limit}
use Rattle.rpc_frame.specs.declared.damage.DamageKind.TheVariants.{BadLine, TwoLengths, BadLength, TooLong, NoLength}
use Rattle.rpc_frame.specs.declared.head.Spot.{Spot}
use Rattle.rpc_frame.specs.declared.head.Spot.TheVariants.{Field, Name, Value, Digits, Behind, LineEnd, Closing}
use Rattle.rpc_frame.specs.declared.head.Head.{Head}
use Rattle.rpc_frame.specs.declared.head.Next.{Next}
use Rattle.rpc_frame.specs.declared.head.Next.TheVariants.{On, Closed, Bad}
use Rattle.rpc_frame.specs.Frames.{name_byte, value_byte, blank_byte, EachPasses, HeaderLine, line_text, IsLine, AreLines, length_name, IsLengthName, IsLength, IsSize, LacksLength, OneLength, IsHeader, number_behind}
use Rattle.rpc_frame.specs.Damages.{Lengths, InDigits, BehindDigits, IsOfKind}
use Rattle.rpc_frame.specs.Heads.{on, lines_next, length_next, goes_on, field_next, name_next, value_next, other_next, figure_next, digits_next, behind_next, end_next, closing_next, spot_next, run, start, reading}
use Rattle.rpc_frame.proofs.Bytes.{low, digit_is, passes_push, passes_append, blanks_values, digits_values, AreDigits-push}
use Rattle.rpc_frame.proofs.Stands.{InField, InName, InValue, InLength, InBlanks, Adds, AtEnd, InLine, LinesThen, Stands, Leads}

pub length-length_name : length length_name ≡ 14
unfolding length_name
length-length_name = refl

pub pushed : (bytes front line : List ℕ) (b : ℕ) → bytes ≡ front ++ line → bytes ++ b ∷ [] ≡ front ++ (line ++ b ∷ [])
pushed bytes front line b e = ap (λ t. t ++ b ∷ []) e ∙ append_assoc front line (b ∷ [])

-- the line goes on
goes : (spot : Spot) (size said : Option ℕ) (bytes line : List ℕ) (b : ℕ) → LinesThen size line bytes → InLine spot size said (line ++ b ∷ []) → Leads (on said spot) bytes b
goes spot size said bytes line b l h = record {
  size = size;
  line = line ++ b ∷ [];
  lines = record { lines = l.lines; each = l.each; lengths = l.lengths; whole = pushed bytes (flat_map line_text l.lines) line b l.whole };
  in_line = h;
}

breaks : (kind : _) (size : Option ℕ) (bytes line : List ℕ) (b : ℕ) → LinesThen size line bytes → IsOfKind kind size line b → Leads (Bad kind) bytes b
breaks kind size bytes line b l h = record { size = size; line = line; lines = l; of_kind = h }

-- Names.
field_length : (at : ℕ) (line : List ℕ) → InField at line → length line ≡ at
field_length at line r = omega (arith, ap length r.begins, length-map line to_ascii_lowercase, length-take-le at length_name (omega (arith, length-length_name, r.limit)))

at_line_start : (line : List ℕ) → InField 0 line → line ≡ []
at_line_start line r = nil_from_length line (field_length 0 line r)

lines_leads : (size : Option ℕ) (bytes line : List ℕ) (b : ℕ) → LinesThen size line bytes → line ≡ [] → b ≡ 13 → Leads (lines_next size) bytes b
lines_leads None bytes line b l e closing = breaks NoLength None bytes line b l (refl, e, closing)
lines_leads (Some size) bytes line b l e closing =
    goes (Closing size) (Some size) (Some size) bytes line b l (refl, ap (λ t. t ++ b ∷ []) e ∙ ap (λ c. c ∷ []) closing)

length_leads : (size : Option ℕ) (bytes line : List ℕ) (b : ℕ) → LinesThen size line bytes → EachPasses name_byte line → IsLengthName line → b ≡ 58 → Leads (length_next size) bytes b
length_leads None bytes line b l passes named colon =
    goes (Digits 0 0) None None bytes line b l (
      refl,
      refl,
      record {
        digits = [];
        stands = record { name = line; before = []; named = named; passes = passes; blank = tt; each = tt; whole = ap (λ c. line ++ c ∷ []) colon };
        counted = refl;
        eight = omega arith;
        written = refl;
        limit = omega arith;
      },
    )
length_leads (Some size) bytes line b l passes named colon = breaks TwoLengths (Some size) bytes line b l ((λ e. cc), passes, named, colon)

-- another name, and its colon
name_ends : (line : List ℕ) (b : ℕ) → EachPasses name_byte line → 0 < length line → (IsLengthName line → ⊥) → b ≡ 58 → InValue (line ++ b ∷ [])
name_ends line b passes some other colon = record {
  text = record { name = line; value = [] };
  «is» = record { some = some; name = passes; value = tt };
  other = other;
  whole = ap (λ c. line ++ c ∷ []) colon;
}

field_goes : (at : ℕ) (line : List ℕ) (b : ℕ) → InField at line → name_byte b ≡ true → goes_on at b ≡ true → InField (at + 1) (line ++ b ∷ [])
unfolding goes_on
field_goes at line b r name g =
    let parts = and_parts (nat_lt at 14) (eqb (to_ascii_lowercase b) (get_or length_name at 0)) g in
    let inside : at < 14 = ltb-true at 14 parts.0 in
    let same : to_ascii_lowercase b ≡ get_or length_name at 0 = eqb-true (to_ascii_lowercase b) (get_or length_name at 0) parts.1 in
    record {
      passes = passes_push name_byte line b r.passes name;
      begins = map-append to_ascii_lowercase line (b ∷ []) ∙ ap (λ t. t ++ to_ascii_lowercase b ∷ []) r.begins
          ∙ ap (λ c. take at length_name ++ c ∷ []) same ∙ sym (take_more length_name at 0 (omega (arith, length-length_name)));
      limit = omega arith;
    }

field_stops : (at : ℕ) (line : List ℕ) (b : ℕ) → InField at line → name_byte b ≡ true → goes_on at b ≡ false → InName (line ++ b ∷ [])
unfolding goes_on
field_stops at line b r name g = record {
  passes = passes_push name_byte line b r.passes name;
  some = omega (arith, length_push line b);
  other = λ t e.
      let long = field_length at line r in
      let shown : low line ++ (to_ascii_lowercase b ∷ low t) ≡ length_name =
      sym (map-append to_ascii_lowercase line (b ∷ t)) ∙ sym (ap low (append_assoc line (b ∷ []) t)) ∙ e in
      let inside : at < 14 = omega (arith, length-length_name, ap length shown, length-append (low line) (to_ascii_lowercase b ∷ low t), length-map line to_ascii_lowercase) in
      let same : get_or length_name at 0 ≡ to_ascii_lowercase b =
      ap (λ s. get_or s at 0) (sym shown) ∙ get_or_at (low line) (to_ascii_lowercase b) (low t) 0 at (length-map line to_ascii_lowercase ∙ long) in
      both_ways (nat_lt at 14 && eqb (to_ascii_lowercase b) (get_or length_name at 0)) g
      (and_from (nat_lt at 14) (eqb (to_ascii_lowercase b) (get_or length_name at 0)) (lt-ltb at 14 inside) (eq-eqb (to_ascii_lowercase b) (get_or length_name at 0) (sym same)));
}

-- the part of a name in front of a byte that breaks it
closing_apart : (at b : ℕ) (line : List ℕ) → InField at line → (eqb at 0 && eqb b 13) ≡ false → b ≡ 13 → line ≢ []
closing_apart at b line r f e none =
    let start : at ≡ 0 = omega (arith, field_length at line r, ap length none) in
    both_ways (eqb at 0 && eqb b 13) f (and_from (eqb at 0) (eqb b 13) (eq-eqb at 0 start) (eq-eqb b 13 e))

colon_first : (at b : ℕ) (line : List ℕ) → InField at line → (nat_lt 0 at && eqb b 58) ≡ false → b ≡ 58 → line ≡ []
colon_first at b line r f e = elim (and_cases (nat_lt 0 at) (eqb b 58) f) [
  | inl early ↦ nil_from_length line (omega (arith, field_length at line r, ltb-false 0 at early))
  | inr other ↦ absurd (eqb-false b 58 other e)
]

field_leads : (at : ℕ) (size : Option ℕ) (bytes line : List ℕ) (b : ℕ) → LinesThen size line bytes → InField at line → Leads (field_next at size b) bytes b
unfolding field_next
field_leads at size bytes line b l r =
    cond_both (eqb at 0 && eqb b 13) _ _ (λ n. Leads n bytes b)
    (λ closing.
    let parts = and_parts (eqb at 0) (eqb b 13) closing in
    let start : at ≡ 0 = eqb-true at 0 parts.0 in
    lines_leads size bytes line b l (nil_from_length line (field_length at line r ∙ start)) (eqb-true b 13 parts.1))
    (λ going. cond_both (nat_lt 0 at && eqb b 58) _ _ (λ n. Leads n bytes b)
    (λ colon.
    let parts = and_parts (nat_lt 0 at) (eqb b 58) colon in
    let some : 0 < at = ltb-true 0 at parts.0 in
    let e : b ≡ 58 = eqb-true b 58 parts.1 in
    cond_both (eqb at 14) _ _ (λ n. Leads n bytes b)
    (λ full.
    let all : take at length_name ≡ length_name = take_all at length_name (omega (arith, eqb-true at 14 full, length-length_name)) in
    length_leads size bytes line b l r.passes (r.begins ∙ all) e)
    (λ part. goes Value size size bytes line b l (
      refl,
      name_ends line b r.passes (omega (arith, field_length at line r))
          (λ named. eqb-false at 14 part (omega (arith, field_length at line r, ap length named, length-map line to_ascii_lowercase, length-length_name))) e,
    )))
    (λ named. cond_both (name_byte b) _ _ (λ n. Leads n bytes b)
    (λ passes. cond_both (goes_on at b) _ _ (λ n. Leads n bytes b)
    (λ g. goes (Field (at + 1)) size size bytes line b l (refl, field_goes at line b r passes g))
    (λ g. goes Name size size bytes line b l (refl, field_stops at line b r passes g)))
    (λ fails. breaks BadLine size bytes line b l
    (inl (record { name = r.passes; other = fails; colon = colon_first at b line r named; closing = closing_apart at b line r going })))))

name_leads : (size : Option ℕ) (bytes line : List ℕ) (b : ℕ) → LinesThen size line bytes → InName line → Leads (name_next size b) bytes b
unfolding name_next
name_leads size bytes line b l r =
    cond_both (eqb b 58) _ _ (λ n. Leads n bytes b)
    (λ colon. goes Value size size bytes line b l (refl, name_ends line b r.passes r.some (λ named. r.other [] (ap low (append-nil line) ∙ named)) (eqb-true b 58 colon)))
    (λ going. cond_both (name_byte b) _ _ (λ n. Leads n bytes b)
    (λ passes. goes Name size size bytes line b l (
      refl,
      record {
        passes = passes_push name_byte line b r.passes passes;
        some = omega (arith, length_push line b);
        other = λ t e. r.other (b ∷ t) (ap low (sym (append_assoc line (b ∷ []) t)) ∙ e);
      },
    ))
    (λ fails. breaks BadLine size bytes line b l (inl (record {
      name = r.passes;
      other = fails;
      colon = λ e. absurd (eqb-false b 58 going e);
      closing = λ e none. omega (arith, r.some, ap length none);
    }))))

-- Values.
value_push : (name value : List ℕ) (b : ℕ) (line : List ℕ) → line ≡ name ++ (58 ∷ value) → line ++ b ∷ [] ≡ name ++ (58 ∷ (value ++ b ∷ []))
value_push name value b line e = pushed line name (58 ∷ value) b e

value_leads : (size : Option ℕ) (bytes line : List ℕ) (b : ℕ) → LinesThen size line bytes → InValue line → Leads (value_next size b) bytes b
unfolding value_next
value_leads size bytes line b l r =
    cond_both (eqb b 13) _ _ (λ n. Leads n bytes b)
    (λ ends. goes LineEnd size size bytes line b l (record {
      text = r.text;
      «is» = r.is;
      adds = inl (r.other, refl);
      whole = value_push r.text.name r.text.value b line r.whole ∙ ap (λ c. r.text.name ++ (58 ∷ (r.text.value ++ c ∷ []))) (eqb-true b 13 ends);
    }))
    (λ going. cond_both (value_byte b) _ _ (λ n. Leads n bytes b)
    (λ passes. goes Value size size bytes line b l (
      refl,
      record {
        text = record { name = r.text.name; value = r.text.value ++ b ∷ [] };
        «is» = record { some = r.is.some; name = r.is.name; value = passes_push value_byte r.text.value b r.is.value passes };
        other = r.other;
        whole = value_push r.text.name r.text.value b line r.whole;
      },
    ))
    (λ fails. breaks BadLine size bytes line b l (inr (inl (record { text = r.text; «is» = r.is; whole = r.whole; other = fails; «end» = eqb-false b 13 going })))))

-- The value of Content-Length.
pub number_behind-append : (n : ℕ) (ds es : List ℕ) → number_behind n (ds ++ es) ≡ number_behind (number_behind n ds) es
number_behind-append n [] es = refl
number_behind-append n (c ∷ ds) es = number_behind-append (10 * n + (c - 48)) ds es

pub named_some : (name : List ℕ) → IsLengthName name → 0 < length name
named_some name named = omega (arith, ap length named, length-map name to_ascii_lowercase, length-length_name)

-- the line of a Content-Length as far as its value has come
digits_line : (line digits : List ℕ) → (r : InDigits line digits) → IsLine (record { name = r.name; value = r.before ++ digits })
digits_line line digits r = record {
  some = named_some r.name r.named;
  name = r.passes;
  value = passes_append value_byte r.before digits (blanks_values r.before r.blank) (digits_values digits r.each);
}

digits_push : (line digits : List ℕ) (b : ℕ) → InDigits line digits → is_ascii_digit b ≡ true → InDigits (line ++ b ∷ []) (digits ++ b ∷ [])
digits_push line digits b r digit = record {
  name = r.name;
  before = r.before;
  named = r.named;
  passes = r.passes;
  blank = r.blank;
  each = AreDigits-push digits b r.each (digit_is b digit);
  whole = value_push r.name (r.before ++ digits) b line r.whole ∙ ap (λ t. r.name ++ (58 ∷ t)) (append_assoc r.before digits (b ∷ []));
}

-- blanks in front of the digits
blanks_push : (line digits : List ℕ) (b : ℕ) → InDigits line digits → digits ≡ [] → blank_byte b ≡ true → InDigits (line ++ b ∷ []) []
blanks_push line digits b r none blank = record {
  name = r.name;
  before = r.before ++ b ∷ [];
  named = r.named;
  passes = r.passes;
  blank = passes_push blank_byte r.before b r.blank blank;
  each = tt;
  whole = value_push r.name r.before b line (r.whole ∙ ap (λ t. r.name ++ (58 ∷ t)) (ap (λ t. r.before ++ t) none ∙ append-nil r.before))
      ∙ ap (λ t. r.name ++ (58 ∷ t)) (sym (append-nil (r.before ++ b ∷ [])));
}

more_number : (count number b : ℕ) (line : List ℕ) → (r : InLength count number line) → number_behind 0 (r.digits ++ b ∷ []) ≡ 10 * number + (b - 48)
more_number count number b line r = number_behind-append 0 r.digits (b ∷ []) ∙ ap (λ n. 10 * n + (b - 48)) r.written

figure_leads : (count number : ℕ) (size : Option ℕ) (bytes line : List ℕ) (b : ℕ) → LinesThen size line bytes → size ≡ None → InLength count number line → is_ascii_digit b ≡ true → Leads (figure_next count number size (b - 48)) bytes b
unfolding figure_next
figure_leads count number size bytes line b l none r digit =
    cond_both (eqb count 8) _ _ (λ n. Leads n bytes b)
    (λ full. breaks BadLength size bytes line b l (none, inl (record { digits = r.digits; stands = r.stands; breaks = inr (inl (digit, r.counted ∙ eqb-true count 8 full)) })))
    (λ few.
    let room : count < 8 = omega (arith, r.eight, eqb-false count 8 few) in
    cond_both (nat_lt content_limit (10 * number + (b - 48))) _ _ (λ n. Leads n bytes b)
    (λ large. breaks TooLong size bytes line b l (
      none,
      record {
        digits = r.digits;
        stands = r.stands;
        few = omega (arith, r.counted);
        digit = digit;
        large = subst (λ n. content_limit < n) (sym (more_number count number b line r)) (ltb-true content_limit (10 * number + (b - 48)) large);
      },
    ))
    (λ fits. goes (Digits (count + 1) (10 * number + (b - 48))) size size bytes line b l (
      refl,
      none,
      record {
        digits = r.digits ++ b ∷ [];
        stands = digits_push line r.digits b r.stands digit;
        counted = omega (arith, length_push r.digits b, r.counted);
        eight = omega arith;
        written = more_number count number b line r;
        limit = ltb-false content_limit (10 * number + (b - 48)) fits;
      },
    )))

sized : (count number : ℕ) (line : List ℕ) → (r : InLength count number line) → (count ≡ 0 → ⊥) → IsSize r.digits number
sized count number line r some = record {
  each = r.stands.each;
  one = omega (arith, r.counted);
  eight = omega (arith, r.counted, r.eight);
  number = r.written;
  limit = r.limit;
}

-- a value of Content-Length up to its end
value_ends : (size : Option ℕ) (text : HeaderLine) (line : List ℕ) (b number : ℕ) → IsLine text → IsLengthName text.name → IsLength text.value number → size ≡ None → line ≡ text.name ++ (58 ∷ text.value) → b ≡ 13 → AtEnd size (Some number) (line ++ b ∷ [])
value_ends size text line b number is named says none whole e = record {
  text = text;
  «is» = is;
  adds = inr (named, none, record { number = number; length = says; «is» = refl });
  whole = value_push text.name text.value b line whole ∙ ap (λ c. text.name ++ (58 ∷ (text.value ++ c ∷ []))) e;
}

other_leads : (size : Option ℕ) (bytes line : List ℕ) (text : HeaderLine) (b : ℕ) → LinesThen size line bytes → IsLine text → line ≡ text.name ++ (58 ∷ text.value) → (b ≡ 13 → ⊥) → (value_byte b ≡ true → IsOfKind BadLength size line b) → Leads (other_next b) bytes b
unfolding other_next
other_leads size bytes line text b l is whole going bad =
    cond_both (value_byte b) _ _ (λ n. Leads n bytes b)
    (λ passes. breaks BadLength size bytes line b l (bad passes))
    (λ fails. breaks BadLine size bytes line b l (inr (inl (record { text = text; «is» = is; whole = whole; other = fails; «end» = going }))))

digits_leads : (count number : ℕ) (size : Option ℕ) (bytes line : List ℕ) (b : ℕ) → LinesThen size line bytes → size ≡ None → InLength count number line → Leads (digits_next count number size b) bytes b
unfolding digits_next
digits_leads count number size bytes line b l none r =
    let d = r.stands in
    let text : HeaderLine = record { name = d.name; value = d.before ++ r.digits } in
    cond_both (is_ascii_digit b) _ _ (λ n. Leads n bytes b)
    (λ digit. figure_leads count number size bytes line b l none r digit)
    (λ other. cond_both (eqb b 13) _ _ (λ n. Leads n bytes b)
    (λ ends. cond_both (eqb count 0) _ _ (λ n. Leads n bytes b)
    (λ early. breaks BadLength size bytes line b l (
      none,
      inl (record {
        digits = r.digits;
        stands = d;
        breaks = inr (inr (eqb-true b 13 ends, nil_from_length r.digits (r.counted ∙ eqb-true count 0 early)));
      }),
    ))
    (λ some. goes LineEnd size (Some number) bytes line b l
    (value_ends size text line b number (digits_line line r.digits d) d.named (record {
      before = d.before;
      digits = r.digits;
      after = [];
      blank_before = d.blank;
      sized = sized count number line r (eqb-false count 0 some);
      blank_after = tt;
      whole = ap (λ t. d.before ++ t) (sym (append-nil r.digits));
    }) none d.whole (eqb-true b 13 ends))))
    (λ going. cond_both (blank_byte b) _ _ (λ n. Leads n bytes b)
    (λ blank. cond_both (eqb count 0) _ _ (λ n. Leads n bytes b)
    (λ early.
    let e : r.digits ≡ [] = nil_from_length r.digits (r.counted ∙ eqb-true count 0 early) in
    goes (Digits count number) size size bytes line b l (
      refl,
      none,
      record {
        digits = [];
        stands = blanks_push line r.digits b d e blank;
        counted = sym (eqb-true count 0 early);
        eight = r.eight;
        written = ap (number_behind 0) (sym e) ∙ r.written;
        limit = r.limit;
      },
    ))
    (λ some. goes (Behind number) size size bytes line b l (
      refl,
      none,
      record {
        behind = record {
          digits = r.digits;
          after = b ∷ [];
          front = line;
          stands = d;
          one = omega (arith, r.counted, eqb-false count 0 some);
          some = omega arith;
          blank = (blank, tt);
          whole = refl;
        };
        sized = sized count number line r (eqb-false count 0 some);
      },
    )))
    (λ solid. other_leads size bytes line text b l (digits_line line r.digits d) d.whole (eqb-false b 13 going)
    (λ passes. (none, inl (record { digits = r.digits; stands = d; breaks = inl (passes, other, solid) }))))))

-- Behind the digits.
behind_whole : (line : List ℕ) → (r : BehindDigits line) → line ≡ r.stands.name ++ (58 ∷ ((r.stands.before ++ r.digits) ++ r.after))
behind_whole line r = r.whole ∙ ap (λ t. t ++ r.after) r.stands.whole ∙ append_assoc r.stands.name (58 ∷ (r.stands.before ++ r.digits)) r.after

behind_line : (line : List ℕ) → (r : BehindDigits line) → IsLine (record { name = r.stands.name; value = (r.stands.before ++ r.digits) ++ r.after })
behind_line line r =
    let front = digits_line r.front r.digits r.stands in
    record {
      some = front.some;
      name = front.name;
      value = passes_append value_byte (r.stands.before ++ r.digits) r.after front.value (blanks_values r.after r.blank);
    }

behind_leads : (number : ℕ) (size : Option ℕ) (bytes line : List ℕ) (b : ℕ) → LinesThen size line bytes → size ≡ None → InBlanks number line → Leads (behind_next number size b) bytes b
unfolding behind_next
behind_leads number size bytes line b l none r =
    let h = r.behind in
    let text : HeaderLine = record { name = h.stands.name; value = (h.stands.before ++ h.digits) ++ h.after } in
    let is : IsLine text = behind_line line h in
    let whole : line ≡ text.name ++ (58 ∷ text.value) = behind_whole line h in
    cond_both (eqb b 13) _ _ (λ n. Leads n bytes b)
    (λ ends. goes LineEnd size (Some number) bytes line b l
    (value_ends size text line b number is h.stands.named (record {
      before = h.stands.before;
      digits = h.digits;
      after = h.after;
      blank_before = h.stands.blank;
      sized = r.sized;
      blank_after = h.blank;
      whole = append_assoc h.stands.before h.digits h.after;
    }) none whole (eqb-true b 13 ends)))
    (λ going. cond_both (blank_byte b) _ _ (λ n. Leads n bytes b)
    (λ blank. goes (Behind number) size size bytes line b l (
      refl,
      none,
      record {
        behind = record {
          digits = h.digits;
          after = h.after ++ b ∷ [];
          front = h.front;
          stands = h.stands;
          one = h.one;
          some = omega (arith, length_push h.after b);
          blank = passes_push blank_byte h.after b h.blank blank;
          whole = pushed line h.front h.after b h.whole;
        };
        sized = r.sized;
      },
    ))
    (λ solid. other_leads size bytes line text b l is whole (eqb-false b 13 going)
    (λ passes. (none, inr (record { behind = h; other = (passes, solid) })))))

-- The ends of lines.
none_push : (ls : List HeaderLine) (t : HeaderLine) → LacksLength ls → (IsLengthName t.name → ⊥) → LacksLength (ls ++ t ∷ [])
none_push [] t h other = (other, tt)
none_push (l ∷ ls) t h other = (h.0, none_push ls t h.1 other)

one_push : (ls : List HeaderLine) (t : HeaderLine) (n : ℕ) → OneLength ls n → (IsLengthName t.name → ⊥) → OneLength (ls ++ t ∷ []) n
one_push [] t n h other = absurd h
one_push (l ∷ ls) t n h other = elim h [
  | inl p ↦ inl (p.0, p.1, none_push ls t p.2 other)
  | inr p ↦ inr (p.0, one_push ls t n p.1 other)
]

first_push : (ls : List HeaderLine) (t : HeaderLine) (n : ℕ) → LacksLength ls → IsLengthName t.name → IsLength t.value n → OneLength (ls ++ t ∷ []) n
first_push [] t n h named says = inl (named, says, tt)
first_push (l ∷ ls) t n h named says = inr (h.0, first_push ls t n h.1 named says)

kept_push : (ls : List HeaderLine) (t : HeaderLine) (size : Option ℕ) → Lengths ls size → (IsLengthName t.name → ⊥) → Lengths (ls ++ t ∷ []) size
kept_push ls t None h other = none_push ls t h other
kept_push ls t (Some n) h other = one_push ls t n h other

lengths_push : (ls : List HeaderLine) (t : HeaderLine) (size said : Option ℕ) → Lengths ls size → Adds t size said → Lengths (ls ++ t ∷ []) said
lengths_push ls t size said h adds = elim adds [
  | inl p ↦ subst (Lengths (ls ++ t ∷ [])) (sym p.1) (kept_push ls t size h p.0)
  | inr p ↦ subst (Lengths (ls ++ t ∷ [])) (sym p.2.is) (first_push ls t p.2.number (subst (Lengths ls) p.1 h) p.0 p.2.length)
]

lines_push : (ls : List HeaderLine) (t : HeaderLine) → AreLines ls → IsLine t → AreLines (ls ++ t ∷ [])
lines_push [] t h is = (is, tt)
lines_push (l ∷ ls) t h is = (h.0, lines_push ls t h.1 is)

end_leads : (size said : Option ℕ) (bytes line : List ℕ) (b : ℕ) → LinesThen size line bytes → AtEnd size said line → Leads (end_next said b) bytes b
unfolding end_next
end_leads size said bytes line b l r =
    let t = r.text in
    cond_both (eqb b 10) _ _ (λ n. Leads n bytes b)
    (λ ends.
    let last : line ++ b ∷ [] ≡ line_text t =
    pushed line t.name (58 ∷ (t.value ++ 13 ∷ [])) b r.whole
    ∙ ap (λ s. t.name ++ (58 ∷ s)) (append_assoc t.value (13 ∷ []) (b ∷ []) ∙ ap (λ c. t.value ++ (13 ∷ (c ∷ []))) (eqb-true b 10 ends)) in
    record {
      size = said;
      line = [];
      lines = record {
        lines = l.lines ++ t ∷ [];
        each = lines_push l.lines t l.each r.is;
        lengths = lengths_push l.lines t size said l.lengths r.adds;
        whole = pushed bytes (flat_map line_text l.lines) line b l.whole
            ∙ ap (λ s. flat_map line_text l.lines ++ s) (last ∙ sym (append-nil (line_text t)))
            ∙ sym (flat_map-append line_text l.lines (t ∷ []))
            ∙ sym (append-nil (flat_map line_text (l.lines ++ t ∷ [])));
      };
      in_line = (refl, record { passes = tt; begins = refl; limit = omega arith });
    })
    (λ going. breaks BadLine size bytes line b l (inr (inr (inl (record { text = t; «is» = r.is; whole = r.whole; other = eqb-false b 10 going })))))

closing_leads : (number : ℕ) (size : Option ℕ) (bytes line : List ℕ) (b : ℕ) → LinesThen size line bytes → size ≡ Some number → line ≡ 13 ∷ [] → Leads (closing_next number b) bytes b
unfolding closing_next
closing_leads number size bytes line b l said closing =
    cond_both (eqb b 10) _ _ (λ n. Leads n bytes b)
    (λ ends. record {
      lines = l.lines;
      each = l.each;
      once = subst (Lengths l.lines) said l.lengths;
      whole = pushed bytes (flat_map line_text l.lines) line b l.whole
          ∙ ap (λ s. flat_map line_text l.lines ++ s) (ap (λ t. t ++ b ∷ []) closing ∙ ap (λ c. 13 ∷ (c ∷ [])) (eqb-true b 10 ends));
    })
    (λ going. breaks BadLine size bytes line b l (inr (inr (inr (record { whole = closing; other = eqb-false b 10 going })))))

-- Each byte leads on from what stands.
spot_leads : (spot : Spot) (size said : Option ℕ) (bytes line : List ℕ) (b : ℕ) → LinesThen size line bytes → InLine spot size said line → Leads (spot_next spot said b) bytes b
spot_leads (Field at) size said bytes line b l h = subst (λ s. Leads (field_next at s b) bytes b) (sym h.0) (field_leads at size bytes line b l h.1)
spot_leads Name size said bytes line b l h = subst (λ s. Leads (name_next s b) bytes b) (sym h.0) (name_leads size bytes line b l h.1)
spot_leads Value size said bytes line b l h = subst (λ s. Leads (value_next s b) bytes b) (sym h.0) (value_leads size bytes line b l h.1)
spot_leads (Digits count number) size said bytes line b l h = subst (λ s. Leads (digits_next count number s b) bytes b) (sym h.0) (digits_leads count number size bytes line b l h.1 h.2)
spot_leads (Behind number) size said bytes line b l h = subst (λ s. Leads (behind_next number s b) bytes b) (sym h.0) (behind_leads number size bytes line b l h.1 h.2)
spot_leads LineEnd size said bytes line b l h = end_leads size said bytes line b l h
spot_leads (Closing number) size said bytes line b l h = closing_leads number size bytes line b l h.0 h.1

pub stands_leads : (head : Head) (bytes : List ℕ) (b : ℕ) → Stands head bytes → Leads (spot_next head.spot head.size b) bytes b
stands_leads head bytes b s = spot_leads head.spot s.size head.size bytes s.line b s.lines s.in_line

-- what stands in the bytes that led to here
abbrev At : Next → List ℕ → Type 0
At (On head) bytes = Stands head bytes
At (Closed size) bytes = IsHeader bytes size
At (Bad kind) bytes = Unit {0}

at_leads : (n : Next) (bytes : List ℕ) (b : ℕ) → Leads n bytes b → At n (bytes ++ b ∷ [])
at_leads (On head) bytes b h = h
at_leads (Closed size) bytes b h = h
at_leads (Bad kind) bytes b h = tt

run_at : (n : Next) (x bytes : List ℕ) → At n bytes → At (run n x) (bytes ++ x)
run_at n [] bytes h = subst (At n) (sym (append-nil bytes)) h
run_at (On head) (b ∷ x) bytes h =
    let next = spot_next head.spot head.size b in
    subst (At (run next x)) (append_assoc bytes (b ∷ []) x) (run_at next x (bytes ++ b ∷ []) (at_leads next bytes b (stands_leads head bytes b h)))
run_at (Closed size) (b ∷ x) bytes h = tt
run_at (Bad kind) (b ∷ x) bytes h = tt

stands_start : Stands (record { size = None; spot = Field 0 }) []
stands_start = record {
  size = None;
  line = [];
  lines = record { lines = []; each = tt; lengths = tt; whole = refl };
  in_line = (refl, record { passes = tt; begins = refl; limit = omega arith });
}

reading_at : (bytes : List ℕ) → At (reading bytes) bytes
reading_at bytes = run_at start bytes [] stands_start

pub reading_stands : (bytes : List ℕ) (head : Head) → reading bytes ≡ On head → Stands head bytes
reading_stands bytes head e = subst (λ n. At n bytes) e (reading_at bytes)

-- What is read to its end is a header part.
pub closed_header : (bytes : List ℕ) (size : ℕ) → reading bytes ≡ Closed size → IsHeader bytes size
closed_header bytes size e = subst (λ n. At n bytes) e (reading_at bytes)
