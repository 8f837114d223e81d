-- What was looked at of a comment's body: however its rest goes on, the body goes on so.
use Rattle.std.proofs.Common.{◌≡◌, ℕ, zero, suc, ◌+◌, ◌-◌, ◌<◌, ◌≤◌, false, List, [], ◌∷◌, length, get_or, drop, refl, sym, ap, subst, ◌∙◌, arith, add-one}
use Rattle.std.proofs.lemmas.List.{drop_more, length-drop}
use Rattle.std.proofs.lemmas.Bool.Decides.{nat_tests}
use Rattle.oberon_scan.specs.declared.comment.Mark.TheVariants as marks
use Rattle.oberon_scan.specs.Mark.{mark_of}
use Rattle.oberon_scan.specs.Comments.{opens_comment, closes_comment, Closes, StaysOpen}

pub record Skipped (body : List ℕ) (at depth : ℕ) : Type 0 where
  pub closes : (after : List ℕ) → Closes depth (drop at body) after → Closes 1 body after
  pub stays : StaysOpen depth (drop at body) → StaysOpen 1 body
  pub open_still : 0 < depth
  pub counted : depth ≤ 1 + at
  pub within : at ≤ length body

pair_here : (body : List ℕ) (at : ℕ) → at + 1 < length body → drop at body ≡ get_or body at 0 ∷ get_or body (at + 1) 0 ∷ drop (at + 2) body
pair_here body at h =
    let e : at + 1 + 1 ≡ at + 2 = omega arith in
    drop_more body at 0 (omega arith) ∙ ap (λ xs. get_or body at 0 ∷ xs) (drop_more body (at + 1) 0 h ∙ ap (λ n. get_or body (at + 1) 0 ∷ drop n body) e)

mark_opens : (a b : ℕ) → mark_of a b ≡ marks.Opens → (a ≡ 40) × (b ≡ 42)
mark_opens a b e = (grind (arith, nat_tests), grind (arith, nat_tests))

mark_closes : (a b : ℕ) → mark_of a b ≡ marks.Closes → (a ≡ 42) × (b ≡ 41)
mark_closes a b e = (grind (arith, nat_tests), grind (arith, nat_tests))

mark_neither : (a b : ℕ) (rest : List ℕ) → mark_of a b ≡ marks.Neither → (opens_comment (a ∷ b ∷ rest) ≡ false) × (closes_comment (a ∷ b ∷ rest) ≡ false)
mark_neither a b rest e = (grind (arith, nat_tests), grind (arith, nat_tests))

-- the two bytes that stand next, where they are these
next_are : (body : List ℕ) (at a b : ℕ) → at + 1 < length body → (get_or body at 0 ≡ a) × (get_or body (at + 1) 0 ≡ b) → drop at body ≡ a ∷ b ∷ drop (at + 2) body
next_are body at a b h p =
    pair_here body at h ∙ (ap (λ x. x ∷ get_or body (at + 1) 0 ∷ drop (at + 2) body) p.0 ∙ ap (λ y. a ∷ y ∷ drop (at + 2) body) p.1)

pub opens_more : (body : List ℕ) (at depth : ℕ) → at + 1 < length body → mark_of (get_or body at 0) (get_or body (at + 1) 0) ≡ marks.Opens → Skipped body at depth → Skipped body (at + 2) (depth + 1)
opens_more body at zero h e s = absurd (omega arith)
opens_more body at (suc n) h e s =
    let here = next_are body at 40 42 h (mark_opens (get_or body at 0) (get_or body (at + 1) 0) e) in
    let rest = drop (at + 2) body in
    record {
      closes = λ after k. s.closes after (Closes.opens here (subst (λ d. Closes d rest after) (add-one (suc n)) k));
      stays = λ k. s.stays (StaysOpen.opens here (subst (λ d. StaysOpen d rest) (add-one (suc n)) k));
      open_still = omega arith;
      counted = omega arith;
      within = omega arith;
    }

pub closes_one : (body : List ℕ) (at depth : ℕ) → at + 1 < length body → mark_of (get_or body at 0) (get_or body (at + 1) 0) ≡ marks.Closes → (depth ≡ 1 → ⊥) → Skipped body at depth → Skipped body (at + 2) (depth - 1)
closes_one body at zero h e d s = absurd (omega arith)
closes_one body at (suc n) h e d s =
    let here = next_are body at 42 41 h (mark_closes (get_or body at 0) (get_or body (at + 1) 0) e) in
    let rest = drop (at + 2) body in
    let less : suc n - 1 ≡ n = omega arith in
    record {
      closes = λ after k. s.closes after (Closes.closes here (subst (λ d. Closes d rest after) less k));
      stays = λ k. s.stays (StaysOpen.closes here (subst (λ d. StaysOpen d rest) less k));
      open_still = omega arith;
      counted = omega arith;
      within = omega arith;
    }

pub closes_last : (body : List ℕ) (at depth : ℕ) → at + 1 < length body → mark_of (get_or body at 0) (get_or body (at + 1) 0) ≡ marks.Closes → depth ≡ 1 → Skipped body at depth → Closes 1 body (drop (at + 2) body)
closes_last body at depth h e d s =
    let here = next_are body at 42 41 h (mark_closes (get_or body at 0) (get_or body (at + 1) 0) e) in
    s.closes (drop (at + 2) body) (subst (λ d. Closes d (drop at body) (drop (at + 2) body)) (sym d) (Closes.closes here Closes.closed))

pub passes_one : (body : List ℕ) (at depth : ℕ) → at + 1 < length body → mark_of (get_or body at 0) (get_or body (at + 1) 0) ≡ marks.Neither → Skipped body at depth → Skipped body (at + 1) depth
passes_one body at zero h e s = absurd (omega arith)
passes_one body at (suc n) h e s =
    let a = get_or body at 0 in
    let b = get_or body (at + 1) 0 in
    let rest = drop (at + 2) body in
    let here = pair_here body at h in
    let none = mark_neither a b rest e in
    let no_open = ap opens_comment here ∙ none.0 in
    let no_close = ap closes_comment here ∙ none.1 in
    let one = drop_more body at 0 (omega arith) in
    record {
      closes = λ after k. s.closes after (Closes.passes a one no_open no_close k);
      stays = λ k. s.stays (StaysOpen.passes a one no_open no_close k);
      open_still = omega arith;
      counted = omega arith;
      within = omega arith;
    }

-- fewer than two bytes close nothing
short_stays : (n : ℕ) (rest : List ℕ) → length rest ≤ 1 → StaysOpen (suc n) rest
short_stays n [] h = StaysOpen.ended
short_stays n (b ∷ []) h = StaysOpen.passes b refl (grind arith) (grind arith) StaysOpen.ended
short_stays n (b ∷ x ∷ rest) h = absurd (omega arith)

pub stays_open : (body : List ℕ) (at depth : ℕ) → length body ≤ at + 1 → Skipped body at depth → StaysOpen 1 body
stays_open body at zero h s = absurd (omega arith)
stays_open body at (suc n) h s = s.stays (short_stays n (drop at body) (rw length-drop (omega arith)))

pub nothing_skipped : (body : List ℕ) → Skipped body 0 1
nothing_skipped body =
    record { closes = λ after k. k; stays = λ k. k; open_still = omega arith; counted = omega arith; within = omega arith }
