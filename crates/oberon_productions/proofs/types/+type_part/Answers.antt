use Rattle.std.proofs.Common.{suc, length, refl, sym, arith, ◌∷◌, ◌++◌, ◌∙◌, []}
use Rattle.oberon_productions.specs.Machine.{exprs_parts, fields_parts}
use Rattle.oberon_productions.specs.Tests.{is_symbol}
use Rattle.oberon_productions.proofs.Descending.{halts, via, after_symbol, after_word, entered, fewer, exits, onto, behind, after_some}
use Rattle.oberon_productions.proofs.Steps.{skip}
use Rattle.oberon_productions.proofs.Expand.{expand_record}
use Rattle.oberon_productions.proofs.Joins.{refuse_type, no_levels_type, more_fields_push, more_fields_depth}
use Rattle.oberon_tree.specs.Tokens.{word_token}
use Rattle.oberon_tree.proofs.TypeMemory.{record_made, field_lists_made}
use Rattle.oberon_productions.specs.Expected as want
use Rattle.oberon_scan.specs.declared.token.Symbol.TheVariants as symbols
use Rattle.oberon_scan.specs.declared.token.Word.TheVariants as words
use Rattle.oberon_productions.proofs.types.+type_part.Goals as goal

pub any_type-returns-in_err-member : goal.any_type-returns-in_err-member
any_type-returns-in_err-member t c =
    let h = rw c.in-Some.is at c.in_ok-first.ensures in
    exits _ _ c.from_residual-in_err-member.result c.in_err-member.field-0.0 c.from_residual-in_err-member.ensures.1
    (via (want.some_member ∷ []) ((want.type_part c.args.levels) ∷ []) _ c.args.given.now _ (λ s. s) (λ s. entered (want.type_part c.args.levels) (want.some_member ∷ []) s _ _ _ h refl) c.in_err-member.ensures)

pub any_type-returns-in-Some : goal.any_type-returns-in-Some
any_type-returns-in-Some t c =
    let h = rw c.in-Some.is at c.in_ok-first.ensures in
    record {
      spelled = onto h (behind c.in_ok-member.ensures refl);
      moves = λ s. entered (want.type_part c.args.levels) (want.some_member ∷ []) s _ _ _ h refl ∙ c.in_ok-member.ensures.moves s;
      within = omega arith;
      shorter = omega (arith, fewer h, c.in_ok-member.ensures.shorter);
    }

pub any_type-returns-then-levels-eq0 : goal.any_type-returns-then-levels-eq0
any_type-returns-then-levels-eq0 t c = halts ((want.type_part c.args.levels) ∷ []) c.args.given.now (length c.args.given.now) (λ s. no_levels_type c.args.levels s c.args.given.now c.if-levels-eq0.true (rw c.in_default.is at c.in_ok-first.ensures))

pub any_type-returns : goal.any_type-returns
any_type-returns t c = halts ((want.type_part c.args.levels) ∷ []) c.args.given.now (length c.args.given.now) (λ s. refuse_type c.args.levels s c.args.given.now (rw c.in_default.is at c.in_ok-first.ensures) c.in_default-word.ensures.none c.in_default-word-2.ensures.none)

pub array-returns-in_err-lengths : goal.array-returns-in_err-lengths
array-returns-in_err-lengths t c =
    exits _ _ c.from_residual.result c.in_err-lengths.field-0.0 c.from_residual.ensures.1
    (via (exprs_parts c.args.levels ++ []) ((want.type_part (suc c.args.levels)) ∷ []) _ (word_token words.Array c.args.span ∷ c.args.given.now) _ (λ s. (want.word words.Of ∷ (want.type_part c.args.levels ∷ s))) (λ s. entered (want.type_part (suc c.args.levels)) (exprs_parts c.args.levels ++ (want.word words.Of ∷ (want.type_part c.args.levels ∷ []))) s _ _ _ refl refl) c.in_err-lengths.ensures)

pub array-returns-in_err-of : goal.array-returns-in_err-of
array-returns-in_err-of t c =
    exits _ _ c.from_residual-in_err-of.result c.in_err-of.field-0.0 c.from_residual-in_err-of.ensures.1
    (via (want.word words.Of ∷ []) ((want.type_part (suc c.args.levels)) ∷ []) _ (word_token words.Array c.args.span ∷ c.args.given.now) _ (λ s. (want.type_part c.args.levels ∷ s)) (λ s. entered (want.type_part (suc c.args.levels)) (exprs_parts c.args.levels ++ (want.word words.Of ∷ (want.type_part c.args.levels ∷ []))) s _ _ _ refl refl ∙ c.in_ok-lengths.ensures.moves (want.word words.Of ∷ (want.type_part c.args.levels ∷ s))) (rw c.in_err-of.ensures at c.need_word.ensures))

pub array-returns-in_err-element : goal.array-returns-in_err-element
array-returns-in_err-element t c =
    let ok_of = rw c.in_ok-of.ensures.0 at c.need_word.ensures in
    exits _ _ c.from_residual-in_err-element.result c.in_err-element.field-0.0 c.from_residual-in_err-element.ensures.1
    (via (want.type_part c.args.levels ∷ []) ((want.type_part (suc c.args.levels)) ∷ []) _ (word_token words.Array c.args.span ∷ c.args.given.now) _ (λ s. s) (λ s. entered (want.type_part (suc c.args.levels)) (exprs_parts c.args.levels ++ (want.word words.Of ∷ (want.type_part c.args.levels ∷ []))) s _ _ _ refl refl ∙ c.in_ok-lengths.ensures.moves (want.word words.Of ∷ (want.type_part c.args.levels ∷ s)) ∙ after_word words.Of (want.type_part c.args.levels ∷ s) ok_of) (rw c.in_err-element.ensures at c.any_type.ensures))

pub array-returns : goal.array-returns
array-returns t c =
    let ok_of = rw c.in_ok-of.ensures.0 at c.need_word.ensures in
    let ok_element = rw c.in_ok-element.ensures.0 at c.any_type.ensures in
    rw (c.in_ok-boxed.ensures.ok, c.in_ok-element.ensures.1, c.in_ok-of.ensures.1) (record {
      spelled = onto refl (behind c.in_ok-lengths.ensures (onto ok_of (behind ok_element refl)));
      moves = λ s. entered (want.type_part (suc c.args.levels)) (exprs_parts c.args.levels ++ (want.word words.Of ∷ (want.type_part c.args.levels ∷ []))) s _ _ _ refl refl ∙ c.in_ok-lengths.ensures.moves (want.word words.Of ∷ (want.type_part c.args.levels ∷ s)) ∙ after_word words.Of (want.type_part c.args.levels ∷ s) ok_of ∙ ok_element.moves s;
      within = omega (arith, c.in_ok-lengths.ensures.within, ok_element.within);
      shorter = omega (arith, c.in_ok-lengths.ensures.shorter, fewer ok_of, ok_element.shorter);
    })

pub record_type-returns-in_err-base : goal.record_type-returns-in_err-base
record_type-returns-in_err-base t c =
    exits _ _ c.from_residual.result c.in_err-base.field-0.0 c.from_residual.ensures.1
    (via (want.some_base ∷ []) ((want.type_part (suc c.args.levels)) ∷ []) _ (word_token words.Record c.args.span ∷ c.args.given.now) _ (λ s. (want.rest_of_record c.args.levels ∷ s)) (λ s. entered (want.type_part (suc c.args.levels)) (want.some_base ∷ (want.rest_of_record c.args.levels ∷ [])) s _ _ _ refl refl) c.in_err-base.ensures)

pub record_type-returns-in-Some : goal.record_type-returns-in-Some
record_type-returns-in-Some t c =
    rw (c.in_ok-boxed.ensures.ok, record_made _ _ _ _) (record {
      spelled = onto refl (behind c.in_ok-base.ensures (onto c.in-Some.ensures.some refl));
      moves = λ s. entered (want.type_part (suc c.args.levels)) (want.some_base ∷ (want.rest_of_record c.args.levels ∷ [])) s _ _ _ refl refl ∙ c.in_ok-base.ensures.moves (want.rest_of_record c.args.levels ∷ s) ∙ entered (want.rest_of_record c.args.levels) [] s _ _ _ c.in-Some.ensures.some refl;
      within = omega (arith, c.in_ok-base.ensures.within);
      shorter = omega (arith, c.in_ok-base.ensures.shorter, fewer c.in-Some.ensures.some);
    })

pub record_type-returns-in_err-lists : goal.record_type-returns-in_err-lists
record_type-returns-in_err-lists t c =
    exits _ _ c.from_residual-in_err-lists.result c.in_err-lists.field-0.0 c.from_residual-in_err-lists.ensures.1
    (via (fields_parts c.args.levels ++ (want.fields c.args.levels ∷ [])) ((want.type_part (suc c.args.levels)) ∷ []) _ (word_token words.Record c.args.span ∷ c.args.given.now) _ (λ s. (want.word words.End ∷ s)) (λ s. entered (want.type_part (suc c.args.levels)) (want.some_base ∷ (want.rest_of_record c.args.levels ∷ [])) s _ _ _ refl refl ∙ c.in_ok-base.ensures.moves (want.rest_of_record c.args.levels ∷ s) ∙ expand_record c.args.levels s c.in_ok-base.rest.now c.in_default.ensures.none) (rw c.in_err-lists.ensures at c.field_lists.ensures))

pub record_type-returns-in_err-end : goal.record_type-returns-in_err-end
record_type-returns-in_err-end t c =
    let ok_lists = rw c.in_ok-lists.ensures.0 at c.field_lists.ensures in
    exits _ _ c.from_residual-in_err-end.result c.in_err-end.field-0.0 c.from_residual-in_err-end.ensures.1
    (via (want.word words.End ∷ []) ((want.type_part (suc c.args.levels)) ∷ []) _ (word_token words.Record c.args.span ∷ c.args.given.now) _ (λ s. s) (λ s. entered (want.type_part (suc c.args.levels)) (want.some_base ∷ (want.rest_of_record c.args.levels ∷ [])) s _ _ _ refl refl ∙ c.in_ok-base.ensures.moves (want.rest_of_record c.args.levels ∷ s) ∙ expand_record c.args.levels s c.in_ok-base.rest.now c.in_default.ensures.none ∙ ok_lists.moves (want.word words.End ∷ s)) (rw c.in_err-end.ensures at c.need_word.ensures))

pub record_type-returns : goal.record_type-returns
record_type-returns t c =
    let ok_lists = rw c.in_ok-lists.ensures.0 at c.field_lists.ensures in
    let ok_end = rw c.in_ok-end.ensures.0 at c.need_word.ensures in
    rw (c.in_ok-filled.ensures.ok, record_made _ _ _ _, c.in_ok-end.ensures.1, c.in_ok-lists.ensures.1) (record {
      spelled = onto refl (behind c.in_ok-base.ensures (behind ok_lists (onto ok_end refl)));
      moves = λ s. entered (want.type_part (suc c.args.levels)) (want.some_base ∷ (want.rest_of_record c.args.levels ∷ [])) s _ _ _ refl refl ∙ c.in_ok-base.ensures.moves (want.rest_of_record c.args.levels ∷ s) ∙ expand_record c.args.levels s c.in_ok-base.rest.now c.in_default.ensures.none ∙ ok_lists.moves (want.word words.End ∷ s) ∙ after_word words.End s ok_end;
      within = omega (arith, c.in_ok-base.ensures.within, ok_lists.within);
      shorter = omega (arith, c.in_ok-base.ensures.shorter, ok_lists.shorter, fewer ok_end);
    })

pub field_lists-returns-in_err-next : goal.field_lists-returns-in_err-next
field_lists-returns-in_err-next t c =
    exits _ _ c.from_residual-in_err-next.result c.in_err-next.field-0.0 c.from_residual-in_err-next.ensures.1
    (via (want.fields c.args.levels ∷ []) (fields_parts c.args.levels ++ want.fields c.args.levels ∷ []) _ c.args.given.now _ (λ s. s) (λ s. c.in_ok-first.ensures.moves (want.fields c.args.levels ∷ s)) (rw c.in_err-next.ensures at c.more_fields.ensures))

pub field_lists-returns : goal.field_lists-returns
field_lists-returns t c =
    let ok_next = rw c.in_ok-next.ensures.0 at c.more_fields.ensures in
    rw (c.in_ok-next.ensures.1, field_lists_made _ _) (record {
      spelled = behind c.in_ok-first.ensures (behind ok_next refl);
      moves = λ s. c.in_ok-first.ensures.moves (want.fields c.args.levels ∷ s) ∙ ok_next.moves s;
      within = omega (arith, c.in_ok-first.ensures.within, ok_next.within);
      shorter = omega (arith, c.in_ok-first.ensures.shorter, ok_next.shorter);
    })

pub more_fields-returns-in_err-fields : goal.more_fields-returns-in_err-fields
more_fields-returns-in_err-fields t c =
    exits _ _ c.from_residual.result c.in_err-fields.field-0.0 c.from_residual.ensures.1
    (via (fields_parts c.args.levels ++ []) ((want.fields c.args.levels) ∷ []) _ c.args.given.now _ (λ s. ((want.fields c.args.levels) ∷ s)) (λ s. c.loop-semicolon.invariant.moves s ∙ entered (want.fields c.args.levels) (fields_parts c.args.levels ++ (want.fields c.args.levels ∷ [])) s _ _ _ c.in-Some.ensures.some refl) c.in_err-fields.ensures)

pub more_fields-loop-semicolon-preserved : goal.more_fields-loop-semicolon-preserved
more_fields-loop-semicolon-preserved t c =
    rw c.in_ok-push.ensures.items (record {
      spelled = after_some c.loop-semicolon.invariant (onto c.in-Some.ensures.some (behind c.in_ok-fields.ensures refl)) ∙ sym (more_fields_push c.loop-semicolon.items.items _ c.in_ok-fields.after.now);
      moves = λ s. c.loop-semicolon.invariant.moves s ∙ entered (want.fields c.args.levels) (fields_parts c.args.levels ++ (want.fields c.args.levels ∷ [])) s _ _ _ c.in-Some.ensures.some refl ∙ c.in_ok-fields.ensures.moves ((want.fields c.args.levels) ∷ s);
      within = rw (more_fields_depth c.loop-semicolon.items.items _) omega (arith, c.loop-semicolon.invariant.within, c.in_ok-fields.ensures.within);
      shorter = omega (arith, c.loop-semicolon.invariant.shorter, fewer c.in-Some.ensures.some, c.in_ok-fields.ensures.shorter);
    })

pub more_fields-returns : goal.more_fields-returns
more_fields-returns t c =
    record {
      spelled = c.loop-semicolon.invariant.spelled;
      moves = λ s. c.loop-semicolon.invariant.moves s ∙ skip (want.fields c.args.levels) (is_symbol symbols.Semicolon) (fields_parts c.args.levels ++ (want.fields c.args.levels ∷ [])) s c.loop-semicolon.rest.now refl (λ k. refl) c.in_default.ensures.none;
      within = c.loop-semicolon.invariant.within;
      shorter = c.loop-semicolon.invariant.shorter;
    }

pub fields-returns-in_err-colon : goal.fields-returns-in_err-colon
fields-returns-in_err-colon t c =
    exits _ _ c.from_residual-in_err-colon.result c.in_err-colon.field-0.0 c.from_residual-in_err-colon.ensures.1
    (via (want.symbol symbols.Colon ∷ []) (fields_parts c.args.levels) _ c.args.given.now _ (λ s. (want.type_part c.args.levels ∷ s)) (λ s. c.in_ok-names.ensures.moves (want.symbol symbols.Colon ∷ (want.type_part c.args.levels ∷ s))) (rw c.in_err-colon.ensures at c.need_symbol.ensures))

pub fields-returns-in_err-of_type : goal.fields-returns-in_err-of_type
fields-returns-in_err-of_type t c =
    let ok_colon = rw c.in_ok-colon.ensures.0 at c.need_symbol.ensures in
    exits _ _ c.from_residual-in_err-of_type.result c.in_err-of_type.field-0.0 c.from_residual-in_err-of_type.ensures.1
    (via (want.type_part c.args.levels ∷ []) (fields_parts c.args.levels) _ c.args.given.now _ (λ s. s) (λ s. c.in_ok-names.ensures.moves (want.symbol symbols.Colon ∷ (want.type_part c.args.levels ∷ s)) ∙ after_symbol symbols.Colon (want.type_part c.args.levels ∷ s) ok_colon) (rw c.in_err-of_type.ensures at c.any_type.ensures))

pub fields-returns : goal.fields-returns
fields-returns t c =
    let ok_colon = rw c.in_ok-colon.ensures.0 at c.need_symbol.ensures in
    let ok_of_type = rw c.in_ok-of_type.ensures.0 at c.any_type.ensures in
    rw (c.in_ok-of_type.ensures.1, c.in_ok-colon.ensures.1) (record {
      spelled = behind c.in_ok-names.ensures (onto ok_colon (behind ok_of_type refl));
      moves = λ s. c.in_ok-names.ensures.moves (want.symbol symbols.Colon ∷ (want.type_part c.args.levels ∷ s)) ∙ after_symbol symbols.Colon (want.type_part c.args.levels ∷ s) ok_colon ∙ ok_of_type.moves s;
      within = omega (arith, c.in_ok-names.ensures.within, ok_of_type.within);
      shorter = omega (arith, c.in_ok-names.ensures.shorter, fewer ok_colon, ok_of_type.shorter);
    })

pub any_type-array-requires : goal.any_type-array-requires
any_type-array-requires t c = omega (arith, fewer c.in-Some-word.ensures.some)

pub any_type-record_type-requires : goal.any_type-record_type-requires
any_type-record_type-requires t c = omega (arith, fewer c.in-Some-word-2.ensures.some)

pub array-any_type-requires : goal.array-any_type-requires
array-any_type-requires t c = let h = rw c.in_ok-of.ensures.0 at c.need_word.ensures in omega (arith, c.in_ok-lengths.ensures.shorter, fewer h)

pub record_type-field_lists-requires : goal.record_type-field_lists-requires
record_type-field_lists-requires t c = omega (arith, c.in_ok-base.ensures.shorter)

pub field_lists-fields-requires : goal.field_lists-fields-requires
field_lists-fields-requires t c = omega arith

pub field_lists-more_fields-requires : goal.field_lists-more_fields-requires
field_lists-more_fields-requires t c = omega (arith, c.in_ok-first.ensures.shorter)

pub more_fields-fields-requires : goal.more_fields-fields-requires
more_fields-fields-requires t c = omega (arith, c.loop-semicolon.invariant.shorter, fewer c.in-Some.ensures.some)

pub fields-any_type-requires : goal.fields-any_type-requires
fields-any_type-requires t c = let h = rw c.in_ok-colon.ensures.0 at c.need_symbol.ensures in omega (arith, c.in_ok-names.ensures.shorter, fewer h)

pub more_fields-loop-semicolon-smaller : goal.more_fields-loop-semicolon-smaller
more_fields-loop-semicolon-smaller t c = omega (arith, fewer c.in-Some.ensures.some, c.in_ok-fields.ensures.shorter)
