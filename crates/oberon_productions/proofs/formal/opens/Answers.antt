use Rattle.std.proofs.Common.{length, refl, sym, ap, arith, subst, length-append, ◌∷◌, ◌∙◌, []}
use Rattle.oberon_productions.specs.Reading.{StopsAt}
use Rattle.oberon_productions.proofs.Descending.{halts, via, after_word, entered, fewer, exits, onto, each_push}
use Rattle.oberon_productions.proofs.Steps.{skip_opens}
use Rattle.oberon_productions.proofs.Joins.{no_level}
use Rattle.oberon_tree.specs.Print.{print_each, print_open_array}
use Rattle.oberon_productions.specs.Expected as want
use Rattle.oberon_scan.specs.declared.token.Word.TheVariants as words
use Rattle.oberon_productions.proofs.formal.opens.Goals as goal

pub returns-in_err-inner : goal.returns-in_err-inner
returns-in_err-inner c =
    let z = c.in_err-inner.ensures in
    exits _ _ c.from_residual.result c.in_err-inner.field-0.0 c.from_residual.ensures.1
    (subst (λ e. StopsAt ((want.opens c.args.levels) ∷ []) c.args.given.now e) (sym z.1) (halts ((want.opens c.args.levels) ∷ []) c.args.given.now (length c.loop-span.rest.now) (λ s. c.loop-span.invariant.moves s ∙ no_level (want.opens c.loop-span.left) s _ c.loop-span.rest.now _ c.in-Some.ensures.some (rw z.0 refl))))

pub returns-in_err-of : goal.returns-in_err-of
returns-in_err-of c =
    exits _ _ c.from_residual-in_err-of.result c.in_err-of.field-0.0 c.from_residual-in_err-of.ensures.1
    (via (want.word words.Of ∷ []) ((want.opens c.args.levels) ∷ []) _ c.args.given.now _ (λ s. want.opens c.in_ok-inner.inner ∷ s) (λ s. c.loop-span.invariant.moves s ∙ entered (want.opens c.loop-span.left) (want.word words.Of ∷ (want.opens c.in_ok-inner.inner ∷ [])) s _ _ _ c.in-Some.ensures.some (rw c.in_ok-inner.ensures refl)) c.in_err-of.ensures)

pub loop-span-preserved : goal.loop-span-preserved
loop-span-preserved c =
    rw c.in_ok-push.ensures.items (record {
      spelled = c.loop-span.invariant.spelled ∙ ap (print_each print_open_array c.loop-span.items.items) (onto c.in-Some.ensures.some (onto c.in_ok-of.ensures refl)) ∙ sym (each_push print_open_array _ _ _);
      moves = λ s. c.loop-span.invariant.moves s ∙ entered (want.opens c.loop-span.left) (want.word words.Of ∷ (want.opens c.in_ok-inner.inner ∷ [])) s _ _ _ c.in-Some.ensures.some (rw c.in_ok-inner.ensures refl) ∙ after_word words.Of (want.opens c.in_ok-inner.inner ∷ s) c.in_ok-of.ensures;
      within = omega (arith, c.loop-span.invariant.within, c.in_ok-inner.ensures, length-append c.loop-span.items.items (record { word = c.in-Some.span; of = c.in_ok-of.of } ∷ []));
      shorter = omega (arith, c.loop-span.invariant.shorter, fewer c.in-Some.ensures.some, fewer c.in_ok-of.ensures);
    })

pub returns : goal.returns
returns c =
    record {
      spelled = c.loop-span.invariant.spelled;
      moves = λ s. c.loop-span.invariant.moves s ∙ skip_opens c.loop-span.left s c.loop-span.rest.now c.in_default.ensures.none;
      within = omega (arith, c.loop-span.invariant.within);
      shorter = c.loop-span.invariant.shorter;
    }
