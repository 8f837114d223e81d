use Rattle.std.proofs.Common.{◌≡◌, ◌++◌, ◌∷◌, ◌∙◌, ℕ, List, true, ap, sym, subst, arith}
use Rattle.std.specs.List.{All}
use Rattle.std.proofs.lemmas.Grind.{common_steps}
use Rattle.std.proofs.lemmas.List.Elements.{All-head, All-tail}
use Rattle.ob_text.specs.Held.{Entries}
use Rattle.ob_text.specs.declared.held.Held.{Held}
use Rattle.serde_json.specs.Written.{items_text}
use Rattle.recordings.specs.Recordings.{IsTextEntry, entries_items}
use Rattle.recordings.proofs.SpellingLaws.{next_entry}
use Rattle.recordings.proofs.handed.print_entries.Goals as goal

pub print_entry-requires-clause-path : goal.print_entry-requires-clause-path
print_entry-requires-clause-path c =
    let d : List ℕ × Held = c.in-Some.entry.now in
    let others : Entries = c.in-Some.others.now in
    let rest_is : c.entries.rest.now ≡ d ∷ others = grind (arith, common_steps) in
    (All-head IsTextEntry d others (subst (All IsTextEntry) rest_is c.entries.invariant.texts)).0

pub print_entry-requires-clause-held : goal.print_entry-requires-clause-held
print_entry-requires-clause-held c =
    let d : List ℕ × Held = c.in-Some.entry.now in
    let others : Entries = c.in-Some.others.now in
    let rest_is : c.entries.rest.now ≡ d ∷ others = grind (arith, common_steps) in
    (All-head IsTextEntry d others (subst (All IsTextEntry) rest_is c.entries.invariant.texts)).1

pub entries-preserved : goal.entries-preserved
entries-preserved c =
    let d : List ℕ × Held = c.in-Some.entry.now in
    let others : Entries = c.in-Some.others.now in
    let out : List ℕ = c.entries.out.items in
    let later = c.entries.later in
    let rest_is : c.entries.rest.now ≡ d ∷ others = grind (arith, common_steps) in
    record {
      texts = All-tail IsTextEntry d others (subst (All IsTextEntry) rest_is c.entries.invariant.texts);
      printed =
          ap (λ (o : List ℕ). o ++ items_text true (entries_items others)) c.in_ok-print_entry.ensures
          ∙ (next_entry out later d others
          ∙ (ap (λ (es : Entries). out ++ items_text later (entries_items es)) (sym rest_is)
          ∙ c.entries.invariant.printed));
    }
