-- What is written part by part is the text of the whole.
use Rattle.std.proofs.Common.{◌≡◌, ◌++◌, ◌∙◌, ℕ, List, [], ◌∷◌, Bool, true, refl, ap, sym, append_assoc}
use Rattle.std.specs.Prelude.{codes}
use Rattle.ob_text.specs.Held.{Entries}
use Rattle.ob_text.specs.declared.held.Held.{Held}
use Rattle.ob_text.specs.declared.held.Held.TheVariants.{Text, Absent, TooLarge, NotText}
use Rattle.serde_json.specs.Data.{null, string}
use Rattle.serde_json.specs.Written.{comma_if, compact_text, items_text}
use Rattle.serde_json.proofs.OnLiterals.{serde_json_on_literals}
use Rattle.recordings.specs.Recordings.{entries_items, entry_data, held_items}

-- what is written behind what was written so far
pub written_on : (new old so_far part : List ℕ) → new ≡ old ++ part → old ≡ so_far → new ≡ so_far ++ part
written_on new old so_far part is before = is ∙ ap (λ o. o ++ part) before

-- three parts, one behind another
pub three_written : (out a b c one two three : List ℕ)
    → one ≡ out ++ a → two ≡ one ++ b → three ≡ two ++ c → three ≡ out ++ (a ++ (b ++ c))
three_written out a b c one two three first second third =
    written_on three two ((out ++ a) ++ b) c third (written_on two one (out ++ a) b second first)
    ∙ (append_assoc (out ++ a) b c ∙ append_assoc out a (b ++ c))

-- one more entry of a list
pub next_entry : (out : List ℕ) (later : Bool) (entry : List ℕ × Held) (rest : Entries)
    → (out ++ (comma_if later ++ compact_text (entry_data entry))) ++ items_text true (entries_items rest) ≡ out ++ items_text later (entries_items (entry ∷ rest))
next_entry out later entry rest =
    append_assoc out (comma_if later ++ compact_text (entry_data entry)) (items_text true (entries_items rest))
    ∙ ap (λ t. out ++ t) (append_assoc (comma_if later) (compact_text (entry_data entry)) (items_text true (entries_items rest)))

pub null_text : codes "null" ≡ compact_text null
unfolding serde_json_on_literals
null_text = refl

text_text : (text : List ℕ) → codes ",\"text\"," ++ (compact_text (string text) ++ codes "]") ≡ items_text true (held_items (Text text))
unfolding serde_json_on_literals
text_text text = refl

absent_text : codes ",\"absent\"]" ≡ items_text true (held_items Absent)
unfolding serde_json_on_literals
absent_text = refl

too_large_text : codes ",\"tooLarge\"]" ≡ items_text true (held_items TooLarge)
unfolding serde_json_on_literals
too_large_text = refl

not_text_text : codes ",\"notText\"]" ≡ items_text true (held_items NotText)
unfolding serde_json_on_literals
not_text_text = refl

held_written : (held kind : Held) (out part new : List ℕ)
    → held ≡ kind → part ≡ items_text true (held_items kind) → new ≡ out ++ part → new ≡ out ++ items_text true (held_items held)
held_written held kind out part new is text written =
    written ∙ (ap (λ t. out ++ t) text ∙ ap (λ (h : Held). out ++ items_text true (held_items h)) (sym is))

pub absent_written : (held : Held) (out new : List ℕ) → held ≡ Absent → new ≡ out ++ codes ",\"absent\"]" → new ≡ out ++ items_text true (held_items held)
absent_written held out new is written = held_written held Absent out (codes ",\"absent\"]") new is absent_text written

pub too_large_written : (held : Held) (out new : List ℕ) → held ≡ TooLarge → new ≡ out ++ codes ",\"tooLarge\"]" → new ≡ out ++ items_text true (held_items held)
too_large_written held out new is written = held_written held TooLarge out (codes ",\"tooLarge\"]") new is too_large_text written

pub not_text_written : (held : Held) (out new : List ℕ) → held ≡ NotText → new ≡ out ++ codes ",\"notText\"]" → new ≡ out ++ items_text true (held_items held)
not_text_written held out new is written = held_written held NotText out (codes ",\"notText\"]") new is not_text_text written

pub text_written : (held : Held) (text str out one two three : List ℕ)
    → held ≡ Text text → str ≡ text → one ≡ out ++ codes ",\"text\"," → two ≡ one ++ compact_text (string str) → three ≡ two ++ codes "]"
    → three ≡ out ++ items_text true (held_items held)
text_written held text str out one two three is same first second third =
    held_written held (Text text) out (codes ",\"text\"," ++ (compact_text (string text) ++ codes "]")) three is (text_text text)
    (three_written out (codes ",\"text\",") (compact_text (string text)) (codes "]") one two three
    first (second ∙ ap (λ (s : List ℕ). one ++ compact_text (string s)) same) third)
