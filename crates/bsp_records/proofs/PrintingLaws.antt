-- What is printed part by part is the text of the whole.
use Rattle.std.proofs.Common.{◌≡◌, ◌++◌, ◌∙◌, ℕ, List, [], ◌∷◌, Bool, true, Option, Some, None, option_map, refl, ap, append_assoc}
use Rattle.std.specs.Prelude.{codes}
use Rattle.serde_json.specs.Data.{Data, string}
use Rattle.serde_json.specs.View.{items_of}
use Rattle.serde_json.specs.Written.{comma_if, compact_text, items_text}
use Rattle.serde_json.proofs.OnLiterals.{serde_json_on_literals}
use Rattle.bsp_records.specs.Printing.{origin_text}
use Rattle.bsp_records.specs.Writing.{object_with}

-- the params of a publication, by the texts of their members
pub printed : (document target diagnostics reset : Data) (origin : Option (List ℕ))
    → codes "{\"buildTarget\":" ++ (compact_text target ++ (codes ",\"diagnostics\":" ++ (compact_text diagnostics ++ (origin_text origin ++ (codes ",\"reset\":" ++ (compact_text reset ++ (codes ",\"textDocument\":" ++ (compact_text document ++ codes "}"))))))))
    ≡ compact_text (object_with ((codes "textDocument", Some document) ∷ (codes "buildTarget", Some target) ∷ (codes "originId", option_map string origin)
    ∷ (codes "diagnostics", Some diagnostics) ∷ (codes "reset", Some reset) ∷ []))
unfolding serde_json_on_literals
printed document target diagnostics reset None = refl
printed document target diagnostics reset (Some origin) = refl

-- one more item of a list
pub next_item : (out : List ℕ) (later : Bool) (d : Data) (rest : List Data)
    → ((out ++ comma_if later) ++ compact_text d) ++ items_text true (items_of rest) ≡ out ++ items_text later (items_of (d ∷ rest))
next_item out later d rest =
    append_assoc (out ++ comma_if later) (compact_text d) (items_text true (items_of rest))
    ∙ append_assoc out (comma_if later) (compact_text d ++ items_text true (items_of rest))

-- ten parts, one behind another
pub parts_joined : (out a b c d e f g h i j : List ℕ)
    → (((((((((out ++ a) ++ b) ++ c) ++ d) ++ e) ++ f) ++ g) ++ h) ++ i) ++ j ≡ out ++ (a ++ (b ++ (c ++ (d ++ (e ++ (f ++ (g ++ (h ++ (i ++ j)))))))))
parts_joined out a b c d e f g h i j =
    append_assoc ((((((((out ++ a) ++ b) ++ c) ++ d) ++ e) ++ f) ++ g) ++ h) i j
    ∙ append_assoc (((((((out ++ a) ++ b) ++ c) ++ d) ++ e) ++ f) ++ g) h (i ++ j)
    ∙ append_assoc ((((((out ++ a) ++ b) ++ c) ++ d) ++ e) ++ f) g (h ++ (i ++ j))
    ∙ append_assoc (((((out ++ a) ++ b) ++ c) ++ d) ++ e) f (g ++ (h ++ (i ++ j)))
    ∙ append_assoc ((((out ++ a) ++ b) ++ c) ++ d) e (f ++ (g ++ (h ++ (i ++ j))))
    ∙ append_assoc (((out ++ a) ++ b) ++ c) d (e ++ (f ++ (g ++ (h ++ (i ++ j)))))
    ∙ append_assoc ((out ++ a) ++ b) c (d ++ (e ++ (f ++ (g ++ (h ++ (i ++ j))))))
    ∙ append_assoc (out ++ a) b (c ++ (d ++ (e ++ (f ++ (g ++ (h ++ (i ++ j)))))))
    ∙ append_assoc out a (b ++ (c ++ (d ++ (e ++ (f ++ (g ++ (h ++ (i ++ j))))))))

-- what is printed behind what was printed so far
pub printed_on : (new old so_far part : List ℕ) → new ≡ old ++ part → old ≡ so_far → new ≡ so_far ++ part
printed_on new old so_far part is before = is ∙ ap (λ o. o ++ part) before
