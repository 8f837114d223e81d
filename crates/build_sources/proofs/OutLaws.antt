-- The view of Out is made of its four procedures, in the order of their names.
use Rattle.std.proofs.Common.{◌≡◌, ℕ, List, [], ◌∷◌, ap, ◌∙◌, codes}
use Rattle.std.specs.Prelude.{◌==◌, false, None, map}
use Rattle.std.specs.Cmp.Lexicographic.{pointwise}
use Rattle.indexmap.specs.IndexMap.{insert_entry}
use Rattle.oberon_types.specs.declared.entity.Entity.{Entity}
use Rattle.oberon_types.specs.Entities.{EntityTree, ParamTree, Export, exports_view, procedure_entity}
use Rattle.oberon_types.specs.Memory.{plain_entity, plain_export}
use Rattle.oberon_types.specs.Types.{TyTree, char_ty, integer_ty, open_ty}
use Rattle.oberon_rules.specs.Views.{out_view}

abbrev pub put : List (List ℕ × Entity) → List ℕ → Entity → List (List ℕ × Entity)
put es name e = insert_entry (pointwise ◌==◌) es name e

abbrev pub value : TyTree → ParamTree
value t = record { by_var = false; ty = t }

abbrev pub proper : List ParamTree → EntityTree
proper params = procedure_entity (record { params = params; result_type = None })

abbrev shown : List ℕ → EntityTree → Export
shown name e = record { name = name; entity = e }

pub out_is : (a b c d : Entity) (es : List (List ℕ × Entity)) → es ≡ put (put (put (put [] (codes "Char") a) (codes "Int") b) (codes "Ln") c) (codes "String") d
    → plain_entity a ≡ proper (value char_ty ∷ []) → plain_entity b ≡ proper (value integer_ty ∷ value integer_ty ∷ []) → plain_entity c ≡ proper [] → plain_entity d ≡ proper (value (open_ty char_ty) ∷ [])
    → exports_view (map plain_export es) ≡ out_view
unfolding out_view
out_is a b c d es is pa pb pc pd =
    ap (λ (xs : List (List ℕ × Entity)). exports_view (map plain_export xs)) is
    ∙ ap (λ (x : EntityTree). exports_view (shown (codes "Char") x ∷ shown (codes "Int") (plain_entity b) ∷ shown (codes "Ln") (plain_entity c) ∷ shown (codes "String") (plain_entity d) ∷ [])) pa
    ∙ ap (λ (x : EntityTree). exports_view (shown (codes "Char") (proper (value char_ty ∷ [])) ∷ shown (codes "Int") x ∷ shown (codes "Ln") (plain_entity c) ∷ shown (codes "String") (plain_entity d) ∷ [])) pb
    ∙ ap (λ (x : EntityTree). exports_view (shown (codes "Char") (proper (value char_ty ∷ [])) ∷ shown (codes "Int") (proper (value integer_ty ∷ value integer_ty ∷ [])) ∷ shown (codes "Ln") x ∷ shown (codes "String") (plain_entity d) ∷ [])) pc
    ∙ ap (λ (x : EntityTree). exports_view (shown (codes "Char") (proper (value char_ty ∷ [])) ∷ shown (codes "Int") (proper (value integer_ty ∷ value integer_ty ∷ [])) ∷ shown (codes "Ln") (proper []) ∷ shown (codes "String") x ∷ [])) pd
