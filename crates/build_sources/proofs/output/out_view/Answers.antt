use Rattle.std.proofs.Common.{◌≡◌, ◌∷◌, [], ℕ, List, codes, map, ap, ◌∙◌}
use Rattle.std.specs.Prelude.{None}
use Rattle.oberon_types.specs.declared.entity.Entity.{Entity}
use Rattle.oberon_types.specs.declared.entity.Exports.{Exports}
use Rattle.oberon_types.specs.declared.entity.Param.{Param}
use Rattle.oberon_types.specs.Entities.{exports_view, procedure_entity}
use Rattle.oberon_types.specs.Memory.{plain_export, plain_param, plain_ty}
use Rattle.oberon_types.specs.Types.{open_ty}
use Rattle.build_sources.proofs.OutLaws.{out_is, proper, put, value}
use Rattle.build_sources.proofs.output.out_view.Goals as goal

pub returns : goal.returns
returns c =
    let a = c.in_ok-with_one.field-0 in
    let b = c.in_ok-with_two.field-0 in
    let ln = c.procedure.result in
    let d = c.in_ok-with_one-2.field-0 in
    let one = c.put.new.entities.entries in
    let two = c.put-2.new.entities.entries in
    let three = c.put-3.new.entities.entries in
    let put_one : one ≡ put [] (codes "Char") a = c.in_ok-put.ensures ∙ ap (λ (es : List (List ℕ × Entity)). put es (codes "Char") a) c.new-entities.ensures.empty in
    let put_two : two ≡ put (put [] (codes "Char") a) (codes "Int") b = c.in_ok-put-2.ensures ∙ ap (λ (es : List (List ℕ × Entity)). put es (codes "Int") b) put_one in
    let put_three : three ≡ put (put (put [] (codes "Char") a) (codes "Int") b) (codes "Ln") ln = c.in_ok-put-3.ensures ∙ ap (λ (es : List (List ℕ × Entity)). put es (codes "Ln") ln) put_two in
    let all = c.in_ok-put-4.ensures ∙ ap (λ (es : List (List ℕ × Entity)). put es (codes "String") d) put_three in
    ap (λ (e : Exports). exports_view (map plain_export e.entities.entries)) c.in_ok-new.ensures.ok
    ∙ out_is a b ln d c.put-4.new.entities.entries all c.in_ok-with_one.ensures c.in_ok-with_two.ensures
    (c.procedure.ensures ∙ ap (λ (ps : List Param). procedure_entity (record { params = map plain_param ps; result_type = None })) c.new-2.ensures.items)
    (c.in_ok-with_one-2.ensures ∙ ap (λ t. proper (value t ∷ [])) (ap open_ty (ap plain_ty c.in_ok-element.ensures.ok)))
