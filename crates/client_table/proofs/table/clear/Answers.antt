use Rattle.std.proofs.Common.{◌∙◌, None, refl, sym}
use Rattle.client_table.proofs.ShelfLaws.{documents_stay}
use Rattle.client_table.proofs.table.clear.Goals as goal

pub returns-then-is_last : goal.returns-then-is_last
returns-then-is_last c d t =
    documents_stay c.args.document.now c.is_last.new.documents c.remove.new.self None c.remove.ensures.updates (λ other. sym (c.if-is_last.ensures.none refl other)) d t
    ∙ c.is_last.ensures.shown d t
