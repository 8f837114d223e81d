use Rattle.document_laws.proofs.OneDocument.{one_document}
use Rattle.document_laws.proofs.laws.one_document.Goals as goal

pub returns : goal.returns
returns c = λ held me views others xs ys is js v w alike. one_document c.one_list.ensures held me views others xs ys is js v w (λ e. alike)
