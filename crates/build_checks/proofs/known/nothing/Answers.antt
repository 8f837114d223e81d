use Rattle.std.proofs.Common.{◌≡◌, ◌++◌, ◌∷◌, [], suc, List, None, length, length-append, replicate, ap, sym, ◌∙◌, arith}
use Rattle.build_checks.proofs.KnownLaws.{Names, nothing_more}
use Rattle.build_checks.proofs.known.nothing.Goals as goal

pub documents-preserved : goal.documents-preserved
documents-preserved c =
    let old : List Names = c.documents.known.items in
    let new : List Names = c.push.new.self.items in
    let n = length old in
    let pushed : new ≡ old ++ None ∷ [] = c.in_ok-push.ensures.items in
    let one = length-append {A = Names} old (None ∷ []) in
    let longer = ap (λ (ks : List Names). length ks) pushed in
    let size : length new ≡ suc n = omega (arith, longer, one) in
    let less = c.documents-test.true in
    let len = c.len.ensures in
    record {
      within = omega (arith, size, less, len);
      none = pushed ∙ ap (λ (ks : List Names). ks ++ None ∷ []) c.documents.invariant.none ∙ nothing_more n ∙ ap (λ k. replicate {A = Names} k None) (sym size);
    }

pub returns : goal.returns
returns c =
    let within = c.documents.invariant.within in
    let all = c.documents-test.false in
    let len = c.len.ensures in
    let known : List Names = c.documents.known.items in
    let size : length known ≡ c.args.count = omega (arith, within, all, len) in
    c.documents.invariant.none ∙ ap (λ k. replicate {A = Names} k None) size
