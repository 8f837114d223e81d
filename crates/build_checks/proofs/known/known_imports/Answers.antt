use Rattle.std.proofs.Common.{◌≡◌, List, length, replicate, None, sym, ap, subst, ◌∙◌}
use Rattle.std.proofs.lemmas.List.{length-replicate}
use Rattle.build_sources.specs.Documents.{AreKnown}
use Rattle.build_checks.proofs.KnownLaws.{Names, none_known}
use Rattle.build_checks.proofs.known.known_imports.Goals as goal

pub loop-pair-init : goal.loop-pair-init
loop-pair-init c =
    let entries = c.args.entries.now in
    let n = length entries in
    let known : List Names = c.in_ok-known.known.items in
    let are : known ≡ replicate n None = c.in_ok-known.ensures in
    record {
      size = ap (λ (ks : List Names). length ks) are ∙ length-replicate {A = Names} n None;
      are = subst (AreKnown entries) (sym are) (none_known entries n);
    }
