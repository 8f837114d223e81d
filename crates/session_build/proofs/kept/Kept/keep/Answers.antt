use Rattle.std.proofs.Common.{List, ℕ, None, refl, ap, ◌∙◌}
use Rattle.std.specs.Prelude.{if◌then◌else◌}
use Rattle.std.proofs.lemmas.List.Elements.{filter_agree}
use Rattle.check_cache.specs.Pairs.{is_among}
use Rattle.check_cache.specs.Places.{first_at, other_at}
use Rattle.check_cache.specs.declared.pair.PairKey.{PairKey}
use Rattle.session_build.specs.Cleaning.{is_key_at}
use Rattle.session_build.specs.declared.kept.Kept.{Kept}
use Rattle.session_build.specs.declared.late.Late.{Late}
use Rattle.session_build.proofs.kept.Kept.keep.Goals as goal

pub returns : goal.returns
returns c =
    let old : Kept = c.args.self.now in
    let targets = c.args.workspace.now.targets in
    let indices : List ℕ = c.args.pairs.now in
    let keys : List PairKey = c.in_ok-keys.keys.keys in
    record {
      first = λ key. c.keep_pairs.ensures.first key ∙ ap (λ b. if b then first_at old.cache key else None) (c.in_ok-keys.ensures key);
      other = λ key. c.keep_pairs.ensures.other key ∙ ap (λ b. if b then other_at old.cache key else None) (c.in_ok-keys.ensures key);
      late =
          c.keep_late.ensures
          ∙ filter_agree (λ (one : Late). is_among keys one.key) (λ (one : Late). is_key_at targets indices one.key) (λ (one : Late). c.in_ok-keys.ensures one.key) old.late.items;
      keys = refl;
    }
