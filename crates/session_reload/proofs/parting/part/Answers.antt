use Rattle.std.proofs.Common.{◌≡◌, ◌<◌, ◌∷◌, ◌++◌, [], ℕ, true, false, not, Vec, map, length, ap, sym, ◌∙◌}
use Rattle.std.specs.List.{slice_get}
use Rattle.std.specs.declared.alloc.Global.{Global}
use Rattle.std.proofs.lemmas.List.Elements.{All-nil, All-push, All-same}
use Rattle.target_graph.specs.declared.target.Pair.{Pair}
use Rattle.session_reload.specs.Keys.{is_known}
use Rattle.session_reload.proofs.PairLaws.{fails, passes}
use Rattle.session_reload.proofs.parting.part.Goals.{then-is_known+in_ok-push, else-is_known+in_ok-push-2}
use Rattle.session_reload.proofs.parting.part.Goals as goal

pub loop-index-init : goal.loop-index-init
loop-index-init c =
    let pairs = c.args.pairs.now in
    let within = λ (pair : ℕ). (let t : Type 0 = pair < length pairs in t) in
    record {
      kept = ap (map (slice_get pairs)) c.new-kept.ensures.items;
      dropped = ap (map (slice_get pairs)) c.new-dropped.ensures.items;
      kept_within = All-same (λ (pair : ℕ). pair < length pairs) c.new-kept.result.items [] c.new-kept.ensures.items (All-nil (λ (pair : ℕ). pair < length pairs));
      dropped_within = All-same (λ (pair : ℕ). pair < length pairs) c.new-dropped.result.items [] c.new-dropped.ensures.items (All-nil (λ (pair : ℕ). pair < length pairs));
    }

pub loop-index-preserved : goal.loop-index-preserved
loop-index-preserved c =
    let i = c.loop-index.index in
    let h = c.loop-index-test.true in
    let pairs = c.args.pairs.now in
    let pair = c.index-pairs-index.result in
    let is = c.index-pairs-index.is in
    let was = c.loop-index.invariant in
    let known = is_known c.args.keys.now.keys c.args.targets.now in
    let kept = c.if-is_known.kept.items in
    let dropped = c.if-is_known.dropped.items in
    elim c.if-is_known.branch [
      | then-is_known+in_ok-push w ↦
          let e : known pair ≡ true = sym c.is_known.ensures ∙ w.if-is_known.true in
          let grown : kept ≡ c.loop-index.kept.items ++ i ∷ [] = ap (λ (v : Vec ℕ Global). v.items) w.kept-is ∙ w.in_ok-push.ensures.items in
          let stays : dropped ≡ c.loop-index.dropped.items = ap (λ (v : Vec ℕ Global). v.items) w.dropped-is in
          record {
            kept = passes known pairs i pair h is c.loop-index.kept.items e was.kept kept grown;
            dropped = ap (map (slice_get pairs)) stays ∙ fails (λ (p : Pair). not (known p)) pairs i pair h is c.loop-index.dropped.items (ap not e) was.dropped;
            kept_within = All-same (λ (p : ℕ). p < length pairs) kept _ grown (All-push (λ (p : ℕ). p < length pairs) c.loop-index.kept.items i was.kept_within h);
            dropped_within = All-same (λ (p : ℕ). p < length pairs) dropped _ stays was.dropped_within;
          }
      | else-is_known+in_ok-push-2 w ↦
          let e : known pair ≡ false = sym c.is_known.ensures ∙ w.if-is_known.false in
          let grown : dropped ≡ c.loop-index.dropped.items ++ i ∷ [] = ap (λ (v : Vec ℕ Global). v.items) w.dropped-is ∙ w.in_ok-push-2.ensures.items in
          let stays : kept ≡ c.loop-index.kept.items = ap (λ (v : Vec ℕ Global). v.items) w.kept-is in
          record {
            kept = ap (map (slice_get pairs)) stays ∙ fails known pairs i pair h is c.loop-index.kept.items e was.kept;
            dropped = passes (λ (p : Pair). not (known p)) pairs i pair h is c.loop-index.dropped.items (ap not e) was.dropped dropped grown;
            kept_within = All-same (λ (p : ℕ). p < length pairs) kept _ stays was.kept_within;
            dropped_within = All-same (λ (p : ℕ). p < length pairs) dropped _ grown (All-push (λ (p : ℕ). p < length pairs) c.loop-index.dropped.items i was.dropped_within h);
          }
    ]
