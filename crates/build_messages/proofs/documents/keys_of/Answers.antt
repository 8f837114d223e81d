use Rattle.std.proofs.Common.{◌≡◌, ◌+◌, ◌∷◌, ◌++◌, [], ℕ, List, get_or, map, take, ap, sym, ◌∙◌}
use Rattle.std.proofs.lemmas.List.{map_push, take_all, take_more}
use Rattle.session_law.specs.declared.BuildDocument.{BuildDocument}
use Rattle.build_messages.proofs.DocumentLaws.{key_at}
use Rattle.build_messages.proofs.DocumentLaws.{keys_are}
use Rattle.build_messages.proofs.documents.keys_of.Goals as goal
use Rattle.task_stream.specs.declared.shown.TableKey.{TableKey}

pub loop-pair-preserved : goal.loop-pair-preserved
loop-pair-preserved c =
    let space = c.args.workspace.now in
    let pairs : List ℕ = c.args.pairs.now in
    let i = c.loop-pair.pair-index in
    let pair : ℕ = get_or pairs i 0 in
    let more : map (key_at space) (take (i + 1) pairs) ≡ map (key_at space) (take i pairs) ++ key_at space pair ∷ [] =
    ap (map (key_at space)) (take_more pairs i 0 c.loop-pair-test.true) ∙ map_push (key_at space) (take i pairs) pair in
    c.in_ok-push.ensures.items
    ∙ (ap (λ (ks : List TableKey). ks ++ c.in_ok-document.document.key ∷ []) c.loop-pair.invariant
    ∙ (ap (λ (d : BuildDocument). map (key_at space) (take i pairs) ++ d.key ∷ []) c.in_ok-document.ensures ∙ sym more))

pub returns-clause-keys : goal.returns-clause-keys
returns-clause-keys c =
    c.loop-pair.invariant ∙ ap (map (key_at c.args.workspace.now)) (take_all c.loop-pair.pair-index c.args.pairs.now c.loop-pair-test.false)

pub returns-clause-pairs : goal.returns-clause-pairs
returns-clause-pairs c = λ own are.
    c.loop-pair.invariant
    ∙ (ap (map (key_at c.args.workspace.now)) (take_all c.loop-pair.pair-index c.args.pairs.now c.loop-pair-test.false) ∙ keys_are c.args.workspace.now c.args.pairs.now own are)
