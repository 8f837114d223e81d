use Rattle.std.proofs.Common.{◌≡◌, ◌==◌, ◌∷◌, ◌++◌, [], List, length, map, ap, subst, ◌∙◌, arith}
use Rattle.std.specs.Vec.{vec_len}
use Rattle.std.proofs.lemmas.Bool.{false≢true}
use Rattle.std.proofs.lemmas.List.{map_push}
use Rattle.reload_messages.proofs.ToldLaws.{changes_told}
use Rattle.reload_messages.proofs.telling.tell_changes.Goals as goal
use Rattle.rpc_peer.specs.Said.{Said}
use Rattle.reload_rules.specs.declared.change.ChangedTarget.{ChangedTarget}
use Rattle.build_messages.specs.Outgoing.{outgoing_said}
use Rattle.session_law.specs.IsFramed.{IsFramed}
use Rattle.session_law.specs.Reloading.{changes_said}

pub returns : goal.returns
returns c =
    let root = c.args.old.now.root in
    let told = c.args.told.now.items in
    changes_told c.args.old.now c.args.new.now c.in_ok-found.found.items (map outgoing_said told) (map outgoing_said c.push_back.new.self.items) c.in_ok-found.ensures.changes
    (λ none. false≢true (c.if-is_empty.ensures ∙ ap (λ n. n == 0) (len_is none)))
    (ap (map outgoing_said) c.in_ok-push_back.ensures.items ∙ (map_push outgoing_said told _ ∙ ap (λ (m : Said). map outgoing_said told ++ m ∷ []) (c.in_ok-message.ensures.said ∙ ap (changes_said root) c.as_slice.ensures.value)))
    (subst (λ (changes : List ChangedTarget). IsFramed (changes_said root changes)) c.as_slice.ensures.value c.in_ok-message.ensures.framed)
  where
    len_is : c.in_ok-found.found.items ≡ [] → vec_len c.in_ok-found.found ≡ 0
    len_is none = let size : length c.in_ok-found.found.items ≡ 0 = ap length none in omega (arith, size, c.in_ok-found.found.ok.0)
