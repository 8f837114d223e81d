-- What is told behind other messages, one message after another.
use Rattle.std.proofs.Common.{◌≡◌, ◌+◌, ◌++◌, ◌<◌, ℕ, suc, List, [], ◌∷◌, length, get_or, map, take, refl, ap, sym, ◌∙◌, arith, append_assoc}
use Rattle.std.proofs.lemmas.List.{append-nil, length-take-le, map-append, take_more}
use Rattle.std.proofs.lemmas.List.Elements.{All-append, All-nil, All-push}
use Rattle.rpc_peer.specs.Said.{Said}
use Rattle.session_law.specs.IsFramed.{IsFramed}
use Rattle.session_law.specs.Tasks.{target_cancelled, target_starts}
use Rattle.session_build.specs.Building.{IsNotice}
use Rattle.session_build.specs.Cancels.{targets_said}
use Rattle.session_build.specs.Ending.{target_reported, targets_reported}
use Rattle.build_messages.specs.Outgoing.{outgoing_said}
use Rattle.session_build.specs.Telling.{TellsBehind, starts_from}
use Rattle.build_messages.specs.declared.outgoing.Outgoing.{Outgoing}
use Rattle.session_build.specs.declared.setting.Setting.{Setting}
use Rattle.session_build.specs.declared.tally.Tally.{Tally}
use Rattle.target_graph.specs.Workspace.{id_of}

pub said_push : (old new : List Outgoing) (m : Outgoing) (s : Said) → new ≡ old ++ m ∷ [] → outgoing_said m ≡ s → map outgoing_said new ≡ map outgoing_said old ++ s ∷ []
said_push old new m s is said =
    ap (map outgoing_said) is ∙ (map-append outgoing_said old (m ∷ []) ∙ ap (λ (x : Said). map outgoing_said old ++ x ∷ []) said)

pub tells_none : (before after : List Said) → after ≡ before → TellsBehind [] before after
tells_none before after is = record { are = is ∙ sym (append-nil before); framed = All-nil IsFramed; notices = All-nil IsNotice }

-- one message more
pub tells_push : (told before mid after : List Said) (m : Said) → TellsBehind told before mid → after ≡ mid ++ m ∷ [] → IsFramed m → IsNotice m → TellsBehind (told ++ m ∷ []) before after
tells_push told before mid after m tells is framed notice = record {
  are = is ∙ (ap (λ (xs : List Said). xs ++ m ∷ []) tells.are ∙ append_assoc before told (m ∷ []));
  framed = All-push IsFramed told m tells.framed framed;
  notices = All-push IsNotice told m tells.notices notice;
}

-- and others more
pub tells_on : (own more before mid after : List Said) → TellsBehind own before mid → TellsBehind more mid after → TellsBehind (own ++ more) before after
tells_on own more before mid after first second = record {
  are = second.are ∙ (ap (λ (xs : List Said). xs ++ more) first.are ∙ append_assoc before own more);
  framed = All-append IsFramed own more first.framed second.framed;
  notices = All-append IsNotice own more first.notices second.notices;
}

-- ---- targets in their order

-- what is told of targets, each with its number, is told of the first so many, and of one more
module _ (all : ℕ → List ℕ → List Said) (one : ℕ → ℕ → Said) (none : (i : ℕ) → all i [] ≡ []) (first : (i x : ℕ) (xs : List ℕ) → all i (x ∷ xs) ≡ one i x ∷ all (suc i) xs) where
  all_push : (i : ℕ) (xs : List ℕ) (x : ℕ) → all i (xs ++ x ∷ []) ≡ all i xs ++ one (length xs + i) x ∷ []
  all_push i [] x =
      first i x []
      ∙ (ap (λ (ms : List Said). one i x ∷ ms) (none (suc i)) ∙ (ap (λ n. one n x ∷ []) (omega arith) ∙ ap (λ (ms : List Said). ms ++ one (0 + i) x ∷ []) (sym (none i))))
  all_push i (y ∷ xs) x =
      first i y (xs ++ x ∷ [])
      ∙ (ap (λ (ms : List Said). one i y ∷ ms) (all_push (suc i) xs x)
      ∙ (ap (λ n. (one i y ∷ all (suc i) xs) ++ one n x ∷ []) (omega arith)
      ∙ ap (λ (ms : List Said). ms ++ one (length (y ∷ xs) + i) x ∷ []) (sym (first i y xs))))

  all_more : (targets : List ℕ) (k d : ℕ) → k < length targets → all 1 (take (k + 1) targets) ≡ all 1 (take k targets) ++ one (k + 1) (get_or targets k d) ∷ []
  all_more targets k d h =
      let size : length (take k targets) ≡ k = length-take-le k targets (omega arith) in
      ap (all 1) (take_more targets k d h)
      ∙ (all_push 1 (take k targets) (get_or targets k d)
      ∙ ap (λ n. all 1 (take k targets) ++ one (n + 1) (get_or targets k d) ∷ []) size)

module _ (at : Setting) where
  pub starts_more : (targets : List ℕ) (k d : ℕ) → k < length targets
      → starts_from at 1 (take (k + 1) targets) ≡ starts_from at 1 (take k targets) ++ target_starts at.number (k + 1) (id_of at.workspace.value (get_or targets k d)) ∷ []
  starts_more =
      all_more (starts_from at) (λ i target. target_starts at.number i (id_of at.workspace.value target)) (λ i. refl) (λ i x xs. refl)

  pub cancelled_more : (targets : List ℕ) (k d : ℕ) → k < length targets
      → targets_said at 1 (take (k + 1) targets) ≡ targets_said at 1 (take k targets) ++ target_cancelled at.number (k + 1) ∷ []
  cancelled_more = all_more (targets_said at) (λ i target. target_cancelled at.number i) (λ i. refl) (λ i x xs. refl)

  pub reported_more : (tallies : List Tally) (targets : List ℕ) (k d : ℕ) → k < length targets
      → targets_reported at tallies 1 (take (k + 1) targets) ≡ targets_reported at tallies 1 (take k targets) ++ target_reported at tallies (k + 1) (get_or targets k d) ∷ []
  reported_more tallies = all_more (targets_reported at tallies) (target_reported at tallies) (λ i. refl) (λ i x xs. refl)
