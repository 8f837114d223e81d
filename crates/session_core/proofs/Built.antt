-- A build at the head told something: it waits for its checks, or its request is answered.
use Rattle.std.proofs.Common.{◌≡◌, ◌++◌, ℕ, List, [], ◌∷◌, false, All, refl, ap, sym, ◌∙◌, subst}
use Rattle.bsp_records.specs.Table.{Table}
use Rattle.rpc_peer.specs.Said.{Said}
use Rattle.session_law.proofs.MidLaws.{mid_answers, mid_tells}
use Rattle.session_law.proofs.OpenLaws.{GoOn}
use Rattle.session_law.proofs.WrittenLaws.{IsNotice, PublishesOf, StartsAnew, all_noticed}
use Rattle.session_law.specs.Builds.{Shows, table_behind}
use Rattle.session_law.specs.Course.{Given, HasEnded, Tells}
use Rattle.session_law.specs.History.{Told}
use Rattle.session_law.specs.IsFramed.{IsFramed}
use Rattle.session_law.specs.Open.{Mid, Open, Plain, none, working}
use Rattle.session_law.specs.Order.{Event, onto, write}
use Rattle.session_law.specs.Past.{Now, after}
use Rattle.session_law.proofs.WorkLaws.{build_answer}

-- two tables are the same that show the same
same_table : (a b : Table) → ((document target : List ℕ) → a document target ≡ b document target) → a ≡ b
same_table a b each = λ i document target. each document target i

-- what is shown behind all of them is what is shown behind the later ones
behind-append : (before later : List Said) (table : Table) → table_behind (before ++ later) table ≡ table_behind later (table_behind before table)
behind-append [] later table = refl
behind-append (m ∷ before) later table = behind-append before later _

module _ (p : Plain) (R : List Told → Type 0) (o : Open) (order : List Event) (mid : Mid p R o order) (last : o.last ≡ []) (nulls : o.nulls ≡ []) (go : GoOn o) (g : Given) (first : o.first ≡ working g false)
    (told own : List Said) (since : (after order).notices ≡ told) (starts : StartsAnew own) (framed : All IsFramed own) (notices : All IsNotice own)
    (table : Table) (before : (document target : List ℕ) → p.table document target ≡ table_behind told g.table document target)
    (shown : (document target : List ℕ) → table document target ≡ table_behind (told ++ own) g.table document target) where
  table_is : table_behind own p.table ≡ table
  table_is =
      ap (table_behind own) (same_table p.table (table_behind told g.table) before)
      ∙ (sym (behind-append told own g.table) ∙ sym (same_table table (table_behind (told ++ own) g.table) shown))

  pub tells_on : Tells g (told ++ own) → PublishesOf g (told ++ own) → Mid (record p { table = table }) R o (onto own order)
  tells_on tells publishes =
      subst (λ t. Mid (record p { table = t }) R o (onto own order)) table_is (mid_tells p R o order mid g first last nulls go told own since starts tells publishes framed notices)

  pub notices_are : (after (onto own order)).notices ≡ told ++ own
  notices_are = ap (λ (n : Now). n.notices) (all_noticed own order notices) ∙ ap (λ ns. ns ++ own) since

  pub builds_are : (after (onto own order)).builds ≡ (after order).builds
  builds_are = ap (λ (n : Now). n.builds) (all_noticed own order notices)

  pub ends_on : (ended : HasEnded g (told ++ own)) → PublishesOf g (told ++ own) → All (Shows table) ended.findings → IsFramed (build_answer g.active.id g.active.build ended.findings)
      → (Q : List Told → Type 0) → (R (after order).builds → Q (record { active = g.active; notices = told ++ own; cleaned = [] } ∷ (after order).builds))
      → Mid (record p { table = table }) Q (record o { first = none }) (write (build_answer g.active.id g.active.build ended.findings) ∷ onto own order)
  ends_on ended publishes shows answer Q remembers =
      subst
      (λ ns. (it : HasEnded g ns) → All (Shows table) it.findings → IsFramed (build_answer g.active.id g.active.build it.findings)
      → Mid (record p { table = table }) Q (record o { first = none }) (write (build_answer g.active.id g.active.build it.findings) ∷ onto own order)) notices_are
      (λ it shows answer.
      mid_answers (record p { table = table }) R o (onto own order) (tells_on (Tells.ended ended) publishes) g first last nulls go it shows answer Q
      (λ known. subst (λ ns. Q (record { active = g.active; notices = ns; cleaned = [] } ∷ (after (onto own order)).builds)) (sym notices_are)
      (subst (λ bs. Q (record { active = g.active; notices = told ++ own; cleaned = [] } ∷ bs)) (sym builds_are) (remembers (subst R builds_are known)))))
      ended shows answer
