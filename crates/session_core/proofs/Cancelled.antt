-- The build at the head is cancelled: its tasks finish as cancelled, and its request is answered.
use Rattle.std.proofs.Common.{◌≡◌, ◌++◌, ℕ, List, [], ◌∷◌, true, All, IfSome, Option, Some, refl, ap, sym, ◌∙◌, subst}
use Rattle.bsp_records.specs.Limits.{origin_limit}
use Rattle.json_shape.specs.Shapes.{IsTextWithin}
use Rattle.rpc_peer.specs.Said.{Said, IsId}
use Rattle.rpc_peer.specs.declared.message.Id.{Id}
use Rattle.session_build.specs.AtWork.{HasCancelled, IsAtWork, told_by}
use Rattle.session_build.specs.Remembering.{Remembers}
use Rattle.session_build.specs.declared.building.Build.{Build}
use Rattle.session_build.specs.declared.kept.Kept.{Kept}
use Rattle.session_verdicts.proofs.Framing.{framed_cancelled}
use Rattle.session_core.proofs.Moving.{onto-push}
use Rattle.session_core.specs.Standing.{MidOf, Recalls, RemembersIn}
use Rattle.session_core.specs.State.{plain_of, said_out}
use Rattle.session_core.specs.declared.session.Core.{Core}
use Rattle.session_law.proofs.CancelLaws.{all_of_cancel}
use Rattle.session_law.proofs.MidLaws.{mid_answers_cancelled, mid_cancels}
use Rattle.session_law.proofs.TaskLaws.{tasks_show_nothing}
use Rattle.session_law.proofs.WorkLaws.{first_so}
use Rattle.session_law.proofs.WrittenLaws.{IsNotice, all_noticed}
use Rattle.session_law.specs.Builds.{cancelled_said, table_behind}
use Rattle.session_law.specs.Cancelling.{IsCancelledBy}
use Rattle.session_law.specs.Course.{Given}
use Rattle.session_law.specs.History.{Told}
use Rattle.session_law.specs.IsFramed.{IsFramed}
use Rattle.session_law.specs.Open.{Mid, Open, Plain, none, working}
use Rattle.session_law.specs.Order.{Event, onto, write}
use Rattle.session_law.specs.Past.{Now, after}
use Rattle.session_law.specs.ShowsOldOrNew.{ShowsEither}
use Rattle.target_graph.specs.Workspace.{Space}
use Rattle.task_stream.specs.Showing.{shows}

pub onto-append : (a b : List Said) (order : List Event) → onto (a ++ b) order ≡ onto b (onto a order)
onto-append [] b order = refl
onto-append (m ∷ a) b order = onto-append a b (write m ∷ order)

-- ---- by the session alone

module _ (p : Plain) (R Q : List Told → Type 0) (o : Open) (order : List Event) (mid : Mid p R o order) (g : Given) (first : o.first ≡ working g true) where
  abbrev now : Now
  now = after order

  pub cancels_all : (own : List Said) → IsCancelledBy g now.notices own → All IsFramed own → All IsNotice own → ShowsEither g.active g.table p.table
      → IsFramed (cancelled_said g.active.id g.active.build.origin)
      → (R now.builds → Q (record { active = g.active; notices = now.notices ++ own; cleaned = [] } ∷ now.builds))
      → Mid p Q (record o { first = none }) (write (cancelled_said g.active.id g.active.build.origin) ∷ onto own order)
  cancels_all own by framed notices shows answer remembers =
      let same : table_behind own p.table ≡ p.table = tasks_show_nothing own p.table (λ k d h. (all_of_cancel by k d h).tells) in
      let told : Mid p R o (onto own order) =
      subst (λ t. Mid (record p { table = t }) R o (onto own order)) same (mid_cancels p R o order mid g first now.notices own refl by framed notices) in
      let noticed_so = all_noticed own order notices in
      let notices_are : (after (onto own order)).notices ≡ now.notices ++ own = ap (λ (n : Now). n.notices) noticed_so in
      let builds_are : (after (onto own order)).builds ≡ now.builds = ap (λ (n : Now). n.builds) noticed_so in
      mid_answers_cancelled p R o (onto own order) told g first now.notices own notices_are by shows answer Q
      (λ before. subst (λ ns. Q (record { active = g.active; notices = ns; cleaned = [] } ∷ (after (onto own order)).builds)) (sym notices_are)
      (subst (λ bs. Q (record { active = g.active; notices = now.notices ++ own; cleaned = [] } ∷ bs)) (sym builds_are) (remembers (subst R builds_are before))))

-- ---- by a core

module _ (old new : Core) (b : Build) (id : Id) (origin : Option (List ℕ)) (kept : Kept) (before after_told : List Said) (has : HasCancelled b old.kept kept before after_told)
    (nothing : before ≡ []) (said : said_out new ≡ said_out old ++ (after_told ++ cancelled_said id origin ∷ [])) (plain : plain_of new ≡ plain_of old)
    (workspace : new.workspace ≡ old.workspace) (kept_is : new.kept ≡ kept) (named : IsId id) (short : IfSome origin (IsTextWithin origin_limit))
    (o : Open) (g : Given) (order : List Event) (mid : MidOf old o order) (first : o.first ≡ working g true) (id_is : g.active.id ≡ id) (origin_is : g.active.build.origin ≡ origin)
    (space_is : old.workspace ≡ Some g.active.build.space) (at_work : IsAtWork g b (after (onto (said_out old) order)).notices old.kept.keys (shows old.shown)) where
  abbrev so_far : List Event
  so_far = onto (said_out old) order

  abbrev space : Space
  space = g.active.build.space

  own_is : after_told ≡ has.own
  own_is = has.tells.are ∙ ap (λ ms. ms ++ has.own) nothing

  order_is : onto (said_out new) order ≡ write (cancelled_said g.active.id g.active.build.origin) ∷ onto has.own so_far
  order_is =
      ap (λ ms. onto ms order) (said ∙ ap (λ ms. said_out old ++ (ms ++ cancelled_said id origin ∷ [])) own_is)
      ∙ (onto-append (said_out old) (has.own ++ cancelled_said id origin ∷ []) order
      ∙ (onto-push has.own (cancelled_said id origin) so_far
      ∙ (λ i. write (cancelled_said (sym id_is i) (sym origin_is i)) ∷ onto has.own so_far)))

  earlier_is : g.earlier ≡ (after so_far).builds
  earlier_is = (first_so o (after so_far) mid.open_is g true first).1.earlier_is

  recalls : Recalls old (after so_far).builds → Recalls new (record { active = g.active; notices = (after so_far).notices ++ has.own; cleaned = [] } ∷ (after so_far).builds)
  recalls remembers =
      let known : Remembers space g.earlier old.kept =
      subst (λ bs. Remembers space bs old.kept) (sym earlier_is) (subst (λ f. RemembersIn f old.kept (after so_far).builds) space_is remembers) in
      let still : Remembers space (told_by g ((after so_far).notices ++ has.own) ∷ g.earlier) kept = has.remembers g (after so_far).notices (shows old.shown) at_work known in
      subst (λ f. RemembersIn f new.kept (record { active = g.active; notices = (after so_far).notices ++ has.own; cleaned = [] } ∷ (after so_far).builds)) (sym (workspace ∙ space_is))
      (subst (λ k. Remembers space (record { active = g.active; notices = (after so_far).notices ++ has.own; cleaned = [] } ∷ (after so_far).builds) k) (sym kept_is)
      (subst (λ bs. Remembers space (told_by g ((after so_far).notices ++ has.own) ∷ bs) kept) earlier_is still))

  framed : IsFramed (cancelled_said g.active.id g.active.build.origin)
  framed = subst (λ x. IsFramed (cancelled_said x g.active.build.origin)) (sym id_is) (subst (λ x. IsFramed (cancelled_said id x)) (sym origin_is) (framed_cancelled id origin named short))

  pub core_cancels : MidOf new (record o { first = none }) order
  core_cancels =
      subst (λ (q : Plain). Mid q (Recalls new) (record o { first = none }) (onto (said_out new) order)) (sym plain)
      (subst (Mid (plain_of old) (Recalls new) (record o { first = none })) (sym order_is)
      (cancels_all (plain_of old) (Recalls old) (Recalls new) o so_far mid g first has.own (has.cancels g (after so_far).notices (shows old.shown) at_work) has.tells.framed has.tells.notices
      (has.shows g (after so_far).notices (shows old.shown) at_work) framed recalls))
