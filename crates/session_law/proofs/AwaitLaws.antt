-- A session rests: the build at the head waits for a check, and nothing waits but behind a build.
use Rattle.std.proofs.Common.{◌≡◌, ◌++◌, [], ap, sym, ◌∙◌, subst, append-nil}
use Rattle.session_law.proofs.TakeLaws.{WaitsBehind}
use Rattle.session_law.specs.EachRests.{AwaitsCheck, HeadAwaits}
use Rattle.session_law.specs.Open.{First, IsFirst, IsOpen, Open, none, owing, working}
use Rattle.session_law.specs.Past.{Now}

abbrev pub FirstAwaits : First → Now → Type 0
FirstAwaits none now = Unit {0}
FirstAwaits (owing id number v) now = ⊥
FirstAwaits (working g marked) now = AwaitsCheck g now.notices

pub head_awaits : (o : Open) (now : Now) (is : IsOpen o now) → o.last ≡ [] → FirstAwaits o.first now → WaitsBehind o.first o.waiting → HeadAwaits now.requests now
head_awaits o now is last = by o.first is.first_is
  where
    requests_so : now.requests ≡ is.head ++ o.waiting
    requests_so = is.requests_are ∙ (ap (λ l. is.head ++ (o.waiting ++ l)) last ∙ ap (λ w. is.head ++ w) (append-nil o.waiting))

    by : (first : First) → IsFirst first now is.head → FirstAwaits first now → WaitsBehind first o.waiting → HeadAwaits now.requests now
    by none head awaits behind = subst (λ rs. HeadAwaits rs now) (sym (requests_so ∙ (ap (λ h. h ++ o.waiting) head ∙ behind))) tt
    by (owing id number v) head awaits behind = absurd awaits
    by (working g marked) head awaits behind =
        subst (λ rs. HeadAwaits rs now) (sym (requests_so ∙ ap (λ h. h ++ o.waiting) head.0)) (record { given = g; by_build = head.1; awaits = awaits })
