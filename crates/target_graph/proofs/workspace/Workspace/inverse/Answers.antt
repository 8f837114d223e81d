use Rattle.std.proofs.Common.{◌≡◌, ◌≢◌, ◌++◌, ℕ, List, length, Some, None, IfSome, IfNone, option_copied, ap, sym, subst, ◌∙◌, arith}
use Rattle.std.proofs.lemmas.Result.{IfOk-weaker}
use Rattle.target_graph.specs.declared.target.Target.{Target}
use Rattle.target_graph.specs.Address.{printed}
use Rattle.target_graph.specs.Listers.{AreListers}
use Rattle.target_graph.specs.Workspace.{Space}
use Rattle.target_graph.proofs.Ids.{IsCut, cut_printed, cut_none, inverse_of}
use Rattle.target_graph.proofs.workspace.Workspace.inverse.Goals as goal

pub listing-requires : goal.listing-requires
listing-requires c =
    let a = ap (λ (xs : List Target). length xs) c.as_slice-in-Some.ensures.value in
    omega (arith, a, c.self.invariant.sound.few)

pub returns-in-Some-clause-inverse : goal.returns-in-Some-clause-inverse
returns-in-Some-clause-inverse c =
    let space = c.args.self.now in
    let uri = c.args.uri.now in
    let front = c.as_slice.result.now in
    let own = c.behind-own.result in
    let other = c.behind.result in
    let ts : c.self.inside.targets.items ≡ space.targets = ap (λ (s : Space). s.targets) c.self.view_is in
    let root : front ≡ space.root = c.as_slice.ensures.text ∙ ap (λ (s : Space). s.root) c.self.view_is in
    let again : c.as_slice-in-Some-3.result.now ≡ front = c.as_slice-in-Some-3.ensures.text ∙ sym c.as_slice.ensures.text in
    let some = subst (λ (u : List ℕ). IfSome own (λ rest. u ≡ front ++ rest.now)) c.as_bytes.ensures.value c.behind-own.ensures.some in
    let none = subst (λ (u : List ℕ). IfNone own ((rest : List ℕ) → u ≢ front ++ rest)) c.as_bytes.ensures.value c.behind-own.ensures.none in
    let told : printed uri ≡ Some c.as_slice-in-Some-2.result.now = sym c.in_ok-printed.ensures ∙ (c.in-Some.is ∙ ap Some (sym c.as_slice-in-Some-2.ensures)) in
    let cut =
    subst (λ (r : List ℕ). IsCut uri r (option_copied other)) again
    (cut_printed uri c.as_slice-in-Some-3.result.now c.as_slice-in-Some-2.result.now other told c.behind.ensures.some c.behind.ensures.none) in
    IfOk-weaker c.listing.result _ _
    (λ indices l. inverse_of space uri front own (option_copied other) indices.items root some none cut
    (subst (λ (xs : List Target). AreListers xs (option_copied own) (option_copied other) indices.items) (c.as_slice-in-Some.ensures.value ∙ ts) l))
    c.listing.ensures.listers

pub returns-clause-inverse : goal.returns-clause-inverse
returns-clause-inverse c =
    let space = c.args.self.now in
    let uri = c.args.uri.now in
    let front = c.as_slice.result.now in
    let own = c.behind-own.result in
    let ts : c.self.inside.targets.items ≡ space.targets = ap (λ (s : Space). s.targets) c.self.view_is in
    let root : front ≡ space.root = c.as_slice.ensures.text ∙ ap (λ (s : Space). s.root) c.self.view_is in
    let some = subst (λ (u : List ℕ). IfSome own (λ rest. u ≡ front ++ rest.now)) c.as_bytes.ensures.value c.behind-own.ensures.some in
    let none = subst (λ (u : List ℕ). IfNone own ((rest : List ℕ) → u ≢ front ++ rest)) c.as_bytes.ensures.value c.behind-own.ensures.none in
    let told : printed uri ≡ None = sym c.in_ok-printed.ensures ∙ c.in-None.is in
    IfOk-weaker c.listing-in-None.result _ _
    (λ indices l. inverse_of space uri front own None indices.items root some none (cut_none uri front told)
    (subst (λ (xs : List Target). AreListers xs (option_copied own) None indices.items) (c.as_slice-in-None.ensures.value ∙ ts) l))
    c.listing-in-None.ensures.listers

pub returns-in-Some-clause-few : goal.returns-in-Some-clause-few
returns-in-Some-clause-few c =
    let size = ap (λ (xs : List Target). length xs) c.as_slice-in-Some.ensures.value in
    IfOk-weaker c.listing.result _ _ (λ indices few. omega (arith, few, size, c.self.invariant.sound.few)) c.listing.ensures.few

pub returns-clause-few : goal.returns-clause-few
returns-clause-few c =
    let size = ap (λ (xs : List Target). length xs) c.as_slice-in-None.ensures.value in
    IfOk-weaker c.listing-in-None.result _ _ (λ indices few. omega (arith, few, size, c.self.invariant.sound.few)) c.listing-in-None.ensures.few
