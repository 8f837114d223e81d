use Rattle.std.proofs.Common.{◌≡◌, ◌∙◌, ℕ, List, Option, Some, IfSome, take, ap, sym, subst}
use Rattle.std.specs.Char.{is_ascii}
use Rattle.std.specs.List.{take_while}
use Rattle.std.specs.Str.{IsAscii}
use Rattle.bsp_records.specs.Shown.{name_shown}
use Rattle.bsp_records.proofs.ShownLaws.{plain_shown}
use Rattle.bsp_records.proofs.shown.name_shown.Goals as goal

pub returns-in-Some-clause-plain : goal.returns-in-Some-clause-plain
returns-in-Some-clause-plain c =
    let name : List ℕ = c.in-Some.name in
    let result : List ℕ = c.ascii_front.result.now in
    let shown : result ≡ name_shown (Some name) = c.ascii_front.ensures ∙ ap (take_while is_ascii) (c.front.ensures ∙ ap (take 64) c.as_slice.ensures) in
    subst (λ (o : Option (List ℕ)). IfSome o (λ n. IsAscii n → result ≡ take 64 n)) (sym c.in-Some.is) (λ ascii. shown ∙ plain_shown name ascii)
