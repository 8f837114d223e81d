use Rattle.std.proofs.Common.{◌≡◌, ℤ, ap, sym, ◌∙◌, ◌++◌, rules, w32, to_z, of_z}
use Rattle.std.proofs.lemmas.Int.{to_z-of_z}
use Rattle.iface_key.specs.Keys.{integer_then, value_then}
use Rattle.iface_key.proofs.PutLaws.{on_ok}
use Rattle.iface_key.proofs.printing.put_value.Goals as goal

pub returns-in_ok-put_byte-in-Integer : goal.returns-in_ok-put_byte-in-Integer
returns-in_ok-put_byte-in-Integer c =
    let same : to_z w32 (of_z w32 c.in-Integer.integer) ≡ c.in-Integer.integer = to_z-of_z w32 c.in-Integer.integer (search rules) in
    on_ok c.put_integer.result
    (λ printed rest. printed rest ∙ ap (λ (z : ℤ). c.put_byte.new.key.items ++ integer_then z rest) same ∙ c.in_ok-put_byte-in-Integer.ensures _ ∙ ap (λ v. c.args.key.now.items ++ value_then v rest) (sym c.in-Integer.is))
    c.put_integer.ensures
