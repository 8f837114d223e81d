use Rattle.std.proofs.Common.{◌≡◌, Ok, arith, rules, sym}
use Rattle.std.proofs.lemmas.Fmt.{parse-decimal}
use Rattle.client_script.proofs.reading.id_in.Goals as goal

pub returns-in_default : goal.returns-in_default
returns-in_default c id small e =
    let is : c.parse.result ≡ Ok id = parse-decimal 64 id c.args.word.now c.parse.result (omega arith) (omega arith) (sym e) c.parse.ensures.value.0 in
    let same : c.in-Ok.id ≡ id = cc in
    absurd (grind arith)

pub returns-in_default-2 : goal.returns-in_default-2
returns-in_default-2 c id small e =
    let is : c.parse.result ≡ Ok id = parse-decimal 64 id c.args.word.now c.parse.result (omega arith) (omega arith) (sym e) c.parse.ensures.value.0 in
    let same : c.in-Ok.id ≡ id = cc in
    absurd (omega arith)

pub returns-in_default-3 : goal.returns-in_default-3
returns-in_default-3 c id small e =
    let is : c.parse.result ≡ Ok id = parse-decimal 64 id c.args.word.now c.parse.result (omega arith) (omega arith) (sym e) c.parse.ensures.value.0 in
    absurd cc

pub returns-in-Ok : goal.returns-in-Ok
returns-in-Ok c = (omega arith, c.is_decimal.ensures.0 (search rules))
