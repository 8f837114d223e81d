use Rattle.std.proofs.Common.{length, sym, ap, ◌∙◌, ◌++◌, drop, arith}
use Rattle.std.proofs.lemmas.List.{length-append}
use Rattle.oberon_scan.specs.Spelling.{symbol_text}
use Rattle.oberon_scan.specs.Lexis.{IsToken}
use Rattle.oberon_scan.proofs.Spelled.{spelled}
use Rattle.oberon_scan.proofs.Fronts.{found_first, longest_first}
use Rattle.oberon_scan.proofs.piece.symbol.Goals as goal

pub split_at-requires : goal.split_at-requires
split_at-requires c =
    let text = c.args.text.now in
    let s = c.in-Some.symbol in
    let first = found_first text s c.requires.some (sym c.symbol_at.ensures ∙ c.in-Some.is) in
    omega (arith, ap length first, length-append (symbol_text s) (drop (length (symbol_text s)) text))

pub returns-in-Some : goal.returns-in-Some
returns-in-Some c =
    let text = c.args.text.now in
    let s = c.in-Some.symbol in
    let found = sym c.symbol_at.ensures ∙ c.in-Some.is in
    let first = found_first text s c.requires.some found in
    let rest = ap (λ n. drop n text) (sym c.symbol_len.ensures) ∙ sym c.split_at.ensures.back in
    IsToken.symbol s (record {
      whole = first ∙ ap (λ xs. symbol_text s ++ xs) rest;
      longest = λ t h. longest_first text s t found (spelled s) (spelled t) h;
      no_comment = c.requires.no_comment;
    })
