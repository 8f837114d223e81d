use Rattle.std.proofs.Common.{◌≡◌, List, ℕ, Option, None, Some, is_some, true, ap, sym, ◌∙◌, refl}
use Rattle.std.proofs.lemmas.Bool.{false≢true}
use Rattle.oberon_scan.specs.declared.token.Word.{Word}
use Rattle.oberon_scan.specs.Finding.{find_word}
use Rattle.oberon_scan.specs.Spelling.{spelling}
use Rattle.oberon_scan.proofs.Spelled.{word_again, word_found}
use Rattle.oberon_scan.proofs.word.is_reserved.Goals as goal

some_word : (run : List ℕ) (found : Option Word) → find_word run ≡ found → is_some found ≡ true → (w : Word) × (run ≡ spelling w)
some_word run None e t = absurd (false≢true t)
some_word run (Some w) e t = (w, word_found run w e)

pub returns-clause-word : goal.returns-clause-word
returns-clause-word c =
    let e : c.is_some.result ≡ is_some (find_word c.args.run.now) = cc in (
      λ t. some_word c.args.run.now _ refl (sym e ∙ t),
      λ w. e ∙ ap is_some (ap find_word w.1 ∙ word_again w.0),
    )
