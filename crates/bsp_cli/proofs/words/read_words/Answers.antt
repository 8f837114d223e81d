use Rattle.std.proofs.Common.{◌≡◌, ◌∙◌, ◌∷◌, [], true, subst, ap, sym, refl, length, arith}
use Rattle.std.specs.Prelude.{codes}
use Rattle.bsp_cli.specs.Words.{is_folder}
use Rattle.bsp_cli.proofs.WordLaws.{two_items}
use Rattle.bsp_cli.proofs.words.read_words.Goals as goal

pub returns-then-is_folder-clause-command : goal.returns-then-is_folder-clause-command
returns-then-is_folder-clause-command c =
    let two : length c.args.words.now ≡ 2 = omega arith in
    let serve : c.command-item.result ≡ codes "serve" = sym c.as_slice.ensures ∙ c.if-is_serve.ensures.0 refl in
    record {
      spelled = two_items c.args.words.now c.command-item.result c.folder-item.result two c.command-item.is c.folder-item.is ∙ ap (λ word. word ∷ c.folder-item.result ∷ []) serve;
      named = subst (λ word. is_folder word ≡ true) c.as_slice-then-is_serve.ensures (sym c.is_folder.ensures ∙ c.if-is_folder.true);
    }
