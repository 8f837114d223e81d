use Rattle.std.proofs.Common.{◌≡◌, List, [], ◌∷◌, ℕ, codes, sym, subst, ap, ◌∙◌}
use Rattle.std.specs.Str.{IsUtf8}
use Rattle.ob_text.specs.Ascii.{IsGraphicWithin}
use Rattle.session_answers.proofs.Told.{name_text, name_short, tag_text, tag_short, language_text, language_short, only, only_one}
use Rattle.session_law.specs.Questions.{tag_of}
use Rattle.session_answers.proofs.targets.described.Goals as goal

pub returns-clause-texts : goal.returns-clause-texts
returns-clause-texts c =
    let kind = c.args.target.now.kind in
    record {
      id = c.into_text-uri.ensures.utf8;
      display_name = subst IsUtf8 (sym (c.in_ok-new.ensures ∙ c.as_slice.ensures)) (name_text c.args.target.now.name c.requires.name);
      tags = only IsUtf8 c.in_ok-only.field-0 (tag_of kind) (c.in_ok-only.ensures ∙ ap (λ (t : List ℕ). t ∷ []) c.tag_of.ensures) (tag_text kind);
      language_ids = only IsUtf8 c.in_ok-only-2.field-0 (codes "oberon") c.in_ok-only-2.ensures language_text;
      dependencies = c.in_ok-identifiers.ensures.texts;
    }

pub returns-clause-short : goal.returns-clause-short
returns-clause-short c =
    let kind = c.args.target.now.kind in
    let tags : c.in_ok-only.field-0 ≡ tag_of kind ∷ [] = c.in_ok-only.ensures ∙ ap (λ (t : List ℕ). t ∷ []) c.tag_of.ensures in
    record {
      id = c.into_text-uri.ensures.address;
      display_name = subst (IsGraphicWithin 255) (sym (c.in_ok-new.ensures ∙ c.as_slice.ensures)) (name_short c.args.target.now.name c.requires.name);
      tag_count = only_one c.in_ok-only.field-0 (tag_of kind) tags;
      tags = only (IsGraphicWithin 20) c.in_ok-only.field-0 (tag_of kind) tags (tag_short kind);
      language_count = only_one c.in_ok-only-2.field-0 (codes "oberon") c.in_ok-only-2.ensures;
      language_ids = only (IsGraphicWithin 20) c.in_ok-only-2.field-0 (codes "oberon") c.in_ok-only-2.ensures language_short;
      dependencies = c.in_ok-identifiers.ensures.short;
    }
