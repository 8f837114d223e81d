use Rattle.std.proofs.Common.{ℕ, List, sym, subst}
use Rattle.std.specs.List.{All}
use Rattle.std.specs.Str.{IsUtf8}
use Rattle.std.proofs.lemmas.List.Elements.{All-push}
use Rattle.ob_text.specs.declared.held.Held.{Held}
use Rattle.recordings.specs.Recordings.{IsTextEntry}
use Rattle.recording_tests.proofs.spelled.add.Goals as goal

pub returns : goal.returns
returns c =
    let entry : List ℕ × Held = (c.in_ok-path.path, c.args.held) in
    let utf8 : IsUtf8 c.in_ok-path.path = subst IsUtf8 (sym c.in_ok-path.ensures) c.as_bytes.ensures.utf8 in
    subst (All IsTextEntry) (sym c.in_ok-push.ensures.items) (All-push IsTextEntry c.args.entries.now.items entry c.requires.texts (utf8, c.requires.held))
