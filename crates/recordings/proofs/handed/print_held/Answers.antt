use Rattle.std.proofs.Common.{◌≡◌, ◌++◌}
use Rattle.std.specs.Prelude.{codes}
use Rattle.std.proofs.lemmas.Result.{on_ok_weaker}
use Rattle.recordings.proofs.SpellingLaws.{text_written, absent_written, too_large_written, not_text_written}
use Rattle.recordings.proofs.handed.print_held.Goals as goal

pub returns-in_ok-print_text-in-Text : goal.returns-in_ok-print_text-in-Text
returns-in_ok-print_text-in-Text c =
    on_ok_weaker c.put-in-Text.result
    (λ (last : c.put-in-Text.new.out.items ≡ c.print_text.new.out.items ++ codes "]").
    text_written c.args.held.now _ c.as_str.result.now c.args.out.now.items c.put.new.out.items c.print_text.new.out.items c.put-in-Text.new.out.items c.in-Text.is c.as_str.ensures c.in_ok-put-in-Text.ensures c.in_ok-print_text-in-Text.ensures last)
    c.put-in-Text.ensures

pub returns-in-Absent : goal.returns-in-Absent
returns-in-Absent c =
    on_ok_weaker c.put-in-Absent.result
    (λ (last : c.put-in-Absent.new.out.items ≡ c.args.out.now.items ++ codes ",\"absent\"]"). absent_written c.args.held.now c.args.out.now.items c.put-in-Absent.new.out.items c.in-Absent.is last)
    c.put-in-Absent.ensures

pub returns-in-TooLarge : goal.returns-in-TooLarge
returns-in-TooLarge c =
    on_ok_weaker c.put-in-TooLarge.result
    (λ (last : c.put-in-TooLarge.new.out.items ≡ c.args.out.now.items ++ codes ",\"tooLarge\"]"). too_large_written c.args.held.now c.args.out.now.items c.put-in-TooLarge.new.out.items c.in-TooLarge.is last)
    c.put-in-TooLarge.ensures

pub returns-in-NotText : goal.returns-in-NotText
returns-in-NotText c =
    on_ok_weaker c.put-in-NotText.result
    (λ (last : c.put-in-NotText.new.out.items ≡ c.args.out.now.items ++ codes ",\"notText\"]"). not_text_written c.args.held.now c.args.out.now.items c.put-in-NotText.new.out.items c.in-NotText.is last)
    c.put-in-NotText.ensures
