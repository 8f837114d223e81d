use Rattle.std.proofs.Common.{sym, ◌∙◌}
use Rattle.session_build.proofs.SettingLaws.{document_at}
use Rattle.session_build.proofs.setting.Setting.document_index.Goals as goal

pub returns : goal.returns
returns c = document_at c.args.self.now c.requires.setting c.args.pair c.requires.among c.in-Some.index (sym c.get_index_of.ensures.index ∙ c.in-Some.is)
