use Rattle.rpc_frame.proofs.PartLaws.{content_whole}
use Rattle.rpc_frame.proofs.reading.after_content.Goals as goal

pub returns-clause-makes : goal.returns-clause-makes
returns-clause-makes c = λ offset part taken r long. content_whole part taken c.args.header c.args.size c.args.missing r long
