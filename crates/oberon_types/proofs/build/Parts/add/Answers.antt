use Rattle.oberon_types.specs.Memory.{plain_ty}
use Rattle.oberon_types.proofs.PartLaws.{added_within, added}
use Rattle.oberon_types.proofs.build.Parts.add.Goals as goal

pub returns-clause-within : goal.returns-clause-within
returns-clause-within c =
    added_within c.args.self.now.names.items _ _ c.args.self.now.types.items _ c.in_ok-at.ensures.grows.0 c.in_ok-at.ensures.grows.1 c.in_ok-push.ensures.items c.requires c.in_ok-at.ensures.within

pub returns-clause-adds : goal.returns-clause-adds
returns-clause-adds c =
    added c.args.self.now.names.items _ _ c.args.self.now.types.items _ c.in_ok-at.ensures.grows.0 c.in_ok-at.ensures.grows.1 c.in_ok-push.ensures.items (plain_ty c.args.field.ty) c.requires c.in_ok-at.ensures.is
