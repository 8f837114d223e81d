use Rattle.std.proofs.Common.{refl}
use Rattle.session_core.proofs.Calls.{stands_new}
use Rattle.session_core.proofs.session.Core.new.Goals as goal

pub returns-clause-stands : goal.returns-clause-stands
returns-clause-stands c = stands_new _ c.new.ensures.items c.new-4.ensures refl c.new-2.ensures refl refl refl refl c.new-3.ensures
