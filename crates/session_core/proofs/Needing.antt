-- What is needed from outside stays from step to step.
use Rattle.std.proofs.Common.{refl, ◌∙◌}
use Rattle.session_core.specs.Moving.{KeepsJobs, KeepsNeeds}
use Rattle.session_core.specs.declared.session.Core.{Core}

pub jobs_on : (x y old : Core) → KeepsJobs x y → KeepsJobs old x → KeepsJobs old y
jobs_on x y old one before = record { jobs = one.jobs ∙ before.jobs; given = one.given ∙ before.given }

pub needs_on : (x y old : Core) → KeepsNeeds x y → KeepsNeeds old x → KeepsNeeds old y
needs_on x y old one before = record { tree = one.tree ∙ before.tree; drains = one.drains ∙ before.drains; jobs = jobs_on x y old one.jobs before.jobs }

pub needs_same : (core : Core) → KeepsNeeds core core
needs_same core = record { tree = refl; drains = refl; jobs = record { jobs = refl; given = refl } }
