-- A build before its documents are handed out.
use Rattle.std.specs.Prelude.{◌≢◌, ℕ, List, map, Option}
use Rattle.std.specs.List.{AllPairs}
use Rattle.std.specs.Option.{IfSome}
use Rattle.json_shape.specs.Shapes.{IsTextWithin}
use Rattle.bsp_records.specs.Limits.{origin_limit}
use Rattle.build_messages.specs.Documents.{build_of}
use Rattle.session_verdicts.specs.declared.planned.Planned.TheInside.{Inside}
use Rattle.session_law.specs.Methods.{Build}
use Rattle.session_law.specs.declared.BuildDocument.{BuildDocument}
use Rattle.target_graph.specs.Workspace.{Space}

-- what contracts see of it
pub record Plan : Type 0 where
  pub asked : List ℕ
  pub origin : Option (List ℕ)
  pub documents : List BuildDocument

abbrev pub plan_of : Inside → Plan
plan_of planned = record { asked = planned.asked; origin = planned.origin; documents = planned.documents }

-- its `originId` is short, and no two documents have one key
pub record IsSoundPlan (plan : Plan) : Type 0 where
  pub distinct : AllPairs ◌≢◌ (map (λ document. document.key) plan.documents)
  pub short : IfSome plan.origin (IsTextWithin origin_limit)

-- the build that the law speaks of
abbrev pub build_in : Space → Plan → Build
build_in space plan = build_of space plan.asked plan.origin
