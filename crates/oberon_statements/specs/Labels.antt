-- The labels of a CASE in memory, and what is known of them: what they overlap is what the labels so far overlap.
use Rattle.std.specs.Prelude.{◌≡◌, Bool, false, ◌||◌, List, Option, Some, None, pos}
use Rattle.std.specs.Option.{option_map}
use Rattle.case_labels.specs.Ranges.{meets_any}
use Rattle.oberon_types.specs.declared.value.Value.{Value}
use Rattle.oberon_types.specs.declared.value.Value.TheVariants as values
use Rattle.oberon_rules.specs.Scopes.{Said}
use Rattle.oberon_rules.specs.Statements.{CaseKind, any_case, whole_case, char_case, LabelMeant, unclear_label, no_label, whole_label, char_label, string_label, Interval, whole_interval, char_interval, is_empty_interval, overlaps, overlaps_any}
use Rattle.oberon_infer.specs.declared.said.Said.{Said as OwnSaid}
use Rattle.oberon_infer.specs.Adds.{Adds}
use Rattle.oberon_statements.specs.declared.label.Meant.{Meant}
use Rattle.oberon_statements.specs.declared.label.Meant.TheVariants as meants
use Rattle.oberon_statements.specs.declared.interval.CaseKind.{CaseKind as OwnKind}
use Rattle.oberon_statements.specs.declared.interval.CaseKind.TheVariants as kinds
use Rattle.oberon_statements.specs.declared.interval.Interval.{Interval as OwnInterval}
use Rattle.oberon_statements.specs.declared.interval.Interval.TheVariants as intervals
use Rattle.oberon_statements.specs.declared.judged.CaseLabels.{CaseLabels}

abbrev pub plain_meant : Meant → LabelMeant
plain_meant meants.Unclear = unclear_label
plain_meant meants.Nothing = no_label
plain_meant (meants.Whole n) = whole_label n
plain_meant (meants.Char c) = char_label c

abbrev pub plain_kind : OwnKind → CaseKind
plain_kind kinds.Any = any_case
plain_kind kinds.Whole = whole_case
plain_kind kinds.Char = char_case

abbrev pub plain_interval : OwnInterval → Interval
plain_interval (intervals.Whole a b) = whole_interval a b
plain_interval (intervals.Char a b) = char_interval a b

abbrev pub plain_interval_option : Option OwnInterval → Option Interval
plain_interval_option i = option_map plain_interval i

-- what a constant is as a label
abbrev pub value_label : Value → LabelMeant
value_label (values.Integer n) = whole_label n
value_label (values.Char c) = char_label c
value_label (values.Str x) = string_label x
value_label _ = no_label

-- ---- the labels so far

-- whether an interval overlaps one of them
abbrev pub meets_labels : CaseLabels → Interval → Bool
meets_labels c (whole_interval a b) = meets_any a b c.wholes
meets_labels c (char_interval a b) = meets_any (pos a) (pos b) c.chars

abbrev pub is_met : CaseLabels → Option Interval → Bool
is_met c None = false
is_met c (Some i) = meets_labels c i

abbrev pub overlaps_option : Interval → Option Interval → Bool
overlaps_option i None = false
overlaps_option i (Some j) = overlaps i j

-- the labels of the first and an interval are those of the second
abbrev pub Joins : CaseLabels → CaseLabels → Option Interval → Type 0
Joins c d j = (i : Interval) → is_empty_interval (Some i) ≡ false → meets_labels d i ≡ (overlaps_option i j || meets_labels c i)

-- they are of this kind, and overlap what these intervals overlap
pub record Knows (c : CaseLabels) (k : CaseKind) (earlier : List Interval) : Type 0 where
  pub kind : plain_kind c.kind ≡ k
  pub same : (i : Interval) → is_empty_interval (Some i) ≡ false → meets_labels c i ≡ overlaps_any earlier (Some i)

-- f is said, and the labels are then known by these intervals
pub record Judges (old new : List OwnSaid) (c : CaseLabels) (k : CaseKind) (f : List Said → List Said) (later : List Interval) : Type 0 where
  pub says : Adds old new f
  pub knows : Knows c k later
