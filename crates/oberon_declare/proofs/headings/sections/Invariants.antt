use Rattle.std.specs.Prelude.{◌≡◌, ◌++◌, drop, map}
use Rattle.oberon_tree.specs.Memory.{next_section_tree}
use Rattle.oberon_tree.specs.Trees.{NextSectionTree}
use Rattle.oberon_types.specs.Memory.{plain_param}
use Rattle.oberon_rules.specs.Procedures.{sections_behind, sections_say, sections_params}
use Rattle.oberon_infer.specs.Adds.{Goes}
use Rattle.oberon_infer.specs.Memory.{plain_scopes}
use Rattle.oberon_declare.proofs.headings.sections.Given as goal

abbrev pub invariant-loop-next : goal.invariant-loop-next
invariant-loop-next l = record {
  behind : sections_behind l.me (plain_scopes l.scopes) (map (λ (n : NextSectionTree). n.section) (map next_section_tree (drop l.next-index l.next-items))) ≡ sections_behind l.me (plain_scopes l.initial.scopes) (map (λ (n : NextSectionTree). n.section) (map next_section_tree l.next-items));
  says : Goes l.initial.said.items l.said.items (sections_say l.me (plain_scopes l.initial.scopes) (map (λ (n : NextSectionTree). n.section) (map next_section_tree l.next-items))) (sections_say l.me (plain_scopes l.scopes) (map (λ (n : NextSectionTree). n.section) (map next_section_tree (drop l.next-index l.next-items))));
  params : map plain_param l.params.items ++ sections_params l.me (plain_scopes l.scopes) (map (λ (n : NextSectionTree). n.section) (map next_section_tree (drop l.next-index l.next-items))) ≡ map plain_param l.initial.params.items ++ sections_params l.me (plain_scopes l.initial.scopes) (map (λ (n : NextSectionTree). n.section) (map next_section_tree l.next-items));
}
