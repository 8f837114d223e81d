-- What is said of imports that nothing uses, import after import.
use Rattle.std.specs.Prelude.{ℕ, ◌≡◌, ◌+◌, ◌<◌, ◌≤◌, ◌++◌, ◌&&◌, List, ◌∷◌, length, map, drop}
use Rattle.std.proofs.Common.{get_or, ap, sym, ◌∙◌}
use Rattle.std.proofs.lemmas.List.{at_drop_more, at_drop_all}
use Rattle.ob_text.specs.declared.code.Code.TheVariants as codes_of
use Rattle.oberon_tree.specs.declared.module.Import.{Import}
use Rattle.oberon_tree.specs.declared.module.NextImport.{NextImport}
use Rattle.oberon_types.specs.Entities.{ViewTree}
use Rattle.oberon_infer.specs.Adds.{Adds, Goes}
use Rattle.oberon_infer.specs.Memory.{plain_said}
use Rattle.oberon_infer.specs.declared.said.Said.{Said as OwnSaid}
use Rattle.oberon_rules.specs.Module.{imported, import_behind, is_shown, is_unused, unused_say}
use Rattle.oberon_rules.specs.Scopes.{Said, Scopes, named_row}

abbrev pub rest_of : List NextImport → List Import
rest_of ns = map (λ (n : NextImport). n.import) ns

-- what is said of one import, whose name is declared behind those in `s`
abbrev pub use_says : (List ℕ → ViewTree) → List Said → Scopes → Import → List Said → List Said
use_says views given s i rest = named_row (is_shown (views (imported i).name) && is_unused s i given) i.name codes_of.UnusedImport rest

-- the first import
pub first_use : (views : List ℕ → ViewTree) (given : List Said) (s t : Scopes) (i : Import) (is : List Import) (old new : List OwnSaid)
    → t ≡ import_behind views s i → Adds old new (use_says views given s i) → Goes old new (unused_say views s (i ∷ is) given) (unused_say views t is given)
first_use views given s t i is old new behind says = record {
  goes = λ rest.
      ap (λ (u : Scopes). map plain_said new ++ unused_say views u is given rest) behind
      ∙ says.goes (unused_say views (import_behind views s i) is given rest);
}

-- one behind the others
pub next_use : (views : List ℕ → ViewTree) (given : List Said) (s t : Scopes) (items : List NextImport) (i : ℕ) (x : NextImport) (old mid new : List OwnSaid) (f : List Said → List Said)
    → i < length items → x ≡ get_or items i x → t ≡ import_behind views s x.import → Adds mid new (use_says views given s x.import)
    → Goes old mid f (unused_say views s (rest_of (drop i items)) given) → Goes old new f (unused_say views t (rest_of (drop (i + 1) items)) given)
next_use views given s t items i x old mid new f within is behind says before =
    let more = rest_of (drop (i + 1) items) in
    record {
      goes = λ rest.
          (first_use views given s t x.import more mid new behind says).goes rest
          ∙ ap (λ (y : NextImport). map plain_said mid ++ unused_say views s (y.import ∷ more) given rest) is
          ∙ sym (at_drop_more (λ (ys : List NextImport). map plain_said mid ++ unused_say views s (rest_of ys) given rest) items i x within)
          ∙ before.goes rest;
    }

-- all of them
pub all_uses : (views : List ℕ → ViewTree) (given : List Said) (s t u : Scopes) (first : Import) (items : List NextImport) (i : ℕ) (old mid new : List OwnSaid)
    → length items ≤ i → t ≡ import_behind views s first → Adds old mid (use_says views given s first)
    → Goes mid new (unused_say views t (rest_of items) given) (unused_say views u (rest_of (drop i items)) given)
    → Adds old new (unused_say views s (first ∷ rest_of items) given)
all_uses views given s t u first items i old mid new end behind says loop = record {
  goes = λ rest.
      sym (at_drop_all (λ (ys : List NextImport). map plain_said new ++ unused_say views u (rest_of ys) given rest) items i end)
      ∙ loop.goes rest
      ∙ (first_use views given s t first (rest_of items) old mid behind says).goes rest;
}
