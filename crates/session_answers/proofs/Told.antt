-- What a client is told of a workspace is UTF-8, and short.
use Rattle.std.proofs.Common.{◌≡◌, ℕ, ◌<◌, ◌≤◌, ltb, lit≤, codes, true, List, [], ◌∷◌, length, map, sym, subst, ◌∙◌, refl, arith, length-append, eqb}
use Rattle.std.specs.List.{All, flat_map, list_all, sum_by}
use Rattle.std.specs.Str.{IsAscii, IsUtf8}
use Rattle.std.proofs.lemmas.Bool.{and_parts, ltb-true}
use Rattle.std.proofs.lemmas.List.{length-map}
use Rattle.std.proofs.lemmas.List.Sums.{sum_by-cons}
use Rattle.std.proofs.lemmas.List.Elements.{All-nil, All-cons}
use Rattle.std.proofs.lemmas.Option.{slice_get_within}
use Rattle.std.proofs.lemmas.Str.{IsUtf8-from_ascii}
use Rattle.std.proofs.lemmas.Str.Ascii.{IsAscii-nil, IsAscii-cons}
use Rattle.ob_text.proofs.AsciiLaws.{graphic_ascii}
use Rattle.ob_text.specs.Ascii.{IsGraphicWithin}
use Rattle.bsp_records.specs.declared.results.BuildTarget.{BuildTarget}
use Rattle.bsp_records.specs.declared.results.SourcesItem.{SourcesItem}
use Rattle.session_answers.proofs.Once.{total, total_front, weighs_less, count_below, distinct_once, all_once, distinct_rising}
use Rattle.ob_text.specs.Once.{each_once}
use Rattle.session_law.specs.Questions.{described, identifier_at, modules_at, source_at, sources_at, tag_of}
use Rattle.target_graph.specs.Names.{is_name}
use Rattle.target_graph.specs.Workspace.{Space, IsInverse}
use Rattle.target_graph.specs.declared.target.Target.{Target}
use Rattle.target_graph.specs.declared.target.TargetKind.{TargetKind}
use Rattle.target_graph.specs.declared.target.TargetKind.TheVariants.{Library, Application, Test}
use Rattle.target_graph.proofs.PlainLaws.{plain_name}

-- ---- names

pub name_text : (name : List ℕ) → is_name name ≡ true → IsUtf8 name
name_text name is = IsUtf8-from_ascii name (graphic_ascii name (plain_name name is).graphic)

pub name_short : (name : List ℕ) → is_name name ≡ true → IsGraphicWithin 255 name
name_short name is = let plain = plain_name name is in record { graphic = plain.graphic; short = plain.short }

-- ---- tags and languages

ascii : (text : List ℕ) → list_all (λ b. ltb b 128) text ≡ true → IsAscii text
ascii [] e = IsAscii-nil
ascii (b ∷ text) e = let h = and_parts (ltb b 128) (list_all (λ x. ltb x 128) text) e in IsAscii-cons b text (ltb-true b 128 h.0) (ascii text h.1)

-- a word that is written out
word_text : (text : List ℕ) → list_all (λ b. ltb b 128) text ≡ true → IsUtf8 text
word_text text e = IsUtf8-from_ascii text (ascii text e)

pub tag_text : (kind : TargetKind) → IsUtf8 (tag_of kind)
tag_text Library = word_text (codes "library") refl
tag_text Application = word_text (codes "application") refl
tag_text Test = word_text (codes "test") refl

pub tag_short : (kind : TargetKind) → IsGraphicWithin 20 (tag_of kind)
tag_short Library = record { graphic = refl; short = lit≤ tt }
tag_short Application = record { graphic = refl; short = lit≤ tt }
tag_short Test = record { graphic = refl; short = lit≤ tt }

pub language_text : IsUtf8 (codes "oberon")
language_text = word_text (codes "oberon") refl

pub language_short : IsGraphicWithin 20 (codes "oberon")
language_short = record { graphic = refl; short = lit≤ tt }

-- a list of one
pub only : (P : List ℕ → Type 0) (texts : List (List ℕ)) (text : List ℕ) → texts ≡ text ∷ [] → P text → All P texts
only P texts text are one = subst (All P) (sym are) (All-cons P text [] one (All-nil P))

pub only_one : (texts : List (List ℕ)) (text : List ℕ) → texts ≡ text ∷ [] → length texts ≤ 1
only_one texts text are = subst (λ ts. length ts ≤ 1) (sym are) (lit≤ tt)

-- ---- how many dependencies and documents there are

pub dependencies_told : (space : Space) (targets : List Target)
    → length (flat_map (λ (t : BuildTarget). t.dependencies) (map (described space) targets)) ≡ length (flat_map (λ (t : Target). t.dependencies) targets)
dependencies_told space [] = refl
dependencies_told space (t ∷ targets) =
    let told : BuildTarget = described space t in
    let rest = dependencies_told space targets in
    let a = length-append told.dependencies (flat_map (λ (x : BuildTarget). x.dependencies) (map (described space) targets)) in
    let b = length-map t.dependencies (identifier_at space) in
    let c = length-append t.dependencies (flat_map (λ (x : Target). x.dependencies) targets) in
    omega (arith, rest, a, b, c)

-- how many documents a target has
abbrev size_at : List Target → ℕ → ℕ
size_at targets t = length (modules_at targets t)

all_modules : (targets : List Target) → total (size_at targets) (length targets) ≡ length (flat_map (λ (t : Target). t.modules) targets)
all_modules [] = refl
all_modules (t ∷ targets) =
    let front = total_front (size_at (t ∷ targets)) (length targets) in
    let rest = all_modules targets in
    let whole = length-append t.modules (flat_map (λ (x : Target). x.modules) targets) in
    front ∙ (omega (arith, rest, whole))

documents_told : (space : Space) (targets : List ℕ)
    → length (flat_map (λ (i : SourcesItem). i.sources) (map (sources_at space) targets)) ≡ sum_by (size_at space.targets) targets
documents_told space [] = refl
documents_told space (t ∷ targets) =
    let item : SourcesItem = sources_at space t in
    let rest = documents_told space targets in
    let a = length-append item.sources (flat_map (λ (i : SourcesItem). i.sources) (map (sources_at space) targets)) in
    let b = length-map (modules_at space.targets t) (source_at space) in
    let c = sum_by-cons (size_at space.targets) t targets in
    omega (arith, rest, a, b, c)

-- there are no more documents told than documents
pub few_documents : (space : Space) (asked : List ℕ) (limit : ℕ) → All (λ t. t < length space.targets) asked → length (flat_map (λ (t : Target). t.modules) space.targets) ≤ limit
    → length (flat_map (λ (i : SourcesItem). i.sources) (map (sources_at space) (each_once eqb asked))) ≤ limit
few_documents space asked limit within few =
    let told = documents_told space (each_once eqb asked) in
    let less = weighs_less (size_at space.targets) (length space.targets) (each_once eqb asked) (distinct_once asked) (all_once (λ t. t < length space.targets) asked within) in
    let all = all_modules space.targets in
    omega arith

pub few_items : (space : Space) (asked : List ℕ) → All (λ t. t < length space.targets) asked → length (each_once eqb asked) ≤ length space.targets
few_items space asked within = count_below (length space.targets) (each_once eqb asked) (distinct_once asked) (all_once (λ t. t < length space.targets) asked within)

-- ---- the targets of a document

pub inverse_within : (space : Space) (uri targets : List ℕ) → IsInverse space uri targets → All (λ t. t < length space.targets) targets
inverse_within space uri targets inverse = λ k d h. (let l = inverse.each k d h in slice_get_within space.targets _ l.target l.there)

pub few_inverse : (space : Space) (uri targets : List ℕ) → IsInverse space uri targets → length targets ≤ length space.targets
few_inverse space uri targets inverse = count_below (length space.targets) targets (distinct_rising targets inverse.ordered) (inverse_within space uri targets inverse)
