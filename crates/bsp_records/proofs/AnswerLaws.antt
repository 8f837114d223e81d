-- How long the answers about a workspace print at most.
use Rattle.std.proofs.Common.{◌≡◌, ◌≤◌, ◌<◌, ◌+◌, ◌*◌, ℕ, List, [], ◌∷◌, length, map, true, cond, ltb, leb, Some, lit≤, sym, subst, arith, length-append}
use Rattle.std.specs.Prelude.{codes}
use Rattle.std.specs.Char.{is_ascii_graphic}
use Rattle.std.specs.List.{All, list_all}
use Rattle.std.proofs.lemmas.Bool.{and_parts, leb-true, le-ltb}
use Rattle.json.specs.Print.{quoted, escape, escape_byte, escape_letter}
use Rattle.serde_json.specs.Data.{Data, string, boolean}
use Rattle.serde_json.specs.Written.{compact_text}
use Rattle.bsp_records.specs.Results.{target_data, target_capabilities_data, build_target_data, build_targets_result_data, source_item_kind_data, source_item_data, sources_item_data, sources_result_data, inverse_sources_result_data}
use Rattle.bsp_address.specs.Address.{address_limit}
use Rattle.bsp_records.specs.Notices.{did_change_params_data, event_data, event_kind_data}
use Rattle.ob_text.specs.Ascii.{IsGraphic, IsGraphicWithin}
use Rattle.bsp_records.specs.ShortAnswers.{IsShortIdentifier, IsShortTarget, IsShortTargets, IsShortSource, IsShortSourcesItem, IsShortSources, IsShortInverseSources, IsShortChange, IsShortEvent, answer_limit}
use Rattle.bsp_records.specs.Writing.{array_with}
use Rattle.bsp_records.specs.declared.identifiers.BuildTargetIdentifier.{BuildTargetIdentifier}
use Rattle.bsp_records.specs.declared.notices.BuildTargetEvent.{BuildTargetEvent}
use Rattle.bsp_records.specs.declared.notices.BuildTargetEventKind.{BuildTargetEventKind}
use Rattle.bsp_records.specs.declared.notices.BuildTargetEventKind.TheVariants.{Created, Changed, Deleted}
use Rattle.bsp_records.specs.declared.notices.DidChangeParams.{DidChangeParams}
use Rattle.bsp_records.specs.declared.results.BuildTarget.{BuildTarget}
use Rattle.bsp_records.specs.declared.results.BuildTargetCapabilities.{BuildTargetCapabilities}
use Rattle.bsp_records.specs.declared.results.BuildTargetsResult.{BuildTargetsResult}
use Rattle.bsp_records.specs.declared.results.InverseSourcesResult.{InverseSourcesResult}
use Rattle.bsp_records.specs.declared.results.SourceItem.{SourceItem}
use Rattle.bsp_records.specs.declared.results.SourceItemKind.{SourceItemKind}
use Rattle.bsp_records.specs.declared.results.SourceItemKind.TheVariants.{File, Directory}
use Rattle.bsp_records.specs.declared.results.SourcesItem.{SourcesItem}
use Rattle.bsp_records.specs.declared.results.SourcesResult.{SourcesResult}
use Rattle.bsp_records.proofs.ShortLaws.{cond_short, coded, number_short, flag_short, object_short, array_short, parts_room, list_room}

-- ---- texts of printing characters

graphic_byte : (b : ℕ) → is_ascii_graphic b ≡ true → length (escape_byte b) ≤ 2
unfolding escape_byte
graphic_byte b graphic =
    let above : 33 ≤ b = leb-true 33 b (and_parts (leb 33 b) (leb b 126) graphic).0 in
    let plain : length (cond (ltb b 32) (coded b) (b ∷ [])) ≤ 2 = rw (le-ltb b 32 (omega arith)) (lit≤ tt) in
    cond_short (ltb 0 (escape_letter b)) 2 (92 ∷ escape_letter b ∷ []) (cond (ltb b 32) (coded b) (b ∷ [])) (lit≤ tt) plain

graphic_escaped : (text : List ℕ) → IsGraphic text → length (escape text) ≤ 2 * length text
graphic_escaped [] graphic = lit≤ tt
graphic_escaped (b ∷ text) graphic =
    let both = and_parts (is_ascii_graphic b) (list_all is_ascii_graphic text) graphic in
    let first = graphic_byte b both.0 in
    let others = graphic_escaped text both.1 in
    rw (length-append (escape_byte b) (escape text)) (omega arith)

-- each character prints in at most two bytes
graphic_short : (limit : ℕ) (text : List ℕ) → IsGraphicWithin limit text → length (quoted text) ≤ 2 * limit + 2
graphic_short limit text short =
    let all = graphic_escaped text short.graphic in
    let within = short.short in
    rw (length-append (escape text) (34 ∷ [])) (omega arith)

-- ---- targets

-- the most bytes of a target's identifier and the comma before it
abbrev identifier_room : ℕ
identifier_room = 8840

identifier_short : (target : BuildTargetIdentifier) → IsShortIdentifier target → length (compact_text (target_data target)) < identifier_room
identifier_short target short =
    let whole = object_short ((codes "uri", Some (string target.uri)) ∷ []) in
    let text = graphic_short address_limit target.uri short in
    omega arith

identifiers_short : (targets : List BuildTargetIdentifier) → All IsShortIdentifier targets
    → length (compact_text (array_with (map target_data targets))) ≤ length targets * identifier_room + 2
identifiers_short targets short =
    let list = array_short (map target_data targets) in
    let items = list_room target_data IsShortIdentifier identifier_room identifier_short targets short in
    omega arith

-- a list of at most one short name
names_short : (names : List (List ℕ)) → length names ≤ 1 → All (IsGraphicWithin 20) names → length (compact_text (array_with (map string names))) ≤ 60
names_short names few short =
    let list = array_short (map string names) in
    let items = list_room string (IsGraphicWithin 20) 50 (λ name h. omega (arith, graphic_short 20 name h)) names short in
    omega arith

capabilities_short : (c : BuildTargetCapabilities) → length (compact_text (target_capabilities_data c)) ≤ 200
capabilities_short c =
    let whole = object_short ((codes "canCompile", Some (boolean c.can_compile)) ∷ (codes "canTest", Some (boolean c.can_test)) ∷ (codes "canRun", Some (boolean c.can_run)) ∷ []) in
    omega (arith, flag_short c.can_compile, flag_short c.can_test, flag_short c.can_run)

-- the most bytes of a target and the comma before it, beside its dependencies
abbrev target_room : ℕ
target_room = 11000

target_short : (t : BuildTarget) → IsShortTarget t → length (compact_text (build_target_data t)) < length t.dependencies * identifier_room + target_room
target_short t short =
    let whole = object_short ((codes "id", Some (target_data t.id)) ∷ (codes "displayName", Some (string t.display_name)) ∷ (codes "tags", Some (array_with (map string t.tags)))
    ∷ (codes "languageIds", Some (array_with (map string t.language_ids))) ∷ (codes "dependencies", Some (array_with (map target_data t.dependencies)))
    ∷ (codes "capabilities", Some (target_capabilities_data t.capabilities)) ∷ []) in
    let id = identifier_short t.id short.id in
    let name = graphic_short 255 t.display_name short.display_name in
    let tags = names_short t.tags short.tag_count short.tags in
    let languages = names_short t.language_ids short.language_count short.language_ids in
    let dependencies = identifiers_short t.dependencies short.dependencies in
    let capabilities = capabilities_short t.capabilities in
    omega arith

targets_short : (r : BuildTargetsResult) → IsShortTargets r → length (compact_text (build_targets_result_data r)) ≤ answer_limit
targets_short r short =
    let whole = object_short ((codes "targets", Some (array_with (map build_target_data r.targets))) ∷ []) in
    let list = array_short (map build_target_data r.targets) in
    let items = parts_room build_target_data (λ (t : BuildTarget). t.dependencies) IsShortTarget identifier_room target_room target_short r.targets short.targets in
    let count = short.count in
    let dependency_count = short.dependency_count in
    omega arith

pub targets_print : (d : Data) (r : BuildTargetsResult) → d ≡ build_targets_result_data r → IsShortTargets r → length (compact_text d) ≤ answer_limit
targets_print d r is short = subst (λ e. length (compact_text e) ≤ answer_limit) (sym is) (targets_short r short)

-- ---- documents

-- the most bytes of a document and the comma before it
abbrev source_room : ℕ
source_room = 9000

kind_short : (kind : SourceItemKind) → length (compact_text (source_item_kind_data kind)) ≤ 10
kind_short File = number_short 1 (omega arith)
kind_short Directory = number_short 2 (omega arith)

source_short : (s : SourceItem) → IsShortSource s → length (compact_text (source_item_data s)) < source_room
source_short s short =
    let whole = object_short ((codes "uri", Some (string s.uri)) ∷ (codes "kind", Some (source_item_kind_data s.kind)) ∷ (codes "generated", Some (boolean s.generated)) ∷ []) in
    let uri = graphic_short address_limit s.uri short in
    let kind = kind_short s.kind in
    let generated = flag_short s.generated in
    omega arith

-- the most bytes of an item and the comma before it, beside its documents
abbrev item_room : ℕ
item_room = 9000

item_short : (i : SourcesItem) → IsShortSourcesItem i → length (compact_text (sources_item_data i)) < length i.sources * source_room + item_room
item_short i short =
    let whole = object_short ((codes "target", Some (target_data i.target)) ∷ (codes "sources", Some (array_with (map source_item_data i.sources))) ∷ []) in
    let target = identifier_short i.target short.target in
    let list = array_short (map source_item_data i.sources) in
    let sources = list_room source_item_data IsShortSource source_room source_short i.sources short.sources in
    omega arith

sources_short : (r : SourcesResult) → IsShortSources r → length (compact_text (sources_result_data r)) ≤ answer_limit
sources_short r short =
    let whole = object_short ((codes "items", Some (array_with (map sources_item_data r.items))) ∷ []) in
    let list = array_short (map sources_item_data r.items) in
    let items = parts_room sources_item_data (λ (i : SourcesItem). i.sources) IsShortSourcesItem source_room item_room item_short r.items short.items in
    let count = short.count in
    let source_count = short.source_count in
    omega arith

pub sources_print : (d : Data) (r : SourcesResult) → d ≡ sources_result_data r → IsShortSources r → length (compact_text d) ≤ answer_limit
sources_print d r is short = subst (λ e. length (compact_text e) ≤ answer_limit) (sym is) (sources_short r short)

-- ---- the targets of a document

inverse_sources_short : (r : InverseSourcesResult) → IsShortInverseSources r → length (compact_text (inverse_sources_result_data r)) ≤ answer_limit
inverse_sources_short r short =
    let whole = object_short ((codes "targets", Some (array_with (map target_data r.targets))) ∷ []) in
    let targets = identifiers_short r.targets short.targets in
    let count = short.count in
    omega arith

pub inverse_sources_print : (d : Data) (r : InverseSourcesResult) → d ≡ inverse_sources_result_data r → IsShortInverseSources r → length (compact_text d) ≤ answer_limit
inverse_sources_print d r is short = subst (λ e. length (compact_text e) ≤ answer_limit) (sym is) (inverse_sources_short r short)

-- ---- targets that changed

event_kind_short : (kind : BuildTargetEventKind) → length (compact_text (event_kind_data kind)) ≤ 10
event_kind_short Created = number_short 1 (omega arith)
event_kind_short Changed = number_short 2 (omega arith)
event_kind_short Deleted = number_short 3 (omega arith)

event_short : (e : BuildTargetEvent) → IsShortEvent e → length (compact_text (event_data e)) < 9000
event_short e short =
    let whole = object_short ((codes "target", Some (target_data e.target)) ∷ (codes "kind", Some (event_kind_data e.kind)) ∷ []) in
    let target = identifier_short e.target short in
    let kind = event_kind_short e.kind in
    omega arith

pub changes_print : (p : DidChangeParams) → IsShortChange p → length (compact_text (did_change_params_data p)) ≤ answer_limit
changes_print p short =
    let whole = object_short ((codes "changes", Some (array_with (map event_data p.changes))) ∷ []) in
    let list = array_short (map event_data p.changes) in
    let items = list_room event_data IsShortEvent 9000 event_short p.changes short.changes in
    let count = short.count in
    omega arith
