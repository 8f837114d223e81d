-- The homes of what a module declares and exports: its own stem, and the homes of what its imports show.
use Rattle.std.specs.Prelude.{ℕ, Bool, false, List, [], ◌∷◌, ◌++◌, map, Option, Some, None}
use Rattle.oberon_tree.specs.declared.leaf.Ident.{Ident}
use Rattle.oberon_tree.specs.declared.leaf.IdentDef.{IdentDef}
use Rattle.oberon_tree.specs.declared.module.Import.{Import}
use Rattle.oberon_tree.specs.declared.module.OpenArray.{OpenArray}
use Rattle.oberon_tree.specs.declared.module.ResultType.{ResultType}
use Rattle.oberon_tree.specs.Trees.{ConstantTree, TypeDeclarationTree, VariableTree, DeclarationsTree, SectionTree, FormalsTree, ProcedureTree, ProcedureItemTree, ModuleTree}
use Rattle.oberon_types.specs.declared.value.Value.{Value}
use Rattle.oberon_types.specs.Types.{TyTree, unknown_ty, open_ty}
use Rattle.oberon_types.specs.Entities.{ParamTree, EntityTree, Export, ViewTree, broken_view, exports_view}
use Rattle.oberon_rules.specs.Scopes.{Meaning, unknown_meaning, constant_meaning, type_meaning, variable_meaning, procedure_meaning, word_meaning, import_meaning, Entry, Scopes, is_declared, local_with, global_with, declare}
use Rattle.oberon_rules.specs.Names.{type_named}
use Rattle.oberon_rules.specs.TypeRules.{constant_is, ident_defs, first_new, type_is}
use Rattle.oberon_rules.specs.Declarations.{is_exported, declare_new, origin_at, constant_meant, constant_behind, type_behind, own_variable, names_behind, list_behind, variable_behind, constants_behind, types_behind, variables_behind, constant_items, type_items, variable_items, decls_behind}
use Rattle.oberon_rules.specs.Procedures.{idents, first_new_ident, opened, by_var, parameter, idents_behind, section_type, section_is, section_behind, section_params, sections_of, sections_behind, sections_params, is_no_result, result_is, signature_is, entered, signature_of, procedure_behind, procedures_behind}
use Rattle.oberon_rules.specs.Module.{import_list, imported, import_behind, imports_behind, start, with_imports, with_decls, whole_scope}
use Rattle.oberon_rules.specs.Views.{put_in, entity_of, put_entity, exported_in}
use Rattle.oberon_rules.specs.Order.{name_before}
use Rattle.oberon_rules.specs.Judged.{all_said, has_error, declared_view}
use Rattle.build_rules.proofs.Homes.{AreHomes, AreParamHomes, AreResultHomes, AreSignatureHomes, AreEntityHomes, AreExportHomes, AreViewHomes}
use Rattle.document_laws.proofs.ImportNames.{EachImport}
use Rattle.build_rules.proofs.TypeHomes.{pick, AreMeaningHomes, AreEntriesHomes, AreLocalsHomes, AreScopeHomes, AreFoundHomes, type_named_homes, limited_homes, type_homes}

-- what each import of a list shows has such homes
abbrev pub AreImportHomes : (List ℕ → Type 0) → (List ℕ → ViewTree) → List Import → Type 0
AreImportHomes P views is = EachImport (λ name. AreViewHomes P (views name)) is

module _ (P : List ℕ → Type 0) where
  -- ---- declarations

  entries_push : (es : List Entry) (e : Entry) → AreEntriesHomes P es → AreMeaningHomes P e.meaning → AreEntriesHomes P (es ++ e ∷ [])
  entries_push [] e h k = (k, tt)
  entries_push (x ∷ es) e h k = (h.0, entries_push es e h.1 k)

  local_homes : (ls : Option (List Entry)) (e : Entry) → AreLocalsHomes P ls → AreMeaningHomes P e.meaning → AreLocalsHomes P (local_with ls e)
  local_homes None e h k = tt
  local_homes (Some es) e h k = entries_push es e h k

  global_homes : (ls : Option (List Entry)) (gs : List Entry) (e : Entry) → AreEntriesHomes P gs → AreMeaningHomes P e.meaning → AreEntriesHomes P (global_with ls gs e)
  global_homes None gs e h k = entries_push gs e h k
  global_homes (Some es) gs e h k = h

  declare_homes : (s : Scopes) (x : List ℕ) (exported : Bool) (m : Meaning) → AreScopeHomes P s → AreMeaningHomes P m → AreScopeHomes P (declare s x exported m)
  declare_homes s x exported m h k = record {
    locals = local_homes s.locals (record { name = x; exported = exported; meaning = m }) h.locals k;
    globals = global_homes s.locals s.globals (record { name = x; exported = exported; meaning = m }) h.globals k;
  }

  new_homes : (s : Scopes) (at : Ident) (exported : Bool) (m : Meaning) → AreScopeHomes P s → AreMeaningHomes P m → AreScopeHomes P (declare_new s at exported m)
  new_homes s at exported m h k = pick (AreScopeHomes P) (is_declared s at.name) s (declare s at.name exported m) h (declare_homes s at.name exported m h k)

  meant_homes : (v : Option Value) → AreMeaningHomes P (constant_meant v)
  meant_homes None = tt
  meant_homes (Some v) = tt

  names_homes : (s : Scopes) (ds : List IdentDef) (m : Meaning) → AreScopeHomes P s → AreMeaningHomes P m → AreScopeHomes P (names_behind s ds m)
  names_homes s [] m h k = h
  names_homes s (d ∷ ds) m h k = names_homes (declare_new s d.name (is_exported d) m) ds m (new_homes s d.name (is_exported d) m h k) k

  idents_homes : (s : Scopes) (xs : List Ident) (m : Meaning) → AreScopeHomes P s → AreMeaningHomes P m → AreScopeHomes P (idents_behind s xs m)
  idents_homes s [] m h k = h
  idents_homes s (x ∷ xs) m h k = idents_homes (declare_new s x false m) xs m (new_homes s x false m h k) k

  module _ (me : List ℕ) (own : P me) where
    constant_homes : (s : Scopes) (c : ConstantTree) → AreScopeHomes P s → AreScopeHomes P (constant_behind me s c)
    constant_homes s c h = new_homes s c.name.name (is_exported c.name) (constant_meant (constant_is me s c.value)) h (meant_homes (constant_is me s c.value))

    declared_type_homes : (s : Scopes) (d : TypeDeclarationTree) → AreScopeHomes P s → AreScopeHomes P (type_behind me s d)
    declared_type_homes s d h =
        pick (AreScopeHomes P) (is_declared s d.name.name.name) s (declare s d.name.name.name (is_exported d.name) (type_meaning (type_is me s (origin_at me s d.name.name) d.of_type))) h
        (declare_homes s d.name.name.name (is_exported d.name) (type_meaning (type_is me s (origin_at me s d.name.name) d.of_type)) h (type_homes P me s h (origin_at me s d.name.name) own d.of_type))

    list_homes : (s : Scopes) (v : VariableTree) (d : Option IdentDef) → AreScopeHomes P s → AreScopeHomes P (list_behind me s v d)
    list_homes s v None h = h
    list_homes s v (Some d) h = names_homes s (ident_defs v.names) (own_variable (type_is me s (origin_at me s d.name) v.of_type)) h (type_homes P me s h (origin_at me s d.name) own v.of_type)

    variable_homes : (s : Scopes) (v : VariableTree) → AreScopeHomes P s → AreScopeHomes P (variable_behind me s v)
    variable_homes s v h = list_homes s v (first_new (is_declared s) (ident_defs v.names)) h

    constants_homes : (s : Scopes) (cs : List ConstantTree) → AreScopeHomes P s → AreScopeHomes P (constants_behind me s cs)
    constants_homes s [] h = h
    constants_homes s (c ∷ cs) h = constants_homes (constant_behind me s c) cs (constant_homes s c h)

    types_homes : (s : Scopes) (ds : List TypeDeclarationTree) → AreScopeHomes P s → AreScopeHomes P (types_behind me s ds)
    types_homes s [] h = h
    types_homes s (d ∷ ds) h = types_homes (type_behind me s d) ds (declared_type_homes s d h)

    variables_homes : (s : Scopes) (vs : List VariableTree) → AreScopeHomes P s → AreScopeHomes P (variables_behind me s vs)
    variables_homes s [] h = h
    variables_homes s (v ∷ vs) h = variables_homes (variable_behind me s v) vs (variable_homes s v h)

    decls_homes : (s : Scopes) (d : DeclarationsTree) → AreScopeHomes P s → AreScopeHomes P (decls_behind me s d)
    decls_homes s d h =
        variables_homes (types_behind me (constants_behind me s (constant_items d.constants)) (type_items d.types)) (variable_items d.variables)
        (types_homes (constants_behind me s (constant_items d.constants)) (type_items d.types) (constants_homes s (constant_items d.constants) h))

    -- ---- procedures

    opened_homes : (os : List OpenArray) (t : TyTree) → AreHomes P t → AreHomes P (opened me os t)
    opened_homes [] t h = h
    opened_homes (o ∷ os) t h = limited_homes P me (open_ty (opened me os t)) (opened_homes os t h)

    section_type_homes : (s : Scopes) (x : SectionTree) (d : Option Ident) → AreScopeHomes P s → AreHomes P (section_type me s x d)
    section_type_homes s x None h = tt
    section_type_homes s x (Some d) h = opened_homes x.of_type.opens (type_named s x.of_type.name) (type_named_homes P s x.of_type.name h)

    section_homes : (s : Scopes) (x : SectionTree) → AreScopeHomes P s → AreHomes P (section_is me s x)
    section_homes s x h = section_type_homes s x (first_new_ident (is_declared s) (idents x.names)) h

    behind_section_homes : (s : Scopes) (x : SectionTree) → AreScopeHomes P s → AreScopeHomes P (section_behind me s x)
    behind_section_homes s x h = idents_homes s (idents x.names) (parameter (by_var x) (section_is me s x)) h (section_homes s x h)

    behind_sections_homes : (s : Scopes) (xs : List SectionTree) → AreScopeHomes P s → AreScopeHomes P (sections_behind me s xs)
    behind_sections_homes s [] h = h
    behind_sections_homes s (x ∷ xs) h = behind_sections_homes (section_behind me s x) xs (behind_section_homes s x h)

    each_param : (v : Bool) (t : TyTree) (xs : List Ident) → AreHomes P t → AreParamHomes P (map (λ (n : Ident). record { by_var = v; ty = t }) xs)
    each_param v t [] h = tt
    each_param v t (x ∷ xs) h = (h, each_param v t xs h)

    params_append : (ps qs : List ParamTree) → AreParamHomes P ps → AreParamHomes P qs → AreParamHomes P (ps ++ qs)
    params_append [] qs h k = k
    params_append (p ∷ ps) qs h k = (h.0, params_append ps qs h.1 k)

    params_homes : (s : Scopes) (xs : List SectionTree) → AreScopeHomes P s → AreParamHomes P (sections_params me s xs)
    params_homes s [] h = tt
    params_homes s (x ∷ xs) h =
        params_append (section_params me s x) (sections_params me (section_behind me s x) xs)
        (each_param (by_var x) (section_is me s x) (idents x.names) (section_homes s x h))
        (params_homes (section_behind me s x) xs (behind_section_homes s x h))

    result_homes : (s : Scopes) (r : Option ResultType) → AreScopeHomes P s → AreResultHomes P (result_is s r)
    result_homes s None h = tt
    result_homes s (Some r) h = pick (AreHomes P) (is_no_result (type_named s r.name)) unknown_ty (type_named s r.name) tt (type_named_homes P s r.name h)

    signature_homes : (s : Scopes) (f : Option FormalsTree) → AreScopeHomes P s → AreSignatureHomes P (signature_is me s f)
    signature_homes s None h = (tt, tt)
    signature_homes s (Some f) h =
        (params_homes s (sections_of f.sections) h, result_homes (sections_behind me s (sections_of f.sections)) f.result_type (behind_sections_homes s (sections_of f.sections) h))

    entered_homes : (s : Scopes) (x : List ℕ) → AreScopeHomes P s → AreScopeHomes P (entered s x)
    entered_homes s x h = record { locals = tt; globals = h.globals }

    procedure_homes : (s : Scopes) (p : ProcedureTree) → AreScopeHomes P s → AreScopeHomes P (procedure_behind me s p)
    procedure_homes s p h =
        new_homes s p.name.name (is_exported p.name) (procedure_meaning (signature_of me s p)) h
        (signature_homes (entered s p.name.name.name) p.formals (entered_homes s p.name.name.name h))

    procedures_homes : (s : Scopes) (xs : List ProcedureItemTree) → AreScopeHomes P s → AreScopeHomes P (procedures_behind me s xs)
    procedures_homes s [] h = h
    procedures_homes s (x ∷ xs) h = procedures_homes (procedure_behind me s x.procedure) xs (procedure_homes s x.procedure h)

    -- ---- the module

    imports_homes : (views : List ℕ → ViewTree) (s : Scopes) (is : List Import) → AreScopeHomes P s → AreImportHomes P views is → AreScopeHomes P (imports_behind views s is)
    imports_homes views s [] h k = h
    imports_homes views s (i ∷ is) h k = imports_homes views (import_behind views s i) is (new_homes s i.name false (import_meaning (views (imported i).name)) h k.0) k.1

    scope_homes : (views : List ℕ → ViewTree) (m : ModuleTree) → AreImportHomes P views (import_list m.imports) → AreScopeHomes P (whole_scope me views m)
    scope_homes views m k =
        procedures_homes (with_decls me views m) m.procedures
        (decls_homes (with_imports views m) m.declarations
        (imports_homes views start (import_list m.imports) (record { locals = tt; globals = tt }) k))

    -- ---- its exports

    put_homes : (e : Export) (es : List Export) → AreEntityHomes P e.entity → AreExportHomes P es → AreExportHomes P (put_in e es)
    put_homes e [] h k = (h, tt)
    put_homes e (x ∷ xs) h k = pick (AreExportHomes P) (name_before e.name x.name) (e ∷ x ∷ xs) (x ∷ put_in e xs) (h, k) (k.0, put_homes e xs h k.1)

    put_entity_homes : (x : List ℕ) (e : Option EntityTree) (es : List Export) → AreFoundHomes P e → AreExportHomes P es → AreExportHomes P (put_entity x e es)
    put_entity_homes x None es h k = k
    put_entity_homes x (Some e) es h k = put_homes (record { name = x; entity = e }) es h k

    entity_homes : (m : Meaning) → AreMeaningHomes P m → AreFoundHomes P (entity_of m)
    entity_homes unknown_meaning h = tt
    entity_homes (constant_meaning v) h = tt
    entity_homes (type_meaning t) h = h
    entity_homes (variable_meaning t a) h = h
    entity_homes (procedure_meaning p) h = h
    entity_homes (word_meaning x) h = tt
    entity_homes (import_meaning v) h = tt

    exports_homes : (es : List Entry) → AreEntriesHomes P es → AreExportHomes P (exported_in es)
    exports_homes [] h = tt
    exports_homes (e ∷ es) h =
        pick (AreExportHomes P) e.exported (put_entity e.name (entity_of e.meaning) (exported_in es)) (exported_in es)
        (put_entity_homes e.name (entity_of e.meaning) (exported_in es) (entity_homes e.meaning h.0) (exports_homes es h.1))
        (exports_homes es h.1)

    pub declared_homes : (views : List ℕ → ViewTree) (m : ModuleTree) → AreImportHomes P views (import_list m.imports) → AreViewHomes P (declared_view me views m)
    declared_homes views m k =
        pick (AreViewHomes P) (has_error (all_said me views m)) broken_view (exports_view (exported_in (whole_scope me views m).globals)) tt
        (exports_homes (whole_scope me views m).globals (scope_homes views m k).globals)
