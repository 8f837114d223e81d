-- From what is known in memory to the plain scopes of the rules.
use Rattle.std.specs.Prelude.{ℕ, true, List, [], ◌∷◌, map, Option}
use Rattle.std.specs.Borrow.{Bor}
use Rattle.std.specs.Option.{option_map}
use Rattle.oberon_types.specs.declared.entity.Entity.{Entity}
use Rattle.oberon_types.specs.declared.entity.Param.{Param}
use Rattle.oberon_types.specs.Types.{TyTree, unknown_ty, integer_ty, byte_ty, char_ty, boolean_ty, set_ty, string_ty, array_ty, open_ty, record_ty}
use Rattle.oberon_types.specs.Memory.{plain_ty, plain_record, plain_param, plain_signature, plain_entity, plain_view}
use Rattle.oberon_types.specs.Entities.{EntityTree}
use Rattle.oberon_infer.specs.declared.type_ref.TypeRef.{TypeRef}
use Rattle.oberon_infer.specs.declared.type_ref.TypeRef.TheVariants as refs
use Rattle.oberon_infer.specs.declared.operator.Class.{Class as OwnClass}
use Rattle.oberon_infer.specs.declared.operator.Class.TheVariants as classes
use Rattle.oberon_infer.specs.declared.operator.Outcome.{Outcome as OwnOutcome}
use Rattle.oberon_infer.specs.declared.operator.Outcome.TheVariants as outcomes
use Rattle.oberon_infer.specs.declared.ex.Ex.{Ex as OwnEx}
use Rattle.oberon_infer.specs.declared.ex.Ex.TheVariants as exs
use Rattle.oberon_infer.specs.declared.argument.Wanted.{Wanted as OwnWanted}
use Rattle.oberon_infer.specs.declared.argument.Wanted.TheVariants as wanteds
use Rattle.oberon_infer.specs.declared.argument.Expected.{Expected}
use Rattle.oberon_infer.specs.declared.argument.Expected.TheVariants as expecteds
use Rattle.oberon_rules.specs.Operators.{Class, unknown_class, whole_class, boolean_class, set_class, char_class, one_class, text_class, other_class, Outcome, no_outcome, whole_outcome, boolean_outcome, set_outcome}
use Rattle.oberon_rules.specs.Expressions.{Ex, nothing, a_value, a_variable, a_type, a_module, a_procedure, a_word, a_call}
use Rattle.oberon_rules.specs.ExpressionRules.{Wanted, a_param, an_ordinal, a_whole_variable, a_set_variable, an_array, by_value}
use Rattle.oberon_infer.specs.declared.standard.Word.{Word}
use Rattle.oberon_infer.specs.declared.standard.Word.TheVariants as words
use Rattle.oberon_infer.specs.declared.standard.Standard.{Standard}
use Rattle.oberon_infer.specs.declared.standard.Standard.TheVariants as standards
use Rattle.oberon_infer.specs.declared.scope.Meaning.{Meaning as Known}
use Rattle.oberon_infer.specs.declared.scope.Meaning.TheVariants as known
use Rattle.oberon_infer.specs.declared.scope.Binding.{Binding}
use Rattle.oberon_infer.specs.declared.scope.Scope.{Scope}
use Rattle.oberon_infer.specs.declared.scope.Scopes.{Scopes as OwnScopes}
use Rattle.oberon_infer.specs.declared.said.Said.{Said as OwnSaid}
use Rattle.oberon_infer.specs.declared.said.Said.TheVariants as saids
use Rattle.oberon_infer.specs.declared.names.Named.{Named}
use Rattle.oberon_infer.specs.declared.names.Named.TheVariants as nameds
use Rattle.oberon_rules.specs.Names.{meaning_of}
use Rattle.oberon_rules.specs.Scopes.{Predeclared, abs_word, odd_word, len_word, lsl_word, asr_word, ror_word, ord_word, chr_word, inc_word, dec_word, incl_word, excl_word, assert_word, Meaning, unknown_meaning, constant_meaning, type_meaning, variable_meaning, procedure_meaning, word_meaning, import_meaning, Entry, Scopes, Said, broken, resolved}

abbrev pub plain_word : Word → Predeclared
plain_word words.Abs = abs_word
plain_word words.Odd = odd_word
plain_word words.Len = len_word
plain_word words.Lsl = lsl_word
plain_word words.Asr = asr_word
plain_word words.Ror = ror_word
plain_word words.Ord = ord_word
plain_word words.Chr = chr_word
plain_word words.Inc = inc_word
plain_word words.Dec = dec_word
plain_word words.Incl = incl_word
plain_word words.Excl = excl_word
plain_word words.Assert = assert_word

abbrev pub plain_standard : Standard → Meaning
plain_standard standards.Integer = type_meaning integer_ty
plain_standard standards.Byte = type_meaning byte_ty
plain_standard standards.Char = type_meaning char_ty
plain_standard standards.Boolean = type_meaning boolean_ty
plain_standard standards.Set = type_meaning set_ty
plain_standard (standards.Word w) = word_meaning (plain_word w)

abbrev pub plain_meaning : Known → Meaning
plain_meaning known.Unknown = unknown_meaning
plain_meaning (known.Constant v) = constant_meaning v
plain_meaning (known.Type t) = type_meaning (plain_ty t)
plain_meaning (known.Variable t read_only by_var) = variable_meaning (plain_ty t) (record { read_only = read_only; by_var = by_var })
plain_meaning (known.Procedure p) = procedure_meaning (plain_signature p)
plain_meaning (known.Word w) = word_meaning (plain_word w)
plain_meaning (known.Import v) = import_meaning (plain_view v.now)

abbrev pub plain_meaning_option : Option (Bor Known) → Option Meaning
plain_meaning_option m = option_map (λ r. plain_meaning r.now) m

abbrev pub plain_binding : List ℕ → Binding → Entry
plain_binding x b = record { name = x; exported = b.exported; meaning = plain_meaning b.meaning }

abbrev pub plain_bindings : List (List ℕ × Binding) → List Entry
plain_bindings es = map (λ e. plain_binding e.0 e.1) es

abbrev pub plain_scope : Scope → List Entry
plain_scope s = plain_bindings s.bindings.entries

abbrev pub plain_scopes : OwnScopes → Scopes
plain_scopes s = record { procedure = option_map (λ n. n.now) s.procedure; locals = option_map plain_scope s.locals; globals = plain_scope s.globals }

abbrev pub plain_said : OwnSaid → Said
plain_said (saids.Broken place code name) = broken place code (option_map (λ n. n.now) name)
plain_said (saids.Resolved n) = resolved n.now

abbrev pub plain_named : Named → Meaning
plain_named nameds.Unknown = unknown_meaning
plain_named (nameds.Own m) = plain_meaning m.now
plain_named (nameds.Standard x) = plain_standard x
plain_named (nameds.Outside e) = meaning_of (plain_entity e.now)

abbrev pub plain_named_option : Option Named → Option Meaning
plain_named_option n = option_map plain_named n

abbrev pub plain_entity_option : Option (Bor Entity) → Option EntityTree
plain_entity_option e = option_map (λ r. plain_entity r.now) e

-- ---- types and expressions

abbrev pub plain_type : TypeRef → TyTree
plain_type refs.Unknown = unknown_ty
plain_type refs.Integer = integer_ty
plain_type refs.Byte = byte_ty
plain_type refs.Char = char_ty
plain_type refs.Boolean = boolean_ty
plain_type refs.Set = set_ty
plain_type (refs.Str n) = string_ty n
plain_type (refs.Array n t) = array_ty n (plain_ty t.now)
plain_type (refs.Open t) = open_ty (plain_ty t.now)
plain_type (refs.Record r) = record_ty (plain_record r.now)

abbrev pub plain_type_option : Option TypeRef → Option TyTree
plain_type_option t = option_map plain_type t

abbrev pub plain_class : OwnClass → Class
plain_class classes.Unknown = unknown_class
plain_class classes.Whole = whole_class
plain_class classes.Boolean = boolean_class
plain_class classes.Set = set_class
plain_class classes.Char = char_class
plain_class classes.One = one_class
plain_class classes.Text = text_class
plain_class classes.Other = other_class

abbrev pub plain_outcome : OwnOutcome → Outcome
plain_outcome outcomes.Nothing = no_outcome
plain_outcome outcomes.Whole = whole_outcome
plain_outcome outcomes.Boolean = boolean_outcome
plain_outcome outcomes.Set = set_outcome

abbrev pub plain_outcomes : Option OwnOutcome → Option Outcome
plain_outcomes o = option_map plain_outcome o

abbrev pub plain_ex : OwnEx → Ex
plain_ex exs.Nothing = nothing
plain_ex (exs.Value t) = a_value (plain_type t)
plain_ex (exs.Variable t read_only by_var) = a_variable (plain_type t) (record { read_only = read_only; by_var = by_var })
plain_ex (exs.Type t) = a_type (plain_type t)
plain_ex (exs.Module v) = a_module (plain_view v.now)
plain_ex (exs.Procedure p) = a_procedure (plain_signature p.now)
plain_ex (exs.Word w) = a_word (plain_word w)
plain_ex exs.Call = a_call

-- ---- arguments

abbrev pub plain_wanted : OwnWanted → Wanted
plain_wanted (wanteds.Value t) = by_value (plain_type t)
plain_wanted (wanteds.Var t) = a_param (record { by_var = true; ty = plain_type t })
plain_wanted wanteds.Ordinal = an_ordinal
plain_wanted wanteds.WholeVariable = a_whole_variable
plain_wanted wanteds.SetVariable = a_set_variable
plain_wanted wanteds.Array = an_array

abbrev pub plain_wanted_option : Option OwnWanted → Option Wanted
plain_wanted_option w = option_map plain_wanted w

abbrev pub plain_expected : Expected → List Wanted
plain_expected expecteds.Nothing = []
plain_expected (expecteds.One w) = plain_wanted w ∷ []
plain_expected (expecteds.Two v w) = plain_wanted v ∷ plain_wanted w ∷ []
plain_expected (expecteds.Params ps) = map (λ (p : Param). a_param (plain_param p)) ps.now

abbrev pub plain_expected_option : Option Expected → Option (List Wanted)
plain_expected_option w = option_map plain_expected w
