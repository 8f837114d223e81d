-- What is known at a place of a module: what names mean there, and what is said of the places passed.
--     Scopes      the declarations that end before the place (The Programming Language Oberon-07, section 4)
--     Said        a rule is broken at a place, or a name resolves to an import
use Rattle.std.specs.Prelude.{ℕ, Bool, false, if◌then◌else◌, codes, List, [], ◌∷◌, ◌++◌, is_some, Option, Some, None}
use Rattle.ob_text.specs.declared.code.Code.{Code}
use Rattle.ob_text.specs.declared.span.Span.{Span}
use Rattle.oberon_tree.specs.declared.leaf.Ident.{Ident}
use Rattle.oberon_types.specs.declared.value.Value.{Value}
use Rattle.oberon_types.specs.Types.{TyTree, integer_ty, byte_ty, char_ty, boolean_ty, set_ty, same_name}
use Rattle.oberon_types.specs.Entities.{SignatureTree, ViewTree}

-- ---- what names mean

-- whether a variable is read-only, and whether it is a VAR parameter
pub record Access : Type 0 where
  pub read_only : Bool
  pub by_var : Bool

-- the predeclared functions and proper procedures (section 10.2)
pub data Predeclared : Type 0 where
  abs_word : Predeclared
  odd_word : Predeclared
  len_word : Predeclared
  lsl_word : Predeclared
  asr_word : Predeclared
  ror_word : Predeclared
  ord_word : Predeclared
  chr_word : Predeclared
  inc_word : Predeclared
  dec_word : Predeclared
  incl_word : Predeclared
  excl_word : Predeclared
  assert_word : Predeclared

-- What breaks a rule is unknown. An import means the view of its module.
pub data Meaning : Type 0 where
  unknown_meaning : Meaning
  constant_meaning : Value → Meaning
  type_meaning : TyTree → Meaning
  variable_meaning : TyTree → Access → Meaning
  procedure_meaning : SignatureTree → Meaning
  word_meaning : Predeclared → Meaning
  import_meaning : ViewTree → Meaning

pub record Entry : Type 0 where
  pub name : List ℕ
  pub exported : Bool
  pub meaning : Meaning

-- the name of the procedure around the place, its parameters and locals, and the names of the module's level;
-- each list in the order of declaration, and no name twice
pub record Scopes : Type 0 where
  pub procedure : Option (List ℕ)
  pub locals : Option (List Entry)
  pub globals : List Entry

abbrev pub look_up : List ℕ → List Entry → Option Meaning
look_up x [] = None
look_up x (e ∷ es) = if same_name x e.name then Some e.meaning else look_up x es

-- ---- declarations

-- the scope in which a declaration at this place declares
abbrev pub inner_of : Option (List Entry) → List Entry → List Entry
inner_of None gs = gs
inner_of (Some es) gs = es

abbrev pub is_declared : Scopes → List ℕ → Bool
is_declared s x = is_some (look_up x (inner_of s.locals s.globals))

abbrev pub local_with : Option (List Entry) → Entry → Option (List Entry)
local_with None e = None
local_with (Some es) e = Some (es ++ e ∷ [])

abbrev pub global_with : Option (List Entry) → List Entry → Entry → List Entry
global_with None gs e = gs ++ e ∷ []
global_with (Some es) gs e = gs

abbrev pub declare : Scopes → List ℕ → Bool → Meaning → Scopes
declare s x exported m = record {
  procedure = s.procedure;
  locals = local_with s.locals (record { name = x; exported = exported; meaning = m });
  globals = global_with s.locals s.globals (record { name = x; exported = exported; meaning = m });
}

-- ---- the names that no module declares

abbrev entry_of : List ℕ → Meaning → Entry
entry_of x m = record { name = x; exported = false; meaning = m }

unfoldable pub predeclared : List Entry
predeclared =
    entry_of (codes "INTEGER") (type_meaning integer_ty)
    ∷ entry_of (codes "BYTE") (type_meaning byte_ty)
    ∷ entry_of (codes "CHAR") (type_meaning char_ty)
    ∷ entry_of (codes "BOOLEAN") (type_meaning boolean_ty)
    ∷ entry_of (codes "SET") (type_meaning set_ty)
    ∷ entry_of (codes "ABS") (word_meaning abs_word)
    ∷ entry_of (codes "ODD") (word_meaning odd_word)
    ∷ entry_of (codes "LEN") (word_meaning len_word)
    ∷ entry_of (codes "LSL") (word_meaning lsl_word)
    ∷ entry_of (codes "ASR") (word_meaning asr_word)
    ∷ entry_of (codes "ROR") (word_meaning ror_word)
    ∷ entry_of (codes "ORD") (word_meaning ord_word)
    ∷ entry_of (codes "CHR") (word_meaning chr_word)
    ∷ entry_of (codes "INC") (word_meaning inc_word)
    ∷ entry_of (codes "DEC") (word_meaning dec_word)
    ∷ entry_of (codes "INCL") (word_meaning incl_word)
    ∷ entry_of (codes "EXCL") (word_meaning excl_word)
    ∷ entry_of (codes "ASSERT") (word_meaning assert_word)
    ∷ []

-- ---- what is said at a place

-- The rule of this code is broken at the place, and the diagnostic has this name; or a name there resolves to the
-- import of this local name.
pub data Said : Type 0 where
  broken : Span → Code → Option (List ℕ) → Said
  resolved : List ℕ → Said

-- one rule at one place, in front of what else is said
abbrev pub row : Bool → Span → Code → List Said → List Said
row b place code rest = if b then broken place code None ∷ rest else rest

abbrev pub named_row : Bool → Ident → Code → List Said → List Said
named_row b at code rest = if b then broken at.span code (Some at.name) ∷ rest else rest
