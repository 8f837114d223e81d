-- The order of diagnostics in a list: by start, end, number of the code, and whole name.
use Rattle.std.specs.Prelude.{ℕ, ◌==◌, ◌↔◌, Bool, true, false, IsTrue, ◌&&◌, ◌||◌, nat_lt, List, [], ◌∷◌, Option, Some, None}
use Rattle.std.specs.List.{AllPairs, Contains}
use Rattle.ob_text.specs.declared.code.Code.{Code}
use Rattle.ob_text.specs.declared.code.Code.TheVariants.{DocumentAbsent, DocumentTooLarge, DocumentNotText, BadCharacter, OpenComment, OpenString, BadNumber, NumberTooLarge, BadToken, ModuleName, EndName, NoModule, ImportBroken, ImportCyclic, UnusedImport, NameTwice, NoName, NotType, NotConstant, ConstantRange, TypeTooLarge, InterfaceTooLarge, BadBase, BadResult, BadReturn, BadSelector, NotVariable, ReadOnly, BadOperand, NotAssignable, NotBoolean, NotInteger, BadCall, ArgumentCount, BadArgument, BadCase, LabelTwice, BadControl}
use Rattle.ob_text.specs.declared.diagnostic.Diagnostic.{Diagnostic}

-- byte by byte; a name stands before its extensions
abbrev pub name_before : List ℕ → List ℕ → Bool
name_before a [] = false
name_before [] (y ∷ b) = true
name_before (x ∷ a) (y ∷ b) = nat_lt x y || (x == y && name_before a b)

-- no name stands before each name
abbrev pub name_option_before : Option (List ℕ) → Option (List ℕ) → Bool
name_option_before a None = false
name_option_before None (Some b) = true
name_option_before (Some a) (Some b) = name_before a b

abbrev pub number_of : Code → ℕ
number_of DocumentAbsent = 1
number_of DocumentTooLarge = 2
number_of DocumentNotText = 3
number_of BadCharacter = 4
number_of OpenComment = 5
number_of OpenString = 6
number_of BadNumber = 7
number_of NumberTooLarge = 8
number_of BadToken = 9
number_of ModuleName = 10
number_of EndName = 11
number_of NoModule = 12
number_of ImportBroken = 13
number_of ImportCyclic = 14
number_of UnusedImport = 15
number_of NameTwice = 16
number_of NoName = 17
number_of NotType = 18
number_of NotConstant = 19
number_of ConstantRange = 20
number_of TypeTooLarge = 21
number_of InterfaceTooLarge = 22
number_of BadBase = 23
number_of BadResult = 24
number_of BadReturn = 25
number_of BadSelector = 26
number_of NotVariable = 27
number_of ReadOnly = 28
number_of BadOperand = 29
number_of NotAssignable = 30
number_of NotBoolean = 31
number_of NotInteger = 32
number_of BadCall = 33
number_of ArgumentCount = 34
number_of BadArgument = 35
number_of BadCase = 36
number_of LabelTwice = 37
number_of BadControl = 38

-- the first two numbers decide, and where they are equal the rest does
abbrev pub less_or : ℕ → ℕ → Bool → Bool
less_or a b rest = nat_lt a b || (a == b && rest)

abbrev pub before : Diagnostic → Diagnostic → Bool
before d e = less_or d.span.start e.span.start (less_or d.span.end e.span.end (less_or (number_of d.code) (number_of e.code) (name_option_before d.name e.name)))

-- The list has these diagnostics and no others, each once, in their order.
pub record IsListed (given list : List Diagnostic) : Type 0 where
  pub sorted : AllPairs (λ d e. IsTrue (before d e)) list
  pub same : (d : Diagnostic) → Contains given d ↔ Contains list d
