-- Codes by their numbers.
use Rattle.std.specs.Prelude.{ℕ, ◌==◌, if◌then◌else◌}
use Rattle.ob_text.specs.declared.code.Code.{Code}
use Rattle.ob_text.specs.declared.code.Code.TheVariants as codes_of

-- a number that no code has stands for the last one
abbrev pub code_numbered : ℕ → Code
code_numbered n =
    if n == 1 then codes_of.DocumentAbsent
    else if n == 2 then codes_of.DocumentTooLarge
    else if n == 3 then codes_of.DocumentNotText
    else if n == 4 then codes_of.BadCharacter
    else if n == 5 then codes_of.OpenComment
    else if n == 6 then codes_of.OpenString
    else if n == 7 then codes_of.BadNumber
    else if n == 8 then codes_of.NumberTooLarge
    else if n == 9 then codes_of.BadToken
    else if n == 10 then codes_of.ModuleName
    else if n == 11 then codes_of.EndName
    else if n == 12 then codes_of.NoModule
    else if n == 13 then codes_of.ImportBroken
    else if n == 14 then codes_of.ImportCyclic
    else if n == 15 then codes_of.UnusedImport
    else if n == 16 then codes_of.NameTwice
    else if n == 17 then codes_of.NoName
    else if n == 18 then codes_of.NotType
    else if n == 19 then codes_of.NotConstant
    else if n == 20 then codes_of.ConstantRange
    else if n == 21 then codes_of.TypeTooLarge
    else if n == 22 then codes_of.InterfaceTooLarge
    else if n == 23 then codes_of.BadBase
    else if n == 24 then codes_of.BadResult
    else if n == 25 then codes_of.BadReturn
    else if n == 26 then codes_of.BadSelector
    else if n == 27 then codes_of.NotVariable
    else if n == 28 then codes_of.ReadOnly
    else if n == 29 then codes_of.BadOperand
    else if n == 30 then codes_of.NotAssignable
    else if n == 31 then codes_of.NotBoolean
    else if n == 32 then codes_of.NotInteger
    else if n == 33 then codes_of.BadCall
    else if n == 34 then codes_of.ArgumentCount
    else if n == 35 then codes_of.BadArgument
    else if n == 36 then codes_of.BadCase
    else if n == 37 then codes_of.LabelTwice
    else codes_of.BadControl
