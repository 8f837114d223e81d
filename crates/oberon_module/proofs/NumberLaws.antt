-- A code is the one of its number.
use Rattle.std.specs.Prelude.{◌≡◌, refl}
use Rattle.ob_text.specs.declared.code.Code.{Code}
use Rattle.ob_text.specs.declared.code.Code.TheVariants as codes_of
use Rattle.oberon_rules.specs.Order.{number_of}
use Rattle.oberon_module.specs.Numbers.{code_numbered}

pub numbered_again : (c : Code) → code_numbered (number_of c) ≡ c
numbered_again codes_of.DocumentAbsent = refl
numbered_again codes_of.DocumentTooLarge = refl
numbered_again codes_of.DocumentNotText = refl
numbered_again codes_of.BadCharacter = refl
numbered_again codes_of.OpenComment = refl
numbered_again codes_of.OpenString = refl
numbered_again codes_of.BadNumber = refl
numbered_again codes_of.NumberTooLarge = refl
numbered_again codes_of.BadToken = refl
numbered_again codes_of.ModuleName = refl
numbered_again codes_of.EndName = refl
numbered_again codes_of.NoModule = refl
numbered_again codes_of.ImportBroken = refl
numbered_again codes_of.ImportCyclic = refl
numbered_again codes_of.UnusedImport = refl
numbered_again codes_of.NameTwice = refl
numbered_again codes_of.NoName = refl
numbered_again codes_of.NotType = refl
numbered_again codes_of.NotConstant = refl
numbered_again codes_of.ConstantRange = refl
numbered_again codes_of.TypeTooLarge = refl
numbered_again codes_of.InterfaceTooLarge = refl
numbered_again codes_of.BadBase = refl
numbered_again codes_of.BadResult = refl
numbered_again codes_of.BadReturn = refl
numbered_again codes_of.BadSelector = refl
numbered_again codes_of.NotVariable = refl
numbered_again codes_of.ReadOnly = refl
numbered_again codes_of.BadOperand = refl
numbered_again codes_of.NotAssignable = refl
numbered_again codes_of.NotBoolean = refl
numbered_again codes_of.NotInteger = refl
numbered_again codes_of.BadCall = refl
numbered_again codes_of.ArgumentCount = refl
numbered_again codes_of.BadArgument = refl
numbered_again codes_of.BadCase = refl
numbered_again codes_of.LabelTwice = refl
numbered_again codes_of.BadControl = refl
