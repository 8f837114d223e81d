-- Diagnostics that are shown alike.
use Rattle.std.proofs.Common.{◌≡◌, ◌++◌, ◌∙◌, ℕ, List, [], ◌∷◌, Bool, true, false, Some, refl, sym, ap}
use Rattle.std.specs.Prelude.{◌&&◌, ◌↔◌, IsTrue, codes, if◌then◌else◌}
use Rattle.std.specs.Str.{bytes_eq}
use Rattle.std.proofs.lemmas.List.{append_cancel_left}
use Rattle.ob_text.specs.Code.{name_of, message_of}
use Rattle.ob_text.specs.declared.code.Code.{Code}
use Rattle.ob_text.specs.declared.code.Code.TheVariants.{DocumentAbsent, DocumentTooLarge, DocumentNotText, BadCharacter, OpenComment, OpenString, BadNumber, NumberTooLarge, BadToken, ModuleName, EndName, NoModule, ImportBroken, ImportCyclic, UnusedImport, NameTwice, NoName, NotType, NotConstant, ConstantRange, TypeTooLarge, InterfaceTooLarge, BadBase, BadResult, BadReturn, BadSelector, NotVariable, ReadOnly, BadOperand, NotAssignable, NotBoolean, NotInteger, BadCall, ArgumentCount, BadArgument, BadCase, LabelTwice, BadControl}
use Rattle.ob_text.specs.declared.diagnostic.Diagnostic.{Diagnostic}
use Rattle.bsp_records.specs.Shown.{name_shown, shown}
use Rattle.bsp_records.specs.declared.diagnostics.DiagnosticRecord.{DiagnosticRecord}

-- ---- codes have different names

abbrev first_of : List (List ℕ × Code) → List ℕ → Code
first_of [] name = DocumentAbsent
first_of (entry ∷ entries) name = if bytes_eq entry.0 name then entry.1 else first_of entries name

abbrev named : List (List ℕ × Code)
named =
    (codes "documentAbsent", DocumentAbsent) ∷ (codes "documentTooLarge", DocumentTooLarge) ∷ (codes "documentNotText", DocumentNotText) ∷ (codes "badCharacter", BadCharacter)
    ∷ (codes "openComment", OpenComment) ∷ (codes "openString", OpenString) ∷ (codes "badNumber", BadNumber) ∷ (codes "numberTooLarge", NumberTooLarge)
    ∷ (codes "badToken", BadToken) ∷ (codes "moduleName", ModuleName) ∷ (codes "endName", EndName) ∷ (codes "noModule", NoModule)
    ∷ (codes "importBroken", ImportBroken) ∷ (codes "importCyclic", ImportCyclic) ∷ (codes "unusedImport", UnusedImport) ∷ (codes "nameTwice", NameTwice)
    ∷ (codes "noName", NoName) ∷ (codes "notType", NotType) ∷ (codes "notConstant", NotConstant) ∷ (codes "constantRange", ConstantRange)
    ∷ (codes "typeTooLarge", TypeTooLarge) ∷ (codes "interfaceTooLarge", InterfaceTooLarge) ∷ (codes "badBase", BadBase) ∷ (codes "badResult", BadResult)
    ∷ (codes "badReturn", BadReturn) ∷ (codes "badSelector", BadSelector) ∷ (codes "notVariable", NotVariable) ∷ (codes "readOnly", ReadOnly)
    ∷ (codes "badOperand", BadOperand) ∷ (codes "notAssignable", NotAssignable) ∷ (codes "notBoolean", NotBoolean) ∷ (codes "notInteger", NotInteger)
    ∷ (codes "badCall", BadCall) ∷ (codes "argumentCount", ArgumentCount) ∷ (codes "badArgument", BadArgument) ∷ (codes "badCase", BadCase)
    ∷ (codes "labelTwice", LabelTwice) ∷ (codes "badControl", BadControl)
    ∷ []

named_back : (code : Code) → first_of named (name_of code) ≡ code
unfolding name_of
named_back DocumentAbsent = refl
named_back DocumentTooLarge = refl
named_back DocumentNotText = refl
named_back BadCharacter = refl
named_back OpenComment = refl
named_back OpenString = refl
named_back BadNumber = refl
named_back NumberTooLarge = refl
named_back BadToken = refl
named_back ModuleName = refl
named_back EndName = refl
named_back NoModule = refl
named_back ImportBroken = refl
named_back ImportCyclic = refl
named_back UnusedImport = refl
named_back NameTwice = refl
named_back NoName = refl
named_back NotType = refl
named_back NotConstant = refl
named_back ConstantRange = refl
named_back TypeTooLarge = refl
named_back InterfaceTooLarge = refl
named_back BadBase = refl
named_back BadResult = refl
named_back BadReturn = refl
named_back BadSelector = refl
named_back NotVariable = refl
named_back ReadOnly = refl
named_back BadOperand = refl
named_back NotAssignable = refl
named_back NotBoolean = refl
named_back NotInteger = refl
named_back BadCall = refl
named_back ArgumentCount = refl
named_back BadArgument = refl
named_back BadCase = refl
named_back LabelTwice = refl
named_back BadControl = refl

names_apart : (a b : Code) → name_of a ≡ name_of b → a ≡ b
names_apart a b same = sym (named_back a) ∙ (ap (first_of named) same ∙ named_back b)

-- ---- what decides whether they are shown alike

parts_same : (x y : DiagnosticRecord) → x.range ≡ y.range → x.severity ≡ y.severity → x.code ≡ y.code → x.source ≡ y.source → x.message ≡ y.message → x ≡ y
parts_same x y range severity code source message = rw (range, severity, code, source, message) refl

some_same : {A : Type 0} (a b : A) → Some a ≡ Some b → a ≡ b
some_same a b same = cc

-- the same range, code and name shown are the same record
pub alike : (x y : Diagnostic) → x.range ≡ y.range → x.code ≡ y.code → name_shown x.name ≡ name_shown y.name → shown x ≡ shown y
alike x y range code name =
    parts_same (shown x) (shown y) range (ap (λ c. (shown (record x { code = c })).severity) code) (ap (λ (c : Code). Some (name_of c)) code) refl
    (ap (λ (c : Code). message_of c ++ name_shown x.name) code ∙ ap (λ n. message_of y.code ++ n) name)

-- and the other way round
pub same_code : (x y : Diagnostic) → shown x ≡ shown y → x.code ≡ y.code
same_code x y same = names_apart x.code y.code (some_same (name_of x.code) (name_of y.code) (ap (λ (r : DiagnosticRecord). r.code) same))

pub same_name : (x y : Diagnostic) → shown x ≡ shown y → name_shown x.name ≡ name_shown y.name
same_name x y same =
    let code = same_code x y same in
    append_cancel_left (message_of x.code) (name_shown x.name) (name_shown y.name)
    (ap (λ (r : DiagnosticRecord). r.message) same ∙ ap (λ (c : Code). message_of c ++ name_shown y.name) (sym code))

pub decides_shown : (a b c : Bool) (x y : Diagnostic) → IsTrue a ↔ (x.range ≡ y.range) → IsTrue b ↔ (x.code ≡ y.code) → IsTrue c ↔ (name_shown x.name ≡ name_shown y.name)
    → IsTrue ((a && b) && c) ↔ (shown x ≡ shown y)
decides_shown true true true x y range code name = (λ _. alike x y (range.0 refl) (code.0 refl) (name.0 refl), λ h. refl)
decides_shown false b c x y range code name = (λ (f : false ≡ true). absurd (cc), λ h. absurd (differs (range.1 (ap (λ (r : DiagnosticRecord). r.range) h))))
  where
    differs : false ≡ true → ⊥
    differs f = cc
decides_shown true false c x y range code name = (λ (f : false ≡ true). absurd (cc), λ h. code.1 (same_code x y h))
decides_shown true true false x y range code name = (λ (f : false ≡ true). absurd (cc), λ h. name.1 (same_name x y h))

-- ---- lists of them

first_same : (x y : DiagnosticRecord) (xs ys : List DiagnosticRecord) → x ∷ xs ≡ y ∷ ys → x ≡ y
first_same x y xs ys same = cc

rest_same : (x y : DiagnosticRecord) (xs ys : List DiagnosticRecord) → x ∷ xs ≡ y ∷ ys → xs ≡ ys
rest_same x y xs ys same = cc
