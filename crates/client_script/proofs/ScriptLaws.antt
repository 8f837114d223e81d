-- The lines of a script so far, one line more, and the first bad one.
use Rattle.std.proofs.Common.{◌≡◌, ◌≢◌, ◌∙◌, ◌++◌, ◌+◌, ◌≤◌, ℕ, Bool, true, false, List, [], ◌∷◌, Result, Err, IsErrAnd, length, refl, ap, sym, subst, arith, append_assoc, length-append}
use Rattle.std.proofs.lemmas.List.{append-nil}
use Rattle.std.proofs.lemmas.Result.{err_from_is_err_and}
use Rattle.client_script.specs.Faults.{IfBad}
use Rattle.client_script.specs.Lines.{Spells, is_initialize}
use Rattle.client_script.specs.Pieces.{pieces}
use Rattle.client_script.specs.Scripts.{AreLines, IsAdded, IsFirstBad, IsNoneOf, IsScript, starts}
use Rattle.client_script.specs.declared.line.Line.{Line}
use Rattle.client_script.specs.declared.script.ScriptFault.{ScriptFault}
use Rattle.client_script.specs.declared.script.ScriptFault.TheVariants as fault

-- what follows these texts and lines as a script's follows the whole
abbrev pub Leads : List (List ℕ) → List Line → Type 0
Leads before lines = (rest : List (List ℕ)) (more : List Line) → AreLines (starts lines) rest more → AreLines true (before ++ rest) (lines ++ more)

pub begins : (lines : List Line) → lines ≡ [] → Leads [] lines
begins lines none = subst (λ (ls : List Line). Leads [] ls) (sym none) (λ rest more h. h)

starts_more : (lines : List Line) (line : Line) → false ≡ starts (lines ++ line ∷ [])
starts_more [] line = refl
starts_more (first ∷ lines) line = refl

are_lines_by : (first other : Bool) (rest : List (List ℕ)) (more : List Line) → other ≡ first → AreLines other rest more → AreLines first rest more
are_lines_by first other rest more e h = subst (λ b. AreLines b rest more) e h

pub leads_more : (before : List (List ℕ)) (old new : List Line) (text : List ℕ) → Leads before old → IsAdded text old new → Leads (before ++ text ∷ []) new
leads_more before old new [] leads same rest more h =
    let h' : AreLines (starts old) rest more = are_lines_by (starts old) (starts new) rest more (ap starts same) h in
    subst (λ (texts : List (List ℕ)). AreLines true texts (new ++ more)) (sym (append_assoc before ([] ∷ []) rest))
    (subst (λ (lines : List Line). AreLines true (before ++ [] ∷ rest) (lines ++ more)) (sym same) (leads ([] ∷ rest) more h'))
leads_more before old new (byte ∷ text) leads added rest more h =
    let line = added.0 in
    let same : new ≡ old ++ line ∷ [] = added.3 in
    let h' : AreLines false rest more = are_lines_by false (starts new) rest more (ap starts same ∙ sym (starts_more old line)) h in
    subst (λ (texts : List (List ℕ)). AreLines true texts (new ++ more)) (sym (append_assoc before ((byte ∷ text) ∷ []) rest))
    (subst (λ (lines : List Line). AreLines true (before ++ (byte ∷ text) ∷ rest) lines) (sym (append_assoc old (line ∷ []) more) ∙ ap (λ (lines : List Line). lines ++ more) (sym same))
    (leads ((byte ∷ text) ∷ rest) (line ∷ more) (added.1, added.2, h')))

are_none : (first : Bool) → AreLines first [] []
are_none first = tt

pub leads_whole : (before : List (List ℕ)) (lines : List Line) → Leads before lines → AreLines true before lines
leads_whole before lines leads =
    subst (λ (texts : List (List ℕ)). AreLines true texts lines) (append-nil before)
    (subst (λ (ls : List Line). AreLines true (before ++ []) ls) (append-nil lines) (leads [] [] (are_none (starts lines))))

pub first_bad : (text : List ℕ) (before : List (List ℕ)) (lines : List Line) (bad : List ℕ) (behind : List (List ℕ)) (n : ℕ) → Leads before lines
    → pieces 10 text ≡ before ++ bad ∷ behind → n ≡ length before + 1 → IsNoneOf bad lines → IsFirstBad text n
first_bad text before lines bad behind n leads parts number none = record {
  before = before;
  bad = bad;
  behind = behind;
  parts = parts;
  number = number;
  lines = lines;
  right = leads_whole before lines leads;
  some = none.0;
  none = none.1;
}

-- ---- one text after another

pub parts_more : (all before rest more : List (List ℕ)) (text : List ℕ) → all ≡ before ++ rest → rest ≡ text ∷ more → all ≡ (before ++ text ∷ []) ++ more
parts_more all before rest more text so_far next =
    so_far ∙ (ap (λ (texts : List (List ℕ)). before ++ texts) next ∙ sym (append_assoc before (text ∷ []) more))

pub parts_here : (all before rest more : List (List ℕ)) (text : List ℕ) → all ≡ before ++ rest → rest ≡ text ∷ more → all ≡ before ++ text ∷ more
parts_here all before rest more text so_far next = so_far ∙ ap (λ (texts : List (List ℕ)). before ++ texts) next

pub number_more : (before : List (List ℕ)) (text : List ℕ) (number : ℕ) → number ≡ length before + 1 → number + 1 ≡ length (before ++ text ∷ []) + 1
number_more before text number is = let l : length (before ++ text ∷ []) ≡ length before + 1 = length-append before (text ∷ []) in omega arith

pub room_more : (number room : ℕ) (rest text more : List ℕ) → rest ≡ text ++ 10 ∷ more → number + length rest ≤ room → number + 1 + length more ≤ room
room_more number room rest text more parts fits =
    let l : length rest ≡ length text + length (10 ∷ more) = ap (λ (t : List ℕ). length t) parts ∙ length-append text (10 ∷ more) in omega arith

pub is_script : (text : List ℕ) (before : List (List ℕ)) (old new : List Line) (last : List ℕ) → pieces 10 text ≡ before ++ last ∷ [] → Leads before old → IsAdded last old new
    → IsScript text new
is_script text before old new last parts leads added =
    subst (λ (texts : List (List ℕ)). AreLines true texts new) (sym parts) (leads_whole (before ++ last ∷ []) new (leads_more before old new last leads added))

pub added : (text : List ℕ) (old new : List Line) (line : Line) → text ≢ [] → Spells text line → is_initialize line ≡ starts old → new ≡ old ++ line ∷ [] → IsAdded text old new
added [] old new line some spells follows is = absurd (some refl)
added (byte ∷ text) old new line some spells follows is = (line, spells, follows, is)

-- ---- what a fault says

pub if_bad : {B : Type 0} (why : ScriptFault) (result : Result B ScriptFault) (P Q : ℕ → Type 0) → IsErrAnd result (λ x. x ≡ why) → IfBad {A = Unit {0}} (Err why) P → ((n : ℕ) → P n → Q n)
    → IfBad result Q
if_bad {B = B} why result P Q is bad weaker = let told = err_from_is_err_and result is in subst (λ (r : Result B ScriptFault). IfBad r Q) (sym (told.1 ∙ ap Err told.2)) (by why bad)
  where
    by : (why : ScriptFault) → IfBad {A = Unit {0}} (Err why) P → IfBad {A = B} (Err why) Q
    by (fault.Line n) bad = weaker n bad
    by fault.NoMemory bad = tt
