-- Statements in memory: what the tree of a struct is by the struct's fields, where it is made (`x_made`) and where
-- it is read (`x_out`).
use Rattle.std.specs.Prelude.{◌≡◌, Option, Some, None, refl}
use Rattle.std.proofs.Common.{ap, sym, ◌∙◌}
use Rattle.std.specs.declared.alloc.Global.{Global}
use Rattle.std.specs.declared.vec.Vec.{Vec}
use Rattle.ob_text.specs.declared.span.Span.{Span}
use denote.Hole.Carrier.{roll}
use Rattle.oberon_tree.specs.declared.statement.Arm.TheBlock.{back-If-otherwise}
use Rattle.oberon_tree.specs.declared.statement.Arm.TheBlock.{Row_of-NextArm, end_of-NextArm, more_of-NextArm, items-the_row-NextArm, hidden-the_row-NextArm-0, items_hidden-the_row-NextArm-0}
use Rattle.oberon_tree.specs.declared.statement.Arm.TheBlock.{Row_of-Guarded, end_of-Guarded, more_of-Guarded, items-the_row-Guarded, hidden-the_row-Guarded-1, items_hidden-the_row-Guarded-1}
use Rattle.oberon_tree.specs.declared.statement.Arm.TheBlock.{Row_of-NextStatement, end_of-NextStatement, more_of-NextStatement, items-the_row-NextStatement, hidden-the_row-NextStatement-2, items_hidden-the_row-NextStatement-2}
use Rattle.oberon_tree.specs.declared.leaf.Ident.{Ident}
use Rattle.oberon_tree.specs.declared.expression.Expr.{Expr}
use Rattle.oberon_tree.specs.declared.statement.Step.{Step}
use Rattle.oberon_tree.specs.declared.statement.Statement.{Statement}
use Rattle.oberon_tree.specs.declared.statement.Arm.{Arm}
use Rattle.oberon_tree.specs.declared.statement.NextArm.{NextArm}
use Rattle.oberon_tree.specs.declared.statement.NextStatement.{NextStatement}
use Rattle.oberon_tree.specs.declared.statement.Statements.{Statements, roll-Statements, out-Statements, roll-out-Statements}
use Rattle.oberon_tree.specs.declared.statement.If.{If, roll-If, out-If, roll-out-If}
use Rattle.oberon_tree.specs.declared.statement.Guarded.{Guarded, roll-Guarded, out-Guarded, roll-out-Guarded}
use Rattle.oberon_tree.specs.declared.statement.ElsePart.{ElsePart, roll-ElsePart, out-ElsePart, roll-out-ElsePart}
use Rattle.oberon_tree.specs.declared.statement.Case.{Case, roll-Case, out-Case, roll-out-Case}
use Rattle.oberon_tree.specs.declared.statement.While.{While, roll-While, out-While, roll-out-While}
use Rattle.oberon_tree.specs.declared.statement.Repeat.{Repeat, roll-Repeat, out-Repeat, roll-out-Repeat}
use Rattle.oberon_tree.specs.declared.statement.For.{For, roll-For, out-For, roll-out-For}
use Rattle.oberon_tree.specs.Memory.{expr_tree, step_option, statements_tree, more_statements_row, statement_tree, if_tree, guarded_tree, elsifs_row, else_held, else_tree, case_tree, arm_tree, more_arms_row, while_tree, repeat_tree, for_tree, more_statements_list, elsifs_list, else_option, more_arms_list}
use Rattle.oberon_tree.specs.Trees.{statements_of, more_statements, if_of, guarded_of, more_elsifs, else_of, case_of, more_arms, while_of, repeat_of, for_of}

-- a row is the list of its items
more_statements_items : {m : _} (row : Row_of-NextStatement m) → more_statements_row row ≡ more_statements_list (items-the_row-NextStatement _ row)
more_statements_items end_of-NextStatement = refl
more_statements_items (more_of-NextStatement semicolon one row) = ap (more_statements semicolon (statement_tree one)) (more_statements_items row)

pub more_statements_hidden : (v : Vec NextStatement Global) → more_statements_row (hidden-the_row-NextStatement-2 v) ≡ more_statements_list v.items
more_statements_hidden v = more_statements_items (hidden-the_row-NextStatement-2 v) ∙ ap more_statements_list (items_hidden-the_row-NextStatement-2 v)

-- a row is the list of its items
elsifs_items : {m : _} (row : Row_of-Guarded m) → elsifs_row row ≡ elsifs_list (items-the_row-Guarded _ row)
elsifs_items end_of-Guarded = refl
elsifs_items (more_of-Guarded x row) = ap (more_elsifs (guarded_tree x)) (elsifs_items row)

pub elsifs_hidden : (v : Vec Guarded Global) → elsifs_row (hidden-the_row-Guarded-1 v) ≡ elsifs_list v.items
elsifs_hidden v = elsifs_items (hidden-the_row-Guarded-1 v) ∙ ap elsifs_list (items_hidden-the_row-Guarded-1 v)

-- a row is the list of its items
more_arms_items : {m : _} (row : Row_of-NextArm m) → more_arms_row row ≡ more_arms_list (items-the_row-NextArm _ row)
more_arms_items end_of-NextArm = refl
more_arms_items (more_of-NextArm bar one row) = ap (more_arms bar (arm_tree one)) (more_arms_items row)

pub more_arms_hidden : (v : Vec NextArm Global) → more_arms_row (hidden-the_row-NextArm-0 v) ≡ more_arms_list v.items
more_arms_hidden v = more_arms_items (hidden-the_row-NextArm-0 v) ∙ ap more_arms_list (items_hidden-the_row-NextArm-0 v)

else_back : (o : Option ElsePart) → else_held (back-If-otherwise o) ≡ else_option o
else_back None = refl
else_back (Some b) = refl

pub statements_made : (first' : Statement) (rest' : Vec NextStatement Global) → statements_tree (roll-Statements (record { first = first'; rest = rest' })) ≡ statements_of (statement_tree first') (more_statements_list rest'.items)
unfolding roll-Statements roll
statements_made first' rest' = ap (statements_of (statement_tree first')) (more_statements_hidden rest')

pub statements_out : (x : Statements) → statements_tree x ≡ statements_of (statement_tree (out-Statements x).first) (more_statements_list (out-Statements x).rest.items)
statements_out x = ap statements_tree (sym (roll-out-Statements x)) ∙ statements_made _ _

pub if_made : (first' : Guarded) (rest' : Vec Guarded Global) (otherwise' : Option ElsePart) (end' : Span) → if_tree (roll-If (record { first = first'; rest = rest'; otherwise = otherwise'; end = end' })) ≡ if_of (guarded_tree first') (elsifs_list rest'.items) (else_option otherwise') end'
unfolding roll-If roll
if_made first' rest' otherwise' end' = ap (λ y. if_of (guarded_tree first') y (else_held (back-If-otherwise otherwise')) end') (elsifs_hidden rest') ∙ ap (λ y. if_of (guarded_tree first') (elsifs_list rest'.items) y end') (else_back otherwise')

pub if_out : (x : If) → if_tree x ≡ if_of (guarded_tree (out-If x).first) (elsifs_list (out-If x).rest.items) (else_option (out-If x).otherwise) (out-If x).end
if_out x = ap if_tree (sym (roll-out-If x)) ∙ if_made _ _ _ _

pub guarded_made : (word' : Span) (condition' : Expr) (body_word' : Span) (body' : Statements) → guarded_tree (roll-Guarded (record { word = word'; condition = condition'; body_word = body_word'; body = body' })) ≡ guarded_of word' (expr_tree condition') body_word' (statements_tree body')
unfolding roll-Guarded roll
guarded_made word' condition' body_word' body' = refl

pub guarded_out : (x : Guarded) → guarded_tree x ≡ guarded_of (out-Guarded x).word (expr_tree (out-Guarded x).condition) (out-Guarded x).body_word (statements_tree (out-Guarded x).body)
guarded_out x = ap guarded_tree (sym (roll-out-Guarded x)) ∙ guarded_made _ _ _ _

pub else_made : (word' : Span) (body' : Statements) → else_tree (roll-ElsePart (record { word = word'; body = body' })) ≡ else_of word' (statements_tree body')
unfolding roll-ElsePart roll
else_made word' body' = refl

pub else_out : (x : ElsePart) → else_tree x ≡ else_of (out-ElsePart x).word (statements_tree (out-ElsePart x).body)
else_out x = ap else_tree (sym (roll-out-ElsePart x)) ∙ else_made _ _

pub case_made : (word' : Span) (value' : Expr) (of' : Span) (first' : Arm) (rest' : Vec NextArm Global) (end' : Span) → case_tree (roll-Case (record { word = word'; value = value'; of = of'; first = first'; rest = rest'; end = end' })) ≡ case_of word' (expr_tree value') of' (arm_tree first') (more_arms_list rest'.items) end'
unfolding roll-Case roll
case_made word' value' of' first' rest' end' = ap (λ y. case_of word' (expr_tree value') of' (arm_tree first') y end') (more_arms_hidden rest')

pub case_out : (x : Case) → case_tree x ≡ case_of (out-Case x).word (expr_tree (out-Case x).value) (out-Case x).of (arm_tree (out-Case x).first) (more_arms_list (out-Case x).rest.items) (out-Case x).end
case_out x = ap case_tree (sym (roll-out-Case x)) ∙ case_made _ _ _ _ _ _

pub while_made : (first' : Guarded) (rest' : Vec Guarded Global) (end' : Span) → while_tree (roll-While (record { first = first'; rest = rest'; end = end' })) ≡ while_of (guarded_tree first') (elsifs_list rest'.items) end'
unfolding roll-While roll
while_made first' rest' end' = ap (λ y. while_of (guarded_tree first') y end') (elsifs_hidden rest')

pub while_out : (x : While) → while_tree x ≡ while_of (guarded_tree (out-While x).first) (elsifs_list (out-While x).rest.items) (out-While x).end
while_out x = ap while_tree (sym (roll-out-While x)) ∙ while_made _ _ _

pub repeat_made : (word' : Span) (body' : Statements) (until' : Span) (condition' : Expr) → repeat_tree (roll-Repeat (record { word = word'; body = body'; until = until'; condition = condition' })) ≡ repeat_of word' (statements_tree body') until' (expr_tree condition')
unfolding roll-Repeat roll
repeat_made word' body' until' condition' = refl

pub repeat_out : (x : Repeat) → repeat_tree x ≡ repeat_of (out-Repeat x).word (statements_tree (out-Repeat x).body) (out-Repeat x).until (expr_tree (out-Repeat x).condition)
repeat_out x = ap repeat_tree (sym (roll-out-Repeat x)) ∙ repeat_made _ _ _ _

pub for_made : (word' : Span) (variable' : Ident) (becomes' : Span) (from' : Expr) (to_word' : Span) (limit' : Expr) (step' : Option Step) (body_word' : Span) (body' : Statements) (end' : Span) → for_tree (roll-For (record { word = word'; variable = variable'; becomes = becomes'; from = from'; to_word = to_word'; limit = limit'; step = step'; body_word = body_word'; body = body'; end = end' })) ≡ for_of word' variable' becomes' (expr_tree from') to_word' (expr_tree limit') (step_option step') body_word' (statements_tree body') end'
unfolding roll-For roll
for_made word' variable' becomes' from' to_word' limit' step' body_word' body' end' = refl

pub for_out : (x : For) → for_tree x ≡ for_of (out-For x).word (out-For x).variable (out-For x).becomes (expr_tree (out-For x).from) (out-For x).to_word (expr_tree (out-For x).limit) (step_option (out-For x).step) (out-For x).body_word (statements_tree (out-For x).body) (out-For x).end
for_out x = ap for_tree (sym (roll-out-For x)) ∙ for_made _ _ _ _ _ _ _ _ _ _
