-- The words that lines begin with.
use Rattle.std.specs.Prelude.{ℕ, List, codes}
use Rattle.client_script.specs.declared.verb.Verb.{Verb}
use Rattle.client_script.specs.declared.verb.Verb.TheVariants.{Initialize, Targets, Sources, Inverse, Compile, Test, Run, Clean, Reload, Cancel, Wait, Show, Shutdown, Exit}

abbrev pub text_of : Verb → List ℕ
text_of Initialize = codes "initialize"
text_of Targets = codes "targets"
text_of Sources = codes "sources"
text_of Inverse = codes "inverse"
text_of Compile = codes "compile"
text_of Test = codes "test"
text_of Run = codes "run"
text_of Clean = codes "clean"
text_of Reload = codes "reload"
text_of Cancel = codes "cancel"
text_of Wait = codes "wait"
text_of Show = codes "show"
text_of Shutdown = codes "shutdown"
text_of Exit = codes "exit"
