-- How what a tree hands out joins.
use Rattle.std.proofs.Common.{[], ◌++◌, List, Option, Some, None, refl, append_assoc, sym, ap}
use Rattle.std.proofs.lemmas.List.{append-nil}
use Rattle.ob_text.specs.Held.{Entries}
use Rattle.bsp_edge.specs.Handing.{Hands}

-- snapshots handed out in two rows are handed out in one
pub hands_append : (a b c : Option (List Entries)) (xs ys : List Entries) → Hands a b xs → Hands b c ys → Hands a c (xs ++ ys)
hands_append None b c xs ys first second = rw first at second
hands_append (Some handed) b c xs ys first second = rw (← append_assoc) (rw first at second)

-- to hand out nothing changes nothing
pub hands_nothing : (handed : Option (List Entries)) → Hands handed handed []
hands_nothing None = refl
hands_nothing (Some snapshots) = ap Some (sym (append-nil snapshots))
