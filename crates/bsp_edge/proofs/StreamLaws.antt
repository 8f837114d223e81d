-- How takes and gifts join.
use Rattle.std.proofs.Common.{ℕ, List, [], ◌++◌, Option, Some, None, refl, append_assoc, sym, ap}
use Rattle.std.proofs.lemmas.List.{append-nil}
use Rattle.bsp_edge.specs.Streams.{Takes, Gives}

-- two takes in a row are one of the joined bytes
pub takes_append : (a b c : Option (List ℕ)) (xs ys : List ℕ) → Takes a b xs → Takes b c ys → Takes a c (xs ++ ys)
takes_append a b None xs ys first second = rw second at first
takes_append a b (Some rest) xs ys first second = rw append_assoc (rw second at first)

-- two gifts in a row are one of the joined bytes
pub gives_append : (a b c : Option (List ℕ)) (xs ys : List ℕ) → Gives a b xs → Gives b c ys → Gives a c (xs ++ ys)
gives_append None b c xs ys first second = rw first at second
gives_append (Some given) b c xs ys first second = rw (← append_assoc) (rw first at second)

-- to take nothing changes nothing
pub takes_nothing : (left : Option (List ℕ)) → Takes left left []
takes_nothing None = refl
takes_nothing (Some rest) = refl

-- to give nothing changes nothing
pub gives_nothing : (given : Option (List ℕ)) → Gives given given []
gives_nothing None = refl
gives_nothing (Some bytes) = ap Some (sym (append-nil bytes))
