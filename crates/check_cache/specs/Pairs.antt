-- Pairs as keys: when two are the same, and which of them are in a list.
use Rattle.std.specs.Prelude.{◌&&◌, Bool, List}
use Rattle.std.specs.List.{list_any}
use Rattle.std.specs.Str.{bytes_eq}
use Rattle.target_graph.specs.Workspace.{name_at}
use Rattle.target_graph.specs.declared.target.Pair.{Pair}
use Rattle.target_graph.specs.declared.target.Target.{Target}
use Rattle.check_cache.specs.declared.pair.PairKey.{PairKey}

-- the key of a pair of these targets
abbrev pub key_of : List Target → Pair → PairKey
key_of targets pair = record { target = name_at targets pair.target; path = pair.path }

abbrev pub same_pair : PairKey → PairKey → Bool
same_pair a b = bytes_eq a.target b.target && bytes_eq a.path b.path

-- the pair is one of these
abbrev pub is_among : List PairKey → PairKey → Bool
is_among pairs pair = list_any (same_pair pair) pairs
