-- What the two places of a pair have, and what a look finds there.
use Rattle.std.specs.Prelude.{◌≡◌, ◌⊎◌, Option, Some, None, IfSome}
use Rattle.indexmap.specs.IndexMap.{get}
use Rattle.check_cache.specs.contracts.pair.PairKeyPartialEq.TheImpl.{eq-value}
use Rattle.check_cache.specs.declared.cache.Cache.{Cache}
use Rattle.check_cache.specs.declared.pair.PairKey.{PairKey}
use Rattle.check_cache.specs.Facts.{FactTree}

abbrev pub first_at : Cache → PairKey → Option FactTree
first_at cache pair = get eq-value.it cache.first pair

abbrev pub other_at : Cache → PairKey → Option FactTree
other_at cache pair = get eq-value.it cache.other pair

-- ---- what a look finds

abbrev pub Lacks : (FactTree → Type 0) → Option FactTree → Type 0
Lacks P place = IfSome place (λ fact. ¬ (P fact))

-- it is in the first place, or in the other and the first hasn't one
abbrev pub Chosen : (FactTree → Type 0) → Option FactTree → Option FactTree → FactTree → Type 0
Chosen P first other fact = ((first ≡ Some fact) × P fact) ⊎ (Lacks P first × (other ≡ Some fact) × P fact)

-- ---- what changes

abbrev pub SamePlaces : Cache → Cache → Type 0
SamePlaces old new = (pair : PairKey) → (first_at new pair ≡ first_at old pair) × (other_at new pair ≡ other_at old pair)

-- what the other place has behind a store: what stood first, or what it had where nothing stood first
abbrev pub moved : Option FactTree → Option FactTree → Option FactTree
moved None other = other
moved (Some fact) other = Some fact
