-- Lists in which what stands twice counts once.
use Rattle.std.specs.Prelude.{List, [], ◌∷◌, ◌++◌, Bool, if◌then◌else◌}
use Rattle.std.specs.List.{list_any, fold}

-- one more item behind the others, unless it is one of them
abbrev pub once_more : {A : Type 0} → (A → A → Bool) → List A → A → List A
once_more same items item = if list_any (same item) items then items else items ++ item ∷ []

-- each item once, at its first index
abbrev pub each_once : {A : Type 0} → (A → A → Bool) → List A → List A
each_once same items = fold (once_more same) [] items
