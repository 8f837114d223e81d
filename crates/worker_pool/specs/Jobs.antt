-- What a job is: in memory, and as plain data.
use Rattle.std.specs.Prelude.{ℕ, List, Option, IfSome}
use Rattle.std.specs.declared.alloc.Global.{Global}
use Rattle.std.specs.declared.sync.Arc.{Arc}
use Rattle.ob_text.specs.Held.{IsReadable}
use Rattle.ob_text.specs.declared.held.Held.{Held}
use Rattle.oberon_types.specs.declared.entity.View.{View}
use Rattle.oberon_types.specs.Entities.{ViewTree}
use Rattle.oberon_module.specs.Reading.{IsRead}
use Rattle.oberon_module.specs.Views.{plain_views}
use Rattle.oberon_module.specs.declared.reading.Reading.{Reading}

-- what the check of one module takes: what is held at its document's path, the stem of that path, and what each import
-- shows, by its name
pub record CheckParts : Type 0 where
  pub held : Held
  pub stem : List ℕ
  pub views : List (List ℕ × View)

abbrev pub parts_of : Held → List ℕ → List (List ℕ × View) → CheckParts
parts_of held stem views = record { held = held; stem = stem; views = views }

-- a text that is held is a document, and what was read, if anything, was read of it
pub record IsWhole (held : Held) (reading : Option (Arc Reading Global)) : Type 0 where
  pub readable : IsReadable held
  pub read : IfSome reading (λ r. IsRead held r.value)

-- the same as plain data
pub record CheckTree : Type 0 where
  pub held : Held
  pub stem : List ℕ
  pub views : List (List ℕ × ViewTree)

abbrev pub plain_check : CheckParts → CheckTree
plain_check c = record { held = c.held; stem = c.stem; views = plain_views c.views }

pub data WorkTree : Type 0 where
  check_work : CheckTree → WorkTree

pub record JobTree : Type 0 where
  pub number : ℕ
  pub work : WorkTree
