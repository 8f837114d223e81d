-- What a front and a plan keep, and what contracts see of them.
use Rattle.std.specs.Prelude.{◌≡◌, ℕ, ◌<◌, ◌≤◌, ◌+◌, length}
use Rattle.std.specs.List.{slice_index}
use Rattle.std.specs.Vec.{vec_capacity}
use Rattle.std.specs.Ordering.{nat_cmp}
use Rattle.std.specs.BinaryHeap.{heap_items, heap_capacity, IsHeap}
use Rattle.build_plan.specs.declared.front.Front.TheInside.{Inside}
use Rattle.build_plan.specs.Rows.{AreWithin}
use Rattle.build_plan.specs.Lists.{count_of}
use Rattle.build_plan.specs.Front.{Stand, waits, times_free, queued}

abbrev pub stand : Inside → Stand
stand front = record {
  rows = front.links;
  spared = front.spared.items;
  given = front.given.items;
  finished = front.finished.items;
}

pub record IsFront (front : Inside) : Type 0 where
  pub within : AreWithin front.links
  pub spared : length front.spared.items ≡ length front.links
  pub waiting : length front.waiting.items ≡ length front.links
  pub waits : (p : ℕ) → p < length front.links → slice_index front.waiting.items p ≡ waits front.links front.spared.items front.finished.items p
  pub once : (p : ℕ) → count_of p front.given.items + count_of p (queued front.ready) ≡ times_free front.waiting.items p
  pub finished : (p : ℕ) → count_of p front.finished.items ≤ count_of p front.given.items
  pub ordered : IsHeap (λ x y. nat_cmp y.0 x.0) (heap_items front.ready)
  pub room : length front.links ≤ heap_capacity front.ready
  pub given_room : length front.links ≤ vec_capacity front.given
  pub finished_room : length front.links ≤ vec_capacity front.finished
