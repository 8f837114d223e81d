use Rattle.std.proofs.Common.{◌≡◌, take}
use Rattle.std.specs.List.{All}
use Rattle.ob_text.specs.Held.{IsReadable}
use Rattle.bsp_edge.specs.Handing.{paths_of}
use Rattle.bsp_edge.proofs.folder_tree.FolderTree.read_files.Given as goal

abbrev pub invariant-loop-path : goal.invariant-loop-path
invariant-loop-path g l = record {
  paths : paths_of l.entries.items ≡ take l.path-index l.paths;
  texts : All (λ entry. IsReadable entry.1) l.entries.items;
}
