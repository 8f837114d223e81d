-- How rises of a count of faults join.
use Rattle.std.proofs.Common.{ℕ, ◌≤◌, arith}
use Rattle.bsp_edge.specs.Faults.{Rose}

-- a rise before calls that don't lower the count
pub rose_before : (f g h : ℕ) → Rose f g → g ≤ h → Rose f h
rose_before f g h rose le = (omega arith, λ below. omega arith)

-- a rise behind calls that don't lower the count
pub rose_after : (f g h : ℕ) → f ≤ g → Rose g h → Rose f h
rose_after f g h le rose = (omega arith, λ below. omega arith)
