-- `fill` meets its contract: every place done has a waste in the entry of its block. Assumes nothing.
use Prim.Native.Nat.{◌≤◌, ◌-◌, ◌*◌}
use mathlib.Core.Path.{◌≡◌}
use Rattle.wheels.proofs.Steps.{Filling, Counting}
use Rattle.wheels.proofs.tables.fill.Given as goal

abbrev pub invariant-loop-done : goal.invariant-loop-done
invariant-loop-done l = (l.all ≡ l.row.entries * l.row.block) × (l.done ≤ l.all) × Filling l.part.loads.now l.part.gaps.now l.part.count l.flow l.row.block l.row.place l.done l.initial.table l.table × Counting l.part.loads.now l.part.gaps.now l.part.count l.done l.sum l.ends

abbrev pub decreases-loop-done : goal.decreases-loop-done
decreases-loop-done l = l.all - l.done
