-- `prints::put_items` meets its contract: the numbers so far are printed.
use Rattle.std.proofs.Common.{◌+◌, ◌*◌, ◌≤◌, take}
use Rattle.model.specs.Printing.{spaced_all}
use Rattle.prints.specs.Printed.{Printed}
use Rattle.prints.proofs.put_items.Given as goal

abbrev pub invariant-loop-n : goal.invariant-loop-n
invariant-loop-n l =
    (l.next ≤ l.at + 6 * l.n-index)
    × Printed l.initial.out l.at (spaced_all (take l.n-index l.numbers)) l.next l.out
