-- `lines::number` meets its contract: what is left to read, after the digits that make n, gives what the field does.
use Rattle.std.proofs.Common.{◌≡◌, ◌≤◌, drop}
use Rattle.std.specs.Bool.{then_some}
use Rattle.model.specs.Lines.{is_number, digits_value}
use Rattle.lines.proofs.Digits.{read_from}
use Rattle.lines.proofs.number.Given as goal

abbrev pub invariant-loop-x : goal.invariant-loop-x
invariant-loop-x l =
    (l.n ≤ l.most)
    × (then_some (is_number l.most l.s) (digits_value l.s) ≡ read_from l.most l.n (drop l.x-index l.s))
