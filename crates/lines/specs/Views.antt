-- A read line as the model's.
use Rattle.std.specs.Prelude.{Option, Some, None}
use Rattle.model.specs.Lines as ML
use Rattle.boards.specs.Calls.{call_in}
use Rattle.boards.specs.declared.Call as DC

abbrev pub line_in : Option DC.Call → ML.Line
line_in (Some c) = ML.reads (call_in c)
line_in None = ML.unreadable
