-- Which call of numbers the code's is.
use Rattle.std.specs.Prelude.{string_bytes}
use Rattle.kp_limits.specs.Wide as model
use Rattle.kp_limits.specs.declared.wide.WideCall.{WideCall}

abbrev pub call_view : WideCall → model.WideCall
call_view c = record { symbol = string_bytes c.symbol.now.value; first = c.first; second = c.second }
