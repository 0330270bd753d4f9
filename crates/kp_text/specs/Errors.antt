-- What an error says of a text that wasn't read.
use Rattle.std.specs.Prelude.{ℕ, List}
use Rattle.kp_text.specs.Grammar.{Leveled}
use Rattle.kp_text.specs.Spelling.{offset, IsFaultOf}
use Rattle.kp_text.specs.declared.fault.TextFailure.{TextFailure}
use Rattle.kp_text.specs.declared.fault.TextFailure.TheVariants as failure
use Rattle.kp_text.specs.declared.read.ReadError.{ReadError}
use Rattle.kp_text.specs.declared.read.ReadError.TheVariants as error

abbrev pub read_error_of : List ℕ → TextFailure → ReadError
read_error_of bytes failure.Memory = error.Memory
read_error_of bytes (failure.Fault left k) = error.Fault (record { at = offset bytes left k; kind = k })

-- want of memory says nothing; a fault is the first of the bytes, read as something that may be written
abbrev pub IsErrorOf : (List Leveled → Type 0) → List ℕ → ReadError → Type 0
IsErrorOf Texts bytes error.Memory = Unit {0}
IsErrorOf Texts bytes (error.Fault f) = IsFaultOf Texts bytes f
