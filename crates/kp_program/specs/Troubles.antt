-- What the code tells of a trouble; for private clauses.
use Rattle.std.specs.Prelude.{◌≡◌, ◌⊎◌, ℕ, List, [], Option, Some, None, string_bytes, ⊤}
use Rattle.kp_kore.specs.Syntax.{Text}
use Rattle.kp_kore.specs.Signature.{KoreSignature}
use Rattle.kp_io.specs.Outside.{Names}
use Rattle.kp_claims.specs.Faults as claims
use Rattle.kp_imports.specs.Faults.{told_fault}
use Rattle.kp_program.specs.Faults.{FileFault, too_long, in_text, in_modules, in_claims, IsFileFault, IsClaimsFault}
use Rattle.kp_program.specs.Statuses.{Ending, faulty, no_file, outside, memory, exit_status, line_of, IsCause, Tells}
use Rattle.kp_program.specs.declared.trouble.FileFault as code
use Rattle.kp_program.specs.declared.trouble.FileFault.TheVariants as file
use Rattle.kp_program.specs.declared.trouble.Trouble.{Trouble}
use Rattle.kp_program.specs.declared.trouble.Trouble.TheVariants as trouble

-- the claim's fault that the code tells; want of memory is none of them, and is told with the code of C9
abbrev pub claim_fault_of : Option claims.Fault → claims.Fault
claim_fault_of (Some f) = f
claim_fault_of None = claims.foreign_symbol []

abbrev pub file_fault_view : code.FileFault → FileFault
file_fault_view file.TooLong = too_long
file_fault_view (file.Text f) = in_text f
file_fault_view (file.Module f) = in_modules (told_fault f)
file_fault_view (file.Claim f) = in_claims (claim_fault_of (claims.told_fault f))

abbrev pub ending_of : Trouble → Ending
ending_of (trouble.File name f) = faulty (string_bytes name) (file_fault_view f)
ending_of (trouble.NoFile name) = no_file (string_bytes name)
ending_of trouble.Outside = outside
ending_of trouble.Memory = memory

-- the trouble has its cause, over a shelf with these names
abbrev pub HasCause : Option Names → List Text → Type 0 → Trouble → Type 0
HasCause names words failed t = IsCause names words failed (ending_of t)

-- the trouble tells the fault of the file of this name with these bytes, or want of memory
abbrev pub IsFaulty : List ℕ → Text → Text → Trouble → Type 0
IsFaulty bytes name main (trouble.File n f) = (string_bytes n ≡ name) × IsFileFault bytes main (file_fault_view f)
IsFaulty bytes name main (trouble.NoFile n) = ⊥
IsFaulty bytes name main trouble.Outside = ⊥
IsFaulty bytes name main trouble.Memory = ⊤

-- the trouble tells the fault of the claims' file of this name with these bytes, or want of memory
abbrev pub AreFaulty : KoreSignature → List ℕ → Text → Trouble → Type 0
AreFaulty g bytes name (trouble.File n f) = (string_bytes n ≡ name) × IsClaimsFault g bytes (file_fault_view f)
AreFaulty g bytes name (trouble.NoFile n) = ⊥
AreFaulty g bytes name trouble.Outside = ⊥
AreFaulty g bytes name trouble.Memory = ⊤

-- the trouble tells that there is no file of this name, or want of memory
abbrev pub IsFileAbsent : Text → Trouble → Type 0
IsFileAbsent name (trouble.File n f) = ⊥
IsFileAbsent name (trouble.NoFile n) = string_bytes n ≡ name
IsFileAbsent name trouble.Outside = ⊥
IsFileAbsent name trouble.Memory = ⊤

-- the trouble tells that something failed, or want of memory
abbrev pub IsLate : Type 0 → Trouble → Type 0
IsLate failed (trouble.File n f) = ⊥
IsLate failed (trouble.NoFile n) = ⊥
IsLate failed trouble.Outside = failed
IsLate failed trouble.Memory = ⊤

-- the program ended so, or for want of memory
abbrev pub EndsAs : Ending → Type 0 → Option (List ℕ) → Option (List ℕ) → ℕ → Type 0
EndsAs e failed before after status = ((status ≡ exit_status e) × Tells failed before after (line_of e)) ⊎ ((status ≡ 7) × Tells failed before after (line_of memory))
