-- What is wrong with the file of a definition, and with that of claims.
-- Source: Kore text, the imports of its modules, and claims of the K framework; the most bytes of a file are this
-- project's.
use Rattle.std.specs.Prelude.{◌<◌, ◌≤◌, ℕ, List, length, codes}
use Rattle.kp_kore.specs.Syntax.{Text, KoreModule, KoreDefinition}
use Rattle.kp_kore.specs.Signature.{KoreSignature}
use Rattle.kp_io.specs.Outside.{load_limit}
use Rattle.kp_text.specs.Spelling.{IsDefinitionText, IsFaultOf, SpellsDefinition}
use Rattle.kp_text.specs.declared.fault.TextFault.{TextFault}
use Rattle.kp_imports.specs.Faults.{Fault, IsFirstFault}
use Rattle.kp_claims.specs.Claims.{counted}
use Rattle.kp_claims.specs.Faults as claims
use Rattle.kp_claims.specs.Files.{IsFileText, SpellsFile}
use Rattle.kp_claim_files.specs.Ground.{IsFaultForProve}

-- it is longer than a file may be; its text has a fault; the modules that the text spells have one; the claims have one
pub data FileFault : Type 0 where
  too_long : FileFault
  in_text : TextFault → FileFault
  in_modules : Fault → FileFault
  in_claims : claims.Fault → FileFault

-- the first fault of a definition's file for the main module
abbrev pub IsFileFault : List ℕ → Text → FileFault → Type 0
IsFileFault file main too_long = load_limit < length file
IsFileFault file main (in_text f) = (length file ≤ load_limit) × IsFaultOf IsDefinitionText file f
IsFileFault file main (in_modules f) = (length file ≤ load_limit) × (d : KoreDefinition) × SpellsDefinition file d × IsFirstFault d main f
IsFileFault file main (in_claims f) = ⊥

-- it has none
abbrev pub IsFaultless : List ℕ → Text → Type 0
IsFaultless file main = (f : FileFault) → ¬ IsFileFault file main f

-- the first fault of a claims' file over a signature, or that prove doesn't go by one of its claims
abbrev pub IsClaimsFault : KoreSignature → List ℕ → FileFault → Type 0
IsClaimsFault g file too_long = load_limit < length file
IsClaimsFault g file (in_text f) = (length file ≤ load_limit) × IsFaultOf IsFileText file f
IsClaimsFault g file (in_modules f) = ⊥
IsClaimsFault g file (in_claims f) = (length file ≤ load_limit) × (ms : List KoreModule) × SpellsFile file ms × IsFaultForProve g (counted ms) f

-- it has none
abbrev pub AreFaultlessClaims : KoreSignature → List ℕ → Type 0
AreFaultlessClaims g file = (f : FileFault) → ¬ IsClaimsFault g file f

-- the code of a claim's fault
abbrev pub claim_code : claims.Fault → Text
claim_code claims.one_path = codes "C1"
claim_code claims.other_shape = codes "C2"
claim_code claims.no_label = codes "C6"
claim_code (claims.repeated_label l) = codes "C7"
claim_code (claims.unverified f) = codes "C9"
claim_code (claims.foreign_symbol n) = codes "C9"
claim_code claims.other_side = codes "C9"
claim_code (claims.fresh_name n) = codes "C3"
claim_code claims.no_rule = codes "C8"
claim_code (claims.unknown_label l) = codes "C4"
claim_code (claims.circle l) = codes "C5"
