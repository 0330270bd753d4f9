-- From what is told of a claims' file to the cause of an ending.
use Rattle.std.proofs.Common.{◌≡◌, ℕ, List, Option, Some, None, IfSome, refl, sym, ap, subst, inr, option_map}
use Rattle.kp_kore.specs.Signature.{KoreSignature}
use Rattle.kp_io.specs.Outside.{Names, HoldsMore, load_limit}
use Rattle.kp_claims.specs.Faults as claims
use Rattle.kp_claims.specs.declared.fault.ClaimFault.{ClaimFault}
use Rattle.kp_claims.specs.declared.fault.ClaimFault.TheVariants as told
use Rattle.kp_modules.specs.declared.table.ModuleTable.{ModuleTable}
use Rattle.kp_signature.specs.Faults as verify
use Rattle.kp_signature.specs.Verify.{VerifyFault}
use Rattle.kp_program.specs.ClaimFiles.{IsClaimsTrouble}
use Rattle.kp_program.specs.Inputs.{IsTableOf}
use Rattle.kp_program.specs.Faults.{IsClaimsFault, claim_code, too_long}
use Rattle.kp_program.specs.Loaded.{IsLoaded}
use Rattle.kp_program.specs.Statuses.{IsCause}
use Rattle.kp_program.specs.Troubles.{AreFaulty, claim_fault_of, ending_of}
use Rattle.kp_command.specs.Words.{ProveWords, SpellsProve}
use Rattle.kp_program.specs.declared.trouble.Trouble.{Trouble}
use Rattle.kp_program.specs.declared.trouble.Trouble.TheVariants as trouble
use Rattle.kp_program.proofs.Causes.{long_file}

-- ---- the claims' file

pub faulty_claims : (names : Option Names) (name file : List ℕ) (g : KoreSignature) (failed : Type 0) (t : Trouble) →
    IfSome names (λ held. held name ≡ Some file) → AreFaulty g file name t → IsClaimsTrouble names name g failed t
faulty_claims names name file g failed (trouble.File n f) there wrong = (wrong.0, file, there, wrong.1)
faulty_claims names name file g failed (trouble.NoFile n) there wrong = absurd wrong
faulty_claims names name file g failed trouble.Outside there wrong = absurd wrong
faulty_claims names name file g failed trouble.Memory there wrong = tt

pub too_long_claims : (names : Option Names) (name : List ℕ) (g : KoreSignature) (failed : Type 0) (t : Trouble) →
    IfSome names (λ held. HoldsMore load_limit (held name)) → ((h : KoreSignature) (file : List ℕ) → IsClaimsFault h file too_long → AreFaulty h file name t) → IsClaimsTrouble names name g failed t
too_long_claims names name g failed t more told =
    let l = long_file names name more in
    faulty_claims names name l.0 g failed t l.1 (told g l.0 l.2)

-- ---- causes

abbrev pub loaded_from : (names : Option Names) (name main file : List ℕ) (table : ModuleTable) → IfSome names (λ held. held name ≡ Some file) → IsTableOf file main table → IsLoaded names name main
loaded_from names name main file table there is = record {
  file = file;
  there = there;
  faultless = is.faultless;
  definition = is.definition;
  spells = is.spells;
  setting = is.setting;
  is_setting = is.is_setting;
}

pub claims_cause : (names : Option Names) (words : List (List ℕ)) (c : ProveWords) (l : IsLoaded names c.definition c.main) (a b : Type 0) (t : Trouble) → (a → b) →
    SpellsProve words c → IsClaimsTrouble names c.claims l.setting.theory.signature a t → IsCause names words b (ending_of t)
claims_cause names words c l a b (trouble.File n f) into spelled (named, file, there, wrong) = inr (record {
  claims = record { command = c; spells = spelled; named = sym named; loaded = l };
  file = file;
  there = subst (λ (x : List ℕ). IfSome names (λ held. held x ≡ Some file)) (sym named) there;
  fault = wrong;
})
claims_cause names words c l a b (trouble.NoFile n) into spelled (named, nowhere) = inr (
  record { command = c; spells = spelled; named = sym named; loaded = l },
  subst (λ (x : List ℕ). IfSome names (λ held. held x ≡ None)) (sym named) nowhere,
)
claims_cause names words c l a b trouble.Outside into spelled failed = into failed
claims_cause names words c l a b trouble.Memory into spelled told = tt

-- ---- codes

-- the code that is shown of a fault is that of the fault that it tells
pub code_shown : (f : ClaimFault) → claims.fault_code f ≡ claim_code (claim_fault_of (claims.told_fault f))
code_shown told.OnePath = refl
code_shown told.OtherShape = refl
code_shown told.NoLabel = refl
code_shown (told.RepeatedLabel l) = refl
code_shown (told.Unverified e) = unverified (verify.fault_view e)
  where
    unverified : (o : Option VerifyFault) → claims.fault_code (told.Unverified e) ≡ claim_code (claim_fault_of (option_map claims.unverified o))
    unverified None = refl
    unverified (Some f) = refl
code_shown (told.ForeignSymbol n) = refl
code_shown told.OtherSide = refl
code_shown (told.FreshName n) = refl
code_shown told.NoRule = refl
code_shown (told.UnknownLabel l) = refl
code_shown (told.Circle l) = refl

-- a fault that is told is the one that is seen
pub told_is : (f : ClaimFault) (P : claims.Fault → Type 0) → claims.Tells f P → P (claim_fault_of (claims.told_fault f))
told_is f P t = subst P (ap claim_fault_of (sym t.told)) t.holds
