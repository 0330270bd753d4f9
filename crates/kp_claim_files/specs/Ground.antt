-- The claims that prove goes by: between ground terms, no circularities, and without dependencies.
-- Source: this project; ground terms as matching logic has them.
use Rattle.std.specs.Prelude.{◌≡◌, ◌⊎◌, ℕ, Bool, true, false, not, ◌&&◌, List, [], ◌∷◌, None, ⊤}
use Rattle.std.specs.List.{AllZip}
use Rattle.kp_kore.specs.Syntax.{KoreSort, KorePattern, KoreSentence, KoreModule}
use Rattle.kp_kore.specs.Parts.{is_term, free_variables}
use Rattle.kp_kore.specs.Signature.{KoreSignature}
use Rattle.kp_kore.specs.Instance.{Valuation}
use Rattle.kp_kore.specs.Numbers.{computes_wide}
use Rattle.kp_kore.specs.Steps.{AnyByRecursion}
use Rattle.kp_text.specs.Spelling.{IsFaultOf}
use Rattle.kp_signature.specs.Places.{the_top}
use Rattle.kp_signature.specs.Verify.{first_fault, VerifiesAs}
use Rattle.kp_compile.specs.Spelled.{first_foreign}
use Rattle.kp_claims.specs.Claims.{counted, ClaimSides}
use Rattle.kp_claims.specs.Faults.{Fault, other_shape, bare_claim, Tells}
use Rattle.kp_claims.specs.Files.{IsFileText, SpellsFile}
use Rattle.kp_claims.specs.declared.fault.ClaimError.{ClaimError}
use Rattle.kp_claims.specs.declared.fault.ClaimError.TheVariants as error
use Rattle.kp_claims.specs.declared.fault.ClaimFault.TheVariants as told
use Rattle.kp_compile.specs.declared.state_error.StateError.{StateError}
use Rattle.kp_compile.specs.declared.state_error.StateError.TheVariants as state
use Rattle.kp_claim_sentences.specs.Claims.{StatedClaim, IsStatedBy}
use Rattle.kp_claim_sentences.specs.Faults.{IsFaultlessFile, IsFaultOfFile}

abbrev pub has_none : {X : Type 0} → List X → Bool
has_none [] = true
has_none (x ∷ xs) = false

-- one term without variables
abbrev pub is_ground : KorePattern → Bool
is_ground p = is_term p && has_none (free_variables p)

-- a call in the term computes a number beyond 128 bits
abbrev pub IsWide : KoreSignature → KorePattern → Type 0
IsWide g p = (v : Valuation) → computes_wide g v p ≡ true

-- each side is one, and computes none
pub record AreGroundSides (g : KoreSignature) (c : ClaimSides) : Type 0 where
  pub left : is_ground c.left ≡ true
  pub right : is_ground c.right ≡ true
  pub narrow_left : ¬ IsWide g c.left
  pub narrow_right : ¬ IsWide g c.right

abbrev pub sides_stated : StatedClaim → ClaimSides
sides_stated c = record { sort = c.claim.sort; left = c.claim.claim.left; right = c.claim.claim.right }

-- no circularity, and without dependencies
abbrev pub is_alone : StatedClaim → Bool
is_alone c = not c.circular && has_none c.depends

-- a claim that prove goes by
pub record IsPlainClaim (g : KoreSignature) (c : StatedClaim) : Type 0 where
  pub alone : is_alone c ≡ true
  pub sides : AreGroundSides g (sides_stated c)

-- C2 of a file without a fault, where prove doesn't go by some claim of it
pub record IsBeyond (g : KoreSignature) (ss : List KoreSentence) (f : Fault) : Type 0 where
  pub faultless : IsFaultlessFile g ss
  pub claims : List StatedClaim
  pub are : AllZip IsStatedBy ss claims
  pub some : AnyByRecursion (λ c. ¬ IsPlainClaim g c) claims
  pub told : f ≡ other_shape

-- why prove doesn't go by the file's sentences
abbrev pub IsFaultForProve : KoreSignature → List KoreSentence → Fault → Type 0
IsFaultForProve g ss f = IsFaultOfFile g ss f ⊎ IsBeyond g ss f

-- want of memory says nothing; a text fault is that of the bytes, any other that of the sentences that they spell
abbrev pub IsErrorForProve : KoreSignature → List ℕ → ClaimError → Type 0
IsErrorForProve g bytes error.Memory = ⊤
IsErrorForProve g bytes (error.Text f) = IsFaultOf IsFileText bytes f
IsErrorForProve g bytes (error.Fault e) = (ms : List KoreModule) × SpellsFile bytes ms × Tells e (IsFaultForProve g (counted ms))

-- ---- for private clauses

-- the sides verify, and no foreign symbol stands in them
pub record AreMeant (g : KoreSignature) (c : ClaimSides) : Type 0 where
  pub verified : first_fault g the_top (bare_claim c) ≡ None
  pub known : first_foreign g (bare_claim c) ≡ None

abbrev pub IsMeant : KoreSignature → StatedClaim → Type 0
IsMeant g c = AreMeant g (sides_stated c)

-- a ground term of this sort that verifies and in which no foreign symbol stands
pub record IsGroundAt (g : KoreSignature) (s : KoreSort) (p : KorePattern) : Type 0 where
  pub ground : is_ground p ≡ true
  pub verified : VerifiesAs g p s
  pub known : first_foreign g p ≡ None

-- C2 of a number, of sides, of a claim, and of one of some claims
abbrev pub IsNumberFaultOf : KoreSignature → KorePattern → Fault → Type 0
IsNumberFaultOf g p f = IsWide g p × (f ≡ other_shape)

abbrev pub AreBeyond : KoreSignature → ClaimSides → Fault → Type 0
AreBeyond g c f = (¬ AreGroundSides g c) × (f ≡ other_shape)

abbrev pub IsBeyondOne : KoreSignature → StatedClaim → Fault → Type 0
IsBeyondOne g c f = (¬ IsPlainClaim g c) × (f ≡ other_shape)

abbrev pub IsBeyondAmong : KoreSignature → List StatedClaim → Fault → Type 0
IsBeyondAmong g cs f = AnyByRecursion (λ c. ¬ IsPlainClaim g c) cs × (f ≡ other_shape)

-- what is told where a term is no state
abbrev pub error_of_state : StateError → ClaimError
error_of_state state.Memory = error.Memory
error_of_state state.OtherShape = error.Fault told.OtherShape
error_of_state (state.ForeignSymbol n) = error.Fault told.OtherShape
