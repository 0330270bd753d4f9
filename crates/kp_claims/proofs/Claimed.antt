-- From the parts of a claim to the claim, and to its fault.
use Rattle.std.proofs.Common.{◌≡◌, refl, sym, ap, ◌∙◌, Option, Some, None, String, Global, string_bytes}
use Rattle.std.specs.Option.{option_map}
use Rattle.kp_kore.specs.Syntax.{Text, KorePattern}
use Rattle.kp_kore.specs.View.{sort_view}
use Rattle.kp_kore.specs.Signature.{KoreSignature}
use Rattle.kp_signature.specs.Places.{earlier, the_top}
use Rattle.kp_signature.specs.Faults.{fault_view as verify_view}
use Rattle.kp_signature.specs.Verify.{VerifyFault, first_fault, unknown_sort, unknown_symbol, wrong_number, sort_differs, number_too_wide, term_too_deep, no_literal}
use Rattle.kp_signature.specs.declared.error.VerifyError.{VerifyError}
use Rattle.kp_signature.specs.declared.error.VerifyError.TheVariants as verify
use Rattle.kp_compile.specs.Spelled.{first_foreign}
use Rattle.kp_claims.specs.Faults.{Fault, unverified, foreign_symbol, Tells, TellsOf}
use Rattle.kp_claims.specs.declared.fault.ClaimError.{ClaimError}
use Rattle.kp_claims.specs.declared.fault.ClaimError.TheVariants as error
use Rattle.kp_claims.specs.declared.fault.ClaimFault.TheVariants as told
use Rattle.kp_claims.specs.Sides.{error_of_verify}

pub tells_map : (P Q : Fault → Type 0) → ((f : Fault) → P f → Q f) → (e : ClaimError) → TellsOf P e → TellsOf Q e
tells_map P Q into error.Memory t = tt
tells_map P Q into (error.Text f) t = absurd t
tells_map P Q into (error.Fault f) t = record { fault = t.fault; told = t.told; holds = into t.fault t.holds }

pub none_first : {A : Type 0} (a b : Option A) → a ≡ None → earlier a b ≡ b
none_first None b h = refl
none_first (Some x) b h = absurd (cc)

pub some_first : {A : Type 0} (a b : Option A) (x : A) → a ≡ Some x → earlier a b ≡ Some x
some_first None b x h = absurd (cc)
some_first (Some y) b x h = h

-- ---- errors of the crates below

pub told_verify : (g : KoreSignature) (p : KorePattern) (e : VerifyError) → ((f : VerifyFault) → verify_view e ≡ Some f → first_fault g the_top p ≡ Some f) → TellsOf (λ f. option_map unverified (first_fault g the_top p) ≡ Some f) (error_of_verify e)
told_verify g p verify.Memory h = tt
told_verify g p (verify.UnknownSort s) h = record { fault = unverified (unknown_sort (sort_view s)); told = refl; holds = ap (option_map unverified) (h (unknown_sort (sort_view s)) refl) }
told_verify g p (verify.UnknownSymbol n) h = record { fault = unverified (unknown_symbol (string_bytes n)); told = refl; holds = ap (option_map unverified) (h (unknown_symbol (string_bytes n)) refl) }
told_verify g p (verify.WrongNumber n) h = record { fault = unverified (wrong_number (string_bytes n)); told = refl; holds = ap (option_map unverified) (h (wrong_number (string_bytes n)) refl) }
told_verify g p (verify.SortDiffers s t) h = record { fault = unverified (sort_differs (sort_view s) (sort_view t)); told = refl; holds = ap (option_map unverified) (h (sort_differs (sort_view s) (sort_view t)) refl) }
told_verify g p (verify.NumberTooWide t) h = record { fault = unverified (number_too_wide (string_bytes t)); told = refl; holds = ap (option_map unverified) (h (number_too_wide (string_bytes t)) refl) }
told_verify g p verify.TermTooDeep h = record { fault = unverified term_too_deep; told = refl; holds = ap (option_map unverified) (h term_too_deep refl) }
told_verify g p (verify.NoLiteral t) h = record { fault = unverified (no_literal (string_bytes t)); told = refl; holds = ap (option_map unverified) (h (no_literal (string_bytes t)) refl) }

pub told_foreign : (g : KoreSignature) (p : KorePattern) (o : Option (String Global)) (n : String Global) → o ≡ Some n → option_map string_bytes o ≡ first_foreign g p → Tells (told.ForeignSymbol n) (λ f. option_map foreign_symbol (first_foreign g p) ≡ Some f)
told_foreign g p o n is h = record { fault = foreign_symbol (string_bytes n); told = refl; holds = ap (option_map foreign_symbol) (sym (ap (option_map string_bytes) (sym is) ∙ h)) }
