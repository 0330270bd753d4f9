-- The fault that an error tells.
use Rattle.std.specs.Prelude.{◌≡◌, Option, Some, None, string_bytes}
use Rattle.kp_kore.specs.View.{sort_view}
use Rattle.kp_signature.specs.Verify.{VerifyFault, unknown_sort, unknown_symbol, wrong_number, sort_differs, number_too_wide, term_too_deep, no_literal}
use Rattle.kp_signature.specs.declared.error.VerifyError.{VerifyError}
use Rattle.kp_signature.specs.declared.error.VerifyError.TheVariants as error

-- want of memory tells none
abbrev pub fault_view : VerifyError → Option VerifyFault
fault_view error.Memory = None
fault_view (error.UnknownSort s) = Some (unknown_sort (sort_view s))
fault_view (error.UnknownSymbol n) = Some (unknown_symbol (string_bytes n))
fault_view (error.WrongNumber n) = Some (wrong_number (string_bytes n))
fault_view (error.SortDiffers e f) = Some (sort_differs (sort_view e) (sort_view f))
fault_view (error.NumberTooWide t) = Some (number_too_wide (string_bytes t))
fault_view error.TermTooDeep = Some term_too_deep
fault_view (error.NoLiteral t) = Some (no_literal (string_bytes t))

-- where the error tells a fault, it is this one
abbrev pub IfTold : VerifyError → VerifyFault → Option VerifyFault → Type 0
IfTold e f fault = fault_view e ≡ Some f → fault ≡ Some f
