-- How a predicate with connectives is opened over those without.
use Rattle.std.specs.Prelude.{Bool, List}
use Rattle.kp_kore.specs.Syntax.{KorePattern}
use Rattle.kp_kore.specs.Signature.{KoreSignature}
use Rattle.kp_symbolic.specs.Formulas.{Formula}
use Rattle.kp_symbolic.specs.Opening.{opened, opened_leaf}
use Rattle.kp_symbolic.specs.States.{Literal}
use Rattle.kp_symbolic.specs.Terms.{Replaced}

-- a predicate, as a clause's only literal or one of several
abbrev pub opened_by : KoreSignature → List Replaced → Bool → Bool → KorePattern → Formula Literal
opened_by g rs = opened (opened_leaf g rs)
