-- The left term of a rule that is read, as a form.
-- Source: matching logic's terms; K's inj, which is an identity.
use Rattle.kp_kore.specs.Syntax.{Text, KorePattern, KorePatterns, variable, literal, application, no_patterns, next_pattern}
use Rattle.kp_kore.specs.Signature.{KoreSignature, SymbolMeaning, injection, construction, interpretation, foreign, meaning_of}
use Rattle.kp_kore.specs.Instance.{literal_value}
use Rattle.kp_rules.specs.Skeletons.{Form, nothing, one_of, fixed, built, Forms, no_forms, next_form}

abbrev pub only_form : Forms → Form
only_form (next_form k no_forms) = k
only_form _ = nothing

abbrev pub applied_form : SymbolMeaning → Text → Forms → Form
applied_form injection f ks = only_form ks
applied_form construction f ks = built f ks
applied_form (interpretation h) f ks = nothing
applied_form foreign f ks = nothing

-- each variable stands for one value of its sort, wherever it stands; inj is seen through
abbrev mutual
  pub left_form : KoreSignature → KorePattern → Form
  left_form g (variable x s) = one_of x s
  left_form g (literal s text) = fixed (literal_value g s text)
  left_form g (application f ss ps) = applied_form (meaning_of g f) f (left_forms g ps)
  left_form g _ = nothing

  pub left_forms : KoreSignature → KorePatterns → Forms
  left_forms g no_patterns = no_forms
  left_forms g (next_pattern p ps) = next_form (left_form g p) (left_forms g ps)
