-- What was found and is to come, with terms in the place of variables.
-- Source: this project.
use Rattle.std.specs.Prelude.{List, [], ◌∷◌, ◌++◌}
use Rattle.kp_kore.specs.Syntax.{KoreSort}
use Rattle.kp_kore.specs.Signature.{KoreSignature}
use Rattle.kp_symbolic.specs.Terms.{SymbolicTerm, Replaced}
use Rattle.kp_symbolic.specs.Folding.{replaced}
use Rattle.kp_rules.specs.Skeletons.{Form}
use Rattle.kp_case_laws.specs.Courses.{FormPair, Equality}

abbrev pub equality_of : KoreSort → SymbolicTerm → SymbolicTerm → Equality
equality_of s t u = record { sort = s; left = t; right = u }

abbrev pub pair_of : Form → SymbolicTerm → FormPair
pair_of f t = record { form = f; term = t }

abbrev pub binding_put : KoreSignature → List Replaced → Replaced → Replaced
binding_put g by b = record { name = b.name; term = replaced g by b.term }

abbrev pub equality_put : KoreSignature → List Replaced → Equality → Equality
equality_put g by e = record { sort = e.sort; left = replaced g by e.left; right = replaced g by e.right }

abbrev pub pair_put : KoreSignature → List Replaced → FormPair → FormPair
pair_put g by q = record { form = q.form; term = replaced g by q.term }

-- each form with its term, the first as the last; what one list has more is left out
abbrev pub pairs_of : List Form → List SymbolicTerm → List FormPair
pairs_of (f ∷ fs) (t ∷ ts) = pairs_of fs ts ++ record { form = f; term = t } ∷ []
pairs_of fs ts = []
