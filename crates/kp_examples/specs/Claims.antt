-- Claims over the example definition.
use Rattle.std.specs.Prelude.{false, List, [], ◌∷◌, codes}
use Rattle.kp_kore.specs.Syntax.{Text, KorePattern, application, implication, Statement}
use Rattle.kp_toys.specs.Toys.{sorts, patterns, sort_s, call, mark, marked, integer}
use Rattle.kp_claim_sentences.specs.Claims.{StatedClaim}

abbrev pub count_of : KorePattern → KorePattern
count_of p = call (codes "Lblcount") (p ∷ [])

abbrev pub done : KorePattern
done = call (codes "Lbldone") []

-- \implies{SortS{}}(left, word{SortS{}}(right))
abbrev pub claimed : KorePattern → Text → KorePattern → KorePattern
claimed left word right = implication sort_s left (application word (sorts (sort_s ∷ [])) (patterns (right ∷ [])))

abbrev pub statement : KorePattern → List KorePattern → Statement
statement p attributes = record { parameters = []; pattern = p; attributes = patterns attributes }

abbrev pub label_two : KorePattern
label_two = marked (codes "label") (codes "T.two")

abbrev pub from_two : KorePattern
from_two = claimed (count_of (integer (codes "2"))) (codes "weakAlwaysFinally") done

-- from count(2) to done, labelled T.two
abbrev pub two : Statement
two = statement from_two (label_two ∷ [])

abbrev pub two_read : StatedClaim
two_read = record {
  label = codes "T.two";
  pattern = from_two;
  claim = record { sort = sort_s; claim = record { left = count_of (integer (codes "2")); right = done } };
  circular = false;
  depends = [];
}

-- the same over one path, as a circularity, without its label
abbrev pub on_one_path : Statement
on_one_path = statement (claimed (count_of (integer (codes "2"))) (codes "weakExistsFinally") done) []

abbrev pub circular : Statement
circular = statement from_two (label_two ∷ mark (codes "circularity") ∷ [])

abbrev pub unlabelled : Statement
unlabelled = statement from_two []

-- from count(other(2)), whose symbol other has no meaning; to 2, which is no state
abbrev pub foreign : Statement
foreign = statement (claimed (count_of (call (codes "Lblother") (integer (codes "2") ∷ []))) (codes "weakAlwaysFinally") done) (label_two ∷ [])

abbrev pub of_two_sorts : Statement
of_two_sorts = statement (claimed done (codes "weakAlwaysFinally") (integer (codes "2"))) (label_two ∷ [])
