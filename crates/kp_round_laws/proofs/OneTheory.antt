-- Axioms mean one theory; what main means where no module is named.
use Rattle.std.proofs.Common.{◌≡◌, refl, sym, ap, subst, ◌∙◌, List, [], ◌∷◌, ◌++◌, Some, None}
use Rattle.kp_kore.specs.Signature.{KoreSignature}
use Rattle.kp_kore.specs.Rules.{RewriteRule}
use Rattle.kp_kore.specs.Theory.{Theory, NumberedAxiom, IsTheoryOfAxioms, labels_of}
use Rattle.kp_kore.specs.ClaimRules.{with_rules}
use Rattle.kp_kore.proofs.ClaimTheories.{rules_same}
use Rattle.kp_book.specs.Books.{Opening, Registration, first_of, rules_bound, meaning_in}
use Rattle.kp_links.specs.RightExchanges.{IsAskedAt}
use Rattle.kp_rounds.specs.Sound.{IsMainTheory}

pub from_some : {A : Type 0} (x y : A) → Some x ≡ Some y → x ≡ y
from_some x y e = cc e

theory_same : (g : KoreSignature) (axioms : List NumberedAxiom) (t u : Theory) → IsTheoryOfAxioms g axioms t → IsTheoryOfAxioms g axioms u → t ≡ u
theory_same g axioms t u h k =
    let signatures : t.signature ≡ u.signature = h.signature ∙ sym k.signature in
    let rules : t.rules ≡ u.rules = rules_same g (labels_of axioms) axioms t.rules u.rules h.rules k.rules in
    λ i. record { signature = signatures i; rules = rules i }

no_more_rules : (rs : List RewriteRule) → rs ≡ rs ++ []
no_more_rules [] = refl
no_more_rules (r ∷ rs) = ap (λ xs. r ∷ xs) (no_more_rules rs)

-- where no module is named, it is main's theory, whatever was added
pub main_asked : (o : Opening) (t m : Theory) (book : List Registration) → IsMainTheory o t → IsAskedAt o book None m → m ≡ with_rules t []
main_asked o t m book main asked =
    let found : meaning_in o book o.main ≡ Some main.axioms = ap (λ x. first_of x (rules_bound book o.main)) main.bound in
    let axioms : asked.axioms ≡ main.axioms = from_some asked.axioms main.axioms (sym asked.bound ∙ found) in
    let same : m ≡ t = theory_same o.signature main.axioms m t (subst (λ xs. IsTheoryOfAxioms o.signature xs m) axioms asked.means) main.means in
    let rules : t.rules ≡ t.rules ++ [] = no_more_rules t.rules in
    same ∙ (λ i. record { signature = t.signature; rules = rules i })
