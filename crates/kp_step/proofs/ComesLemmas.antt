-- What comes of a part by some rules comes of it by more, and what comes of that comes of the part.
use Rattle.std.proofs.Common.{refl, sym}
use Rattle.std.proofs.lemmas.List.{append-nil}
use Rattle.kp_kore.specs.Signature.{KoreSignature}
use Rattle.kp_kore.specs.Rules.{RuleBody, ForeignLeft, foreign_rule}
use Rattle.kp_rules.specs.Skeletons.{Form}
use Rattle.kp_case_laws.specs.Parts.{StatePart}
use Rattle.kp_case_laws.specs.Cases.{MetPart, IsMetBy, left_side}
use Rattle.kp_unify.specs.Way.{AreEquations}
use Rattle.kp_step.specs.Comes.{IsFormOf, AreClausesOf, ComesFrom, narrowed, fires, excluded, solved, itself}

pub comes_by_more : (g : KoreSignature) (P Q : RuleBody → Type 0) (p q : StatePart) → ((b : RuleBody) → P b → Q b) → ComesFrom g P p q → ComesFrom g Q p q
comes_by_more g P Q p q f (narrowed r _ body form h i k n) = narrowed r q body form (comes_by_more g P Q p r f h) (f body i) k n
comes_by_more g P Q p _ f (fires r body cs h i c) = fires r body cs (comes_by_more g P Q p r f h) (f body i) c
comes_by_more g P Q p _ f (excluded r body cs h i c) = excluded r body cs (comes_by_more g P Q p r f h) (f body i) c
comes_by_more g P Q p q f (solved r _ h s e) = solved r q (comes_by_more g P Q p r f h) s e
comes_by_more g P Q p _ f itself = itself

pub comes_further : (g : KoreSignature) (P : RuleBody → Type 0) (p q r : StatePart) → ComesFrom g P p q → ComesFrom g P q r → ComesFrom g P p r
comes_further g P p q r c (narrowed s _ body form h i k n) = narrowed s r body form (comes_further g P p q s c h) i k n
comes_further g P p q _ c (fires s body cs h i k) = fires s body cs (comes_further g P p q s c h) i k
comes_further g P p q _ c (excluded s body cs h i k) = excluded s body cs (comes_further g P p q s c h) i k
comes_further g P p q r c (solved s _ h o e) = solved s r (comes_further g P p q s c h) o e
comes_further g P p _ _ c itself = c

-- the clauses of what a foreign rule's left side meets
pub clauses_of_foreign : (g : KoreSignature) (l : ForeignLeft) (form : Form) (k : MetPart) → IsFormOf g (foreign_rule l) form → IsMetBy g (left_side g form) k → AreEquations g form k → AreClausesOf g (foreign_rule l) k.part k.equations
clauses_of_foreign g l form k is met es = record { form = form; is_form = is; met = k; of_part = refl; is_met = met; equalities = es; are = sym (append-nil k.equations) }
