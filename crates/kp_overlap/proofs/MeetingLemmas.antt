-- What labels, holders, ranks and sorts tell of a solution.
use Rattle.std.proofs.Common.{◌≡◌, ◌↔◌, refl, sym, subst, ℕ, List, Bool, true, false, Option, Result, IfOk, IsTrue}
use Rattle.std.specs.declared.result.Result.TheVariants.{Ok, Err}
use Rattle.kp_kore.specs.Syntax.{KoreSort}
use Rattle.kp_kore.specs.Signature.{KoreSignature}
use Rattle.kp_symbolic.specs.Terms.{SymbolicTerm}
use Rattle.kp_rules.specs.Skeletons.{Form}
use Rattle.kp_overlap.specs.Graphs.{Graph, HasSolution}
use Rattle.kp_overlap.specs.Labels.{IsGraph, AreLabels, AreSettled, AreHolders, DoSortsFit}
use Rattle.kp_overlap.specs.Overlaps.{Overlap, MeetsForm, term_form}
use Rattle.kp_overlap.specs.Ranked.{TellsRanks}
use Rattle.kp_overlap.specs.Solved.{is_ranked}
use Rattle.kp_overlap.specs.declared.ranks.Ranks.{Ranks}
use Rattle.kp_overlap.specs.declared.ranks.Ranks.TheVariants.{Circle, Ranked}
use Rattle.kp_overlap.proofs.SolutionLemmas.{solution}
use Rattle.kp_overlap.proofs.TermLemmas.{overlap_meets}

pub told_true : {P : Type 0} → P → IsTrue true ↔ P
told_true p = ((λ t. p), (λ q. refl))

pub told_false : {P : Type 0} → ¬ P → IsTrue false ↔ P
told_false none = ((λ t. absurd (cc)), (λ p. absurd (none p)))

-- ranks make a solution, a circle has none
pub ranks_tell : (g : KoreSignature) (x : Graph) (i j : ℕ) (ls : List ℕ) (hs : List (Option ℕ)) (r : Ranks) (b : Bool) → b ≡ is_ranked r → IsGraph g x → AreLabels g x i j ls → AreSettled ls i j → AreHolders x ls hs → DoSortsFit g x ls hs → TellsRanks g x i j ls hs r → IsTrue b ↔ HasSolution g x i j
ranks_tell g x i j ls hs Circle b e graph labels settled holders fit none = subst (λ c. IsTrue c ↔ HasSolution g x i j) (sym e) (told_false none)
ranks_tell g x i j ls hs (Ranked rs) b e graph labels settled holders fit ranked = subst (λ c. IsTrue c ↔ HasSolution g x i j) (sym e) (told_true (solution g x i j ls hs rs.items graph labels.long settled holders ranked fit))

-- a term's form overlaps where the term meets
pub meets_by : {E : Type 0} (g : KoreSignature) (s : KoreSort) (t : SymbolicTerm) (k left : Form) (r : Result Bool E) → k ≡ term_form g t → IfOk r (λ b. IsTrue b ↔ Overlap g s k left) → IfOk r (λ b. IsTrue b ↔ MeetsForm g s t left)
meets_by g s t k left (Ok b) e told =
    let same = overlap_meets g s t left in
    let over : IsTrue b ↔ Overlap g s (term_form g t) left = subst (λ f. IsTrue b ↔ Overlap g s f left) e told in
    ((λ y. same.0 (over.0 y)), (λ m. over.1 (same.1 m)))
meets_by g s t k left (Err z) e told = told
