-- Clauses with terms in the place of variables that are the terms' instances say what they said.
use Rattle.std.specs.Prelude.{◌↔◌, Bool, true, false, List, [], ◌∷◌, if◌then◌else◌}
use Rattle.std.specs.List.{AllByRecursion, flat_map}
use Rattle.std.proofs.Common.{subst}
use Rattle.kp_kore.specs.Parts.{SortedName}
use Rattle.kp_kore.specs.Signature.{KoreSignature}
use Rattle.kp_kore.specs.Instance.{Valuation, GivesSorts}
use Rattle.kp_symbolic.specs.Terms.{Replaced}
use Rattle.kp_symbolic.specs.States.{Literal, atom_variables, IsClauseTrue, AreTrue}
use Rattle.kp_symbolic.specs.Clauses.{distributed, is_too_large}
use Rattle.kp_symbolic.proofs.Distribution.{all_both, all_first, all_second}
use Rattle.kp_symbolic_laws.specs.Runs.{HasOneSortEach}
use Rattle.kp_clause_substitution.specs.Replacing.{clause_under}
use Rattle.kp_goals.specs.Exact.{ArePut, IsRightClause}
use Rattle.kp_goals.specs.Goals.{put_in_clause}
use Rattle.kp_goals.proofs.Opened.{AreOpenable, clause_opened}
use Rattle.kp_goals.proofs.PutTerms.{IsPutBy, put_placed, put_given, put_same}

openable : (g : KoreSignature) (hand : List SortedName) → HasOneSortEach hand → (qs : List Replaced) → AllByRecursion (IsPutBy g hand) qs → (x : Valuation) → GivesSorts g x hand → (c : List Literal) → IsRightClause g hand c → AreOpenable g x qs c
openable g hand one qs h x sorts [] k = tt
openable g hand one qs h x sorts (l ∷ c) k = (
  record { sorted = k.0.0.0; placed = put_placed g hand one qs h (atom_variables l.atom) k.0.0.1; given = put_given g hand one qs h x sorts (atom_variables l.atom) k.0.0.1 },
  openable g hand one qs h x sorts c k.1,
)

put_in_says : (g : KoreSignature) (hand : List SortedName) → HasOneSortEach hand → (qs : List Replaced) → AllByRecursion (IsPutBy g hand) qs → (x : Valuation) → GivesSorts g x hand → ArePut g x qs → (c : List Literal) → IsRightClause g hand c →
    AreTrue g x (put_in_clause g qs c) ↔ IsClauseTrue g x c
put_in_says g hand one qs h x sorts put c k = by (is_too_large 0 (clause_under g qs c))
  where
    by : (b : Bool) → AreTrue g x (if b then c ∷ [] else distributed (clause_under g qs c)) ↔ IsClauseTrue g x c
    by true = (λ t. t.0, λ t. (t, tt))
    by false = subst (λ v. AreTrue g x (distributed (clause_under g qs c)) ↔ IsClauseTrue g v c) (put_same g x qs put) (clause_opened g x qs c (openable g hand one qs h x sorts c k))

pub all_put_in_say : (g : KoreSignature) (hand : List SortedName) → HasOneSortEach hand → (qs : List Replaced) → AllByRecursion (IsPutBy g hand) qs → (x : Valuation) → GivesSorts g x hand → ArePut g x qs → (cs : List (List Literal)) → AllByRecursion (IsRightClause g hand) cs →
    AreTrue g x (flat_map (put_in_clause g qs) cs) ↔ AreTrue g x cs
all_put_in_say g hand one qs h x sorts put [] k = (λ t. tt, λ t. tt)
all_put_in_say g hand one qs h x sorts put (c ∷ cs) k =
    let i = put_in_says g hand one qs h x sorts put c k.0 in
    let j = all_put_in_say g hand one qs h x sorts put cs k.1 in
    let P = IsClauseTrue g x in (
      λ t. (i.0 (all_first P (put_in_clause g qs c) (flat_map (put_in_clause g qs) cs) t), j.0 (all_second P (put_in_clause g qs c) (flat_map (put_in_clause g qs) cs) t)),
      λ t. all_both P (put_in_clause g qs c) (flat_map (put_in_clause g qs) cs) (i.1 t.0) (j.1 t.1),
    )
