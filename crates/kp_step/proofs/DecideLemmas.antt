-- What a verdict says of a part: that it has an instance, none, or what is shown of it.
use Rattle.std.proofs.Common.{◌≡◌, refl, ◌∙◌, List, [], Option, Some, None, inl, inr}
use Rattle.kp_kore.specs.Signature.{KoreSignature}
use Rattle.kp_symbolic.specs.Terms.{term_instance}
use Rattle.kp_symbolic.specs.States.{Literal, SymbolicState, CanBeTrue}
use Rattle.kp_symbolic.specs.Plain.{rough_clauses}
use Rattle.kp_symbolic.specs.Verdicts.{Weighed, undecided, IsRightVerdict}
use Rattle.kp_symbolic.proofs.Exact.{plain_can}
use Rattle.kp_case_laws.specs.Parts.{whole}
use Rattle.kp_case_laws.specs.Firing.{HasNoInstance}
use Rattle.kp_step.specs.ReadyParts.{HasInstance}
use Rattle.kp_step.specs.Causes.{IsShownOf}
use Rattle.kp_step.specs.Answers.{IsShownBeside}

pub some_instance : (g : KoreSignature) (s : SymbolicState) → CanBeTrue g s.variables s.clauses → HasInstance g (whole s)
some_instance g s k = record { valuation = k.valuation; configuration = term_instance g k.valuation s.term; sorts = k.sorts; met = record { term = refl; clauses = k.are_true } }

pub no_instance : (g : KoreSignature) (s : SymbolicState) → (¬ CanBeTrue g s.variables s.clauses) → HasNoInstance g (whole s)
no_instance g s none w c h i = none (record { valuation = w; sorts = h; are_true = i.clauses })

-- where no weight is passed, what isn't plain is shown
pub shown_without : (g : KoreSignature) (s p : SymbolicState) (shown : List (List Literal)) → IsRightVerdict g p (undecided shown None) → IsShownBeside g s p shown None
shown_without g s p shown r = inl r

-- where one is, the state's own clauses that aren't plain are; else all, with the weight
pub shown_of_state : (g : KoreSignature) (s p : SymbolicState) (all shown : List (List Literal)) (h : Weighed) → IsRightVerdict g p (undecided all (Some h)) → (¬ (shown ≡ [])) → shown ≡ rough_clauses g s → IsShownBeside g s p shown None
shown_of_state g s p all shown h r some e = inr (h, all, r, (λ k. some (e ∙ k)), e)

pub shown_with_weight : (g : KoreSignature) (s p : SymbolicState) (shown : List (List Literal)) (h : Weighed) → IsRightVerdict g p (undecided shown (Some h)) → rough_clauses g s ≡ [] → IsShownBeside g s p shown (Some h)
shown_with_weight g s p shown h r e = (r, e)

-- where the state has an instance, its plain clauses can be true
pub shown_of_instance : (g : KoreSignature) (s p : SymbolicState) (shown : List (List Literal)) (h : Option Weighed) → HasInstance g (whole s) → IsShownBeside g s p shown h → IsShownOf g s p shown h
shown_of_instance g s p shown None i (inl r) = inl r
shown_of_instance g s p shown None i (inr x) = inr (record {
  weight = x.0;
  all = x.1;
  heavy = x.2;
  plain = plain_can g s (record { valuation = i.valuation; sorts = i.sorts; are_true = i.met.clauses });
  some = x.3;
  are = x.4;
})
shown_of_instance g s p shown (Some h) i r = (r.0, inl r.1)

-- of the state itself what isn't decided is shown
pub shown_itself : (g : KoreSignature) (s : SymbolicState) (shown : List (List Literal)) (h : Option Weighed) → IsRightVerdict g s (undecided shown h) → IsShownOf g s s shown h
shown_itself g s shown None r = inl r
shown_itself g s shown (Some h) r = (r, inr (record { over = r.over; shown_are = refl; plain_first = r.plain_first }))
