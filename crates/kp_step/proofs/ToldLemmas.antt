-- The next states that are told, one by one, are the cases of the step.
use Rattle.std.proofs.Common.{◌≡◌, refl, sym, subst, ℕ, List, [], ◌∷◌, ◌++◌, Option, Some, None, inl, inr}
use Rattle.std.specs.List.{AllByRecursion, AllZip, Contains}
use Rattle.std.proofs.lemmas.List.{append_assoc}
use Rattle.kp_kore.specs.Syntax.{Text}
use Rattle.kp_kore.specs.Rules.{RuleBody, RewriteRule}
use Rattle.kp_kore.specs.Theory.{Theory}
use Rattle.kp_kore.proofs.TurnLemmas.{of_member}
use Rattle.kp_kore.proofs.ListLemmas.{all_append}
use Rattle.kp_case_laws.specs.Parts.{StatePart, whole, IsSortedPart, IsGrown}
use Rattle.kp_symbolic.specs.States.{SymbolicState}
use Rattle.kp_case_laws.specs.NextStates.{StepCase}
use Rattle.kp_unify.specs.Narrowed.{NumberedPart}
use Rattle.kp_step.specs.Comes.{ComesFrom}
use Rattle.kp_step.proofs.ComesLemmas.{comes_by_more}
use Rattle.kp_step.specs.Places.{IsAt}
use Rattle.kp_step.specs.Ready.{IsReadyState}
use Rattle.kp_step.specs.Remainders.{IsPartIn, IsOneOf, IsOfTheory, IsOfThese}
use Rattle.kp_step.specs.Found.{PlacedTurn, IsTurnAmong}
use Rattle.kp_step.specs.Follows.{IsMovedBy, PlacedNext, IsNextAt, AreNextsOf}
use Rattle.kp_step.specs.Meets.{MeetsRule, AllMeet}
use Rattle.kp_step.specs.Limits.{IsRuleMet, IsCaseMade}
use Rattle.kp_step.proofs.FoundLemmas.{at_contains}
use Rattle.kp_step.proofs.MeetLemmas.{one_of_these_meets}
use Rattle.kp_step.proofs.StepLemmas.{all_cases, rest_cases, cases_by}

-- the case of a next state: of the rule of its place
abbrev pub IsCaseAt : Theory → PlacedNext → StepCase → Type 0
IsCaseAt t n k = (r : RewriteRule) × IsAt t n.place r × (k ≡ record { rule = Some r; part = n.part; next = n.state })

zip_both : {X Y : Type 0} (R : X → Y → Type 0) (xs us : List X) (ys vs : List Y) → AllZip R xs ys → AllZip R us vs → AllZip R (xs ++ us) (ys ++ vs)
zip_both R [] us [] vs a b = b
zip_both R [] us (y ∷ ys) vs a b = absurd a
zip_both R (x ∷ xs) us [] vs a b = absurd a
zip_both R (x ∷ xs) us (y ∷ ys) vs a b = (a.0, zip_both R xs us ys vs a.1 b)

told_by : (t : Theory) (used : List Text) (s : StatePart) (k : PlacedTurn) (r : RewriteRule) (ps : List NumberedPart) (ns : List PlacedNext) → IsAt t k.place r → AllZip (IsNextAt t used s k) ps ns → AllZip (IsCaseAt t) ns (cases_by r ns)
told_by t used s k r [] [] at z = tt
told_by t used s k r [] (n ∷ ns) at z = absurd z
told_by t used s k r (p ∷ ps) [] at z = absurd z
told_by t used s k r (p ∷ ps) (n ∷ ns) at z = ((r, subst (λ i. IsAt t i r) (sym z.0.place) at, refl), told_by t used s k r ps ns at z.1)

pub all_told : (t : Theory) (used : List Text) (s : StatePart) (all turns : List PlacedTurn) (ns : List PlacedNext) (h : AllByRecursion (IsTurnAmong t used s all) turns) (z : AreNextsOf t used s turns ns) → AllZip (IsCaseAt t) ns (all_cases t used s all turns ns h z)
all_told t used s all [] ns h z = subst (λ xs. AllZip (IsCaseAt t) xs []) (sym z) tt
all_told t used s all (k ∷ turns) ns h z = subst (λ xs. AllZip (IsCaseAt t) xs (cases_by h.0.turn.rule z.0 ++ all_cases t used s all turns z.1 h.1 z.4)) (sym z.2)
    (zip_both (IsCaseAt t) z.0 z.1 (cases_by h.0.turn.rule z.0) (all_cases t used s all turns z.1 h.1 z.4) (told_by t used s k h.0.turn.rule k.parts z.0 h.0.turn.at z.3) (all_told t used s all turns z.1 h.1 z.4))

pub rest_told : (qs : List NumberedPart) → AllZip (λ q k. k ≡ record { rule = None; part = q.part; next = q.part.state }) qs (rest_cases qs)
rest_told [] = tt
rest_told (q ∷ qs) = (refl, rest_told qs)

-- ---- where a part comes from

inside : {a b : RewriteRule} → Some a ≡ Some b → a ≡ b
inside e = cc

one_of_theory : (t : Theory) (o : Option RewriteRule) (turns : List RewriteRule) → ((r : RewriteRule) → o ≡ Some r → Contains t.rules r) → AllByRecursion (Contains t.rules) turns → (b : RuleBody) → IsOneOf o turns b → IsOfTheory t b
one_of_theory t o turns f h b (r, inl c, e) = (r, of_member (Contains t.rules) turns r h c, e)
one_of_theory t o turns f h b (r, inr c, e) = (r, f r c, e)

-- parts that come of s and of the theory
abbrev pub ComeOfTheory : Theory → StatePart → List NumberedPart → Type 0
ComeOfTheory t s parts = AllByRecursion (λ q. ComesFrom t.signature (IsOfTheory t) s q.part) parts

all_of_theory : (t : Theory) (o : Option RewriteRule) (turns : List RewriteRule) (s : StatePart) (parts : List NumberedPart) → ((r : RewriteRule) → o ≡ Some r → Contains t.rules r) → AllByRecursion (Contains t.rules) turns → AllByRecursion (IsOfThese t.signature o turns s) parts → ComeOfTheory t s parts
all_of_theory t o turns s [] f h k = tt
all_of_theory t o turns s (p ∷ parts) f h k = (comes_by_more t.signature (IsOneOf o turns) (IsOfTheory t) s p.part (one_of_theory t o turns f h) k.0, all_of_theory t o turns s parts f h k.1)

-- those that rules leave to a rule
pub turn_comes : (t : Theory) (r : RewriteRule) (place : ℕ) (turns : List RewriteRule) (s : StatePart) (parts : List NumberedPart) → IsAt t place r → AllByRecursion (Contains t.rules) turns → AllByRecursion (IsOfThese t.signature (Some r) turns s) parts → ComeOfTheory t s parts
turn_comes t r place turns s parts at h k = all_of_theory t (Some r) turns s parts (λ q e. subst (Contains t.rules) (inside e) (at_contains t.rules place r at)) h k

-- and to none
pub rest_comes : (t : Theory) (turns : List RewriteRule) (s : StatePart) (parts : List NumberedPart) → AllByRecursion (Contains t.rules) turns → AllByRecursion (IsOfThese t.signature None turns s) parts → ComeOfTheory t s parts
rest_comes t turns s parts h k = all_of_theory t None turns s parts (λ q e. absurd (cc)) h k

-- what a step may go on from
pub record GoesOnAt (t : Theory) (used : List Text) (s : StatePart) (n : PlacedNext) : Type 0 where
  pub comes : ComesFrom t.signature (IsOfTheory t) s n.part
  pub sorted : IsSortedPart t.signature n.part
  pub grown : IsGrown t.signature used s (whole n.state)
  pub ready : IsReadyState t.signature used n.state n.next

go_on_by : (t : Theory) (used : List Text) (s m : StatePart) (k : PlacedTurn) (r : RewriteRule) (ps : List NumberedPart) (ns : List PlacedNext) → IsAt t k.place r → AllZip (IsNextAt t used s k) ps ns → AllByRecursion (IsPartIn t.signature used s m) ps → ComeOfTheory t s ps → AllByRecursion (GoesOnAt t used s) ns
go_on_by t used s m k r [] [] at z i c = tt
go_on_by t used s m k r [] (n ∷ ns) at z i c = absurd z
go_on_by t used s m k r (p ∷ ps) [] at z i c = absurd z
go_on_by t used s m k r (p ∷ ps) (n ∷ ns) at z i c = (
  record {
    comes = subst (λ q. ComesFrom t.signature (IsOfTheory t) s q) (sym z.0.part) c.0;
    sorted = subst (λ q. IsSortedPart t.signature q) (sym z.0.part) i.0.ready.sorted;
    grown = (z.0.follows r at).grown;
    ready = (z.0.follows r at).ready;
  },
  go_on_by t used s m k r ps ns at z.1 i.1 c.1,
)

go_on_both : (t : Theory) (used : List Text) (s : StatePart) (xs ys : List PlacedNext) → AllByRecursion (GoesOnAt t used s) xs → AllByRecursion (GoesOnAt t used s) ys → AllByRecursion (GoesOnAt t used s) (xs ++ ys)
go_on_both t used s [] ys a b = b
go_on_both t used s (x ∷ xs) ys a b = (a.0, go_on_both t used s xs ys a.1 b)

pub all_go_on : (t : Theory) (used : List Text) (s : StatePart) (all turns : List PlacedTurn) (ns : List PlacedNext) (h : AllByRecursion (IsTurnAmong t used s all) turns) (z : AreNextsOf t used s turns ns) → AllByRecursion (GoesOnAt t used s) ns
all_go_on t used s all [] ns h z = subst (λ xs. AllByRecursion (GoesOnAt t used s) xs) (sym z) tt
all_go_on t used s all (k ∷ turns) ns h z = subst (λ xs. AllByRecursion (GoesOnAt t used s) xs) (sym z.2)
    (go_on_both t used s z.0 z.1 (go_on_by t used s h.0.turn.met_part k h.0.turn.rule k.parts z.0 h.0.turn.at z.3 h.0.turn.left.each (turn_comes t h.0.turn.rule k.place h.0.turn.before s k.parts h.0.turn.at h.0.turn.of_theory h.0.turn.left.comes)) (all_go_on t used s all turns z.1 h.1 z.4))

-- what follows in one turn more, behind what was found
pub nexts_more : (t : Theory) (used : List Text) (s : StatePart) (all rest : List PlacedTurn) (k : PlacedTurn) (found xs : List PlacedNext) → ((ys : List PlacedNext) → AreNextsOf t used s (k ∷ rest) ys → AreNextsOf t used s all (found ++ ys)) →
    AllZip (IsNextAt t used s k) k.parts xs → (ys : List PlacedNext) → AreNextsOf t used s rest ys → AreNextsOf t used s all ((found ++ xs) ++ ys)
nexts_more t used s all rest k found xs f z ys h = subst (AreNextsOf t used s all) (sym (append_assoc found xs ys)) (f (xs ++ ys) (xs, ys, refl, z, h))

-- ---- by rules that meet the state

one_met : (t : Theory) (s : SymbolicState) (o : Option RewriteRule) (turns : List RewriteRule) → ((r : RewriteRule) → o ≡ Some r → Contains t.rules r × MeetsRule t.signature s r.body) → AllByRecursion (Contains t.rules) turns → AllMeet t.signature s turns → (b : RuleBody) → IsOneOf o turns b → IsRuleMet t s b
one_met t s o turns f h a b i =
    (one_of_theory t o turns (λ r e. (f r e).0) h b i, one_of_these_meets t.signature s o turns (λ r e. (f r e).1) a b i)

all_met : (t : Theory) (s : SymbolicState) (o : Option RewriteRule) (turns : List RewriteRule) (parts : List NumberedPart) → ((r : RewriteRule) → o ≡ Some r → Contains t.rules r × MeetsRule t.signature s r.body) → AllByRecursion (Contains t.rules) turns → AllMeet t.signature s turns → AllByRecursion (IsOfThese t.signature o turns (whole s)) parts →
    AllByRecursion (λ q. ComesFrom t.signature (IsRuleMet t s) (whole s) q.part) parts
all_met t s o turns [] f h a k = tt
all_met t s o turns (p ∷ parts) f h a k = (comes_by_more t.signature (IsOneOf o turns) (IsRuleMet t s) (whole s) p.part (one_met t s o turns f h a) k.0, all_met t s o turns parts f h a k.1)

made_by : (t : Theory) (used : List Text) (s : SymbolicState) (k : PlacedTurn) (r : RewriteRule) (ps : List NumberedPart) (ns : List PlacedNext) → IsAt t k.place r → IsRuleMet t s r.body → AllZip (IsNextAt t used (whole s) k) ps ns → AllByRecursion (λ q. ComesFrom t.signature (IsRuleMet t s) (whole s) q.part) ps →
    AllByRecursion (IsCaseMade t s) (cases_by r ns)
made_by t used s k r [] [] at m z c = tt
made_by t used s k r [] (n ∷ ns) at m z c = absurd z
made_by t used s k r (p ∷ ps) [] at m z c = absurd z
made_by t used s k r (p ∷ ps) (n ∷ ns) at m z c = (
  record {
    comes = subst (λ q. ComesFrom t.signature (IsRuleMet t s) (whole s) q) (sym z.0.part) c.0;
    used = used;
    next = (m, λ w e. subst (λ q. IsMovedBy t.signature used w q n.state) (sym z.0.part) ((z.0.follows r at).moved w e));
  },
  made_by t used s k r ps ns at m z.1 c.1,
)

pub all_made : (t : Theory) (used : List Text) (s : SymbolicState) (all turns : List PlacedTurn) (ns : List PlacedNext) (h : AllByRecursion (IsTurnAmong t used (whole s) all) turns) (z : AreNextsOf t used (whole s) turns ns) → AllByRecursion (IsCaseMade t s) (all_cases t used (whole s) all turns ns h z)
all_made t used s all [] ns h z = tt
all_made t used s all (k ∷ turns) ns h z =
    let i = h.0.turn in
    let own = at_contains t.rules k.place i.rule i.at in
    all_append (IsCaseMade t s) (cases_by i.rule z.0) (all_cases t used (whole s) all turns z.1 h.1 z.4)
    (made_by t used s k i.rule k.parts z.0 i.at ((i.rule, own, refl), i.meets) z.3
    (all_met t s (Some i.rule) i.before k.parts (λ r e. subst (λ x. Contains t.rules x × MeetsRule t.signature s x.body) (inside e) (own, i.meets)) i.of_theory i.before_meet i.left.comes))
    (all_made t used s all turns z.1 h.1 z.4)

rest_by : (t : Theory) (used : List Text) (s : SymbolicState) (qs : List NumberedPart) → AllByRecursion (λ q. ComesFrom t.signature (IsRuleMet t s) (whole s) q.part) qs → AllByRecursion (IsCaseMade t s) (rest_cases qs)
rest_by t used s [] c = tt
rest_by t used s (q ∷ qs) c = (record { comes = c.0; used = used; next = refl }, rest_by t used s qs c.1)

pub rest_made : (t : Theory) (used : List Text) (s : SymbolicState) (turns : List RewriteRule) (qs : List NumberedPart) → AllByRecursion (Contains t.rules) turns → AllMeet t.signature s turns → AllByRecursion (IsOfThese t.signature None turns (whole s)) qs → AllByRecursion (IsCaseMade t s) (rest_cases qs)
rest_made t used s turns qs h a k = rest_by t used s qs (all_met t s None turns qs (λ r e. absurd (cc)) h a k)
