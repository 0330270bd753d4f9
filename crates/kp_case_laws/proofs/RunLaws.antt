-- A run goes on by one rule alone; what it passes; the same of patterns.
use Rattle.std.proofs.Common.{◌≡◌, cond, refl, sym, ap, ◌∙◌, subst, ℕ, zero, suc, ◌+◌, ◌<◌, arith, Bool, true, false, not, List, [], ◌∷◌, inl, inr}
use Rattle.std.specs.Prelude.{◌⊎◌}
use Rattle.std.specs.List.{AllByRecursion, Contains, list_any, filter}
use Rattle.std.specs.Str.{bytes_eq}
use Rattle.kp_kore.specs.Syntax.{Text, KorePattern}
use Rattle.kp_kore.specs.Parts.{SortedName, free_variables}
use Rattle.kp_kore.specs.Value.{Value}
use Rattle.kp_kore.specs.Instance.{Valuation, GivesSorts, is_named}
use Rattle.kp_kore.specs.Rules.{RewriteRule}
use Rattle.kp_kore.specs.Theory.{Theory}
use Rattle.kp_kore.specs.Steps.{Fires, HasTurn, Steps, StepsIn, IsFinal, IsUnknown}
use Rattle.kp_kore.specs.Replies.{is_listed, NoneListed, IsFreshName, IsAbsent}
use Rattle.kp_kore.specs.AtHand.{OfEach, OfSome}
use Rattle.kp_kore.specs.Onward.{Leads, Passes}
use Rattle.kp_kore.specs.Cases.{HasTurnAlone}
use Rattle.kp_kore.specs.Scopes.{Extends, LeadsIn, AreExtended}
use Rattle.kp_kore.proofs.ConjunctionLemmas.{same_pattern_instance}
use Rattle.kp_kore.proofs.ListLemmas.{all_append, all_map}
use Rattle.kp_kore.proofs.RunLemmas.{steps_join, steps_split, leads_of}
use Rattle.kp_kore.proofs.TurnLemmas.{of_member, each_member}
use Rattle.kp_kore.proofs.TruthLemmas.{agrees_back}
use Rattle.kp_kore.proofs.ArcLemmas.{agrees_through}
use Rattle.kp_symbolic.specs.States.{SymbolicState, IsStateInstance}
use Rattle.kp_symbolic.specs.WellFormed.{AreAtHand}
use Rattle.kp_case_laws.specs.Parts.{whole, OfEachInstance, IsGrown, IsNewVariable}
use Rattle.kp_case_laws.proofs.GrownLemmas.{grown_itself, grown_further}
use Rattle.kp_case_laws.specs.NextStates.{StepCase, IsPatternOf}
use Rattle.kp_case_laws.proofs.AtHandLemmas.{of_hand, sorts_of_hand, agree_of_hand, hand_in_hand, agree_itself, member_named, Joined, joined_hand}
use Rattle.kp_case_laws.proofs.LoneRule.{alone, has_turn_alone}
use Rattle.kp_case_laws.proofs.AloneSteps.{good, steps_on}
use Rattle.kp_case_laws.specs.Runs.{StateLeads, StatePasses, IsByOne, StateReaches, HasRunTo, RunEndsBy}
use Rattle.kp_case_laws.specs.RunLaws.{IsAloneBy, AreEndsOf}

-- ---- a run begins

pub at_hand_itself : (xs : List SortedName) → AreAtHand xs xs
at_hand_itself xs = each_member (Contains xs) xs (λ x m. m)

pub leads_nowhere : (t : Theory) (s : SymbolicState) → StateLeads t s s 0
leads_nowhere t s = record {
  at_hand = at_hand_itself s.variables;
  found = λ w c sorts met e steps. (w, record { agrees = agree_itself s.variables w; sorts = sorts }, subst (IsStateInstance t.signature w s) (sym steps) met);
  only = λ x e sorts met. (e, met, refl);
}

none_less : {A : Type 0} (n : ℕ) → n < 0 → A
none_less n h = absurd (omega (arith, h))

pub passes_none : (t : Theory) (listed : List Text) (s : SymbolicState) → StatePasses t listed s 0
passes_none t listed s = record {
  not_final = λ w c sorts met n e less steps. none_less n less;
  none_listed = λ w c sorts met n e less steps. none_less n less;
}

no_step_before : (n : ℕ) → 0 ≡ suc n → ⊥
no_step_before n e = cc

pub begins : (t : Theory) (used : List Text) (s : SymbolicState) → HasRunTo t used s s 0
begins t used s = record {
  leads = leads_nowhere t s;
  reached = λ n e. absurd (no_step_before n e);
  by_one = λ n less. none_less n less;
  grown = grown_itself t.signature used (whole s);
}

-- ---- and goes on

one_after : (d : ℕ) → d + 1 ≡ suc d
one_after d = omega arith

one_step : (t : Theory) (c e : Value) → Steps t c e → StepsIn t 1 c e
one_step t c e s = (e, s, refl)

pub joined : (t : Theory) (s m later : SymbolicState) (d : ℕ) → StateLeads t s m d → StateLeads t m later 1 → StateLeads t s later (suc d)
joined t s m later d a b = record {
  at_hand = hand_in_hand s.variables m.variables later.variables a.at_hand b.at_hand;
  found = λ w c sorts met e steps.
      let k : (k : Value) × StepsIn t d c k × StepsIn t 1 k e = steps_split t d 1 c e (subst (λ n. StepsIn t n c e) (sym (one_after d)) steps) in
      let x : (x : Valuation) × Extends t.signature s.variables m.variables w x × IsStateInstance t.signature x m k.0 = a.found w c sorts met k.0 k.1 in
      let y : (y : Valuation) × Extends t.signature m.variables later.variables x.0 y × IsStateInstance t.signature y later e = b.found x.0 k.0 x.1.sorts x.2 e k.2 in
      (y.0, record { agrees = agrees_through s.variables w x.0 y.0 x.1.agrees (agree_of_hand x.0 y.0 s.variables m.variables a.at_hand y.1.agrees); sorts = y.1.sorts }, y.2);
  only = λ x e sorts met.
      let k : (k : Value) × IsStateInstance t.signature x m k × StepsIn t 1 k e = b.only x e sorts met in
      let c : (c : Value) × IsStateInstance t.signature x s c × StepsIn t d c k.0 = a.only x k.0 (sorts_of_hand t.signature x m.variables later.variables b.at_hand sorts) k.1 in
      (c.0, c.1, subst (λ n. StepsIn t n c.0 e) (one_after d) (steps_join t d 1 c.0 k.0 e c.2 k.2));
}

-- an instance of the state that a run has come to is one that the first state's instance goes on to
instance_of_first : (t : Theory) (s later : SymbolicState) (d : ℕ) (r : RewriteRule) (k : StepCase) (used : List Text) → StateLeads t s later d → IsAloneBy t used later r k → StateReaches t s d
instance_of_first t s later d r k used leads a =
    let i = a.hand.instance in
    let w = i.0 in
    let sorts : GivesSorts t.signature w later.variables = sorts_of_hand t.signature w later.variables k.part.state.variables a.hand.part i.2 in
    let met : IsStateInstance t.signature w later i.1 = (((good t later k a.cases a.hand).below.part.same w i.1 i.2).0 i.3).0 in
    let c = leads.only w i.1 sorts met in
    record { valuation = w; first = c.0; sorts = sorts_of_hand t.signature w s.variables later.variables leads.at_hand sorts; met = c.1; last = i.1; steps = c.2 }

less_or_same : (n d : ℕ) → n < suc d → (n < d) ⊎ (n ≡ d)
less_or_same zero zero h = inr refl
less_or_same zero (suc d) h = inl (omega arith)
less_or_same (suc n) zero h = absurd (omega (arith, h))
less_or_same (suc n) (suc d) h = elim (less_or_same n d (omega (arith, h))) [ inl a ↦ inl (omega (arith, a)) | inr b ↦ inr (ap suc b) ]

alone_here : (t : Theory) (used : List Text) (s later : SymbolicState) (d : ℕ) (r : RewriteRule) (k : StepCase) → StateLeads t s later d → IsAloneBy t used later r k → OfEachInstance t.signature (whole s) (λ w c. (e : Value) → StepsIn t d c e → HasTurnAlone t r.id e)
alone_here t used s later d r k leads a w c sorts met e steps =
    let x : (x : Valuation) × Extends t.signature s.variables later.variables w x × IsStateInstance t.signature x later e = leads.found w c sorts met e steps in
    has_turn_alone t later k r a.cases a.by_rule a.of_theory a.fires x.0 e x.1.sorts x.2

-- one step more is by the rule that the later state goes on by
by_one_more : (t : Theory) (used : List Text) (s later : SymbolicState) (d : ℕ) (r : RewriteRule) (k : StepCase) → HasRunTo t used s later d → IsAloneBy t used later r k → IsByOne t s (suc d)
by_one_more t used s later d r k run a n less = elim (less_or_same n d less) [
  | inl b ↦ run.by_one n b
  | inr b ↦ (r.id, λ w c sorts met e steps. alone_here t used s later d r k run.leads a w c sorts met e (subst (λ m. StepsIn t m c e) b steps))
]

pub goes_on : (t : Theory) (used : List Text) (s later : SymbolicState) (d : ℕ) (r : RewriteRule) (k : StepCase) → HasRunTo t used s later d → IsAloneBy t used later r k → HasRunTo t used s k.next (suc d)
goes_on t used s later d r k run a = record {
  leads = joined t s later k.next d run.leads (steps_on t later r k a.cases a.hand a.by_rule);
  reached = λ n e. subst (StateReaches t s) (same_before d n e) (instance_of_first t s later d r k used run.leads a);
  by_one = by_one_more t used s later d r k run a;
  grown = grown_further t.signature used (whole s) (whole later) (whole k.next) run.grown a.grown;
}
  where
    same_before : (d n : ℕ) → suc d ≡ suc n → d ≡ n
    same_before d n e = omega (arith, e)

-- ---- what is passed

not_final : (t : Theory) (r : RewriteRule) (e : Value) → Contains t.rules r → Fires t.signature r.body e → ¬ IsUnknown t e → ¬ IsFinal t e
not_final t r e m f u (inl h) = u h
not_final t r e m f u (inr h) = of_member (λ q. ¬ Fires t.signature q.body e) t.rules r h m f

true_false : true ≡ false → ⊥
true_false e = cc

none_listed : (t : Theory) (listed : List Text) (r : RewriteRule) (e : Value) → is_listed listed r ≡ false → ((q : RewriteRule) → Contains t.rules q → HasTurn t q e → q ≡ r) → NoneListed t listed e
none_listed t listed r e n own = each_member (λ q. is_listed listed q ≡ true → ¬ HasTurn t q e) t.rules (λ q m l turn. true_false (sym l ∙ ap (is_listed listed) (own q m turn) ∙ n))

pub passes_on : (t : Theory) (used listed : List Text) (s later : SymbolicState) (d : ℕ) (r : RewriteRule) (k : StepCase) → HasRunTo t used s later d → StatePasses t listed s d → IsAloneBy t used later r k → is_listed listed r ≡ false → StatePasses t listed s (suc d)
passes_on t used listed s later d r k run p a l = record {
  not_final = λ w c sorts met n e less steps. elim (less_or_same n d less) [
    | inl b ↦ p.not_final w c sorts met n e b steps
    | inr b ↦
        let x = here w c sorts met e (subst (λ m. StepsIn t m c e) b steps) in
        not_final t r e a.of_theory (a.fires x.0 e x.1.sorts x.2) (a.cases.known x.0 e x.1.sorts x.2)
  ];
  none_listed = λ w c sorts met n e less steps. elim (less_or_same n d less) [
    | inl b ↦ p.none_listed w c sorts met n e b steps
    | inr b ↦
        let x = here w c sorts met e (subst (λ m. StepsIn t m c e) b steps) in
        none_listed t listed r e l (λ q m turn. alone t later k r q x.0 e a.cases a.by_rule x.1.sorts x.2 m turn)
  ];
}
  where
    here : (w : Valuation) (c : Value) → GivesSorts t.signature w s.variables → IsStateInstance t.signature w s c → (e : Value) → StepsIn t d c e → (x : Valuation) × Extends t.signature s.variables later.variables w x × IsStateInstance t.signature x later e
    here = run.leads.found

pub ends_by : (t : Theory) (used listed : List Text) (s later : SymbolicState) (d : ℕ) (r : RewriteRule) (k : StepCase) → HasRunTo t used s later d → StatePasses t listed s d → IsAloneBy t used later r k → RunEndsBy t listed s d r.id
ends_by t used listed s later d r k run p a = record { passes = p; turn = alone_here t used s later d r k run.leads a }

-- ---- as patterns

sorts_at : (t : Theory) (p : KorePattern) (s : SymbolicState) (v : Valuation) → AreAtHand s.variables (free_variables p) → GivesSorts t.signature v (free_variables p) → GivesSorts t.signature v s.variables
sorts_at t p s v all given = sorts_of_hand t.signature v s.variables (free_variables p) all given

pub passes_as_pattern : (t : Theory) (listed : List Text) (p : KorePattern) (s : SymbolicState) (d : ℕ) → IsPatternOf t.signature p s → AreAtHand s.variables (free_variables p) → StatePasses t listed s d → Passes t listed p d
passes_as_pattern t listed p s d of all h = record {
  not_final = λ v c given met n e less steps. let sorts = sorts_at t p s v all given.0 in h.not_final v c sorts ((of.instances v c sorts).0 met) n e less steps;
  none_listed = λ v c given met n e less steps. let sorts = sorts_at t p s v all given.0 in h.none_listed v c sorts ((of.instances v c sorts).0 met) n e less steps;
}

pub by_one_as_pattern : (t : Theory) (p : KorePattern) (s : SymbolicState) (d : ℕ) → IsPatternOf t.signature p s → AreAtHand s.variables (free_variables p) → IsByOne t s d → (n : ℕ) → n < d → (id : Text) × OfEach t.signature [] p (λ v c. (later : Value) → StepsIn t n c later → HasTurnAlone t id later)
by_one_as_pattern t p s d of all h n less = let one = h n less in (one.0, λ v c given met later steps. let sorts = sorts_at t p s v all given.0 in one.1 v c sorts ((of.instances v c sorts).0 met) later steps)

pub reaches_as_pattern : (t : Theory) (p : KorePattern) (s : SymbolicState) (n : ℕ) → IsPatternOf t.signature p s → StateReaches t s n → OfSome t.signature [] p (λ v c. (later : Value) × StepsIn t n c later)
reaches_as_pattern t p s n of h = record {
  valuation = h.valuation;
  configuration = h.first;
  given = (sorts_of_hand t.signature h.valuation (free_variables p) s.variables of.at_hand h.sorts, tt);
  met = (of.instances h.valuation h.first h.sorts).1 h.met;
  such = (h.last, h.steps);
}

pub ends_as_pattern : (t : Theory) (listed : List Text) (p : KorePattern) (s : SymbolicState) (before : ℕ) (id : Text) → IsPatternOf t.signature p s → AreAtHand s.variables (free_variables p) → RunEndsBy t listed s before id →
    Passes t listed p before × OfEach t.signature [] p (λ v c. (later : Value) → StepsIn t before c later → HasTurnAlone t id later)
ends_as_pattern t listed p s before id of all h = (
  passes_as_pattern t listed p s before of all h.passes,
  (λ v c given met e steps. let sorts = sorts_at t p s v all given.0 in h.turn v c sorts ((of.instances v c sorts).0 met) e steps),
)

in_pattern : (t : Theory) (used : List Text) (p q : KorePattern) (s later : SymbolicState) (d : ℕ) → StateLeads t s later d → AreEndsOf t used p q s later → LeadsIn t (free_variables p) later.variables p q d
in_pattern t used p q s later d leads ends = record {
  found = λ v c e sorts met steps.
      let at = sorts_at t p s v ends.all sorts in
      let x : (x : Valuation) × Extends t.signature s.variables later.variables v x × IsStateInstance t.signature x later e = leads.found v c at ((ends.first.instances v c at).0 met) e steps in
      (x.0, record { agrees = agree_of_hand v x.0 (free_variables p) s.variables ends.first.at_hand x.1.agrees; sorts = x.1.sorts }, (ends.last.instances x.0 e x.1.sorts).1 x.2);
  only = λ v w e sorts x met.
      let c : (c : Value) × IsStateInstance t.signature w s c × StepsIn t d c e = leads.only w e x.sorts ((ends.last.instances w e x.sorts).0 met) in
      let at : GivesSorts t.signature w s.variables = sorts_of_hand t.signature w s.variables later.variables leads.at_hand x.sorts in
      (c.0, same_pattern_instance t.signature p w v c.0 (agrees_back (free_variables p) v w x.agrees) ((ends.first.instances w c.0 at).1 c.1), c.2);
}

-- a variable is the first pattern's, or new
abbrev IsOldOrNew : KorePattern → SortedName → Type 0
IsOldOrNew p x = (is_named x.name (free_variables p) ≡ true) ⊎ (IsFreshName x.name × IsAbsent x.name p)

each_old_or_new : (t : Theory) (used : List Text) (p : KorePattern) (s later : SymbolicState) → AreAtHand s.variables (free_variables p) → ((x : Text) → list_any (bytes_eq x) used ≡ false → IsAbsent x p) → IsGrown t.signature used (whole s) (whole later) → AllByRecursion (IsOldOrNew p) later.variables
each_old_or_new t used p s later all free grown = subst (AllByRecursion (IsOldOrNew p)) (sym grown.variables) (all_append (IsOldOrNew p) s.variables grown.new
    (all_map (Contains (free_variables p)) (IsOldOrNew p) s.variables (λ x m. inl (member_named (free_variables p) x m)) all)
    (all_map (IsNewVariable t.signature used) (IsOldOrNew p) grown.new (λ x n. inr (n.0, free x.name n.1)) grown.each))

-- what stays of the variables that are none of the first pattern's
abbrev BeyondIn : KorePattern → List SortedName → List SortedName
BeyondIn p xs = filter (λ x. not (is_named x.name (free_variables p))) xs

abbrev AreNewIn : KorePattern → List SortedName → Type 0
AreNewIn p = AllByRecursion (λ x. IsFreshName x.name × IsAbsent x.name p)

one_new : (p : KorePattern) (x : SortedName) (rest : List SortedName) (b : Bool) → is_named x.name (free_variables p) ≡ b → IsOldOrNew p x → AreNewIn p rest → AreNewIn p (cond (not b) (x ∷ rest) rest)
one_new p x rest true e o h = h
one_new p x rest false e (inl n) h = absurd (true_false (sym n ∙ e))
one_new p x rest false e (inr n) h = (n, h)

only_new : (p : KorePattern) (xs : List SortedName) → AllByRecursion (IsOldOrNew p) xs → AreNewIn p (BeyondIn p xs)
only_new p [] h = tt
only_new p (x ∷ xs) h = one_new p x (BeyondIn p xs) (is_named x.name (free_variables p)) refl h.0 (only_new p xs h.1)

abbrev AreUnnamed : KorePattern → List SortedName → Type 0
AreUnnamed p = AllByRecursion (λ x. is_named x.name (free_variables p) ≡ false)

one_unnamed : (p : KorePattern) (x : SortedName) (rest : List SortedName) (b : Bool) → is_named x.name (free_variables p) ≡ b → AreUnnamed p rest → AreUnnamed p (cond (not b) (x ∷ rest) rest)
one_unnamed p x rest true e h = h
one_unnamed p x rest false e h = (e, h)

none_lost : (p : KorePattern) (xs : List SortedName) → AreUnnamed p (BeyondIn p xs)
none_lost p [] = tt
none_lost p (x ∷ xs) = one_unnamed p x (BeyondIn p xs) (is_named x.name (free_variables p)) refl (none_lost p xs)

extended : (t : Theory) (used : List Text) (p q : KorePattern) (s later : SymbolicState) (d : ℕ) → StateLeads t s later d → AreEndsOf t used p q s later → AreExtended t.signature p q later.variables
extended t used p q s later d leads ends v w sorts given off =
    let j : Joined t.signature (free_variables p) later.variables q v w =
    joined_hand t.signature (free_variables p) later.variables p q ends.values.0 v v w (at_hand_itself (free_variables p)) (hand_in_hand (free_variables p) s.variables later.variables ends.first.at_hand leads.at_hand) ends.last.at_hand ends.one_sort
    (none_lost p (free_variables q)) ends.values.1 sorts (agree_itself (free_variables p) v) off given in
    (j.chosen, record { agrees = j.agrees; sorts = j.sorts }, j.on_pattern)

pub leads_as_patterns : (t : Theory) (used : List Text) (p q : KorePattern) (s later : SymbolicState) (d : ℕ) → HasRunTo t used s later d → AreEndsOf t used p q s later → Leads t p q d
leads_as_patterns t used p q s later d run ends = leads_of t p q later.variables d
    (record { sorts = λ w h. sorts_of_hand t.signature w (free_variables q) later.variables ends.last.at_hand h; agree = λ v w a. agree_of_hand v w (free_variables q) later.variables ends.last.at_hand a })
    (extended t used p q s later d run.leads ends)
    (only_new p (free_variables q) (of_hand (IsOldOrNew p) (free_variables q) later.variables ends.last.at_hand (each_old_or_new t used p s later ends.all ends.in_use run.grown)))
    (in_pattern t used p q s later d run.leads ends)
