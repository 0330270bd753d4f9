-- Each instance of a state lies in one of the parts of its case; what is so of each case of a step.
use Rattle.std.proofs.Common.{◌≡◌, refl, sym, ◌∙◌, subst, ap, zero, suc, arith, List, [], ◌∷◌, Option, Some, None, inl, inr}
use Rattle.std.specs.Prelude.{map}
use Rattle.std.specs.List.{AllByRecursion, AllZip, Contains, flat_map}
use Rattle.std.specs.Option.{option_map}
use Rattle.kp_kore.specs.Syntax.{Text}
use Rattle.kp_kore.specs.Signature.{KoreSignature}
use Rattle.kp_kore.specs.Value.{Value}
use Rattle.kp_kore.specs.Instance.{Valuation, GivesSorts}
use Rattle.kp_kore.specs.Rules.{RuleBody, rewrite, foreign_rule, RewriteRule}
use Rattle.kp_kore.specs.Theory.{Theory}
use Rattle.kp_kore.specs.Steps.{AnyByRecursion, Fires, HasTurn, StepsBy, NoneFires, Rewrites}
use Rattle.kp_kore.specs.Cases.{IsCase, GoesTo, OfOneAlone}
use Rattle.kp_kore.specs.Division.{IsHeldBy}
use Rattle.kp_kore.proofs.ListLemmas.{all_map, any_all, all_both as both_of_all}
use Rattle.kp_kore.proofs.TurnLemmas.{each_member}
use Rattle.kp_kore.proofs.Dividing.{none_then_one, one_then_none}
use Rattle.kp_kore.proofs.Splitting.{any_of_one}
use Rattle.kp_symbolic.specs.States.{SymbolicState, IsStateInstance}
use Rattle.kp_symbolic.proofs.Distribution.{all_both}
use Rattle.kp_case_laws.specs.Parts.{StatePart, state_reading, IsPartBelow, whole, OfEachInstance}
use Rattle.kp_case_laws.specs.Firing.{AreWhere}
use Rattle.kp_case_laws.specs.Turns.{Turn, rules_of, AreTurns}
use Rattle.kp_case_laws.specs.NextStates.{StepCase, IsNext, Placed, placed, cases_of_turns, HaveOwnIds, AreStepCases, IsWithinHand}
use Rattle.kp_case_laws.proofs.OnCourse.{any_first, any_second}

-- ---- lists

-- of what is made of the members
none_of_made : {X Y : Type 0} (f : X → Y) (P : X → Type 0) (Q : Y → Type 0) (xs : List X) → ((x : X) → Q (f x) → P x) → AllByRecursion (λ x. ¬ P x) xs → AllByRecursion (λ y. ¬ Q y) (map f xs)
none_of_made f P Q [] back h = tt
none_of_made f P Q (x ∷ xs) back h = ((λ q. h.0 (back x q)), none_of_made f P Q xs back h.1)

one_of_made : {X Y : Type 0} (f : X → Y) (P : X → Type 0) (Q : Y → Type 0) (xs : List X) → ((x : X) → P x → Q (f x)) → ((x : X) → Q (f x) → P x) → OfOneAlone P xs → OfOneAlone Q (map f xs)
one_of_made f P Q [] to back h = h
one_of_made f P Q (x ∷ xs) to back h = elim h [
  | inl a ↦ inl (to x a.0, none_of_made f P Q xs back a.1)
  | inr b ↦ inr ((λ q. b.0 (back x q)), one_of_made f P Q xs to back b.1)
]

none_unmade : {X Y : Type 0} (f : X → Y) (Q : Y → Type 0) (xs : List X) → AllByRecursion (λ y. ¬ Q y) (map f xs) → AllByRecursion (λ x. ¬ Q (f x)) xs
none_unmade f Q [] h = tt
none_unmade f Q (x ∷ xs) h = (h.0, none_unmade f Q xs h.1)

pub one_unmade : {X Y : Type 0} (f : X → Y) (Q : Y → Type 0) (xs : List X) → OfOneAlone Q (map f xs) → OfOneAlone (λ x. Q (f x)) xs
one_unmade f Q [] h = h
one_unmade f Q (x ∷ xs) h = elim h [
  | inl a ↦ inl (a.0, none_unmade f Q xs a.1)
  | inr b ↦ inr (b.0, one_unmade f Q xs b.1)
]

pub any_unmade : {X Y : Type 0} (f : X → Y) (Q : Y → Type 0) (xs : List X) → AnyByRecursion Q (map f xs) → AnyByRecursion (λ x. Q (f x)) xs
any_unmade f Q [] h = h
any_unmade f Q (x ∷ xs) h = elim h [ inl a ↦ inl a | inr b ↦ inr (any_unmade f Q xs b) ]

all_unmade : {X Y : Type 0} (f : X → Y) (Q : Y → Type 0) (xs : List X) → AllByRecursion Q (map f xs) → AllByRecursion (λ x. Q (f x)) xs
all_unmade f Q [] h = tt
all_unmade f Q (x ∷ xs) h = (h.0, all_unmade f Q xs h.1)

all_made : {X Y : Type 0} (f : X → Y) (Q : Y → Type 0) (xs : List X) → AllByRecursion (λ x. Q (f x)) xs → AllByRecursion Q (map f xs)
all_made f Q [] h = tt
all_made f Q (x ∷ xs) h = (h.0, all_made f Q xs h.1)

any_made : {X Y : Type 0} (f : X → Y) (P : X → Type 0) (Q : Y → Type 0) (xs : List X) → ((x : X) → P x → Q (f x)) → AnyByRecursion P xs → AnyByRecursion Q (map f xs)
any_made f P Q [] to h = h
any_made f P Q (x ∷ xs) to h = elim h [ inl a ↦ inl (to x a) | inr b ↦ inr (any_made f P Q xs to b) ]

same_member : {X : Type 0} (xs : List X) (x : X) → Contains xs x → AnyByRecursion (λ y. y ≡ x) xs
same_member [] x (k, less, e) = absurd (omega arith)
same_member (y ∷ ys) x (zero, less, e) = inl e
same_member (y ∷ ys) x (suc k, less, e) = inr (same_member ys x (k, omega arith, e))

any_same : {X : Type 0} (P : X → Type 0) (xs : List X) (x : X) → P x → AnyByRecursion (λ y. y ≡ x) xs → AnyByRecursion P xs
any_same P [] x h a = a
any_same P (y ∷ ys) x h a = elim a [ inl e ↦ inl (subst P (sym e) h) | inr b ↦ inr (any_same P ys x h b) ]

pub any_member : {X : Type 0} (P : X → Type 0) (xs : List X) (x : X) → Contains xs x → P x → AnyByRecursion P xs
any_member P xs x m h = any_same P xs x h (same_member xs x m)

-- what two lists tell of each other, member by member
pub all_of_zip : {X Y : Type 0} (R : X → Y → Type 0) (F : X → Type 0) (Q : Y → Type 0) (xs : List X) (ys : List Y) → ((x : X) (y : Y) → R x y → F x → Q y) → AllZip R xs ys → AllByRecursion F xs → AllByRecursion Q ys
all_of_zip R F Q [] [] step z f = tt
all_of_zip R F Q [] (y ∷ ys) step z f = absurd z
all_of_zip R F Q (x ∷ xs) [] step z f = absurd z
all_of_zip R F Q (x ∷ xs) (y ∷ ys) step z f = (step x y z.0 f.0, all_of_zip R F Q xs ys step z.1 f.1)

pub any_of_zip : {X Y : Type 0} (R : X → Y → Type 0) (F : X → Type 0) (P : X → Type 0) (Q : Y → Type 0) (xs : List X) (ys : List Y) → ((x : X) (y : Y) → R x y → F x → P x → Q y) → AllZip R xs ys → AllByRecursion F xs → AnyByRecursion P xs → AnyByRecursion Q ys
any_of_zip R F P Q [] [] step z f a = a
any_of_zip R F P Q [] (y ∷ ys) step z f a = absurd z
any_of_zip R F P Q (x ∷ xs) [] step z f a = absurd z
any_of_zip R F P Q (x ∷ xs) (y ∷ ys) step z f a = elim a [ inl h ↦ inl (step x y z.0 f.0 h) | inr b ↦ inr (any_of_zip R F P Q xs ys step z.1 f.1 b) ]

none_of_zip : {X Y : Type 0} (R : X → Y → Type 0) (F : X → Type 0) (P : X → Type 0) (Q : Y → Type 0) (xs : List X) (ys : List Y) → ((x : X) (y : Y) → R x y → F x → Q y → P x) → AllZip R xs ys → AllByRecursion F xs → AllByRecursion (λ x. ¬ P x) xs → AllByRecursion (λ y. ¬ Q y) ys
none_of_zip R F P Q [] [] back z f n = tt
none_of_zip R F P Q [] (y ∷ ys) back z f n = absurd z
none_of_zip R F P Q (x ∷ xs) [] back z f n = absurd z
none_of_zip R F P Q (x ∷ xs) (y ∷ ys) back z f n = ((λ q. n.0 (back x y z.0 f.0 q)), none_of_zip R F P Q xs ys back z.1 f.1 n.1)

pub one_of_zip : {X Y : Type 0} (R : X → Y → Type 0) (F : X → Type 0) (P : X → Type 0) (Q : Y → Type 0) (xs : List X) (ys : List Y) → ((x : X) (y : Y) → R x y → F x → P x → Q y) → ((x : X) (y : Y) → R x y → F x → Q y → P x) → AllZip R xs ys → AllByRecursion F xs → OfOneAlone P xs → OfOneAlone Q ys
one_of_zip R F P Q [] [] to back z f a = a
one_of_zip R F P Q [] (y ∷ ys) to back z f a = absurd z
one_of_zip R F P Q (x ∷ xs) [] to back z f a = absurd z
one_of_zip R F P Q (x ∷ xs) (y ∷ ys) to back z f a = elim a [
  | inl h ↦ inl (to x y z.0 f.0 h.0, none_of_zip R F P Q xs ys back z.1 f.1 h.1)
  | inr b ↦ inr ((λ q. b.0 (back x y z.0 f.0 q)), one_of_zip R F P Q xs ys to back z.1 f.1 b.1)
]

-- ---- the parts of the rules, and the remainder

abbrev pub id_in : Option RewriteRule → Option Text
id_in = option_map (λ r. r.id)

abbrev pub HoldsIn : KoreSignature → SymbolicState → Valuation → Value → StatePart → Type 0
HoldsIn g s v c p = IsHeldBy (state_reading g) g (whole s) p v c

abbrev OfTurn : Theory → SymbolicState → Turn → Type 0
OfTurn t s x = AreWhere t.signature (λ c. HasTurn t x.rule c) (whole s) x.parts

abbrev by_turns : List Turn → List Placed
by_turns = flat_map (λ x. map (λ p. (Some x.rule, p)) x.parts)

inside : {X : Type 0} {x y : X} → Some x ≡ Some y → x ≡ y
inside e = cc

some_is_none : {X : Type 0} {x : X} → Some x ≡ None → ⊥
some_is_none e = cc

none_is_some : {X : Type 0} {x : X} → None ≡ Some x → ⊥
none_is_some e = cc

pub every : {X : Type 0} (P : X → Type 0) (xs : List X) → ((x : X) → P x) → AllByRecursion P xs
every P [] f = tt
every P (x ∷ xs) f = (f x, every P xs f)

-- other rules have other ids
none_of_others : (g : KoreSignature) (s : SymbolicState) (v : Valuation) (c : Value) (id : Text) (turns : List Turn) → AllByRecursion (λ q. ¬ (q.id ≡ id)) (rules_of turns) → AllByRecursion (λ k. ¬ ((id_in k.0 ≡ Some id) × HoldsIn g s v c k.1)) (by_turns turns)
none_of_others g s v c id [] n = tt
none_of_others g s v c id (x ∷ xs) n =
    all_both (λ k. ¬ ((id_in k.0 ≡ Some id) × HoldsIn g s v c k.1)) (map (λ p. (Some x.rule, p)) x.parts) (by_turns xs)
    (all_made (λ p. (Some x.rule, p)) (λ k. ¬ ((id_in k.0 ≡ Some id) × HoldsIn g s v c k.1)) x.parts (every (λ p. ¬ ((Some x.rule.id ≡ Some id) × HoldsIn g s v c p)) x.parts (λ p h. n.0 (inside h.0))))
    (none_of_others g s v c id xs n.1)

other_id : (id : Text) (r : RewriteRule) (xs : List RewriteRule) → AllByRecursion (λ q. ¬ (q.id ≡ id)) xs → AnyByRecursion (λ q. q ≡ r) xs → ¬ (id ≡ r.id)
other_id id r [] n a e = a
other_id id r (q ∷ xs) n a e = elim a [ inl h ↦ n.0 (ap (λ k. k.id) h ∙ sym e) | inr b ↦ other_id id r xs n.1 b e ]

one_turn : (t : Theory) (s : SymbolicState) (v : Valuation) (c : Value) (r : RewriteRule) (turns : List Turn) → GivesSorts t.signature v s.variables → IsStateInstance t.signature v s c → HaveOwnIds (rules_of turns) → AllByRecursion (OfTurn t s) turns → AnyByRecursion (λ q. q ≡ r) (rules_of turns) → HasTurn t r c →
    OfOneAlone (λ k. (id_in k.0 ≡ Some r.id) × HoldsIn t.signature s v c k.1) (by_turns turns)
one_turn t s v c r [] sorts met own parts among turn = absurd among
one_turn t s v c r (x ∷ xs) sorts met own parts among turn = elim among [
  | inl e ↦
      one_then_none P first (by_turns xs)
      (one_of_made (λ p. (Some x.rule, p)) (HoldsIn t.signature s v c) P x.parts (λ p h. (ap (λ q. Some q.id) e, h)) (λ p h. h.1) (parts.0.divided.each v c sorts met (subst (λ q. HasTurn t q c) (sym e) turn)))
      (none_of_others t.signature s v c r.id xs (subst (λ id. AllByRecursion (λ q. ¬ (q.id ≡ id)) (rules_of xs)) (ap (λ q. q.id) e) own.0))
  | inr b ↦
      none_then_one P first (by_turns xs)
      (all_made (λ p. (Some x.rule, p)) (λ k. ¬ P k) x.parts (every (λ p. ¬ ((Some x.rule.id ≡ Some r.id) × HoldsIn t.signature s v c p)) x.parts (λ p h. other_id x.rule.id r (rules_of xs) own.0 b (inside h.0))))
      (one_turn t s v c r xs sorts met own.1 parts.1 b turn)
]
  where
    P : Placed → Type 0
    P = λ k. (id_in k.0 ≡ Some r.id) × HoldsIn t.signature s v c k.1

    first : List Placed
    first = map (λ p. (Some x.rule, p)) x.parts

some_turn : (t : Theory) (s : SymbolicState) (v : Valuation) (c : Value) (r : RewriteRule) (turns : List Turn) → GivesSorts t.signature v s.variables → IsStateInstance t.signature v s c → AllByRecursion (OfTurn t s) turns → AnyByRecursion (λ q. q ≡ r) (rules_of turns) → HasTurn t r c →
    AnyByRecursion (λ k. (k.0 ≡ Some r) × HoldsIn t.signature s v c k.1) (by_turns turns)
some_turn t s v c r [] sorts met parts among turn = absurd among
some_turn t s v c r (x ∷ xs) sorts met parts among turn = elim among [
  | inl e ↦ any_first P first (by_turns xs)
      (any_made (λ p. (Some x.rule, p)) (HoldsIn t.signature s v c) P x.parts (λ p h. (ap Some e, h)) (any_of_one (HoldsIn t.signature s v c) x.parts (parts.0.divided.each v c sorts met (subst (λ q. HasTurn t q c) (sym e) turn))))
  | inr b ↦ any_second P first (by_turns xs) (some_turn t s v c r xs sorts met parts.1 b turn)
]
  where
    P : Placed → Type 0
    P = λ k. (k.0 ≡ Some r) × HoldsIn t.signature s v c k.1

    first : List Placed
    first = map (λ p. (Some x.rule, p)) x.parts

no_turn_is_none : (g : KoreSignature) (s : SymbolicState) (v : Valuation) (c : Value) (turns : List Turn) → AllByRecursion (λ k. ¬ ((id_in k.0 ≡ None) × HoldsIn g s v c k.1)) (by_turns turns)
no_turn_is_none g s v c [] = tt
no_turn_is_none g s v c (x ∷ xs) = all_both (λ k. ¬ ((id_in k.0 ≡ None) × HoldsIn g s v c k.1)) (map (λ p. (Some x.rule, p)) x.parts) (by_turns xs)
    (all_made (λ p. (Some x.rule, p)) (λ k. ¬ ((id_in k.0 ≡ None) × HoldsIn g s v c k.1)) x.parts (every (λ p. ¬ ((Some x.rule.id ≡ None) × HoldsIn g s v c p)) x.parts (λ p h. some_is_none h.0)))
    (no_turn_is_none g s v c xs)

-- ---- each instance in a case lies in one of its parts

pub one_case : (t : Theory) (s : SymbolicState) (turns : List Turn) (remainder : List StatePart) (v : Valuation) (c : Value) → GivesSorts t.signature v s.variables → IsStateInstance t.signature v s c → AreTurns t (whole s) turns remainder → HaveOwnIds (rules_of turns) →
    (case : Option Text) → IsCase t case c → OfOneAlone (λ k. (id_in k.0 ≡ case) × HoldsIn t.signature s v c k.1) (cases_of_turns turns remainder)
one_case t s turns remainder v c sorts met a own (Some id) is =
    any_all (λ r. (r.id ≡ id) × HasTurn t r c) (Contains t.rules) (OfOneAlone (λ k. (id_in k.0 ≡ Some id) × HoldsIn t.signature s v c k.1) (cases_of_turns turns remainder)) t.rules
    (λ r h m. subst (λ i. OfOneAlone (λ k. (id_in k.0 ≡ Some i) × HoldsIn t.signature s v c k.1) (cases_of_turns turns remainder)) h.0
    (one_then_none (λ k. (id_in k.0 ≡ Some r.id) × HoldsIn t.signature s v c k.1) (by_turns turns) (map (λ p. (None, p)) remainder)
    (one_turn t s v c r turns sorts met own a.parts (same_member (rules_of turns) r (a.all v c sorts met r m h.1)) h.1)
    (all_made (λ p. (None, p)) (λ k. ¬ ((id_in k.0 ≡ Some r.id) × HoldsIn t.signature s v c k.1)) remainder (every (λ p. ¬ ((None ≡ Some r.id) × HoldsIn t.signature s v c p)) remainder (λ p k. none_is_some k.0)))))
    is (each_member (Contains t.rules) t.rules (λ r m. m))
one_case t s turns remainder v c sorts met a own None is =
    none_then_one (λ k. (id_in k.0 ≡ None) × HoldsIn t.signature s v c k.1) (by_turns turns) (map (λ p. (None, p)) remainder)
    (no_turn_is_none t.signature s v c turns)
    (one_of_made (λ p. (None, p)) (HoldsIn t.signature s v c) (λ k. (id_in k.0 ≡ None) × HoldsIn t.signature s v c k.1) remainder (λ p h. (refl, h)) (λ p h. h.1) (a.remain.divided.each v c sorts met is))

-- the part of a rule that has its turn holds the instance
pub some_turn_case : (t : Theory) (s : SymbolicState) (turns : List Turn) (remainder : List StatePart) (v : Valuation) (c : Value) (r : RewriteRule) → GivesSorts t.signature v s.variables → IsStateInstance t.signature v s c → AreTurns t (whole s) turns remainder → Contains t.rules r → HasTurn t r c →
    AnyByRecursion (λ k. (k.0 ≡ Some r) × HoldsIn t.signature s v c k.1) (cases_of_turns turns remainder)
some_turn_case t s turns remainder v c r sorts met a m turn =
    any_first (λ k. (k.0 ≡ Some r) × HoldsIn t.signature s v c k.1) (by_turns turns) (map (λ p. (None, p)) remainder)
    (some_turn t s v c r turns sorts met a.parts (same_member (rules_of turns) r (a.all v c sorts met r m turn)) turn)

-- the part that holds the instance, by the rule itself
abbrev pub RuleGoes : Theory → Option RewriteRule → Value → Value → Type 0
RuleGoes t (Some r) c next = StepsBy t r c next
RuleGoes t None c next = NoneFires t c × (next ≡ c)

abbrev pub RuleHolds : Theory → SymbolicState → Valuation → Value → Value → Option Text → Placed → Type 0
RuleHolds t s v c next case k = (id_in k.0 ≡ case) × RuleGoes t k.0 c next × HoldsIn t.signature s v c k.1

pub some_case : (t : Theory) (s : SymbolicState) (turns : List Turn) (remainder : List StatePart) (v : Valuation) (c next : Value) → GivesSorts t.signature v s.variables → IsStateInstance t.signature v s c → AreTurns t (whole s) turns remainder →
    (case : Option Text) → GoesTo t case c next → AnyByRecursion (RuleHolds t s v c next case) (cases_of_turns turns remainder)
some_case t s turns remainder v c next sorts met a (Some id) goes =
    any_all (λ r. (r.id ≡ id) × StepsBy t r c next) (Contains t.rules) (AnyByRecursion (RuleHolds t s v c next (Some id)) (cases_of_turns turns remainder)) t.rules
    (λ r h m.
    weaken (λ k. (k.0 ≡ Some r) × HoldsIn t.signature s v c k.1) (RuleHolds t s v c next (Some id)) (cases_of_turns turns remainder)
    (λ k q. (subst (λ o. id_in o ≡ Some id) (sym q.0) (ap Some h.0), subst (λ o. RuleGoes t o c next) (sym q.0) h.1, q.1))
    (some_turn_case t s turns remainder v c r sorts met a m (record { fires = fires_of r h.1; none_before = h.1.none_before })))
    goes (each_member (Contains t.rules) t.rules (λ r m. m))
  where
    fires_by : (b : RuleBody) → Rewrites t.signature b c next → Fires t.signature b c
    fires_by (rewrite r) h = (h.0, h.1)
    fires_by (foreign_rule l) h = h

    fires_of : (r : RewriteRule) → StepsBy t r c next → Fires t.signature r.body c
    fires_of r h = fires_by r.body h.rewrites

    weaken : (P Q : Placed → Type 0) (ks : List Placed) → ((k : Placed) → P k → Q k) → AnyByRecursion P ks → AnyByRecursion Q ks
    weaken P Q [] f h = h
    weaken P Q (k ∷ ks) f h = elim h [ inl x ↦ inl (f k x) | inr y ↦ inr (weaken P Q ks f y) ]
some_case t s turns remainder v c next sorts met a None goes =
    any_second (RuleHolds t s v c next None) (by_turns turns) (map (λ p. (None, p)) remainder)
    (any_made (λ p. (None, p)) (HoldsIn t.signature s v c) (RuleHolds t s v c next None) remainder (λ p h. (refl, goes, h)) (any_of_one (HoldsIn t.signature s v c) remainder (a.remain.divided.each v c sorts met goes.0)))

-- ---- what is so of each case

abbrev pub IsTurnOf : Theory → Option RewriteRule → StatePart → Type 0
IsTurnOf t (Some r) p = Contains t.rules r × OfEachInstance t.signature p (λ w c. HasTurn t r c)
IsTurnOf t None p = OfEachInstance t.signature p (λ w c. NoneFires t c)

pub record IsGoodCase (t : Theory) (s : SymbolicState) (k : StepCase) : Type 0 where
  pub below : IsPartBelow t.signature (whole s) k.part
  pub turn : IsTurnOf t k.rule k.part
  pub next : IsNext t.signature k
  pub hand : IsWithinHand t.signature s k

abbrev IsGoodPlace : Theory → SymbolicState → Placed → Type 0
IsGoodPlace t s k = IsPartBelow t.signature (whole s) k.1 × IsTurnOf t k.0 k.1

good_turns : (t : Theory) (s : SymbolicState) (turns : List Turn) → AllByRecursion (λ x. Contains t.rules x.rule) turns → AllByRecursion (OfTurn t s) turns → AllByRecursion (IsGoodPlace t s) (by_turns turns)
good_turns t s [] members parts = tt
good_turns t s (x ∷ xs) members parts = all_both (IsGoodPlace t s) (map (λ p. (Some x.rule, p)) x.parts) (by_turns xs)
    (all_made (λ p. (Some x.rule, p)) (IsGoodPlace t s) x.parts
    (all_map (λ p. IsPartBelow t.signature (whole s) p × OfEachInstance t.signature p (λ w c. HasTurn t x.rule c)) (λ p. IsGoodPlace t s (Some x.rule, p)) x.parts (λ p h. (h.0, (members.0, h.1)))
    (both_of_all (IsPartBelow t.signature (whole s)) (λ p. OfEachInstance t.signature p (λ w c. HasTurn t x.rule c)) x.parts parts.0.divided.below parts.0.only)))
    (good_turns t s xs members.1 parts.1)

good_places : (t : Theory) (s : SymbolicState) (turns : List Turn) (remainder : List StatePart) → AreTurns t (whole s) turns remainder → AllByRecursion (IsGoodPlace t s) (cases_of_turns turns remainder)
good_places t s turns remainder a = all_both (IsGoodPlace t s) (by_turns turns) (map (λ p. (None, p)) remainder) (good_turns t s turns a.rules a.parts)
    (all_made (λ p. (None, p)) (IsGoodPlace t s) remainder (both_of_all (IsPartBelow t.signature (whole s)) (λ p. OfEachInstance t.signature p (λ w c. NoneFires t c)) remainder a.remain.divided.below a.remain.only))

pub good_cases : (t : Theory) (s : SymbolicState) (cases : List StepCase) → AreStepCases t s cases → AllByRecursion (IsWithinHand t.signature s) cases → AllByRecursion (IsGoodCase t s) cases
good_cases t s cases a hand = all_map (λ k. IsGoodPlace t s (k.rule, k.part) × (IsNext t.signature k × IsWithinHand t.signature s k)) (IsGoodCase t s) cases
    (λ k h. record { below = h.0.0; turn = h.0.1; next = h.1.0; hand = h.1.1 })
    (both_of_all (λ k. IsGoodPlace t s (k.rule, k.part)) (λ k. IsNext t.signature k × IsWithinHand t.signature s k) cases
    (all_unmade placed (IsGoodPlace t s) cases (subst (AllByRecursion (IsGoodPlace t s)) (sym a.of_turns) (good_places t s a.turns a.remainder a.are_turns)))
    (both_of_all (IsNext t.signature) (IsWithinHand t.signature s) cases a.nexts hand))
