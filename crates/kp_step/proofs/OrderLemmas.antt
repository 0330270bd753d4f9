-- Rules in their turn: by number, then by place.
use Rattle.std.proofs.Common.{◌≡◌, refl, sym, ap, subst, ◌∙◌, arith, ℕ, ◌<◌, ◌≤◌, Bool, true, false, not, ◌==◌, ◌&&◌, ◌||◌, List, [], ◌∷◌, ◌++◌, Some, slice_get, inl, inr, ◌⊎◌}
use Rattle.std.specs.Prelude.{nat_lt, if◌then◌else◌}
use Rattle.std.specs.List.{AllByRecursion, Contains, list_all}
use Rattle.std.proofs.lemmas.Bool.Decides.{Decides-eqb, Decides-ltb}
use Rattle.std.proofs.lemmas.List.Elements.{Contains-push, Contains-append_left, Contains-append_right, Contains-append_cases}
use Rattle.kp_kore.specs.Rules.{Rewrite, rewrite, RewriteRule, ForeignLeft, foreign_rule}
use Rattle.kp_kore.specs.Theory.{Theory}
use Rattle.kp_kore.proofs.ListLemmas.{all_map}
use Rattle.kp_kore.proofs.NameLemmas.{true_is_false}
use Rattle.kp_kore.proofs.TurnLemmas.{of_member}
use Rattle.kp_kore.specs.Signature.{KoreSignature}
use Rattle.kp_rules.specs.Bodies.{IsBodyOf, IsCodeOf}
use Rattle.kp_rules.specs.declared.rule.Rule.{Rule}
use Rattle.kp_rules.specs.declared.rule.RuleBody as code_body
use Rattle.kp_rules.specs.declared.rule.RuleBody.TheVariants as bodies
use Rattle.kp_rule_sets.specs.RuleSets.{RunsAs}
use Rattle.kp_rule_sets.specs.Turns.{number_of, goes_before, are_ordered, AreInTurn}
use Rattle.kp_rule_sets.specs.declared.rule_set.RuleSet.{RuleSet}
use Rattle.kp_rule_sets.proofs.Chosen.{times, stands}
use Rattle.kp_step.specs.Places.{IsAt}
use Rattle.kp_step.specs.Found.{PlacedTurn, IsTurnAt, IsTurnAmong}
use Rattle.kp_kore.specs.Syntax.{Text}
use Rattle.kp_case_laws.specs.Parts.{StatePart}
use Rattle.kp_step.specs.Causes.{told_number, GoesBefore}
use Rattle.kp_step.proofs.PlaceLemmas.{counted_is_there, none_again}
use Rattle.kp_step.proofs.RuleLemmas.{code_of, read_number}

-- the code's rules in their turn, each once
abbrev pub InTurn : RuleSet → List ℕ → Type 0
InTurn rules places = AreInTurn rules.rules.items (λ _. true) places

-- each rule's place is there
pub each_is_there : (t : Theory) (rules : RuleSet) (places : List ℕ) (i : ℕ) (r : RewriteRule) → RunsAs t rules → InTurn rules places → IsAt t i r → Contains places i
each_is_there t rules places i r runs turn at =
    let h = code_of t rules i r runs at in
    counted_is_there places i (stands rules.rules.items (λ _. true) places i h.code turn h.there refl)

at_most_one : (b : Bool) (n : ℕ) → n ≡ (if b then 1 else 0) → n ≤ 1
at_most_one true n e = omega (arith, e)
at_most_one false n e = omega (arith, e)

-- and no place comes again
pub none_comes_again : (rules : RuleSet) (before after : List ℕ) (i : ℕ) → InTurn rules (before ++ i ∷ after) → ¬ Contains before i
none_comes_again rules before after i turn = none_again before after i (at_most_one _ (times i (before ++ i ∷ after)) (turn.exact i))

-- ---- those before

first_true : (a b : Bool) → a && b ≡ true → a ≡ true
first_true true b e = refl
first_true false b e = absurd (cc)

second_true : (a b : Bool) → a && b ≡ true → b ≡ true
second_true true b e = e
second_true false b e = absurd (cc)

is_false : (b : Bool) → not b ≡ true → b ≡ false
is_false true e = absurd (cc)
is_false false e = refl

tested : (test : ℕ → Bool) (ks : List ℕ) → list_all test ks ≡ true → AllByRecursion (λ k. test k ≡ true) ks
tested test [] e = tt
tested test (k ∷ ks) e = (first_true (test k) (list_all test ks) e, tested test ks (second_true (test k) (list_all test ks) e))

within : (before after : List ℕ) (i : ℕ) → Contains (before ++ i ∷ after) i
within before after i = Contains-append_right before (i ∷ after) i (Contains-append_left (i ∷ []) after i (Contains-push [] i))

-- the place goes before none of those ahead of it
ahead : (rules : List Rule) (before after : List ℕ) (i : ℕ) → are_ordered rules (before ++ i ∷ after) ≡ true → AllByRecursion (λ j. goes_before rules i j ≡ false) before
ahead rules [] after i e = tt
ahead rules (j ∷ before) after i e =
    let test : ℕ → Bool = λ k. not (goes_before rules k j) in
    let rest = before ++ i ∷ after in (
      is_false (goes_before rules i j) (of_member (λ k. test k ≡ true) rest i (tested test rest (first_true (list_all test rest) (are_ordered rules rest) e)) (within before after i)),
      ahead rules before after i (second_true (list_all test rest) (are_ordered rules rest) e),
    )

-- none of those behind goes before it
behind : (rules : List Rule) (before after : List ℕ) (i : ℕ) → are_ordered rules (before ++ i ∷ after) ≡ true → AllByRecursion (λ j. goes_before rules j i ≡ false) after
behind rules [] after i e =
    let test : ℕ → Bool = λ k. not (goes_before rules k i) in
    all_map (λ k. test k ≡ true) (λ k. goes_before rules k i ≡ false) after (λ k f. is_false (goes_before rules k i) f) (tested test after (first_true (list_all test after) (are_ordered rules after) e))
behind rules (j ∷ before) after i e = behind rules before after i (second_true (list_all (λ k. not (goes_before rules k j)) (before ++ i ∷ after)) (are_ordered rules (before ++ i ∷ after)) e)

-- ---- numbers

not_less : (m n : ℕ) (b : Bool) → nat_lt m n || b ≡ false → n ≤ m
not_less m n b e = by (nat_lt m n) refl e
  where
    by : (d : Bool) → nat_lt m n ≡ d → d || b ≡ false → n ≤ m
    by true l f = absurd (true_is_false f)
    by false l f =
        let nowhere : ¬ (m < n) = λ h. true_is_false (sym ((Decides-ltb m n).1 h) ∙ l) in
        omega (arith, nowhere)

number_at : (rules : RuleSet) (i : ℕ) (y : Rule) → slice_get rules.rules.items i ≡ Some y → number_of (slice_get rules.rules.items i) ≡ y.priority
number_at rules i y e = ap number_of e

-- of two rules that are read, the one ahead has no greater number
pub no_greater : (t : Theory) (rules : RuleSet) (i j : ℕ) (q r : RewriteRule) (m n : Rewrite) → RunsAs t rules → IsAt t i q → IsAt t j r → q.body ≡ rewrite m → r.body ≡ rewrite n → goes_before rules.rules.items j i ≡ false → q.priority ≤ r.priority
no_greater t rules i j q r m n runs a b e f behind_it =
    let h = code_of t rules i q runs a in
    let k = code_of t rules j r runs b in
    let less : number_of (slice_get rules.rules.items i) ≤ number_of (slice_get rules.rules.items j) = not_less (number_of (slice_get rules.rules.items j)) (number_of (slice_get rules.rules.items i)) _ behind_it in
    let x : number_of (slice_get rules.rules.items i) ≡ q.priority = number_at rules i h.code h.there ∙ read_number t rules i q m runs a e h in
    let y : number_of (slice_get rules.rules.items j) ≡ r.priority = number_at rules j k.code k.there ∙ read_number t rules j r n runs b f k in
    omega (arith, less, x, y)

-- one of a smaller number stands ahead
pub smaller_ahead : (t : Theory) (rules : RuleSet) (before after : List ℕ) (i j : ℕ) (q r : RewriteRule) (m n : Rewrite) → RunsAs t rules → InTurn rules (before ++ j ∷ after) → IsAt t i q → IsAt t j r → q.body ≡ rewrite m → r.body ≡ rewrite n → q.priority < r.priority → (i ≡ j → q ≡ r) → Contains before i
smaller_ahead t rules before after i j q r m n runs turn a b e f less same = elim (Contains-append_cases before (j ∷ after) i (each_is_there t rules (before ++ j ∷ after) i q runs turn a)) [
  | inl c ↦ c
  | inr c ↦ elim (Contains-append_cases (j ∷ []) after i c) [
    | inl o ↦ absurd (not_itself (same (only o)))
    | inr d ↦ absurd (not_behind d)
  ]
]
  where
    only : Contains (j ∷ []) i → i ≡ j
    only o = of_member (λ x. x ≡ j) (j ∷ []) i (refl, tt) o

    not_itself : q ≡ r → ⊥
    not_itself d = let s : q.priority ≡ r.priority = ap (λ x. x.priority) d in omega (arith, less, s)

    not_behind : Contains after i → ⊥
    not_behind d =
        let le : r.priority ≤ q.priority = no_greater t rules j i r q n m runs b a f e (of_member (λ x. goes_before rules.rules.items x j ≡ false) after i (behind rules.rules.items before after j turn.ordered) d) in
        omega (arith, less, le)

-- those turns that are found at places ahead have no greater number
pub numbers_ahead : (t : Theory) (used : List Text) (s : StatePart) (rules : RuleSet) (before after : List ℕ) (all turns : List PlacedTurn) (k : PlacedTurn) → RunsAs t rules → InTurn rules (before ++ k.place ∷ after) → AllByRecursion (IsTurnAmong t used s all) turns → AllByRecursion (λ n. Contains before n.place) turns →
    IsTurnAt t used s k → AllByRecursion (λ n. n.priority ≤ k.priority) turns
numbers_ahead t used s rules before after all [] k runs turn h c i = tt
numbers_ahead t used s rules before after all (n ∷ turns) k runs turn h c i =
    let x = h.0.turn in
    let not_before = of_member (λ j. goes_before rules.rules.items k.place j ≡ false) before n.place (ahead rules.rules.items before after k.place turn.ordered) c.0 in
    let le : x.rule.priority ≤ i.rule.priority = no_greater t rules n.place k.place x.rule i.rule x.read i.read runs x.at i.at x.body i.body not_before in
    let a = x.number in
    let b = i.number in
    (omega (arith, le, a, b), numbers_ahead t used s rules before after all turns k runs turn h.1 c.1 i)

-- ---- foreign rules

foreign_number : (g : KoreSignature) (rule : RewriteRule) (y : Rule) (l : ForeignLeft) → IsCodeOf g rule y → rule.body ≡ foreign_rule l → told_number rule ≡ y.priority
foreign_number g rule y l i e = by y.body.value refl (subst (λ b. IsBodyOf g b y.body.value) e i.is_body)
  where
    by : (b : code_body.RuleBody) → y.body.value ≡ b → IsBodyOf g (foreign_rule l) b → told_number rule ≡ y.priority
    by (bodies.Rewrite w) f k = absurd k
    by (bodies.Foreign s) f k = i.is_foreign_priority s f

before_by : (m n i j : ℕ) → (m < n) ⊎ ((m ≡ n) × i < j) → nat_lt m n || (m == n && nat_lt i j) ≡ true
before_by m n i j (inl l) = ap (λ b. b || (m == n && nat_lt i j)) ((Decides-ltb m n).1 l)
before_by m n i j (inr (e, l)) = by (nat_lt m n)
  where
    both : (m == n && nat_lt i j) ≡ true
    both = ap (λ b. b && nat_lt i j) ((Decides-eqb m n).1 e) ∙ (Decides-ltb i j).1 l

    by : (b : Bool) → b || (m == n && nat_lt i j) ≡ true
    by true = refl
    by false = both

pub foreign_before : (t : Theory) (rules : RuleSet) (i j : ℕ) (q r : RewriteRule) (k l : ForeignLeft) → RunsAs t rules → IsAt t i q → IsAt t j r → q.body ≡ foreign_rule k → r.body ≡ foreign_rule l → GoesBefore i q j r → goes_before rules.rules.items i j ≡ true
foreign_before t rules i j q r k l runs a b e f before =
    let h = code_of t rules i q runs a in
    let d = code_of t rules j r runs b in
    let x : told_number q ≡ number_of (slice_get rules.rules.items i) = foreign_number t.signature q h.code k h.is e ∙ sym (number_at rules i h.code h.there) in
    let y : told_number r ≡ number_of (slice_get rules.rules.items j) = foreign_number t.signature r d.code l d.is f ∙ sym (number_at rules j d.code d.there) in
    before_by (number_of (slice_get rules.rules.items i)) (number_of (slice_get rules.rules.items j)) i j
    (subst (λ m. (m < number_of (slice_get rules.rules.items j)) ⊎ ((m ≡ number_of (slice_get rules.rules.items j)) × i < j)) x (subst (λ n. (told_number q < n) ⊎ ((told_number q ≡ n) × i < j)) y before))

before_other : (i j : ℕ) (q r : RewriteRule) → q ≡ r → GoesBefore i q j r → i ≡ j → ⊥
before_other i j q r same (inl l) e = let s : told_number q ≡ told_number r = ap told_number same in omega (arith, l, s)
before_other i j q r same (inr (m, l)) e = omega (arith, l, e)

-- a foreign rule that goes before another stands ahead of it
pub stands_ahead : (t : Theory) (rules : RuleSet) (before after : List ℕ) (i j : ℕ) (q r : RewriteRule) (k l : ForeignLeft) → RunsAs t rules → InTurn rules (before ++ j ∷ after) → IsAt t i q → IsAt t j r → q.body ≡ foreign_rule k → r.body ≡ foreign_rule l → GoesBefore i q j r → (i ≡ j → q ≡ r) →
    Contains before i
stands_ahead t rules before after i j q r k l runs turn a b e f goes same = elim (Contains-append_cases before (j ∷ after) i (each_is_there t rules (before ++ j ∷ after) i q runs turn a)) [
  | inl c ↦ c
  | inr c ↦ elim (Contains-append_cases (j ∷ []) after i c) [
    | inl o ↦ absurd (let d = only o in before_other i j q r (same d) goes d)
    | inr d ↦ absurd (true_is_false (sym (foreign_before t rules i j q r k l runs a b e f goes) ∙ of_member (λ x. goes_before rules.rules.items x j ≡ false) after i (behind rules.rules.items before after j turn.ordered) d))
  ]
]
  where
    only : Contains (j ∷ []) i → i ≡ j
    only o = of_member (λ x. x ≡ j) (j ∷ []) i (refl, tt) o
