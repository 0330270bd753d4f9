-- Rules that take from what is left to another, or to none.
use Rattle.std.proofs.Common.{◌≡◌, refl, sym, ap, subst, ◌∙◌, arith, ℕ, zero, suc, ◌+◌, ◌<◌, ◌≤◌, Bool, true, List, [], ◌∷◌, ◌++◌, map, length, get_or, take, drop, Option, Some, None, ◌↔◌}
use Rattle.std.specs.Prelude.{IsTrue}
use Rattle.std.specs.List.{AllByRecursion, AllZip}
use Rattle.std.proofs.lemmas.List.{map-append}
use Rattle.kp_kore.specs.Syntax.{Text}
use Rattle.kp_kore.specs.Signature.{KoreSignature}
use Rattle.kp_kore.specs.Rules.{Rewrite, rewrite, RewriteRule}
use Rattle.kp_kore.specs.Theory.{Theory}
use Rattle.kp_kore.specs.Steps.{Fires}
use Rattle.kp_rules.specs.Sides.{AreSidesOf}
use Rattle.kp_rules.specs.VerifiedSides.{AreVerifiedSides}
use Rattle.kp_rules.specs.declared.rule.Rewrite as code
use Rattle.kp_rule_sets.specs.declared.rule_set.RuleSet.{RuleSet}
use Rattle.kp_case_laws.specs.Parts.{StatePart, OfEachInstance}
use Rattle.kp_case_laws.specs.Firing.{HasNoInstance}
use Rattle.kp_case_laws.specs.Turns.{TakesFrom}
use Rattle.kp_unify.specs.Narrowed.{NumberedPart}
use Rattle.kp_unify.specs.Views.{signature_of, numbered_view}
use Rattle.kp_unify.specs.declared.part.Setting.{Setting}
use Rattle.kp_unify.specs.declared.part.Part.{Part}
use Rattle.kp_step.specs.ReadyParts.{IsReadyPart, parts_of}
use Rattle.kp_step.specs.Silent.{IsExcluded}
use Rattle.kp_step.specs.Places.{IsAt}
use Rattle.kp_step.specs.Rules.{Steps, IsReadAt}
use Rattle.kp_step.specs.Remainders.{TakesBy, IsNumberOf, RemainSoFar, OneTakesAll}
use Rattle.kp_step.specs.Answers.{AreWithout}
use Rattle.kp_step.specs.Views.{numbered_views}
use Rattle.kp_step.proofs.FoundLemmas.{one_at}
use Rattle.kp_step.proofs.LoopLemmas.{taken_views, waiting_views, all_taken_views, none_waiting_views}
use Rattle.kp_step.proofs.RemainderLemmas.{rule_goes_on, rule_arrives, everywhere_more}

-- by numbers, as the code asks
pub takes_by : (p : ℕ) (n : Option ℕ) (q : RewriteRule) (o : Option RewriteRule) → IsNumberOf n o → q.priority ≡ p → TakesBy p n ↔ TakesFrom q o
takes_by p None q None i e = ((λ t. tt), (λ t. tt))
takes_by p (Some n) q (Some r) i e = (
  (λ t. subst (λ m. m < r.priority) (sym e) (subst (λ m. p < m) (sym i) t)),
  (λ t. subst (λ m. p < m) i (subst (λ m. m < r.priority) e t)),
)
takes_by p None q (Some r) i e = absurd i
takes_by p (Some n) q None i e = absurd i

pub takes_by_test : (b : Bool) (p : ℕ) (n : Option ℕ) (q : RewriteRule) (o : Option RewriteRule) → IsTrue b ↔ TakesBy p n → IsNumberOf n o → q.priority ≡ p → b ≡ true → TakesFrom q o
takes_by_test b p n q o k i e t = (takes_by p n q o i e).0 (k.0 t)

pub passes_by_test : (b : Bool) (p : ℕ) (n : Option ℕ) (q : RewriteRule) (o : Option RewriteRule) → IsTrue b ↔ TakesBy p n → IsNumberOf n o → q.priority ≡ p → ¬ (b ≡ true) → ¬ TakesFrom q o
passes_by_test b p n q o k i e f t = f (k.1 ((takes_by p n q o i e).1 t))

pub takes_all : (b : Bool) (p : ℕ) (n : Option ℕ) → IsTrue b ↔ TakesBy p n → n ≡ None → b ≡ true
takes_all b p n k e = k.1 (subst (TakesBy p) (sym e) tt)

-- one part more
pub one_part_more : (g : KoreSignature) (used : List Text) (o : Option RewriteRule) (turns : List RewriteRule) (q : RewriteRule) (s m : StatePart) (before done waiting more : List NumberedPart) (r : NumberedPart) → IsExcluded g used q.body r.part more →
    RemainSoFar g used o turns q s m done (r ∷ waiting) → (AllByRecursion (HasNoInstance g) (parts_of done) → AllByRecursion (λ p. OfEachInstance g p (λ w c. Fires g q.body c)) (parts_of before)) →
    RemainSoFar g used o turns q s m (done ++ more) waiting × (AllByRecursion (HasNoInstance g) (parts_of (done ++ more)) → AllByRecursion (λ p. OfEachInstance g p (λ w c. Fires g q.body c)) (parts_of (before ++ r ∷ [])))
one_part_more g used o turns q s m before done waiting more r x l f = (
  rule_goes_on g used o turns q s m done waiting more r l x.silent x.each,
  everywhere_more g q before done more r f x.everywhere,
)

-- all parts
pub all_without : (g : KoreSignature) (used : List Text) (o : Option RewriteRule) (turns : List RewriteRule) (q : RewriteRule) (s m : StatePart) (parts left : List NumberedPart) → TakesFrom q o → RemainSoFar g used o turns q s m left [] →
    (AllByRecursion (HasNoInstance g) (parts_of left) → AllByRecursion (λ p. OfEachInstance g p (λ w c. Fires g q.body c)) (parts_of parts)) → AreWithout g used o turns q s m parts left
all_without g used o turns q s m parts left t l f = record { are_left = rule_arrives g used o turns q s m left t l; everywhere = f }

-- ---- rule by rule

pub one_takes_more : (g : KoreSignature) (found : List RewriteRule) (q : RewriteRule) (parts before left : List NumberedPart) → (found ≡ [] → before ≡ parts) → OneTakesAll g (q ∷ []) before left → OneTakesAll g (found ++ q ∷ []) parts left
one_takes_more g [] q parts before left e o = subst (λ ps. OneTakesAll g (q ∷ []) ps left) (e refl) o
one_takes_more g (r ∷ []) q parts before left e o = tt
one_takes_more g (r ∷ s ∷ found) q parts before left e o = tt

pub some_found : {X : Type 0} (xs : List X) (x : X) → xs ++ x ∷ [] ≡ [] → ⊥
some_found [] x e = absurd (cc)
some_found (y ∷ xs) x e = absurd (cc)

-- ---- as the loop over parts goes

abbrev pub Taking : KoreSignature → List Text → Option RewriteRule → List RewriteRule → RewriteRule → StatePart → StatePart → List Part → ℕ → List Part → Type 0
Taking g used o turns q s m parts i found =
    RemainSoFar g used o turns q s m (numbered_views found) (numbered_views (drop i parts))
    × (AllByRecursion (HasNoInstance g) (parts_of (numbered_views found)) → AllByRecursion (λ r. OfEachInstance g r (λ w c. Fires g q.body c)) (parts_of (numbered_views (take i parts))))

pub takes_ready : (g : KoreSignature) (used : List Text) (o : Option RewriteRule) (turns : List RewriteRule) (q : RewriteRule) (s m : StatePart) (parts : List Part) (i : ℕ) (p : Part) (found : List Part) → i < length parts → p ≡ get_or parts i p → Taking g used o turns q s m parts i found → IsReadyPart g used (numbered_view p)
takes_ready g used o turns q s m parts i p found h e t =
    let l : RemainSoFar g used o turns q s m (numbered_views found) (numbered_view p ∷ numbered_views (drop (i + 1) parts)) = subst (RemainSoFar g used o turns q s m (numbered_views found)) (waiting_views numbered_view parts i p h e) t.0 in
    l.each_waiting.0.ready

pub takes_part : (g : KoreSignature) (used : List Text) (o : Option RewriteRule) (turns : List RewriteRule) (q : RewriteRule) (s m : StatePart) (parts : List Part) (i : ℕ) (p : Part) (found new more : List Part) → i < length parts → p ≡ get_or parts i p → new ≡ found ++ more → IsExcluded g used q.body (numbered_view p).part (numbered_views more) →
    Taking g used o turns q s m parts i found → Taking g used o turns q s m parts (i + 1) new
takes_part g used o turns q s m parts i p found new more h e n x t =
    let rest = numbered_views (drop (i + 1) parts) in
    let before = numbered_views (take i parts) in
    let l : RemainSoFar g used o turns q s m (numbered_views found) (numbered_view p ∷ rest) = subst (RemainSoFar g used o turns q s m (numbered_views found)) (waiting_views numbered_view parts i p h e) t.0 in
    let both = one_part_more g used o turns q s m before (numbered_views found) rest (numbered_views more) (numbered_view p) x l t.1 in
    let seen : numbered_views new ≡ numbered_views found ++ numbered_views more = ap numbered_views n ∙ map-append numbered_view found more in
    let ahead : numbered_views (take (i + 1) parts) ≡ before ++ numbered_view p ∷ [] = taken_views numbered_view parts i p h e in (
      subst (λ ds. RemainSoFar g used o turns q s m ds rest) (sym seen) both.0,
      subst (λ bs. AllByRecursion (HasNoInstance g) (parts_of (numbered_views new)) → AllByRecursion (λ r. OfEachInstance g r (λ w c. Fires g q.body c)) (parts_of bs)) (sym ahead)
          (subst (λ ds. AllByRecursion (HasNoInstance g) (parts_of ds) → AllByRecursion (λ r. OfEachInstance g r (λ w c. Fires g q.body c)) (parts_of (before ++ numbered_view p ∷ []))) (sym seen) both.1),
    )

pub takes_end : (g : KoreSignature) (used : List Text) (o : Option RewriteRule) (turns : List RewriteRule) (q : RewriteRule) (s m : StatePart) (parts : List Part) (i : ℕ) (found : List Part) → length parts ≤ i → TakesFrom q o → Taking g used o turns q s m parts i found → AreWithout g used o turns q s m (numbered_views parts) (numbered_views found)
takes_end g used o turns q s m parts i found past k t =
    all_without g used o turns q s m (numbered_views parts) (numbered_views found) k
    (subst (RemainSoFar g used o turns q s m (numbered_views found)) (none_waiting_views numbered_view parts i past) t.0)
    (subst (λ bs. AllByRecursion (HasNoInstance g) (parts_of (numbered_views found)) → AllByRecursion (λ r. OfEachInstance g r (λ w c. Fires g q.body c)) (parts_of bs)) (all_taken_views numbered_view parts i past) t.1)

-- ---- as the loop over turns goes

-- the rule of the turn at an index
pub zip_item : {A X Y : Type 0} (R : X → Y → Type 0) (v : A → X) (xs : List A) (ys : List Y) (i : ℕ) (x : A) → i < length xs → x ≡ get_or xs i x → AllZip R (map v xs) ys → (y : Y) × R (v x) y × (take (i + 1) ys ≡ take i ys ++ y ∷ [])
zip_item R v [] ys i x h e z = absurd (omega (arith, h))
zip_item R v (a ∷ xs) [] i x h e z = absurd z
zip_item R v (a ∷ xs) (y ∷ ys) zero x h e z = (y, subst (λ b. R (v b) y) (sym e) z.0, refl)
zip_item R v (a ∷ xs) (y ∷ ys) (suc i) x h e z = let r = zip_item R v xs ys i x (omega (arith, h)) e z.1 in let one : suc i + 1 ≡ suc (i + 1) = omega arith in (r.0, r.1, ap (λ n. take n (y ∷ ys)) one ∙ ap (λ zs. y ∷ zs) r.2)

pub zip_length : {A X Y : Type 0} (R : X → Y → Type 0) (v : A → X) (xs : List A) (ys : List Y) → AllZip R (map v xs) ys → length ys ≡ length xs
zip_length R v [] [] z = refl
zip_length R v [] (y ∷ ys) z = absurd z
zip_length R v (a ∷ xs) [] z = absurd z
zip_length R v (a ∷ xs) (y ∷ ys) z = ap suc (zip_length R v xs ys z.1)

-- what is read at a turn's place is the turn's rule
pub record IsReadOf (t : Theory) (k : Setting) (w : code.Rewrite) (q : RewriteRule) : Type 0 where
  pub read : Rewrite
  pub body : q.body ≡ rewrite read
  pub sides : AreSidesOf (signature_of k) read w.sides
  pub verified : AreVerifiedSides (signature_of k) read

pub reads : (t : Theory) (k : Setting) (rules : RuleSet) (place : ℕ) (w : code.Rewrite) (q : RewriteRule) → Steps t k rules → IsReadAt t place w → IsAt t place q → IsReadOf t k w q
reads t k rules place w q s x at = record {
  read = x.read;
  body = sym (ap (λ r. r.body) (one_at t place x.rule q x.at at)) ∙ x.body;
  sides = subst (λ g. AreSidesOf g x.read w.sides) (sym s.signature) x.is.sides;
  verified = subst (λ g. AreVerifiedSides g x.read) (sym s.signature) x.is.verified;
}
