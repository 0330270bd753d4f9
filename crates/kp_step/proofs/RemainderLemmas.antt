-- The parts that rules leave, rule by rule and part by part.
use Rattle.std.proofs.Common.{◌≡◌, sym, subst, List, [], ◌∷◌, ◌++◌, Option, Some, None, inl, inr}
use Rattle.std.specs.List.{AllByRecursion, Contains}
use Rattle.std.proofs.lemmas.List.{append_assoc, map-append}
use Rattle.std.proofs.lemmas.List.Elements.{Contains-append_left, Contains-push}
use Rattle.kp_kore.specs.Syntax.{Text}
use Rattle.kp_kore.specs.Parts.{SortedName}
use Rattle.kp_kore.specs.Signature.{KoreSignature}
use Rattle.kp_kore.specs.Rules.{RuleBody, RewriteRule}
use Rattle.kp_kore.specs.Steps.{Fires}
use Rattle.kp_kore.proofs.TurnLemmas.{each_member}
use Rattle.kp_symbolic.specs.WellFormed.{AreAtHand}
use Rattle.kp_symbolic.proofs.Distribution.{all_both, all_first, all_second}
use Rattle.kp_case_laws.specs.Parts.{StatePart, OfEachInstance, IsPartBelow, IsGrown}
use Rattle.kp_case_laws.proofs.PartLemmas.{below_below, below_itself}
use Rattle.kp_case_laws.proofs.GrownLemmas.{grown_further, grown_itself}
use Rattle.kp_case_laws.proofs.AtHandLemmas.{hand_in_hand}
use Rattle.kp_case_laws.specs.Firing.{HasNoInstance, AreWhere, AreDividedSoFar}
use Rattle.kp_case_laws.specs.Turns.{RemainsTo, TakesFrom}
use Rattle.kp_case_laws.proofs.PartsWhere.{sets_out, goes_on, drops_parts}
use Rattle.kp_case_laws.proofs.TurnsFound.{left_to_none, left_to_rule, less_is_left, as_much_is_left}
use Rattle.kp_unify.specs.Narrowed.{NumberedPart}
use Rattle.kp_step.specs.ReadyParts.{IsReadyPart, HasInstance, parts_of}
use Rattle.kp_step.specs.Comes.{itself}
use Rattle.kp_step.specs.Silent.{IsFurther}
use Rattle.kp_step.proofs.ComesLemmas.{comes_by_more, comes_further}
use Rattle.kp_step.specs.Remainders.{IsPartIn, IsOneOf, IsOfThese, AreUntaken, RemainSoFar, AreKept, none_left, is_kept, falls_away}

both_parts : (xs ys : List NumberedPart) → parts_of (xs ++ ys) ≡ parts_of xs ++ parts_of ys
both_parts xs ys = map-append (λ q. q.part) xs ys

-- ---- variables at hand

pub itself_at_hand : (xs : List SortedName) → AreAtHand xs xs
itself_at_hand xs = each_member (λ x. Contains xs x) xs (λ x c. c)

pub grown_hand : (g : KoreSignature) (used : List Text) (p r : StatePart) → IsGrown g used p r → AreAtHand p.state.variables r.state.variables
grown_hand g used p r a = subst (λ ys. AreAtHand p.state.variables ys) (sym a.variables) (each_member (λ x. Contains (p.state.variables ++ a.new) x) p.state.variables (λ x c. Contains-append_left p.state.variables a.new x c))

-- ---- at first

-- all of the state is left to none
pub all_is_left : (g : KoreSignature) (used : List Text) (q : NumberedPart) → IsReadyPart g used q → AreUntaken g used None [] q.part q.part (q ∷ [])
all_is_left g used q ready = record {
  left = left_to_none g q.part ready.told;
  each = (record { below = below_itself g q.part ready.told; at_hand = itself_at_hand q.part.state.variables; grown = grown_itself g used q.part; ready = ready }, tt);
  comes = (itself, tt);
}

-- where a rule fires is left to it
pub firing_is_left : (g : KoreSignature) (used : List Text) (r : RewriteRule) (s m : StatePart) (q : NumberedPart) → AreWhere g (λ c. Fires g r.body c) s (q.part ∷ []) → IsPartIn g used s m q → IsOfThese g (Some r) [] s q → AreUntaken g used (Some r) [] s m (q ∷ [])
firing_is_left g used r s m q fires at comes = record { left = left_to_rule g r s (q.part ∷ []) fires; each = (at, tt); comes = (comes, tt) }

-- ---- while a rule takes

-- by one rule more
one_more : (o : Option RewriteRule) (turns : List RewriteRule) (q : RewriteRule) (b : RuleBody) → IsOneOf o turns b → IsOneOf o (turns ++ q ∷ []) b
one_more o turns q b (r, inl c, e) = (r, inl (Contains-append_left turns (q ∷ []) r c), e)
one_more o turns q b (r, inr c, e) = (r, inr c, e)

all_by_more : (g : KoreSignature) (o : Option RewriteRule) (turns : List RewriteRule) (q : RewriteRule) (s : StatePart) (parts : List NumberedPart) → AllByRecursion (IsOfThese g o turns s) parts → AllByRecursion (IsOfThese g o (turns ++ q ∷ []) s) parts
all_by_more g o turns q s [] h = tt
all_by_more g o turns q s (p ∷ parts) h = (comes_by_more g (IsOneOf o turns) (IsOneOf o (turns ++ q ∷ [])) s p.part (one_more o turns q) h.0, all_by_more g o turns q s parts h.1)

-- what the rule leaves of a part
each_of_rule : (g : KoreSignature) (used : List Text) (o : Option RewriteRule) (turns : List RewriteRule) (q : RewriteRule) (s : StatePart) (r : NumberedPart) (more : List NumberedPart) → IsOfThese g o (turns ++ q ∷ []) s r → AllByRecursion (IsFurther g used q.body r.part) more → AllByRecursion (IsOfThese g o (turns ++ q ∷ []) s) more
each_of_rule g used o turns q s r [] c f = tt
each_of_rule g used o turns q s r (p ∷ more) c f = (
  comes_further g (IsOneOf o (turns ++ q ∷ [])) s r.part p.part c
      (comes_by_more g (λ b. b ≡ q.body) (IsOneOf o (turns ++ q ∷ [])) r.part p.part (λ b e. (q, inl (Contains-push turns q), sym e)) f.0.comes),
  each_of_rule g used o turns q s r more c f.1,
)

pub rule_sets_out : (g : KoreSignature) (used : List Text) (o : Option RewriteRule) (turns : List RewriteRule) (q : RewriteRule) (s m : StatePart) (parts : List NumberedPart) → AreUntaken g used o turns s m parts → RemainSoFar g used o turns q s m [] parts
rule_sets_out g used o turns q s m parts l = record {
  left = sets_out g (RemainsTo g o turns) (λ c. ¬ Fires g q.body c) s (parts_of parts) l.left;
  each_done = tt;
  each_waiting = l.each;
  comes_done = tt;
  comes_waiting = all_by_more g o turns q s parts l.comes;
}

each_further : (g : KoreSignature) (used : List Text) (body : RuleBody) (s m : StatePart) (r : NumberedPart) (more : List NumberedPart) → IsPartIn g used s m r → AllByRecursion (IsPartBelow g r.part) (parts_of more) → AllByRecursion (IsFurther g used body r.part) more → AllByRecursion (IsPartIn g used s m) more
each_further g used body s m r [] i b f = tt
each_further g used body s m r (q ∷ more) i b f = (
  record { below = below_below g m r.part q.part i.below b.0; at_hand = hand_in_hand m.state.variables r.part.state.variables q.part.state.variables i.at_hand (grown_hand g used r.part q.part f.0.grown); grown = grown_further g used s r.part q.part i.grown f.0.grown; ready = f.0.ready },
  each_further g used body s m r more i b.1 f.1,
)

pub rule_goes_on : (g : KoreSignature) (used : List Text) (o : Option RewriteRule) (turns : List RewriteRule) (q : RewriteRule) (s m : StatePart) (done waiting more : List NumberedPart) (r : NumberedPart) →
    RemainSoFar g used o turns q s m done (r ∷ waiting) → AreWhere g (λ c. ¬ Fires g q.body c) r.part (parts_of more) → AllByRecursion (IsFurther g used q.body r.part) more → RemainSoFar g used o turns q s m (done ++ more) waiting
rule_goes_on g used o turns q s m done waiting more r l w f = record {
  left = subst (λ ps. AreDividedSoFar g (RemainsTo g o turns) (λ c. ¬ Fires g q.body c) s ps (parts_of waiting)) (sym (both_parts done more))
      (goes_on g (RemainsTo g o turns) (λ c. ¬ Fires g q.body c) s r.part (parts_of done) (parts_of waiting) (parts_of more) l.left w);
  each_done = all_both (IsPartIn g used s m) done more l.each_done (each_further g used q.body s m r more l.each_waiting.0 w.divided.below f);
  each_waiting = l.each_waiting.1;
  comes_done = all_both (IsOfThese g o (turns ++ q ∷ []) s) done more l.comes_done (each_of_rule g used o turns q s r more l.comes_waiting.0 f);
  comes_waiting = l.comes_waiting.1;
}

pub rule_arrives : (g : KoreSignature) (used : List Text) (o : Option RewriteRule) (turns : List RewriteRule) (q : RewriteRule) (s m : StatePart) (parts : List NumberedPart) → TakesFrom q o → RemainSoFar g used o turns q s m parts [] → AreUntaken g used o (turns ++ q ∷ []) s m parts
rule_arrives g used o turns q s m parts t l = record { left = less_is_left g o turns q s (parts_of parts) t l.left; each = l.each_done; comes = l.comes_done }

pub rule_passes : (g : KoreSignature) (used : List Text) (o : Option RewriteRule) (turns : List RewriteRule) (q : RewriteRule) (s m : StatePart) (parts : List NumberedPart) → (¬ TakesFrom q o) → AreUntaken g used o turns s m parts → AreUntaken g used o (turns ++ q ∷ []) s m parts
rule_passes g used o turns q s m parts t l = record { left = as_much_is_left g o turns q s (parts_of parts) t l.left; each = l.each; comes = all_by_more g o turns q s parts l.comes }

-- ---- parts without an instance

drops_one : (g : KoreSignature) (used : List Text) (o : Option RewriteRule) (turns : List RewriteRule) (s m : StatePart) (before after : List NumberedPart) (q : NumberedPart) → HasNoInstance g q.part → AreUntaken g used o turns s m (before ++ q ∷ after) → AreUntaken g used o turns s m (before ++ after)
drops_one g used o turns s m before after q none l = record {
  left = subst (AreWhere g (RemainsTo g o turns) s) (sym (both_parts before after))
      (drops_parts g (RemainsTo g o turns) s q.part (parts_of before) (parts_of after) none (subst (AreWhere g (RemainsTo g o turns) s) (both_parts before (q ∷ after)) l.left));
  each = all_both (IsPartIn g used s m) before after (all_first (IsPartIn g used s m) before (q ∷ after) l.each) (all_second (IsPartIn g used s m) before (q ∷ after) l.each).1;
  comes = let These = IsOfThese g o turns s in all_both These before after (all_first These before (q ∷ after) l.comes) (all_second These before (q ∷ after) l.comes).1;
}

kept_behind : (g : KoreSignature) (used : List Text) (o : Option RewriteRule) (turns : List RewriteRule) (s m : StatePart) (before ps ks : List NumberedPart) → AreKept g ps ks → AreUntaken g used o turns s m (before ++ ps) → AreUntaken g used o turns s m (before ++ ks)
kept_behind g used o turns s m before _ _ none_left l = l
kept_behind g used o turns s m before _ _ (is_kept q ps ks i k) l =
    subst (AreUntaken g used o turns s m) (append_assoc before (q ∷ []) ks)
    (kept_behind g used o turns s m (before ++ q ∷ []) ps ks k (subst (AreUntaken g used o turns s m) (sym (append_assoc before (q ∷ []) ps)) l))
kept_behind g used o turns s m before _ ks (falls_away q ps _ n k) l = kept_behind g used o turns s m before ps ks k (drops_one g used o turns s m before ps q n l)

pub kept_is_left : (g : KoreSignature) (used : List Text) (o : Option RewriteRule) (turns : List RewriteRule) (s m : StatePart) (ps ks : List NumberedPart) → AreKept g ps ks → AreUntaken g used o turns s m ps → AreUntaken g used o turns s m ks
kept_is_left g used o turns s m ps ks k l = kept_behind g used o turns s m [] ps ks k l

pub kept_have : (g : KoreSignature) (ps ks : List NumberedPart) → AreKept g ps ks → AllByRecursion (HasInstance g) (parts_of ks)
kept_have g _ _ none_left = tt
kept_have g _ _ (is_kept q ps ks i k) = (i, kept_have g ps ks k)
kept_have g _ ks (falls_away q ps _ n k) = kept_have g ps ks k

-- one after the other, from the left
pub kept_more : (g : KoreSignature) (found rest all : List NumberedPart) (q : NumberedPart) → HasInstance g q.part → ((ks : List NumberedPart) → AreKept g (q ∷ rest) ks → AreKept g all (found ++ ks)) → (ks : List NumberedPart) → AreKept g rest ks → AreKept g all ((found ++ q ∷ []) ++ ks)
kept_more g found rest all q i f ks k = subst (AreKept g all) (sym (append_assoc found (q ∷ []) ks)) (f (q ∷ ks) (is_kept q rest ks i k))

pub kept_less : (g : KoreSignature) (found rest all : List NumberedPart) (q : NumberedPart) → HasNoInstance g q.part → ((ks : List NumberedPart) → AreKept g (q ∷ rest) ks → AreKept g all (found ++ ks)) → (ks : List NumberedPart) → AreKept g rest ks → AreKept g all (found ++ ks)
kept_less g found rest all q n f ks k = f ks (falls_away q rest ks n k)

pub none_kept : (g : KoreSignature) (ps : List NumberedPart) → AreKept g ps [] → AllByRecursion (HasNoInstance g) (parts_of ps)
none_kept g [] k = tt
none_kept g (q ∷ ps) (falls_away _ _ _ n k) = (n, none_kept g ps k)

-- ---- where nothing is left

-- of parts of which nothing is left, one more
pub everywhere_more : (g : KoreSignature) (q : RewriteRule) (taken done more : List NumberedPart) (r : NumberedPart) → (AllByRecursion (HasNoInstance g) (parts_of done) → AllByRecursion (λ p. OfEachInstance g p (λ w c. Fires g q.body c)) (parts_of taken)) →
    (AllByRecursion (HasNoInstance g) (parts_of more) → OfEachInstance g r.part (λ w c. Fires g q.body c)) → AllByRecursion (HasNoInstance g) (parts_of (done ++ more)) → AllByRecursion (λ p. OfEachInstance g p (λ w c. Fires g q.body c)) (parts_of (taken ++ r ∷ []))
everywhere_more g q taken done more r f h none =
    let both : AllByRecursion (HasNoInstance g) (parts_of done ++ parts_of more) = subst (AllByRecursion (HasNoInstance g)) (both_parts done more) none in
    subst (AllByRecursion (λ p. OfEachInstance g p (λ w c. Fires g q.body c))) (sym (both_parts taken (r ∷ [])))
    (all_both (λ p. OfEachInstance g p (λ w c. Fires g q.body c)) (parts_of taken) (r.part ∷ []) (f (all_first (HasNoInstance g) (parts_of done) (parts_of more) both)) (h (all_second (HasNoInstance g) (parts_of done) (parts_of more) both), tt))
