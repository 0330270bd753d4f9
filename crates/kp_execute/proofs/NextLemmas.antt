-- What is written for the cases of a step is what the laws of next states ask.
use Rattle.std.proofs.Common.{◌≡◌, refl, sym, ap, ◌∙◌, subst, ◌⊎◌, inl, inr, true, false, not, List, [], ◌∷◌, ◌++◌, Option, Some, None}
use Rattle.std.specs.List.{AllByRecursion, AllZip, Contains, list_any}
use Rattle.std.specs.Option.{option_map}
use Rattle.std.specs.Str.{bytes_eq}
use Rattle.kp_kore.specs.Syntax.{Text, KoreSort, KorePattern}
use Rattle.kp_kore.specs.Parts.{SortedName, free_variables}
use Rattle.kp_kore.specs.Signature.{KoreSignature}
use Rattle.kp_kore.specs.Instance.{is_named}
use Rattle.kp_kore.specs.Replies.{IsFreshName, IsAbsent, variables_beyond}
use Rattle.kp_kore.specs.AtHand.{HasNewNames}
use Rattle.kp_kore.specs.Rules.{RewriteRule}
use Rattle.kp_kore.specs.Theory.{Theory}
use Rattle.kp_kore.specs.Cases.{NextState}
use Rattle.kp_kore.proofs.ListLemmas.{all_append, all_map, all_filter}
use Rattle.kp_kore.proofs.TurnLemmas.{each_member}
use Rattle.kp_symbolic.specs.States.{SymbolicState}
use Rattle.kp_symbolic.specs.WellFormed.{AreAtHand}
use Rattle.kp_symbolic_laws.specs.Safe.{IsSafe}
use Rattle.kp_symbolic.specs.View.{state_view}
use Rattle.kp_case_laws.specs.Parts.{StatePart, whole, IsNewVariable, IsGrown}
use Rattle.kp_case_laws.specs.NextStates.{StepCase, HasNoLost, IsPatternOf, IsWritten, IsWithinHand}
use Rattle.kp_case_laws.proofs.AtHandLemmas.{of_hand, hand_in_hand, member_named}
use Rattle.kp_unify.specs.Views.{part_view}
use Rattle.kp_unify.specs.declared.part.Part.{Part}
use Rattle.kp_step.specs.RightSteps.{IsCaseOf, IsRemainderOf, GoesOnFrom, RemainsOf}
use Rattle.kp_step.specs.declared.outcome.Next.{Next}
use Rattle.kp_results.specs.Results.{StateParts, NextParts, IsPatternOf as IsReadAs, IsNextOf}
use Rattle.kp_execute.specs.Written.{IsNextWritten, IsRemainderWritten, MentionsNoLost, joined, pattern_of}
use Rattle.kp_execute.specs.Told.{IsAddedRight}
use Rattle.kp_execute.proofs.JoinedLemmas.{state_pattern}
use Rattle.kp_execute.proofs.AddedLemmas.{CanBeTold, SaysAdded, added_says}

-- ---- new names

-- of the variables at hand, or new
abbrev IsOldOrNew : List SortedName → KorePattern → SortedName → Type 0
IsOldOrNew hand request x = (is_named x.name hand ≡ true) ⊎ (IsFreshName x.name × IsAbsent x.name request)

true_false : true ≡ false → ⊥
true_false e = cc

only_new : (hand : List SortedName) (request : KorePattern) (xs : List SortedName) → AllByRecursion (λ x. is_named x.name hand ≡ false) xs → AllByRecursion (IsOldOrNew hand request) xs → AllByRecursion (λ x. IsFreshName x.name × IsAbsent x.name request) xs
only_new hand request [] n o = tt
only_new hand request (x ∷ xs) n o = (elim (o.0) [ inl e ↦ absurd (true_false (sym e ∙ n.0)) | inr h ↦ h ], only_new hand request xs n.1 o.1)

-- the later state has variables at hand, and new ones
grown_names : (g : KoreSignature) (used : List Text) (request : KorePattern) (hand : List SortedName) (s : SymbolicState) (r : StatePart) → ((x : Text) → list_any (bytes_eq x) used ≡ false → IsAbsent x request) → AreAtHand s.variables hand → IsGrown g used (whole s) r → AllByRecursion (IsOldOrNew hand request) r.state.variables
grown_names g used request hand s r free all grown = subst (AllByRecursion (IsOldOrNew hand request)) (sym grown.variables) (all_append (IsOldOrNew hand request) s.variables grown.new
    (all_map (Contains hand) (IsOldOrNew hand request) s.variables (λ x m. inl (member_named hand x m)) all)
    (all_map (IsNewVariable g used) (IsOldOrNew hand request) grown.new (λ x n. inr (n.0, free x.name n.1)) grown.each))

pub new_names : (g : KoreSignature) (used : List Text) (request p q : KorePattern) (hand : List SortedName) (s : SymbolicState) (r : StatePart) → ((x : Text) → list_any (bytes_eq x) used ≡ false → IsAbsent x request) → AreAtHand s.variables hand → IsGrown g used (whole s) r → AreAtHand (free_variables q) r.state.variables → HasNoLost hand p q → HasNewNames request p q
new_names g used request p q hand s r free all grown at_hand lost =
    only_new hand request (variables_beyond p q) lost
    (all_filter (IsOldOrNew hand request) (λ x. not (is_named x.name (free_variables p))) (free_variables q)
    (of_hand (IsOldOrNew hand request) (free_variables q) r.state.variables at_hand (grown_names g used request hand s r free all grown)))

-- ---- one case

-- a part of s that remains, with new variables besides
pub record IsToldPart (g : KoreSignature) (used : List Text) (s : SymbolicState) (p : StatePart) : Type 0 where
  pub grown : IsGrown g used (whole s) p
  pub safe : IsSafe g p.state
  pub added : CanBeTold g p

all_here : (xs : List SortedName) → AreAtHand xs xs
all_here xs = each_member (Contains xs) xs (λ x m. m)

-- the sort of \and isn't mentioned
same_lost : (hand : List SortedName) (p t : KorePattern) (a b : KoreSort) (o : Option KorePattern) → HasNoLost hand p (joined a t o) → HasNoLost hand p (joined b t o)
same_lost hand p t a b None h = h
same_lost hand p t a b (Some q) h = h

-- the state's pattern, with the sort of its state
abbrev pub next_of : KoreSort → NextParts → NextState
next_of sort x = record { rule = x.rule; predicate = x.predicate; state = pattern_of sort x.state }

pub parts_pattern : (sort : KoreSort) (x : StateParts) → IsReadAs x (pattern_of sort x)
parts_pattern sort x = by x.predicate refl
  where
    by : (o : Option KorePattern) → x.predicate ≡ o → IsReadAs x (pattern_of sort x)
    by None e = rw e refl
    by (Some q) e = rw e (sort, refl)

next_parts : (sort : KoreSort) (x : NextParts) → IsNextOf x (next_of sort x)
next_parts sort x = record { rule = refl; predicate = refl; state = parts_pattern sort x.state }

-- what is known of the case: its part and its next state, whose patterns are these
case_written : (g : KoreSignature) (used : List Text) (request p : KorePattern) (s : SymbolicState) (sort : KoreSort) (rule : Option RewriteRule) (part : StatePart) (next : SymbolicState) (x : NextParts) →
    ((y : Text) → list_any (bytes_eq y) used ≡ false → IsAbsent y request) → IsGrown g used (whole s) (whole next) → AreAtHand part.state.variables next.variables → IsPatternOf g (pattern_of next.sort x.state) next → SaysAdded g x.predicate part → MentionsNoLost s.variables p sort x →
    x.rule ≡ option_map (λ r. r.id) rule → IsWritten g request p s (record { rule = rule; part = part; next = next }) (next_of next.sort x)
case_written g used request p s sort rule part next x free grown hand pattern says lost id =
    let kept = same_lost s.variables p x.state.term sort next.sort x.state.predicate lost.state in
    record {
      id = id;
      predicate = says.says;
      state = pattern;
      none_lost = (kept, lost.predicate);
      new_names = (
        new_names g used request p (pattern_of next.sort x.state) s.variables s (whole next) free (all_here s.variables) grown pattern.at_hand kept,
        new_names g used request p x.predicate s.variables s (whole next) free (all_here s.variables) grown (hand_in_hand (free_variables x.predicate) part.state.variables next.variables says.says.at_hand hand) lost.predicate,
      );
      is_predicate = says.is_predicate;
    }

inside : {X : Type 0} {x y : X} → Some x ≡ Some y → x ≡ y
inside e = cc

next_written : (t : Theory) (used : List Text) (request p : KorePattern) (s : SymbolicState) (sort : KoreSort) (n : Next) (k : StepCase) (x : NextParts) → ((y : Text) → list_any (bytes_eq y) used ≡ false → IsAbsent y request) → IsCaseOf t n k → GoesOnFrom t used s n → CanBeTold t.signature (part_view n.part) → IsWithinHand t.signature s k → IsNextWritten t n x → MentionsNoLost s.variables p sort x →
    IsWritten t.signature request p s k (next_of (state_view n.state).sort x)
next_written t used request p s sort n k x free is goes told hand w lost =
    let same : w.rule ≡ is.rule = inside (sym w.at ∙ is.at) in
    let here = subst (IsWithinHand t.signature s) is.is hand in
    subst (λ j. IsWritten t.signature request p s j (next_of (state_view n.state).sort x)) (sym is.is)
    (case_written t.signature used request p s sort (Some is.rule) (part_view n.part) (state_view n.state) x free goes.grown here.next (state_pattern t.signature (state_view n.state) x.state goes.ready.safe w.state) (added_says t.signature (part_view n.part) x.predicate told w.predicate) lost (w.id ∙ ap (λ r. Some r.id) same))

remainder_written : (t : Theory) (used : List Text) (request p : KorePattern) (s : SymbolicState) (sort : KoreSort) (q : Part) (k : StepCase) (x : NextParts) → ((y : Text) → list_any (bytes_eq y) used ≡ false → IsAbsent y request) → IsRemainderOf q k → IsToldPart t.signature used s (part_view q) → IsRemainderWritten t q x → MentionsNoLost s.variables p sort x →
    IsWritten t.signature request p s k (next_of (state_view q.state).sort x)
remainder_written t used request p s sort q k x free is told w lost =
    subst (λ j. IsWritten t.signature request p s j (next_of (state_view q.state).sort x)) (sym is)
    (case_written t.signature used request p s sort None (part_view q) (state_view q.state) x free (record { new = told.grown.new; variables = told.grown.variables; are_new = told.grown.are_new; each = told.grown.each }) (all_here (state_view q.state).variables)
    (state_pattern t.signature (state_view q.state) x.state told.safe w.state) (added_says t.signature (part_view q) x.predicate told.added w.predicate) lost w.id)

-- ---- what is told of each case

pub told_nexts : (t : Theory) (used : List Text) (s : SymbolicState) (ns : List Next) → AllByRecursion (GoesOnFrom t used s) ns → AllByRecursion (λ n. IsAddedRight t.signature (part_view n.part)) ns → AllByRecursion (λ n. CanBeTold t.signature (part_view n.part)) ns
told_nexts t used s [] e d = tt
told_nexts t used s (n ∷ ns) e d = (record { sorted = e.0.sorted.added; sound = d.0 }, told_nexts t used s ns e.1 d.1)

pub told_parts : (t : Theory) (used : List Text) (s : SymbolicState) (qs : List Part) → AllByRecursion (RemainsOf t used s) qs → AllByRecursion (λ q. IsAddedRight t.signature (part_view q)) qs → AllByRecursion (λ q. IsToldPart t.signature used s (part_view q)) qs
told_parts t used s [] e d = tt
told_parts t used s (q ∷ qs) e d = (record { grown = e.0.grown; safe = e.0.ready.safe; added = record { sorted = e.0.ready.sorted.added; sound = d.0 } }, told_parts t used s qs e.1 d.1)

-- ---- all cases

-- next states that the parts mean, each written for its case
pub record AllWritten (g : KoreSignature) (request p : KorePattern) (s : SymbolicState) (ks : List StepCase) (xs : List NextParts) : Type 0 where
  pub states : List NextState
  pub are : AllZip IsNextOf xs states
  pub written : AllZip (IsWritten g request p s) ks states

none_written : (g : KoreSignature) (request p : KorePattern) (s : SymbolicState) → AllWritten g request p s [] []
none_written g request p s = record { states = []; are = tt; written = tt }

one_more : (g : KoreSignature) (request p : KorePattern) (s : SymbolicState) (k : StepCase) (ks : List StepCase) (x : NextParts) (xs : List NextParts) (sort : KoreSort) → IsWritten g request p s k (next_of sort x) → AllWritten g request p s ks xs → AllWritten g request p s (k ∷ ks) (x ∷ xs)
one_more g request p s k ks x xs sort w a = record { states = next_of sort x ∷ a.states; are = (next_parts sort x, a.are); written = (w, a.written) }

pub nexts_written : (t : Theory) (used : List Text) (request p : KorePattern) (s : SymbolicState) (sort : KoreSort) (ns : List Next) (ks : List StepCase) (xs : List NextParts) → ((y : Text) → list_any (bytes_eq y) used ≡ false → IsAbsent y request) → AllZip (IsCaseOf t) ns ks → AllZip (IsNextWritten t) ns xs → AllByRecursion (GoesOnFrom t used s) ns → AllByRecursion (λ n. CanBeTold t.signature (part_view n.part)) ns →
    AllByRecursion (IsWithinHand t.signature s) ks → AllByRecursion (MentionsNoLost s.variables p sort) xs → AllWritten t.signature request p s ks xs
nexts_written t used request p s sort [] [] [] free c w e d h l = none_written t.signature request p s
nexts_written t used request p s sort [] [] (x ∷ xs) free c w e d h l = absurd w
nexts_written t used request p s sort [] (k ∷ ks) xs free c w e d h l = absurd c
nexts_written t used request p s sort (n ∷ ns) [] xs free c w e d h l = absurd c
nexts_written t used request p s sort (n ∷ ns) (k ∷ ks) [] free c w e d h l = absurd w
nexts_written t used request p s sort (n ∷ ns) (k ∷ ks) (x ∷ xs) free c w e d h l =
    one_more t.signature request p s k ks x xs (state_view n.state).sort (next_written t used request p s sort n k x free c.0 e.0 d.0 h.0 w.0 l.0) (nexts_written t used request p s sort ns ks xs free c.1 w.1 e.1 d.1 h.1 l.1)

pub remainders_written : (t : Theory) (used : List Text) (request p : KorePattern) (s : SymbolicState) (sort : KoreSort) (qs : List Part) (ks : List StepCase) (xs : List NextParts) → ((y : Text) → list_any (bytes_eq y) used ≡ false → IsAbsent y request) → AllZip IsRemainderOf qs ks → AllZip (IsRemainderWritten t) qs xs → AllByRecursion (λ q. IsToldPart t.signature used s (part_view q)) qs → AllByRecursion (MentionsNoLost s.variables p sort) xs →
    AllWritten t.signature request p s ks xs
remainders_written t used request p s sort [] [] [] free c w d l = none_written t.signature request p s
remainders_written t used request p s sort [] [] (x ∷ xs) free c w d l = absurd w
remainders_written t used request p s sort [] (k ∷ ks) xs free c w d l = absurd c
remainders_written t used request p s sort (q ∷ qs) [] xs free c w d l = absurd c
remainders_written t used request p s sort (q ∷ qs) (k ∷ ks) [] free c w d l = absurd w
remainders_written t used request p s sort (q ∷ qs) (k ∷ ks) (x ∷ xs) free c w d l =
    one_more t.signature request p s k ks x xs (state_view q.state).sort (remainder_written t used request p s sort q k x free c.0 d.0 w.0 l.0) (remainders_written t used request p s sort qs ks xs free c.1 w.1 d.1 l.1)

zip_both : {X Y : Type 0} (R : X → Y → Type 0) (xs zs : List X) (ys us : List Y) → AllZip R xs ys → AllZip R zs us → AllZip R (xs ++ zs) (ys ++ us)
zip_both R [] zs [] us a b = b
zip_both R [] zs (y ∷ ys) us a b = absurd a
zip_both R (x ∷ xs) zs [] us a b = absurd a
zip_both R (x ∷ xs) zs (y ∷ ys) us a b = (a.0, zip_both R xs zs ys us a.1 b)

pub all_written : (g : KoreSignature) (request p : KorePattern) (s : SymbolicState) (ks js : List StepCase) (xs ys : List NextParts) → AllWritten g request p s ks xs → AllWritten g request p s js ys → AllWritten g request p s (ks ++ js) (xs ++ ys)
all_written g request p s ks js xs ys a b = record {
  states = a.states ++ b.states;
  are = zip_both IsNextOf xs ys a.states b.states a.are b.are;
  written = zip_both (IsWritten g request p s) ks js a.states b.states a.written b.written;
}
