-- Each literal that an equality of two terms of a kind opens to is as the equalities of such terms are.
use Rattle.std.proofs.Common.{Bool, true, false, not, ◌&&◌}
use Rattle.std.specs.Prelude.{if◌then◌else◌, ⊤}
use Rattle.std.specs.Bool.{beq}
use Rattle.kp_kore.specs.Syntax.{Text, KoreSort, KoreSorts, no_sorts, next_sort}
use Rattle.kp_kore.specs.Hooks.{Connective, both, either, implies, same as same_truth, other, Hook, whole_arithmetic, whole_comparison, truth_connective, truth_negation, values_equal, values_different}
use Rattle.kp_kore.specs.Signature.{KoreSignature, SymbolMeaning, injection, construction, interpretation, foreign, meaning_of, is_truth_sort, constructor_of}
use Rattle.kp_kore.specs.Value.{Value, whole, truth, token, constructed, Values, no_values, next_value}
use Rattle.kp_compile.specs.Spelled.{places_of}
use Rattle.kp_symbolic.specs.Terms.{SymbolicTerm, unknown, offset, known, headed, SymbolicTerms, no_terms, next_term}
use Rattle.kp_symbolic.specs.Formulas.{Formula}
use Rattle.kp_symbolic.specs.States.{HeadTest, Literal}
use Rattle.kp_symbolic.specs.Alike.{terms_same}
use Rattle.kp_symbolic.specs.Folding.{sum_of}
use Rattle.kp_symbolic.specs.Heads.{passes_head}
use Rattle.kp_symbolic.specs.Opening.{fixed, pair, is_true, equality_fact, compared_at_once, is_kept_truth, Seen, seen, Seens, none_seen, next_seen, asked, opened_agreement, opened_truths, opened_sides, sorts_of_members, opened_seen, opened_members, common_sort, opened_call, seen_value, seen_values, seen_term, seen_terms, opened_same, head_of_call, truth_sort}
use Rattle.kp_symbolic.proofs.Facts.{AllFacts, AllIn, choose, fixed_or_good, fixed_good, if_good, sides_good}

-- ---- a kind of terms, and what holds of their equalities

abbrev pub AreTerms : (SymbolicTerm → Type 0) → SymbolicTerms → Type 0
AreTerms N no_terms = ⊤
AreTerms N (next_term t ts) = N t × AreTerms N ts

abbrev pub AreValues : (SymbolicTerm → Type 0) → Values → Type 0
AreValues N no_values = ⊤
AreValues N (next_value u us) = N (known u) × AreValues N us

-- what holds of the equalities of the terms of a kind, which has the parts of each of them
pub record IsKept (g : KoreSignature) (N : SymbolicTerm → Type 0) (P : Literal → Type 0) : Type 0 where
  pub equality : (b : Bool) (s : KoreSort) (t u : SymbolicTerm) → N t → N u → AllFacts P (equality_fact b s t u)
  pub yes : N (known (truth true))
  pub members : (f : Text) (ts : SymbolicTerms) → N (headed f ts) → AreTerms N ts
  pub parts : (c : Text) (us : Values) → N (known (constructed c us)) → AreValues N us

-- ---- terms that are seen

abbrev KeepsOpening : (Literal → Type 0) → (Bool → Bool → Formula Literal → Formula Literal) → Type 0
KeepsOpening P p = (alone b : Bool) (kept : Formula Literal) → AllFacts P kept → AllFacts P (p alone b kept)

abbrev mutual
  IsKeptSeen : (SymbolicTerm → Type 0) → (Literal → Type 0) → Seen → Type 0
  IsKeptSeen N P (seen t p c ms) = N t × KeepsOpening P p × AreKeptSeen N P ms

  AreKeptSeen : (SymbolicTerm → Type 0) → (Literal → Type 0) → Seens → Type 0
  AreKeptSeen N P none_seen = ⊤
  AreKeptSeen N P (next_seen m ms) = IsKeptSeen N P m × AreKeptSeen N P ms

asked_kept : (g : KoreSignature) (N : SymbolicTerm → Type 0) (P : Literal → Type 0) (r : IsKept g N P) (alone b : Bool) (m : Seen) → IsKeptSeen N P m → AllFacts P (asked g alone b m)
asked_kept g N P r alone b (seen t p c ms) h = h.1 alone b (is_true g b t) (r.equality b (truth_sort g) t (known (truth true)) h.0 r.yes)

agreement_kept : (g : KoreSignature) (N : SymbolicTerm → Type 0) (P : Literal → Type 0) (r : IsKept g N P) (b : Bool) (m n : Seen) → IsKeptSeen N P m → IsKeptSeen N P n → AllFacts P (opened_agreement g b m n)
agreement_kept g N P r b m n i j = (
  (asked_kept g N P r false false m i, (asked_kept g N P r false b n j, tt)),
  ((asked_kept g N P r false true m i, (asked_kept g N P r false (not b) n j, tt)), tt),
)

truths_kept : (g : KoreSignature) (N : SymbolicTerm → Type 0) (P : Literal → Type 0) (r : IsKept g N P) (alone b : Bool) (kept : Formula Literal) (m n : Seen) → IsKeptSeen N P m → IsKeptSeen N P n → AllFacts P kept → AllFacts P (opened_truths g alone b kept m n)
truths_kept g N P r alone b kept (seen t p c ms) (seen (known (truth a)) q d ns) i j k = i.1 alone (beq a b) kept k
truths_kept g N P r alone b kept (seen (known (truth a)) p c ms) (seen u q d ns) i j k = j.1 alone (beq a b) kept k
truths_kept g N P r alone b kept (seen t p c ms) (seen u q d ns) i j k =
    choose P (alone && b && is_kept_truth t u) kept (opened_agreement g b (seen t p c ms) (seen u q d ns)) k (agreement_kept g N P r b (seen t p c ms) (seen u q d ns) i j)

mutual
  seen_kept : (g : KoreSignature) (N : SymbolicTerm → Type 0) (P : Literal → Type 0) (r : IsKept g N P) (alone b : Bool) (s : KoreSort) (kept : Formula Literal) (m n : Seen) → IsKeptSeen N P m → IsKeptSeen N P n → AllFacts P kept → AllFacts P (opened_seen g alone b s kept m n)
  seen_kept g N P r alone b s kept (seen t p c ms) (seen u q d ns) i j k =
      let truths = opened_truths g alone b kept (seen t p c ms) (seen u q d ns) in
      let sides = opened_sides g b kept t u c d (opened_members g (alone && b) b (sorts_of_members g c) ms ns) in
      choose P (terms_same t u) (fixed b) (if is_truth_sort g s then truths else sides) (fixed_good P b)
      (choose P (is_truth_sort g s) truths sides
      (truths_kept g N P r alone b kept (seen t p c ms) (seen u q d ns) i j k)
      (sides_good g P b kept t u c d (opened_members g (alone && b) b (sorts_of_members g c) ms ns) (λ l e f. members_kept g N P r (alone && b) b (sorts_of_members g c) ms ns i.2 j.2) k))

  members_kept : (g : KoreSignature) (N : SymbolicTerm → Type 0) (P : Literal → Type 0) (r : IsKept g N P) (alone b : Bool) (ss : KoreSorts) (ms ns : Seens) → AreKeptSeen N P ms → AreKeptSeen N P ns → AllIn P (opened_members g alone b ss ms ns)
  members_kept g N P r alone b (next_sort s ss) (next_seen (seen t p c ms) rest) (next_seen (seen u q d ns) others) i j = (
    seen_kept g N P r alone b s (equality_fact b s t u) (seen t p c ms) (seen u q d ns) i.0 j.0 (r.equality b s t u i.0.0 j.0.0),
    members_kept g N P r alone b ss rest others i.1 j.1,
  )
  members_kept g N P r alone b no_sorts ms ns i j = tt
  members_kept g N P r alone b (next_sort s ss) none_seen ns i j = tt
  members_kept g N P r alone b (next_sort s ss) (next_seen (seen t p c ms) rest) none_seen i j = tt

-- ---- calls

connected_kept : (g : KoreSignature) (N : SymbolicTerm → Type 0) (P : Literal → Type 0) (r : IsKept g N P) (k : Connective) (ss : KoreSorts) (m n : Seen) (alone b : Bool) (kept : Formula Literal) → IsKeptSeen N P m → IsKeptSeen N P n → AllFacts P (opened_call g ss (interpretation (truth_connective k)) (next_seen m (next_seen n none_seen)) alone b kept)
connected_kept g N P r both ss m n alone b kept i j = if_good P b (pair (asked g (alone && b) b m) (asked g (alone && b) b n)) (asked_kept g N P r (alone && b) b m i, (asked_kept g N P r (alone && b) b n j, tt))
connected_kept g N P r either ss m n alone b kept i j = if_good P (not b) (pair (asked g (alone && not b) b m) (asked g (alone && not b) b n)) (asked_kept g N P r (alone && not b) b m i, (asked_kept g N P r (alone && not b) b n j, tt))
connected_kept g N P r implies ss m n alone b kept i j = if_good P (not b) (pair (asked g (alone && not b) (not b) m) (asked g (alone && not b) b n)) (asked_kept g N P r (alone && not b) (not b) m i, (asked_kept g N P r (alone && not b) b n j, tt))
connected_kept g N P r same_truth ss m n alone b kept i j = agreement_kept g N P r b m n i j
connected_kept g N P r other ss m n alone b kept i j = agreement_kept g N P r (not b) m n i j

call_kept : (g : KoreSignature) (N : SymbolicTerm → Type 0) (P : Literal → Type 0) (r : IsKept g N P) (h : Hook) (ss : KoreSorts) (ms : Seens) (alone b : Bool) (kept : Formula Literal) → AreKeptSeen N P ms → AllFacts P kept → AllFacts P (opened_call g ss (interpretation h) ms alone b kept)
call_kept g N P r truth_negation ss (next_seen m none_seen) alone b kept a k = asked_kept g N P r alone (not b) m a.0
call_kept g N P r truth_negation ss none_seen alone b kept a k = k
call_kept g N P r truth_negation ss (next_seen m (next_seen n ms)) alone b kept a k = k
call_kept g N P r (truth_connective c) ss (next_seen m (next_seen n none_seen)) alone b kept a k = connected_kept g N P r c ss m n alone b kept a.0 a.1.0
call_kept g N P r (truth_connective c) ss none_seen alone b kept a k = k
call_kept g N P r (truth_connective c) ss (next_seen m none_seen) alone b kept a k = k
call_kept g N P r (truth_connective c) ss (next_seen m (next_seen n (next_seen o ms))) alone b kept a k = k
call_kept g N P r (whole_comparison o) ss (next_seen (seen t p c ms) (next_seen (seen u q d ns) none_seen)) alone b kept a k = fixed_or_good P (compared_at_once o (sum_of g t) (sum_of g u)) b kept k
call_kept g N P r (whole_comparison o) ss none_seen alone b kept a k = k
call_kept g N P r (whole_comparison o) ss (next_seen (seen t p c ns) none_seen) alone b kept a k = k
call_kept g N P r (whole_comparison o) ss (next_seen (seen t p c ks) (next_seen (seen u q d ns) (next_seen i ms))) alone b kept a k = k
call_kept g N P r values_equal ss (next_seen m (next_seen n none_seen)) alone b kept a k = seen_kept g N P r alone b (common_sort ss) kept m n a.0 a.1.0 k
call_kept g N P r values_equal ss none_seen alone b kept a k = k
call_kept g N P r values_equal ss (next_seen m none_seen) alone b kept a k = k
call_kept g N P r values_equal ss (next_seen m (next_seen n (next_seen o ms))) alone b kept a k = k
call_kept g N P r values_different ss (next_seen m (next_seen n none_seen)) alone b kept a k = seen_kept g N P r alone (not b) (common_sort ss) kept m n a.0 a.1.0 k
call_kept g N P r values_different ss none_seen alone b kept a k = k
call_kept g N P r values_different ss (next_seen m none_seen) alone b kept a k = k
call_kept g N P r values_different ss (next_seen m (next_seen n (next_seen o ms))) alone b kept a k = k
call_kept g N P r (whole_arithmetic o) ss ms alone b kept a k = k

headed_opening : (g : KoreSignature) (N : SymbolicTerm → Type 0) (P : Literal → Type 0) (r : IsKept g N P) (ss : KoreSorts) (ms : Seens) (m : SymbolMeaning) → AreKeptSeen N P ms → KeepsOpening P (opened_call g ss m ms)
headed_opening g N P r ss ms (interpretation h) a = λ alone b kept k. call_kept g N P r h ss ms alone b kept a k
headed_opening g N P r ss ms construction a = λ alone b kept k. k
headed_opening g N P r ss ms injection a = λ alone b kept k. k
headed_opening g N P r ss ms foreign a = λ alone b kept k. k

-- ---- terms are seen well

mutual
  value_kept : (g : KoreSignature) (N : SymbolicTerm → Type 0) (P : Literal → Type 0) (r : IsKept g N P) (u : Value) → N (known u) → IsKeptSeen N P (seen_value u)
  value_kept g N P r (constructed c us) i = (i, (λ alone b kept k. k), values_kept g N P r us (r.parts c us i))
  value_kept g N P r (truth a) i = (i, (λ alone b kept k. fixed_good P (beq a b)), tt)
  value_kept g N P r (whole n) i = (i, (λ alone b kept k. k), tt)
  value_kept g N P r (token t x) i = (i, (λ alone b kept k. k), tt)

  values_kept : (g : KoreSignature) (N : SymbolicTerm → Type 0) (P : Literal → Type 0) (r : IsKept g N P) (us : Values) → AreValues N us → AreKeptSeen N P (seen_values us)
  values_kept g N P r no_values i = tt
  values_kept g N P r (next_value u us) i = (value_kept g N P r u i.0, values_kept g N P r us i.1)

mutual
  term_kept : (g : KoreSignature) (N : SymbolicTerm → Type 0) (P : Literal → Type 0) (r : IsKept g N P) (t : SymbolicTerm) → N t → IsKeptSeen N P (seen_term g t)
  term_kept g N P r (unknown x) h = (h, (λ alone b kept k. k), tt)
  term_kept g N P r (offset x c) h = (h, (λ alone b kept k. k), tt)
  term_kept g N P r (known u) h = value_kept g N P r u h
  term_kept g N P r (headed f ts) h =
      let a = terms_kept g N P r ts (r.members f ts h) in
      (h, headed_opening g N P r (places_of g f) (seen_terms g ts) (meaning_of g f) a, a)

  terms_kept : (g : KoreSignature) (N : SymbolicTerm → Type 0) (P : Literal → Type 0) (r : IsKept g N P) (ts : SymbolicTerms) → AreTerms N ts → AreKeptSeen N P (seen_terms g ts)
  terms_kept g N P r no_terms h = tt
  terms_kept g N P r (next_term t ts) h = (term_kept g N P r t h.0, terms_kept g N P r ts h.1)

pub same_kept : (g : KoreSignature) (N : SymbolicTerm → Type 0) (P : Literal → Type 0) (r : IsKept g N P) (alone b : Bool) (s : KoreSort) (t u : SymbolicTerm) → N t → N u → AllFacts P (opened_same g alone b s t u)
same_kept g N P r alone b s t u i j = seen_kept g N P r alone b s (equality_fact b s t u) (seen_term g t) (seen_term g u) (term_kept g N P r t i) (term_kept g N P r u j) (r.equality b s t u i j)

-- ---- tests of heads

abbrev pub opened_by : KoreSignature → Bool → HeadTest → Formula Literal → Text → SymbolMeaning → Formula Literal
opened_by g b test kept f construction = fixed (beq (passes_head g test (constructor_of f)) b)
opened_by g b test kept f (interpretation h) = fixed (beq (passes_head g test (head_of_call h)) b)
opened_by g b test kept f m = kept

pub test_by : (g : KoreSignature) (P : Literal → Type 0) (b : Bool) (test : HeadTest) (kept : Formula Literal) (f : Text) (m : SymbolMeaning) → AllFacts P kept → AllFacts P (opened_by g b test kept f m)
test_by g P b test kept f construction k = fixed_good P (beq (passes_head g test (constructor_of f)) b)
test_by g P b test kept f (interpretation h) k = fixed_good P (beq (passes_head g test (head_of_call h)) b)
test_by g P b test kept f injection k = k
test_by g P b test kept f foreign k = k
