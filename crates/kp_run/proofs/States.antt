-- The states of a run: each is the only one so many steps on.
use Rattle.std.proofs.Common.{◌≡◌, refl, sym, ap₂, subst, ℕ, zero, suc, ◌+◌, ◌<◌, ◌≤◌, Bool, true, false, inl, inr, arith}
use Rattle.std.specs.Prelude.{◌⊎◌, Result, Ok, Err, IfErr}
use Rattle.kp_kore.specs.Syntax.{KoreSort}
use Rattle.kp_kore.specs.Signature.{KoreSignature}
use Rattle.kp_kore.specs.Attributes.{sorts_equal}
use Rattle.kp_kore.specs.Value.{Value}
use Rattle.kp_kore.specs.Rules.{RuleBody, rewrite, foreign_rule}
use Rattle.kp_kore.specs.Theory.{Theory}
use Rattle.kp_kore.specs.Steps.{HasTurn, IsUnknown, StepsBy, Steps}
use Rattle.kp_kore.proofs.SameLemmas.{sorts_equal-Decides}
use Rattle.kp_run.specs.Causes.{TwoAmong, Written, IsWrittenBy, IsNotStepped, several, IsNextState, IsStateIn, StopsUntold}
use Rattle.kp_run.specs.declared.error.RunError.{RunError}
use Rattle.kp_run.specs.declared.error.RunError.TheVariants.{NotAnswered}
use Rattle.kp_run.proofs.Among.{of_any, same_one}
use Rattle.kp_run.proofs.Answered.{one_sort, written_there}
use Rattle.kp_run.proofs.Turning.{at_most_or_beyond}

-- ---- the next state is one

by_no_other : (a b : KoreSort) → (¬ (b ≡ a) → ⊥) → b ≡ a
by_no_other a b h = by (sorts_equal b a) refl
  where
    by : (c : Bool) → sorts_equal b a ≡ c → b ≡ a
    by true e = (sorts_equal-Decides b a).0 e
    by false e = absurd (h (λ same. let is : sorts_equal b a ≡ true = (sorts_equal-Decides b a).1 same in absurd (cc)))

sort_by : (g : KoreSignature) (m : RuleBody) (state a b : KoreSort) → IsWrittenBy g m state a → IsWrittenBy g m state b → b ≡ a
sort_by g (rewrite w) state a b x y = by_no_other a b (one_sort g x.right state b a (written_there g w x.right state b y x.is_right) x.place)
sort_by g (foreign_rule l) state a b x y = absurd x

-- only a configuration that no foreign rule might rewrite steps
steps_known : (t : Theory) (c next : Value) → Steps t c next → ¬ IsUnknown t c
steps_known t c next steps = of_any (λ r. StepsBy t r c next) (¬ IsUnknown t c) (λ r h. h.known) t.rules steps

-- the state is stepped, where no foreign rule might rewrite it
abbrev pub IsTold : Theory → Written → Type 0
IsTold t s = ¬ IsUnknown t s.value → ¬ IsNotStepped t s

pub only_next : (t : Theory) (s a b : Written) → IsTold t s → IsNextState t s a → IsNextState t s b → b ≡ a
only_next t s a b told x y =
    let alone : ¬ TwoAmong (λ r. HasTurn t r s.value) t.rules = λ two. told (steps_known t s.value a.value x.steps) (several two) in
    let sort : b.sort ≡ a.sort = of_any (λ r. IsWrittenBy t.signature r.body s.sort a.sort × IsWrittenBy t.signature r.body s.sort b.sort) (b.sort ≡ a.sort)
    (λ r h. sort_by t.signature r.body s.sort a.sort b.sort h.0 h.1) t.rules
    (same_one (λ r. HasTurn t r s.value) (λ r. IsWrittenBy t.signature r.body s.sort a.sort) (λ r. IsWrittenBy t.signature r.body s.sort b.sort) t.rules alone x.written y.written) in
    ap₂ (λ u k. record { value = u; sort = k }) (x.only b.value y.steps) sort

-- ---- so many states on

one_state_more : (t : Theory) (n : ℕ) (s at next : Written) → IsStateIn t n s at → IsNextState t at next → IsStateIn t (suc n) s next
one_state_more t zero s at next e to = (next, subst (λ x. IsNextState t x next) e to, refl)
one_state_more t (suc n) s at next (m, first, rest) to = (m, first, one_state_more t n m at next rest to)

pub states_go_on : (t : Theory) (n : ℕ) (s at next : Written) → IsStateIn t n s at → IsNextState t at next → IsStateIn t (n + 1) s next
states_go_on t n s at next before to =
    let e : suc n ≡ n + 1 = omega arith in
    subst (λ m. IsStateIn t m s next) e (one_state_more t n s at next before to)

-- a state so many steps on, and one that follows it
record Passes (t : Theory) (n : ℕ) (s : Written) : Type 0 where
  at : Written
  reached : IsStateIn t n s at
  next : Written
  goes : IsNextState t at next

passes : (t : Theory) (n d : ℕ) (s later : Written) → n < d → IsStateIn t d s later → Passes t n s
passes t n zero s later lt is = absurd (omega arith)
passes t zero (suc d) s later lt (m, first, rest) = record { at = s; reached = refl; next = m; goes = first }
passes t (suc n) (suc d) s later lt (m, first, rest) =
    let k = passes t n d m later (omega arith) rest in
    record { at = k.at; reached = (m, first, k.reached); next = k.next; goes = k.goes }

-- the state before the last
record Before (t : Theory) (n : ℕ) (s last : Written) : Type 0 where
  at : Written
  reached : IsStateIn t n s at
  goes : IsNextState t at last

before_last : (t : Theory) (n : ℕ) (s last : Written) → IsStateIn t (suc n) s last → Before t n s last
before_last t zero s last (m, first, e) = record { at = s; reached = refl; goes = subst (IsNextState t s) (sym e) first }
before_last t (suc n) s last (m, first, rest) =
    let k = before_last t n m last rest in
    record { at = k.at; reached = (m, first, k.reached); goes = k.goes }

abbrev pub IsOnlyIn : Theory → ℕ → Written → Written → Type 0
IsOnlyIn t n s at = (other : Written) → IsStateIn t n s other → other ≡ at

pub only_goes_on : (t : Theory) (n : ℕ) (s at next : Written) → IsOnlyIn t n s at → IsTold t at → IsNextState t at next → IsOnlyIn t (n + 1) s next
only_goes_on t n s at next only told to other is =
    let e : n + 1 ≡ suc n = omega arith in
    let k = before_last t n s other (subst (λ m. IsStateIn t m s other) e is) in
    only_next t at next other told to (subst (λ x. IsNextState t x other) (only k.at k.reached) k.goes)

-- ---- no state on the way is untold

pub none_at_first : (t : Theory) (s : Written) → ¬ StopsUntold t s 0
none_at_first t s h = let below : h.depth < 0 = h.below in absurd (omega arith)

pub told_more : (t : Theory) (n : ℕ) (s at : Written) → ¬ StopsUntold t s n → IsOnlyIn t n s at → IsTold t at → ¬ StopsUntold t s (n + 1)
told_more t n s at before only told h = by_order (at_most_or_beyond (suc h.depth) n)
  where
    by_order : (suc h.depth ≤ n) ⊎ (n < suc h.depth) → ⊥
    by_order (inl le) = before (record { depth = h.depth; below = omega (arith, le); state = h.state; reached = h.reached; known = h.known; cause = h.cause })
    by_order (inr lt) =
        let e : h.depth ≡ n = omega (arith, h.below, lt) in
        let same : h.state ≡ at = only h.state (subst (λ d. IsStateIn t d s h.state) e h.reached) in
        told (subst (λ x. ¬ IsUnknown t x.value) same h.known) (subst (IsNotStepped t) same h.cause)

-- a run that ends where no state follows
pub ends_told : (t : Theory) (n bound : ℕ) (s at : Written) → ¬ StopsUntold t s n → IsOnlyIn t n s at → IsTold t at → ((next : Written) → ¬ IsNextState t at next) → ¬ StopsUntold t s bound
ends_told t n bound s at before only told end h = by_order (at_most_or_beyond h.depth n)
  where
    by_order : (h.depth ≤ n) ⊎ (n < h.depth) → ⊥
    by_order (inl le) = told_more t n s at before only told (record { depth = h.depth; below = omega (arith, le); state = h.state; reached = h.reached; known = h.known; cause = h.cause })
    by_order (inr lt) =
        let k = passes t n h.depth s h.state lt h.reached in
        end k.next (subst (λ x. IsNextState t x k.next) (only k.at k.reached) k.goes)

-- ---- one step is a run of at most one

pub one_untold : (t : Theory) (s : Written) → ¬ IsUnknown t s.value → IsNotStepped t s → StopsUntold t s 1
one_untold t s known cause = record { depth = 0; below = omega arith; state = s; reached = refl; known = known; cause = cause }

pub one_told : (t : Theory) (s : Written) → IsTold t s → ¬ StopsUntold t s 1
one_told t s told = told_more t 0 s s (none_at_first t s) (λ other e. e) told

-- the same of an answer
pub one_not_answered : {A : Type 0} (t : Theory) (s : Written) (r : Result A RunError) → ¬ IsUnknown t s.value → IfErr r (λ e. e ≡ NotAnswered → IsNotStepped t s) → IfErr r (λ e. e ≡ NotAnswered → StopsUntold t s 1)
one_not_answered t s (Ok a) known h = tt
one_not_answered t s (Err e) known h = λ is. one_untold t s known (h is)

-- and back, at the state where a run is
pub told_at : (t : Theory) (s : Written) → ¬ StopsUntold t s 1 → IsTold t s
told_at t s answered known cause = answered (one_untold t s known cause)

pub untold_later : (t : Theory) (n bound : ℕ) (s at : Written) → IsStateIn t n s at → n < bound → StopsUntold t at 1 → StopsUntold t s bound
untold_later t n bound s at reached below h =
    let first : h.depth ≡ 0 = omega (arith, h.below) in
    let same : h.state ≡ at = subst (λ d. IsStateIn t d at h.state) first h.reached in
    record { depth = n; below = below; state = at; reached = reached; known = subst (λ x. ¬ IsUnknown t x.value) same h.known; cause = subst (IsNotStepped t) same h.cause }
