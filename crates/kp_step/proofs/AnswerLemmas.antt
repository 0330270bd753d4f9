-- What a verdict of the code says of a part.
use Rattle.std.proofs.Common.{◌≡◌, refl, sym, subst, List, [], ◌∷◌, Option, Some, None, inl, inr}
use Rattle.kp_kore.specs.Signature.{KoreSignature}
use Rattle.kp_symbolic.specs.States.{Literal, SymbolicState, CanBeTrue}
use Rattle.kp_symbolic.specs.Plain.{rough_clauses}
use Rattle.kp_symbolic.specs.Verdicts as model
use Rattle.kp_symbolic.specs.Verdicts.{Weighed, some_valuation, no_valuation, undecided, IsRightVerdict}
use Rattle.kp_symbolic.specs.View.{clauses_view}
use Rattle.kp_symbolic.specs.declared.clause.Clause.{Clause}
use Rattle.kp_satisfiability.specs.Answers.{IsWeighedAs, IsToldAs, IsRightAnswer}
use Rattle.kp_limits.specs.declared.weight.Weighed as code
use Rattle.kp_satisfiability.specs.declared.verdict.Verdict as verdicts
use Rattle.kp_satisfiability.specs.declared.verdict.Verdict.TheVariants as told
use Rattle.kp_case_laws.specs.Parts.{whole}
use Rattle.kp_case_laws.specs.Firing.{HasNoInstance}
use Rattle.kp_step.specs.ReadyParts.{HasInstance}
use Rattle.kp_step.specs.Answers.{IsRightUndecided, IsShownBeside, ShowsOf}
use Rattle.kp_step.specs.declared.part_answers.UndecidedClauses.{UndecidedClauses}
use Rattle.kp_step.proofs.DecideLemmas.{some_instance, no_instance, shown_without, shown_of_state, shown_with_weight}

-- ---- what a verdict says

pub says_some : (g : KoreSignature) (p : SymbolicState) (v : verdicts.Verdict) → IsRightAnswer g p v → v ≡ told.SomeValuation → HasInstance g (whole p)
says_some g p v a e = some_instance g p (by a.verdict a.right (subst (IsToldAs a.verdict) e a.is_told))
  where
    by : (d : model.Verdict) → IsRightVerdict g p d → IsToldAs d told.SomeValuation → CanBeTrue g p.variables p.clauses
    by some_valuation r t = r
    by no_valuation r t = absurd t
    by (undecided shown h) r t = absurd t

pub says_none : (g : KoreSignature) (p : SymbolicState) (v : verdicts.Verdict) → IsRightAnswer g p v → v ≡ told.NoValuation → HasNoInstance g (whole p)
says_none g p v a e = no_instance g p (by a.verdict a.right (subst (IsToldAs a.verdict) e a.is_told))
  where
    by : (d : model.Verdict) → IsRightVerdict g p d → IsToldAs d told.NoValuation → ¬ CanBeTrue g p.variables p.clauses
    by some_valuation r t = absurd t
    by no_valuation r t = r
    by (undecided shown h) r t = absurd t

pub says_open : (g : KoreSignature) (p : SymbolicState) (v : verdicts.Verdict) (o : UndecidedClauses) → IsRightAnswer g p v → v ≡ told.Undecided o.shown o.over → IsRightUndecided g p o
says_open g p v o a e = by a.verdict a.right (subst (IsToldAs a.verdict) e a.is_told)
  where
    by : (d : model.Verdict) → IsRightVerdict g p d → IsToldAs d (told.Undecided o.shown o.over) → IsRightUndecided g p o
    by some_valuation r t = absurd t
    by no_valuation r t = absurd t
    by (undecided shown h) r t = (h, t.1, subst (λ cs. IsRightVerdict g p (undecided cs h)) t.0 r)

-- ---- what is shown

none_weighed : (h : Option Weighed) (o : UndecidedClauses) → o.over ≡ None → IsWeighedAs h o.over → h ≡ None
none_weighed None o e w = refl
none_weighed (Some h) o e w = absurd (subst (IsWeighedAs (Some h)) e w)

pub shown_alone : (g : KoreSignature) (s p : SymbolicState) (o : UndecidedClauses) → o.over ≡ None → IsRightUndecided g p o → ShowsOf g s p o
shown_alone g s p o e r = by r.0 r.1 r.2
  where
    by : (h : Option Weighed) → IsWeighedAs h o.over → IsRightVerdict g p (undecided (clauses_view o.shown.items) h) → ShowsOf g s p o
    by None w v = (None, w, shown_without g s p (clauses_view o.shown.items) v)
    by (Some h) w v = absurd (subst (IsWeighedAs (Some h)) e w)

pub shown_heavy : (g : KoreSignature) (s p : SymbolicState) (o : UndecidedClauses) → ¬ (o.over ≡ None) → rough_clauses g s ≡ [] → IsRightUndecided g p o → ShowsOf g s p o
shown_heavy g s p o some e r = by r.0 o.over refl r.1 r.2
  where
    by : (h : Option Weighed) (w : Option code.Weighed) → o.over ≡ w → IsWeighedAs h w → IsRightVerdict g p (undecided (clauses_view o.shown.items) h) → ShowsOf g s p o
    by None None f i v = absurd (some f)
    by None (Some x) f i v = absurd i
    by (Some h) None f i v = absurd i
    by (Some h) (Some x) f i v = (Some h, subst (IsWeighedAs (Some h)) (sym f) i, shown_with_weight g s p (clauses_view o.shown.items) h v e)

pub some_clauses : (cs : List Clause) → ¬ (cs ≡ []) → ¬ (clauses_view cs ≡ [])
some_clauses [] n e = n refl
some_clauses (c ∷ cs) n e = absurd (cc)

pub shown_by_state : (g : KoreSignature) (s p : SymbolicState) (o d : UndecidedClauses) → ¬ (o.over ≡ None) → d.over ≡ None → clauses_view d.shown.items ≡ rough_clauses g s → ¬ (clauses_view d.shown.items ≡ []) → IsRightUndecided g p o → ShowsOf g s p d
shown_by_state g s p o d some none e more r = by r.0 o.over refl r.1 r.2
  where
    by : (h : Option Weighed) (w : Option code.Weighed) → o.over ≡ w → IsWeighedAs h w → IsRightVerdict g p (undecided (clauses_view o.shown.items) h) → ShowsOf g s p d
    by None None f i v = absurd (some f)
    by None (Some x) f i v = absurd i
    by (Some h) None f i v = absurd i
    by (Some h) (Some x) f i v = (None, subst (IsWeighedAs None) (sym none) tt, shown_of_state g s p (clauses_view o.shown.items) (clauses_view d.shown.items) h v more e)

-- ---- what isn't known to have no instance

by_instance : (g : KoreSignature) (p : SymbolicState) → HasInstance g (whole p) → CanBeTrue g p.variables p.clauses
by_instance g p i = record { valuation = i.valuation; sorts = i.sorts; are_true = i.met.clauses }

-- a right verdict that isn't 'none'
pub record MayBe (g : KoreSignature) (p : SymbolicState) : Type 0 where
  pub verdict : model.Verdict
  pub right : IsRightVerdict g p verdict
  pub not_none : ¬ (verdict ≡ no_valuation)

pub may_by_instance : (g : KoreSignature) (p : SymbolicState) → HasInstance g (whole p) → MayBe g p
may_by_instance g p i = record { verdict = some_valuation; right = by_instance g p i; not_none = λ e. no e }
  where
    no : some_valuation ≡ no_valuation → ⊥
    no e = cc

pub may_by_open : (g : KoreSignature) (s p : SymbolicState) (o : UndecidedClauses) → ShowsOf g s p o → MayBe g p
may_by_open g s p o shows = by shows.0 shows.2
  where
    no : {cs : List (List Literal)} {h : Option Weighed} → undecided cs h ≡ no_valuation → ⊥
    no e = cc

    by : (h : Option Weighed) → IsShownBeside g s p (clauses_view o.shown.items) h → MayBe g p
    by None (inl r) = record { verdict = undecided (clauses_view o.shown.items) None; right = r; not_none = no }
    by None (inr x) = record { verdict = undecided x.1 (Some x.0); right = x.2; not_none = no }
    by (Some h) r = record { verdict = undecided (clauses_view o.shown.items) (Some h); right = r.0; not_none = no }
