-- What is answered of the state that a pattern is read as is right for the pattern.
use Rattle.std.proofs.Common.{◌≡◌, refl, sym, ap, subst, inl, List, [], ◌∷◌, Option, Some, None, Result, Ok, Err, IfOk}
use Rattle.std.specs.Prelude.{◌≢◌, IfErr}
use Rattle.kp_kore.specs.Syntax.{KoreSort, KorePattern}
use Rattle.kp_kore.specs.Signature.{KoreSignature, injection, meaning_of}
use Rattle.kp_kore.specs.Sorting.{sort_of_term}
use Rattle.kp_kore.specs.Implied as theory
use Rattle.kp_kore.specs.Implied.{IsOfSort, state}
use Rattle.kp_kore.specs.Instance.{conjoined_terms}
use Rattle.kp_kore.specs.Replies.{IsComputed}
use Rattle.kp_kore.specs.Steps.{AnyByRecursion}
use Rattle.kp_signature.specs.Places.{the_top}
use Rattle.kp_signature.specs.Verify.{VerifiesAs}
use Rattle.kp_compile.specs.Spelled.{injection_name}
use Rattle.kp_symbolic.specs.States.{Literal, SymbolicState, HasInstancesOf}
use Rattle.kp_symbolic.specs.Solving.{solved_at, Solving, finished, goes_on, IsReadAs}
use Rattle.kp_symbolic.specs.WellFormed.{IsWellFormed}
use Rattle.kp_symbolic.specs.Writing.{InjectsWhereItStands, written_predicate, written_state}
use Rattle.kp_symbolic.specs.Endings as endings
use Rattle.kp_symbolic.specs.Endings.{IsRightOfSimplify}
use Rattle.kp_symbolic.proofs.OpenedState.{state_of_sort, state_of}
use Rattle.kp_symbolic_laws.specs.Runs.{IsSoundState}
use Rattle.kp_clauses.specs.Faults.{state_fault}
use Rattle.kp_clauses.proofs.StateLemmas.{nothing_misplaced}
use Rattle.kp_symbolic_laws.proofs.ReadStates.{reordered_is_computed}
use Rattle.kp_outward.specs.Arranged.{AreArranged, with_clauses}
use Rattle.kp_outward.specs.Errors.{InjectsIfThere}
use Rattle.kp_simplify.specs.Answers.{IsAnswer, IsArrangedPattern, empty, wide, rough, heavy, deeper, some}
use Rattle.kp_simplify.specs.Told.{IsAnswered, IsFound, IsSpelled, LacksInjection, TellsNoInjection, WantsInjection}
use Rattle.kp_simplify.specs.declared.answer.Simplified.{Simplified}
use Rattle.kp_simplify.specs.declared.simplify_pattern.SimplifyError.{SimplifyError}
use Rattle.kp_simplify.proofs.DeepLemmas.{deep_is_shown}
use Rattle.kp_simplify.proofs.EmptyLemmas.{empty_is_right}
use Rattle.kp_simplify.proofs.FloorLemmas.{floor_is_kept}
use Rattle.kp_simplify.proofs.ShownLemmas.{rough_is_shown, heavy_is_shown}
use Rattle.kp_simplify.proofs.StateLemmas.{state_is_right}
use Rattle.kp_simplify.proofs.WideLemmas.{wide_is_shown}

inside : {A : Type 0} {a b : A} → Some a ≡ Some b → a ≡ b
inside e = cc

-- ---- the sort of what is read

solved_sort : (g : KoreSignature) (s t : SymbolicState) → Solving g s t → s.sort ≡ t.sort
solved_sort g s t (finished _ e) = refl
solved_sort g s t (goes_on _ _ o e more) = solved_sort g (solved_at g o s) t more

sort_there : (g : KoreSignature) (p t : KorePattern) (o : Option KoreSort) (s : SymbolicState) → state_of_sort g p t o ≡ Some s → o ≡ Some s.sort
sort_there g p t (Some a) s e = ap Some (ap (λ x. x.sort) (inside e))
sort_there g p t None s e = absurd (cc)

opened_sort : (g : KoreSignature) (p : KorePattern) (ts : List KorePattern) (s : SymbolicState) → state_of g p ts ≡ Some s → AnyByRecursion (λ t. sort_of_term g t ≡ Some s.sort) ts
opened_sort g p (t ∷ []) s e = inl (sort_there g p t (sort_of_term g t) s e)
opened_sort g p [] s e = absurd (cc)
opened_sort g p (t ∷ u ∷ ts) s e = absurd (cc)

has_sort : (g : KoreSignature) (p : KorePattern) (s : SymbolicState) → IsReadAs g p s → IsOfSort g s.sort p
has_sort g p s r = subst (λ a. IsOfSort g a p) (solved_sort g r.opened s r.solving) (opened_sort g p (conjoined_terms p) r.opened r.is_opened)

-- ---- right answers

-- what is written for the state has no open call
computed : (g : KoreSignature) (p q : KorePattern) (s : SymbolicState) (sort : KoreSort) → VerifiesAs g p sort → state_fault g p ≡ None → IsReadAs g p s → InjectsWhereItStands g q → IsArrangedPattern g s q → IsComputed g q
computed g p q s sort verified clear read inj (ds, arranged, is) =
    subst (IsComputed g) (sym is) (reordered_is_computed g the_top p s (with_clauses s ds) verified.0 (nothing_misplaced g p clear).1 read refl
    (λ d there. let from = arranged.from_these d there in (from.0, from.1, from.2.same)) (subst (InjectsWhereItStands g) is inj))

-- the state has the pattern's instances, and its literals are written right
abbrev pub IsSoundReading : KoreSignature → KorePattern → SymbolicState → Type 0
IsSoundReading g p s = IsSoundState g s × HasInstancesOf g p s

right : (g : KoreSignature) (p : KorePattern) (sort : KoreSort) (s : SymbolicState) (r : endings.Result theory.Simplified) → VerifiesAs g p sort → state_fault g p ≡ None → IsReadAs g p s → IsSoundReading g p s → IsWellFormed g s →
    IsAnswer g s r → IsSpelled g s r → IsRightOfSimplify g p r
right g p sort s r verified clear read made well (empty h) spelled = empty_is_right g p s made.1 (has_sort g p s read) h
right g p sort s r verified clear read made well (wide c may e) spelled = record { state = s; read = read; shown = wide_is_shown g p s c e }
right g p sort s r verified clear read made well (rough cs q h n is) spelled = record { state = s; read = read; shown = rough_is_shown g p q s cs h is }
right g p sort s r verified clear read made well (heavy cs k q h n is) spelled = record { state = s; read = read; shown = heavy_is_shown g p q s cs k h is }
right g p sort s r verified clear read made well (deeper n h w e) spelled = record { state = s; read = read; shown = deep_is_shown g p s n well e }
right g p sort s r verified clear read made well (some q h n d is) spelled = state_is_right g p q s made.1 h made.0 spelled (computed g p q s sort verified clear read spelled.injects is)

pub found_of : (g : KoreSignature) (p : KorePattern) (sort : KoreSort) (s : SymbolicState) (a : Simplified) → VerifiesAs g p sort → state_fault g p ≡ None → IsReadAs g p s → IsSoundReading g p s → IsWellFormed g s → (IsWellFormed g s → IsAnswered g s a) → IsFound g p a
found_of g p sort s a verified clear read made well answers =
    let h = answers well in record {
      read_as = s;
      read = read;
      answer = h.answer;
      is = h.is;
      is_told = h.is_told;
      right = right g p sort s h.answer verified clear read made well h.is h.spelled;
      floor = floor_is_kept g p s h.answer read well.clauses_at_hand h.is;
    }

pub found_where : (g : KoreSignature) (p : KorePattern) (sort : KoreSort) (s : SymbolicState) (r : Result Simplified SimplifyError) → VerifiesAs g p sort → state_fault g p ≡ None → IsReadAs g p s → IsSoundReading g p s → IsWellFormed g s →
    IfOk r (λ a. IsWellFormed g s → IsAnswered g s a) → IfOk r (IsFound g p)
found_where g p sort s (Ok a) verified clear read made well h = found_of g p sort s a verified clear read made well h
found_where g p sort s (Err e) verified clear read made well h = tt

-- ---- what can't be written

unless_there : (g : KoreSignature) (o : Option KorePattern) → (InjectsIfThere g o → ⊥) → meaning_of g injection_name ≢ injection
unless_there g (Some p) no_injection = λ there. no_injection (inl there)
unless_there g None no_injection = λ there. no_injection tt

pub no_predicate : (g : KoreSignature) (sort : KoreSort) (cs : List (List Literal)) → (ds : List (List Literal)) × AreArranged g sort cs ds × (InjectsIfThere g (written_predicate g sort ds) → ⊥) → meaning_of g injection_name ≢ injection
no_predicate g sort cs h = unless_there g (written_predicate g sort h.0) h.2

pub no_state : (g : KoreSignature) (s : SymbolicState) → (ds : List (List Literal)) × AreArranged g s.sort s.clauses ds × (InjectsWhereItStands g (written_state g (with_clauses s ds)) → ⊥) → meaning_of g injection_name ≢ injection
no_state g s h = λ there. h.2 (inl there)

pub wanted_where : (g : KoreSignature) (p : KorePattern) (s : SymbolicState) (r : Result Simplified SimplifyError) → IsReadAs g p s → IsWellFormed g s →
    IfErr r (λ e. TellsNoInjection e → IsWellFormed g s → WantsInjection g s) → IfErr r (λ e. TellsNoInjection e → LacksInjection g p)
wanted_where g p s (Ok a) read well h = tt
wanted_where g p s (Err e) read well h = λ told. record { read_as = s; read = read; wants = h told well }
