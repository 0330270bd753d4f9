-- Loops over parts, turns and places, one step at a time.
use Rattle.std.proofs.Common.{◌≡◌, ◌⊎◌, inr, refl, sym, ap, subst, ◌∙◌, ℕ, ◌+◌, ◌<◌, ◌≤◌, List, [], ◌∷◌, ◌++◌, map, length, get_or, take, drop}
use Rattle.std.specs.List.{AllByRecursion, AllZip, Contains}
use Rattle.std.proofs.lemmas.List.{map-append, append-nil}
use Rattle.kp_kore.specs.Syntax.{Text}
use Rattle.kp_kore.specs.Signature.{KoreSignature}
use Rattle.kp_kore.specs.Rules.{RewriteRule, RuleBody, rewrite, foreign_rule}
use Rattle.kp_kore.specs.Theory.{Theory}
use Rattle.kp_kore.specs.Steps.{Fires, HasTurn, AnyByRecursion}
use Rattle.kp_kore.proofs.TurnLemmas.{each_member, of_member}
use Rattle.kp_symbolic.specs.States.{SymbolicState}
use Rattle.kp_symbolic_laws.specs.Safe.{IsSafe}
use Rattle.kp_rule_sets.specs.RuleSets.{RunsAs}
use Rattle.kp_rule_sets.specs.declared.rule_set.RuleSet.{RuleSet}
use Rattle.kp_case_laws.specs.Parts.{whole, OfEachInstance}
use Rattle.kp_case_laws.specs.Firing.{HasNoInstance}
use Rattle.kp_unify.specs.Narrowed.{NumberedPart}
use Rattle.kp_unify.specs.Views.{numbered_view}
use Rattle.kp_unify.specs.declared.part.Part.{Part}
use Rattle.kp_step.specs.ReadyParts.{IsReadyPart, HasInstance}
use Rattle.kp_step.specs.Places.{IsAt}
use Rattle.kp_step.specs.Remainders.{AreKept, none_left}
use Rattle.kp_step.specs.Found.{PlacedTurn, IsTurnAt, IsTried, AreTriedBefore, AreFound, AreAllFound}
use Rattle.kp_step.specs.Answers.{ShowsOf}
use Rattle.kp_step.specs.Counted.{IsComparedWithin}
use Rattle.kp_step.specs.Follows.{IsSolvedPart}
use Rattle.kp_step.specs.Views.{numbered_views, turn_view}
use Rattle.kp_step.specs.declared.turns.Turn.{Turn}
use Rattle.kp_step.specs.declared.part_answers.UndecidedClauses.{UndecidedClauses}
use Rattle.kp_step.proofs.FoundLemmas.{one_at, no_turn_found, turn_found, all_found}
use Rattle.kp_step.proofs.RemainderLemmas.{kept_more, kept_less}
use Rattle.kp_step.proofs.LoopLemmas.{taken, all_taken, split_there}
use Rattle.kp_step.proofs.OrderLemmas.{InTurn, each_is_there, none_comes_again, smaller_ahead, numbers_ahead}
use Rattle.kp_step.proofs.AskedLemmas.{instance_there}

-- ---- parts that are decided

abbrev pub Deciding : KoreSignature → List Text → List NumberedPart → List NumberedPart → List NumberedPart → Type 0
Deciding g used all rest found = AllByRecursion (IsReadyPart g used) rest × AllByRecursion (Contains all) rest × ((ks : List NumberedPart) → AreKept g rest ks → AreKept g all (found ++ ks))

pub decides_first : (g : KoreSignature) (used : List Text) (all : List NumberedPart) → AllByRecursion (IsReadyPart g used) all → Deciding g used all all []
decides_first g used all h = (h, each_member (Contains all) all (λ q c. c), (λ ks k. k))

pub decides_begin : (g : KoreSignature) (used : List Text) (all items kept : List Part) → items ≡ all → kept ≡ [] → AllByRecursion (IsReadyPart g used) (numbered_views all) → Deciding g used (numbered_views all) (numbered_views items) (numbered_views kept)
decides_begin g used all items kept e k h =
    subst (λ xs. Deciding g used (numbered_views all) (numbered_views xs) (numbered_views kept)) (sym e)
    (subst (λ ks. Deciding g used (numbered_views all) (numbered_views all) (numbered_views ks)) (sym k) (decides_first g used (numbered_views all) h))

pub decides_more : (g : KoreSignature) (used : List Text) (all kept new items rest : List Part) (p : Part) → items ≡ p ∷ rest → new ≡ kept ++ p ∷ [] → HasInstance g (whole (numbered_view p).part.state) →
    Deciding g used (numbered_views all) (numbered_views items) (numbered_views kept) → Deciding g used (numbered_views all) (numbered_views rest) (numbered_views new)
decides_more g used all kept new items rest p e n i d =
    let q = numbered_view p in
    let h : Deciding g used (numbered_views all) (q ∷ numbered_views rest) (numbered_views kept) = subst (λ xs. Deciding g used (numbered_views all) (numbered_views xs) (numbered_views kept)) e d in
    let seen : numbered_views new ≡ numbered_views kept ++ q ∷ [] = ap numbered_views n ∙ map-append numbered_view kept (p ∷ []) in
    subst (Deciding g used (numbered_views all) (numbered_views rest)) (sym seen)
    (h.0.1, h.1.1, kept_more g (numbered_views kept) (numbered_views rest) (numbered_views all) q (instance_there g q.part i) h.2)

pub decides_less : (g : KoreSignature) (used : List Text) (all kept items rest : List Part) (p : Part) → items ≡ p ∷ rest → HasNoInstance g (whole (numbered_view p).part.state) →
    Deciding g used (numbered_views all) (numbered_views items) (numbered_views kept) → Deciding g used (numbered_views all) (numbered_views rest) (numbered_views kept)
decides_less g used all kept items rest p e none d =
    let q = numbered_view p in
    let h : Deciding g used (numbered_views all) (q ∷ numbered_views rest) (numbered_views kept) = subst (λ xs. Deciding g used (numbered_views all) (numbered_views xs) (numbered_views kept)) e d in
    (h.0.1, h.1.1, kept_less g (numbered_views kept) (numbered_views rest) (numbered_views all) q none h.2)

-- the next part can be decided
pub next_safe : (g : KoreSignature) (used : List Text) (all kept items rest : List Part) (p : Part) → items ≡ p ∷ rest → Deciding g used (numbered_views all) (numbered_views items) (numbered_views kept) → IsSafe g (numbered_view p).part.state
next_safe g used all kept items rest p e d =
    let h : Deciding g used (numbered_views all) (numbered_view p ∷ numbered_views rest) (numbered_views kept) = subst (λ xs. Deciding g used (numbered_views all) (numbered_views xs) (numbered_views kept)) e d in
    h.0.0.safe

-- what is left open of it
pub decides_open : (g : KoreSignature) (used : List Text) (s : SymbolicState) (rules : List RewriteRule) (all kept items rest : List Part) (p : Part) (told o : UndecidedClauses) → items ≡ p ∷ rest → ShowsOf g s (numbered_view p).part.state told → o ≡ told → IsComparedWithin g s (numbered_view p).part.state rules o.over →
    Deciding g used (numbered_views all) (numbered_views items) (numbered_views kept) → (q : NumberedPart) × Contains (numbered_views all) q × ShowsOf g s q.part.state o × IsComparedWithin g s q.part.state rules o.over
decides_open g used s rules all kept items rest p told o e shows same counted d =
    let h : Deciding g used (numbered_views all) (numbered_view p ∷ numbered_views rest) (numbered_views kept) = subst (λ xs. Deciding g used (numbered_views all) (numbered_views xs) (numbered_views kept)) e d in
    (numbered_view p, h.1.0, subst (ShowsOf g s (numbered_view p).part.state) (sym same) shows, counted)

pub decides_all : (g : KoreSignature) (used : List Text) (all kept items : List Part) → items ≡ [] → Deciding g used (numbered_views all) (numbered_views items) (numbered_views kept) → AreKept g (numbered_views all) (numbered_views kept)
decides_all g used all kept items e d =
    let h : Deciding g used (numbered_views all) [] (numbered_views kept) = subst (λ xs. Deciding g used (numbered_views all) (numbered_views xs) (numbered_views kept)) e d in
    subst (AreKept g (numbered_views all)) (append-nil (numbered_views kept)) (h.2 [] none_left)

-- ---- parts that are solved

abbrev pub SolvingParts : KoreSignature → List Text → List NumberedPart → List NumberedPart → List NumberedPart → Type 0
SolvingParts g used all rest found = AllByRecursion (IsReadyPart g used) rest × ((ks : List NumberedPart) → AllZip (IsSolvedPart g used) rest ks → AllZip (IsSolvedPart g used) all (found ++ ks))

pub solves_first : (g : KoreSignature) (used : List Text) (all : List NumberedPart) → AllByRecursion (IsReadyPart g used) all → SolvingParts g used all all []
solves_first g used all h = (h, (λ ks k. k))

solved_ahead : (xs ys : List NumberedPart) (q : NumberedPart) → (xs ++ q ∷ []) ++ ys ≡ xs ++ q ∷ ys
solved_ahead [] ys q = refl
solved_ahead (x ∷ xs) ys q = ap (λ zs. x ∷ zs) (solved_ahead xs ys q)

pub solves_more : (g : KoreSignature) (used : List Text) (all found new items rest : List Part) (p r : Part) → items ≡ p ∷ rest → new ≡ found ++ r ∷ [] → (IsReadyPart g used (numbered_view p) → IsSolvedPart g used (numbered_view p) (numbered_view r)) →
    SolvingParts g used (numbered_views all) (numbered_views items) (numbered_views found) → SolvingParts g used (numbered_views all) (numbered_views rest) (numbered_views new)
solves_more g used all found new items rest p r e n s d =
    let h : SolvingParts g used (numbered_views all) (numbered_view p ∷ numbered_views rest) (numbered_views found) = subst (λ xs. SolvingParts g used (numbered_views all) (numbered_views xs) (numbered_views found)) e d in
    let seen : numbered_views new ≡ numbered_views found ++ numbered_view r ∷ [] = ap numbered_views n ∙ map-append numbered_view found (r ∷ []) in
    subst (SolvingParts g used (numbered_views all) (numbered_views rest)) (sym seen)
    (h.0.1, (λ ks k. subst (AllZip (IsSolvedPart g used) (numbered_views all)) (sym (solved_ahead (numbered_views found) ks (numbered_view r))) (h.1 (numbered_view r ∷ ks) (s h.0.0, k))))

pub solves_all : (g : KoreSignature) (used : List Text) (all found items : List Part) → items ≡ [] → SolvingParts g used (numbered_views all) (numbered_views items) (numbered_views found) → AllZip (IsSolvedPart g used) (numbered_views all) (numbered_views found)
solves_all g used all found items e d =
    let h : SolvingParts g used (numbered_views all) [] (numbered_views found) = subst (λ xs. SolvingParts g used (numbered_views all) (numbered_views xs) (numbered_views found)) e d in
    subst (AllZip (IsSolvedPart g used) (numbered_views all)) (append-nil (numbered_views found)) (h.1 [] tt)

-- ---- rules that are tried in their turn

-- one place more of which no rule has a turn, or this one
abbrev pub FoundAt : Theory → List Text → SymbolicState → List ℕ → ℕ → List PlacedTurn → Type 0
FoundAt t used s places i turns = AreFound t used (whole s) (take i places) turns

pub finds_no_turn : (t : Theory) (used : List Text) (s : SymbolicState) (places : List ℕ) (i place : ℕ) (turns : List PlacedTurn) → i < length places → place ≡ get_or places i place → FoundAt t used s places i turns →
    ((r : RewriteRule) → IsAt t place r → OfEachInstance t.signature (whole s) (λ w c. ¬ HasTurn t r c)) → FoundAt t used s places (i + 1) turns
finds_no_turn t used s places i place turns h e f none = subst (λ xs. AreFound t used (whole s) xs turns) (sym (taken places i place h e)) (no_turn_found t used (whole s) (take i places) turns place f none)

pub finds_turn : (t : Theory) (used : List Text) (s : SymbolicState) (rules : RuleSet) (places : List ℕ) (i place : ℕ) (turns new : List Turn) (k : Turn) → RunsAs t rules → InTurn rules places → i < length places → place ≡ get_or places i place → new ≡ turns ++ k ∷ [] → k.place ≡ place →
    FoundAt t used s places i (map turn_view turns) → (j : IsTurnAt t used (whole s) (turn_view k)) → AllByRecursion (λ n. (r : RewriteRule) → IsAt t n.place r → Contains j.before r) (map turn_view turns) → FoundAt t used s places (i + 1) (map turn_view new)
finds_turn t used s rules places i place turns new k runs turn h e n p f j before =
    let ahead = take i places in
    let split : ahead ++ (turn_view k).place ∷ drop (i + 1) places ≡ places = ap (λ x. ahead ++ x ∷ drop (i + 1) places) p ∙ sym (split_there places i place h e) in
    let instance_there : InTurn rules (ahead ++ (turn_view k).place ∷ drop (i + 1) places) = subst (InTurn rules) (sym split) turn in
    let seen : map turn_view new ≡ map turn_view turns ++ turn_view k ∷ [] = ap (map turn_view) n ∙ map-append turn_view turns (k ∷ []) in
    let more : take (i + 1) places ≡ ahead ++ (turn_view k).place ∷ [] = taken places i place h e ∙ ap (λ x. ahead ++ x ∷ []) (sym p) in
    subst (λ ks. FoundAt t used s places (i + 1) ks) (sym seen)
    (subst (λ xs. AreFound t used (whole s) xs (map turn_view turns ++ turn_view k ∷ [])) (sym more)
    (turn_found t used (whole s) ahead (map turn_view turns) (turn_view k) f (none_comes_again rules ahead (drop (i + 1) places) (turn_view k).place instance_there)
    (numbers_ahead t used (whole s) rules ahead (drop (i + 1) places) (map turn_view turns) (map turn_view turns) (turn_view k) runs instance_there f.each f.among j) j before))

-- a rule of a smaller number than that of the place was tried
pub tried_before : (t : Theory) (used : List Text) (s : SymbolicState) (rules : RuleSet) (places : List ℕ) (i place : ℕ) (turns : List PlacedTurn) → RunsAs t rules → InTurn rules places → i < length places → place ≡ get_or places i place → FoundAt t used s places i turns → AreTriedBefore t (whole s) turns place
tried_before t used s rules places i place turns runs turn h e f r m at body j q there less = by q.body refl
  where
    IsOfTurn : Type 0
    IsOfTurn = AnyByRecursion (λ k. k.place ≡ j) turns ⊎ OfEachInstance t.signature (whole s) (λ w c. ¬ HasTurn t q c)

    by : (b : RuleBody) → q.body ≡ b → IsOfTurn
    by (foreign_rule l) is = inr (λ w c sorts met has. subst (λ b. Fires t.signature b c) is has.fires)
    by (rewrite n) is =
        let ahead = smaller_ahead t rules (take i places) (drop (i + 1) places) j place q r n m runs (subst (InTurn rules) (split_there places i place h e) turn) there at is body less (λ d. one_at t place q r (subst (λ k. IsAt t k q) d there) at) in
        of_member (IsTried t (whole s) turns) (take i places) j f.tried ahead q there

pub finds_all : (t : Theory) (used : List Text) (s : SymbolicState) (rules : RuleSet) (places : List ℕ) (i : ℕ) (turns : List PlacedTurn) → RunsAs t rules → InTurn rules places → length places ≤ i → FoundAt t used s places i turns → AreAllFound t used (whole s) turns
finds_all t used s rules places i turns runs turn past f =
    all_found t used (whole s) places turns (subst (λ xs. AreFound t used (whole s) xs turns) (all_taken places i past) f) (λ j r at. each_is_there t rules places j r runs turn at)
