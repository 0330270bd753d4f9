-- The parts of a verified right term, and what is compiled of those in which no new variable stands.
use Rattle.std.proofs.Common.{◌≡◌, refl, sym, ap, subst, ◌∙◌, ℕ, zero, suc, ◌+◌, ◌<◌, arith, Bool, true, false, not, ◌&&◌, ◌||◌, List, [], ◌∷◌, ◌++◌, length, get_or, drop, None}
use Rattle.std.specs.Borrow.{Bor}
use Rattle.std.specs.List.{list_all, list_any, AllByRecursion}
use Rattle.std.specs.Str.{bytes_eq}
use Rattle.std.proofs.lemmas.List.Folds.{list_all-append}
use Rattle.kp_kore.specs.Syntax.{Text, KoreSorts, no_sorts, next_sort, KorePattern, KorePatterns, variable, literal, application, no_patterns, next_pattern}
use Rattle.kp_kore.specs.Attributes.{sorts_equal}
use Rattle.kp_kore.specs.Parts.{SortedName, is_term, are_terms, subpatterns, all_subpatterns, free_variables, all_free_variables, sort_list, pattern_list}
use Rattle.kp_kore.specs.Signature.{KoreSignature}
use Rattle.kp_kore.specs.View.{view, patterns_of}
use Rattle.kp_kore.specs.declared.pattern.Pattern.{Pattern}
use Rattle.kp_kore.specs.Instance.{Valuation, is_named}
use Rattle.kp_kore.specs.Numbers.{computes_wide}
use Rattle.kp_kore.specs.Foreign.{none_within, has_foreign_head}
use Rattle.kp_kore.proofs.InstanceLemmas.{first_true, second_true}
use Rattle.kp_signature.specs.Places.{Place, argument_sorts, argument_at, after}
use Rattle.kp_signature.specs.Verify.{first_fault, fault_at, arguments_fault}
use Rattle.kp_signature.proofs.ApplicationLemmas.{as_many_arguments}
use Rattle.kp_signature.proofs.FaultLemmas.{nothing_earlier, nothing_later, keeps_rules}
use Rattle.kp_signature.proofs.ListLemmas.{all_weaker, all_append}
use Rattle.kp_signature.proofs.SortedInstances.{none_among, none_in_first, none_in_others, same_rest}
use Rattle.kp_ground.specs.Slots.{term_reads}
use Rattle.kp_ground.specs.Terms.{stays_narrow}
use Rattle.kp_ground.specs.TermView.{term_view}
use Rattle.kp_ground.specs.declared.term.CompiledTerm.{CompiledTerm}
use Rattle.kp_compile.specs.Exact.{IsNarrowAs, ReadsAs, are_named}
use Rattle.kp_compile.specs.Verified.{misapplies_injection, IsVerifiedTerm}
use Rattle.kp_compile.proofs.Reading.{both_so}
use Rattle.kp_rules.specs.Known.{is_among, is_known}
use Rattle.kp_rules.specs.Shapes.{seen}
use Rattle.kp_rules.specs.WideParts.{holds_none, all_narrow}
use Rattle.kp_rule_reading.specs.Compiled.{IsOldNamed, AddsOldPart}
use Rattle.kp_rule_reading.proofs.Named.{named_among, either_so}

-- ---- the parts of a verified term are verified

verified_one : (g : KoreSignature) (c : Place) (p : KorePattern) → is_term p ≡ true → first_fault g c p ≡ None → none_within (has_foreign_head g) p ≡ true → none_within (misapplies_injection g) p ≡ true → IsVerifiedTerm g p
verified_one g c p t e known injections = record { term = t; verified = record { place = c; faultless = e; known = known; injections = injections } }

mutual
  parts_at : (g : KoreSignature) (c : Place) (p : KorePattern) → is_term p ≡ true → first_fault g c p ≡ None → none_within (has_foreign_head g) p ≡ true → none_within (misapplies_injection g) p ≡ true → AllByRecursion (IsVerifiedTerm g) (subpatterns p)
  parts_at g c (variable x s) t e known injections = (verified_one g c (variable x s) t e known injections, tt)
  parts_at g c (literal s text) t e known injections = (verified_one g c (literal s text) t e known injections, tt)
  parts_at g c (application f ss ps) t e known injections = (
    verified_one g c (application f ss ps) t e known injections,
    arguments_at g c (argument_sorts g f ss) ps t (as_many_arguments g f ss ps (keeps_rules g c (application f ss ps) (nothing_earlier _ _ e)).symbol) (nothing_later (fault_at g c (application f ss ps)) _ e)
        (second_true (not (has_foreign_head g (application f ss ps))) (none_among (has_foreign_head g) ps) known) (second_true (not (misapplies_injection g (application f ss ps))) (none_among (misapplies_injection g) ps) injections),
  )
  parts_at g c _ t e known injections = absurd (cc)

  arguments_at : (g : KoreSignature) (c : Place) (ss : KoreSorts) (ps : KorePatterns) → are_terms ps ≡ true → length (sort_list ss) ≡ length (pattern_list ps) → arguments_fault g c ss ps ≡ None → none_among (has_foreign_head g) ps ≡ true → none_among (misapplies_injection g) ps ≡ true →
      AllByRecursion (IsVerifiedTerm g) (all_subpatterns ps)
  arguments_at g c ss no_patterns t n e known injections = tt
  arguments_at g c no_sorts (next_pattern p ps) t n e known injections = absurd (cc)
  arguments_at g c (next_sort s ss) (next_pattern p ps) t n e known injections =
      all_append (IsVerifiedTerm g) (subpatterns p) (all_subpatterns ps)
      (parts_at g (argument_at c s) p (first_true (is_term p) (are_terms ps) t) (nothing_earlier _ _ e) (none_in_first (has_foreign_head g) p ps known) (none_in_first (misapplies_injection g) p ps injections))
      (arguments_at g (after p c) ss ps (second_true (is_term p) (are_terms ps) t) (same_rest (length (sort_list ss)) (length (pattern_list ps)) n) (nothing_later (first_fault g (argument_at c s) p) _ e)
      (none_in_others (has_foreign_head g) p ps known) (none_in_others (misapplies_injection g) p ps injections))

pub verified_parts : (g : KoreSignature) (p : KorePattern) → IsVerifiedTerm g p → AllByRecursion (IsVerifiedTerm g) (subpatterns p)
verified_parts g p h = parts_at g h.verified.place p h.term h.verified.faultless h.verified.known h.verified.injections

-- ---- and have no variables but its own

mutual
  parts_pass : (test : SortedName → Bool) (p : KorePattern) → is_term p ≡ true → list_all test (free_variables p) ≡ true → AllByRecursion (λ q. list_all test (free_variables q) ≡ true) (subpatterns p)
  parts_pass test (variable x s) t h = (h, tt)
  parts_pass test (literal s text) t h = (h, tt)
  parts_pass test (application f ss ps) t h = (h, all_parts_pass test ps t h)
  parts_pass test _ t h = absurd (cc)

  all_parts_pass : (test : SortedName → Bool) (ps : KorePatterns) → are_terms ps ≡ true → list_all test (all_free_variables ps) ≡ true → AllByRecursion (λ q. list_all test (free_variables q) ≡ true) (all_subpatterns ps)
  all_parts_pass test no_patterns t h = tt
  all_parts_pass test (next_pattern p ps) t h =
      let whole = sym (list_all-append test (free_variables p) (all_free_variables ps)) ∙ h in
      all_append (λ q. list_all test (free_variables q) ≡ true) (subpatterns p) (all_subpatterns ps)
      (parts_pass test p (first_true (is_term p) (are_terms ps) t) (first_true (list_all test (free_variables p)) (list_all test (all_free_variables ps)) whole))
      (all_parts_pass test ps (second_true (is_term p) (are_terms ps) t) (second_true (list_all test (free_variables p)) (list_all test (all_free_variables ps)) whole))

among_is_named : (y : SortedName) (xs : List SortedName) → is_among y xs ≡ true → is_named y.name xs ≡ true
among_is_named y [] h = absurd (cc)
among_is_named y (x ∷ xs) h = by (bytes_eq x.name y.name) (sorts_equal x.sort y.sort) h (among_is_named y xs)
  where
    by : (b s : Bool) → (b && s) || is_among y xs ≡ true → (is_among y xs ≡ true → is_named y.name xs ≡ true) → b || is_named y.name xs ≡ true
    by true s k rest = refl
    by false s k rest = rest k

-- a known variable that isn't new is one of the left term's
old_is_left : (xs : List Text) (left new : List SortedName) (x : SortedName) → are_named xs left ≡ true → is_known left new x ≡ true → not (is_named x.name new) ≡ true → are_named xs (x ∷ []) ≡ true
old_is_left xs left new x named known old =
    either_so (is_among x new) (is_named x.name left && not (is_named x.name new)) (are_named xs (x ∷ []) ≡ true)
    (λ a. absurd (cc (sym old ∙ ap not (among_is_named x new a))))
    (λ b. both_so _ _ (named_among xs left x.name named (first_true (is_named x.name left) (not (is_named x.name new)) b)) refl)
    known

all_old_named : (xs : List Text) (left new vs : List SortedName) → are_named xs left ≡ true → list_all (is_known left new) vs ≡ true → list_all (λ x. not (is_named x.name new)) vs ≡ true → are_named xs vs ≡ true
all_old_named xs left new [] named known old = refl
all_old_named xs left new (v ∷ vs) named known old =
    both_so _ _
    (first_true _ true (old_is_left xs left new v named (first_true (is_known left new v) (list_all (is_known left new) vs) known) (first_true (not (is_named v.name new)) (list_all (λ x. not (is_named x.name new)) vs) old)))
    (all_old_named xs left new vs named (second_true (is_known left new v) (list_all (is_known left new) vs) known) (second_true (not (is_named v.name new)) (list_all (λ x. not (is_named x.name new)) vs) old))

pub old_parts_named : (xs : List Text) (left new : List SortedName) (t : KorePattern) (qs : List KorePattern) → is_term t ≡ true → are_named xs left ≡ true → list_all (is_known left new) (free_variables t ++ all_free_variables (patterns_of qs)) ≡ true →
    AllByRecursion (IsOldNamed xs new) (subpatterns t)
old_parts_named xs left new t qs term named known =
    all_weaker (λ q. list_all (is_known left new) (free_variables q) ≡ true) (IsOldNamed xs new) (subpatterns t) (λ q k old. all_old_named xs left new (free_variables q) named k old)
    (parts_pass (is_known left new) t term
    (first_true (list_all (is_known left new) (free_variables t)) (list_all (is_known left new) (all_free_variables (patterns_of qs))) (sym (list_all-append (is_known left new) (free_variables t) (all_free_variables (patterns_of qs))) ∙ known)))

-- ---- one part more

and_true : (b : Bool) → b && true ≡ b
and_true true = refl
and_true false = refl

both_kept : (h n w : Bool) → h ≡ false → n ≡ n && not (h && w)
both_kept true n w e = absurd (cc)
both_kept false n w e = sym (and_true n)

pub left_out : (g : KoreSignature) (xs : List Text) (new : List SortedName) (q : KorePattern) (old now : List CompiledTerm) → now ≡ old → holds_none new q ≡ false → AddsOldPart g xs new q old now
left_out g xs new q old now same has = record {
  narrow = λ v. ap (all_narrow v) same ∙ both_kept (holds_none new q) (all_narrow v old) (computes_wide g v q) has;
  reads = λ named read. subst (λ ts. list_all (term_reads xs) ts ≡ true) (sym same) read;
}

one_more : (s h w : Bool) → h ≡ true → s ≡ not w → s && true ≡ not (h && w)
one_more s true w e k = and_true s ∙ k
one_more s false w e k = absurd (cc)

pub taken_in : (g : KoreSignature) (xs : List Text) (new : List SortedName) (q : KorePattern) (t : CompiledTerm) (old now : List CompiledTerm) → now ≡ old ++ t ∷ [] → holds_none new q ≡ true → IsNarrowAs g q t → ReadsAs xs q t → AddsOldPart g xs new q old now
taken_in g xs new q t old now added has narrow reads = record {
  narrow = λ v. ap (all_narrow v) added
      ∙ list_all-append (λ s. stays_narrow v (term_view s)) old (t ∷ [])
      ∙ ap (λ b. all_narrow v old && b) (one_more (stays_narrow v (term_view t)) (holds_none new q) (computes_wide g v q) has (narrow v));
  reads = λ named read. ap (list_all (term_reads xs)) added ∙ list_all-append (term_reads xs) old (t ∷ []) ∙ both_so _ _ read (both_so _ _ (reads (named has)) refl);
}

-- ---- part by part

pub lent_at : (P : KorePattern → Type 0) (ps : List (Bor Pattern)) (i : ℕ) (d : Bor Pattern) → i < length ps → d ≡ get_or ps i d → AllByRecursion P (seen ps) → P (view d.now)
lent_at P [] i d lt is h = absurd (omega arith)
lent_at P (p ∷ ps) zero d lt is h = subst (λ q. P (view q.now)) (sym is) h.0
lent_at P (p ∷ ps) (suc i) d lt is h = lent_at P ps i d (omega arith) is h.1

any_at : (test : KorePattern → Bool) (ps : List (Bor Pattern)) (i : ℕ) (d : Bor Pattern) → i < length ps → d ≡ get_or ps i d → list_any test (seen (drop i ps)) ≡ (test (view d.now) || list_any test (seen (drop (i + 1) ps)))
any_at test [] i d lt is = absurd (omega arith)
any_at test (p ∷ ps) zero d lt is = ap (λ q. test (view q.now) || list_any test (seen ps)) (sym is)
any_at test (p ∷ ps) (suc i) d lt is = any_at test ps i d (omega arith) is ∙ ap (λ n. test (view d.now) || list_any test (seen (drop n (p ∷ ps)))) (next i)
  where
    next : (i : ℕ) → suc (i + 1) ≡ suc i + 1
    next i = omega arith

joined : (a w r : Bool) → (a && not w) && not r ≡ a && not (w || r)
joined true true r = refl
joined true false r = refl
joined false w r = refl

-- the parts from the place on, beside what is compiled of those before
pub one_further : (g : KoreSignature) (v : Valuation) (new : List SortedName) (ps : List (Bor Pattern)) (i : ℕ) (d : Bor Pattern) (old now : List CompiledTerm) (whole : Bool) → i < length ps → d ≡ get_or ps i d →
    all_narrow v now ≡ all_narrow v old && not (holds_none new (view d.now) && computes_wide g v (view d.now)) →
    all_narrow v old && not (list_any (λ q. holds_none new q && computes_wide g v q) (seen (drop i ps))) ≡ whole →
    all_narrow v now && not (list_any (λ q. holds_none new q && computes_wide g v q) (seen (drop (i + 1) ps))) ≡ whole
one_further g v new ps i d old now whole lt is step so =
    let test : KorePattern → Bool = λ q. holds_none new q && computes_wide g v q in
    let rest = list_any test (seen (drop (i + 1) ps)) in
    ap (λ b. b && not rest) step
    ∙ joined (all_narrow v old) (test (view d.now)) rest
    ∙ sym (ap (λ b. all_narrow v old && not b) (any_at test ps i d lt is))
    ∙ so

pub at_the_end : (a whole : Bool) → a && true ≡ whole → a ≡ whole
at_the_end a whole h = sym (and_true a) ∙ h
