-- A name of a verified pattern's free variables has one sort.
use Rattle.std.proofs.Common.{◌≡◌, refl, sym, ap, subst, ◌∙◌, ℕ, suc, ◌+◌, Bool, true, false, not, cond, ◌&&◌, ◌==◌, List, [], ◌∷◌, ◌++◌, length, Option, Some, None, arith}
use Rattle.std.specs.List.{AllByRecursion, filter}
use Rattle.std.specs.Str.{bytes_eq}
use Rattle.std.proofs.lemmas.List.{append_assoc}
use Rattle.std.proofs.lemmas.Slice.Eq.{bytes_eq-Decides}
use Rattle.kp_kore.specs.Syntax.{Text, KoreSort, KoreSorts, no_sorts, next_sort, KorePattern, KorePatterns, variable, set_variable, application, string_literal, literal, top, bottom, negation, next, conjunction, disjunction, implication, equivalence, rewriting, exists, forall, ceil, floor, equals, membership, mu, nu, no_patterns, next_pattern}
use Rattle.kp_kore.specs.Parts.{SortedName, sort_list, pattern_list, free_variables, all_free_variables, without_name}
use Rattle.kp_kore.specs.Signature.{KoreSignature}
use Rattle.kp_kore.specs.Cases.{HaveOneSort}
use Rattle.kp_signature.specs.Places.{earlier, Place, the_top, argument_at, part_at, after, under_binder, argument_sorts, sort_in_scope}
use Rattle.kp_signature.specs.Verify.{VerifyFault, fault_at, first_fault, arguments_fault, members_fault}
use Rattle.kp_signature.proofs.ScopeLemmas.{scope_append, without_keeps}
use Rattle.kp_signature.proofs.ApplicationLemmas.{as_many_arguments}
use Rattle.kp_signature.proofs.FaultLemmas.{nothing_earlier, nothing_later, keeps_rules}
use Rattle.kp_signature.proofs.VariableSorts.{HasItsSort, in_longer_scope, one_variable}

-- the variables have the sorts that their names have among these
abbrev pub Agree : List SortedName → List SortedName → Type 0
Agree whole = AllByRecursion (HasItsSort whole)

agree_more : (whole more xs : List SortedName) → Agree whole xs → Agree (whole ++ more) xs
agree_more whole more [] h = tt
agree_more whole more (x ∷ xs) h = (in_longer_scope x.name x.sort whole more h.0, agree_more whole more xs h.1)

agree_both : (whole xs ys : List SortedName) → Agree whole xs → Agree whole ys → Agree whole (xs ++ ys)
agree_both whole [] ys h k = k
agree_both whole (x ∷ xs) ys h k = (h.0, agree_both whole xs ys h.1 k)

-- xs stand before ys
agree_next : (scope xs ys : List SortedName) → Agree (scope ++ xs) xs → Agree ((scope ++ xs) ++ ys) ys → Agree (scope ++ (xs ++ ys)) (xs ++ ys)
agree_next scope xs ys h k =
    subst (λ w. Agree w (xs ++ ys)) (append_assoc scope xs ys) (agree_both ((scope ++ xs) ++ ys) xs ys (agree_more (scope ++ xs) ys xs h) k)

-- ---- under a binder

other_name : (x : Text) (t : KoreSort) (n : Text) (scope : List SortedName) → bytes_eq x n ≡ false → sort_in_scope n (record { name = x; sort = t } ∷ scope) ≡ sort_in_scope n scope
other_name x t n scope h = ap (λ b. cond b (Some t) (sort_in_scope n scope)) h

differ_too : (x y : Text) → bytes_eq y x ≡ false → bytes_eq x y ≡ false
differ_too x y h = by (bytes_eq x y) refl
  where
    by : (b : Bool) → bytes_eq x y ≡ b → bytes_eq x y ≡ false
    by true e = absurd (cc (sym h ∙ (bytes_eq-Decides y x).1 (sym ((bytes_eq-Decides x y).0 e))))
    by false e = e

unbound_one : (x : Text) (t : KoreSort) (scope all : List SortedName) (y : SortedName) → bytes_eq y.name x ≡ false → sort_in_scope y.name (record { name = x; sort = t } ∷ (scope ++ all)) ≡ Some y.sort →
    sort_in_scope y.name (scope ++ without_name x all) ≡ Some y.sort
unbound_one x t scope all y differs h =
    let apart : bytes_eq x y.name ≡ false = differ_too x y.name differs in
    scope_append y.name scope (without_name x all)
    ∙ ap (earlier (sort_in_scope y.name scope)) (without_keeps x y.name all apart)
    ∙ sym (scope_append y.name scope all)
    ∙ sym (other_name x t y.name (scope ++ all) apart)
    ∙ h

unbound : (x : Text) (t : KoreSort) (scope all xs : List SortedName) → Agree (record { name = x; sort = t } ∷ (scope ++ all)) xs → Agree (scope ++ without_name x all) (without_name x xs)
unbound x t scope all [] h = tt
unbound x t scope all (y ∷ ys) h = by (bytes_eq y.name x) refl (unbound x t scope all ys h.1)
  where
    by : (b : Bool) → bytes_eq y.name x ≡ b → Agree (scope ++ without_name x all) (without_name x ys) → Agree (scope ++ without_name x all) (cond (not b) (y ∷ without_name x ys) (without_name x ys))
    by true e rest = rest
    by false e rest = (unbound_one x t scope all y e h.0, rest)

-- ---- patterns

pub two_parts : (n l r : Option VerifyFault) → earlier n (earlier l (earlier r None)) ≡ None → (l ≡ None) × (r ≡ None)
two_parts n l r h =
    let k = nothing_later n (earlier l (earlier r None)) h in
    (nothing_earlier l (earlier r None) k, nothing_earlier r None (nothing_later l (earlier r None) k))

mutual
  pub agrees : (g : KoreSignature) (c : Place) (p : KorePattern) → first_fault g c p ≡ None → Agree (c.scope ++ free_variables p) (free_variables p)
  agrees g c (variable x s) h = (one_variable x s c.scope (keeps_rules g c (variable x s) h).scope, tt)
  agrees g c (set_variable x s) h = tt
  agrees g c (application f ss ps) h = arguments_agree g c (argument_sorts g f ss) ps (as_many_arguments g f ss ps (keeps_rules g c (application f ss ps) (nothing_earlier (fault_at g c (application f ss ps)) (arguments_fault g c (argument_sorts g f ss) ps) h)).symbol) (nothing_later (fault_at g c (application f ss ps)) (arguments_fault g c (argument_sorts g f ss) ps) h)
  agrees g c (string_literal t) h = tt
  agrees g c (literal s t) h = tt
  agrees g c (top s) h = tt
  agrees g c (bottom s) h = tt
  agrees g c (negation s p) h = agrees g (part_at c s) p (nothing_later (fault_at g c (negation s p)) (first_fault g (part_at c s) p) h)
  agrees g c (next s p) h = agrees g (part_at c s) p (nothing_later (fault_at g c (next s p)) (first_fault g (part_at c s) p) h)
  agrees g c (conjunction s ps) h = members_agree g (part_at c s) ps (nothing_later (fault_at g c (conjunction s ps)) (members_fault g (part_at c s) ps) h)
  agrees g c (disjunction s ps) h = members_agree g (part_at c s) ps (nothing_later (fault_at g c (disjunction s ps)) (members_fault g (part_at c s) ps) h)
  agrees g c (implication s p q) h = let k = two_parts (fault_at g c (implication s p q)) (first_fault g (part_at c s) p) (first_fault g (after p (part_at c s)) q) h in agree_next c.scope (free_variables p) (free_variables q) (agrees g (part_at c s) p k.0) (agrees g (after p (part_at c s)) q k.1)
  agrees g c (equivalence s p q) h = let k = two_parts (fault_at g c (equivalence s p q)) (first_fault g (part_at c s) p) (first_fault g (after p (part_at c s)) q) h in agree_next c.scope (free_variables p) (free_variables q) (agrees g (part_at c s) p k.0) (agrees g (after p (part_at c s)) q k.1)
  agrees g c (rewriting s p q) h = let k = two_parts (fault_at g c (rewriting s p q)) (first_fault g (part_at c s) p) (first_fault g (after p (part_at c s)) q) h in agree_next c.scope (free_variables p) (free_variables q) (agrees g (part_at c s) p k.0) (agrees g (after p (part_at c s)) q k.1)
  agrees g c (exists s x t p) h = unbound x t c.scope (free_variables p) (free_variables p) (agrees g (under_binder x t (part_at c s)) p (nothing_later (fault_at g c (exists s x t p)) (first_fault g (under_binder x t (part_at c s)) p) h))
  agrees g c (forall s x t p) h = unbound x t c.scope (free_variables p) (free_variables p) (agrees g (under_binder x t (part_at c s)) p (nothing_later (fault_at g c (forall s x t p)) (first_fault g (under_binder x t (part_at c s)) p) h))
  agrees g c (ceil a s p) h = agrees g (part_at c a) p (nothing_later (fault_at g c (ceil a s p)) (first_fault g (part_at c a) p) h)
  agrees g c (floor a s p) h = agrees g (part_at c a) p (nothing_later (fault_at g c (floor a s p)) (first_fault g (part_at c a) p) h)
  agrees g c (equals a s p q) h = let k = two_parts (fault_at g c (equals a s p q)) (first_fault g (part_at c a) p) (first_fault g (after p (part_at c a)) q) h in agree_next c.scope (free_variables p) (free_variables q) (agrees g (part_at c a) p k.0) (agrees g (after p (part_at c a)) q k.1)
  agrees g c (membership a s p q) h = let k = two_parts (fault_at g c (membership a s p q)) (first_fault g (part_at c a) p) (first_fault g (after p (part_at c a)) q) h in agree_next c.scope (free_variables p) (free_variables q) (agrees g (part_at c a) p k.0) (agrees g (after p (part_at c a)) q k.1)
  agrees g c (mu x s p) h = agrees g (part_at c s) p (nothing_later (fault_at g c (mu x s p)) (first_fault g (part_at c s) p) h)
  agrees g c (nu x s p) h = agrees g (part_at c s) p (nothing_later (fault_at g c (nu x s p)) (first_fault g (part_at c s) p) h)

  arguments_agree : (g : KoreSignature) (c : Place) (ss : KoreSorts) (ps : KorePatterns) → length (sort_list ss) ≡ length (pattern_list ps) → arguments_fault g c ss ps ≡ None → Agree (c.scope ++ all_free_variables ps) (all_free_variables ps)
  arguments_agree g c ss no_patterns n h = tt
  arguments_agree g c no_sorts (next_pattern p ps) n h = absurd (cc)
  arguments_agree g c (next_sort s ss) (next_pattern p ps) n h =
      agree_next c.scope (free_variables p) (all_free_variables ps)
      (agrees g (argument_at c s) p (nothing_earlier (first_fault g (argument_at c s) p) (arguments_fault g (after p c) ss ps) h))
      (arguments_agree g (after p c) ss ps (omega (arith, n)) (nothing_later (first_fault g (argument_at c s) p) (arguments_fault g (after p c) ss ps) h))

  members_agree : (g : KoreSignature) (c : Place) (ps : KorePatterns) → members_fault g c ps ≡ None → Agree (c.scope ++ all_free_variables ps) (all_free_variables ps)
  members_agree g c no_patterns h = tt
  members_agree g c (next_pattern p ps) h =
      agree_next c.scope (free_variables p) (all_free_variables ps)
      (agrees g c p (nothing_earlier (first_fault g c p) (members_fault g (after p c) ps) h))
      (members_agree g (after p c) ps (nothing_later (first_fault g c p) (members_fault g (after p c) ps) h))

-- ---- one sort

same_in_both : (whole : List SortedName) (x : SortedName) (ys : List SortedName) → HasItsSort whole x → Agree whole ys → AllByRecursion (λ y. x.name ≡ y.name → x.sort ≡ y.sort) ys
same_in_both whole x [] h k = tt
same_in_both whole x (y ∷ ys) h k = (λ e. same (sym h ∙ ap (λ n. sort_in_scope n whole) e ∙ k.0), same_in_both whole x ys h k.1)
  where
    same : {s t : KoreSort} → Some s ≡ Some t → s ≡ t
    same e = cc

pub one_sort_among : (whole xs ys : List SortedName) → Agree whole xs → Agree whole ys → AllByRecursion (λ x. AllByRecursion (λ y. x.name ≡ y.name → x.sort ≡ y.sort) ys) xs
one_sort_among whole [] ys h k = tt
one_sort_among whole (x ∷ xs) ys h k = (same_in_both whole x ys h.0 k, one_sort_among whole xs ys h.1 k)
