-- What a conjunct's clauses are, where its literals and those before it are counted up to a bound.
use Rattle.std.proofs.Common.{◌≡◌, refl, sym, ap, ap₂, ◌∙◌, subst, ℕ, ◌+◌, ◌-◌, ◌^◌, ◌<◌, ◌≤◌, min, Bool, true, false, nat_lt, List, [], ◌∷◌, ◌++◌, length, get_or, drop, Bor, arith}
use Rattle.std.proofs.lemmas.Bool.Decides.{nat_tests}
use Rattle.std.proofs.lemmas.List.{append_assoc, drop_more}
use Rattle.std.specs.Prelude.{if◌then◌else◌}
use Rattle.kp_kore.specs.Syntax.{KorePattern, negation}
use Rattle.kp_kore.specs.Signature.{KoreSignature}
use Rattle.kp_kore.specs.View.{view}
use Rattle.kp_kore.specs.declared.pattern.Pattern.{Pattern}
use Rattle.kp_compile.specs.Parts.{seen}
use Rattle.kp_symbolic.specs.Terms.{Replaced}
use Rattle.kp_symbolic.specs.Formulas.{Formula, fact, size_of}
use Rattle.kp_symbolic.specs.States.{Literal}
use Rattle.kp_symbolic.specs.Clauses.{distributed, is_too_large, quoted_literal, clauses_of_conjunct, literals_of_conjunct, clauses_of_conjuncts}
use Rattle.kp_symbolic.specs.Opening.{literal_fact, quotation, opened_predicate}
use Rattle.kp_formulas.specs.Distribution.{Distribution, distribution_of}

-- ---- a predicate that is no negation, as one literal

abbrev pub is_negation : KorePattern → Bool
is_negation (negation s p) = true
is_negation p = false

one_literal : (l m : Literal) → fact l ≡ fact m → l ≡ m
one_literal l m e = cc

pub quoted_as_is : (rs : List Replaced) (b : Bool) (p : KorePattern) (l : Literal) → is_negation p ≡ false → fact l ≡ literal_fact b (quotation rs p) → l ≡ quoted_literal rs b p
quoted_as_is rs b (negation s p) l e d = absurd (cc)
quoted_as_is rs b p l e d = one_literal l (record { holds = b; atom = quotation rs p }) d

-- ---- numbers of literals

-- the sum is counted up to a number that is larger than a state's literals
few : (most n so_far l counted : ℕ) → 16384 < most → so_far ≡ min n 16385 → counted ≡ min l 16385 → min (so_far + counted) most ≤ 16384 → n + l ≤ 16384
few most n so_far l counted w e d h = omega (arith, w, e, d, h)

many : (most n so_far l counted : ℕ) → so_far ≡ min n 16385 → counted ≡ min l 16385 → 16384 < min (so_far + counted) most → 16384 < n + l
many most n so_far l counted e d h = omega (arith, e, d, h)

exact : (most n so_far l : ℕ) → 16384 < most → so_far ≡ min n 16385 → n + l ≤ 16384 → min (so_far + min l 16385) most ≡ min (n + l) 16385
exact most n so_far l w e h = omega (arith, w, e, h)

one_more : (most n so_far : ℕ) → 16384 < most → so_far ≡ min n 16385 → min (min (so_far + 1) most) 16385 ≡ min (n + 1) 16385
one_more most n so_far w e = omega (arith, w, e)

wide : 16384 < 2 ^ 64 - 1
wide = omega arith

no_more : (n : ℕ) → n ≤ 16384 → nat_lt 16384 n ≡ false
no_more n h = grind (arith, nat_tests)

more : (n : ℕ) → 16384 < n → nat_lt 16384 n ≡ true
more n h = grind (arith, nat_tests)

-- ---- a conjunct

-- the number that is counted with this conjunct's literals
abbrev pub counted_with : ℕ → Distribution → ℕ
counted_with so_far d = min (so_far + d.size.literals) (2 ^ 64 - 1)

fits : (n so_far : ℕ) (f : Formula Literal) → so_far ≡ min n 16385 → counted_with so_far (distribution_of f) ≤ 16384 → n + (size_of f).literals ≤ 16384
fits n so_far f e h = few (2 ^ 64 - 1) n so_far (size_of f).literals (min (size_of f).literals 16385) wide e refl h

passes : (n so_far : ℕ) (f : Formula Literal) → so_far ≡ min n 16385 → 16384 < counted_with so_far (distribution_of f) → is_too_large n f ≡ true
passes n so_far f e h = more (n + (size_of f).literals) (many (2 ^ 64 - 1) n so_far (size_of f).literals (min (size_of f).literals 16385) e refl h)

kept_clauses : (l : ℕ) (cs : List (List Literal)) → l ≤ 16384 → (if nat_lt 16384 (min l 16385) then [] else cs) ≡ cs
kept_clauses l cs h = ap (λ b. if b then [] else cs) (no_more (min l 16385) (omega (arith, h)))

pub clauses_kept : (g : KoreSignature) (rs : List Replaced) (p : KorePattern) (n so_far : ℕ) (d : Distribution) → d ≡ distribution_of (opened_predicate g rs true p) → so_far ≡ min n 16385 → counted_with so_far d ≤ 16384 →
    d.clauses ≡ clauses_of_conjunct g rs n p
clauses_kept g rs p n so_far d is e h = kept (opened_predicate g rs true p) is
  where
    kept : (f : Formula Literal) → d ≡ distribution_of f → d.clauses ≡ (if is_too_large n f then (quoted_literal rs true p ∷ []) ∷ [] else distributed f)
    kept f is =
        let room = fits n so_far f e (subst (λ x. counted_with so_far x ≤ 16384) is h) in
        ap (λ x. x.clauses) is ∙ kept_clauses (size_of f).literals (distributed f) (omega (arith, room))
        ∙ sym (ap (λ b. if b then (quoted_literal rs true p ∷ []) ∷ [] else distributed f) (no_more (n + (size_of f).literals) room))

pub literals_kept : (g : KoreSignature) (rs : List Replaced) (p : KorePattern) (n so_far : ℕ) (d : Distribution) → d ≡ distribution_of (opened_predicate g rs true p) → so_far ≡ min n 16385 → counted_with so_far d ≤ 16384 →
    counted_with so_far d ≡ min (n + literals_of_conjunct g rs n p) 16385
literals_kept g rs p n so_far d is e h = kept (opened_predicate g rs true p) is
  where
    kept : (f : Formula Literal) → d ≡ distribution_of f → counted_with so_far d ≡ min (n + (if is_too_large n f then 1 else (size_of f).literals)) 16385
    kept f is =
        let room = fits n so_far f e (subst (λ x. counted_with so_far x ≤ 16384) is h) in
        ap (counted_with so_far) is ∙ exact (2 ^ 64 - 1) n so_far (size_of f).literals wide e room
        ∙ sym (ap (λ b. min (n + (if b then 1 else (size_of f).literals)) 16385) (no_more (n + (size_of f).literals) room))

pub clause_quoted : (g : KoreSignature) (rs : List Replaced) (p : KorePattern) (n so_far : ℕ) (d : Distribution) → d ≡ distribution_of (opened_predicate g rs true p) → so_far ≡ min n 16385 → 16384 < counted_with so_far d →
    (quoted_literal rs true p ∷ []) ∷ [] ≡ clauses_of_conjunct g rs n p
clause_quoted g rs p n so_far d is e h = sym (ap (λ b. if b then (quoted_literal rs true p ∷ []) ∷ [] else distributed (opened_predicate g rs true p))
    (passes n so_far (opened_predicate g rs true p) e (subst (λ x. 16384 < counted_with so_far x) is h)))

pub literal_quoted : (g : KoreSignature) (rs : List Replaced) (p : KorePattern) (n so_far : ℕ) (d : Distribution) → d ≡ distribution_of (opened_predicate g rs true p) → so_far ≡ min n 16385 → 16384 < counted_with so_far d →
    min (min (so_far + 1) (2 ^ 64 - 1)) 16385 ≡ min (n + literals_of_conjunct g rs n p) 16385
literal_quoted g rs p n so_far d is e h = one_more (2 ^ 64 - 1) n so_far wide e
    ∙ sym (ap (λ b. min (n + (if b then 1 else (size_of (opened_predicate g rs true p)).literals)) 16385)
    (passes n so_far (opened_predicate g rs true p) e (subst (λ x. 16384 < counted_with so_far x) is h)))

-- ---- conjuncts behind so many literals, as they are counted

pub same_test : (m n l : ℕ) → min m 16385 ≡ min n 16385 → nat_lt 16384 (m + l) ≡ nat_lt 16384 (n + l)
same_test m n l e = by (nat_lt 16384 (m + l)) (nat_lt 16384 (n + l)) refl refl
  where
    by : (a b : Bool) → nat_lt 16384 (m + l) ≡ a → nat_lt 16384 (n + l) ≡ b → nat_lt 16384 (m + l) ≡ nat_lt 16384 (n + l)
    by true true p q = p ∙ sym q
    by false false p q = p ∙ sym q
    by true false p q = absurd (grind (arith, nat_tests))
    by false true p q = absurd (grind (arith, nat_tests))

pub still_same : (m n l k : ℕ) → min m 16385 ≡ min n 16385 → l ≡ k → min (m + l) 16385 ≡ min (n + k) 16385
still_same m n l k e d = omega (arith, e, d)

pub counted_alike : (g : KoreSignature) (rs : List Replaced) (m n : ℕ) (ps : List KorePattern) → min m 16385 ≡ min n 16385 → clauses_of_conjuncts g rs m ps ≡ clauses_of_conjuncts g rs n ps
counted_alike g rs m n [] e = refl
counted_alike g rs m n (p ∷ ps) e =
    let f = opened_predicate g rs true p in
    let test : is_too_large m f ≡ is_too_large n f = same_test m n (size_of f).literals e in
    ap₂ (λ cs ds. cs ++ ds) (ap (λ b. if b then (quoted_literal rs true p ∷ []) ∷ [] else distributed f) test)
    (counted_alike g rs (m + literals_of_conjunct g rs m p) (n + literals_of_conjunct g rs n p) ps
    (still_same m n (literals_of_conjunct g rs m p) (literals_of_conjunct g rs n p) e (ap (λ b. if b then 1 else (size_of f).literals) test)))

-- one conjunct more
pub conjunct_added : (g : KoreSignature) (rs : List Replaced) (n m : ℕ) (found more whole : List (List Literal)) (p : KorePattern) (ps : List KorePattern) → n ≤ 16385 →
    more ≡ found ++ clauses_of_conjunct g rs n p → m ≡ min (n + literals_of_conjunct g rs n p) 16385 →
    found ++ clauses_of_conjuncts g rs n (p ∷ ps) ≡ whole → (more ++ clauses_of_conjuncts g rs m ps ≡ whole) × (m ≤ 16385)
conjunct_added g rs n m found more whole p ps w i e h = (
  ap (λ cs. cs ++ clauses_of_conjuncts g rs m ps) i
      ∙ append_assoc found (clauses_of_conjunct g rs n p) (clauses_of_conjuncts g rs m ps)
      ∙ ap (λ cs. found ++ (clauses_of_conjunct g rs n p ++ cs)) (counted_alike g rs m (n + literals_of_conjunct g rs n p) ps (capped m (n + literals_of_conjunct g rs n p) e))
      ∙ h,
  bounded m (n + literals_of_conjunct g rs n p) e,
)
  where
    capped : (m l : ℕ) → m ≡ min l 16385 → min m 16385 ≡ min l 16385
    capped m l e = omega (arith, e)

    bounded : (m l : ℕ) → m ≡ min l 16385 → m ≤ 16385
    bounded m l e = omega (arith, e)

-- the same of the conjunct at a place of a list
pub next_conjunct : (g : KoreSignature) (rs : List Replaced) (n m : ℕ) (found more whole : List (List Literal)) (ps : List (Bor Pattern)) (i : ℕ) (p : Bor Pattern) → n ≤ 16385 → i < length ps → p ≡ get_or ps i p →
    ((k : ℕ) → n ≡ min k 16385 → more ≡ found ++ clauses_of_conjunct g rs k (view p.now)) → ((k : ℕ) → n ≡ min k 16385 → m ≡ min (k + literals_of_conjunct g rs k (view p.now)) 16385) →
    found ++ clauses_of_conjuncts g rs n (seen (drop i ps)) ≡ whole → (more ++ clauses_of_conjuncts g rs m (seen (drop (i + 1) ps)) ≡ whole) × (m ≤ 16385)
next_conjunct g rs n m found more whole ps i p w lt is a b h =
    conjunct_added g rs n m found more whole (view p.now) (seen (drop (i + 1) ps)) w (a n (itself n w)) (b n (itself n w))
    (sym (ap (λ qs. found ++ clauses_of_conjuncts g rs n (seen qs)) (drop_more ps i p lt ∙ ap (λ x. x ∷ drop (i + 1) ps) (sym is))) ∙ h)
  where
    itself : (n : ℕ) → n ≤ 16385 → n ≡ min n 16385
    itself n w = omega (arith, w)
