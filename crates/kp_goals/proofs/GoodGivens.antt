-- What a clause with the sorts of its places gives: its variable is at hand, its term has the variable's sort and is in normal form.
use Rattle.std.specs.Prelude.{◌≡◌, ℤ, pos, neg_ℤ, ◌+ℤ◌, int_lt, Bool, true, false, not, ◌&&◌, is_some, List, [], ◌∷◌, Option, Some, None, if◌then◌else◌}
use Rattle.std.specs.Ordering.{int_eq}
use Rattle.std.specs.List.{AllByRecursion, Contains}
use Rattle.std.proofs.Common.{refl, sym, ◌∙◌, ap, subst}
use Rattle.std.proofs.Math.IntN.{+ℤ_comm, +ℤ_idr, neg_ℤ-neg_ℤ}
use Rattle.kp_kore.specs.Syntax.{Text, KoreSort}
use Rattle.kp_kore.specs.Hooks.{addition, subtraction, whole_arithmetic}
use Rattle.kp_kore.specs.Parts.{SortedName}
use Rattle.kp_kore.specs.Signature.{KoreSignature, interpretation, meaning_of, is_number_sort, itself}
use Rattle.kp_kore.specs.Value.{whole, truth, token, constructed}
use Rattle.kp_kore.specs.Limits.{fits_number}
use Rattle.kp_kore.specs.Instance.{is_named}
use Rattle.kp_kore.proofs.InstanceLemmas.{second_true}
use Rattle.kp_symbolic.specs.Terms.{SymbolicTerm, unknown, offset, known, headed, no_terms, next_term, term_variables}
use Rattle.kp_symbolic.specs.States.{Atom, same, has_head, quoted, Literal}
use Rattle.kp_symbolic.specs.WellFormed.{term_sort, is_sort_below, IsFolded}
use Rattle.kp_symbolic.specs.Folding.{sum_of, can_be_added, summed, made, least_symbol, under_symbol}
use Rattle.kp_symbolic.specs.Solving.{Equation, first_equation, equation_of}
use Rattle.kp_symbolic.proofs.Distribution.{all_first, all_second}
use Rattle.kp_symbolic.proofs.Facts.{Good, GoodTerm}
use Rattle.kp_symbolic.proofs.Replacing.{least_is}
use Rattle.kp_symbolic.proofs.SortedFolding.{fits_signed}
use Rattle.kp_symbolic_laws.specs.Safe.{IsNormal, Formed, IsSoundQuote}
use Rattle.kp_symbolic_laws.proofs.RightEquations.{term_at, right_clause}
use Rattle.kp_symbolic_laws.proofs.FormedEquations.{normal_clause}
use Rattle.kp_goals.specs.Exact.{IsRightClause}
use Rattle.kp_goals.specs.Gives.{has_bound, bound_if, summed_of, of_sum, shifted, bound_at, bound_side, given_by, bound_equation, given_in}
use Rattle.kp_goals.proofs.PutTerms.{IsGoodEquation}

-- ---- sums

nothing_before : (n : ℤ) → pos 0 +ℤ n ≡ n
nothing_before n = +ℤ_comm (pos 0) n ∙ +ℤ_idr n

-- the sum of a whole-number variable and a constant that isn't 0 and can be written
sum_is_offset : (g : KoreSignature) (x : SortedName) (n k : ℤ) (call : SymbolicTerm) → is_number_sort g x.sort ≡ true → int_eq n (pos 0) ≡ false → can_be_added g n ≡ true → k ≡ n → summed g (sum_of g (unknown x)) k call ≡ offset x n
sum_is_offset g x n k call i z a e =
    rw i (subst (λ m. (if int_eq m (pos 0) then unknown x else if can_be_added g m then offset x m else call) ≡ offset x n) (sym (ap (λ m. pos 0 +ℤ m) e ∙ nothing_before n)) (rw (z, a) refl))

under_addition : (g : KoreSignature) (x : SortedName) (n : ℤ) (o : Option Text) (otherwise : SymbolicTerm) → is_number_sort g x.sort ≡ true → int_eq n (pos 0) ≡ false → can_be_added g n ≡ true → ((f : Text) → o ≡ Some f → meaning_of g f ≡ interpretation (whole_arithmetic addition)) → is_some o ≡ true → under_symbol g o (unknown x) n otherwise ≡ offset x n
under_addition g x n (Some f) otherwise i z a m e =
    let ts = next_term (unknown x) (next_term (known (whole n)) no_terms) in
    ap (λ k. made g k f ts) (m f refl) ∙ sum_is_offset g x n n (headed f ts) i z a refl
under_addition g x n None otherwise i z a m e = absurd (cc)

under_subtraction : (g : KoreSignature) (x : SortedName) (n : ℤ) (o : Option Text) (otherwise : SymbolicTerm) → is_number_sort g x.sort ≡ true → int_eq n (pos 0) ≡ false → can_be_added g n ≡ true → ((f : Text) → o ≡ Some f → meaning_of g f ≡ interpretation (whole_arithmetic subtraction)) → is_some o ≡ true → under_symbol g o (unknown x) (neg_ℤ n) otherwise ≡ offset x n
under_subtraction g x n (Some f) otherwise i z a m e =
    let ts = next_term (unknown x) (next_term (known (whole (neg_ℤ n))) no_terms) in
    ap (λ k. made g k f ts) (m f refl) ∙ sum_is_offset g x n (neg_ℤ (neg_ℤ n)) (headed f ts) i z a (neg_ℤ-neg_ℤ n)
under_subtraction g x n None otherwise i z a m e = absurd (cc)

first_of : (b c : Bool) → b && c ≡ true → b ≡ true
first_of true c e = refl
first_of false c e = absurd (cc)

by_sign : (g : KoreSignature) (x : SortedName) (n : ℤ) (b : Bool) (otherwise : SymbolicTerm) → is_number_sort g x.sort ≡ true → int_eq n (pos 0) ≡ false → can_be_added g n ≡ true
    → (if b then is_some (least_symbol g addition) && fits_number n else is_some (least_symbol g subtraction) && fits_number (neg_ℤ n)) ≡ true
    → (if b then under_symbol g (least_symbol g addition) (unknown x) n otherwise else under_symbol g (least_symbol g subtraction) (unknown x) (neg_ℤ n) otherwise) ≡ offset x n
by_sign g x n true otherwise i z a e = under_addition g x n (least_symbol g addition) otherwise i z a (least_is g addition g.symbols) (first_of (is_some (least_symbol g addition)) (fits_number n) e)
by_sign g x n false otherwise i z a e = under_subtraction g x n (least_symbol g subtraction) otherwise i z a (least_is g subtraction g.symbols) (first_of (is_some (least_symbol g subtraction)) (fits_number (neg_ℤ n)) e)

offset_folded : (g : KoreSignature) (x : SortedName) (n : ℤ) → is_number_sort g x.sort ≡ true → int_eq n (pos 0) ≡ false → can_be_added g n ≡ true → IsFolded g (offset x n)
offset_folded g x n i z a = by_sign g x n (int_lt (pos 0) n) (offset x n) i z a a

-- ---- terms

some_inside : {A : Type 0} {a b : A} → Some a ≡ Some b → a ≡ b
some_inside e = cc

none_is_some : {A : Type 0} {a : A} → None ≡ Some a → ⊥
none_is_some e = cc

-- of some sort, of variables at hand, in normal form
pub record IsGoodTerm (g : KoreSignature) (hand : List SortedName) (t : SymbolicTerm) : Type 0 where
  pub sort : KoreSort
  pub good : GoodTerm g hand sort t
  pub normal : IsNormal g t

-- the variable with the constant
summed_good : (g : KoreSignature) (hand : List SortedName) (z : SortedName) (c : ℤ) (n : SymbolicTerm) → Contains hand z → is_number_sort g z.sort ≡ true → summed_of g z c ≡ Some n → IsGoodTerm g hand n
summed_good g hand z c n has i e = by_zero (int_eq c (pos 0)) refl (can_be_added g c) refl e
  where
    by_zero : (b : Bool) → int_eq c (pos 0) ≡ b → (d : Bool) → can_be_added g c ≡ d → (if b then Some (unknown z) else if d then Some (offset z c) else None) ≡ Some n → IsGoodTerm g hand n
    by_zero true j d k e = subst (IsGoodTerm g hand) (some_inside e) (record { sort = z.sort; good = (itself z.sort, (has, tt)); normal = refl })
    by_zero false j true k e = subst (IsGoodTerm g hand) (some_inside e) (record { sort = z.sort; good = ((i, k, itself z.sort), (has, tt)); normal = offset_folded g z c i j k })
    by_zero false j false k e = absurd (none_is_some e)

sum_good : (g : KoreSignature) (hand : List SortedName) (k : ℤ) (z : SortedName) (d : ℤ) (n : SymbolicTerm) → Contains hand z → (b : Bool) → is_number_sort g z.sort ≡ b → of_sum g k (if b then Some (record { variable = z; constant = d }) else None) ≡ Some n → IsGoodTerm g hand n
sum_good g hand k z d n has true i e = summed_good g hand z (d +ℤ k) n has i e
sum_good g hand k z d n has false i e = absurd (none_is_some e)

pub shifted_good : (g : KoreSignature) (hand : List SortedName) (k : ℤ) (s : KoreSort) (t n : SymbolicTerm) → GoodTerm g hand s t → shifted g k t ≡ Some n → IsGoodTerm g hand n
shifted_good g hand k s (known (whole j)) n h e = by_fit (fits_number (j +ℤ k)) refl e
  where
    by_fit : (b : Bool) → fits_number (j +ℤ k) ≡ b → (if b then Some (known (whole (j +ℤ k))) else None) ≡ Some n → IsGoodTerm g hand n
    by_fit true f e = subst (IsGoodTerm g hand) (some_inside e) (record { sort = s; good = ((h.0.0, fits_signed (j +ℤ k) f), tt); normal = refl })
    by_fit false f e = absurd (none_is_some e)
shifted_good g hand k s (known (truth b)) n h e = absurd (none_is_some e)
shifted_good g hand k s (known (token t x)) n h e = absurd (none_is_some e)
shifted_good g hand k s (known (constructed c us)) n h e = absurd (none_is_some e)
shifted_good g hand k s (unknown z) n h e = sum_good g hand k z (pos 0) n h.1.0 (is_number_sort g z.sort) refl e
shifted_good g hand k s (offset z d) n h e = sum_good g hand k z d n h.1.0 (is_number_sort g z.sort) refl e
shifted_good g hand k s (headed f ts) n h e = absurd (none_is_some e)

-- ---- equations of bound variables

if_good : (g : KoreSignature) (hand bound : List SortedName) (x : SortedName) (t : SymbolicTerm) (e : Equation) → Contains hand x → IsGoodTerm g hand t → bound_if g bound x t ≡ Some e → IsGoodEquation g hand e
if_good g hand bound x t e has k q = by (is_named x.name bound && (not (has_bound bound t) && is_sort_below g (term_sort g t) x.sort)) refl q
  where
    by : (b : Bool) → is_named x.name bound && (not (has_bound bound t) && is_sort_below g (term_sort g t) x.sort) ≡ b → (if b then Some (record { variable = x; term = t }) else None) ≡ Some e → IsGoodEquation g hand e
    by true i q =
        let below = second_true (not (has_bound bound t)) (is_sort_below g (term_sort g t) x.sort) (second_true (is_named x.name bound) _ i) in
        subst (IsGoodEquation g hand) (some_inside q) (record { right = record { variable = has; at_hand = k.good.1; sorted = term_at g k.sort x.sort t k.good.0 below }; normal = k.normal })
    by false i q = absurd (none_is_some q)

side_good : (g : KoreSignature) (hand bound : List SortedName) (s : KoreSort) (u t : SymbolicTerm) (e : Equation) → GoodTerm g hand s u → GoodTerm g hand s t → IsNormal g t → bound_side g bound u t ≡ Some e → IsGoodEquation g hand e
side_good g hand bound s (unknown x) t e i j n q = if_good g hand bound x t e i.1.0 (record { sort = s; good = j; normal = n }) q
side_good g hand bound s (offset x c) t e i j n q = by (shifted g (neg_ℤ c) t) refl q
  where
    by : (o : Option SymbolicTerm) → shifted g (neg_ℤ c) t ≡ o → bound_at g bound x o ≡ Some e → IsGoodEquation g hand e
    by (Some m) k q = if_good g hand bound x m e i.1.0 (shifted_good g hand (neg_ℤ c) s t m j k) q
    by None k q = absurd (none_is_some q)
side_good g hand bound s (known u) t e i j n q = absurd (none_is_some q)
side_good g hand bound s (headed f ts) t e i j n q = absurd (none_is_some q)

first_good : (g : KoreSignature) (hand : List SortedName) (o p : Option Equation) (e : Equation) → ((d : Equation) → o ≡ Some d → IsGoodEquation g hand d) → ((d : Equation) → p ≡ Some d → IsGoodEquation g hand d) → first_equation o p ≡ Some e → IsGoodEquation g hand e
first_good g hand (Some d) p e i j q = i e q
first_good g hand None p e i j q = j e q

-- ---- clauses

literal_good : (g : KoreSignature) (hand bound : List SortedName) (b : Bool) (a : Atom) (e : Equation) → IsRightClause g hand (record { holds = b; atom = a } ∷ []) → given_by g bound (record { holds = b; atom = a } ∷ []) ≡ Some e → IsGoodEquation g hand e
literal_good g hand bound true (same s t u) e h q =
    let At = λ (x : SortedName). Contains hand x in
    let left : GoodTerm g hand s t = (h.0.0.0.0, all_first At (term_variables t) (term_variables u) h.0.0.1) in
    let right : GoodTerm g hand s u = (h.0.0.0.1, all_second At (term_variables t) (term_variables u) h.0.0.1) in
    first_good g hand (bound_side g bound u t) (bound_side g bound t u) e (λ d. side_good g hand bound s u t d right left h.0.1.0) (λ d. side_good g hand bound s t u d left right h.0.1.1) q
literal_good g hand bound false (same s t u) e h q = absurd (none_is_some q)
literal_good g hand bound true (has_head x test) e h q = absurd (none_is_some q)
literal_good g hand bound false (has_head x test) e h q = absurd (none_is_some q)
literal_good g hand bound true (quoted p rs) e h q = absurd (none_is_some q)
literal_good g hand bound false (quoted p rs) e h q = absurd (none_is_some q)

pub given_good : (g : KoreSignature) (hand bound : List SortedName) (c : List Literal) (e : Equation) → IsRightClause g hand c → given_by g bound c ≡ Some e → IsGoodEquation g hand e
given_good g hand bound (l ∷ []) e h q = literal_good g hand bound l.holds l.atom e h q
given_good g hand bound [] e h q = absurd (none_is_some q)
given_good g hand bound (l ∷ m ∷ c) e h q = absurd (none_is_some q)

pub sorted_literals : (g : KoreSignature) (hand : List SortedName) (c : List Literal) → IsRightClause g hand c → AllByRecursion (Good g hand) c
sorted_literals g hand [] h = tt
sorted_literals g hand (l ∷ c) h = (h.0.0, sorted_literals g hand c h.1)

formed_literals : (g : KoreSignature) (hand : List SortedName) (c : List Literal) → IsRightClause g hand c → AllByRecursion (Formed g (IsSoundQuote g)) c
formed_literals g hand [] h = tt
formed_literals g hand (l ∷ c) h = (h.0.1, formed_literals g hand c h.1)

-- an equation that is solved
pub equation_good : (g : KoreSignature) (hand : List SortedName) (c : List Literal) (e : Equation) → IsRightClause g hand c → equation_of g c ≡ Some e → IsGoodEquation g hand e
equation_good g hand c e h q = record { right = right_clause g hand c e (sorted_literals g hand c h) q; normal = normal_clause g (IsSoundQuote g) c e (formed_literals g hand c h) q }

-- where it is of a bound variable, it is as it was
pub bound_is : (g : KoreSignature) (bound : List SortedName) (o : Option Equation) (e : Equation) → bound_equation g bound o ≡ Some e → o ≡ Some e
bound_is g bound (Some d) e q = by (is_named d.variable.name bound && (not (has_bound bound d.term) && is_sort_below g (term_sort g d.term) d.variable.sort)) q
  where
    by : (b : Bool) → (if b then Some (record { variable = d.variable; term = d.term }) else None) ≡ Some e → Some d ≡ Some e
    by true q = q
    by false q = absurd (none_is_some q)
bound_is g bound None e q = absurd (none_is_some q)

pub given_in_good : (g : KoreSignature) (hand bound : List SortedName) (c : List Literal) (e : Equation) → IsRightClause g hand c → given_in g bound c ≡ Some e → IsGoodEquation g hand e
given_in_good g hand bound c e h q = first_good g hand (given_by g bound c) (bound_equation g bound (equation_of g c)) e (λ d. given_good g hand bound c d h) (λ d k. equation_good g hand c d h (bound_is g bound (equation_of g c) d k)) q
