-- The rules of a module that holds claims are the claims' rules.
use Rattle.std.proofs.Common.{◌≡◌, refl, sym, subst, ℕ, zero, suc, ◌+◌, ◌<◌, ◌^◌, ◌%◌, Bool, true, false, ◌&&◌, ◌||◌, List, [], ◌∷◌, ◌++◌, length, codes, arith}
use Rattle.std.specs.Prelude.{nat_lt, IsTrue, not, if◌then◌else◌}
use Rattle.std.specs.List.{AllByRecursion, Contains, filter, list_all}
use Rattle.std.specs.Char.{is_ascii_digit}
use Rattle.std.specs.Fmt.{decimal}
use Rattle.std.specs.Str.{bytes_eq}
use Rattle.std.proofs.lemmas.Fmt.{decimal_by_steps}
use Rattle.std.proofs.lemmas.Slice.Eq.{bytes_eq-Decides}
use Rattle.kp_kore.specs.Syntax.{Text, KorePattern, KorePatterns, conjunction, no_patterns, next_pattern}
use Rattle.kp_kore.specs.Parts.{SortedName, is_term, free_variables, all_free_variables}
use Rattle.kp_kore.specs.Signature.{KoreSignature}
use Rattle.kp_kore.specs.Instance.{is_named, conjuncts, all_conjuncts, conjoined_terms, conjoined_predicates}
use Rattle.kp_kore.specs.Rules.{Rewrite, RuleBody, rewrite, foreign_rule, RewriteRule}
use Rattle.kp_kore.specs.Foreign.{IsRead, Reads}
use Rattle.kp_kore.specs.Theory.{IsRuleOf}
use Rattle.kp_kore.specs.ClaimRules.{is_lower_hexadecimal, is_digest_and_number, is_claim_rule_id, IsClaimRule}
use Rattle.kp_kore.specs.ClaimModules.{SortedClaim, claim_axiom, IsAddedId}
use Rattle.kp_kore.specs.Cases.{HaveOneSort}
use Rattle.kp_kore.proofs.ListLemmas.{all_append, all_left, all_right, all_map, all_filter}
use Rattle.kp_kore.proofs.TurnLemmas.{of_member}
use Rattle.std.proofs.lemmas.List.Elements.{Contains-append_right}
use Rattle.kp_kore.proofs.NameLemmas.{true_is_false, members_named, of_conjuncts}
use Rattle.kp_kore.proofs.ClaimRuleLemmas.{ReadAs, read_as}

-- ---- ids

-- decimal digits, one or more
record AreDigits (ds : List ℕ) : Type 0 where
  each : list_all is_ascii_digit ds ≡ true
  some : 0 < length ds

all_pushed : (test : ℕ → Bool) (ds : List ℕ) (d : ℕ) → list_all test ds ≡ true → test d ≡ true → list_all test (ds ++ d ∷ []) ≡ true
all_pushed test [] d e f = rw f refl
all_pushed test (x ∷ xs) d e f = by_test (test x) e (λ r. all_pushed test xs d r f)
  where
    by_test : (b : Bool) → b && list_all test xs ≡ true → (list_all test xs ≡ true → list_all test (xs ++ d ∷ []) ≡ true) → b && list_all test (xs ++ d ∷ []) ≡ true
    by_test true e rest = rest e
    by_test false e rest = absurd (cc)

is_digit : (d : ℕ) → d < 10 → is_ascii_digit (48 + d) ≡ true
is_digit d l = grind arith

some_pushed : (ds : List ℕ) (d : ℕ) → 0 < length (ds ++ d ∷ [])
some_pushed [] d = omega arith
some_pushed (x ∷ xs) d = omega arith

are_digits : (n : ℕ) → n < 2 ^ 64 → AreDigits (decimal n)
are_digits = decimal_by_steps (λ n ds. AreDigits ds) (λ n l. record { each = rw (is_digit n l) refl; some = omega arith })
    (λ n ds l h. record { each = all_pushed is_ascii_digit ds (48 + n % 10) h.each (is_digit (n % 10) (omega arith)); some = some_pushed ds (48 + n % 10) })

digest_and_number : (k n : ℕ) (ds : List ℕ) → length ds ≡ k → list_all is_lower_hexadecimal ds ≡ true → n < 2 ^ 64 → is_digest_and_number k (ds ++ codes "#" ++ decimal n) ≡ true
digest_and_number zero n [] many each less = let ds : AreDigits (decimal n) = are_digits n less in rw ds.each (by_some (decimal n) ds.some)
  where
    by_some : (xs : List ℕ) → 0 < length xs → nat_lt 0 (length xs) && true ≡ true
    by_some xs l = rw (less_than (length xs) l) refl
      where
        less_than : (n : ℕ) → 0 < n → nat_lt 0 n ≡ true
        less_than n l = grind (arith, l)
digest_and_number zero n (x ∷ xs) many each less = absurd (omega (arith, many))
digest_and_number (suc k) n [] many each less = absurd (omega (arith, many))
digest_and_number (suc k) n (x ∷ xs) many each less = by_test (is_lower_hexadecimal x) each (λ e. digest_and_number k n xs (omega (arith, many)) e less)
  where
    by_test : (b : Bool) → b && list_all is_lower_hexadecimal xs ≡ true → (list_all is_lower_hexadecimal xs ≡ true → is_digest_and_number k (xs ++ codes "#" ++ decimal n) ≡ true) → b && is_digest_and_number k (xs ++ codes "#" ++ decimal n) ≡ true
    by_test true e rest = rest e
    by_test false e rest = absurd (cc)

claim_id : (id : Text) (n : ℕ) → IsAddedId id → n < 2 ^ 64 → is_claim_rule_id (id ++ codes "#" ++ decimal n) ≡ true
claim_id id n added less = subst (λ x. is_claim_rule_id (x ++ codes "#" ++ decimal n) ≡ true) (sym added.is_id) (digest_and_number 64 n added.digits added.many added.each less)

-- ---- variables

-- what holds of the variables of each conjunct holds of all
mutual
  by_conjuncts : (P : SortedName → Type 0) (p : KorePattern) → AllByRecursion (λ q. AllByRecursion P (free_variables q)) (conjuncts p) → AllByRecursion P (free_variables p)
  by_conjuncts P (conjunction s ps) a = by_all_conjuncts P ps a
  by_conjuncts P _ a = a.0

  by_all_conjuncts : (P : SortedName → Type 0) (ps : KorePatterns) → AllByRecursion (λ q. AllByRecursion P (free_variables q)) (all_conjuncts ps) → AllByRecursion P (all_free_variables ps)
  by_all_conjuncts P no_patterns a = tt
  by_all_conjuncts P (next_pattern p ps) a = all_append P (free_variables p) (all_free_variables ps)
      (by_conjuncts P p (all_left (λ q. AllByRecursion P (free_variables q)) (conjuncts p) (all_conjuncts ps) a))
      (by_all_conjuncts P ps (all_right (λ q. AllByRecursion P (free_variables q)) (conjuncts p) (all_conjuncts ps) a))

-- an element that is named in a list, where names have one sort, is in it
there : (x : SortedName) (ys : List SortedName) → is_named x.name ys ≡ true → AllByRecursion (λ y. y.name ≡ x.name → y.sort ≡ x.sort) ys → Contains ys x
there x [] n one = absurd (cc)
there x (y ∷ ys) n one = by_test (bytes_eq y.name x.name) refl n (λ m. there x ys m one.1)
  where
    later : Contains ys x → Contains (y ∷ ys) x
    later h = Contains-append_right (y ∷ []) ys x h

    same : y.name ≡ x.name → y.sort ≡ x.sort → y ≡ x
    same e f = λ i. record { name = e i; sort = f i }

    by_test : (b : Bool) → bytes_eq y.name x.name ≡ b → b || is_named x.name ys ≡ true → (is_named x.name ys ≡ true → Contains ys x) → Contains (y ∷ ys) x
    by_test true e n rest = let name : y.name ≡ x.name = (bytes_eq-Decides y.name x.name).0 e in subst (Contains (y ∷ ys)) (same name (one.0 name)) (0, omega arith, refl)
    by_test false e n rest = later (rest n)

-- one sort of a name, from the other side
pub one_sort_back : (x : SortedName) (ys : List SortedName) → AllByRecursion (λ y. x.name ≡ y.name → x.sort ≡ y.sort) ys → AllByRecursion (λ y. y.name ≡ x.name → y.sort ≡ x.sort) ys
one_sort_back x ys a = all_map (λ y. x.name ≡ y.name → x.sort ≡ y.sort) (λ y. y.name ≡ x.name → y.sort ≡ x.sort) ys (λ y h e. sym (h (sym e))) a

-- each variable of a list that is named in a part of it is in that part
all_there : (part xs all : List SortedName) → HaveOneSort all → AllByRecursion (λ x. is_named x.name part ≡ true) xs → AllByRecursion (Contains all) xs → AllByRecursion (Contains all) part → AllByRecursion (Contains part) xs
all_there part [] all one named among within = tt
all_there part (x ∷ xs) all one named among within = (
  there x part named.0 (all_map (Contains all) (λ y. y.name ≡ x.name → y.sort ≡ x.sort) part (λ y m. one_at y m) within),
  all_there part xs all one named.1 among.1 within,
)
  where
    one_at : (y : SortedName) → Contains all y → y.name ≡ x.name → y.sort ≡ x.sort
    one_at y m = of_member (λ z. z.name ≡ x.name → z.sort ≡ x.sort) all y (one_sort_back x all (of_member (λ a. AllByRecursion (λ z. a.name ≡ z.name → a.sort ≡ z.sort) all) all x one among.0)) m

-- ---- the rule

by_both : {X : Type 0} (P : X → Type 0) (test : X → Bool) (xs : List X) → AllByRecursion P (filter test xs) → AllByRecursion P (filter (λ x. not (test x)) xs) → AllByRecursion P xs
by_both P test [] a b = tt
by_both P test (x ∷ xs) a b = by_test (test x) refl a b (λ c d. by_both P test xs c d)
  where
    by_test : (t : Bool) → test x ≡ t → AllByRecursion P (if t then x ∷ filter test xs else filter test xs) → AllByRecursion P (if not t then x ∷ filter (λ x. not (test x)) xs else filter (λ x. not (test x)) xs) →
        (AllByRecursion P (filter test xs) → AllByRecursion P (filter (λ x. not (test x)) xs) → AllByRecursion P xs) → AllByRecursion P (x ∷ xs)
    by_test true e a b rest = (a.0, rest a.1 b)
    by_test false e a b rest = (b.0, rest a b.1)

all_tested : {X : Type 0} (test : X → Bool) (xs : List X) → list_all test xs ≡ true → AllByRecursion (λ x. test x ≡ true) xs
all_tested test [] e = tt
all_tested test (x ∷ xs) e = by_test (test x) refl e (λ r. all_tested test xs r)
  where
    by_test : (b : Bool) → test x ≡ b → b && list_all test xs ≡ true → (list_all test xs ≡ true → AllByRecursion (λ y. test y ≡ true) xs) → AllByRecursion (λ y. test y ≡ true) (x ∷ xs)
    by_test true h e rest = (h, rest e)
    by_test false h e rest = absurd (true_is_false (sym e))

all_among : (xs : List SortedName) → AllByRecursion (Contains xs) xs
all_among [] = tt
all_among (x ∷ xs) = ((0, omega arith, refl), all_map (Contains xs) (Contains (x ∷ xs)) xs (λ y m. Contains-append_right (x ∷ []) xs y m) (all_among xs))

-- the rule that an added module makes of a claim's axiom is the claim's, where the claim can be a rule
pub claim_rule : (g : KoreSignature) (labels : List Text) (id : Text) (n : ℕ) (c : SortedClaim) (r : RewriteRule) (meant : Rewrite) → IsAddedId id → n < 2 ^ 64 → HaveOneSort (free_variables c.claim.left) →
    IsRead g [] (claim_axiom c).attributes (claim_axiom c).pattern meant → IsRuleOf g labels (record { key = id; number = n; axiom_of = claim_axiom c }) r → IsClaimRule c.claim r
claim_rule g labels id n c r meant added less one can is = by_body r.body refl is.body
  where
    id_is : is_claim_rule_id r.id ≡ true
    id_is = subst (λ x. is_claim_rule_id x ≡ true) (sym is.id) (claim_id id n added less)

    variables : (x : Rewrite) → IsRead g [] (claim_axiom c).attributes (claim_axiom c).pattern x → AllByRecursion (Contains (free_variables x.left)) (free_variables c.claim.left)
    variables x read =
        let parts : ReadAs c.claim.left c.claim.right x = read_as c.claim.left c.claim.right x read.shape in
        let left : KorePattern = c.claim.left in
        let in_conditions : AllByRecursion (λ q. AllByRecursion (λ v. is_named v.name (free_variables x.left) ≡ true) (free_variables q)) (conjoined_predicates left) =
        subst (AllByRecursion (λ q. AllByRecursion (λ v. is_named v.name (free_variables x.left) ≡ true) (free_variables q))) parts.condition
        (all_map (λ q. IsTrue (list_all (λ v. is_named v.name (free_variables x.left)) (free_variables q))) (λ q. AllByRecursion (λ v. is_named v.name (free_variables x.left) ≡ true) (free_variables q)) x.condition
        (λ q h. all_tested (λ v. is_named v.name (free_variables x.left)) (free_variables q) h) read.condition_variables) in
        let in_terms : AllByRecursion (λ q. AllByRecursion (λ v. is_named v.name (free_variables x.left) ≡ true) (free_variables q)) (conjoined_terms left) =
        subst (AllByRecursion (λ q. AllByRecursion (λ v. is_named v.name (free_variables x.left) ≡ true) (free_variables q))) (sym parts.left) (members_named (free_variables x.left), tt) in
        let named : AllByRecursion (λ v. is_named v.name (free_variables x.left) ≡ true) (free_variables left) = by_conjuncts (λ v. is_named v.name (free_variables x.left) ≡ true) left
        (by_both (λ q. AllByRecursion (λ v. is_named v.name (free_variables x.left) ≡ true) (free_variables q)) is_term (conjuncts left) in_terms in_conditions) in
        let within : AllByRecursion (Contains (free_variables left)) (free_variables x.left) =
        (subst (AllByRecursion (λ q. AllByRecursion (Contains (free_variables left)) (free_variables q))) parts.left
        (all_filter (λ q. AllByRecursion (Contains (free_variables left)) (free_variables q)) is_term (conjuncts left) (of_conjuncts (Contains (free_variables left)) left (all_among (free_variables left))))).0 in
        all_there (free_variables x.left) (free_variables left) (free_variables left) one named (all_among (free_variables left)) within

    made : (x : Rewrite) → r.body ≡ rewrite x → IsRead g [] (claim_axiom c).attributes (claim_axiom c).pattern x → IsClaimRule c.claim r
    made x e read = record { id = id_is; priority = is.priority; sort = c.sort; rule = x; body = e; reads = read.shape; variables = variables x read }

    by_body : (b : RuleBody) → r.body ≡ b → Reads g [] (claim_axiom c).attributes (claim_axiom c).pattern b → IsClaimRule c.claim r
    by_body (rewrite x) e read = made x e read
    by_body (foreign_rule l) e read = absurd (read.1 meant can)
