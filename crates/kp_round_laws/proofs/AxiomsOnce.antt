-- The axioms that a main module reaches stand there once each: so an added module that imports main has them as they are.
use Rattle.std.proofs.Common.{◌≡◌, refl, sym, ap, subst, ◌∙◌, ℕ, zero, suc, ◌+◌, ◌<◌, Bool, true, false, List, [], ◌∷◌, ◌++◌, Option, Some, None, inl, inr, length, arith, ne_eqb}
use Rattle.std.specs.Prelude.{◌⊎◌, ◌==◌, ◌&&◌, ◌||◌, if◌then◌else◌}
use Rattle.std.specs.List.{AllByRecursion, flat_map, filter_map, list_any, find}
use Rattle.std.specs.Str.{bytes_eq}
use Rattle.std.proofs.lemmas.Slice.Eq.{bytes_eq-Decides}
use Rattle.kp_kore.specs.Syntax.{Text, Statement, KoreSentence, import_sentence, sort_sentence, symbol_sentence, alias_sentence, axiom_sentence, claim_sentence, KoreModule, KoreDefinition}
use Rattle.kp_kore.specs.Steps.{AnyByRecursion}
use Rattle.kp_kore.specs.Rules.{is_rewriting}
use Rattle.kp_kore.specs.Theory.{NumberedAxiom, imports_in, module_named, sentences_of, each_once, names_reached, modules_reached, rewrite_axioms_from, rewrite_axioms}
use Rattle.kp_book.specs.Books.{is_same_axiom, each_axiom_once}

false_true : {A : Type 0} → false ≡ true → A
false_true e = absurd (cc)

and_false : (b : Bool) → (b && false) ≡ false
and_false true = refl
and_false false = refl

either_false : (a b : Bool) → a ≡ false → b ≡ false → (a || b) ≡ false
either_false true b e f = false_true (sym e)
either_false false b e f = f

-- ---- one axiom among those before it

abbrev IsBefore : Text → ℕ → NumberedAxiom → Type 0
IsBefore k n s = (bytes_eq k s.key ≡ false) ⊎ (s.number < n)

not_same : (k : Text) (n : ℕ) (a : Statement) (s : NumberedAxiom) → IsBefore k n s → is_same_axiom (record { key = k; number = n; axiom_of = a }) s ≡ false
not_same k n a s (inl other) = ap (λ b. b && (n == s.number)) other
not_same k n a s (inr less) = ap (λ b. bytes_eq k s.key && b) (ne_eqb n s.number (λ (e : n ≡ s.number). omega (arith, less, e))) ∙ and_false (bytes_eq k s.key)

none_same : (k : Text) (n : ℕ) (a : Statement) (seen : List NumberedAxiom) → AllByRecursion (IsBefore k n) seen → list_any (is_same_axiom (record { key = k; number = n; axiom_of = a })) seen ≡ false
none_same k n a [] h = refl
none_same k n a (s ∷ seen) h =
    either_false (is_same_axiom (record { key = k; number = n; axiom_of = a }) s) (list_any (is_same_axiom (record { key = k; number = n; axiom_of = a })) seen) (not_same k n a s h.0) (none_same k n a seen h.1)

once_new : (seen : List NumberedAxiom) (a : NumberedAxiom) (rest : List NumberedAxiom) → list_any (is_same_axiom a) seen ≡ false → each_axiom_once (a ∷ seen) rest ≡ rest → each_axiom_once seen (a ∷ rest) ≡ a ∷ rest
once_new seen a rest new same = ap (λ b. if b then each_axiom_once seen rest else a ∷ each_axiom_once (a ∷ seen) rest) new ∙ ap (λ xs. a ∷ xs) same

-- ---- within a module

-- of a module gone through, or of this one with a smaller number
abbrev IsMet : List Text → Text → ℕ → NumberedAxiom → Type 0
IsMet done k n s = AnyByRecursion (λ d. s.key ≡ d) done ⊎ ((s.key ≡ k) × (s.number < n))

abbrev AreMet : List Text → Text → ℕ → List NumberedAxiom → Type 0
AreMet done k n = AllByRecursion (IsMet done k n)

other_key : (done : List Text) (k : Text) (key : Text) → list_any (bytes_eq k) done ≡ false → AnyByRecursion (λ d. key ≡ d) done → bytes_eq k key ≡ false
other_key [] k key new any = absurd any
other_key (d ∷ ds) k key new (inl is) = subst (λ x. bytes_eq k x ≡ false) (sym is) (left_false (bytes_eq k d) (list_any (bytes_eq k) ds) new)
  where
    left_false : (a b : Bool) → (a || b) ≡ false → a ≡ false
    left_false true b e = e
    left_false false b e = refl
other_key (d ∷ ds) k key new (inr more) = other_key ds k key (right_false (bytes_eq k d) (list_any (bytes_eq k) ds) new) more
  where
    right_false : (a b : Bool) → (a || b) ≡ false → b ≡ false
    right_false true b e = false_true (sym e)
    right_false false b e = e

met_before : (done : List Text) (k : Text) (n : ℕ) (s : NumberedAxiom) → list_any (bytes_eq k) done ≡ false → IsMet done k n s → IsBefore k n s
met_before done k n s new (inl any) = inl (other_key done k s.key new any)
met_before done k n s new (inr here) = inr here.1

all_before : (done : List Text) (k : Text) (n : ℕ) (seen : List NumberedAxiom) → list_any (bytes_eq k) done ≡ false → AreMet done k n seen → AllByRecursion (IsBefore k n) seen
all_before done k n [] new h = tt
all_before done k n (s ∷ seen) new h = (met_before done k n s new h.0, all_before done k n seen new h.1)

met_later : (done : List Text) (k : Text) (n : ℕ) (seen : List NumberedAxiom) → AreMet done k n seen → AreMet done k (n + 1) seen
met_later done k n [] h = tt
met_later done k n (s ∷ seen) h = (later h.0, met_later done k n seen h.1)
  where
    later : IsMet done k n s → IsMet done k (n + 1) s
    later (inl any) = inl any
    later (inr here) = let less : s.number < n = here.1 in inr (here.0, omega (arith, less))

numbered_met : (done : List Text) (k : Text) (n : ℕ) (a : Statement) → IsMet done k (n + 1) (record { key = k; number = n; axiom_of = a })
numbered_met done k n a = inr (refl, omega arith)

within : (done : List Text) (k : Text) (n : ℕ) (ss : List KoreSentence) (rest seen : List NumberedAxiom) → list_any (bytes_eq k) done ≡ false → AreMet done k n seen →
    ((m : ℕ) (later : List NumberedAxiom) → AreMet done k m later → each_axiom_once later rest ≡ rest) → each_axiom_once seen (rewrite_axioms_from k n ss ++ rest) ≡ rewrite_axioms_from k n ss ++ rest
within done k n [] rest seen new met go = go n seen met
within done k n (axiom_sentence a ∷ more) rest seen new met go =
    by_kind (is_rewriting a.pattern)
    (within done k (n + 1) more rest (record { key = k; number = n; axiom_of = a } ∷ seen) new (numbered_met done k n a, met_later done k n seen met) go)
    (within done k (n + 1) more rest seen new (met_later done k n seen met) go)
  where
    by_kind : (b : Bool) → each_axiom_once (record { key = k; number = n; axiom_of = a } ∷ seen) (rewrite_axioms_from k (n + 1) more ++ rest) ≡ rewrite_axioms_from k (n + 1) more ++ rest →
        each_axiom_once seen (rewrite_axioms_from k (n + 1) more ++ rest) ≡ rewrite_axioms_from k (n + 1) more ++ rest → each_axiom_once seen ((if b then record { key = k; number = n; axiom_of = a } ∷ rewrite_axioms_from k (n + 1) more else rewrite_axioms_from k (n + 1) more) ++ rest)
        ≡ (if b then record { key = k; number = n; axiom_of = a } ∷ rewrite_axioms_from k (n + 1) more else rewrite_axioms_from k (n + 1) more) ++ rest
    by_kind true first other = once_new seen (record { key = k; number = n; axiom_of = a }) (rewrite_axioms_from k (n + 1) more ++ rest)
        (none_same k n a seen (all_before done k n seen new met)) first
    by_kind false first other = other
within done k n (import_sentence name as_ ∷ more) rest seen new met go = within done k n more rest seen new met go
within done k n (sort_sentence d ∷ more) rest seen new met go = within done k n more rest seen new met go
within done k n (symbol_sentence d ∷ more) rest seen new met go = within done k n more rest seen new met go
within done k n (alias_sentence d ∷ more) rest seen new met go = within done k n more rest seen new met go
within done k n (claim_sentence s ∷ more) rest seen new met go = within done k n more rest seen new met go

-- ---- module by module

abbrev AreOf : List Text → List NumberedAxiom → Type 0
AreOf done = AllByRecursion (λ s. AnyByRecursion (λ d. s.key ≡ d) done)

of_met : (done : List Text) (k : Text) (m : ℕ) (seen : List NumberedAxiom) → AreMet done k m seen → AreOf (k ∷ done) seen
of_met done k m [] h = tt
of_met done k m (s ∷ seen) h = (one h.0, of_met done k m seen h.1)
  where
    one : IsMet done k m s → AnyByRecursion (λ d. s.key ≡ d) (k ∷ done)
    one (inl any) = inr any
    one (inr here) = inl here.0

met_of : (done : List Text) (k : Text) (n : ℕ) (seen : List NumberedAxiom) → AreOf done seen → AreMet done k n seen
met_of done k n [] h = tt
met_of done k n (s ∷ seen) h = (inl h.0, met_of done k n seen h.1)

of_more : (done : List Text) (k : Text) (seen : List NumberedAxiom) → AreOf done seen → AreOf (k ∷ done) seen
of_more done k [] h = tt
of_more done k (s ∷ seen) h = (inr h.0, of_more done k seen h.1)

named_so : (ms : List KoreModule) (name : Text) (m : KoreModule) → module_named ms name ≡ Some m → bytes_eq m.name name ≡ true
named_so [] name m e = absurd (cc)
named_so (x ∷ xs) name m e = by_name (named_so xs name m) (bytes_eq x.name name) refl e
  where
    by_name : (find (λ y. bytes_eq y.name name) xs ≡ Some m → bytes_eq m.name name ≡ true) → (b : Bool) → bytes_eq x.name name ≡ b → (if b then Some x else find (λ y. bytes_eq y.name name) xs) ≡ Some m → bytes_eq m.name name ≡ true
    by_name later true is found = let same : x ≡ m = cc found in subst (λ y. bytes_eq y.name name ≡ true) same is
    by_name later false is found = later found

abbrev axioms_at : List KoreModule → List Text → List NumberedAxiom
axioms_at ms names = rewrite_axioms (filter_map (module_named ms) names)

module_by_module : (ms : List KoreModule) (done names : List Text) (seen : List NumberedAxiom) → AreOf done seen → each_axiom_once seen (axioms_at ms (each_once done names)) ≡ axioms_at ms (each_once done names)
module_by_module ms done [] seen h = refl
module_by_module ms done (n ∷ ns) seen h =
    by_seen (module_by_module ms done ns seen h) (λ later of. module_by_module ms (n ∷ done) ns later of) (list_any (bytes_eq n) done) refl
  where
    by_module : ((later : List NumberedAxiom) → AreOf (n ∷ done) later → each_axiom_once later (axioms_at ms (each_once (n ∷ done) ns)) ≡ axioms_at ms (each_once (n ∷ done) ns)) →
        list_any (bytes_eq n) done ≡ false → (o : Option KoreModule) → module_named ms n ≡ o →
        each_axiom_once seen (axioms_at ms (n ∷ each_once (n ∷ done) ns)) ≡ axioms_at ms (n ∷ each_once (n ∷ done) ns)
    by_module behind is None none = rw none (behind seen (of_more done n seen h))
    by_module behind is (Some m) found =
        let name : m.name ≡ n = (bytes_eq-Decides m.name n).0 (named_so ms n m found) in
        rw found (within done m.name 1 m.sentences (axioms_at ms (each_once (n ∷ done) ns)) seen (subst (λ x. list_any (bytes_eq x) done ≡ false) (sym name) is) (met_of done m.name 1 seen h)
        (λ k later met. behind later (subst (λ x. AreOf (x ∷ done) later) name (of_met done m.name k later met))))

    by_seen : each_axiom_once seen (axioms_at ms (each_once done ns)) ≡ axioms_at ms (each_once done ns) →
        ((later : List NumberedAxiom) → AreOf (n ∷ done) later → each_axiom_once later (axioms_at ms (each_once (n ∷ done) ns)) ≡ axioms_at ms (each_once (n ∷ done) ns)) →
        (b : Bool) → list_any (bytes_eq n) done ≡ b → each_axiom_once seen (axioms_at ms (if b then each_once done ns else n ∷ each_once (n ∷ done) ns)) ≡ axioms_at ms (if b then each_once done ns else n ∷ each_once (n ∷ done) ns)
    by_seen same behind true is = same
    by_seen same behind false is = by_module behind is (module_named ms n) refl

pub axioms_stand_once : (d : KoreDefinition) (main : Text) → each_axiom_once [] (rewrite_axioms (modules_reached d main)) ≡ rewrite_axioms (modules_reached d main)
axioms_stand_once d main = by_length (length d.modules)
  where
    by_length : (k : ℕ) → each_axiom_once [] (axioms_at d.modules (names_reached k d.modules main)) ≡ axioms_at d.modules (names_reached k d.modules main)
    by_length zero = refl
    by_length (suc k) = module_by_module d.modules [] (flat_map (names_reached k d.modules) (imports_in (sentences_of (module_named d.modules main))) ++ main ∷ []) [] tt
