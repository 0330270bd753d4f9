-- What the module of claims means that was added: main's theory with the claims as rules.
use Rattle.std.proofs.Common.{◌≡◌, refl, sym, ap, subst, ◌∙◌, ℕ, suc, ◌+◌, ◌<◌, ◌^◌, Bool, true, false, List, [], ◌∷◌, ◌++◌, map, length, Some, None, append-nil, arith}
use Rattle.std.specs.Prelude.{◌||◌, if◌then◌else◌, codes}
use Rattle.std.specs.Fmt.{decimal}
use Rattle.std.specs.List.{AllByRecursion, AllZip}
use Rattle.std.specs.Str.{bytes_eq}
use Rattle.kp_kore.specs.Syntax.{Text, axiom_sentence}
use Rattle.kp_kore.specs.Signature.{KoreSignature}
use Rattle.kp_kore.specs.Rules.{RewriteRule}
use Rattle.kp_kore.specs.Theory.{Theory, NumberedAxiom, imports_in, rewrite_axioms_from, labels_of, IsRuleOf, IsTheoryOfAxioms}
use Rattle.kp_kore.specs.ClaimModules.{SortedClaim, claim_axiom, claims_module, claim_axioms_from, IsAddedId, CanBeRule}
use Rattle.kp_kore.proofs.ListLemmas.{all_left}
use Rattle.kp_kore.proofs.NameLemmas.{same_bytes}
use Rattle.kp_kore.proofs.ClaimTheories.{module_axioms, claims_theory}
use Rattle.kp_text.specs.Spelling.{SpellsModule}
use Rattle.kp_text.proofs.CompleteModules.{one_module}
use Rattle.kp_print.specs.Printed.{module_text}
use Rattle.kp_book.specs.Books.{Opening, Registration, binds, rules_in, rules_bound, first_of, meaning_in, each_axiom_once, extended}
use Rattle.kp_book.proofs.BookLemmas.{meaning_stays}
use Rattle.kp_registry.specs.Legal.{Fits, IsLegal, AreLegalFrom, id_of}
use Rattle.kp_rounds.specs.Jobs.{rule_ids_from}
use Rattle.kp_rounds.specs.Sound.{IsMainTheory, MeansClaims, IsSpelledIn}
use Rattle.kp_round_laws.proofs.OneTheory.{from_some}

-- ---- the module's axioms

no_imports : (cs : List SortedClaim) → imports_in (map (λ c. axiom_sentence (claim_axiom c)) cs) ≡ []
no_imports [] = refl
no_imports (c ∷ cs) = no_imports cs

one_import : (main : Text) (cs : List SortedClaim) → imports_in (claims_module main cs).sentences ≡ main ∷ []
one_import main cs = ap (λ xs. main ∷ xs) (no_imports cs)

one_list : (o : Opening) (book : List Registration) (names : List Text) (main : Text) (axioms : List NumberedAxiom) (imports : List (List NumberedAxiom)) → names ≡ main ∷ [] → meaning_in o book main ≡ Some axioms →
    AllZip (λ name xs. meaning_in o book name ≡ Some xs) names imports → imports ≡ axioms ∷ []
one_list o book names main axioms imports is bound zip = by_imports imports (subst (λ ns. AllZip (λ name xs. meaning_in o book name ≡ Some xs) ns imports) is zip)
  where
    by_imports : (xs : List (List NumberedAxiom)) → AllZip (λ name ys. meaning_in o book name ≡ Some ys) (main ∷ []) xs → xs ≡ axioms ∷ []
    by_imports [] z = absurd z
    by_imports (x ∷ []) z = let same : x ≡ axioms = from_some x axioms (sym z.0 ∙ bound) in ap (λ y. y ∷ []) same
    by_imports (x ∷ y ∷ more) z = absurd z.1

entry_axioms : (o : Opening) (axioms : List NumberedAxiom) (before : List Registration) (r : Registration) (text : List ℕ) (cs : List SortedClaim) → rules_in o.modules o.main ≡ Some axioms → each_axiom_once [] axioms ≡ axioms → Fits o before r → r.text ≡ text →
    SpellsModule text (claims_module o.main cs) → r.axioms ≡ axioms ++ claim_axioms_from r.id 1 cs
entry_axioms o axioms before r text cs bound apart fits is spells =
    let m : fits.spelled ≡ claims_module o.main cs = one_module text fits.spelled (claims_module o.main cs) (subst (λ b. SpellsModule b fits.spelled) is fits.spells) spells in
    let main : meaning_in o before o.main ≡ Some axioms = ap (λ x. first_of x (rules_bound before o.main)) bound in
    let imports : fits.imports ≡ axioms ∷ [] = one_list o before (imports_in fits.spelled.sentences) o.main axioms fits.imports (ap (λ k. imports_in k.sentences) m ∙ one_import o.main cs) main fits.bound in
    fits.axioms ∙ ap (λ xs. extended xs r.id fits.spelled) imports ∙ ap (λ k. extended (axioms ∷ []) r.id k) m
    ∙ ap (λ xs. each_axiom_once [] xs ++ rewrite_axioms_from r.id 1 (claims_module o.main cs).sentences) (append-nil axioms)
    ∙ ap (λ xs. xs ++ rewrite_axioms_from r.id 1 (claims_module o.main cs).sentences) apart
    ∙ ap (λ xs. axioms ++ xs) (module_axioms o.main r.id cs)

-- ---- what its id means

own_id : (r : Registration) → binds r.id r ≡ true
own_id r = either (bytes_eq r.id r.id) (same_bytes r.id) _
  where
    either : (a : Bool) → a ≡ true → (b : Bool) → (a || b) ≡ true
    either true e b = refl
    either false e b = absurd (cc e)

-- the last of a legal list fits behind the others
pub last_fits : (o : Opening) (before book : List Registration) (r : Registration) → AreLegalFrom o before (book ++ r ∷ []) → Fits o (before ++ book) r
last_fits o before [] r h = subst (λ b. Fits o b r) (none before) h.0
  where
    none : (xs : List Registration) → xs ≡ xs ++ []
    none [] = refl
    none (x ∷ xs) = ap (λ ys. x ∷ ys) (none xs)
last_fits o before (q ∷ qs) r h = subst (λ b. Fits o b r) (shift before q qs) (last_fits o (before ++ q ∷ []) qs r h.1)
  where
    shift : (xs : List Registration) (y : Registration) (ys : List Registration) → (xs ++ y ∷ []) ++ ys ≡ xs ++ y ∷ ys
    shift [] y ys = refl
    shift (x ∷ xs) y ys = ap (λ zs. x ∷ zs) (shift xs y ys)

-- each entry of a legal list whose text is this one has these axioms, but for its key
AreAlike : List NumberedAxiom → List SortedClaim → List ℕ → List Registration → Type 0
AreAlike axioms cs text = AllByRecursion (λ q. q.text ≡ text → (q.axioms ≡ axioms ++ claim_axioms_from q.id 1 cs) × (q.id ≡ id_of text))

alike : (o : Opening) (axioms : List NumberedAxiom) (cs : List SortedClaim) (text : List ℕ) → rules_in o.modules o.main ≡ Some axioms → each_axiom_once [] axioms ≡ axioms → SpellsModule text (claims_module o.main cs) →
    (before rs : List Registration) → AreLegalFrom o before rs → AreAlike axioms cs text rs
unfolding AreAlike
alike o axioms cs text bound apart spells before [] h = tt
alike o axioms cs text bound apart spells before (q ∷ qs) h =
    ((λ is. (entry_axioms o axioms before q text cs bound apart h.0 is spells, h.0.is_id ∙ ap id_of is)), alike o axioms cs text bound apart spells (before ++ q ∷ []) qs h.1)

first_bound : (name : Text) (xs : List NumberedAxiom) (rs : List Registration) (r : Registration) → AllByRecursion (λ q. binds name q ≡ true → q.axioms ≡ xs) rs → binds name r ≡ true → r.axioms ≡ xs → rules_bound (rs ++ r ∷ []) name ≡ Some xs
first_bound name xs [] r h b is = ap (λ c. if c then Some r.axioms else None) b ∙ ap Some is
first_bound name xs (q ∷ qs) r h b is = by_test (binds name q) refl (first_bound name xs qs r h.1 b is)
  where
    by_test : (c : Bool) → binds name q ≡ c → rules_bound (qs ++ r ∷ []) name ≡ Some xs → (if c then Some q.axioms else rules_bound (qs ++ r ∷ []) name) ≡ Some xs
    by_test true e more = ap Some (h.0 e)
    by_test false e more = more

bound_alike : (axioms : List NumberedAxiom) (cs : List SortedClaim) (text : List ℕ) (id : Text) (rs : List Registration) → id ≡ id_of text → AllByRecursion (λ q. binds id q ≡ true → q.text ≡ text) rs → AreAlike axioms cs text rs →
    AllByRecursion (λ q. binds id q ≡ true → q.axioms ≡ axioms ++ claim_axioms_from id 1 cs) rs
unfolding AreAlike
bound_alike axioms cs text id [] is h k = tt
bound_alike axioms cs text id (q ∷ qs) is h k =
    ((λ b. let both = k.0 (h.0 b) in both.0 ∙ ap (λ x. axioms ++ claim_axioms_from x 1 cs) (both.1 ∙ sym is)), bound_alike axioms cs text id qs is h.1 k.1)

pub id_means : (o : Opening) (axioms : List NumberedAxiom) (book : List Registration) (r : Registration) (cs : List SortedClaim) (text : List ℕ) → rules_in o.modules o.main ≡ Some axioms → each_axiom_once [] axioms ≡ axioms → IsLegal o (book ++ r ∷ []) → r.text ≡ text →
    SpellsModule text (claims_module o.main cs) → meaning_in o (book ++ r ∷ []) r.id ≡ Some (axioms ++ claim_axioms_from r.id 1 cs)
unfolding AreAlike
id_means o axioms book r cs text bound apart legal is spells =
    let fits : Fits o book r = last_fits o [] book r legal.entries in
    let id : r.id ≡ id_of text = fits.is_id ∙ ap id_of is in
    let all : AreAlike axioms cs text (book ++ r ∷ []) = alike o axioms cs text bound apart spells [] (book ++ r ∷ []) legal.entries in
    let before : AreAlike axioms cs text book = all_left (λ q. q.text ≡ text → (q.axioms ≡ axioms ++ claim_axioms_from q.id 1 cs) × (q.id ≡ id_of text)) book (r ∷ []) all in
    let texts : AllByRecursion (λ q. binds r.id q ≡ true → q.text ≡ text) book = subst (λ t. AllByRecursion (λ q. binds r.id q ≡ true → q.text ≡ t) book) is (fits.one_text r.id (own_id r)) in
    let found : rules_bound (book ++ r ∷ []) r.id ≡ Some (axioms ++ claim_axioms_from r.id 1 cs) =
    first_bound r.id (axioms ++ claim_axioms_from r.id 1 cs) book r (bound_alike axioms cs text r.id book id texts before) (own_id r) (entry_axioms o axioms book r text cs bound apart fits is spells) in
    ap (λ x. first_of x (rules_bound (book ++ r ∷ []) r.id)) (fits.not_opening r.id (own_id r)) ∙ found

-- ---- the theory that is asked

ids_from : (g : KoreSignature) (labels : List Text) (id : Text) (n : ℕ) (cs : List SortedClaim) (rs : List RewriteRule) → AllZip (IsRuleOf g labels) (claim_axioms_from id n cs) rs → map (λ r. r.id) rs ≡ rule_ids_from id n cs
ids_from g labels id n [] [] z = refl
ids_from g labels id n [] (r ∷ rs) z = absurd z
ids_from g labels id n (c ∷ cs) [] z = absurd z
ids_from g labels id n (c ∷ cs) (r ∷ rs) z = let first : r.id ≡ id ++ codes "#" ++ decimal n = z.0.id in let more : map (λ q. q.id) rs ≡ rule_ids_from id (n + 1) cs = ids_from g labels id (n + 1) cs rs z.1 in λ i. first i ∷ more i

behind_zip : (g : KoreSignature) (labels : List Text) (xs ys : List NumberedAxiom) (ps qs : List RewriteRule) → AllZip (IsRuleOf g labels) (xs ++ ys) (ps ++ qs) → length ps ≡ length xs → AllZip (IsRuleOf g labels) ys qs
behind_zip g labels [] ys [] qs z e = z
behind_zip g labels [] ys (p ∷ ps) qs z e = absurd (cc e)
behind_zip g labels (x ∷ xs) ys [] qs z e = absurd (cc e)
behind_zip g labels (x ∷ xs) ys (p ∷ ps) qs z e = let less : suc (length ps) ≡ suc (length xs) = e in behind_zip g labels xs ys ps qs z.1 (omega (arith, less))

same_length : (g : KoreSignature) (labels : List Text) (xs : List NumberedAxiom) (rs : List RewriteRule) → AllZip (IsRuleOf g labels) xs rs → length rs ≡ length xs
same_length g labels [] [] z = refl
same_length g labels [] (r ∷ rs) z = absurd z
same_length g labels (x ∷ xs) [] z = absurd z
same_length g labels (x ∷ xs) (r ∷ rs) z = ap suc (same_length g labels xs rs z.1)

-- the claims' module, added as the last entry of a legal book, means from there on main's theory with the claims as rules
pub added_means_claims : (o : Opening) (t : Theory) (book : List Registration) (r : Registration) (cs : List SortedClaim) → IsMainTheory o t → IsLegal o (book ++ r ∷ []) → r.text ≡ module_text (claims_module o.main cs) →
    IsSpelledIn o.main cs → AllByRecursion (CanBeRule o.signature) cs → 1 + length cs < 2 ^ 64 → IsAddedId r.id → MeansClaims o (book ++ r ∷ []) t r.id cs
added_means_claims o t book r cs main legal is spells can few added later grows m asked =
    let meant : meaning_in o (book ++ r ∷ []) r.id ≡ Some (main.axioms ++ claim_axioms_from r.id 1 cs) = id_means o main.axioms book r cs (module_text (claims_module o.main cs)) main.bound main.apart legal is spells in
    let stays : meaning_in o later r.id ≡ Some (main.axioms ++ claim_axioms_from r.id 1 cs) = meaning_stays o (book ++ r ∷ []) later r.id (main.axioms ++ claim_axioms_from r.id 1 cs) grows meant in
    let axioms : asked.axioms ≡ main.axioms ++ claim_axioms_from r.id 1 cs = from_some asked.axioms (main.axioms ++ claim_axioms_from r.id 1 cs) (sym asked.bound ∙ stays) in
    let means : IsTheoryOfAxioms o.signature (main.axioms ++ claim_axioms_from r.id 1 cs) m = subst (λ xs. IsTheoryOfAxioms o.signature xs m) axioms asked.means in
    let theory = claims_theory o.signature main.axioms r.id cs t m added few can main.means means in
    let zip : AllZip (IsRuleOf o.signature (labels_of (main.axioms ++ claim_axioms_from r.id 1 cs))) (main.axioms ++ claim_axioms_from r.id 1 cs) (t.rules ++ theory.0) =
    subst (λ (k : Theory). AllZip (IsRuleOf o.signature (labels_of (main.axioms ++ claim_axioms_from r.id 1 cs))) (main.axioms ++ claim_axioms_from r.id 1 cs) k.rules) theory.1 means.rules in
    record {
      rules = theory.0;
      is = theory.1;
      are = theory.2;
      ids = ids_from o.signature (labels_of (main.axioms ++ claim_axioms_from r.id 1 cs)) r.id 1 cs theory.0
          (behind_zip o.signature (labels_of (main.axioms ++ claim_axioms_from r.id 1 cs)) main.axioms (claim_axioms_from r.id 1 cs) t.rules theory.0 zip (same_length o.signature (labels_of main.axioms) main.axioms t.rules main.means.rules));
    }
