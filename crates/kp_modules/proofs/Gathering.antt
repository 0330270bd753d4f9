-- Rules of several rule sets, each once.
use Rattle.std.proofs.Common.{◌≡◌, refl, sym, ap, subst, ◌∙◌, ℕ, zero, suc, ◌<◌, ◌≤◌, ◌+◌, ◌^◌, ◌==◌, Bool, true, false, ◌&&◌, ◌||◌, not, cond, List, [], ◌∷◌, ◌++◌, length, map, take, get_or, String, Global, Bor, arith}
use Rattle.std.specs.List.{AllByRecursion, AllZip, list_any, flat_map}
use Rattle.std.specs.Str.{bytes_eq}
use Rattle.std.proofs.lemmas.Bool.Decides.{nat_tests}
use Rattle.std.proofs.lemmas.Grind.{flat_map-append}
use Rattle.std.proofs.lemmas.List.{append-nil, map-append, take_all}
use Rattle.std.proofs.lemmas.Slice.Eq.{bytes_eq-Decides}
use Rattle.std.proofs.lemmas.Slice.Zip.{AllZip-long}
use Rattle.indexmap.specs.IndexMap.{IndexMap}
use Rattle.kp_kore.specs.Syntax.{Text}
use Rattle.kp_kore.specs.Signature.{KoreSignature}
use Rattle.kp_kore.specs.Theory.{NumberedAxiom}
use Rattle.kp_rules.specs.declared.rule.Rule.{Rule}
use Rattle.kp_book.specs.Books.{is_same_axiom, each_axiom_once}
use Rattle.kp_modules.specs.Extending.{IsTakenFrom, AreTakenFrom, AreGathered, name_by_number}
use Rattle.kp_imports.specs.Names.{Lists}
use Rattle.kp_imports.specs.Reaching.{has}
use Rattle.kp_imports.proofs.Collect.{all_append, false_true}
use Rattle.kp_modules.proofs.Numbering.{same_among}

-- ---- two lists of one length

module _ {A B : Type 0} (R : A → B → Type 0) where
  at_place : (xs : List A) (ys : List B) (i : ℕ) (y : B) → AllZip R xs ys → i < length ys → y ≡ get_or ys i y → (x : A) × (take (suc i) xs ≡ take i xs ++ x ∷ []) × R x y
  at_place [] [] zero y h l e = absurd (omega arith)
  at_place [] [] (suc i) y h l e = absurd (omega arith)
  at_place [] (b ∷ ys) i y h l e = absurd h
  at_place (a ∷ xs) [] i y h l e = absurd h
  at_place (a ∷ xs) (b ∷ ys) zero y h l e = (a, refl, subst (R a) (sym e) h.0)
  at_place (a ∷ xs) (b ∷ ys) (suc i) y h l e = let r = at_place xs ys i y h.1 (omega arith) e in (r.0, ap (λ zs. a ∷ zs) r.1, r.2)

  -- what stands at the same place of the other list
  pub zip_at : (xs : List A) (ys : List B) (i : ℕ) (y : B) → AllZip R xs ys → i < length ys → y ≡ get_or ys i y → (x : A) × (take (i + 1) xs ≡ take i xs ++ x ∷ []) × R x y
  zip_at xs ys i y h l e =
      let more : i + 1 ≡ suc i = omega arith in
      let r = at_place xs ys i y h l e in (r.0, ap (λ k. take k xs) more ∙ r.1, r.2)

  pub zip_all : (xs : List A) (ys : List B) (i : ℕ) → AllZip R xs ys → length ys ≤ i → take i xs ≡ xs
  zip_all xs ys i h l = let long : length ys ≡ length xs = AllZip-long R xs ys h in take_all i xs (omega arith)

  pub zip_push : (xs : List A) (ys : List B) (x : A) (y : B) → AllZip R xs ys → R x y → AllZip R (xs ++ x ∷ []) (ys ++ y ∷ [])
  zip_push [] [] x y h k = (k, tt)
  zip_push [] (w ∷ ys) x y h k = absurd h
  zip_push (v ∷ xs) [] x y h k = absurd h
  zip_push (v ∷ xs) (w ∷ ys) x y h k = (h.0, zip_push xs ys x y h.1 k)

-- ---- each axiom once

number_told : (m n : ℕ) → (m == n) ≡ true → m ≡ n
number_told m n e = grind (arith, nat_tests)

parts : (a b : Bool) → (a && b) ≡ true → (a ≡ true) × (b ≡ true)
parts true b e = (refl, e)
parts false b e = false_true e

-- an axiom that is the same as another stands where that one does
absorbed : (a x : NumberedAxiom) (seen : List NumberedAxiom) → is_same_axiom a x ≡ true → list_any (is_same_axiom x) seen ≡ true → list_any (is_same_axiom a) seen ≡ true
absorbed a x seen e h =
    let p = parts (bytes_eq a.key x.key) (a.number == x.number) e in
    ap (λ k. list_any (λ b. bytes_eq k b.key && (a.number == b.number)) seen) ((bytes_eq-Decides a.key x.key).0 p.0)
    ∙ ap (λ n. list_any (λ b. bytes_eq x.key b.key && (n == b.number)) seen) (number_told a.number x.number p.1)
    ∙ h

abbrev one_or_none : NumberedAxiom → Bool → List NumberedAxiom
one_or_none a true = []
one_or_none a false = a ∷ []

skip : (s x r : Bool) → (x ≡ true → s ≡ true) → (s || r) ≡ (s || (x || r))
skip true x r h = refl
skip false true r h = false_true (h refl)
skip false false r h = refl

turn : (s x r : Bool) → ((x || s) || r) ≡ (s || (x || r))
turn true true r = refl
turn true false r = refl
turn false true r = refl
turn false false r = refl

nothing : (s : Bool) → s ≡ (s || false)
nothing true = refl
nothing false = refl

once_behind : (a : NumberedAxiom) (seen passed : List NumberedAxiom) → each_axiom_once seen (passed ++ a ∷ []) ≡ each_axiom_once seen passed ++ one_or_none a (list_any (is_same_axiom a) seen || list_any (is_same_axiom a) passed)
once_behind a seen [] = by (list_any (is_same_axiom a) seen) ∙ ap (one_or_none a) (nothing (list_any (is_same_axiom a) seen))
  where
    by : (b : Bool) → cond b [] (a ∷ []) ≡ one_or_none a b
    by true = refl
    by false = refl
once_behind a seen (x ∷ passed) = by (list_any (is_same_axiom x) seen) refl (once_behind a seen passed) (once_behind a (x ∷ seen) passed)
  where
    among : Bool
    among = list_any (is_same_axiom a) seen || (is_same_axiom a x || list_any (is_same_axiom a) passed)

    by : (b : Bool) → list_any (is_same_axiom x) seen ≡ b →
        each_axiom_once seen (passed ++ a ∷ []) ≡ each_axiom_once seen passed ++ one_or_none a (list_any (is_same_axiom a) seen || list_any (is_same_axiom a) passed) →
        each_axiom_once (x ∷ seen) (passed ++ a ∷ []) ≡ each_axiom_once (x ∷ seen) passed ++ one_or_none a ((is_same_axiom a x || list_any (is_same_axiom a) seen) || list_any (is_same_axiom a) passed) →
        cond b (each_axiom_once seen (passed ++ a ∷ [])) (x ∷ each_axiom_once (x ∷ seen) (passed ++ a ∷ [])) ≡ cond b (each_axiom_once seen passed) (x ∷ each_axiom_once (x ∷ seen) passed) ++ one_or_none a among
    by true e h k = h ∙ ap (λ c. each_axiom_once seen passed ++ one_or_none a c) (skip (list_any (is_same_axiom a) seen) (is_same_axiom a x) (list_any (is_same_axiom a) passed) (λ s. absorbed a x seen s e))
    by false e h k = ap (λ l. x ∷ l) (k ∙ ap (λ c. each_axiom_once (x ∷ seen) passed ++ one_or_none a c) (turn (list_any (is_same_axiom a) seen) (is_same_axiom a x) (list_any (is_same_axiom a) passed)))

once_then : (a : NumberedAxiom) (passed : List NumberedAxiom) (there : Bool) → list_any (is_same_axiom a) passed ≡ there → each_axiom_once [] (passed ++ a ∷ []) ≡ each_axiom_once [] passed ++ one_or_none a there
once_then a passed there e = once_behind a [] passed ∙ ap (λ b. each_axiom_once [] passed ++ one_or_none a b) e

-- ---- one rule more

numbers_more : (passed : List NumberedAxiom) (a : NumberedAxiom) → AllByRecursion (λ b. b.number < 2 ^ 64) passed → a.number < 2 ^ 64 → AllByRecursion (λ b. b.number < 2 ^ 64) (passed ++ a ∷ [])
numbers_more passed a h k = all_append (λ b. b.number < 2 ^ 64) passed (a ∷ []) h (k, tt)

new_told : (passed : List NumberedAxiom) (a : NumberedAxiom) (x : Text) (is_new : Bool) → a.number < 2 ^ 64 → AllByRecursion (λ b. b.number < 2 ^ 64) passed → x ≡ name_by_number a → is_new ≡ not (has x (map name_by_number passed)) → is_new ≡ not (list_any (is_same_axiom a) passed)
new_told passed a x is_new h k e f = f ∙ ap (λ n. not (has n (map name_by_number passed))) e ∙ ap not (same_among a passed h k)

turned : (a b : Bool) → a ≡ not b → b ≡ not a
turned true true e = false_true (sym e)
turned true false e = refl
turned false true e = refl
turned false false e = false_true e

module _ {V S : Type 0} (g : KoreSignature) where
  pub none_gathered : (met : IndexMap (String Global) V S) → Lists [] met → AreGathered g [] met []
  none_gathered met h = record { rules = tt; names = h; numbers = tt }

  names_more : (passed : List NumberedAxiom) (a : NumberedAxiom) (x : Text) (met : IndexMap (String Global) V S) → x ≡ name_by_number a → Lists (map name_by_number passed ++ x ∷ []) met → Lists (map name_by_number (passed ++ a ∷ [])) met
  names_more passed a x met e h = subst (λ l. Lists l met) (ap (λ n. map name_by_number passed ++ n ∷ []) e ∙ sym (map-append name_by_number passed (a ∷ []))) h

  -- a rule that is new
  pub gathered_new : (passed : List NumberedAxiom) (a : NumberedAxiom) (x : Text) (old new : IndexMap (String Global) V S) (found found_more : List (Bor Rule)) (r : Bor Rule) →
      AreGathered g passed old found → IsTakenFrom g a r.now → a.number < 2 ^ 64 → x ≡ name_by_number a → true ≡ not (has x (map name_by_number passed)) → Lists (map name_by_number passed ++ x ∷ []) new → found_more ≡ found ++ r ∷ [] →
      AreGathered g (passed ++ a ∷ []) new found_more
  gathered_new passed a x old new found found_more r all own small e is names more =
      let absent : list_any (is_same_axiom a) passed ≡ false = turned true (list_any (is_same_axiom a) passed) (new_told passed a x true small all.numbers e is) in record {
        rules = subst (λ axioms. AreTakenFrom g axioms found_more) (sym (once_then a passed false absent))
            (subst (AreTakenFrom g (each_axiom_once [] passed ++ a ∷ [])) (sym more) (zip_push (λ b s. IsTakenFrom g b s.now) (each_axiom_once [] passed) found a r all.rules own));
        names = names_more passed a x new e names;
        numbers = numbers_more passed a all.numbers small;
      }

  -- a rule that was met before
  pub gathered_old : (passed : List NumberedAxiom) (a : NumberedAxiom) (x : Text) (old new : IndexMap (String Global) V S) (found : List (Bor Rule)) →
      AreGathered g passed old found → a.number < 2 ^ 64 → x ≡ name_by_number a → false ≡ not (has x (map name_by_number passed)) → Lists (map name_by_number passed ++ x ∷ []) new →
      AreGathered g (passed ++ a ∷ []) new found
  gathered_old passed a x old new found all small e is names =
      let there : list_any (is_same_axiom a) passed ≡ true = turned false (list_any (is_same_axiom a) passed) (new_told passed a x false small all.numbers e is) in record {
        rules = subst (λ axioms. AreTakenFrom g axioms found) (sym (once_then a passed true there ∙ append-nil (each_axiom_once [] passed))) all.rules;
        names = names_more passed a x new e names;
        numbers = numbers_more passed a all.numbers small;
      }

-- ---- one list of axioms more

pub lists_more : (lists : List (List NumberedAxiom)) (i : ℕ) (axioms : List NumberedAxiom) → take (i + 1) lists ≡ take i lists ++ axioms ∷ [] → flat_map (λ l. l) (take i lists) ++ axioms ≡ flat_map (λ l. l) (take (i + 1) lists)
lists_more lists i axioms e = sym (ap (flat_map (λ l. l)) e ∙ flat_map-append (λ l. l) (take i lists) (axioms ∷ []) ∙ ap (λ l. flat_map (λ k. k) (take i lists) ++ l) (append-nil axioms))
