-- Labels that are counted, one more of them, and the labels of one more axiom.
use Rattle.std.proofs.Common.{◌≡◌, refl, sym, ap, ◌∙◌, ℕ, suc, zero, ◌+◌, ◌<◌, ◌==◌, Bool, true, false, ◌||◌, not, cond, List, [], ◌∷◌, ◌++◌, length, take, get_or, count_by, Option, Some, None, unwrap_or, Result, Ok, Err, MatchResult, IfOk, arith}
use Rattle.std.specs.Option.{is_some}
use Rattle.std.specs.Str.{bytes_eq}
use Rattle.std.proofs.Math.Seq.{take-suc}
use Rattle.std.proofs.lemmas.List.{map-append}
use Rattle.std.proofs.lemmas.List.Elements.{filter_map-append}
use Rattle.std.proofs.lemmas.Bool.Decides.{nat_tests}
use Rattle.std.proofs.lemmas.Slice.Eq.{bytes_eq-Decides}
use Rattle.kp_kore.specs.Syntax.{Text}
use Rattle.std.specs.Prelude.{codes}
use Rattle.std.specs.Fmt.{decimal}
use Rattle.kp_kore.specs.Theory.{NumberedAxiom, label_of, labels_of, rule_id}
use Rattle.kp_modules.specs.Axioms.{axiom_view, axioms_view}
use Rattle.kp_modules.specs.Labels.{stands_once}
use Rattle.kp_imports.specs.Reaching.{has}
use Rattle.kp_modules.specs.declared.axioms.RewriteAxiom.{RewriteAxiom}
use Rattle.kp_imports.proofs.Collect.{has_more, or_true, or_false, false_true}
use Rattle.kp_imports.proofs.Twice.{count_more, none_counted, some_counted}

-- what is told of a name that stands so often
abbrev told : Bool → ℕ → Option Bool
told there n = cond there (Some (n == 1)) None

-- a name that isn't there stands no time, and not once
pub absent : (n : Text) (names : List Text) → has n names ≡ false → stands_once n names ≡ false
absent n names h = ap (λ k. k == 1) (none_counted n names h)

-- with one more, the name stands once where it wasn't there
first_time : (n : Text) (names : List Text) → (count_by (bytes_eq n) names + 1 == 1) ≡ not (has n names)
first_time n names = by (has n names) refl (count_by (bytes_eq n) names) refl
  where
    by : (b : Bool) → has n names ≡ b → (k : ℕ) → count_by (bytes_eq n) names ≡ k → (k + 1 == 1) ≡ not b
    by true h zero e = let some : 0 < count_by (bytes_eq n) names = some_counted n names h in absurd (omega arith)
    by true h (suc k) e = grind (arith, nat_tests)
    by false h k e = ap (λ j. j + 1 == 1) (sym e ∙ none_counted n names h)

-- one more label
pub counted_more : (names : List Text) (x : Text) (f g : Text → Option Bool) (is_new : Bool) →
    ((n : Text) → f n ≡ told (has n names) (count_by (bytes_eq n) names)) → is_new ≡ not (has x names) → ((n : Text) → g n ≡ cond (bytes_eq x n) (Some is_new) (f n)) →
    (n : Text) → g n ≡ told (has n (names ++ x ∷ [])) (count_by (bytes_eq n) (names ++ x ∷ []))
counted_more names x f g is_new is e new n =
    new n ∙ by (bytes_eq x n) (bytes_eq n x) refl refl ∙ sym (ap (λ b. told b (count_by (bytes_eq n) (names ++ x ∷ []))) (has_more n x names))
  where
    all : count_by (bytes_eq n) (names ++ x ∷ []) ≡ count_by (bytes_eq n) names + cond (bytes_eq n x) 1 0
    all = count_more n x names

    no_more : (k : ℕ) → k + 0 ≡ k
    no_more k = omega arith

    by : (a b : Bool) → bytes_eq x n ≡ a → bytes_eq n x ≡ b → cond a (Some is_new) (f n) ≡ told (has n names || (b || false)) (count_by (bytes_eq n) (names ++ x ∷ []))
    by true true p q =
        ap Some (e ∙ ap (λ m. not (has m names)) ((bytes_eq-Decides x n).0 p) ∙ sym (first_time n names) ∙ ap (λ k. k == 1) (sym (all ∙ ap (λ b. count_by (bytes_eq n) names + cond b 1 0) q)))
        ∙ sym (ap (λ b. told b (count_by (bytes_eq n) (names ++ x ∷ []))) (or_true (has n names)))
    by true false p q = false_true (sym q ∙ (bytes_eq-Decides n x).1 (sym ((bytes_eq-Decides x n).0 p)))
    by false true p q = false_true (sym p ∙ (bytes_eq-Decides x n).1 (sym ((bytes_eq-Decides n x).0 q)))
    by false false p q =
        is n ∙ ap (told (has n names)) (sym (all ∙ ap (λ b. count_by (bytes_eq n) names + cond b 1 0) q ∙ no_more (count_by (bytes_eq n) names)))
        ∙ ap (λ b. told b (count_by (bytes_eq n) (names ++ x ∷ []))) (or_false (has n names))

-- what the map tells of a name
pub told_once : (n : Text) (names : List Text) (b : Bool) → Some b ≡ told (has n names) (count_by (bytes_eq n) names) → b ≡ stands_once n names
told_once n names b h = by (has n names) h
  where
    by : (c : Bool) → Some b ≡ told c (count_by (bytes_eq n) names) → b ≡ stands_once n names
    by true k = ap (λ o. unwrap_or o false) k
    by false k = absurd (cc)

pub told_none : (n : Text) (names : List Text) → None ≡ told (has n names) (count_by (bytes_eq n) names) → false ≡ stands_once n names
told_none n names h = sym (absent n names (by (has n names) h))
  where
    by : (c : Bool) → None ≡ told c (count_by (bytes_eq n) names) → c ≡ false
    by true k = absurd (cc)
    by false k = refl

-- the labels of one more axiom
pub labels_more : (axioms : List RewriteAxiom) (i : ℕ) (a : RewriteAxiom) → i < length axioms → a ≡ get_or axioms i a →
    labels_of (axioms_view (take (i + 1) axioms)) ≡ labels_of (axioms_view (take i axioms)) ++ labels_of (axiom_view a ∷ [])
labels_more axioms i a h e =
    let more : i + 1 ≡ suc i = omega arith in
    ap (λ k. labels_of (axioms_view (take k axioms))) more
    ∙ ap (λ l. labels_of (axioms_view l)) (take-suc axioms i a h)
    ∙ ap labels_of (map-append axiom_view (take i axioms) (get_or axioms i a ∷ []))
    ∙ filter_map-append (λ x. label_of x.axiom_of) (axioms_view (take i axioms)) (axiom_view (get_or axioms i a) ∷ [])
    ∙ ap (λ x. labels_of (axioms_view (take i axioms)) ++ labels_of (axiom_view x ∷ [])) (sym e)

pub is_known : (n : Text) (names : List Text) (o : Option Bool) → o ≡ told (has n names) (count_by (bytes_eq n) names) → is_some o ≡ has n names
is_known n names o h = ap is_some h ∙ by (has n names) (count_by (bytes_eq n) names)
  where
    by : (b : Bool) (k : ℕ) → is_some (told b k) ≡ b
    by true k = refl
    by false k = refl

-- ---- what a rule is called

-- by its label, where that stands once
pub label_names : (names : List Text) (a : NumberedAxiom) (label : Option Text) (x : Text) → label ≡ label_of a.axiom_of → label ≡ Some x → true ≡ stands_once x names → x ≡ rule_id names a
label_names names a label x e is once = rw (sym e ∙ is) (rw (sym once) refl)

-- by its number, where its label stands more often
pub number_names : (names : List Text) (a : NumberedAxiom) (label : Option Text) (x n : Text) → label ≡ label_of a.axiom_of → label ≡ Some x → false ≡ stands_once x names → n ≡ a.key ++ codes "#" ++ decimal a.number → n ≡ rule_id names a
number_names names a label x n e is often by_number = rw (sym e ∙ is) (rw (sym often) by_number)

-- a name that is shared once more
pub shared_name : {X E : Type 0} (r : Result X E) (P Q : X → Type 0) (R : E → Type 0) → MatchResult r P R → ((x : X) → P x → Q x) → IfOk r Q
shared_name (Ok x) P Q R h k = k x h
shared_name (Err e) P Q R h k = tt
