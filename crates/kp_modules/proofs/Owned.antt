-- The rules of modules at places, and what a name of the opening means.
use Rattle.std.proofs.Common.{◌≡◌, refl, sym, ap, subst, ◌∙◌, ℕ, suc, Bool, true, false, cond, List, [], ◌∷◌, ◌++◌, length, map, take, drop, slice_get, Option, Some, None}
use Rattle.std.specs.List.{AllZip}
use Rattle.std.proofs.lemmas.Grind.{flat_map-append}
use Rattle.std.proofs.lemmas.List.{append-nil}
use Rattle.std.proofs.lemmas.Slice.Zip.{AllZip-long}
use Rattle.kp_kore.specs.Syntax.{Text, KoreModule}
use Rattle.kp_kore.specs.Signature.{KoreSignature}
use Rattle.kp_kore.specs.Theory.{NumberedAxiom, modules_reached, rewrite_axioms}
use Rattle.kp_rule_sets.specs.declared.rule_set.RuleSet.{RuleSet}
use Rattle.kp_book.specs.Books.{Opening, rules_in}
use Rattle.kp_modules.specs.Keeping.{own_axioms, own_rules}
use Rattle.kp_modules.specs.Made.{IsSetOf}
use Rattle.kp_imports.specs.Names.{names_of}
use Rattle.kp_modules.specs.Openings.{IsTableOf}
use Rattle.kp_imports.specs.Reaching.{has}
use Rattle.kp_modules.specs.Tables.{rule_set_of}
use Rattle.kp_modules.specs.declared.table.ModuleTable.{ModuleTable}
use Rattle.kp_modules.proofs.Kept.{axioms_parted}
use Rattle.kp_modules.proofs.Opened.{bound_where}
use Rattle.kp_imports.proofs.Walking.{some_same}
use Rattle.kp_modules.specs.Extending.{IsTakenFrom}
use Rattle.kp_modules.proofs.Taken.{of_set}

-- ---- parts of two lists of one length

module _ {A B : Type 0} (R : A → B → Type 0) where
  zip_front : (ys zs : List A) (rs : List B) → AllZip R (ys ++ zs) rs → AllZip R ys (take (length ys) rs)
  zip_front [] zs rs h = tt
  zip_front (y ∷ ys) zs [] h = absurd h
  zip_front (y ∷ ys) zs (r ∷ rs) h = (h.0, zip_front ys zs rs h.1)

  zip_middle : (xs ys zs : List A) (rs : List B) → AllZip R (xs ++ (ys ++ zs)) rs → AllZip R ys (take (length ys) (drop (length xs) rs))
  zip_middle [] ys zs rs h = zip_front ys zs rs h
  zip_middle (x ∷ xs) ys zs [] h = absurd h
  zip_middle (x ∷ xs) ys zs (r ∷ rs) h = zip_middle xs ys zs rs h.1

pub own_taken : (g : KoreSignature) (ms : List KoreModule) (place : ℕ) (m : KoreModule) (rules : RuleSet) → IsSetOf g (rewrite_axioms ms) rules → slice_get ms place ≡ Some m →
    AllZip (IsTakenFrom g) (own_axioms m) (own_rules ms place m rules.rules.items)
own_taken g ms place m rules set at =
    zip_middle (IsTakenFrom g) (rewrite_axioms (take place ms)) (own_axioms m) (rewrite_axioms (drop (suc place) ms)) rules.rules.items
    (subst (λ l. AllZip (IsTakenFrom g) l rules.rules.items) (axioms_parted ms place m at) (of_set g (rewrite_axioms ms) rules set))

pub as_many : (g : KoreSignature) (axioms : List NumberedAxiom) (rules : RuleSet) → IsSetOf g axioms rules → length rules.rules.items ≡ length axioms
as_many g axioms rules set = AllZip-long (IsTakenFrom g) axioms rules.rules.items (of_set g axioms rules set)

-- ---- modules at places

abbrev first_of : {A : Type 0} → A → List A → A
first_of d [] = d
first_of d (x ∷ xs) = x

abbrev rest_of : {A : Type 0} → List A → List A
rest_of [] = []
rest_of (x ∷ xs) = xs

pub each_at : (f : ℕ → Option KoreModule) (ms : List KoreModule) (places : List ℕ) → map f places ≡ map Some ms → AllZip (λ m p. f p ≡ Some m) ms places
each_at f [] [] e = tt
each_at f [] (p ∷ ps) e = absurd (cc)
each_at f (m ∷ ms) [] e = absurd (cc)
each_at f (m ∷ ms) (p ∷ ps) e = (ap (first_of (Some m)) e, each_at f ms ps (ap rest_of e))

pub axioms_further : (ms more : List KoreModule) (m : KoreModule) → more ≡ ms ++ m ∷ [] → rewrite_axioms ms ++ own_axioms m ≡ rewrite_axioms more
axioms_further ms more m e = sym (ap rewrite_axioms e ∙ flat_map-append own_axioms ms (m ∷ []) ∙ ap (λ l. rewrite_axioms ms ++ l) (append-nil (own_axioms m)))

-- ---- names of the opening

pub bound_as : (o : Opening) (t : ModuleTable) (is : IsTableOf o t) (n : Text) (b : Bool) → has n (names_of (modules_reached is.definition o.main)) ≡ b →
    rules_in o.modules n ≡ cond b (Some (rewrite_axioms (modules_reached is.definition n))) None
bound_as o t is n b e =
    ap (λ ms. rules_in ms n) is.modules
    ∙ bound_where is.definition (modules_reached is.definition o.main) n
    ∙ ap (λ c. cond c (Some (rewrite_axioms (modules_reached is.definition n))) None) e

pub main_set : (o : Opening) (t : ModuleTable) (is : IsTableOf o t) → IsSetOf o.signature (rewrite_axioms (modules_reached is.definition o.main)) (rule_set_of t)
main_set o t is = by (has o.main (names_of (modules_reached is.definition o.main))) refl
  where
    all : List NumberedAxiom
    all = rewrite_axioms (modules_reached is.definition o.main)

    by : (b : Bool) → has o.main (names_of (modules_reached is.definition o.main)) ≡ b → IsSetOf o.signature all (rule_set_of t)
    by true e = subst (λ l. IsSetOf o.signature l (rule_set_of t)) (some_same is.axioms all (sym is.bound ∙ bound_as o t is o.main true e)) is.rules
    by false e = absurd (nothing (sym (bound_as o t is o.main false e) ∙ is.bound))
      where
        nothing : ◌≡◌ {A = Option (List NumberedAxiom)} None (Some is.axioms) → ⊥
        nothing h = absurd (cc)
