-- What the main module's axioms mean: one theory, whatever book was seen.
use Rattle.std.proofs.Common.{◌≡◌, Bool, true, false, List, [], ◌∷◌, Option, Some, None, cond, refl, sym, ap, subst, ◌∙◌}
use Rattle.std.proofs.lemmas.Slice.Eq.{bytes_eq-Decides}
use Rattle.std.specs.List.{AllZip}
use Rattle.std.specs.Str.{bytes_eq}
use Rattle.kp_kore.specs.Syntax.{Text, KoreModule, KoreDefinition}
use Rattle.kp_kore.specs.Signature.{KoreSignature}
use Rattle.kp_kore.specs.Theory.{Theory, NumberedAxiom, IsRuleOf, IsTheoryOfAxioms, labels_of, modules_reached, rewrite_axioms}
use Rattle.kp_kore.proofs.ClaimTheories.{rules_same}
use Rattle.kp_book.specs.Books.{Opening, Registration, rules_in, first_of, rules_bound, meaning_in}
use Rattle.kp_modules.specs.Openings as openings
use Rattle.kp_modules.specs.Openings.{bound_in, opening_of}
use Rattle.kp_modules.specs.declared.table.ModuleTable.{ModuleTable}
use Rattle.kp_replies.specs.RightReplies.{IsMainAsked}
use Rattle.kp_methods.specs.ServedTheory.{ServedTheory, IsServedTheory}
use Rattle.kp_service.specs.Meant.{module_asked, IsServedAt}
use Rattle.kp_program.specs.Proofs.{IsMainTheory}

from_some : {A : Type 0} (x y : A) → Some x ≡ Some y → x ≡ y
from_some x y e = cc e

-- ---- one theory

theory_same : (g : KoreSignature) (axioms : List NumberedAxiom) (t u : Theory) → IsTheoryOfAxioms g axioms t → IsTheoryOfAxioms g axioms u → t ≡ u
theory_same g axioms t u h k =
    let signatures : t.signature ≡ u.signature = h.signature ∙ sym k.signature in
    let rules : t.rules ≡ u.rules = rules_same g (labels_of axioms) axioms t.rules u.rules h.rules k.rules in
    λ i. record { signature = signatures i; rules = rules i }

-- ---- at any book

main_named : (o : Opening) (asked : Option Text) → IsMainAsked o.main asked → module_asked o asked ≡ o.main
main_named o None main = refl
main_named o (Some n) main = main

meant : (o : Opening) (book : List Registration) (axioms : List NumberedAxiom) → rules_in o.modules o.main ≡ Some axioms → meaning_in o book o.main ≡ Some axioms
meant o book axioms bound = ap (λ x. first_of x (rules_bound book o.main)) bound

-- what is served where main is asked is the main module's theory
pub served_main : (o : Opening) (t : Theory) (book : List Registration) (asked : Option Text) (s : ServedTheory) → IsMainTheory o t → IsMainAsked o.main asked → IsServedAt o book asked s → s.theory ≡ t
served_main o t book asked s is main served =
    let named : meaning_in o book o.main ≡ Some served.axioms = ap (meaning_in o book) (sym (main_named o asked main)) ∙ served.bound in
    let same : served.axioms ≡ is.axioms = from_some served.axioms is.axioms (sym named ∙ meant o book is.axioms is.bound) in
    theory_same o.signature is.axioms s.theory t (subst (λ (a : List NumberedAxiom). IsTheoryOfAxioms o.signature a s.theory) same served.means) is.means

-- ---- of a definition

bound_here : (d : KoreDefinition) (name : Text) (axioms : List NumberedAxiom) (m : KoreModule) (b : Bool) (more : Option (List NumberedAxiom)) → bytes_eq name m.name ≡ b
    → (more ≡ Some axioms → axioms ≡ rewrite_axioms (modules_reached d name)) → cond b (Some (rewrite_axioms (modules_reached d m.name))) more ≡ Some axioms → axioms ≡ rewrite_axioms (modules_reached d name)
bound_here d name axioms m true more is later e =
    sym (from_some (rewrite_axioms (modules_reached d m.name)) axioms e) ∙ ap (λ n. rewrite_axioms (modules_reached d n)) (sym ((bytes_eq-Decides name m.name).0 is))
bound_here d name axioms m false more is later e = later e

bound_axioms : (d : KoreDefinition) (name : Text) (axioms : List NumberedAxiom) (ms : List KoreModule) → rules_in (bound_in d ms) name ≡ Some axioms → axioms ≡ rewrite_axioms (modules_reached d name)
bound_axioms d name axioms [] e = absurd (cc e)
bound_axioms d name axioms (m ∷ ms) e = bound_here d name axioms m (bytes_eq name m.name) (rules_in (bound_in d ms) name) refl (bound_axioms d name axioms ms) e

pub main_theory : (d : KoreDefinition) (main : Text) (s : ServedTheory) (table : ModuleTable) → IsServedTheory d main s → openings.IsTableOf (opening_of d main) table → IsMainTheory (opening_of d main) s.theory
main_theory d main s table is opens =
    let same = bound_axioms d main opens.axioms (modules_reached d main) opens.bound in
    let rules = subst (λ (h : KoreSignature). AllZip (IsRuleOf h (labels_of (rewrite_axioms (modules_reached d main)))) (rewrite_axioms (modules_reached d main)) s.theory.rules) is.means.signature is.means.rules in
    record {
      axioms = opens.axioms;
      bound = opens.bound;
      means = record {
        signature = is.means.signature;
        rules = subst (λ (a : List NumberedAxiom). AllZip (IsRuleOf (opening_of d main).signature (labels_of a)) a s.theory.rules) (sym same) rules;
      };
    }
