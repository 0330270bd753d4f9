-- A legal book is known by its entries: by each one's text and whether its own name is bound.
use Rattle.std.proofs.Common.{◌≡◌, List, [], ◌∷◌, ◌++◌, Option, Some, refl, sym, ap, subst, ◌∙◌}
use Rattle.std.specs.List.{AllZip}
use Rattle.kp_kore.specs.Signature.{KoreSignature}
use Rattle.kp_kore.specs.Syntax.{KoreModule}
use Rattle.kp_kore.specs.Theory.{imports_in}
use Rattle.kp_text.specs.Spelling.{SpellsModule}
use Rattle.kp_text.proofs.CompleteModules.{one_module}
use Rattle.kp_book.specs.Books.{Opening, Registration, meaning_in, extended}
use Rattle.kp_registry.specs.Legal.{Fits, AreLegalFrom, IsLegal, id_of}
use Rattle.kp_registry.specs.Passes.{HasSeen}
use Rattle.kp_registry.specs.declared.seen.Entry.{Entry}

-- each name has one meaning
zip_one : {A B : Type 0} (f : A → Option B) (names : List A) (xs ys : List B) → AllZip (λ n x. f n ≡ Some x) names xs → AllZip (λ n x. f n ≡ Some x) names ys → xs ≡ ys
zip_one f [] [] [] p q = refl
zip_one f [] (x ∷ xs) ys p q = absurd p
zip_one f [] [] (y ∷ ys) p q = absurd q
zip_one f (n ∷ ns) [] ys p q = absurd p
zip_one f (n ∷ ns) (x ∷ xs) [] p q = absurd q
zip_one f (n ∷ ns) (x ∷ xs) (y ∷ ys) p q = let same : x ≡ y = cc (p.0, q.0) in let rest = zip_one f ns xs ys p.1 q.1 in λ i. same i ∷ rest i

-- what fits behind a book is known by its text and its own name
known_by_text : (o : Opening) (before : List Registration) (r s : Registration) → Fits o before r → Fits o before s → r.text ≡ s.text → r.also ≡ s.also → r ≡ s
known_by_text o before r s f g text also =
    let id : r.id ≡ s.id = f.is_id ∙ (ap id_of text ∙ sym g.is_id) in
    let spelled : f.spelled ≡ g.spelled = one_module s.text f.spelled g.spelled (subst (λ t. SpellsModule t f.spelled) text f.spells) g.spells in
    let imports : f.imports ≡ g.imports = zip_one (meaning_in o before) (imports_in g.spelled.sentences) f.imports g.imports
    (subst (λ (m : KoreModule). AllZip (λ name axioms. meaning_in o before name ≡ Some axioms) (imports_in m.sentences) f.imports) spelled f.bound) g.bound in
    let axioms : r.axioms ≡ s.axioms = f.axioms ∙ ((λ i. extended (imports i) (id i) (spelled i)) ∙ sym g.axioms) in
    λ i. record { text = text i; id = id i; also = also i; axioms = axioms i }

one_from : (o : Opening) (g : KoreSignature) (before book other : List Registration) (es : List Entry) → AreLegalFrom o before book → AreLegalFrom o before other → HasSeen g book es → HasSeen g other es → book ≡ other
one_from o g before [] [] es p q seen told = refl
one_from o g before [] (s ∷ ss) [] p q seen told = absurd told
one_from o g before [] (s ∷ ss) (e ∷ es) p q seen told = absurd seen
one_from o g before (r ∷ rs) [] [] p q seen told = absurd seen
one_from o g before (r ∷ rs) [] (e ∷ es) p q seen told = absurd told
one_from o g before (r ∷ rs) (s ∷ ss) [] p q seen told = absurd seen
one_from o g before (r ∷ rs) (s ∷ ss) (e ∷ es) p q seen told =
    let same : r ≡ s = known_by_text o before r s p.0 q.0 (sym seen.0.text ∙ told.0.text) (sym seen.0.also ∙ told.0.also) in
    let more = one_from o g (before ++ r ∷ []) rs ss es p.1 (subst (λ x. AreLegalFrom o (before ++ x ∷ []) ss) (sym same) q.1) seen.1 told.1 in
    λ i. same i ∷ more i

pub one_legal_book : (o : Opening) (book other : List Registration) (es : List Entry) → IsLegal o book → IsLegal o other → HasSeen o.signature book es → HasSeen o.signature other es → book ≡ other
one_legal_book o book other es p q seen told = one_from o o.signature [] book other es p.entries q.entries seen told
