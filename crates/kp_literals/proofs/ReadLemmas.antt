-- Clauses read one after another.
use Rattle.std.proofs.Common.{◌≡◌, refl, sym, ap, ◌∙◌, ℕ, ◌+◌, ◌<◌, List, [], ◌∷◌, ◌++◌, map, take, drop, length, get_or}
use Rattle.std.proofs.lemmas.List.{take_more, drop_more}
use Rattle.kp_kore.specs.Signature.{KoreSignature}
use Rattle.kp_symbolic.specs.States.{Literal, SymbolicState}
use Rattle.kp_symbolic.specs.Plain.{ReadLiteral, form_of, read_clause, read_from}
use Rattle.kp_symbolic.specs.View.{literal_view, clause_view, clauses_view}
use Rattle.kp_symbolic.specs.declared.clause.Clause.{Clause}
use Rattle.kp_symbolic.specs.declared.clause.Literal.{Literal as Written}
use Rattle.kp_literals.specs.Each.{read_literal}

behind : {X : Type 0} (xs ys zs : List X) → (xs ++ ys) ++ zs ≡ xs ++ (ys ++ zs)
behind [] ys zs = refl
behind (x ∷ xs) ys zs = ap (λ l. x ∷ l) (behind xs ys zs)

pub none_behind : {X : Type 0} (xs : List X) → xs ++ [] ≡ xs
none_behind [] = refl
none_behind (x ∷ xs) = ap (λ l. x ∷ l) (none_behind xs)

seen_both : (cs ds : List Clause) → clauses_view (cs ++ ds) ≡ clauses_view cs ++ clauses_view ds
seen_both [] ds = refl
seen_both (c ∷ cs) ds = ap (λ l. clause_view c ∷ l) (seen_both cs ds)

pub read_more : (g : KoreSignature) (s : SymbolicState) (cs : List Clause) (i : ℕ) (c : Clause) (found all : List (List ReadLiteral)) (r : List ReadLiteral) → i < length cs → c ≡ get_or cs i c →
    r ≡ read_clause g s (clauses_view (take i cs) ++ clauses_view (drop (i + 1) cs)) (clause_view c) →
    found ++ read_from g s (clauses_view (take i cs)) (clauses_view (drop i cs)) ≡ all →
    (found ++ r ∷ []) ++ read_from g s (clauses_view (take (i + 1) cs)) (clauses_view (drop (i + 1) cs)) ≡ all
read_more g s cs i c found all r h e is left = behind found (r ∷ []) rest
    ∙ ap (λ l. found ++ l ∷ rest) is
    ∙ ap (λ bs. found ++ read_clause g s (before ++ after) (clause_view c) ∷ read_from g s bs after) (ap clauses_view (take_more cs i c h ∙ ap (λ d. take i cs ++ d ∷ []) (sym e)) ∙ seen_both (take i cs) (c ∷ []))
    ∙ ap (λ ds. found ++ read_from g s before (clauses_view ds)) (sym (drop_more cs i c h ∙ ap (λ d. d ∷ drop (i + 1) cs) (sym e)))
    ∙ left
  where
    before : List (List Literal)
    before = clauses_view (take i cs)

    after : List (List Literal)
    after = clauses_view (drop (i + 1) cs)

    rest : List (List ReadLiteral)
    rest = read_from g s (clauses_view (take (i + 1) cs)) after

-- a clause of other than one literal is read literal by literal
pub not_alone : (g : KoreSignature) (s : SymbolicState) (others : List (List Literal)) (ls : List Written) → (length ls ≡ 1 → ⊥) → map (λ l. read_literal l (form_of g l)) (map literal_view ls) ≡ read_clause g s others (map literal_view ls)
not_alone g s others [] n = refl
not_alone g s others (l ∷ []) n = absurd (n refl)
not_alone g s others (l ∷ m ∷ ls) n = refl
