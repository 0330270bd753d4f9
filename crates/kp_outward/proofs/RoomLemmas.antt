-- What was written for clauses had room for new names.
use Rattle.std.proofs.Common.{◌≡◌, sym, ap, ◌∙◌, subst, ℕ, ◌+◌, ◌<◌, ◌≤◌, List, [], ◌∷◌, ◌++◌, map, length, get_or, drop}
use Rattle.std.specs.Prelude.{Result, Ok, Err, OnOk}
use Rattle.std.specs.List.{AllByRecursion}
use Rattle.std.proofs.lemmas.List.{drop_more, drop_all, map-append, append_assoc, append-nil}
use Rattle.kp_kore.specs.Syntax.{KorePattern}
use Rattle.kp_kore.specs.Signature.{KoreSignature}
use Rattle.kp_symbolic_laws.specs.Runs.{HasRoomAtom, HasRoomClause}
use Rattle.kp_symbolic.specs.View.{literal_view, clause_view, clauses_view}
use Rattle.kp_symbolic.specs.declared.clause.Clause.{Clause}
use Rattle.kp_symbolic.specs.declared.clause.Literal.{Literal}

-- what holds of all if it holds of the rest holds of all if it holds of the rest behind one more
pub all_further : {X : Type 0} (P : X → Type 0) (i : ℕ) (xs : List X) (x : X) → i < length xs → x ≡ get_or xs i x → P x → (AllByRecursion P (drop i xs) → AllByRecursion P xs) → AllByRecursion P (drop (i + 1) xs) → AllByRecursion P xs
all_further P i xs x h e r f = λ a. f (subst (AllByRecursion P) (sym (drop_more xs i x h ∙ ap (λ y. y ∷ drop (i + 1) xs) (sym e))) (r, a))

pub all_done : {X : Type 0} (P : X → Type 0) (i : ℕ) (xs : List X) → length xs ≤ i → (AllByRecursion P (drop i xs) → AllByRecursion P xs) → AllByRecursion P xs
all_done P i xs h f = f (subst (AllByRecursion P) (sym (drop_all i xs h)) tt)

-- what is written for the members so far, and for the others
pub written_further : {A L X : Type 0} (seen : X → KorePattern) (w : L → KorePattern) (v : A → L) (i : ℕ) (xs : List A) (x : A) (found new : List X) (q : X) → i < length xs → x ≡ get_or xs i x → new ≡ found ++ q ∷ [] → seen q ≡ w (v x) →
    map seen found ++ map w (map v (drop i xs)) ≡ map w (map v xs) → map seen new ++ map w (map v (drop (i + 1) xs)) ≡ map w (map v xs)
written_further seen w v i xs x found new q h is pushed written all =
    let rest = map w (map v (drop (i + 1) xs)) in
    ap (λ qs. map seen qs ++ rest) pushed
    ∙ ap (λ ps. ps ++ rest) (map-append seen found (q ∷ []))
    ∙ append_assoc (map seen found) (seen q ∷ []) rest
    ∙ ap (λ z. map seen found ++ z ∷ rest) written
    ∙ sym (ap (λ ys. map seen found ++ map w (map v ys)) (drop_more xs i x h ∙ ap (λ y. y ∷ drop (i + 1) xs) (sym is)))
    ∙ all

pub written_all : {A L X : Type 0} (seen : X → KorePattern) (w : L → KorePattern) (v : A → L) (i : ℕ) (xs : List A) (found : List X) (all : List KorePattern) → length xs ≤ i → map seen found ++ map w (map v (drop i xs)) ≡ all → map seen found ≡ all
written_all seen w v i xs found all h e = sym (append-nil (map seen found)) ∙ sym (ap (λ ys. map seen found ++ map w (map v ys)) (drop_all i xs h)) ∙ e

pub on_ok : {R E : Type 0} {P Q : Type 0} (r : Result R E) → (P → Q) → OnOk r P → OnOk r Q
on_ok (Ok x) f p = f p
on_ok (Err e) f p = tt

pub ok_always : {R E : Type 0} {P : Type 0} (r : Result R E) → P → OnOk r P
ok_always (Ok x) p = p
ok_always (Err e) p = tt

-- ---- literals

abbrev pub HasRoomLiteral : KoreSignature → Literal → Type 0
HasRoomLiteral g l = HasRoomAtom g (literal_view l).atom

pub clause_room : (g : KoreSignature) (ls : List Literal) → AllByRecursion (HasRoomLiteral g) ls → HasRoomClause g (map literal_view ls)
clause_room g [] a = tt
clause_room g (l ∷ ls) a = (a.0, clause_room g ls a.1)

pub none_room : (g : KoreSignature) (ls : List Literal) → length ls ≡ 0 → AllByRecursion (HasRoomLiteral g) ls
none_room g [] e = tt
none_room g (l ∷ ls) e = absurd (cc)

pub one_room : (g : KoreSignature) (ls : List Literal) (l : Literal) → length ls ≡ 1 → l ≡ get_or ls 0 l → HasRoomLiteral g l → AllByRecursion (HasRoomLiteral g) ls
one_room g [] l n is h = tt
one_room g (k ∷ []) l n is h = (subst (HasRoomLiteral g) is h, tt)
one_room g (k ∷ m ∷ ls) l n is h = absurd (cc)

abbrev pub HasRoomCodeClause : KoreSignature → Clause → Type 0
HasRoomCodeClause g c = HasRoomClause g (clause_view c)

pub clauses_room : (g : KoreSignature) (cs : List Clause) → AllByRecursion (HasRoomCodeClause g) cs → AllByRecursion (HasRoomClause g) (clauses_view cs)
clauses_room g [] a = tt
clauses_room g (c ∷ cs) a = (a.0, clauses_room g cs a.1)
