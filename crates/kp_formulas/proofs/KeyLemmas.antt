-- Clauses that are the same have one key, so comparing keys first tells the same clauses apart.
use Rattle.std.proofs.Common.{◌≡◌, refl, sym, ap, ap₂, ◌∙◌, ℕ, nat_le, Bool, true, false, ◌&&◌, ◌||◌, List, [], ◌∷◌, ◌++◌, map}
use Rattle.std.specs.List.{list_any}
use Rattle.std.proofs.lemmas.Bool.Decides.{Decides-eqb}
use Rattle.std.proofs.lemmas.List.{map-append}
use Rattle.kp_symbolic.specs.Alike.{literals_same}
use Rattle.kp_symbolic.specs.Formulas.{clauses_same}
use Rattle.kp_symbolic.specs.States.{Literal}
use Rattle.kp_symbolic.specs.View.{clause_view}
use Rattle.kp_formulas.specs.Keys.{key_of, keys_same, clauses_with, keyed_same}
use Rattle.kp_formulas.specs.declared.keyed.Keyed.{Keyed}
use Rattle.kp_formulas.proofs.AlikeItself.{clauses_same-Decides}

-- each has the key of its clause
abbrev pub AreKeyed : List Keyed → Type 0
AreKeyed ks = map (λ k. k.key) ks ≡ map (λ k. key_of (clause_view k.clause)) ks

key_itself : (k : ℕ) → keys_same k k ≡ true
key_itself k = (Decides-eqb k k).1 refl

one_key : (c d : List Literal) → clauses_same literals_same c d ≡ true → keys_same (key_of c) (key_of d) ≡ true
one_key c d e = ap (λ x. keys_same (key_of c) (key_of x)) (sym ((clauses_same-Decides c d).0 e)) ∙ key_itself (key_of c)

told : (c d : List Literal) (j k : ℕ) → j ≡ key_of c → k ≡ key_of d → keys_same j k && clauses_same literals_same c d ≡ clauses_same literals_same c d
told c d j k p q = ap₂ (λ x y. keys_same x y && clauses_same literals_same c d) p q ∙ by (clauses_same literals_same c d) (keys_same (key_of c) (key_of d)) (one_key c d)
  where
    by : (a b : Bool) → (a ≡ true → b ≡ true) → b && a ≡ a
    by true b h = ap (λ x. x && true) (h refl)
    by false true h = refl
    by false false h = refl

first_is : {A : Type 0} (x y : A) (xs ys : List A) → x ∷ xs ≡ y ∷ ys → x ≡ y
first_is x y xs ys e = cc

rest_is : {A : Type 0} (x y : A) (xs ys : List A) → x ∷ xs ≡ y ∷ ys → xs ≡ ys
rest_is x y xs ys e = cc

-- comparing keys first tells the same
pub any_keyed : (k : Keyed) (ks : List Keyed) → k.key ≡ key_of (clause_view k.clause) → AreKeyed ks → list_any (keyed_same k) ks ≡ list_any (clauses_same literals_same (clause_view k.clause)) (clauses_with ks)
any_keyed k [] e h = refl
any_keyed k (o ∷ ks) e h =
    ap₂ (λ a b. a || b)
    (told (clause_view k.clause) (clause_view o.clause) k.key o.key e (first_is o.key (key_of (clause_view o.clause)) (map (λ x. x.key) ks) (map (λ x. key_of (clause_view x.clause)) ks) h))
    (any_keyed k ks e (rest_is o.key (key_of (clause_view o.clause)) (map (λ x. x.key) ks) (map (λ x. key_of (clause_view x.clause)) ks) h))

pub one_more_keyed : (kept more : List Keyed) (k : Keyed) → more ≡ kept ++ k ∷ [] → k.key ≡ key_of (clause_view k.clause) → AreKeyed kept → AreKeyed more
one_more_keyed kept more k is e h =
    ap (map (λ x. x.key)) is ∙ map-append (λ x. x.key) kept (k ∷ [])
    ∙ ap₂ (λ xs x. xs ++ x ∷ []) h e
    ∙ sym (map-append (λ x. key_of (clause_view x.clause)) kept (k ∷ [])) ∙ sym (ap (map (λ x. key_of (clause_view x.clause))) is)

pub repeat_keyed : (n : ℕ) (k : Keyed) (ks : List Keyed) → k.key ≡ key_of (clause_view k.clause) → AreKeyed ks → (nat_le n 4096 && list_any (keyed_same k) ks) ≡ (nat_le n 4096 && list_any (clauses_same literals_same (clause_view k.clause)) (clauses_with ks))
repeat_keyed n k ks e h = ap (λ b. nat_le n 4096 && b) (any_keyed k ks e h)
