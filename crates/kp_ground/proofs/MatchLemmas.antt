-- What bindings allow, and what matches answer.
use Rattle.std.proofs.Common.{◌≡◌, refl, sym, ◌∙◌, subst, ap, ap₂, ◌↔◌, ℕ, zero, suc, ◌<◌, ◌≤◌, List, [], ◌∷◌, ◌++◌, map, take, length, get_or, ◌+◌, add-one, arith}
use Rattle.std.specs.Prelude.{◌≢◌, Bool, true, false, string_bytes, MatchOption, Option, Some, None, Ok, Vec}
use Rattle.std.specs.declared.alloc.Global.{Global}
use Rattle.std.specs.declared.alloc.AllocError.{AllocError}
use Rattle.std.specs.List.{AllByRecursion}
use Rattle.std.specs.Str.{bytes_eq}
use Rattle.std.proofs.lemmas.Slice.Eq.{bytes_eq-Decides}
use Rattle.kp_kore.specs.Value as model
use Rattle.kp_kore.specs.Instance.{Valuation, assigned}
use Rattle.kp_ground.specs.Solves.{Solves}
use Rattle.kp_kore.specs.Syntax.{Text}
use Rattle.kp_kore.specs.Value.{constructed, Values, next_value}
use Rattle.kp_ground.specs.Terms.{left_value, left_values, left_built}
use Rattle.kp_ground.specs.LeftView.{left_view, lefts_of}
use Rattle.kp_ground.specs.View.{value_view, values_of}
use Rattle.kp_ground.specs.declared.left_side.CompiledLeft.{CompiledLeft}
use Rattle.kp_ground.specs.declared.value.Value.{Value}
use Rattle.kp_ground.proofs.ValueLists.{same_values}
use Rattle.kp_ground.specs.Matches.{Matches, IsSolvable, StaysSolvable, IsSame, AreSame}
use Rattle.kp_ground.specs.declared.binding.Binding.{Binding}

-- what holds of each member and of one more
pub AllByRecursion-push : {X : Type 0} (P : X → Type 0) (xs : List X) (x : X) → AllByRecursion P (xs ++ x ∷ []) ↔ (AllByRecursion P xs × P x)
AllByRecursion-push P [] x = ((λ h. (tt, h.0)), (λ h. (h.1, tt)))
AllByRecursion-push P (y ∷ ys) x = (
  (λ h. let r = (AllByRecursion-push P ys x).0 h.1 in ((h.0, r.0), r.1)),
  (λ h. (h.0.0, (AllByRecursion-push P ys x).1 (h.0.1, h.1))),
)

-- a test that keeps the bindings decides a match
pub matches_kept : (r : Option (Vec Binding Global)) (old : List Binding) (P : Type 0) (Same : Valuation → Type 0) → MatchOption r (¬ P) (λ kept. (kept.items ≡ old) × P) → ((v : Valuation) → Solves v old → Same v ↔ P) → Matches {E = AllocError} (Ok r) old Same
matches_kept None old P Same h e = λ v s same. h ((e v s).0 same)
matches_kept (Some kept) old P Same h e = λ v. (
  (λ s. let t : Solves v old = subst (Solves v) h.0 s in (t, (e v t).1 h.1)),
  (λ s. subst (Solves v) (sym h.0) s.0),
)

-- ---- lists that are the same, one by one

cons_inside : {C : Type 0} (a b : C) (l m : List C) → a ∷ l ≡ b ∷ m → (a ≡ b) × (l ≡ m)
cons_inside a b l m e = (cc, cc)

-- the fronts of i + 1 are the same exactly where those of i are and the members at i
pub same_front : {A B C : Type 0} (f : A → C) (g : B → C) (i : ℕ) (xs : List A) (ys : List B) (d : A) (e : B) → i < length xs → i < length ys →
    (map f (take (suc i) xs) ≡ map g (take (suc i) ys)) ↔ ((map f (take i xs) ≡ map g (take i ys)) × (f (get_or xs i d) ≡ g (get_or ys i e)))
same_front f g i [] ys d e h k = absurd (omega arith)
same_front f g i (x ∷ xs) [] d e h k = absurd (omega arith)
same_front f g zero (x ∷ xs) (y ∷ ys) d e h k = ((λ s. (refl, cc)), (λ p. ap (λ z. z ∷ []) p.1))
same_front f g (suc i) (x ∷ xs) (y ∷ ys) d e h k =
    let ih : (map f (take (suc i) xs) ≡ map g (take (suc i) ys)) ↔ ((map f (take i xs) ≡ map g (take i ys)) × (f (get_or xs i d) ≡ g (get_or ys i e))) = same_front f g i xs ys d e (omega arith) (omega arith) in (
      (λ s. let c : (f x ≡ g y) × (map f (take (suc i) xs) ≡ map g (take (suc i) ys)) = cons_inside (f x) (g y) _ _ s in
          let r : (map f (take i xs) ≡ map g (take i ys)) × (f (get_or xs i d) ≡ g (get_or ys i e)) = ih.0 c.1 in
          (ap₂ (λ a l. a ∷ l) c.0 r.0, r.1)),
      (λ p. let c : (f x ≡ g y) × (map f (take i xs) ≡ map g (take i ys)) = cons_inside (f x) (g y) _ _ p.0 in
          ap₂ (λ a l. a ∷ l) c.0 (ih.1 (c.1, p.1))),
    )

-- the same with i + 1
pub same_front_more : {A B C : Type 0} (f : A → C) (g : B → C) (i : ℕ) (xs : List A) (ys : List B) (x : A) (y : B) → i < length xs → i < length ys → x ≡ get_or xs i x → y ≡ get_or ys i y →
    (map f (take (i + 1) xs) ≡ map g (take (i + 1) ys)) ↔ ((map f (take i xs) ≡ map g (take i ys)) × (f x ≡ g y))
same_front_more f g i xs ys x y h k p q =
    let s : (map f (take (suc i) xs) ≡ map g (take (suc i) ys)) ↔ ((map f (take i xs) ≡ map g (take i ys)) × (f (get_or xs i x) ≡ g (get_or ys i y))) = same_front f g i xs ys x y h k in
    rw add-one (
      (λ e. let r : (map f (take i xs) ≡ map g (take i ys)) × (f (get_or xs i x) ≡ g (get_or ys i y)) = s.0 e in (r.0, ap f p ∙ r.1 ∙ sym (ap g q))),
      (λ r. s.1 (r.0, sym (ap f p) ∙ r.1 ∙ ap g q)),
    )

-- fronts of lists that are the same
pub front_of_same : {A B C : Type 0} (f : A → C) (g : B → C) (i : ℕ) (xs : List A) (ys : List B) → map f xs ≡ map g ys → map f (take i xs) ≡ map g (take i ys)
front_of_same f g zero xs ys e = refl
front_of_same f g (suc i) [] [] e = refl
front_of_same f g (suc i) [] (y ∷ ys) e = absurd (cc)
front_of_same f g (suc i) (x ∷ xs) [] e = absurd (cc)
front_of_same f g (suc i) (x ∷ xs) (y ∷ ys) e =
    let c : (f x ≡ g y) × (map f xs ≡ map g ys) = cons_inside (f x) (g y) _ _ e in
    ap₂ (λ a l. a ∷ l) c.0 (front_of_same f g i xs ys c.1)

-- one more member matched
pub one_more : {N B I F F' S S' : Type 0} → N ↔ (B × S) → B ↔ (I × F) → F' ↔ (F × S') → (S → S') → (S' → S) → N ↔ (I × F')
one_more p q r to back = (
  (λ n. let bs = p.0 n in let f = q.0 bs.0 in (f.0, r.1 (f.1, to bs.1))),
  (λ x. let fs = r.0 x.1 in p.1 (q.1 (x.0, fs.0), back fs.1)),
)

-- a match of what is the same
pub matches_same : (r : Option (Vec Binding Global)) (old : List Binding) (Same Same' : Valuation → Type 0) → ((v : Valuation) → Same v ↔ Same' v) → Matches {E = AllocError} (Ok r) old Same → Matches {E = AllocError} (Ok r) old Same'
matches_same None old Same Same' e m = λ v s same. m v s ((e v).1 same)
matches_same (Some new) old Same Same' e m = λ v. (
  (λ s. let r = (m v).0 s in (r.0, (e v).0 r.1)),
  (λ p. (m v).1 (p.0, (e v).1 p.1)),
)

-- ---- constructors

pub left_values-lefts_of : (v : Valuation) (ts : List CompiledLeft) → left_values v (lefts_of (map left_view ts)) ≡ values_of (map (λ t. left_value v (left_view t)) ts)
left_values-lefts_of v [] = refl
left_values-lefts_of v (t ∷ ts) = ap (next_value (left_value v (left_view t))) (left_values-lefts_of v ts)

constructed_inside : (c d : Text) (us vs : Values) → constructed c us ≡ constructed d vs → us ≡ vs
constructed_inside c d us vs e = cc

-- the same constructor, and arguments one by one
pub same_arguments : (c d : Text) (ts : List CompiledLeft) (us : List Value) → c ≡ d → (v : Valuation) → AreSame ts us v ↔ IsSame (left_built c (lefts_of (map left_view ts))) (constructed d (values_of (map value_view us))) v
same_arguments c d ts us e v = (
  (λ s. ap₂ constructed e (left_values-lefts_of v ts ∙ ap values_of s)),
  (λ s. same_values _ _ (sym (left_values-lefts_of v ts) ∙ constructed_inside c d _ _ s)),
)

-- lists whose whole fronts are the same
pub whole_of_front : {A B C : Type 0} (f : A → C) (g : B → C) (i : ℕ) (xs : List A) (ys : List B) → length xs ≤ i → length ys ≤ i → map f (take i xs) ≡ map g (take i ys) → map f xs ≡ map g ys
whole_of_front f g zero [] [] h k e = refl
whole_of_front f g zero [] (y ∷ ys) h k e = absurd (omega arith)
whole_of_front f g zero (x ∷ xs) ys h k e = absurd (omega arith)
whole_of_front f g (suc i) [] [] h k e = refl
whole_of_front f g (suc i) [] (y ∷ ys) h k e = absurd (cc)
whole_of_front f g (suc i) (x ∷ xs) [] h k e = absurd (cc)
whole_of_front f g (suc i) (x ∷ xs) (y ∷ ys) h k e =
    let c : (f x ≡ g y) × (map f (take i xs) ≡ map g (take i ys)) = cons_inside (f x) (g y) _ _ e in
    ap₂ (λ a l. a ∷ l) c.0 (whole_of_front f g i xs ys (omega arith) (omega arith) c.1)

-- ---- one more binding, of a name that isn't bound yet

true_false : true ≡ false → ⊥
true_false h = cc

assigned_elsewhere : (x y : Text) (u : model.Value) (v : Valuation) (b : Bool) → bytes_eq x y ≡ b → y ≢ x → assigned v x u y ≡ v y
assigned_elsewhere x y u v true e h = absurd (h (sym ((bytes_eq-Decides x y).0 e)))
assigned_elsewhere x y u v false e h = rw e refl

pub assigned_there : (x : Text) (u : model.Value) (v : Valuation) → assigned v x u x ≡ u
assigned_there x u v = rw ((bytes_eq-Decides x x).1 refl) refl

pub solved_elsewhere : (x : Text) (u : model.Value) (v : Valuation) (bs : List Binding) → AllByRecursion (λ b. string_bytes b.name.value ≢ x) bs → Solves v bs → Solves (assigned v x u) bs
solved_elsewhere x u v [] h s = tt
solved_elsewhere x u v (b ∷ bs) h s = (assigned_elsewhere x (string_bytes b.name.value) u v (bytes_eq x (string_bytes b.name.value)) refl h.0 ∙ s.0, solved_elsewhere x u v bs h.1 s.1)

-- where the new bindings are the old ones and x at u, they are solvable with the old
pub solvable_with : (x : Text) (u : model.Value) (old new : List Binding) → AllByRecursion (λ b. string_bytes b.name.value ≢ x) old →
    ((v : Valuation) → Solves v new ↔ (Solves v old × (v x ≡ u))) → IsSolvable old → IsSolvable new
solvable_with x u old new none same h =
    (assigned h.0 x u, (same (assigned h.0 x u)).1 (solved_elsewhere x u h.0 old none h.1, assigned_there x u h.0))

-- a test that keeps the bindings
pub kept_solvable : (r : Option (Vec Binding Global)) (old : List Binding) (P Q : Type 0) → MatchOption r P (λ kept. (kept.items ≡ old) × Q) → StaysSolvable {E = AllocError} (Ok r) old
kept_solvable None old P Q h = tt
kept_solvable (Some kept) old P Q h = λ s. subst IsSolvable (sym h.0) s
