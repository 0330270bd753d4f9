-- Parts that have new variables, and more in parts of them.
use Rattle.std.proofs.Common.{◌≡◌, refl, sym, ◌∙◌, ap, subst, Bool, true, false, ◌||◌, List, [], ◌∷◌, ◌++◌}
use Rattle.std.specs.Str.{bytes_eq}
use Rattle.std.proofs.lemmas.List.{append_assoc, append-nil}
use Rattle.kp_kore.specs.Syntax.{Text}
use Rattle.kp_kore.specs.Parts.{SortedName}
use Rattle.kp_kore.specs.Signature.{KoreSignature}
use Rattle.kp_kore.specs.Instance.{is_named}
use Rattle.kp_kore.proofs.NameLemmas.{first_false, second_false}
use Rattle.kp_symbolic.proofs.Distribution.{all_both}
use Rattle.kp_symbolic.proofs.Agreeing.{turned}
use Rattle.kp_case_laws.specs.Parts.{StatePart, AreNew, IsNewVariable, IsGrown}

both_false : (a b : Bool) → a ≡ false → b ≡ false → a || b ≡ false
both_false true b e f = absurd (cc)
both_false false b e f = f

not_in_both : (x : Text) (ys zs : List SortedName) → is_named x ys ≡ false → is_named x zs ≡ false → is_named x (ys ++ zs) ≡ false
not_in_both x [] zs e f = f
not_in_both x (y ∷ ys) zs e f = both_false (bytes_eq y.name x) (is_named x (ys ++ zs)) (first_false (bytes_eq y.name x) (is_named x ys) e) (not_in_both x ys zs (second_false (bytes_eq y.name x) (is_named x ys) e) f)

other_than_member : (x : Text) (xs : List SortedName) (y : SortedName) (ys : List SortedName) → is_named x (xs ++ y ∷ ys) ≡ false → bytes_eq y.name x ≡ false
other_than_member x [] y ys e = first_false (bytes_eq y.name x) (is_named x ys) e
other_than_member x (z ∷ xs) y ys e = other_than_member x xs y ys (second_false (bytes_eq z.name x) (is_named x (xs ++ y ∷ ys)) e)

without_member : (x : Text) (xs : List SortedName) (y : SortedName) (ys : List SortedName) → is_named x (xs ++ y ∷ ys) ≡ false → is_named x (xs ++ ys) ≡ false
without_member x [] y ys e = second_false (bytes_eq y.name x) (is_named x ys) e
without_member x (z ∷ xs) y ys e = both_false (bytes_eq z.name x) (is_named x (xs ++ ys)) (first_false (bytes_eq z.name x) (is_named x (xs ++ y ∷ ys)) e) (without_member x xs y ys (second_false (bytes_eq z.name x) (is_named x (xs ++ y ∷ ys)) e))

not_among_new : (xs : List SortedName) (y : SortedName) (ys new : List SortedName) → AreNew (xs ++ y ∷ ys) new → is_named y.name new ≡ false
not_among_new xs y ys [] a = refl
not_among_new xs y ys (z ∷ new) a = both_false (bytes_eq z.name y.name) (is_named y.name new) (turned y.name z.name (other_than_member z.name xs y ys a.0)) (not_among_new xs y ys new a.2)

still_new : (xs : List SortedName) (y : SortedName) (ys new : List SortedName) → AreNew (xs ++ y ∷ ys) new → AreNew (xs ++ ys) new
still_new xs y ys [] a = tt
still_new xs y ys (z ∷ new) a = (without_member z.name xs y ys a.0, a.1, still_new xs y ys new a.2)

pub new_further : (scope new more : List SortedName) → AreNew scope new → AreNew (scope ++ new) more → AreNew scope (new ++ more)
new_further scope [] more a b = subst (λ xs. AreNew xs more) (append-nil scope) b
new_further scope (y ∷ new) more a b = (a.0, not_in_both y.name new more a.1 (not_among_new scope y new more b), new_further scope new more a.2 (still_new scope y new more b))

pub grown_itself : (g : KoreSignature) (used : List Text) (p : StatePart) → IsGrown g used p p
grown_itself g used p = record { new = []; variables = sym (append-nil p.state.variables); are_new = tt; each = tt }

pub grown_further : (g : KoreSignature) (used : List Text) (p r q : StatePart) → IsGrown g used p r → IsGrown g used r q → IsGrown g used p q
grown_further g used p r q a b = record {
  new = a.new ++ b.new;
  variables = b.variables ∙ ap (λ xs. xs ++ b.new) a.variables ∙ append_assoc p.state.variables a.new b.new;
  are_new = new_further p.state.variables a.new b.new a.are_new (subst (λ xs. AreNew xs b.new) a.variables b.are_new);
  each = all_both (IsNewVariable g used) a.new b.new a.each b.each;
}
