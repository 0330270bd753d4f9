-- What a test decides is at hand, also where it is only known to be there.
use Rattle.std.proofs.Common.{◌≡◌, refl, sym, subst, ℕ, ◌<◌, inl, inr, Bool, true, false, ◌&&◌, ◌||◌, nat_eq, nat_lt, List, [], ◌∷◌, length, get_or, Contains, arith}
use Rattle.std.specs.Bool.{Decides}
use Rattle.std.specs.List.{list_any}
use Rattle.std.proofs.lemmas.Bool.{cases_Bool}
use Rattle.std.proofs.lemmas.Bool.Decides.{Decides-eqb, Decides-ltb, Decides-and}
use Rattle.std.proofs.lemmas.Grind.{not_there}
use Rattle.std.proofs.lemmas.List.Elements.{Contains-append_right}
use Rattle.kp_kore.specs.Syntax.{KoreSort}
use Rattle.kp_kore.specs.Attributes.{sorts_equal}
use Rattle.kp_kore.proofs.SameLemmas.{sorts_equal-Decides}
use Rattle.kp_signature.specs.Edges.{IsNumber}
use Rattle.kp_signature.proofs.Below.{first_or_other}
use Rattle.kp_signature.proofs.EdgeLemmas.{nothing_there}

-- a test decides it
pub record IsDecided (P : Type 0) : Type 0 where
  pub test : Bool
  pub decides : Decides test P

is_true_by : {A : Type 0} (t : Bool) → ∥ A ∥₁ → (A → t ≡ true) → t ≡ true
is_true_by t hidden so = elim (cases_Bool t) [ inl set ↦ set | inr unset ↦ absurd (not_there hidden (λ x. let e = so x in cc)) ]

-- what a hidden fact shows
pub out : {A P : Type 0} → IsDecided P → ∥ A ∥₁ → (A → P) → P
out d hidden so = d.decides.0 (is_true_by d.test hidden (λ x. d.decides.1 (so x)))

-- what a hidden fact refutes
pub refuted : {A P : Type 0} → ∥ A ∥₁ → (A → ⊥) → P
refuted hidden so = absurd (not_there hidden so)

-- ---- facts that are decided

pub like : {P Q : Type 0} → (P → Q) → (Q → P) → IsDecided P → IsDecided Q
like to from d = record {
  test = d.test;
  decides = (λ e. to (d.decides.0 e), λ q. d.decides.1 (from q));
}

pub both : {P Q : Type 0} → IsDecided P → IsDecided Q → IsDecided (P × Q)
both p q = record {
  test = p.test && q.test;
  decides = Decides-and p.test q.test p.decides q.decides;
}

pub same_number : (i j : ℕ) → IsDecided (i ≡ j)
same_number i j = record {
  test = nat_eq i j;
  decides = Decides-eqb i j;
}

pub less : (i j : ℕ) → IsDecided (i < j)
less i j = record {
  test = nat_lt i j;
  decides = Decides-ltb i j;
}

pub same_sort : (a b : KoreSort) → IsDecided (a ≡ b)
same_sort a b = record {
  test = sorts_equal a b;
  decides = sorts_equal-Decides a b;
}

pub is_number : (sorts : List KoreSort) (i : ℕ) (a : KoreSort) → IsDecided (IsNumber sorts i a)
is_number sorts i a = both (less i (length sorts)) (same_sort (get_or sorts i a) a)

-- ---- an element of a list

-- an element of which a fact holds
pub record SomeOf {A : Type 0} (xs : List A) (P : A → Type 0) : Type 0 where
  pub element : A
  pub among : Contains xs element
  pub holds : P element

module _ {A : Type 0} (P : A → Type 0) (decided : (x : A) → IsDecided (P x)) where
  some_decides : (xs : List A) → Decides (list_any (λ x. (decided x).test) xs) (SomeOf xs P)
  some_decides [] = (λ e. absurd (cc), λ h. absurd (nothing_there h.element h.among))
  some_decides (y ∷ ys) = by (decided y).test (decided y).decides (some_decides ys)
    where
      by : (b : Bool) → Decides b (P y) → Decides (list_any (λ x. (decided x).test) ys) (SomeOf ys P) → Decides (b || list_any (λ x. (decided x).test) ys) (SomeOf (y ∷ ys) P)
      by true d r = (λ _. record { element = y; among = (0, omega arith, refl); holds = d.0 refl }, λ _. refl)
      by false d r = (
        λ e. let k = r.0 e in record { element = k.element; among = Contains-append_right (y ∷ []) ys k.element k.among; holds = k.holds },
        λ h. elim (first_or_other y h.element ys h.among.0 h.among.1 h.among.2) [
          | inl same ↦ absurd (cc (d.1 (subst P (sym same) h.holds)))
          | inr later ↦ r.1 (record { element = h.element; among = later; holds = h.holds })
        ],
      )

  pub some_of : (xs : List A) → IsDecided (SomeOf xs P)
  some_of xs = record {
    test = list_any (λ x. (decided x).test) xs;
    decides = some_decides xs;
  }

pub is_among : {A : Type 0} → ((x y : A) → IsDecided (x ≡ y)) → (xs : List A) (a : A) → IsDecided (Contains xs a)
is_among same xs a = like (λ k. subst (λ v. Contains xs v) (sym k.holds) k.among) (λ h. record { element = a; among = h; holds = refl }) (some_of (λ x. a ≡ x) (same a) xs)
