-- Parts of a state: a division of which one part is divided further is a division.
use Rattle.std.proofs.Common.{List, [], ◌∷◌, ◌++◌, inl, inr, ◌↔◌}
use Rattle.std.specs.List.{AllByRecursion}
use Rattle.kp_kore.specs.Signature.{KoreSignature}
use Rattle.kp_kore.specs.Value.{Value}
use Rattle.kp_kore.specs.Instance.{Valuation}
use Rattle.kp_kore.specs.Rules.{RuleBody}
use Rattle.kp_kore.specs.Steps.{Fires}
use Rattle.kp_kore.specs.Cases.{OfOneAlone}
use Rattle.kp_kore.specs.Division.{Reading, IsPartOf, IsHeldBy, Divides, Part, reading, NoneOf}
use Rattle.kp_kore.proofs.TruthLemmas.{agrees_back}
use Rattle.kp_kore.proofs.ArcLemmas.{agrees_through}

-- ---- lists with one alone

none_append : {X : Type 0} (P : X → Type 0) (xs ys : List X) → AllByRecursion (λ x. ¬ P x) xs → AllByRecursion (λ x. ¬ P x) ys → AllByRecursion (λ x. ¬ P x) (xs ++ ys)
none_append P [] ys h k = k
none_append P (x ∷ xs) ys h k = (h.0, none_append P xs ys h.1 k)

none_first : {X : Type 0} (P : X → Type 0) (xs ys : List X) → AllByRecursion (λ x. ¬ P x) (xs ++ ys) → AllByRecursion (λ x. ¬ P x) xs
none_first P [] ys h = tt
none_first P (x ∷ xs) ys h = (h.0, none_first P xs ys h.1)

none_second : {X : Type 0} (P : X → Type 0) (xs ys : List X) → AllByRecursion (λ x. ¬ P x) (xs ++ ys) → AllByRecursion (λ x. ¬ P x) ys
none_second P [] ys h = h
none_second P (x ∷ xs) ys h = none_second P xs ys h.1

pub one_then_none : {X : Type 0} (P : X → Type 0) (xs ys : List X) → OfOneAlone P xs → AllByRecursion (λ x. ¬ P x) ys → OfOneAlone P (xs ++ ys)
one_then_none P [] ys h k = absurd h
one_then_none P (x ∷ xs) ys h k = elim h [ inl a ↦ inl (a.0, none_append P xs ys a.1 k) | inr b ↦ inr (b.0, one_then_none P xs ys b.1 k) ]

pub none_then_one : {X : Type 0} (P : X → Type 0) (xs ys : List X) → AllByRecursion (λ x. ¬ P x) xs → OfOneAlone P ys → OfOneAlone P (xs ++ ys)
none_then_one P [] ys h k = k
none_then_one P (x ∷ xs) ys h k = inr (h.0, none_then_one P xs ys h.1 k)

none_of_none : {X : Type 0} (P : X → Type 0) (p : X) (rs : List X) → AllByRecursion (λ r. P r → P p) rs → ¬ P p → AllByRecursion (λ r. ¬ P r) rs
none_of_none P p [] h n = tt
none_of_none P p (r ∷ rs) h n = ((λ k. n (h.0 k)), none_of_none P p rs h.1 n)

-- one member replaced by a division of it
pub replaced : {X : Type 0} (P : X → Type 0) (ps qs rs : List X) (p : X) → OfOneAlone P (ps ++ p ∷ qs) → (P p → OfOneAlone P rs) → AllByRecursion (λ r. P r → P p) rs → OfOneAlone P (ps ++ (rs ++ qs))
replaced P [] qs rs p h f back = elim h [
  | inl a ↦ one_then_none P rs qs (f a.0) a.1
  | inr b ↦ none_then_one P rs qs (none_of_none P p rs back b.0) b.1
]
replaced P (x ∷ ps) qs rs p h f back = elim h [
  | inl a ↦ inl (a.0, let n = none_second P ps (p ∷ qs) a.1 in none_append P ps (rs ++ qs) (none_first P ps (p ∷ qs) a.1) (none_append P rs qs (none_of_none P p rs back n.0) n.1))
  | inr b ↦ inr (b.0, replaced P ps qs rs p b.1 f back)
]

-- a member that holds nothing is dropped
pub dropped : {X : Type 0} (P : X → Type 0) (ps qs : List X) (p : X) → ¬ P p → OfOneAlone P (ps ++ p ∷ qs) → OfOneAlone P (ps ++ qs)
dropped P [] qs p n h = elim h [ inl a ↦ absurd (n a.0) | inr b ↦ b.1 ]
dropped P (x ∷ ps) qs p n h = elim h [
  | inl a ↦ inl (a.0, none_append P ps qs (none_first P ps (p ∷ qs) a.1) (none_second P ps (p ∷ qs) a.1).1)
  | inr b ↦ inr (b.0, dropped P ps qs p n b.1)
]

-- ---- parts of parts

-- what a part of p holds, p holds
pub held_above : {X : Type 0} (m : Reading X) (g : KoreSignature) (s p r : X) (v : Valuation) (c : Value) → IsPartOf m g p r → IsHeldBy m g s r v c → IsHeldBy m g s p v c
held_above m g s p r v c part h = record { chosen = h.chosen; agrees = h.agrees; sorts = part.within.sorts h.chosen h.sorts; met = ((part.same h.chosen c h.sorts).0 h.met).0 }

-- held by a part of p over the whole, and over p: the same, since the new variables' values are determined
held_over : {X : Type 0} (m : Reading X) (g : KoreSignature) (s p r : X) (v : Valuation) (c : Value) → IsPartOf m g s p → IsPartOf m g p r → (h : IsHeldBy m g s p v c) → IsHeldBy m g s r v c ↔ IsHeldBy m g p r h.chosen c
unfolding held_above
held_over m g s p r v c of_s of_p h = (
  (λ k.
      let up : IsHeldBy m g s p v c = held_above m g s p r v c of_p k in
      record {
        chosen = k.chosen;
        agrees = of_s.alone h.chosen k.chosen h.sorts up.sorts (agrees_through (m.scope s) h.chosen v k.chosen (agrees_back (m.scope s) v h.chosen h.agrees) k.agrees)
            ((of_s.same h.chosen c h.sorts).0 h.met).1 ((of_s.same k.chosen c up.sorts).0 up.met).1;
        sorts = k.sorts;
        met = k.met;
      }),
  (λ k. record { chosen = k.chosen; agrees = agrees_through (m.scope s) v h.chosen k.chosen h.agrees (of_s.within.agree h.chosen k.chosen k.agrees); sorts = k.sorts; met = k.met }),
)

-- one alone over p is one alone over the whole
one_over : {X : Type 0} (P Q : X → Type 0) (rs : List X) → AllByRecursion (λ r. P r ↔ Q r) rs → OfOneAlone Q rs → OfOneAlone P rs
one_over P Q [] e h = h
one_over P Q (r ∷ rs) e h = elim h [
  | inl a ↦ inl (e.0.1 a.0, none_over P Q rs e.1 a.1)
  | inr b ↦ inr ((λ k. b.0 (e.0.0 k)), one_over P Q rs e.1 b.1)
]
  where
    none_over : {X : Type 0} (P Q : X → Type 0) (rs : List X) → AllByRecursion (λ r. P r ↔ Q r) rs → AllByRecursion (λ r. ¬ Q r) rs → AllByRecursion (λ r. ¬ P r) rs
    none_over P Q [] e n = tt
    none_over P Q (r ∷ rs) e n = ((λ k. n.0 (e.0.0 k)), none_over P Q rs e.1 n.1)

all_parts : {X : Type 0} (P Q : X → Type 0) (rs : List X) → ((r : X) → P r → Q r) → AllByRecursion P rs → AllByRecursion Q rs
all_parts P Q [] f a = tt
all_parts P Q (r ∷ rs) f a = (f r a.0, all_parts P Q rs f a.1)

-- a division of the state with one part divided further
pub divided_further : {X : Type 0} (m : Reading X) (g : KoreSignature) (Q R : Value → Type 0) (s p : X) (ps qs rs : List X) → Divides m g Q s (ps ++ p ∷ qs) → IsPartOf m g s p → AllByRecursion (IsPartOf m g p) rs → Divides m g R p rs → Divides m g (λ c. Q c × R c) s (ps ++ (rs ++ qs))
divided_further m g Q R s p ps qs rs whole of_s of_p below v c sorts met q =
    replaced (λ r. IsHeldBy m g s r v c) ps qs rs p (whole v c sorts met q.0)
    (λ h. one_over (λ r. IsHeldBy m g s r v c) (λ r. IsHeldBy m g p r h.chosen c) rs
    (all_parts (IsPartOf m g p) (λ r. IsHeldBy m g s r v c ↔ IsHeldBy m g p r h.chosen c) rs (λ r k. held_over m g s p r v c of_s k h) of_p)
    (below h.chosen c h.sorts h.met q.1))
    (all_parts (IsPartOf m g p) (λ r. IsHeldBy m g s r v c → IsHeldBy m g s p v c) rs (λ r k. held_above m g s p r v c k) of_p)

-- ---- parts as patterns

pub exclusion_divides : (g : KoreSignature) (bodies : List RuleBody) (body : RuleBody) (s p : Part) (ps qs rs : List Part) → Divides (reading g) g (NoneOf g bodies) s (ps ++ p ∷ qs) → IsPartOf (reading g) g s p →
    AllByRecursion (IsPartOf (reading g) g p) rs → Divides (reading g) g (λ c. ¬ Fires g body c) p rs → Divides (reading g) g (NoneOf g (body ∷ bodies)) s (ps ++ (rs ++ qs))
exclusion_divides g bodies body s p ps qs rs whole of_s of_p below v c sorts met none =
    divided_further (reading g) g (NoneOf g bodies) (λ c. ¬ Fires g body c) s p ps qs rs whole of_s of_p below v c sorts met (none.1, none.0)

pub empty_parts_fall_away : (g : KoreSignature) (bodies : List RuleBody) (s p : Part) (ps qs : List Part) → Divides (reading g) g (NoneOf g bodies) s (ps ++ p ∷ qs) →
    ((v : Valuation) (c : Value) → ¬ IsHeldBy (reading g) g s p v c) → Divides (reading g) g (NoneOf g bodies) s (ps ++ qs)
empty_parts_fall_away g bodies s p ps qs whole none v c sorts met q = dropped (λ r. IsHeldBy (reading g) g s r v c) ps qs p (none v c) (whole v c sorts met q)
