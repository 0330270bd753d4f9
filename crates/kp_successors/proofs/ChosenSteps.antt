-- The instances of a chosen pattern are where the rule leads.
use Rattle.std.proofs.Common.{◌≡◌, refl, sym, ap, subst, ◌∙◌, Bool, true, false, not, cond, ◌&&◌, ◌↔◌, List, [], ◌∷◌, ◌++◌, map}
use Rattle.std.specs.Prelude.{◌⊎◌}
use Rattle.std.specs.List.{AllByRecursion, list_all, filter}
use Rattle.std.specs.Str.{bytes_eq}
use Rattle.std.proofs.lemmas.List.Folds.{list_all-append, list_any-append}
use Rattle.kp_kore.specs.Syntax.{Text, KoreSort, KorePattern, variable, set_variable, application, string_literal, literal, top, bottom, negation, next, conjunction, disjunction, implication, equivalence, rewriting, exists, forall, ceil, floor, equals, membership, mu, nu}
use Rattle.kp_kore.specs.Attributes.{sorts_equal}
use Rattle.kp_kore.specs.Parts.{SortedName, free_variables, all_free_variables}
use Rattle.kp_kore.specs.Signature.{KoreSignature}
use Rattle.kp_kore.specs.View.{patterns_of}
use Rattle.kp_kore.specs.Value.{Value, HasSort}
use Rattle.kp_kore.specs.Instance.{Valuation, instance, GivesSorts, AgreesOn, is_named, IsTrueUnder, IsInstance}
use Rattle.kp_kore.specs.Rules as model
use Rattle.kp_kore.specs.Steps.{LeadsTo}
use Rattle.kp_kore.proofs.InstanceLemmas.{same_instance, agrees_first, agrees_second}
use Rattle.kp_kore.proofs.TruthLemmas.{same_truth}
use Rattle.kp_kore.proofs.FreeVariables.{free_append}
use Rattle.kp_rules.specs.Bodies.{IsLonePredicate, IsConstrained}
use Rattle.kp_pattern_substitution.specs.Substitution.{ReplacedName, substituted, is_replaced, AreClosed, with_replaced}
use Rattle.kp_pattern_substitution.proofs.Substituted.{substituted_instance, substituted_truth, substituted_is_term}
use Rattle.kp_pattern_substitution.proofs.SubstitutedForms.{staying, substituted_free}
use Rattle.kp_rules.specs.Known.{is_among, free_beside, is_known}
use Rattle.kp_successors.specs.Choices.{is_top, equal_to_itself, unused, ensured_with, chosen_pattern, AreNamed, SpellUnder, IsPutIn}
use Rattle.kp_successors.specs.Instances.{IsSomeInstance}
use Rattle.kp_successors.proofs.Lists.{all_joined, all_first, all_second, all_filtered, both_true, either_true, by_either}
use Rattle.kp_successors.proofs.Constraints.{constrained_instance, constrained_free, all_lone_kept, lone_equalities, true_equalities}
use Rattle.kp_successors.proofs.PutIn.{closed_spellings, put_in_already, joined, joined_off, known_agree, known_sorts, among_staying, new_stays, own_members}

-- ---- parts of the pattern

abbrev others : List KorePattern → List KorePattern
others = filter (λ q. not (is_top q))

abbrev predicates : KoreSort → List ReplacedName → KorePattern → List KorePattern → List SortedName → List KorePattern
predicates s rs t qs new = ensured_with rs qs ++ map (equal_to_itself s) (unused t qs new)

lone_predicates : (s : KoreSort) (rs : List ReplacedName) (t : KorePattern) (qs : List KorePattern) (new : List SortedName) → AreClosed rs → AllByRecursion IsLonePredicate qs → AllByRecursion IsLonePredicate (predicates s rs t qs new)
lone_predicates s rs t qs new c h =
    all_joined IsLonePredicate (ensured_with rs qs) (map (equal_to_itself s) (unused t qs new))
    (all_lone_kept rs (others qs) c (all_filtered IsLonePredicate (λ q. not (is_top q)) qs h)) (lone_equalities s (unused t qs new))

chosen_instance : (g : KoreSignature) (w : Valuation) (s : KoreSort) (m : model.Rewrite) (rs : List ReplacedName) (u : Value) → AreClosed rs → IsConstrained m →
    IsInstance g w (chosen_pattern s rs m.right m.ensured m.new_variables) u ↔ ((u ≡ instance g w (substituted rs m.right)) × AllByRecursion (IsTrueUnder g w) (predicates s rs m.right m.ensured m.new_variables))
chosen_instance g w s m rs u c k =
    constrained_instance g w s (substituted rs m.right) (predicates s rs m.right m.ensured m.new_variables) u (substituted_is_term rs m.right c ∙ k.right) (lone_predicates s rs m.right m.ensured m.new_variables c k.ensured)

-- ---- the ensured condition

top_true : (g : KoreSignature) (w : Valuation) (q : KorePattern) → is_top q ≡ true → IsTrueUnder g w q
top_true g w (top s) h = tt
top_true g w (variable x s) h = absurd (cc)
top_true g w (set_variable x s) h = absurd (cc)
top_true g w (application f ss ps) h = absurd (cc)
top_true g w (string_literal t) h = absurd (cc)
top_true g w (literal s t) h = absurd (cc)
top_true g w (bottom s) h = absurd (cc)
top_true g w (negation s p) h = absurd (cc)
top_true g w (next s p) h = absurd (cc)
top_true g w (conjunction s ps) h = absurd (cc)
top_true g w (disjunction s ps) h = absurd (cc)
top_true g w (implication s p q) h = absurd (cc)
top_true g w (equivalence s p q) h = absurd (cc)
top_true g w (rewriting s p q) h = absurd (cc)
top_true g w (exists s x t p) h = absurd (cc)
top_true g w (forall s x t p) h = absurd (cc)
top_true g w (ceil a s p) h = absurd (cc)
top_true g w (floor a s p) h = absurd (cc)
top_true g w (equals a s p q) h = absurd (cc)
top_true g w (membership a s p q) h = absurd (cc)
top_true g w (mu x s p) h = absurd (cc)
top_true g w (nu x s p) h = absurd (cc)

-- of those that are true with the terms put in, each is true under a valuation that agrees with the terms' values
ensured_there : (g : KoreSignature) (rs : List ReplacedName) (v w : Valuation) (qs : List KorePattern) → AreClosed rs → AgreesOn (all_free_variables (patterns_of qs)) v (with_replaced g rs w) →
    AllByRecursion (IsTrueUnder g w) (ensured_with rs qs) → AllByRecursion (IsTrueUnder g v) qs
ensured_there g rs v w [] c a h = tt
ensured_there g rs v w (q ∷ qs) c a h = by (is_top q) refl (ensured_there g rs v w qs c (agrees_second (free_variables q) (all_free_variables (patterns_of qs)) v (with_replaced g rs w) a)) h
  where
    there : IsTrueUnder g w (substituted rs q) → IsTrueUnder g v q
    there k = (same_truth g q v (with_replaced g rs w) (agrees_first (free_variables q) (all_free_variables (patterns_of qs)) v (with_replaced g rs w) a)).1 ((substituted_truth g rs w q c).0 k)

    by : (b : Bool) → is_top q ≡ b → (AllByRecursion (IsTrueUnder g w) (ensured_with rs qs) → AllByRecursion (IsTrueUnder g v) qs) →
        AllByRecursion (IsTrueUnder g w) (map (substituted rs) (cond (not b) (q ∷ others qs) (others qs))) → AllByRecursion (IsTrueUnder g v) (q ∷ qs)
    by true e rest k = (top_true g v q e, rest k)
    by false e rest k = (there k.0, rest k.1)

ensured_back : (g : KoreSignature) (rs : List ReplacedName) (v w : Valuation) (qs : List KorePattern) → AreClosed rs → ((y : Text) → with_replaced g rs w y ≡ v y) →
    AllByRecursion (IsTrueUnder g v) qs → AllByRecursion (IsTrueUnder g w) (ensured_with rs qs)
ensured_back g rs v w [] c a h = tt
ensured_back g rs v w (q ∷ qs) c a h = by (is_top q) (ensured_back g rs v w qs c a h.1)
  where
    everywhere : (xs : List SortedName) → AgreesOn xs v (with_replaced g rs w)
    everywhere [] = tt
    everywhere (x ∷ xs) = (a x.name, everywhere xs)

    back : IsTrueUnder g v q → IsTrueUnder g w (substituted rs q)
    back k = (substituted_truth g rs w q c).1 ((same_truth g q v (with_replaced g rs w) (everywhere (free_variables q))).0 k)

    by : (b : Bool) → AllByRecursion (IsTrueUnder g w) (ensured_with rs qs) → AllByRecursion (IsTrueUnder g w) (map (substituted rs) (cond (not b) (q ∷ others qs) (others qs)))
    by true k = k
    by false k = (back h.0, k)

-- ---- sorts

top_free : (q : KorePattern) → is_top q ≡ true → free_variables q ≡ []
top_free (top s) h = refl
top_free (variable x s) h = absurd (cc)
top_free (set_variable x s) h = refl
top_free (application f ss ps) h = absurd (cc)
top_free (string_literal t) h = refl
top_free (literal s t) h = refl
top_free (bottom s) h = refl
top_free (negation s p) h = absurd (cc)
top_free (next s p) h = absurd (cc)
top_free (conjunction s ps) h = absurd (cc)
top_free (disjunction s ps) h = absurd (cc)
top_free (implication s p q) h = absurd (cc)
top_free (equivalence s p q) h = absurd (cc)
top_free (rewriting s p q) h = absurd (cc)
top_free (exists s x t p) h = absurd (cc)
top_free (forall s x t p) h = absurd (cc)
top_free (ceil a s p) h = absurd (cc)
top_free (floor a s p) h = absurd (cc)
top_free (equals a s p q) h = absurd (cc)
top_free (membership a s p q) h = absurd (cc)
top_free (mu x s p) h = absurd (cc)
top_free (nu x s p) h = absurd (cc)

equalities_give : (g : KoreSignature) (w : Valuation) (s : KoreSort) (xs : List SortedName) → GivesSorts g w xs → GivesSorts g w (all_free_variables (patterns_of (map (equal_to_itself s) xs)))
equalities_give g w s [] h = tt
equalities_give g w s (x ∷ xs) h = (h.0, (h.0, equalities_give g w s xs h.1))

ensured_give : (g : KoreSignature) (left new : List SortedName) (rs : List ReplacedName) (w : Valuation) (qs : List KorePattern) → AreClosed rs → AreNamed left new rs →
    list_all (is_known left new) (all_free_variables (patterns_of qs)) ≡ true → GivesSorts g w new → GivesSorts g w (all_free_variables (patterns_of (ensured_with rs qs)))
ensured_give g left new rs w [] c names known h = tt
ensured_give g left new rs w (q ∷ qs) c names known h = by (is_top q) (ensured_give g left new rs w qs c names k.1 h)
  where
    k : (list_all (is_known left new) (free_variables q) ≡ true) × (list_all (is_known left new) (all_free_variables (patterns_of qs)) ≡ true)
    k = both_true (list_all (is_known left new) (free_variables q)) (list_all (is_known left new) (all_free_variables (patterns_of qs)))
        (sym (list_all-append (is_known left new) (free_variables q) (all_free_variables (patterns_of qs))) ∙ known)

    here : GivesSorts g w (free_variables (substituted rs q))
    here = subst (GivesSorts g w) (sym (substituted_free rs q c)) (known_sorts g left new rs w (free_variables q) names k.0 h)

    by : (b : Bool) → GivesSorts g w (all_free_variables (patterns_of (ensured_with rs qs))) → GivesSorts g w (all_free_variables (patterns_of (map (substituted rs) (cond (not b) (q ∷ others qs) (others qs)))))
    by true rest = rest
    by false rest = all_joined (λ x. HasSort g x.sort (w x.name)) (free_variables (substituted rs q)) (all_free_variables (patterns_of (ensured_with rs qs))) here rest

-- where the new variables have their sorts, what stands free in the pattern has
give_pattern : (g : KoreSignature) (s : KoreSort) (m : model.Rewrite) (rs : List ReplacedName) (w : Valuation) → AreClosed rs → IsPutIn m rs → GivesSorts g w m.new_variables →
    GivesSorts g w (free_variables (chosen_pattern s rs m.right m.ensured m.new_variables))
give_pattern g s m rs w c k h =
    let Has : SortedName → Type 0 = λ x. HasSort g x.sort (w x.name) in
    let left = free_variables m.left in
    let new = m.new_variables in
    let qs = ensured_with rs m.ensured in
    let es = map (equal_to_itself s) (unused m.right m.ensured new) in
    let known = both_true (list_all (is_known left new) (free_variables m.right)) (list_all (is_known left new) (all_free_variables (patterns_of m.ensured)))
    (sym (list_all-append (is_known left new) (free_variables m.right) (all_free_variables (patterns_of m.ensured))) ∙ k.known) in
    subst (GivesSorts g w) (sym (constrained_free s (substituted rs m.right) (qs ++ es)))
    (all_joined Has (free_variables (substituted rs m.right)) (all_free_variables (patterns_of (qs ++ es)))
    (subst (GivesSorts g w) (sym (substituted_free rs m.right c)) (known_sorts g left new rs w (free_variables m.right) k.names known.0 h))
    (subst (GivesSorts g w) (sym (free_append qs es))
    (all_joined Has (all_free_variables (patterns_of qs)) (all_free_variables (patterns_of es))
    (ensured_give g left new rs w m.ensured c k.names known.1 h)
    (equalities_give g w s (unused m.right m.ensured new) (all_filtered Has (λ x. not (is_among x (free_beside m.right m.ensured))) new h)))))

none_among : (x : SortedName) (xs : List SortedName) → xs ≡ [] → ¬ (is_among x xs ≡ true)
none_among x [] f a = cc
none_among x (y ∷ ys) f a = cc

-- and back: a new variable among what stands free in the ensured condition
among_ensured : (g : KoreSignature) (rs : List ReplacedName) (w : Valuation) (x : SortedName) (qs : List KorePattern) → AreClosed rs → is_among x (all_free_variables (patterns_of qs)) ≡ true → is_replaced rs x.name ≡ false →
    GivesSorts g w (all_free_variables (patterns_of (ensured_with rs qs))) → HasSort g x.sort (w x.name)
among_ensured g rs w x [] c h n s = absurd (cc)
among_ensured g rs w x (q ∷ qs) c h n s = by (is_top q) refl (λ a k. among_ensured g rs w x qs c a n k) s
  where
    split : (is_among x (free_variables q) ≡ true) ⊎ (is_among x (all_free_variables (patterns_of qs)) ≡ true)
    split = either_true (is_among x (free_variables q)) (is_among x (all_free_variables (patterns_of qs))) (sym (list_any-append (λ y. bytes_eq y.name x.name && sorts_equal y.sort x.sort) (free_variables q) (all_free_variables (patterns_of qs))) ∙ h)

    by : (b : Bool) → is_top q ≡ b → (is_among x (all_free_variables (patterns_of qs)) ≡ true → GivesSorts g w (all_free_variables (patterns_of (ensured_with rs qs))) → HasSort g x.sort (w x.name)) →
        GivesSorts g w (all_free_variables (patterns_of (map (substituted rs) (cond (not b) (q ∷ others qs) (others qs))))) → HasSort g x.sort (w x.name)
    by true e rest k = by_either split (λ a. absurd (none_among x (free_variables q) (top_free q e) a)) (λ a. rest a k)
    by false e rest k = by_either split
        (λ a. among_staying g rs w x (free_variables q) a n (subst (GivesSorts g w) (substituted_free rs q c) (all_first (λ y. HasSort g y.sort (w y.name)) (free_variables (substituted rs q)) (all_free_variables (patterns_of (ensured_with rs qs))) k)))
        (λ a. rest a (all_second (λ y. HasSort g y.sort (w y.name)) (free_variables (substituted rs q)) (all_free_variables (patterns_of (ensured_with rs qs))) k))

equality_gives : (g : KoreSignature) (w : Valuation) (s : KoreSort) (test : SortedName → Bool) (P : SortedName → Type 0) (xs : List SortedName) →
    ((x : SortedName) → P x → test x ≡ false → HasSort g x.sort (w x.name)) → AllByRecursion P xs →
    GivesSorts g w (all_free_variables (patterns_of (map (equal_to_itself s) (filter test xs)))) → GivesSorts g w xs
equality_gives g w s test P [] f p h = tt
equality_gives g w s test P (x ∷ xs) f p h = by (test x) refl (equality_gives g w s test P xs f p.1) h
  where
    by : (b : Bool) → test x ≡ b → (GivesSorts g w (all_free_variables (patterns_of (map (equal_to_itself s) (filter test xs)))) → GivesSorts g w xs) →
        GivesSorts g w (all_free_variables (patterns_of (map (equal_to_itself s) (cond b (x ∷ filter test xs) (filter test xs))))) → GivesSorts g w (x ∷ xs)
    by true e rest k = (k.0, rest k.1.1)
    by false e rest k = (f x p.0 e, rest k)

new_given : (g : KoreSignature) (s : KoreSort) (m : model.Rewrite) (rs : List ReplacedName) (w : Valuation) → AreClosed rs → IsPutIn m rs →
    GivesSorts g w (free_variables (chosen_pattern s rs m.right m.ensured m.new_variables)) → GivesSorts g w m.new_variables
new_given g s m rs w c k h =
    let Has : SortedName → Type 0 = λ x. HasSort g x.sort (w x.name) in
    let new = m.new_variables in
    let qs = ensured_with rs m.ensured in
    let es = map (equal_to_itself s) (unused m.right m.ensured new) in
    let all : GivesSorts g w (free_beside (substituted rs m.right) (qs ++ es)) = subst (GivesSorts g w) (constrained_free s (substituted rs m.right) (qs ++ es)) h in
    let right : GivesSorts g w (staying rs (free_variables m.right)) = subst (GivesSorts g w) (substituted_free rs m.right c) (all_first Has (free_variables (substituted rs m.right)) (all_free_variables (patterns_of (qs ++ es))) all) in
    let beside : GivesSorts g w (all_free_variables (patterns_of qs) ++ all_free_variables (patterns_of es)) =
    subst (GivesSorts g w) (free_append qs es) (all_second Has (free_variables (substituted rs m.right)) (all_free_variables (patterns_of (qs ++ es))) all) in
    let ensured = all_first Has (all_free_variables (patterns_of qs)) (all_free_variables (patterns_of es)) beside in
    equality_gives g w s (λ x. not (is_among x (free_beside m.right m.ensured))) (λ x. is_named x.name new ≡ true) new
    (λ x named e. stands x named (not_true (is_among x (free_beside m.right m.ensured)) e) right ensured)
    (own_members new new (λ x n. n)) (all_second Has (all_free_variables (patterns_of qs)) (all_free_variables (patterns_of es)) beside)
  where
    not_true : (b : Bool) → not b ≡ false → b ≡ true
    not_true true e = refl
    not_true false e = absurd (cc)

    stands : (x : SortedName) → is_named x.name m.new_variables ≡ true → is_among x (free_beside m.right m.ensured) ≡ true → GivesSorts g w (staying rs (free_variables m.right)) →
        GivesSorts g w (all_free_variables (patterns_of (ensured_with rs m.ensured))) → HasSort g x.sort (w x.name)
    stands x named e right ensured =
        let n : is_replaced rs x.name ≡ false = new_stays (free_variables m.left) m.new_variables rs x.name k.names named in
        by_either (either_true (is_among x (free_variables m.right)) (is_among x (all_free_variables (patterns_of m.ensured)))
        (sym (list_any-append (λ y. bytes_eq y.name x.name && sorts_equal y.sort x.sort) (free_variables m.right) (all_free_variables (patterns_of m.ensured))) ∙ e))
        (λ a. among_staying g rs w x (free_variables m.right) a n right)
        (λ a. among_ensured g rs w x m.ensured c a n ensured)

-- ---- both ways

agree_everywhere : (v w : Valuation) → ((y : Text) → w y ≡ v y) → (xs : List SortedName) → AgreesOn xs v w
agree_everywhere v w a [] = tt
agree_everywhere v w a (x ∷ xs) = (a x.name, agree_everywhere v w a xs)

-- where the rule leads under a valuation is an instance
pub led_is_instance : (g : KoreSignature) (s : KoreSort) (m : model.Rewrite) (rs : List ReplacedName) (v : Valuation) (there : Value) → IsPutIn m rs → SpellUnder g v rs → LeadsTo g m v there →
    IsSomeInstance g (chosen_pattern s rs m.right m.ensured m.new_variables) there
led_is_instance g s m rs v there k spell to =
    let c = closed_spellings g v rs spell in
    let w = to.chosen in
    let same : (y : Text) → with_replaced g rs w y ≡ w y = λ y. put_in_already g (free_variables m.left) m.new_variables rs v w y k.names spell to.agrees in (
      w,
      give_pattern g s m rs w c k to.sorts,
      (chosen_instance g w s m rs there c k.constrained).1 (
        to.result ∙ sym (substituted_instance g rs w m.right ∙ same_instance g w (with_replaced g rs w) m.right (agree_everywhere w (with_replaced g rs w) same (free_variables m.right))),
        all_joined (IsTrueUnder g w) (ensured_with rs m.ensured) (map (equal_to_itself s) (unused m.right m.ensured m.new_variables))
            (ensured_back g rs w w m.ensured c same to.ensured) (true_equalities g w s (unused m.right m.ensured m.new_variables)),
      ),
    )

-- and each instance is where it leads
pub instance_is_led : (g : KoreSignature) (s : KoreSort) (m : model.Rewrite) (rs : List ReplacedName) (v : Valuation) (there : Value) → IsPutIn m rs → SpellUnder g v rs →
    IsSomeInstance g (chosen_pattern s rs m.right m.ensured m.new_variables) there → LeadsTo g m v there
instance_is_led g s m rs v there k spell i =
    let c = closed_spellings g v rs spell in
    let w = i.0 in
    let new = m.new_variables in
    let z = joined new v w in
    let parts = (chosen_instance g w s m rs there c k.constrained).0 i.2 in
    let agree : AgreesOn (free_beside m.right m.ensured) z (with_replaced g rs w) = known_agree g (free_variables m.left) new rs v w (free_beside m.right m.ensured) k.names spell k.known in
    record {
      chosen = z;
      agrees = joined_off new v w;
      sorts = moved new (own_members new new (λ x n. n)) (new_given g s m rs w c k i.1);
      ensured = ensured_there g rs z w m.ensured c (agrees_second (free_variables m.right) (all_free_variables (patterns_of m.ensured)) z (with_replaced g rs w) agree)
          (all_first (IsTrueUnder g w) (ensured_with rs m.ensured) (map (equal_to_itself s) (unused m.right m.ensured new)) parts.1);
      result = parts.0 ∙ substituted_instance g rs w m.right ∙ same_instance g z (with_replaced g rs w) m.right (agrees_first (free_variables m.right) (all_free_variables (patterns_of m.ensured)) z (with_replaced g rs w) agree);
    }
  where
    moved : (xs : List SortedName) → AllByRecursion (λ x. is_named x.name m.new_variables ≡ true) xs → GivesSorts g i.0 xs → GivesSorts g (joined m.new_variables v i.0) xs
    moved [] n h = tt
    moved (x ∷ xs) n h = (subst (HasSort g x.sort) (sym (ap (λ b. cond b (i.0 x.name) (v x.name)) n.0)) h.0, moved xs n.1 h.1)

pub chosen_is_led : (g : KoreSignature) (s : KoreSort) (m : model.Rewrite) (rs : List ReplacedName) (v : Valuation) (there : Value) → IsPutIn m rs → SpellUnder g v rs →
    IsSomeInstance g (chosen_pattern s rs m.right m.ensured m.new_variables) there ↔ LeadsTo g m v there
chosen_is_led g s m rs v there k spell = (instance_is_led g s m rs v there k spell, led_is_instance g s m rs v there k spell)
