-- An opened equality says that both sides have the same value, by its sign.
use Rattle.std.proofs.Common.{◌≡◌, refl, sym, subst, Bool, true, false, not, ◌&&◌, Option, Some, None, ◌↔◌}
use Rattle.std.specs.Prelude.{⊤, if◌then◌else◌}
use Rattle.std.specs.Bool.{beq}
use Rattle.kp_kore.specs.Syntax.{Text, KoreSort}
use Rattle.kp_kore.specs.Signature.{KoreSignature}
use Rattle.kp_kore.specs.Value.{Value, truth, constructed, Values, no_values, next_value}
use Rattle.kp_kore.specs.Instance.{Valuation, GivesSorts}
use Rattle.kp_symbolic.specs.Terms.{SymbolicTerm, known, headed, term_instance, term_variables}
use Rattle.kp_symbolic.specs.Formulas.{Formula, Holds}
use Rattle.kp_symbolic.specs.States.{Literal, IsLiteralTrue}
use Rattle.kp_symbolic.specs.Opening.{signed, is_true, equality_fact, is_kept_truth, Seen, seen, Seens, none_seen, next_seen, asked, opened_agreement, opened_truths}
use Rattle.kp_symbolic.proofs.Stable.{stable_same}
use Rattle.kp_symbolic.proofs.Opened.{agreeing_says}

-- ---- facts by their sign

abbrev pub Says : KoreSignature → Valuation → Bool → Formula Literal → Type 0 → Type 0
Says g v b f A = Holds (IsLiteralTrue g v) f ↔ signed b A

pub signed_maps : (b : Bool) (A B : Type 0) → A ↔ B → signed b A ↔ signed b B
signed_maps true A B e = e
signed_maps false A B e = ((λ n h. n (e.1 h)), (λ n h. n (e.0 h)))

pub says_the_same : (g : KoreSignature) (v : Valuation) (b : Bool) (f : Formula Literal) (A B : Type 0) → A ↔ B → Says g v b f A → Says g v b f B
says_the_same g v b f A B e i = let j = signed_maps b A B e in ((λ h. j.0 (i.0 h)), (λ h. i.1 (j.1 h)))

pub equality_says : (g : KoreSignature) (v : Valuation) (b : Bool) (s : KoreSort) (t u : SymbolicTerm) → Says g v b (equality_fact b s t u) (term_instance g v t ≡ term_instance g v u)
equality_says g v b s t u = ((λ h. h), (λ h. h))

-- ---- truth values

-- a truth value is a given one where its being true has the sign of that
turned : (a b c : Bool) → signed (beq a b) (truth c ≡ truth true) ↔ signed b (truth c ≡ truth a)
turned true true c = ((λ h. h), (λ h. h))
turned true false c = ((λ h. h), (λ h. h))
turned false true true = ((λ n. absurd (n refl)), (λ e. absurd (cc)))
turned false true false = ((λ n. refl), (λ e h. cc))
turned false false true = ((λ e h. cc), (λ n. refl))
turned false false false = ((λ e. absurd (cc)), (λ n. absurd (n refl)))

agree_is_same : (a c : Bool) → ((truth a ≡ truth true) ↔ (truth c ≡ truth true)) ↔ (truth a ≡ truth c)
agree_is_same true true = ((λ h. refl), (λ e. ((λ h. h), (λ h. h))))
agree_is_same true false = ((λ h. absurd (cc (h.0 refl))), (λ e. absurd (cc)))
agree_is_same false true = ((λ h. absurd (cc (h.1 refl))), (λ e. absurd (cc)))
agree_is_same false false = ((λ h. refl), (λ e. ((λ h. h), (λ h. h))))

-- ---- what is right of a term that is seen

abbrev pub SaysTruth : KoreSignature → Valuation → SymbolicTerm → (Bool → Bool → Formula Literal → Formula Literal) → Type 0
SaysTruth g v t p = (alone b : Bool) (kept : Formula Literal) → Says g v b kept (term_instance g v t ≡ truth true) → Says g v b (p alone b kept) (term_instance g v t ≡ truth true)

abbrev pub seen_instance : KoreSignature → Valuation → Seen → Value
seen_instance g v (seen t p c ms) = term_instance g v t

abbrev pub seen_instances : KoreSignature → Valuation → Seens → Values
seen_instances g v none_seen = no_values
seen_instances g v (next_seen m ms) = next_value (seen_instance g v m) (seen_instances g v ms)

abbrev pub IsUnmade : SymbolicTerm → Type 0
IsUnmade (known (constructed c us)) = ⊥
IsUnmade t = ⊤

abbrev pub IsMade : SymbolicTerm → Type 0
IsMade (known u) = ⊤
IsMade (headed f ts) = ⊤
IsMade t = ⊥

abbrev pub SaysHead : KoreSignature → Valuation → SymbolicTerm → Option Text → Seens → Type 0
SaysHead g v t (Some c) ms = IsMade t × (term_instance g v t ≡ constructed c (seen_instances g v ms))
SaysHead g v t None ms = IsUnmade t

pub record IsSeen (g : KoreSignature) (v : Valuation) (t : SymbolicTerm) (p : Bool → Bool → Formula Literal → Formula Literal) (c : Option Text) (ms : Seens) : Type 0 where
  pub truth_is : SaysTruth g v t p
  pub head_is : SaysHead g v t c ms
  pub given : GivesSorts g v (term_variables t)

abbrev mutual
  pub IsRight : KoreSignature → Valuation → Seen → Type 0
  IsRight g v (seen t p c ms) = IsSeen g v t p c ms × AreRight g v ms

  pub AreRight : KoreSignature → Valuation → Seens → Type 0
  AreRight g v none_seen = ⊤
  AreRight g v (next_seen m ms) = IsRight g v m × AreRight g v ms

pub asked_says : (g : KoreSignature) (v : Valuation) (alone b : Bool) (m : Seen) → IsRight g v m → Says g v b (asked g alone b m) (seen_instance g v m ≡ truth true)
asked_says g v alone b (seen t p c ms) r = r.0.truth_is alone b (is_true g b t) ((λ h. h), (λ h. h))

abbrev pub IsTruth : Value → Type 0
IsTruth u = (a : Bool) × (u ≡ truth a)

agreement_is : (u w : Value) → IsTruth u → IsTruth w → ((u ≡ truth true) ↔ (w ≡ truth true)) ↔ (u ≡ w)
agreement_is u w a c = subst (λ x. ((x ≡ truth true) ↔ (w ≡ truth true)) ↔ (x ≡ w)) (sym a.1) (subst (λ y. ((truth a.0 ≡ truth true) ↔ (y ≡ truth true)) ↔ (truth a.0 ≡ y)) (sym c.1) (agree_is_same a.0 c.0))

pub agreement_says : (g : KoreSignature) (v : Valuation) (b : Bool) (m n : Seen) → IsRight g v m → IsRight g v n → IsTruth (seen_instance g v m) → IsTruth (seen_instance g v n) → Says g v b (opened_agreement g b m n) (seen_instance g v m ≡ seen_instance g v n)
agreement_says g v b m n r q i j =
    let A = seen_instance g v m ≡ truth true in
    let B = seen_instance g v n ≡ truth true in
    says_the_same g v b (opened_agreement g b m n) (A ↔ B) (seen_instance g v m ≡ seen_instance g v n) (agreement_is (seen_instance g v m) (seen_instance g v n) i j)
    (agreeing_says (IsLiteralTrue g v) b A B (asked g false true m) (asked g false false m) (asked g false b n) (asked g false (not b) n)
    (stable_same (seen_instance g v m) (truth true)) (stable_same (seen_instance g v n) (truth true))
    (asked_says g v false true m r) (asked_says g v false false m r) (asked_says g v false b n q) (asked_says g v false (not b) n q))

-- a side that is a truth value
with_value : (g : KoreSignature) (v : Valuation) (alone b a : Bool) (kept : Formula Literal) (t : SymbolicTerm) (p : Bool → Bool → Formula Literal → Formula Literal) → SaysTruth g v t p → IsTruth (term_instance g v t) → Says g v b kept (term_instance g v t ≡ truth a) → Says g v b (p alone (beq a b) kept) (term_instance g v t ≡ truth a)
with_value g v alone b a kept t p s i k =
    let e : signed (beq a b) (term_instance g v t ≡ truth true) ↔ signed b (term_instance g v t ≡ truth a) = subst (λ u. signed (beq a b) (u ≡ truth true) ↔ signed b (u ≡ truth a)) (sym i.1) (turned a b i.0) in
    let o = s alone (beq a b) kept ((λ h. e.1 (k.0 h)), (λ h. k.1 (e.0 h))) in
    ((λ h. e.0 (o.0 h)), (λ h. o.1 (e.1 h)))

kept_or : (g : KoreSignature) (v : Valuation) (b c : Bool) (kept f : Formula Literal) (A : Type 0) → Says g v b kept A → Says g v b f A → Says g v b (if c then kept else f) A
kept_or g v b true kept f A i j = i
kept_or g v b false kept f A i j = j

turn_round : (u w : Value) → (u ≡ w) ↔ (w ≡ u)
turn_round u w = (sym, sym)

pub truths_say : (g : KoreSignature) (v : Valuation) (alone b : Bool) (kept : Formula Literal) (m n : Seen) → IsRight g v m → IsRight g v n → IsTruth (seen_instance g v m) → IsTruth (seen_instance g v n) → Says g v b kept (seen_instance g v m ≡ seen_instance g v n) → Says g v b (opened_truths g alone b kept m n) (seen_instance g v m ≡ seen_instance g v n)
truths_say g v alone b kept (seen t p c ms) (seen (known (truth a)) q d ns) r o i j k = with_value g v alone b a kept t p r.0.truth_is i k
truths_say g v alone b kept (seen (known (truth a)) p c ms) (seen u q d ns) r o i j k =
    says_the_same g v b (q alone (beq a b) kept) (term_instance g v u ≡ truth a) (truth a ≡ term_instance g v u) (turn_round (term_instance g v u) (truth a))
    (with_value g v alone b a kept u q o.0.truth_is j (says_the_same g v b kept (truth a ≡ term_instance g v u) (term_instance g v u ≡ truth a) (turn_round (truth a) (term_instance g v u)) k))
truths_say g v alone b kept (seen t p c ms) (seen u q d ns) r o i j k =
    kept_or g v b (alone && b && is_kept_truth t u) kept (opened_agreement g b (seen t p c ms) (seen u q d ns)) (term_instance g v t ≡ term_instance g v u) k (agreement_says g v b (seen t p c ms) (seen u q d ns) r o i j)
