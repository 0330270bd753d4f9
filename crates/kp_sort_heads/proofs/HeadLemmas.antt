-- Heads one by one: what passes the test, and what some value has.
use Rattle.std.proofs.Common.{◌≡◌, ◌↔◌, refl, sym, ap, subst, ◌∙◌, Bool, true, false, cond, List, [], ◌∷◌, ◌++◌, Some, IsTrue, inl, inr, pos}
use Rattle.std.specs.List.{filter}
use Rattle.std.proofs.lemmas.List.{append_assoc}
use Rattle.std.proofs.lemmas.List.Elements.{Contains-push_cases}
use Rattle.kp_kore.specs.Syntax.{KoreSort}
use Rattle.kp_kore.specs.Signature.{KoreSignature, Head, integers, booleans, tokens, is_head}
use Rattle.kp_kore.specs.Value.{whole, truth, token}
use Rattle.kp_signature.proofs.HeadLemmas.{is_head-Decides}
use Rattle.kp_heads.specs.Heads.{IsLive}
use Rattle.kp_sort_heads.specs.Live.{Passed, IsNextLive}

-- ---- what passes the test

first_is : (x h : Head) (ys rest : List Head) → x ∷ ys ≡ h ∷ rest → x ≡ h
first_is x h ys rest q = cc

pub passes : (test : Head → Bool) (xs : List Head) (h : Head) (rest : List Head) → filter test xs ≡ h ∷ rest → test h ≡ true
passes test [] h rest e = absurd (cc)
passes test (x ∷ xs) h rest e = by (test x) refl e (λ q. passes test xs h rest q)
  where
    by : (b : Bool) → test x ≡ b → cond b (x ∷ filter test xs) (filter test xs) ≡ h ∷ rest → (filter test xs ≡ h ∷ rest → test h ≡ true) → test h ≡ true
    by true p q more = sym (ap test (first_is x h (filter test xs) rest q)) ∙ p
    by false p q more = more q

-- ---- what some value has

-- literals of a kind that a sort has are values
integers_live : (g : KoreSignature) (s : KoreSort) → is_head g s integers ≡ true → IsLive g integers
integers_live g s e = (whole (pos 0), (s, (is_head-Decides g s integers).0 e), refl)

booleans_live : (g : KoreSignature) (s : KoreSort) → is_head g s booleans ≡ true → IsLive g booleans
booleans_live g s e = (truth true, (s, (is_head-Decides g s booleans).0 e), refl)

tokens_live : (g : KoreSignature) (s t : KoreSort) → is_head g s (tokens t) ≡ true → IsLive g (tokens t)
tokens_live g s t e = (token t [], (s, (is_head-Decides g s (tokens t)).0 e), refl)

-- so is the head that is one of these
told : (g : KoreSignature) (s : KoreSort) (h k : Head) → (is_head g s k ≡ true → IsLive g k) → h ≡ k → is_head g s h ≡ true → IsTrue true ↔ IsLive g h
told g s h k live e is = (λ y. subst (IsLive g) (sym e) (live (subst (λ m. is_head g s m ≡ true) e is)), λ l. refl)

pub integers_told : (g : KoreSignature) (s : KoreSort) (h : Head) → h ≡ integers → is_head g s h ≡ true → IsTrue true ↔ IsLive g h
integers_told g s h = told g s h integers (integers_live g s)

pub booleans_told : (g : KoreSignature) (s : KoreSort) (h : Head) → h ≡ booleans → is_head g s h ≡ true → IsTrue true ↔ IsLive g h
booleans_told g s h = told g s h booleans (booleans_live g s)

pub tokens_told : (g : KoreSignature) (s t : KoreSort) (h : Head) → h ≡ tokens t → is_head g s h ≡ true → IsTrue true ↔ IsLive g h
tokens_told g s t h = told g s h (tokens t) (tokens_live g s t)

-- ---- the next that some value has

pub one_passed : (g : KoreSignature) (start before after : List Head) (h : Head) →
    Passed g start before → before ≡ h ∷ after → (IsLive g h → ⊥) → Passed g start after
one_passed g start before after h p e n = record {
  passed = p.passed ++ h ∷ [];
  is = p.is ∙ ap (λ hs. p.passed ++ hs) e ∙ sym (append_assoc p.passed (h ∷ []) after);
  none = λ k c l. elim (Contains-push_cases p.passed h k c) [
    | inl i ↦ p.none k i l
    | inr q ↦ n (subst (IsLive g) (sym q) l)
  ];
}

pub found_live : (g : KoreSignature) (start before after : List Head) (h : Head) →
    Passed g start before → before ≡ h ∷ after → IsLive g h → IsNextLive g (Some h) start after
found_live g start before after h p e l = (subst (Passed g start) e p, l)
