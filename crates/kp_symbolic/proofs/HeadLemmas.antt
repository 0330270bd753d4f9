-- What a head test's answer says of each value of a sort.
use Rattle.std.proofs.Common.{◌≡◌, refl, ◌∙◌, ap, Bool, true, false, not, Some}
use Rattle.std.specs.Bool.{Decides}
use Rattle.std.specs.List.{list_all}
use Rattle.std.proofs.lemmas.Slice.Eq.{bytes_eq-Decides}
use Rattle.kp_kore.specs.Syntax.{KoreSort}
use Rattle.kp_kore.specs.Signature.{KoreSignature, Head, integers, booleans, tokens, constructor_of, heads_of, IsHeadOf}
use Rattle.kp_kore.specs.Value.{Value, whole, truth, token, constructed, HasSort, head_of}
use Rattle.kp_signature.proofs.HeadLemmas.{is_head-Decides, passed_by_heads}
use Rattle.kp_symbolic.specs.States.{HeadTest, one_head, head_of_sort, PassesHead}
use Rattle.kp_symbolic.specs.Heads.{passes_head, answer_of, head_answer}

-- ---- what a head test says

pub passes-Decides : (g : KoreSignature) (test : HeadTest) (h : Head) → Decides (passes_head g test h) (PassesHead g test h)
passes-Decides g (one_head c) (constructor_of d) = ((λ t. ap constructor_of ((bytes_eq-Decides d c).0 t)), (λ e. (bytes_eq-Decides d c).1 (name_inside e)))
  where
    name_inside : constructor_of d ≡ constructor_of c → d ≡ c
    name_inside e = cc
passes-Decides g (one_head c) integers = ((λ t. absurd (cc)), (λ e. absurd (cc)))
passes-Decides g (one_head c) booleans = ((λ t. absurd (cc)), (λ e. absurd (cc)))
passes-Decides g (one_head c) (tokens t) = ((λ h. absurd (cc)), (λ e. absurd (cc)))
passes-Decides g (head_of_sort s) h = is_head-Decides g s h

pub head_from_sort : (g : KoreSignature) (s : KoreSort) (u : Value) → HasSort g s u → IsHeadOf g s (head_of u)
head_from_sort g s (whole n) h = h
head_from_sort g s (truth b) h = h
head_from_sort g s (token t x) h = h
head_from_sort g s (constructed c us) h = h.0

-- an answer is that of each head of the sort
answered : (g : KoreSignature) (test : HeadTest) (h : Head) (a b : Bool) (c : Bool) → answer_of a b ≡ Some c → (a ≡ true → passes_head g test h ≡ true) → (b ≡ true → not (passes_head g test h) ≡ true) → passes_head g test h ≡ c
answered g test h true b c e i j = i refl ∙ (cc)
answered g test h false true c e i j = by (passes_head g test h) (j refl)
  where
    by : (p : Bool) → not p ≡ true → p ≡ c
    by true n = absurd (cc)
    by false n = cc
answered g test h false false c e i j = absurd (cc)

pub head_answer_is : (g : KoreSignature) (s : KoreSort) (test : HeadTest) (u : Value) (c : Bool) → HasSort g s u → head_answer g s test ≡ Some c → passes_head g test (head_of u) ≡ c
head_answer_is g s test u c h e = answered g test (head_of u) (list_all (passes_head g test) (heads_of g s)) (list_all (λ k. not (passes_head g test k)) (heads_of g s)) c e
    (λ a. passed_by_heads g s (head_of u) (passes_head g test) a (head_from_sort g s u h))
    (λ a. passed_by_heads g s (head_of u) (λ k. not (passes_head g test k)) a (head_from_sort g s u h))
