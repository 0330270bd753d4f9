-- Lists that are made of the heads of a sort, one by one.
use Rattle.std.proofs.Common.{◌≡◌, refl, sym, ap, ◌∙◌, Bool, true, false, ◌&&◌, cond, List, [], ◌∷◌, ◌++◌, map}
use Rattle.std.specs.List.{filter}
use Rattle.std.proofs.lemmas.List.{append_assoc, append-nil}
use Rattle.kp_kore.specs.Signature.{Head}

-- found so far, and what is left
pub taken : {X : Type 0} (f : Head → X) (keep : Head → Bool) (found new whole : List X) (before after : List Head) (h : Head) → before ≡ h ∷ after → keep h ≡ true → new ≡ found ++ f h ∷ [] →
    found ++ map f (filter keep before) ≡ whole → new ++ map f (filter keep after) ≡ whole
taken f keep found new whole before after h e k n is =
    ap (λ xs. xs ++ map f (filter keep after)) n ∙ append_assoc found (f h ∷ []) (map f (filter keep after))
    ∙ sym (ap (λ xs. found ++ map f xs) (ap (filter keep) e ∙ ap (λ b. cond b (h ∷ filter keep after) (filter keep after)) k)) ∙ is

pub left_out : {X : Type 0} (f : Head → X) (keep : Head → Bool) (found whole : List X) (before after : List Head) (h : Head) → before ≡ h ∷ after → keep h ≡ false →
    found ++ map f (filter keep before) ≡ whole → found ++ map f (filter keep after) ≡ whole
left_out f keep found whole before after h e k is =
    sym (ap (λ xs. found ++ map f xs) (ap (filter keep) e ∙ ap (λ b. cond b (h ∷ filter keep after) (filter keep after)) k)) ∙ is

pub none_left : {X : Type 0} (f : Head → X) (keep : Head → Bool) (found whole : List X) (before : List Head) → before ≡ [] → found ++ map f (filter keep before) ≡ whole → found ≡ whole
none_left f keep found whole before e is = sym (append-nil found) ∙ sym (ap (λ hs. found ++ map f (filter keep hs)) e) ∙ is

-- two tests, one after the other
pub both_tests : (more keep : Head → Bool) (xs : List Head) → filter (λ h. more h && keep h) xs ≡ filter keep (filter more xs)
both_tests more keep [] = refl
both_tests more keep (x ∷ xs) = by (more x) (keep x) refl (both_tests more keep xs)
  where
    kept : List Head
    kept = filter keep (filter more xs)

    by : (b c : Bool) → keep x ≡ c → filter (λ h. more h && keep h) xs ≡ kept →
        cond (b && c) (x ∷ filter (λ h. more h && keep h) xs) (filter (λ h. more h && keep h) xs) ≡ filter keep (cond b (x ∷ filter more xs) (filter more xs))
    by true true k e = ap (λ ys. x ∷ ys) e ∙ sym (ap (λ d. cond d (x ∷ kept) kept) k)
    by true false k e = e ∙ sym (ap (λ d. cond d (x ∷ kept) kept) k)
    by false c k e = e

pub begins : {X : Type 0} (f : Head → X) (keep : Head → Bool) (found : List X) (left all : List Head) → found ≡ [] → left ≡ all → found ++ map f (filter keep left) ≡ map f (filter keep all)
begins f keep found left all e h = ap (λ xs. xs ++ map f (filter keep left)) e ∙ ap (λ hs. map f (filter keep hs)) h
