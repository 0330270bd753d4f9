-- Lists of names, each once.
use Rattle.std.proofs.Common.{◌≡◌, refl, sym, ap, subst, ◌∙◌, Bool, true, false, ◌||◌, cond, List, [], ◌∷◌, ◌++◌, ◌⊎◌, inl, inr}
use Rattle.std.specs.List.{AllByRecursion, flat_map}
use Rattle.std.specs.Str.{bytes_eq}
use Rattle.std.proofs.lemmas.List.{append-nil, append_assoc}
use Rattle.std.proofs.lemmas.List.Folds.{list_any-append}
use Rattle.std.proofs.lemmas.Slice.Eq.{bytes_eq-Decides}
use Rattle.kp_kore.specs.Syntax.{Text}
use Rattle.kp_kore.specs.Theory.{each_once}
use Rattle.kp_imports.specs.Reaching.{has, collect, AllIn}

pub false_true : {A : Type 0} → false ≡ true → A
false_true h = absurd (cc)

pub or_false : (b : Bool) → b ≡ (b || false)
or_false true = refl
or_false false = refl

pub or_true : (b : Bool) → (b || true) ≡ true
or_true true = refl
or_true false = refl

pub or_cases : (a b : Bool) → (a || b) ≡ true → (a ≡ true) ⊎ (b ≡ true)
or_cases true b h = inl refl
or_cases false b h = inr h

pub has_more : (n x : Text) (done : List Text) → has n (done ++ x ∷ []) ≡ (has n done || (bytes_eq n x || false))
has_more n x done = list_any-append (bytes_eq n) done (x ∷ [])

pub collect-append : (done xs ys : List Text) → collect done (xs ++ ys) ≡ collect (collect done xs) ys
collect-append done [] ys = refl
collect-append done (x ∷ xs) ys = by (has x done) (collect-append done xs ys) (collect-append (done ++ x ∷ []) xs ys)
  where
    by : (b : Bool) → collect done (xs ++ ys) ≡ collect (collect done xs) ys → collect (done ++ x ∷ []) (xs ++ ys) ≡ collect (collect (done ++ x ∷ []) xs) ys →
        cond b (collect done (xs ++ ys)) (collect (done ++ x ∷ []) (xs ++ ys)) ≡ collect (cond b (collect done xs) (collect (done ++ x ∷ []) xs)) ys
    by true h k = h
    by false h k = k

absorb : (a e h : Bool) → (e ≡ true → a ≡ true) → (a || h) ≡ (a || (e || h))
absorb true e h k = refl
absorb false true h k = false_true (k refl)
absorb false false h k = refl

further : (a e h : Bool) → ((a || (e || false)) || h) ≡ (a || (e || h))
further true e h = refl
further false true h = refl
further false false h = refl

pub has_collect : (n : Text) (done xs : List Text) → has n (collect done xs) ≡ (has n done || has n xs)
has_collect n done [] = or_false (has n done)
has_collect n done (x ∷ xs) = by (has x done) refl (has_collect n done xs) (has_collect n (done ++ x ∷ []) xs)
  where
    by : (b : Bool) → has x done ≡ b → has n (collect done xs) ≡ (has n done || has n xs) → has n (collect (done ++ x ∷ []) xs) ≡ (has n (done ++ x ∷ []) || has n xs) →
        has n (cond b (collect done xs) (collect (done ++ x ∷ []) xs)) ≡ (has n done || (bytes_eq n x || has n xs))
    by true q h k = h ∙ absorb (has n done) (bytes_eq n x) (has n xs) (λ e. subst (λ m. has m done ≡ true) (sym ((bytes_eq-Decides n x).0 e)) q)
    by false q h k = k ∙ ap (λ b. b || has n xs) (has_more n x done) ∙ further (has n done) (bytes_eq n x) (has n xs)

-- names that are there already
pub skipped : (done xs : List Text) → AllIn done xs → collect done xs ≡ done
skipped done [] h = refl
skipped done (x ∷ xs) h = ap (λ b. cond b (collect done xs) (collect (done ++ x ∷ []) xs)) h.0 ∙ skipped done xs h.1

twice : (done d xs : List Text) → collect done (collect d xs) ≡ collect (collect done d) xs
twice done d [] = refl
twice done d (x ∷ xs) = by (has x d) refl (twice done d xs) (twice done (d ++ x ∷ []) xs)
  where
    by : (b : Bool) → has x d ≡ b → collect done (collect d xs) ≡ collect (collect done d) xs → collect done (collect (d ++ x ∷ []) xs) ≡ collect (collect done (d ++ x ∷ [])) xs →
        collect done (cond b (collect d xs) (collect (d ++ x ∷ []) xs)) ≡ collect (collect done d) (x ∷ xs)
    by true q h k = h ∙ sym (ap (λ b. cond b (collect (collect done d) xs) (collect (collect done d ++ x ∷ []) xs)) (has_collect x done d ∙ ap (λ b. has x done || b) q ∙ or_true (has x done)))
    by false q h k = k ∙ ap (λ l. collect l xs) (collect-append done d (x ∷ [])) ∙ sym (collect-append (collect done d) (x ∷ []) xs)

turned : (e s d : Bool) → s ≡ d → (e || s) ≡ (d || (e || false))
turned true s d h = sym (or_true d)
turned false s d h = h ∙ or_false d

once : (seen done xs : List Text) → ((n : Text) → has n seen ≡ has n done) → done ++ each_once seen xs ≡ collect done xs
once seen done [] h = append-nil done
once seen done (x ∷ xs) h =
    by (has x seen) (once seen done xs h) (once (x ∷ seen) (done ++ x ∷ []) xs (λ n. turned (bytes_eq n x) (has n seen) (has n done) (h n) ∙ sym (has_more n x done)))
    ∙ ap (λ b. cond b (collect done xs) (collect (done ++ x ∷ []) xs)) (h x)
  where
    by : (b : Bool) → done ++ each_once seen xs ≡ collect done xs → (done ++ x ∷ []) ++ each_once (x ∷ seen) xs ≡ collect (done ++ x ∷ []) xs →
        done ++ cond b (each_once seen xs) (x ∷ each_once (x ∷ seen) xs) ≡ cond b (collect done xs) (collect (done ++ x ∷ []) xs)
    by true p q = p
    by false p q = sym (append_assoc done (x ∷ []) (each_once (x ∷ seen) xs)) ∙ q

pub each_once_is : (xs : List Text) → each_once [] xs ≡ collect [] xs
each_once_is xs = once [] [] xs (λ n. refl)

pub collected_once : (done xs : List Text) → collect done (each_once [] xs) ≡ collect done xs
collected_once done xs = ap (collect done) (each_once_is xs) ∙ twice done [] xs

-- ---- what holds of all

pub all_append : {X : Type 0} (P : X → Type 0) (xs ys : List X) → AllByRecursion P xs → AllByRecursion P ys → AllByRecursion P (xs ++ ys)
all_append P [] ys h k = k
all_append P (x ∷ xs) ys h k = (h.0, all_append P xs ys h.1 k)

pub all_flat : {X Y : Type 0} (Q : X → Type 0) (P : Y → Type 0) (f : X → List Y) (xs : List X) → AllByRecursion Q xs → ((x : X) → Q x → AllByRecursion P (f x)) → AllByRecursion P (flat_map f xs)
all_flat Q P f [] h k = tt
all_flat Q P f (x ∷ xs) h k = all_append P (f x) (flat_map f xs) (k x h.0) (all_flat Q P f xs h.1 k)

pub all_more : {X : Type 0} (P Q : X → Type 0) (xs : List X) → AllByRecursion P xs → ((x : X) → P x → Q x) → AllByRecursion Q xs
all_more P Q [] h k = tt
all_more P Q (x ∷ xs) h k = (k x h.0, all_more P Q xs h.1 k)

pub flat_same : {X Y : Type 0} (Q : X → Type 0) (f g : X → List Y) (xs : List X) → AllByRecursion Q xs → ((x : X) → Q x → f x ≡ g x) → flat_map f xs ≡ flat_map g xs
flat_same Q f g [] h k = refl
flat_same Q f g (x ∷ xs) h k = ap (λ l. l ++ flat_map f xs) (k x h.0) ∙ ap (λ l. g x ++ l) (flat_same Q f g xs h.1 k)

pub all_once : (P : Text → Type 0) (seen xs : List Text) → AllByRecursion P xs → AllByRecursion P (each_once seen xs)
all_once P seen [] h = tt
all_once P seen (x ∷ xs) h = by (has x seen) (all_once P seen xs h.1) (h.0, all_once P (x ∷ seen) xs h.1)
  where
    by : (b : Bool) → AllByRecursion P (each_once seen xs) → AllByRecursion P (x ∷ each_once (x ∷ seen) xs) → AllByRecursion P (cond b (each_once seen xs) (x ∷ each_once (x ∷ seen) xs))
    by true p q = p
    by false p q = q
