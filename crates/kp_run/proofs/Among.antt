-- One member of a list and all others; lists place by place.
use Rattle.std.proofs.Common.{List, [], ◌∷◌, ◌++◌, inl, inr}
use Rattle.std.specs.List.{AllByRecursion, AllZip}
use Rattle.kp_kore.specs.Steps.{AnyByRecursion}
use Rattle.kp_ground.proofs.MatchLemmas.{AllByRecursion-push}
use Rattle.kp_run.specs.Causes.{TwoAmong}
use Rattle.kp_run.specs.Runs.{OneBetween}
use Rattle.kp_run.specs.Turns.{OneAmong}

pub all_along : {X : Type 0} (P Q : X → Type 0) → ((x : X) → P x → Q x) → (xs : List X) → AllByRecursion P xs → AllByRecursion Q xs
all_along P Q f [] a = tt
all_along P Q f (x ∷ xs) a = (f x a.0, all_along P Q f xs a.1)

pub all_and_last : {X : Type 0} (P : X → Type 0) (xs : List X) (x : X) → AllByRecursion P xs → P x → AllByRecursion P (xs ++ x ∷ [])
all_and_last P xs x a p = (AllByRecursion-push P xs x).1 (a, p)

-- ---- the one and the others

pub one_all : {X : Type 0} (P Q S : X → Type 0) → ((x : X) → P x → S x) → ((x : X) → Q x → S x) → (xs : List X) → OneAmong P Q xs → AllByRecursion S xs
one_all P Q S p q [] a = absurd a
one_all P Q S p q (x ∷ xs) (inl h) = (p x h.0, all_along Q S q xs h.1)
one_all P Q S p q (x ∷ xs) (inr h) = (q x h.0, one_all P Q S p q xs h.1)

pub one_any : {X : Type 0} (P Q S : X → Type 0) → ((x : X) → P x → S x) → (xs : List X) → OneAmong P Q xs → AnyByRecursion S xs
one_any P Q S p [] a = absurd a
one_any P Q S p (x ∷ xs) (inl h) = inl (p x h.0)
one_any P Q S p (x ∷ xs) (inr h) = inr (one_any P Q S p xs h.1)

pub of_the_one : {X : Type 0} (P Q : X → Type 0) (Z : Type 0) → ((x : X) → P x → Z) → (xs : List X) → OneAmong P Q xs → Z
of_the_one P Q Z f [] a = absurd a
of_the_one P Q Z f (x ∷ xs) (inl h) = f x h.0
of_the_one P Q Z f (x ∷ xs) (inr h) = of_the_one P Q Z f xs h.1

pub one_and_last : {X : Type 0} (P Q : X → Type 0) (xs : List X) (x : X) → OneAmong P Q xs → Q x → OneAmong P Q (xs ++ x ∷ [])
one_and_last P Q [] x a q = absurd a
one_and_last P Q (y ∷ ys) x (inl h) q = inl (h.0, all_and_last Q ys x h.1 q)
one_and_last P Q (y ∷ ys) x (inr h) q = inr (h.0, one_and_last P Q ys x h.1 q)

pub last_is_the_one : {X : Type 0} (P Q : X → Type 0) (xs : List X) (x : X) → AllByRecursion Q xs → P x → OneAmong P Q (xs ++ x ∷ [])
last_is_the_one P Q [] x a p = inl (p, tt)
last_is_the_one P Q (y ∷ ys) x a p = inr (a.0, last_is_the_one P Q ys x a.1 p)

-- ---- some member

pub any_and_more : {X : Type 0} (P : X → Type 0) (xs ys : List X) → AnyByRecursion P xs → AnyByRecursion P (xs ++ ys)
any_and_more P [] ys a = absurd a
any_and_more P (x ∷ xs) ys (inl a) = inl a
any_and_more P (x ∷ xs) ys (inr a) = inr (any_and_more P xs ys a)

pub any_along : {X : Type 0} (P Q : X → Type 0) → ((x : X) → P x → Q x) → (xs : List X) → AnyByRecursion P xs → AnyByRecursion Q xs
any_along P Q f [] a = absurd a
any_along P Q f (x ∷ xs) (inl a) = inl (f x a)
any_along P Q f (x ∷ xs) (inr a) = inr (any_along P Q f xs a)

any_last : {X : Type 0} (P : X → Type 0) (xs : List X) (x : X) → P x → AnyByRecursion P (xs ++ x ∷ [])
any_last P [] x p = inl p
any_last P (y ∷ xs) x p = inr (any_last P xs x p)

-- ---- two places

pub two_and_more : {X : Type 0} (P : X → Type 0) (xs ys : List X) → TwoAmong P xs → TwoAmong P (xs ++ ys)
two_and_more P [] ys a = absurd a
two_and_more P (x ∷ xs) ys (inl a) = inl (a.0, any_and_more P xs ys a.1)
two_and_more P (x ∷ xs) ys (inr a) = inr (two_and_more P xs ys a)

pub two_and_last : {X : Type 0} (P : X → Type 0) (xs : List X) (x : X) → AnyByRecursion P xs → P x → TwoAmong P (xs ++ x ∷ [])
two_and_last P [] x a p = absurd a
two_and_last P (y ∷ xs) x (inl a) p = inl (a, any_last P xs x p)
two_and_last P (y ∷ xs) x (inr a) p = inr (two_and_last P xs x a p)

-- ---- some member, beside all

pub of_some : {X : Type 0} (P S : X → Type 0) (Z : Type 0) → ((x : X) → P x → S x → Z) → (xs : List X) → AllByRecursion P xs → AnyByRecursion S xs → Z
of_some P S Z f [] a s = absurd s
of_some P S Z f (x ∷ xs) a (inl s) = f x a.0 s
of_some P S Z f (x ∷ xs) a (inr s) = of_some P S Z f xs a.1 s

pub of_any : {X : Type 0} (P : X → Type 0) (Z : Type 0) → ((x : X) → P x → Z) → (xs : List X) → AnyByRecursion P xs → Z
of_any P Z f [] a = absurd a
of_any P Z f (x ∷ xs) (inl a) = f x a
of_any P Z f (x ∷ xs) (inr a) = of_any P Z f xs a

-- ---- place by place

pub zip_all : {X Y : Type 0} (R : X → Y → Type 0) (P : Y → Type 0) (S : X → Type 0) → ((x : X) (y : Y) → R x y → P y → S x) → (xs : List X) (ys : List Y) → AllZip R xs ys → AllByRecursion P ys → AllByRecursion S xs
zip_all R P S f [] [] z a = tt
zip_all R P S f [] (y ∷ ys) z a = tt
zip_all R P S f (x ∷ xs) [] z a = absurd z
zip_all R P S f (x ∷ xs) (y ∷ ys) z a = (f x y z.0 a.0, zip_all R P S f xs ys z.1 a.1)

pub zip_any : {X Y : Type 0} (R : X → Y → Type 0) (P : Y → Type 0) (S : X → Type 0) → ((x : X) (y : Y) → R x y → P y → S x) → (xs : List X) (ys : List Y) → AllZip R xs ys → AnyByRecursion P ys → AnyByRecursion S xs
zip_any R P S f xs [] z a = absurd a
zip_any R P S f [] (y ∷ ys) z a = absurd z
zip_any R P S f (x ∷ xs) (y ∷ ys) z (inl a) = inl (f x y z.0 a)
zip_any R P S f (x ∷ xs) (y ∷ ys) z (inr a) = inr (zip_any R P S f xs ys z.1 a)

pub zip_any_back : {X Y : Type 0} (R : X → Y → Type 0) (P : Y → Type 0) (S : X → Type 0) → ((x : X) (y : Y) → R x y → S x → P y) → (xs : List X) (ys : List Y) → AllZip R xs ys → AnyByRecursion S xs → AnyByRecursion P ys
zip_any_back R P S f [] ys z a = absurd a
zip_any_back R P S f (x ∷ xs) [] z a = absurd z
zip_any_back R P S f (x ∷ xs) (y ∷ ys) z (inl a) = inl (f x y z.0 a)
zip_any_back R P S f (x ∷ xs) (y ∷ ys) z (inr a) = inr (zip_any_back R P S f xs ys z.1 a)

pub zip_one : {X Y : Type 0} (R : X → Y → Type 0) (P Q : Y → Type 0) (S T : X → Type 0) → ((x : X) (y : Y) → R x y → P y → S x) → ((x : X) (y : Y) → R x y → Q y → T x) →
    (xs : List X) (ys : List Y) → AllZip R xs ys → OneAmong P Q ys → OneAmong S T xs
zip_one R P Q S T p q xs [] z a = absurd a
zip_one R P Q S T p q [] (y ∷ ys) z a = absurd z
zip_one R P Q S T p q (x ∷ xs) (y ∷ ys) z (inl a) = inl (p x y z.0 a.0, zip_all R Q T q xs ys z.1 a.1)
zip_one R P Q S T p q (x ∷ xs) (y ∷ ys) z (inr a) = inr (q x y z.0 a.0, zip_one R P Q S T p q xs ys z.1 a.1)

pub zip_two : {X Y : Type 0} (R : X → Y → Type 0) (P : Y → Type 0) (S : X → Type 0) → ((x : X) (y : Y) → R x y → P y → S x) → (xs : List X) (ys : List Y) → AllZip R xs ys → TwoAmong P ys → TwoAmong S xs
zip_two R P S f xs [] z a = absurd a
zip_two R P S f [] (y ∷ ys) z a = absurd z
zip_two R P S f (x ∷ xs) (y ∷ ys) z (inl a) = inl (f x y z.0 a.0, zip_any R P S f xs ys z.1 a.1)
zip_two R P S f (x ∷ xs) (y ∷ ys) z (inr a) = inr (zip_two R P S f xs ys z.1 a)

-- ---- none

-- beside the one: some member of the others isn't, two aren't
pub none_in : {X : Type 0} (P S : X → Type 0) → ((x : X) → P x → S x → ⊥) → (xs : List X) → AllByRecursion P xs → AnyByRecursion S xs → ⊥
none_in P S f xs a s = of_some P S ⊥ f xs a s

pub no_two : {X : Type 0} (P S : X → Type 0) → ((x : X) → P x → S x → ⊥) → (xs : List X) → AllByRecursion P xs → TwoAmong S xs → ⊥
no_two P S f [] a s = absurd s
no_two P S f (x ∷ xs) a (inl s) = f x a.0 s.0
no_two P S f (x ∷ xs) a (inr s) = no_two P S f xs a.1 s

pub one_not_two : {X : Type 0} (P Q S : X → Type 0) → ((x : X) → Q x → S x → ⊥) → (xs : List X) → OneAmong P Q xs → TwoAmong S xs → ⊥
one_not_two P Q S f [] a s = absurd s
one_not_two P Q S f (x ∷ xs) (inl a) (inl s) = none_in Q S f xs a.1 s.1
one_not_two P Q S f (x ∷ xs) (inl a) (inr s) = no_two Q S f xs a.1 s
one_not_two P Q S f (x ∷ xs) (inr a) (inl s) = f x a.0 s.0
one_not_two P Q S f (x ∷ xs) (inr a) (inr s) = one_not_two P Q S f xs a.1 s

-- of two members that have the turn, where only one may, they are the same
pub same_one : {X : Type 0} (T W V : X → Type 0) → (xs : List X) → ¬ TwoAmong T xs → AnyByRecursion (λ x. T x × W x) xs → AnyByRecursion (λ x. T x × V x) xs → AnyByRecursion (λ x. W x × V x) xs
same_one T W V [] n a b = absurd a
same_one T W V (x ∷ xs) n (inl a) (inl b) = inl (a.1, b.1)
same_one T W V (x ∷ xs) n (inl a) (inr b) = absurd (n (inl (a.0, any_along (λ y. T y × V y) T (λ y h. h.0) xs b)))
same_one T W V (x ∷ xs) n (inr a) (inl b) = absurd (n (inl (b.0, any_along (λ y. T y × W y) T (λ y h. h.0) xs a)))
same_one T W V (x ∷ xs) n (inr a) (inr b) = inr (same_one T W V xs (λ two. n (inr two)) a b)

-- ---- one, those before it and those after it

pub between_any : {X : Type 0} (P Q S Z : X → Type 0) → ((x : X) → P x → Z x) → (xs : List X) → OneBetween P Q S xs → AnyByRecursion Z xs
between_any P Q S Z f [] a = absurd a
between_any P Q S Z f (x ∷ xs) (inl h) = inl (f x h.0)
between_any P Q S Z f (x ∷ xs) (inr h) = inr (between_any P Q S Z f xs h.1)

pub between_all : {X : Type 0} (P Q S Z : X → Type 0) → ((x : X) → P x → Z x) → ((x : X) → Q x → Z x) → ((x : X) → S x → Z x) → (xs : List X) → OneBetween P Q S xs → AllByRecursion Z xs
between_all P Q S Z p q s [] a = absurd a
between_all P Q S Z p q s (x ∷ xs) (inl h) = (p x h.0, all_along S Z s xs h.1)
between_all P Q S Z p q s (x ∷ xs) (inr h) = (q x h.0, between_all P Q S Z p q s xs h.1)

pub between_and_last : {X : Type 0} (P Q S : X → Type 0) (xs : List X) (x : X) → OneBetween P Q S xs → S x → OneBetween P Q S (xs ++ x ∷ [])
between_and_last P Q S [] x a s = absurd a
between_and_last P Q S (y ∷ ys) x (inl h) s = inl (h.0, all_and_last S ys x h.1 s)
between_and_last P Q S (y ∷ ys) x (inr h) s = inr (h.0, between_and_last P Q S ys x h.1 s)

pub last_between : {X : Type 0} (P Q S : X → Type 0) (xs : List X) (x : X) → AllByRecursion Q xs → P x → OneBetween P Q S (xs ++ x ∷ [])
last_between P Q S [] x a p = inl (p, tt)
last_between P Q S (y ∷ ys) x a p = inr (a.0, last_between P Q S ys x a.1 p)

pub zip_between : {X Y : Type 0} (R : X → Y → Type 0) (P Q S : Y → Type 0) (A B C : X → Type 0) → ((x : X) (y : Y) → R x y → P y → A x) → ((x : X) (y : Y) → R x y → Q y → B x) → ((x : X) (y : Y) → R x y → S y → C x) →
    (xs : List X) (ys : List Y) → AllZip R xs ys → OneBetween P Q S ys → OneBetween A B C xs
zip_between R P Q S A B C p q s xs [] z a = absurd a
zip_between R P Q S A B C p q s [] (y ∷ ys) z a = absurd z
zip_between R P Q S A B C p q s (x ∷ xs) (y ∷ ys) z (inl a) = inl (p x y z.0 a.0, zip_all R S C s xs ys z.1 a.1)
zip_between R P Q S A B C p q s (x ∷ xs) (y ∷ ys) z (inr a) = inr (q x y z.0 a.0, zip_between R P Q S A B C p q s xs ys z.1 a.1)
