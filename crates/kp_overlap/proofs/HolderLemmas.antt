-- Holders, place by place.
use Rattle.std.proofs.Common.{◌≡◌, ◌≢◌, ℕ, suc, ◌+◌, ◌<◌, ◌≤◌, refl, sym, ap, subst, ◌∙◌, List, [], ◌∷◌, length, get_or, set, arith, inl, inr, Option, Some, None}
use Rattle.std.proofs.lemmas.Bool.{cases_lt, cases_order}
use Rattle.std.proofs.lemmas.List.{get_or_default, length-set, get_or-set_same, get_or-set_other}
use Rattle.kp_kore.specs.Syntax.{Text}
use Rattle.kp_kore.specs.Signature.{KoreSignature}
use Rattle.kp_kore.specs.Value.{Value, constructed}
use Rattle.kp_overlap.specs.Graphs.{IsAt, Graph, Shape as ModelShape, any_value, never, leaf, made, HasShape, values_at, AreBelow}
use Rattle.kp_overlap.specs.Held.{IsLeafShape, TellsShapes, TellsShapesAt, AreShapes, AreHoldersBelow, IsClosedAt, TellsSet, TellsPlace}
use Rattle.kp_overlap.specs.Labels.{HaveOneLabel, HaveOneLabelEach, SaySame, IsClosed, AreHolders, IsShapeIn, IsGraph}
use Rattle.kp_overlap.specs.Views.{shape_view}
use Rattle.kp_overlap.specs.declared.graph.PlaceShape.{PlaceShape}
use Rattle.kp_overlap.specs.declared.label_holders.Agreement.{Agreement}
use Rattle.kp_overlap.specs.declared.label_holders.Agreement.TheVariants.{Same, Clash, Apart}

-- ---- places of lists

pub one_there : {X : Type 0} (xs : List X) (n : ℕ) (x y : X) → IsAt xs n x → IsAt xs n y → x ≡ y
one_there xs n x y h i = sym h.1 ∙ get_or_default xs n x y h.0 ∙ i.1

pub there : (ls : List ℕ) (n : ℕ) → n < length ls → IsAt ls n (get_or ls n 0)
there ls n lt = (lt, get_or_default ls n (get_or ls n 0) 0 lt)

pub each_of_all : (ls ns ms : List ℕ) → length ns ≡ length ms → ((k : ℕ) → k < length ns → HaveOneLabel ls (get_or ns k 0) (get_or ms k 0)) → HaveOneLabelEach ls ns ms
each_of_all ls [] [] e h = tt
each_of_all ls [] (m ∷ ms) e h = absurd (omega arith)
each_of_all ls (n ∷ ns) [] e h = absurd (omega arith)
each_of_all ls (n ∷ ns) (m ∷ ms) e h = (h 0 (omega arith), each_of_all ls ns ms (omega arith) (λ k lt. h (suc k) (omega arith)))

each_own : (ls ns : List ℕ) (k : ℕ) → length ls ≡ k → AreBelow k ns → HaveOneLabelEach ls ns ns
each_own ls [] k e h = tt
each_own ls (n ∷ ns) k e h =
    let at : IsAt ls n (get_or ls n 0) = there ls n (subst (λ m. n < m) (sym e) h.0) in
    ((get_or ls n 0, at, at), each_own ls ns k e h.1)

-- ---- two shapes

pub values_long : (a : ℕ → Value) (ns ms : List ℕ) → values_at a ns ≡ values_at a ms → length ns ≡ length ms
values_long a [] [] e = refl
values_long a [] (m ∷ ms) e = absurd (cc)
values_long a (n ∷ ns) [] e = absurd (cc)
values_long a (n ∷ ns) (m ∷ ms) e =
    let rest : values_at a ns ≡ values_at a ms = cc in
    ap suc (values_long a ns ms rest)

pub members_long : (a : ℕ → Value) (u : Value) (f h : Text) (ns ms : List ℕ) → u ≡ constructed f (values_at a ns) → u ≡ constructed h (values_at a ms) → length ns ≡ length ms
members_long a u f h ns ms e i =
    let same : values_at a ns ≡ values_at a ms = cc in
    values_long a ns ms same

pub shapes_told : (ls : List ℕ) (s t p q : PlaceShape) (r : Agreement) → s ≡ p → t ≡ q → TellsShapes ls (shape_view p) (shape_view q) r → TellsShapes ls (shape_view s) (shape_view t) r
shapes_told ls s t p q r e i h =
    subst (λ x. TellsShapes ls (shape_view x) (shape_view t) r) (sym e) (subst (λ x. TellsShapes ls (shape_view p) (shape_view x) r) (sym i) h)

-- ---- one place more

closed_never : (s : ModelShape) → IsClosed s → s ≡ never → ⊥
closed_never s h e = subst IsClosed e h

-- what is asked of the places below, and of this one
one_more : (n : ℕ) (xs : List ModelShape) (ls : List ℕ) (hs : List (Option ℕ)) (s : ModelShape) → IsAt xs n s → ¬ (s ≡ never) → AreHoldersBelow n xs ls hs →
    ((l : ℕ) → IsClosed s → IsAt ls n l → (h : ℕ) × (t : ModelShape) × IsAt hs l (Some h) × IsAt xs h t × SaySame ls s t) → AreHoldersBelow (n + 1) xs ls hs
one_more n xs ls hs s at differs old here = record {
  long = old.long;
  none_never = λ m lt i. elim (cases_lt m n) [
    | inl below ↦ old.none_never m below i
    | inr above ↦ let is : m ≡ n = omega arith in
        differs (one_there xs n s never at (subst (λ k. IsAt xs k never) is i))
  ];
  held = λ m l p lt i closed j. elim (cases_lt m n) [
    | inl below ↦ old.held m l p below i closed j
    | inr above ↦ let is : m ≡ n = omega arith in
        let same : s ≡ p = one_there xs n s p at (subst (λ k. IsAt xs k p) is i) in
        let found = here l (subst IsClosed (sym same) closed) (subst (λ k. IsAt ls k l) is j) in
        (found.0, found.1, found.2, found.3, subst (λ q. SaySame ls q found.1) same found.4)
  ];
  holds = old.holds;
}

pub open_passed : (n : ℕ) (xs : List ModelShape) (ls : List ℕ) (hs : List (Option ℕ)) (s : ModelShape) → IsAt xs n s → ¬ (s ≡ never) → ¬ IsClosed s → AreHoldersBelow n xs ls hs → AreHoldersBelow (n + 1) xs ls hs
open_passed n xs ls hs s at differs tells_none old = one_more n xs ls hs s at differs old (λ l closed j. absurd (tells_none closed))

-- its label has a holder
pub place_held : (xs : List ModelShape) (ls : List ℕ) (n l h : ℕ) (hs : List (Option ℕ)) (r : Agreement) → IsAt hs l (Some h) → TellsShapesAt xs ls n h r → IsAt ls n l → IsClosedAt xs n → TellsPlace xs ls n hs hs r
place_held xs ls n l h hs Same at told label closed = λ fit old.
    let s = closed.0 in
    let of_holder = old.holds l h at in
    one_more n xs ls hs s closed.1 (closed_never s closed.2) old (λ m c j.
    let is : l ≡ m = one_there ls n l m label j in
    (h, of_holder.0, subst (λ k. IsAt hs k (Some h)) is at, of_holder.1, told s of_holder.0 closed.1 of_holder.1))
place_held xs ls n l h hs Clash at told label closed = λ a fit old shapes follows.
    let s = closed.0 in
    let of_holder = old.holds l h at in
    let t = of_holder.0 in
    let same : a h ≡ a n = follows h l of_holder.3 ∙ sym (follows n l label) in
    told s t closed.1 of_holder.1 a (a n) (fit.leaves n s closed.1) (fit.leaves h t of_holder.1) (shapes n s closed.1) (subst (λ u. HasShape a t u) same (shapes h t of_holder.1))
place_held xs ls n l h hs Apart at told label closed = tt

some_same : (n m : ℕ) → Some n ≡ Some m → n ≡ m
some_same n m e = cc

pub none_some : (n : ℕ) → None ≡ Some n → ⊥
none_some n e = cc

set_there : (hs : List (Option ℕ)) (l : ℕ) (o : Option ℕ) → l < length hs → IsAt (set hs l o) l o
set_there hs l o lt = (subst (λ k. l < k) (sym (length-set hs l o)) lt, get_or-set_same hs l o o lt)

kept_there : (hs : List (Option ℕ)) (l m : ℕ) (o p : Option ℕ) → m ≢ l → IsAt hs m p → IsAt (set hs l o) m p
kept_there hs l m o p differs h = (subst (λ k. m < k) (sym (length-set hs l o)) h.0, get_or-set_other hs l m o p differs ∙ h.1)

was_there : (hs : List (Option ℕ)) (l m : ℕ) (o p : Option ℕ) → m ≢ l → IsAt (set hs l o) m p → IsAt hs m p
was_there hs l m o p differs h = (subst (λ k. m < k) (length-set hs l o) h.0, sym (get_or-set_other hs l m o p differs) ∙ h.1)

-- it becomes the holder of its label
holder_set : (xs : List ModelShape) (ls : List ℕ) (n l : ℕ) (hs : List (Option ℕ)) → l < length hs → ((h : ℕ) → ¬ IsAt hs l (Some h)) → IsAt ls n l → IsClosedAt xs n → AreHoldersBelow n xs ls hs → AreHoldersBelow n xs ls (set hs l (Some n))
holder_set xs ls n l hs lt free label closed old = record {
  long = length-set hs l (Some n) ∙ old.long;
  none_never = old.none_never;
  held = λ m k s below i c j.
      let found = old.held m k s below i c j in
      let differs : k ≢ l = λ e. free found.0 (subst (λ q. IsAt hs q (Some found.0)) e found.2) in
      (found.0, found.1, kept_there hs l k (Some n) (Some found.0) differs found.2, found.3, found.4);
  holds = λ k h i. elim (cases_order k l) [
    | inl is ↦ let e : n ≡ h = some_same n h (one_there (set hs l (Some n)) l (Some n) (Some h) (set_there hs l (Some n) lt) (subst (λ q. IsAt (set hs l (Some n)) q (Some h)) is i)) in
        (closed.0, subst (λ q. IsAt xs q closed.0) e closed.1, closed.2, subst (λ q. IsAt ls q k) e (subst (λ q. IsAt ls n q) (sym is) label))
    | inr other ↦ let differs : k ≢ l = λ e. elim other [ inl b ↦ omega arith | inr b ↦ omega arith ] in
        old.holds k h (was_there hs l k (Some n) (Some h) differs i)
  ];
}

pub place_set : (xs : List ModelShape) (ls : List ℕ) (n l : ℕ) (hs ks : List (Option ℕ)) (r : Agreement) → ((h : ℕ) → ¬ IsAt hs l (Some h)) → TellsSet l n hs ks r → IsAt ls n l → IsClosedAt xs n → TellsPlace xs ls n hs ks r
place_set xs ls n l hs ks Same free told label closed = λ fit old.
    let s = closed.0 in
    let next : AreHoldersBelow n xs ls (set hs l (Some n)) = holder_set xs ls n l hs told.0 free label closed old in
    subst (λ q. AreHoldersBelow (n + 1) xs ls q) (sym told.1) (one_more n xs ls (set hs l (Some n)) s closed.1 (closed_never s closed.2) next (λ m c j.
    let is : l ≡ m = one_there ls n l m label j in
    (n, s, subst (λ k. IsAt (set hs l (Some n)) k (Some n)) is (set_there hs l (Some n) told.0), closed.1, fit.same n s closed.1 c)))
place_set xs ls n l hs ks Clash free told label closed = absurd told
place_set xs ls n l hs ks Apart free told label closed = tt

-- ---- all places

-- its members are places
abbrev IsMade : ℕ → ModelShape → Type 0
IsMade k any_value = Unit {0}
IsMade k never = Unit {0}
IsMade k (leaf w) = Unit {0}
IsMade k (made f ns) = AreBelow k ns

says_itself : (ls : List ℕ) (k : ℕ) (s : ModelShape) → length ls ≡ k → IsMade k s → IsClosed s → SaySame ls s s
says_itself ls k any_value e h c = absurd c
says_itself ls k never e h c = absurd c
says_itself ls k (leaf w) e h c = refl
says_itself ls k (made f ns) e h c = (refl, each_own ls ns k e h)

made_in : (g : KoreSignature) (x : Graph) (s : ModelShape) → IsShapeIn g x s → IsMade (length x.shapes) s
made_in g x any_value h = tt
made_in g x never h = tt
made_in g x (leaf w) h = tt
made_in g x (made f ns) h = h.0

leaf_in : (g : KoreSignature) (x : Graph) (s : ModelShape) → IsShapeIn g x s → IsLeafShape s
leaf_in g x any_value h = tt
leaf_in g x never h = tt
leaf_in g x (leaf w) h = h
leaf_in g x (made f ns) h = tt

pub shapes_fit : (g : KoreSignature) (x : Graph) (xs : List ModelShape) (ls : List ℕ) → x.shapes ≡ xs → IsGraph g x → length ls ≡ length x.shapes → AreShapes xs ls
shapes_fit g x xs ls e graph long = subst (λ q. AreShapes q ls) e (record {
  same = λ n s at closed. says_itself ls (length x.shapes) s long (made_in g x s (graph.shapes n s at)) closed;
  leaves = λ n s at. leaf_in g x s (graph.shapes n s at);
})

pub all_held : (x : Graph) (xs : List ModelShape) (ls : List ℕ) (hs : List (Option ℕ)) (k : ℕ) → x.shapes ≡ xs → length xs ≤ k → AreHoldersBelow k xs ls hs → AreHolders x ls hs
all_held x xs ls hs k e long h = subst (λ (q : List ModelShape). AreHolders (record x { shapes = q }) ls hs) (sym e) (record {
  long = h.long;
  none_never = λ n at. h.none_never n (omega (arith, at.0)) at;
  held = λ n l s at closed j. h.held n l s (omega (arith, at.0)) at closed j;
  holds = h.holds;
})
