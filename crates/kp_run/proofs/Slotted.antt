-- The depths that variables are bound to, by slot.
use Rattle.std.proofs.Common.{◌≡◌, refl, sym, ap, ap₂, subst, ◌∙◌, ℕ, zero, suc, ◌+◌, ◌<◌, ◌≤◌, min, true, List, [], ◌∷◌, ◌++◌, length, map, drop, get_or, arith}
use Rattle.std.proofs.lemmas.List.{map-append}
use Rattle.std.proofs.lemmas.Slice.Eq.{bytes_eq-Decides}
use Rattle.kp_kore.specs.Syntax.{Text}
use Rattle.kp_kore.specs.Signature.{KoreSignature}
use Rattle.kp_kore.specs.Value as model
use Rattle.kp_kore.specs.Instance.{Valuation}
use Rattle.kp_ground.specs.Slots.{stands_at, with_name, names_after, is_numbered, joined, left_places}
use Rattle.kp_ground.specs.Terms.{left_value}
use Rattle.kp_ground.specs.LeftView.{left_view}
use Rattle.kp_ground.specs.declared.left_side.CompiledLeft.{CompiledLeft}
use Rattle.kp_ground.proofs.SlotLemmas.{first_so, second_so, with_old, with_new, places_from, no_places, numbered_both, names_both}
use Rattle.kp_run.specs.Depths.{depths_in}
use Rattle.kp_run.specs.View.{AreDepthsOf, AreDepthsUnder, AreDepthsOfLefts, depths_view}
use Rattle.kp_run.specs.declared.depths.Depths.{Depths}
use Rattle.kp_run.proofs.Listed.{as_many, at_place}

-- ---- one variable

many_names : (g : KoreSignature) (v : Valuation) (xs : List Text) (ds : List Depths) → AreDepthsUnder g v xs ds → length ds ≡ length xs
many_names g v xs ds told = as_many depths_view (λ x. depths_in g (v x)) ds xs told

pub stays_bound : (g : KoreSignature) (v : Valuation) (xs : List Text) (x : Text) (i : ℕ) (ds : List Depths) → i < length ds → AreDepthsUnder g v xs ds → stands_at (with_name xs x) x i ≡ true → AreDepthsUnder g v (with_name xs x) ds
stays_bound g v xs x i ds h told stands =
    let long : length ds ≡ length xs = many_names g v xs ds told in
    subst (λ ys. AreDepthsUnder g v ys ds) (sym (with_old xs x i (omega (arith, h, long)) stands)) told

pub one_more_bound : (g : KoreSignature) (v : Valuation) (xs : List Text) (x : Text) (i : ℕ) (ds : List Depths) (d e : Depths) → length ds ≤ i → AreDepthsUnder g v xs ds → stands_at (with_name xs x) x i ≡ true → AreDepthsOf g (v x) d → depths_view e ≡ depths_view d →
    AreDepthsUnder g v (with_name xs x) (ds ++ e ∷ [])
one_more_bound g v xs x i ds d e h told stands is same =
    let long : length ds ≡ length xs = many_names g v xs ds told in
    let all = λ (y : Text). depths_in g (v y) in
    subst (λ ys. AreDepthsUnder g v ys (ds ++ e ∷ [])) (sym (with_new xs x i (omega (arith, h, long)) stands))
    (map-append depths_view ds (e ∷ []) ∙ ap₂ (λ l y. l ++ y ∷ []) told (same ∙ is) ∙ sym (map-append all xs (x ∷ [])))

-- what a slot's variable is bound to
pub depths_of_slot : (g : KoreSignature) (v : Valuation) (xs : List Text) (x : Text) (i : ℕ) (ds : List Depths) (d : Depths) (u : model.Value) → i < length ds → d ≡ get_or ds i d → AreDepthsUnder g v xs ds → stands_at xs x i ≡ true → u ≡ v x → AreDepthsOf g u d
depths_of_slot g v [] x i ds d u h e told stands is = absurd (cc)
depths_of_slot g v (y ∷ ys) x i [] d u h e told stands is = absurd (omega arith)
depths_of_slot g v (y ∷ ys) x zero (a ∷ ds) d u h e told stands is =
    let here : depths_view a ≡ depths_in g (v y) = cc in
    let same : y ≡ x = (bytes_eq-Decides y x).0 stands in
    ap depths_view e ∙ here ∙ ap (λ z. depths_in g (v z)) same ∙ sym (ap (depths_in g) is)
depths_of_slot g v (y ∷ ys) x (suc i) (a ∷ ds) d u h e told stands is =
    let rest : map depths_view ds ≡ map (λ z. depths_in g (v z)) ys = cc in
    depths_of_slot g v ys x i ds d u (omega arith) e rest stands is

-- ---- the arguments of a left term

-- behind the first i left terms, whose variables follow these names: what is bound so far
pub record IsBoundSoFar (g : KoreSignature) (v : Valuation) (xs : List Text) (i : ℕ) (ls : List CompiledLeft) (ds : List Depths) : Type 0 where
  pub names : List Text
  pub told : AreDepthsUnder g v names ds
  pub numbered : is_numbered names (joined (map left_places (drop i ls))) ≡ true
  pub after : names_after names (joined (map left_places (drop i ls))) ≡ names_after xs (joined (map left_places ls))

pub none_so_far : (g : KoreSignature) (v : Valuation) (xs : List Text) (ls : List CompiledLeft) (ds : List Depths) → AreDepthsUnder g v xs ds → is_numbered xs (joined (map left_places ls)) ≡ true → IsBoundSoFar g v xs 0 ls ds
none_so_far g v xs ls ds told numbered = record { names = xs; told = told; numbered = numbered; after = refl }

pub next_so_far : (g : KoreSignature) (v : Valuation) (xs : List Text) (i : ℕ) (ls : List CompiledLeft) (parts ds more : List Depths) (l : CompiledLeft) (part : Depths) →
    i < min (length ls) (length parts) → l ≡ get_or ls i l → part ≡ get_or parts i part → AreDepthsOfLefts g v ls parts →
    ((ys : List Text) → AreDepthsUnder g v ys ds → is_numbered ys (left_places l) ≡ true → AreDepthsOf g (left_value v (left_view l)) part → AreDepthsUnder g v (names_after ys (left_places l)) more) →
    IsBoundSoFar g v xs i ls ds → IsBoundSoFar g v xs (i + 1) ls more
next_so_far g v xs i ls parts ds more l part h e f are bind so =
    let old = so.names in
    let rest = joined (map left_places (drop (i + 1) ls)) in
    let from : joined (map left_places (drop i ls)) ≡ left_places l ++ rest = places_from ls i l (omega (arith, h)) e in
    let both = sym (numbered_both old (left_places l) rest) ∙ sym (ap (is_numbered old) from) ∙ so.numbered in
    let here = at_place depths_view (λ x. depths_in g (left_value v (left_view x))) i parts ls part l are (omega (arith, h)) (omega (arith, h)) f e in
    record {
      names = names_after old (left_places l);
      told = bind old so.told (first_so (is_numbered old (left_places l)) (is_numbered (names_after old (left_places l)) rest) both) here;
      numbered = second_so (is_numbered old (left_places l)) (is_numbered (names_after old (left_places l)) rest) both;
      after = sym (names_both old (left_places l) rest) ∙ sym (ap (names_after old) from) ∙ so.after;
    }

pub all_so_far : (g : KoreSignature) (v : Valuation) (xs : List Text) (i : ℕ) (ls : List CompiledLeft) (parts ds : List Depths) → min (length ls) (length parts) ≤ i → AreDepthsOfLefts g v ls parts →
    IsBoundSoFar g v xs i ls ds → AreDepthsUnder g v (names_after xs (joined (map left_places ls))) ds
all_so_far g v xs i ls parts ds h are so =
    let long : length parts ≡ length ls = as_many depths_view (λ x. depths_in g (left_value v (left_view x))) parts ls are in
    let none : joined (map left_places (drop i ls)) ≡ [] = no_places ls i (omega (arith, h, long)) in
    subst (λ ys. AreDepthsUnder g v ys ds) (sym (ap (names_after so.names) none) ∙ so.after) so.told
