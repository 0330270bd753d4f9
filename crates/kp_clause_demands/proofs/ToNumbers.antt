-- The numbered values that a valuation gives.
use Rattle.std.proofs.Common.{arith, ◌≡◌, refl, sym, ap, subst, ◌∙◌, ◌↔◌, ℕ, zero, suc, ◌-◌, ◌<◌, ◌≤◌, ℤ, pos, Bool, true, false, List, [], ◌∷◌, ◌++◌, map, length, get_or, Option, Some, None}
use Rattle.std.specs.Prelude.{if◌then◌else◌, nat_lt, string_bytes, Vec}
use Rattle.std.specs.List.{AllByRecursion}
use Rattle.std.specs.Str.{bytes_eq}
use Rattle.std.specs.declared.alloc.Global.{Global}
use Rattle.std.proofs.lemmas.Slice.Eq.{bytes_eq-Decides}
use Rattle.kp_kore.specs.Syntax.{Text}
use Rattle.kp_kore.specs.Signature.{KoreSignature}
use Rattle.kp_kore.specs.Value.{Value, truth, values_same, HasSort}
use Rattle.kp_kore.specs.Instance.{Valuation, GivesSorts}
use Rattle.kp_kore.proofs.SameLemmas.{values_same-Decides}
use Rattle.kp_signature.proofs.NumberLemmas.{only_truths}
use Rattle.kp_symbolic.specs.Plain as model
use Rattle.kp_demands.specs.Demands.{Assignment, IsLawful}
use Rattle.kp_demands.specs.Classes.{AreFixed}
use Rattle.kp_demands.proofs.Lists.{all_append}
use Rattle.kp_clause_demands.specs.Saying.{number_of, named_number, token_value}
use Rattle.kp_symbolic.specs.View.{variable_view}
use Rattle.kp_literals.specs.Forms.{whole_part_view, token_part_view}
use Rattle.kp_literals.specs.declared.form.LiteralForm.{LiteralForm}
use Rattle.kp_literals.specs.declared.form.LiteralForm.TheVariants.{Compares, Truth, Equates, Asks, Gives}
use Rattle.kp_literals.specs.declared.reading.ReadLiteral.{ReadLiteral}
use Rattle.kp_literals.specs.Unknowns.{token_variables, unknowns_said, unknowns_in, all_unknowns, IsSaidOfKind, AreSaidOfKind}
use Rattle.kp_clause_demands.specs.Numbers.{texts, place_by, parts_same, is_written, whole_number}
use Rattle.kp_clause_demands.specs.Ways.{truth_number}
use Rattle.kp_clause_demands.specs.declared.unknowns.Unknowns.{Unknowns}
use Rattle.kp_clause_demands.proofs.PlaceLemmas.{place_is}
use Rattle.kp_clause_demands.proofs.Placing.{parts_decide, IsNamed, IsPartPlaced, IsSaidPlaced, AreSaidPlaced, placed_names}
use Rattle.kp_clause_demands.proofs.Sides.{token_of, apart_differ}
use Rattle.kp_clause_demands.proofs.Agreeing.{SaidAgrees, AgreesOnAll}

-- ---- whole numbers

abbrev pub numbers_under : Valuation → List Text → ℕ → ℤ
numbers_under v names zero = pos 0
numbers_under v names (suc k) = number_of (v (get_or names (length names - suc k) []))

number_at : (v : Valuation) (names : List Text) (n : ℕ) → 0 < n → numbers_under v names n ≡ number_of (v (get_or names (length names - n) []))
number_at v names zero h = absurd (omega (arith, h))
number_at v names (suc k) h = refl

some_left : (p n : ℕ) → p < n → 0 < n - p
some_left p n h = omega (arith, h)

back_again : (p n : ℕ) → p < n → n - (n - p) ≡ p
back_again p n h = omega (arith, h)

side_agrees : (v : Valuation) (names : List Text) (o : Option Text) → IsNamed names o → named_number v o ≡ numbers_under v names (whole_number names o)
side_agrees v names None h = refl
side_agrees v names (Some x) h =
    let p = place_by bytes_eq names x in
    let there : get_or names p [] ≡ x = place_is bytes_eq bytes_eq-Decides names x [] h in
    sym (number_at v names (length names - p) (some_left p (length names) h) ∙ ap (λ k. number_of (v (get_or names k []))) (back_again p (length names) h) ∙ ap (λ y. number_of (v y)) there)

-- ---- truth values

abbrev pub truth_said : Value → Bool
truth_said (truth b) = b
truth_said u = false

-- ---- tokens

-- the first are alone, and each of the others is in the class of the first of its value
abbrev pub classes_under : List Value → ℕ → ℕ → ℕ
classes_under values written k = if nat_lt k written then k else place_by values_same values (get_or values k (truth true))

lt_true : (a b : ℕ) → a < b → nat_lt a b ≡ true
lt_true a b h = grind (arith, h)

lt_false : (a b : ℕ) → b ≤ a → nat_lt a b ≡ false
lt_false a b h = grind (arith, h)

values_of_parts : (v : Valuation) → List model.TokenPart → List Value
values_of_parts v ps = map (λ p. token_value v p) ps

same_place : (v : Valuation) (xs ys : List model.TokenPart) (w : Value) → AllByRecursion (λ p. is_written p ≡ true) xs → place_by parts_same (xs ++ ys) (model.one_token w) < length xs →
    place_by parts_same (xs ++ ys) (model.one_token w) ≡ place_by values_same (map (λ p. token_value v p) (xs ++ ys)) w
same_place v [] ys w all h = absurd (omega (arith, h))
same_place v (model.some_token x ∷ xs) ys w all h = absurd (never all.0)
  where
    never : false ≡ true → ⊥
    never p = cc
same_place v (model.one_token u ∷ xs) ys w all h = by (values_same w u) h (same_place v xs ys w all.1)
  where
    by : (b : Bool) → (if b then 0 else suc (place_by parts_same (xs ++ ys) (model.one_token w))) < suc (length xs) →
        (place_by parts_same (xs ++ ys) (model.one_token w) < length xs → place_by parts_same (xs ++ ys) (model.one_token w) ≡ place_by values_same (map (λ p. token_value v p) (xs ++ ys)) w) →
        (if b then 0 else suc (place_by parts_same (xs ++ ys) (model.one_token w))) ≡ (if b then 0 else suc (place_by values_same (map (λ p. token_value v p) (xs ++ ys)) w))
    by true l on = refl
    by false l on = ap suc (on (omega (arith, l)))

value_at : (v : Valuation) (ps : List model.TokenPart) (k : ℕ) (p : model.TokenPart) (d : Value) → k < length ps → get_or ps k p ≡ p → get_or (map (λ q. token_value v q) ps) k d ≡ token_value v p
value_at v [] k p d h e = absurd (omega (arith, h))
value_at v (q ∷ ps) zero p d h e = ap (λ r. token_value v r) e
value_at v (q ∷ ps) (suc k) p d h e = value_at v ps k p d (omega (arith, h)) e

value_itself : (u : Value) → values_same u u ≡ true
value_itself u = (values_same-Decides u u).1 refl

placed_at : (xs : List Value) (k : ℕ) (u d : Value) → k < length xs → get_or xs k d ≡ u → place_by values_same xs u < length xs
placed_at [] k u d h e = absurd (omega (arith, h))
placed_at (x ∷ xs) zero u d h e = by (values_same u x) ((values_same-Decides u x).1 (sym e))
  where
    by : (b : Bool) → b ≡ true → (if b then 0 else suc (place_by values_same xs u)) < suc (length xs)
    by true q = omega arith
    by false q = absurd (cc)
placed_at (x ∷ xs) (suc k) u d h e = by (values_same u x) (placed_at xs k u d (omega (arith, h)) e)
  where
    by : (b : Bool) → place_by values_same xs u < length xs → (if b then 0 else suc (place_by values_same xs u)) < suc (length xs)
    by true l = omega arith
    by false l = omega (arith, l)

-- the parts, with those that are written out first
pub record Fronted (parts : List model.TokenPart) (written : ℕ) : Type 0 where
  pub front : List model.TokenPart
  pub rest : List model.TokenPart
  pub is : parts ≡ front ++ rest
  pub all : AllByRecursion (λ p. is_written p ≡ true) front
  pub long : written ≡ length front

long_as : {X Y : Type 0} (f : X → Y) (xs : List X) → length (map f xs) ≡ length xs
long_as f [] = refl
long_as f (x ∷ xs) = ap suc (long_as f xs)

-- the class of a side is the place of its value
record IsClassed (v : Valuation) (parts : List model.TokenPart) (written : ℕ) (p : model.TokenPart) : Type 0 where
  class_is : classes_under (map (λ q. token_value v q) parts) written (place_by parts_same parts p) ≡ place_by values_same (map (λ q. token_value v q) parts) (token_value v p)
  there : place_by values_same (map (λ q. token_value v q) parts) (token_value v p) < length (map (λ q. token_value v q) parts)

classed : (v : Valuation) (xs ys : List model.TokenPart) (p : model.TokenPart) → AllByRecursion (λ q. is_written q ≡ true) xs → IsPartPlaced (xs ++ ys) (length xs) p → IsClassed v (xs ++ ys) (length xs) p
classed v xs ys p all h =
    let k = place_by parts_same (xs ++ ys) p in
    let values = map (λ q. token_value v q) (xs ++ ys) in
    let at : get_or values k (truth true) ≡ token_value v p = value_at v (xs ++ ys) k p (truth true) h.placed (place_is parts_same parts_decide (xs ++ ys) p p h.placed) in
    record {
      class_is = by_kind p h at;
      there = placed_at values k (token_value v p) (truth true) (subst (λ n. k < n) (sym (long_as (λ q. token_value v q) (xs ++ ys))) h.placed) at;
    }
  where
    by_kind : (p : model.TokenPart) → IsPartPlaced (xs ++ ys) (length xs) p → get_or (map (λ q. token_value v q) (xs ++ ys)) (place_by parts_same (xs ++ ys) p) (truth true) ≡ token_value v p →
        classes_under (map (λ q. token_value v q) (xs ++ ys)) (length xs) (place_by parts_same (xs ++ ys) p) ≡ place_by values_same (map (λ q. token_value v q) (xs ++ ys)) (token_value v p)
    by_kind (model.one_token w) h at =
        let k = place_by parts_same (xs ++ ys) (model.one_token w) in
        ap (λ b. if b then k else place_by values_same (map (λ q. token_value v q) (xs ++ ys)) (get_or (map (λ q. token_value v q) (xs ++ ys)) k (truth true))) (lt_true k (length xs) (h.among refl)) ∙ same_place v xs ys w all (h.among refl)
    by_kind (model.some_token x) h at =
        let k = place_by parts_same (xs ++ ys) (model.some_token x) in
        ap (λ b. if b then k else place_by values_same (map (λ q. token_value v q) (xs ++ ys)) (get_or (map (λ q. token_value v q) (xs ++ ys)) k (truth true))) (lt_false k (length xs) (h.behind refl)) ∙ ap (λ u. place_by values_same (map (λ q. token_value v q) (xs ++ ys)) u) at

classed_in : (v : Valuation) (parts : List model.TokenPart) (written : ℕ) (p : model.TokenPart) → Fronted parts written → IsPartPlaced parts written p → IsClassed v parts written p
classed_in v parts written p f h =
    subst (λ ps. IsClassed v ps written p) (sym f.is) (subst (λ n. IsClassed v (f.front ++ f.rest) n p) (sym f.long) (classed v f.front f.rest p f.all (subst (λ n. IsPartPlaced (f.front ++ f.rest) n p) f.long (subst (λ ps. IsPartPlaced ps written p) f.is h))))

classes_agree : (v : Valuation) (parts : List model.TokenPart) (written : ℕ) (p q : model.TokenPart) → IsClassed v parts written p → IsClassed v parts written q →
    (classes_under (map (λ r. token_value v r) parts) written (place_by parts_same parts p) ≡ classes_under (map (λ r. token_value v r) parts) written (place_by parts_same parts q)) ↔ (token_value v p ≡ token_value v q)
classes_agree v parts written p q hp hq =
    let values = map (λ r. token_value v r) parts in (
      λ e. let same : place_by values_same values (token_value v p) ≡ place_by values_same values (token_value v q) = sym hp.class_is ∙ e ∙ hq.class_is in
          sym (place_is values_same values_same-Decides values (token_value v p) (truth true) hp.there) ∙ ap (λ k. get_or values k (truth true)) same ∙ place_is values_same values_same-Decides values (token_value v q) (truth true) hq.there,
      λ e. hp.class_is ∙ ap (λ u. place_by values_same values u) e ∙ sym hq.class_is,
    )

-- ---- all kinds

abbrev pub to_numbers : Valuation → Unknowns → Assignment
to_numbers v u = record {
  wholes = numbers_under v (texts u.wholes.items);
  truths = λ n. truth_said (v (get_or (texts u.truths.items) n []));
  classes = classes_under (map (λ p. token_value v p) (map token_part_view u.tokens.items)) u.written;
}

alone_first : (values : List Value) (written : ℕ) → AreFixed written (classes_under values written)
alone_first values written x y hx hy e = sym (own x hx) ∙ e ∙ own y hy
  where
    own : (k : ℕ) → k < written → classes_under values written k ≡ k
    own k h = ap (λ b. if b then k else place_by values_same values (get_or values k (truth true))) (lt_true k written h)

pub lawful : (v : Valuation) (u : Unknowns) → IsLawful u.written (to_numbers v u)
lawful v u = record { zero_is = refl; differ = alone_first (map (λ p. token_value v p) (map token_part_view u.tokens.items)) u.written }

said_agrees : (g : KoreSignature) (v : Valuation) (u : Unknowns) (bits : ℕ) (o : Option LiteralForm) → Fronted (map token_part_view u.tokens.items) u.written → IsSaidPlaced u bits o → IsSaidOfKind g o → GivesSorts g v (unknowns_said o) → SaidAgrees g (to_numbers v u) v u o
said_agrees g v u bits None f p k h = tt
said_agrees g v u bits (Some (Compares c m n)) f p k h = let names = placed_names u bits c m n p in (side_agrees v (texts u.wholes.items) (whole_part_view m).variable names.0, side_agrees v (texts u.wholes.items) (whole_part_view n).variable names.1)
said_agrees g v u bits (Some (Truth x b)) f p k h =
    let named : get_or (texts u.truths.items) (truth_number u x.now) [] ≡ string_bytes x.now.name = place_is bytes_eq bytes_eq-Decides (texts u.truths.items) (string_bytes x.now.name) [] p.truths.0 in
    let b = only_truths g (variable_view x.now).sort (v (string_bytes x.now.name)) k h.0 in
    b.1 ∙ ap truth (sym (ap (λ y. truth_said (v y)) named ∙ ap truth_said b.1))
said_agrees g v u bits (Some (Equates b p q)) f pl k h =
    let hs = (all_append (λ x. HasSort g x.sort (v x.name)) (token_variables p) (token_variables q)).0 h in
    let parts = map token_part_view u.tokens.items in
    record {
      alike = λ e. classes_agree v parts u.written (token_part_view p) (token_part_view q) (classed_in v parts u.written (token_part_view p) f pl.tokens.0) (classed_in v parts u.written (token_part_view q) f pl.tokens.1);
      apart = λ e. apart_differ g v p q (token_of g v p k.0 hs.0) (token_of g v q k.1 hs.1) e;
    }
said_agrees g v u bits (Some (Asks x test b)) f p k h = tt
said_agrees g v u bits (Some (Gives x t)) f p k h = tt

clause_agrees : (g : KoreSignature) (v : Valuation) (u : Unknowns) (bits : ℕ) (c : List ReadLiteral) → Fronted (map token_part_view u.tokens.items) u.written → AllByRecursion (λ l. IsSaidPlaced u bits l.form) c → AreSaidOfKind g c → GivesSorts g v (unknowns_in c) → AllByRecursion (λ l. SaidAgrees g (to_numbers v u) v u l.form) c
clause_agrees g v u bits [] f p k h = tt
clause_agrees g v u bits (l ∷ c) f p k h = let hs = (all_append (λ x. HasSort g x.sort (v x.name)) (unknowns_said l.form) (unknowns_in c)).0 h in (said_agrees g v u bits l.form f p.0 k.0 hs.0, clause_agrees g v u bits c f p.1 k.1 hs.1)

pub numbers_agree : (g : KoreSignature) (v : Valuation) (u : Unknowns) (bits : ℕ) (cs : List (Vec ReadLiteral Global)) → Fronted (map token_part_view u.tokens.items) u.written → AreSaidPlaced u bits cs →
    AllByRecursion (λ c. AreSaidOfKind g c.items) cs → GivesSorts g v (all_unknowns cs) → AgreesOnAll g (to_numbers v u) v u cs
numbers_agree g v u bits [] f p k h = tt
numbers_agree g v u bits (c ∷ cs) f p k h = let hs = (all_append (λ x. HasSort g x.sort (v x.name)) (unknowns_in c.items) (all_unknowns cs)).0 h in (clause_agrees g v u bits c.items f p.0 k.0 hs.0, numbers_agree g v u bits cs f p.1 k.1 hs.1)
