-- The demands of clauses within the limits are sized, and the constants of their comparisons near.
use Rattle.std.proofs.Common.{arith, ◌≡◌, refl, sym, subst, ℕ, ◌+◌, ◌-◌, ◌*◌, ◌^◌, ◌<◌, ◌≤◌, ℤ, pos, negsuc, neg_ℤ, ◌+ℤ◌, ◌-ℤ◌, ◌<ℤ◌, Bool, true, false, not, ◌&&◌, List, [], ◌∷◌, map, length, Option, Some, None}
use Rattle.std.specs.Prelude.{if◌then◌else◌, string_bytes, Vec, unsigned_abs, is_some}
use Rattle.std.specs.Borrow.{Bor}
use Rattle.std.specs.List.{AllByRecursion}
use Rattle.std.specs.Option.{option_map}
use Rattle.std.specs.Str.{bytes_eq}
use Rattle.std.specs.declared.alloc.Global.{Global}
use Rattle.std.proofs.lemmas.Int.{ints}
use Rattle.std.proofs.Math.Nat.{pow-succ'}
use Rattle.std.proofs.Math.Pow.{pow_mono}
use Rattle.std.proofs.lemmas.Nat.{pow_pos}
use Rattle.kp_kore.specs.Syntax.{Text}
use Rattle.kp_kore.specs.Hooks.{Comparison, equal, different, less, at_most, greater, at_least}
use Rattle.kp_kore.specs.Signature.{KoreSignature}
use Rattle.kp_kore.specs.HookView.{comparison_view}
use Rattle.kp_kore.specs.declared.hook.Comparison as gc
use Rattle.kp_kore.specs.Interpretation.{compared}
use Rattle.kp_symbolic.specs.Plain as model
use Rattle.kp_symbolic.specs.Weights.{bounds_of}
use Rattle.kp_demands.specs.Demands.{Sizes, IsSized}
use Rattle.kp_demands.proofs.Lists.{all_append}
use Rattle.kp_clause_demands.specs.Comparing.{ways_of}
use Rattle.kp_clause_demands.specs.declared.comparing.ComparedPart.{ComparedPart}
use Rattle.kp_symbolic.specs.declared.variable.Variable.{Variable}
use Rattle.kp_literals.specs.Forms.{whole_part_view, token_part_view}
use Rattle.kp_literals.specs.declared.form.LiteralForm.{LiteralForm}
use Rattle.kp_literals.specs.declared.form.LiteralForm.TheVariants.{Compares, Truth, Equates, Asks, Gives}
use Rattle.kp_literals.specs.declared.form.WholePart.{WholePart}
use Rattle.kp_literals.specs.declared.reading.ReadLiteral.{ReadLiteral}
use Rattle.kp_clause_demands.specs.Kinds.{are_alike}
use Rattle.kp_clause_demands.specs.Numbers.{texts, place_by, whole_number}
use Rattle.kp_clause_demands.specs.Ways.{decided, part_of, are_constants, token_number, equating, form_ways, said_ways, clause_ways, AreSidesNear, IsSaidNear, AreNearIn, AreWaysSized}
use Rattle.kp_clause_demands.specs.declared.unknowns.Unknowns.{Unknowns}
use Rattle.kp_clause_demands.proofs.Placing.{IsNamed, IsBounded, IsSaidPlaced, AreSaidPlaced, placed_names}

-- ---- constants

above_and_below : (n : ℕ) (c : ℤ) → unsigned_abs c < n → (neg_ℤ (pos n) <ℤ c) × (c <ℤ pos n)
above_and_below n c h = (grind (arith, ints, h), grind (arith, ints, h))

without_sign : (n : ℕ) (c : ℤ) → neg_ℤ (pos n) <ℤ c → c <ℤ pos n → unsigned_abs c < n
without_sign n c h k = grind (arith, ints, h, k)

-- where the difference and at most one less is within a limit, the difference is within twice the limit, both ways
gap_loose : (n m : ℕ) (x y : ℤ) → n ≤ m → 0 < m → unsigned_abs ((y -ℤ x) +ℤ pos 0) < n → (unsigned_abs (y -ℤ x) < 2 * m) × (unsigned_abs (x -ℤ y) < 2 * m)
gap_loose n m x y le some h = let p = above_and_below n ((y -ℤ x) +ℤ pos 0) h in both n m x y le some p.0 p.1
  where
    both : (n m : ℕ) (x y : ℤ) → n ≤ m → 0 < m → neg_ℤ (pos n) <ℤ ((y -ℤ x) +ℤ pos 0) → ((y -ℤ x) +ℤ pos 0) <ℤ pos n → (unsigned_abs (y -ℤ x) < 2 * m) × (unsigned_abs (x -ℤ y) < 2 * m)
    both n m x y le some a b = (without_sign (2 * m) (y -ℤ x) (omega (arith, ints, le, some, a, b)) (omega (arith, ints, le, some, a, b)), without_sign (2 * m) (x -ℤ y) (omega (arith, ints, le, some, a, b)) (omega (arith, ints, le, some, a, b)))

gap_strict : (n m : ℕ) (x y : ℤ) → n ≤ m → 0 < m → unsigned_abs ((y -ℤ x) +ℤ negsuc 0) < n → (unsigned_abs (y -ℤ x) < 2 * m) × (unsigned_abs (x -ℤ y) < 2 * m)
gap_strict n m x y le some h = let p = above_and_below n ((y -ℤ x) +ℤ negsuc 0) h in both n m x y le some p.0 p.1
  where
    both : (n m : ℕ) (x y : ℤ) → n ≤ m → 0 < m → neg_ℤ (pos n) <ℤ ((y -ℤ x) +ℤ negsuc 0) → ((y -ℤ x) +ℤ negsuc 0) <ℤ pos n → (unsigned_abs (y -ℤ x) < 2 * m) × (unsigned_abs (x -ℤ y) < 2 * m)
    both n m x y le some a b = (without_sign (2 * m) (y -ℤ x) (omega (arith, ints, le, some, a, b)) (omega (arith, ints, le, some, a, b)), without_sign (2 * m) (x -ℤ y) (omega (arith, ints, le, some, a, b)) (omega (arith, ints, le, some, a, b)))

swapped : {A B : Type 0} → A × B → B × A
swapped p = (p.1, p.0)

-- the constants of two sides, whichever way they are compared
gaps : (names : List Text) (bits m : ℕ) (c : Comparison) (x y : model.WholePart) → 2 ^ bits ≤ m → 0 < m → AllByRecursion (IsBounded names bits) (bounds_of (model.compares c x y)) → (unsigned_abs (y.constant -ℤ x.constant) < 2 * m) × (unsigned_abs (x.constant -ℤ y.constant) < 2 * m)
gaps names bits m at_most x y le some h = gap_loose (2 ^ bits) m x.constant y.constant le some h.0.most
gaps names bits m less x y le some h = gap_strict (2 ^ bits) m x.constant y.constant le some h.0.most
gaps names bits m at_least x y le some h = swapped (gap_loose (2 ^ bits) m y.constant x.constant le some h.0.most)
gaps names bits m greater x y le some h = swapped (gap_strict (2 ^ bits) m y.constant x.constant le some h.0.most)
gaps names bits m equal x y le some h = gap_loose (2 ^ bits) m x.constant y.constant le some h.0.most
gaps names bits m different x y le some h = gap_strict (2 ^ bits) m x.constant y.constant le some h.0.most

some_named : (names : List Text) (o p : Option (Bor Variable)) → (not (is_some o) && not (is_some p)) ≡ false → IsNamed names (option_map (λ x. string_bytes x.now.name) o) → IsNamed names (option_map (λ x. string_bytes x.now.name) p) → 0 < length names
some_named names (Some x) p e h k = omega (arith, h)
some_named names None (Some x) e h k = omega (arith, k)
some_named names None None e h k = absurd (cc)

sides_near : (u : Unknowns) (bits : ℕ) (c : gc.Comparison) (m n : WholePart) → length (texts u.wholes.items) + bits ≤ 126 → IsSaidPlaced u bits (Some (Compares c m n)) → AreSidesNear u m n
sides_near u bits c m n light h e =
    let names = placed_names u bits c m n h in
    let some = some_named (texts u.wholes.items) m.variable n.variable e names.0 names.1 in
    let few : bits ≤ 125 = omega (arith, light, some) in
    let near = gaps (texts u.wholes.items) bits (2 ^ 125) (comparison_view c) (whole_part_view m) (whole_part_view n) (pow_mono few) (pow_pos 125) h.bounds in
    (subst (λ k. unsigned_abs (n.constant -ℤ m.constant) < k) (sym (pow-succ' 2 125)) near.0, subst (λ k. unsigned_abs (m.constant -ℤ n.constant) < k) (sym (pow-succ' 2 125)) near.1)

said_near : (u : Unknowns) (bits : ℕ) (o : Option LiteralForm) → length (texts u.wholes.items) + bits ≤ 126 → IsSaidPlaced u bits o → IsSaidNear u o
said_near u bits None light h = tt
said_near u bits (Some (Compares c m n)) light h = sides_near u bits c m n light h
said_near u bits (Some (Truth x b)) light h = tt
said_near u bits (Some (Equates b p q)) light h = tt
said_near u bits (Some (Asks x test b)) light h = tt
said_near u bits (Some (Gives x t)) light h = tt

clause_near : (u : Unknowns) (bits : ℕ) (c : List ReadLiteral) → length (texts u.wholes.items) + bits ≤ 126 → AllByRecursion (λ l. IsSaidPlaced u bits l.form) c → AreNearIn u c
clause_near u bits [] light h = tt
clause_near u bits (l ∷ c) light h = (said_near u bits l.form light h.0, clause_near u bits c light h.1)

pub all_near : (u : Unknowns) (bits : ℕ) (cs : List (Vec ReadLiteral Global)) → length (texts u.wholes.items) + bits ≤ 126 → AreSaidPlaced u bits cs → AllByRecursion (λ c. AreNearIn u c.items) cs
all_near u bits [] light h = tt
all_near u bits (c ∷ cs) light h = (clause_near u bits c.items light h.0, all_near u bits cs light h.1)

-- ---- sizes

-- as many unknowns of each kind, and bounds of so many digits
pub record AreSizes (u : Unknowns) (bits : ℕ) (s : Sizes) : Type 0 where
  pub wholes : s.wholes ≡ length (texts u.wholes.items)
  pub truths : s.truths ≡ length (texts u.truths.items)
  pub classes : s.classes ≡ length (map token_part_view u.tokens.items)
  pub digits : s.bits ≡ bits

decided_sized : (s : Sizes) (b : Bool) → AreWaysSized s (decided b)
decided_sized s true = (tt, tt)
decided_sized s false = tt

number_within : (names : List Text) (o : Option Text) (n : ℕ) → n ≡ length names → whole_number names o ≤ n
number_within names None n e = omega arith
number_within names (Some x) n e = less (length names) (place_by bytes_eq names x) n e
  where
    less : (l p n : ℕ) → n ≡ l → l - p ≤ n
    less l p n e = omega (arith, e)

compared_sized : (s : Sizes) (names : List Text) (bits : ℕ) (c : Comparison) (x y : ComparedPart) (m n : model.WholePart) → s.bits ≡ bits → x.place ≤ s.wholes → y.place ≤ s.wholes → x.constant ≡ m.constant → y.constant ≡ n.constant →
    AllByRecursion (IsBounded names bits) (bounds_of (model.compares c m n)) → AreWaysSized s (ways_of c x y)
compared_sized s names bits c x y m n d hx hy ex ey h = by c h
  where
    one : (k : ℤ) → unsigned_abs ((n.constant -ℤ m.constant) +ℤ k) < 2 ^ bits → (x.place ≤ s.wholes) × (y.place ≤ s.wholes) × (unsigned_abs ((y.constant -ℤ x.constant) +ℤ k) < 2 ^ s.bits)
    one k l = (hx, hy, subst (λ j. unsigned_abs ((y.constant -ℤ x.constant) +ℤ k) < 2 ^ j) (sym d) (subst (λ a. unsigned_abs ((y.constant -ℤ a) +ℤ k) < 2 ^ bits) (sym ex) (subst (λ b. unsigned_abs ((b -ℤ m.constant) +ℤ k) < 2 ^ bits) (sym ey) l)))

    other : (k : ℤ) → unsigned_abs ((m.constant -ℤ n.constant) +ℤ k) < 2 ^ bits → (y.place ≤ s.wholes) × (x.place ≤ s.wholes) × (unsigned_abs ((x.constant -ℤ y.constant) +ℤ k) < 2 ^ s.bits)
    other k l = (hy, hx, subst (λ j. unsigned_abs ((x.constant -ℤ y.constant) +ℤ k) < 2 ^ j) (sym d) (subst (λ a. unsigned_abs ((x.constant -ℤ a) +ℤ k) < 2 ^ bits) (sym ey) (subst (λ b. unsigned_abs ((b -ℤ n.constant) +ℤ k) < 2 ^ bits) (sym ex) l)))

    by : (c : Comparison) → AllByRecursion (IsBounded names bits) (bounds_of (model.compares c m n)) → AreWaysSized s (ways_of c x y)
    by at_most h = ((one (pos 0) h.0.most, tt), tt)
    by less h = ((one (negsuc 0) h.0.most, tt), tt)
    by at_least h = ((other (pos 0) h.0.most, tt), tt)
    by greater h = ((other (negsuc 0) h.0.most, tt), tt)
    by equal h = ((one (pos 0) h.0.most, (other (pos 0) h.1.0.most, tt)), tt)
    by different h = ((one (negsuc 0) h.0.most, tt), ((other (negsuc 0) h.1.0.most, tt), tt))

equating_sized : (s : Sizes) (b : Bool) (x y : ℕ) → x < s.classes → y < s.classes → IsSized s (equating b x y)
equating_sized s true x y h k = (h, k)
equating_sized s false x y h k = (h, k)

form_sized : (g : KoreSignature) (u : Unknowns) (bits : ℕ) (s : Sizes) (f : LiteralForm) → AreSizes u bits s → IsSaidPlaced u bits (Some f) → AreWaysSized s (form_ways g u f)
form_sized g u bits s (Compares c m n) z h = by (are_constants m n)
  where
    by : (b : Bool) → AreWaysSized s (if b then decided (compared (comparison_view c) m.constant n.constant) else ways_of (comparison_view c) (part_of u m) (part_of u n))
    by true = decided_sized s (compared (comparison_view c) m.constant n.constant)
    by false = compared_sized s (texts u.wholes.items) bits (comparison_view c) (part_of u m) (part_of u n) (whole_part_view m) (whole_part_view n) z.digits (number_within (texts u.wholes.items) (whole_part_view m).variable s.wholes z.wholes) (number_within (texts u.wholes.items) (whole_part_view n).variable s.wholes z.wholes) refl refl h.bounds
form_sized g u bits s (Truth x b) z h = ((subst (λ n. place_by bytes_eq (texts u.truths.items) (string_bytes x.now.name) < n) (sym z.truths) h.truths.0, tt), tt)
form_sized g u bits s (Equates b p q) z h = by (are_alike g p q)
  where
    by : (c : Bool) → AreWaysSized s (if c then (equating b (token_number u p) (token_number u q) ∷ []) ∷ [] else decided (not b))
    by true = ((equating_sized s b (token_number u p) (token_number u q) (subst (λ n. token_number u p < n) (sym z.classes) h.tokens.0.placed) (subst (λ n. token_number u q < n) (sym z.classes) h.tokens.1.placed), tt), tt)
    by false = decided_sized s (not b)
form_sized g u bits s (Asks x test b) z h = (tt, tt)
form_sized g u bits s (Gives x t) z h = (tt, tt)

said_sized : (g : KoreSignature) (u : Unknowns) (bits : ℕ) (s : Sizes) (o : Option LiteralForm) → AreSizes u bits s → IsSaidPlaced u bits o → AreWaysSized s (said_ways g u o)
said_sized g u bits s (Some f) z h = form_sized g u bits s f z h
said_sized g u bits s None z h = tt

clause_sized : (g : KoreSignature) (u : Unknowns) (bits : ℕ) (s : Sizes) (c : List ReadLiteral) → AreSizes u bits s → AllByRecursion (λ l. IsSaidPlaced u bits l.form) c → AreWaysSized s (clause_ways g u c)
clause_sized g u bits s [] z h = tt
clause_sized g u bits s (l ∷ c) z h = (all_append (λ w. AllByRecursion (IsSized s) w) (said_ways g u l.form) (clause_ways g u c)).1 (said_sized g u bits s l.form z h.0, clause_sized g u bits s c z h.1)

pub all_sized : (g : KoreSignature) (u : Unknowns) (bits : ℕ) (s : Sizes) (cs : List (Vec ReadLiteral Global)) → AreSizes u bits s → AreSaidPlaced u bits cs → AllByRecursion (λ c. AreWaysSized s (clause_ways g u c.items)) cs
all_sized g u bits s [] z h = tt
all_sized g u bits s (c ∷ cs) z h = (clause_sized g u bits s c.items z h.0, all_sized g u bits s cs z h.1)
