-- Where numbered values agree with a valuation on the unknowns of a form, one of its ways is met exactly where what it asks
-- holds.
use Rattle.std.proofs.Common.{arith, ◌≡◌, refl, sym, ap, subst, ◌∙◌, ◌↔◌, ◌⊎◌, inl, inr, ℕ, ℤ, pos, ◌+ℤ◌, Bool, true, false, not, ◌&&◌, List, [], ◌∷◌, ◌++◌, map, Option, Some, None, Bor}
use Rattle.std.specs.Prelude.{if◌then◌else◌, MatchBool, is_some, string_bytes, ⊤, Vec}
use Rattle.std.specs.List.{AllByRecursion}
use Rattle.std.specs.Option.{option_map}
use Rattle.std.specs.declared.alloc.Global.{Global}
use Rattle.std.proofs.lemmas.Int.{ints}
use Rattle.kp_kore.specs.Hooks.{Comparison}
use Rattle.kp_kore.specs.Signature.{KoreSignature}
use Rattle.kp_kore.specs.HookView.{comparison_view}
use Rattle.kp_kore.specs.Value.{Value, truth}
use Rattle.kp_kore.specs.Interpretation.{compared}
use Rattle.kp_kore.specs.Instance.{Valuation}
use Rattle.kp_symbolic.specs.Formulas.{NotAllFalse}
use Rattle.kp_demands.specs.Demands.{Assignment, IsMetBy, HasWay}
use Rattle.kp_demands.specs.declared.demand.Demand.{Demand}
use Rattle.kp_clause_demands.specs.Comparing.{part_number, ways_of}
use Rattle.kp_clause_demands.specs.Saying.{named_number, whole_value, token_value}
use Rattle.kp_clause_demands.proofs.WayLemmas.{says, through}
use Rattle.kp_symbolic.specs.declared.variable.Variable.{Variable}
use Rattle.kp_literals.specs.Forms.{whole_part_view, token_part_view, form_view}
use Rattle.kp_literals.specs.Readings.{read_view, clauses_view}
use Rattle.kp_literals.specs.declared.form.LiteralForm.{LiteralForm}
use Rattle.kp_literals.specs.declared.form.LiteralForm.TheVariants.{Compares, Truth, Equates, Asks, Gives}
use Rattle.kp_literals.specs.declared.form.WholePart.{WholePart}
use Rattle.kp_literals.specs.declared.form.TokenPart.{TokenPart}
use Rattle.kp_literals.specs.declared.reading.ReadLiteral.{ReadLiteral}
use Rattle.kp_clause_demands.specs.Asking.{AsksTruly, IsAskedTruly, AreAskedTruly}
use Rattle.kp_clause_demands.specs.Kinds.{are_alike}
use Rattle.kp_clause_demands.specs.Numbers.{texts, whole_number}
use Rattle.kp_clause_demands.specs.Ways.{HasWays, decided, part_of, is_constant, are_constants, truth_number, token_number, equating, comparing, token_ways, form_ways, said_ways, clause_ways}
use Rattle.kp_clause_demands.specs.declared.unknowns.Unknowns.{Unknowns}

-- ---- agreeing

abbrev pub side_number : Assignment → Unknowns → WholePart → ℤ
side_number a u m = a.wholes (whole_number (texts u.wholes.items) (whole_part_view m).variable)

abbrev pub AgreesOnSide : Assignment → Valuation → Unknowns → WholePart → Type 0
AgreesOnSide a v u m = named_number v (whole_part_view m).variable ≡ side_number a u m

-- tokens of one sort are equal exactly where their classes are, and those of two sorts differ
pub record AgreesOnTokens (g : KoreSignature) (a : Assignment) (v : Valuation) (u : Unknowns) (p q : TokenPart) : Type 0 where
  pub alike : are_alike g p q ≡ true → (a.classes (token_number u p) ≡ a.classes (token_number u q)) ↔ (token_value v (token_part_view p) ≡ token_value v (token_part_view q))
  pub apart : are_alike g p q ≡ false → ¬ (token_value v (token_part_view p) ≡ token_value v (token_part_view q))

abbrev pub Agrees : KoreSignature → Assignment → Valuation → Unknowns → LiteralForm → Type 0
Agrees g a v u (Compares c m n) = AgreesOnSide a v u m × AgreesOnSide a v u n
Agrees g a v u (Truth x b) = v (string_bytes x.now.name) ≡ truth (a.truths (truth_number u x.now))
Agrees g a v u (Equates b p q) = AgreesOnTokens g a v u p q
Agrees g a v u (Asks x test b) = ⊤
Agrees g a v u (Gives x t) = ⊤

abbrev pub SaidAgrees : KoreSignature → Assignment → Valuation → Unknowns → Option LiteralForm → Type 0
SaidAgrees g a v u (Some f) = Agrees g a v u f
SaidAgrees g a v u None = ⊤

-- ---- comparisons

zero_plus : (n : ℤ) → pos 0 +ℤ n ≡ n
zero_plus n = omega (arith, ints)

side_is : (a : Assignment) (v : Valuation) (u : Unknowns) (m : WholePart) → AgreesOnSide a v u m → part_number a.wholes (part_of u m) ≡ whole_value v (whole_part_view m)
side_is a v u m h = ap (λ n. n +ℤ m.constant) (sym h)

constant_is : (v : Valuation) (m : WholePart) → is_constant m ≡ true → whole_value v (whole_part_view m) ≡ m.constant
constant_is v m e = by m.variable refl
  where
    by : (o : Option (Bor Variable)) → m.variable ≡ o → whole_value v (whole_part_view m) ≡ m.constant
    by None q = ap (λ o. named_number v (option_map (λ x. string_bytes x.now.name) o) +ℤ m.constant) q ∙ zero_plus m.constant
    by (Some x) q = absurd (never (sym e ∙ ap (λ o. not (is_some o)) q))
      where
        never : true ≡ false → ⊥
        never p = cc

both_true : (a b : Bool) → (a && b) ≡ true → (a ≡ true) × (b ≡ true)
both_true true true e = (refl, refl)
both_true true false e = absurd (cc)
both_true false b e = absurd (cc)

decided_is : (a : Assignment) (b : Bool) → HasWay a (decided b) ↔ (b ≡ true)
decided_is a true = (λ h. refl, λ e. inl tt)
decided_is a false = (λ h. absurd h, λ e. absurd (never e))
  where
    never : false ≡ true → ⊥
    never p = cc

compares_is : (g : KoreSignature) (a : Assignment) (v : Valuation) (u : Unknowns) (c : Comparison) (m n : WholePart) → AgreesOnSide a v u m → AgreesOnSide a v u n →
    HasWay a (comparing u c m n) ↔ (compared c (whole_value v (whole_part_view m)) (whole_value v (whole_part_view n)) ≡ true)
compares_is g a v u c m n hm hn = by (are_constants m n) refl
  where
    by : (b : Bool) → are_constants m n ≡ b → HasWay a (if b then decided (compared c m.constant n.constant) else ways_of c (part_of u m) (part_of u n)) ↔ (compared c (whole_value v (whole_part_view m)) (whole_value v (whole_part_view n)) ≡ true)
    by true e =
        let p = both_true (is_constant m) (is_constant n) e in
        let same : compared c m.constant n.constant ≡ compared c (whole_value v (whole_part_view m)) (whole_value v (whole_part_view n)) = ap (λ k. compared c k n.constant) (sym (constant_is v m p.0)) ∙ ap (λ k. compared c (whole_value v (whole_part_view m)) k) (sym (constant_is v n p.1)) in
        subst (λ b. HasWay a (decided (compared c m.constant n.constant)) ↔ (b ≡ true)) same (decided_is a (compared c m.constant n.constant))
    by false e =
        let same : compared c (part_number a.wholes (part_of u m)) (part_number a.wholes (part_of u n)) ≡ compared c (whole_value v (whole_part_view m)) (whole_value v (whole_part_view n)) = ap (λ k. compared c k (part_number a.wholes (part_of u n))) (side_is a v u m hm) ∙ ap (λ k. compared c (whole_value v (whole_part_view m)) k) (side_is a v u n hn) in
        subst (λ b. HasWay a (ways_of c (part_of u m) (part_of u n)) ↔ (b ≡ true)) same (says a c (part_of u m) (part_of u n))

-- ---- truth values and tokens

alone : {A : Type 0} → ((A × Unit {0}) ⊎ ⊥) ↔ A
alone {A} = (to, λ a. inl (a, tt))
  where
    to : (A × Unit {0}) ⊎ ⊥ → A
    to (inl h) = h.0
    to (inr h) = absurd h

truth_inside : {b c : Bool} → truth b ≡ truth c → b ≡ c
truth_inside e = cc

truth_asked : (u : Value) (b c : Bool) → u ≡ truth b → (b ≡ c) ↔ (u ≡ truth c)
truth_asked u b c e = (λ q. e ∙ ap truth q, λ q. truth_inside (sym e ∙ q))

refuted : {A B : Type 0} → A ↔ B → (¬ A) ↔ (¬ B)
refuted f = (λ n b. n (f.1 b), λ n a. n (f.0 a))

equates_is : (a : Assignment) (b : Bool) (x y : ℕ) (s t : Value) → (a.classes x ≡ a.classes y) ↔ (s ≡ t) → HasWay a ((equating b x y ∷ []) ∷ []) ↔ MatchBool b (s ≡ t) (¬ (s ≡ t))
equates_is a true x y s t f = through alone f
equates_is a false x y s t f = through alone (refuted f)

differ_is : (a : Assignment) (b : Bool) (s t : Value) → ¬ (s ≡ t) → HasWay a (decided (not b)) ↔ MatchBool b (s ≡ t) (¬ (s ≡ t))
differ_is a true s t n = (λ h. absurd h, λ e. absurd (n e))
differ_is a false s t n = (λ h. n, λ h. inl tt)

tokens_is : (g : KoreSignature) (a : Assignment) (v : Valuation) (u : Unknowns) (b : Bool) (p q : TokenPart) → AgreesOnTokens g a v u p q →
    HasWay a (token_ways g u b p q) ↔ MatchBool b (token_value v (token_part_view p) ≡ token_value v (token_part_view q)) (¬ (token_value v (token_part_view p) ≡ token_value v (token_part_view q)))
tokens_is g a v u b p q h = by (are_alike g p q) h.alike h.apart
  where
    by : (c : Bool) → (c ≡ true → (a.classes (token_number u p) ≡ a.classes (token_number u q)) ↔ (token_value v (token_part_view p) ≡ token_value v (token_part_view q))) → (c ≡ false → ¬ (token_value v (token_part_view p) ≡ token_value v (token_part_view q))) →
        HasWay a (if c then (equating b (token_number u p) (token_number u q) ∷ []) ∷ [] else decided (not b)) ↔ MatchBool b (token_value v (token_part_view p) ≡ token_value v (token_part_view q)) (¬ (token_value v (token_part_view p) ≡ token_value v (token_part_view q)))
    by true alike apart = equates_is a b (token_number u p) (token_number u q) (token_value v (token_part_view p)) (token_value v (token_part_view q)) (alike refl)
    by false alike apart = differ_is a b (token_value v (token_part_view p)) (token_value v (token_part_view q)) (apart refl)

-- ---- forms and clauses

pub form_is : (g : KoreSignature) (a : Assignment) (v : Valuation) (u : Unknowns) (f : LiteralForm) → Agrees g a v u f → HasWay a (form_ways g u f) ↔ AsksTruly g v (form_view f)
form_is g a v u (Compares c m n) h = compares_is g a v u (comparison_view c) m n h.0 h.1
form_is g a v u (Truth x b) h = through alone (truth_asked (v (string_bytes x.now.name)) (a.truths (truth_number u x.now)) b h)
form_is g a v u (Equates b p q) h = tokens_is g a v u b p q h
form_is g a v u (Asks x test b) h = (λ k. tt, λ k. inl tt)
form_is g a v u (Gives x t) h = (λ k. tt, λ k. inl tt)

said_is : (g : KoreSignature) (a : Assignment) (v : Valuation) (u : Unknowns) (o : Option LiteralForm) → SaidAgrees g a v u o → HasWay a (said_ways g u o) ↔ IsAskedTruly g v (option_map form_view o)
said_is g a v u (Some f) h = form_is g a v u f h
said_is g a v u None h = (λ k. k, λ k. k)

one_of_both : (a : Assignment) (ws xs : List (List Demand)) → HasWay a (ws ++ xs) ↔ (HasWay a ws ⊎ HasWay a xs)
one_of_both a [] xs = (λ h. inr h, to)
  where
    to : ⊥ ⊎ HasWay a xs → HasWay a xs
    to (inl h) = absurd h
    to (inr h) = h
one_of_both a (w ∷ ws) xs = let on = one_of_both a ws xs in (to on.0, back on.1)
  where
    to : (HasWay a (ws ++ xs) → HasWay a ws ⊎ HasWay a xs) → AllByRecursion (IsMetBy a) w ⊎ HasWay a (ws ++ xs) → (AllByRecursion (IsMetBy a) w ⊎ HasWay a ws) ⊎ HasWay a xs
    to f (inl h) = inl (inl h)
    to f (inr h) = next (f h)
      where
        next : HasWay a ws ⊎ HasWay a xs → (AllByRecursion (IsMetBy a) w ⊎ HasWay a ws) ⊎ HasWay a xs
        next (inl k) = inl (inr k)
        next (inr k) = inr k

    back : (HasWay a ws ⊎ HasWay a xs → HasWay a (ws ++ xs)) → (AllByRecursion (IsMetBy a) w ⊎ HasWay a ws) ⊎ HasWay a xs → AllByRecursion (IsMetBy a) w ⊎ HasWay a (ws ++ xs)
    back f (inl (inl h)) = inl h
    back f (inl (inr h)) = inr (f (inl h))
    back f (inr h) = inr (f (inr h))

-- a way that is met is one of a literal that is asked truly
met_is_asked : (g : KoreSignature) (a : Assignment) (v : Valuation) (u : Unknowns) (c : List ReadLiteral) → AllByRecursion (λ l. SaidAgrees g a v u l.form) c → HasWay a (clause_ways g u c) → NotAllFalse (λ l. IsAskedTruly g v l.form) (map read_view c)
met_is_asked g a v u [] h w none = w
met_is_asked g a v u (l ∷ c) h w none = by ((one_of_both a (said_ways g u l.form) (clause_ways g u c)).0 w) (λ k. met_is_asked g a v u c h.1 k none.1)
  where
    by : HasWay a (said_ways g u l.form) ⊎ HasWay a (clause_ways g u c) → (HasWay a (clause_ways g u c) → ⊥) → ⊥
    by (inl k) rest = none.0 ((said_is g a v u l.form h.0).0 k)
    by (inr k) rest = rest k

-- where no way is met, no literal is asked truly
unmet_is_unasked : (g : KoreSignature) (a : Assignment) (v : Valuation) (u : Unknowns) (c : List ReadLiteral) → AllByRecursion (λ l. SaidAgrees g a v u l.form) c → ¬ HasWay a (clause_ways g u c) → AllByRecursion (λ l. ¬ IsAskedTruly g v l.form) (map read_view c)
unmet_is_unasked g a v u [] h none = tt
unmet_is_unasked g a v u (l ∷ c) h none =
    let both = one_of_both a (said_ways g u l.form) (clause_ways g u c) in
    (λ k. none (both.1 (inl ((said_is g a v u l.form h.0).1 k))), unmet_is_unasked g a v u c h.1 (λ w. none (both.1 (inr w))))

-- ---- all clauses

abbrev pub AgreesOnAll : KoreSignature → Assignment → Valuation → Unknowns → List (Vec ReadLiteral Global) → Type 0
AgreesOnAll g a v u cs = AllByRecursion (λ c. AllByRecursion (λ l. SaidAgrees g a v u l.form) c.items) cs

pub met_are_asked : (g : KoreSignature) (a : Assignment) (v : Valuation) (u : Unknowns) (cs : List (Vec ReadLiteral Global)) → AgreesOnAll g a v u cs → HasWays g a u cs → AreAskedTruly g v (clauses_view cs)
met_are_asked g a v u [] h w = tt
met_are_asked g a v u (c ∷ cs) h w = (met_is_asked g a v u c.items h.0 w.0, met_are_asked g a v u cs h.1 w.1)

-- into what is refuted, one way of each clause may be taken
pub refute_asked : (g : KoreSignature) (a : Assignment) (v : Valuation) (u : Unknowns) (cs : List (Vec ReadLiteral Global)) → AgreesOnAll g a v u cs → AreAskedTruly g v (clauses_view cs) → ¬ HasWays g a u cs → ⊥
refute_asked g a v u [] h asked none = none tt
refute_asked g a v u (c ∷ cs) h asked none = asked.0 (unmet_is_unasked g a v u c.items h.0 (λ w. refute_asked g a v u cs h.1 asked.1 (λ ws. none (w, ws))))
