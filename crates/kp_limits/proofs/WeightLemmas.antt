-- Weights summed and multiplied along clauses.
use Rattle.std.proofs.Common.{◌≡◌, refl, sym, ap, ◌∙◌, arith, ℕ, ◌+◌, ◌*◌, ◌<◌, ◌≤◌, List, map, length, drop, get_or, Vec}
use Rattle.std.specs.Option.{option_map}
use Rattle.std.specs.declared.alloc.Global.{Global}
use Rattle.std.proofs.Math.Nat.{mul-one, one-mul}
use Rattle.kp_kore.proofs.ListLemmas.{one_left, none_left}
use Rattle.kp_symbolic.specs.Weights as model
use Rattle.kp_literals.specs.Forms.{form_view}
use Rattle.kp_literals.specs.Readings.{read_view, clauses_view}
use Rattle.kp_limits.specs.Told.{told}
use Rattle.kp_literals.specs.declared.reading.ReadLiteral.{ReadLiteral}
use Rattle.kp_limits.proofs.ToldLemmas.{told_plus, told_more, told_times, told_twice}

plus_none : (s : ℕ) → s ≡ s + 0
plus_none s = omega arith

-- ---- literals of a clause

abbrev pub LiteralsLeft : List ReadLiteral → ℕ → ℕ → Type 0
LiteralsLeft ls i s = (told s ≡ s) × (told (s + model.clause_length (map read_view (drop i ls))) ≡ told (model.clause_length (map read_view ls)))

pub literals_more : (ls : List ReadLiteral) (i s f new : ℕ) (l : ReadLiteral) → i < length ls → l ≡ get_or ls i l → f ≡ model.form_length (option_map form_view l.form) → new ≡ told (s + f) → LiteralsLeft ls i s → LiteralsLeft ls (i + 1) new
literals_more ls i s f new l h e is new_is left = (
  (ap told new_is ∙ told_twice (s + f) ∙ sym new_is),
  (ap (λ n. told (n + rest)) new_is ∙ told_plus s f rest ∙ ap (λ k. told (s + (k + rest))) is ∙ ap (λ ms. told (s + model.clause_length (map read_view ms))) (sym (one_left ls i l h e)) ∙ left.1),
)
  where
    rest : ℕ
    rest = model.clause_length (map read_view (drop (i + 1) ls))

pub literals_end : (ls : List ReadLiteral) (i s : ℕ) → length ls ≤ i → LiteralsLeft ls i s → s ≡ told (model.clause_length (map read_view ls))
literals_end ls i s h left = sym left.0 ∙ ap told (plus_none s) ∙ ap (λ ms. told (s + model.clause_length (map read_view ms))) (sym (none_left ls i h)) ∙ left.1

-- ---- literals of clauses

abbrev pub ClausesLeft : List (Vec ReadLiteral Global) → ℕ → ℕ → Type 0
ClausesLeft cs i s = (told s ≡ s) × (told (s + model.all_literals (clauses_view (drop i cs))) ≡ told (model.all_literals (clauses_view cs)))

pub clauses_more : (cs : List (Vec ReadLiteral Global)) (i s f new : ℕ) (c : Vec ReadLiteral Global) → i < length cs → c ≡ get_or cs i c → f ≡ told (model.clause_length (map read_view c.items)) → new ≡ told (s + f) → ClausesLeft cs i s → ClausesLeft cs (i + 1) new
clauses_more cs i s f new c h e is new_is left = (
  (ap told new_is ∙ told_twice (s + f) ∙ sym new_is),
  (ap (λ n. told (n + rest)) (new_is ∙ ap (λ k. told (s + k)) is) ∙ told_more s (model.clause_length (map read_view c.items)) rest ∙ ap (λ ds. told (s + model.all_literals (clauses_view ds))) (sym (one_left cs i c h e)) ∙ left.1),
)
  where
    rest : ℕ
    rest = model.all_literals (clauses_view (drop (i + 1) cs))

pub clauses_end : (cs : List (Vec ReadLiteral Global)) (i s : ℕ) → length cs ≤ i → ClausesLeft cs i s → s ≡ told (model.all_literals (clauses_view cs))
clauses_end cs i s h left = sym left.0 ∙ ap told (plus_none s) ∙ ap (λ ds. told (s + model.all_literals (clauses_view ds))) (sym (none_left cs i h)) ∙ left.1

-- ---- choices

abbrev pub ChoicesLeft : List (Vec ReadLiteral Global) → ℕ → ℕ → Type 0
ChoicesLeft cs i s = (told s ≡ s) × (told (s * model.product_of_lengths (clauses_view (drop i cs))) ≡ told (model.product_of_lengths (clauses_view cs)))

pub choices_none : (cs : List (Vec ReadLiteral Global)) → ChoicesLeft cs 0 1
choices_none cs = (refl, ap told (one-mul (model.product_of_lengths (clauses_view cs))))

pub choices_more : (cs : List (Vec ReadLiteral Global)) (i s f new : ℕ) (c : Vec ReadLiteral Global) → i < length cs → c ≡ get_or cs i c → f ≡ told (model.clause_length (map read_view c.items)) → new ≡ told (s * f) → ChoicesLeft cs i s → ChoicesLeft cs (i + 1) new
choices_more cs i s f new c h e is new_is left = (
  (ap told new_is ∙ told_twice (s * f) ∙ sym new_is),
  (ap (λ n. told (n * rest)) (new_is ∙ ap (λ k. told (s * k)) is) ∙ told_times s (model.clause_length (map read_view c.items)) rest ∙ ap (λ ds. told (s * model.product_of_lengths (clauses_view ds))) (sym (one_left cs i c h e)) ∙ left.1),
)
  where
    rest : ℕ
    rest = model.product_of_lengths (clauses_view (drop (i + 1) cs))

pub choices_end : (cs : List (Vec ReadLiteral Global)) (i s : ℕ) → length cs ≤ i → ChoicesLeft cs i s → s ≡ told (model.product_of_lengths (clauses_view cs))
choices_end cs i s h left = sym left.0 ∙ ap told (sym (mul-one s)) ∙ ap (λ ds. told (s * model.product_of_lengths (clauses_view ds))) (sym (none_left cs i h)) ∙ left.1
