-- Rows of places by turn, one for each head that a rule has, and one of the rules that may have any head.
use Rattle.std.specs.Prelude.{◌≡◌, ◌<◌, ◌≤◌, ℕ, suc, Bool, List, [], ◌∷◌, Option, Some, Vec, unwrap_or, length, map, get_or, slice_get}
use Rattle.std.specs.List.{filter}
use Rattle.std.specs.declared.alloc.Global.{Global}
use Rattle.indexmap.specs.IndexMap.{get_by_text}
use Rattle.kp_kore.specs.Syntax.{Text}
use Rattle.kp_rules.specs.declared.rule.Rule.{Rule}
use Rattle.kp_rule_sets.specs.Tops.{Top, number, truth_value, some_token, constructor_named, has, has_any}
use Rattle.kp_rule_sets.specs.Turns.{is_mine}
use Rattle.kp_rule_sets.specs.Merged.{merged, places_of}
use Rattle.kp_rule_sets.specs.declared.places.Ranked.{Ranked}
use Rattle.kp_rule_sets.specs.declared.index.Index.{Index}

abbrev pub rows_view : List (Vec Ranked Global) → List (List Ranked)
rows_view = map (λ row. row.items)

-- the row of a head, where the constructors have these; 0, which is empty, is that of all other heads
abbrev pub row_of : (Text → Option ℕ) → Top → ℕ
row_of f number = 1
row_of f truth_value = 2
row_of f some_token = 3
row_of f (constructor_named c) = unwrap_or (f c) 0

-- of the places seen so far each head's row has those that are its own, and one list those of all heads, in order; each
-- row is one head's
pub record IsFilled (own : Top → ℕ → Bool) (all : ℕ → Bool) (f : Text → Option ℕ) (rows : List (List Ranked)) (any : List Ranked) (seen : List Ranked) : Type 0 where
  pub told : (h : Top) → get_or rows (row_of f h) [] ≡ filter (λ t. own h t.place) seen
  pub shared : any ≡ filter (λ t. all t.place) seen
  pub empty : get_or rows 0 [] ≡ []
  pub literals : 4 ≤ length rows
  pub low : (c : Text) (n : ℕ) → f c ≡ Some n → 4 ≤ n
  pub high : (c : Text) (n : ℕ) → f c ≡ Some n → n < length rows
  pub apart : (c d : Text) (n : ℕ) → f c ≡ Some n → f d ≡ Some n → c ≡ d

abbrev pub Fills : (Top → ℕ → Bool) → (ℕ → Bool) → List Ranked → Index → Type 0
Fills own all seen index = IsFilled own all (get_by_text index.names) (rows_view index.rows.items) index.any.items seen

-- exactly these heads have the place as their own
abbrev pub Owns : (Top → ℕ → Bool) → (Top → Bool) → ℕ → Type 0
Owns own heads place = (h : Top) → own h place ≡ heads h

-- by what the rules at the places have at their tops
abbrev pub FillsOf : List Rule → List Ranked → Index → Type 0
FillsOf rules = Fills (λ h i. is_mine (has h) (slice_get rules i)) (λ i. is_mine has_any (slice_get rules i))

-- the places with their turns, of which the first has this one
abbrev pub numbered : ℕ → List ℕ → List Ranked
numbered n [] = []
numbered n (i ∷ is) = record { turn = n; place = i } ∷ numbered (suc n) is

-- the row that the index has for a head
abbrev pub row_at : Index → Top → List Ranked
row_at index h = get_or (rows_view index.rows.items) (row_of (get_by_text index.names) h) []

-- the places that the index has for a head
abbrev pub places_at : Index → Top → List ℕ
places_at index h = places_of (merged (row_at index h) index.any.items)
