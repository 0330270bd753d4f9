-- The unknowns of clauses, each kind numbered apart: whole numbers from 1, truth values and tokens from 0.
-- Source: difference constraints, truth values and equality logic; the numbering is this project's.
use Rattle.std.specs.Prelude.{◌≡◌, ℕ, suc, ◌-◌, nat_lt, Bool, true, false, List, [], ◌∷◌, ◌++◌, map, length, Option, Some, None, String, string_bytes, Vec, if◌then◌else◌}
use Rattle.std.specs.Borrow.{Bor}
use Rattle.std.specs.Bool.{beq}
use Rattle.std.specs.List.{flat_map, list_any}
use Rattle.std.specs.Str.{bytes_eq}
use Rattle.std.specs.declared.alloc.Global.{Global}
use Rattle.kp_kore.specs.Syntax.{Text}
use Rattle.kp_kore.specs.Value.{values_same}
use Rattle.kp_symbolic.specs.Plain as model
use Rattle.kp_symbolic.specs.Weights.{DifferenceBound, name_in, each_once, all_bounds}
use Rattle.kp_literals.specs.Forms.{token_part_view}
use Rattle.kp_literals.specs.Readings.{clauses_view}
use Rattle.kp_literals.specs.declared.form.LiteralForm.{LiteralForm}
use Rattle.kp_literals.specs.declared.form.LiteralForm.TheVariants.{Truth, Equates}
use Rattle.kp_literals.specs.declared.form.TokenPart.{TokenPart}
use Rattle.kp_literals.specs.declared.reading.ReadLiteral.{ReadLiteral}
use Rattle.kp_clause_demands.specs.declared.unknowns.Unknowns.{Unknowns}

abbrev pub texts : List (Bor (String Global)) → List Text
texts = map (λ n. string_bytes n.now)

-- the place of the first that is the same; how many there are, where none is
abbrev pub place_by : {X : Type 0} → (X → X → Bool) → List X → X → ℕ
place_by same [] x = 0
place_by same (y ∷ ys) x = if same x y then 0 else suc (place_by same ys x)

abbrev pub parts_same : model.TokenPart → model.TokenPart → Bool
parts_same (model.some_token x) (model.some_token y) = bytes_eq x y
parts_same (model.one_token u) (model.one_token w) = values_same u w
parts_same p q = false

-- the number of a whole number's variable, 0 for none
abbrev pub whole_number : List Text → Option Text → ℕ
whole_number names (Some x) = length names - place_by bytes_eq names x
whole_number names None = 0

-- ---- which unknowns there are

-- a truth value that is asked for
abbrev pub truths_said : Option LiteralForm → List Text
truths_said (Some (Truth x b)) = string_bytes x.now.name ∷ []
truths_said f = []

abbrev pub is_written : model.TokenPart → Bool
is_written (model.one_token u) = true
is_written (model.some_token x) = false

-- a side, where it is a token that is written out, or where it isn't
abbrev pub part_if : Bool → TokenPart → List model.TokenPart
part_if written p = if beq (is_written (token_part_view p)) written then token_part_view p ∷ [] else []

abbrev pub tokens_said : Bool → Option LiteralForm → List model.TokenPart
tokens_said written (Some (Equates b p q)) = part_if written p ++ part_if written q
tokens_said written f = []

abbrev pub truths_in : List ReadLiteral → List Text
truths_in c = flat_map (λ l. truths_said l.form) c

abbrev pub tokens_in : Bool → List ReadLiteral → List model.TokenPart
tokens_in written c = flat_map (λ l. tokens_said written l.form) c

abbrev pub all_truths : List (Vec ReadLiteral Global) → List Text
all_truths cs = flat_map (λ c. truths_in c.items) cs

abbrev pub all_tokens : Bool → List (Vec ReadLiteral Global) → List model.TokenPart
all_tokens written cs = flat_map (λ c. tokens_in written c.items) cs

-- the variables of bounds, one for each place
abbrev pub names_in_bounds : List DifferenceBound → List Text
names_in_bounds bs = flat_map (λ b. name_in b.first ++ name_in b.second) bs

-- with one more name, where it isn't there
abbrev pub with_name : List Text → Text → List Text
with_name xs x = if nat_lt (place_by bytes_eq xs x) (length xs) then xs else xs ++ x ∷ []

-- these are the names, each once
pub record AreEachOnce (found names : List Text) : Type 0 where
  pub named : (y : Text) → list_any (bytes_eq y) found ≡ list_any (bytes_eq y) names
  pub counted : length found ≡ length (each_once names)

-- all unknowns of the clauses have numbers; tokens that are written out go first
pub record AreUnknownsOf (cs : List (Vec ReadLiteral Global)) (u : Unknowns) : Type 0 where
  pub wholes : AreEachOnce (texts u.wholes.items) (names_in_bounds (all_bounds (clauses_view cs)))
  pub truths : texts u.truths.items ≡ all_truths cs
  pub tokens : map token_part_view u.tokens.items ≡ all_tokens true cs ++ all_tokens false cs
  pub written : u.written ≡ length (all_tokens true cs)
