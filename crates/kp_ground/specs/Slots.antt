-- Slots: a compiled term tells of each variable by which number its value is found among the values that a match gives.
-- The variables of a left term are numbered in the order of their first places.
use Rattle.std.specs.Prelude.{Bool, true, false, ◌&&◌, if◌then◌else◌, ℕ, zero, suc, List, [], ◌∷◌, ◌++◌, map, string_bytes}
use Rattle.std.specs.List.{list_all, list_any}
use Rattle.std.specs.Str.{bytes_eq}
use Rattle.kp_kore.specs.Syntax.{Text}
use Rattle.kp_ground.specs.declared.left_side.CompiledLeft.{CompiledLeft, fold-CompiledLeft}
use Rattle.kp_ground.specs.declared.left_side.CompiledLeft.TheOpen.{CompiledLeft-F}
use Rattle.kp_ground.specs.declared.term.CompiledTerm.{CompiledTerm, fold-CompiledTerm}
use Rattle.kp_ground.specs.declared.term.CompiledTerm.TheOpen.{CompiledTerm-F}
use Rattle.kp_ground.specs.declared.condition.Condition.{Condition, fold-Condition}
use Rattle.kp_ground.specs.declared.condition.Condition.TheOpen.{Condition-F}

-- the name is one of these
abbrev pub is_one_of : Text → List Text → Bool
is_one_of x xs = list_any (λ y. bytes_eq y x) xs

-- the name stands at this place of the list
abbrev pub stands_at : List Text → Text → ℕ → Bool
stands_at [] x i = false
stands_at (y ∷ ys) x zero = bytes_eq y x
stands_at (y ∷ ys) x (suc i) = stands_at ys x i

-- ---- places of variables

-- where a variable stands: its name, and the slot that is told there
pub record Place : Type 0 where
  pub name : Text
  pub slot : ℕ

-- the names with one more, where it isn't one of them
abbrev pub with_name : List Text → Text → List Text
with_name xs x = if is_one_of x xs then xs else xs ++ x ∷ []

-- the names, and those of these places in the order of first places
abbrev pub names_after : List Text → List Place → List Text
names_after xs [] = xs
names_after xs (p ∷ ps) = names_after (with_name xs p.name) ps

-- each place tells the number of its name, where a first place takes the next number
abbrev pub is_numbered : List Text → List Place → Bool
is_numbered xs [] = true
is_numbered xs (p ∷ ps) = stands_at (with_name xs p.name) p.name p.slot && is_numbered (with_name xs p.name) ps

abbrev pub joined : List (List Place) → List Place
joined [] = []
joined (ps ∷ pss) = ps ++ joined pss

-- one level, with the places of each argument already at hand
abbrev pub left_places_step : CompiledLeft-F (List Place) → List Place
left_places_step (CompiledLeft-F.Variable x i) = record { name = string_bytes x.value; slot = i } ∷ []
left_places_step (CompiledLeft-F.Fixed u) = []
left_places_step (CompiledLeft-F.Built c ts) = joined ts.items

-- the places of a left term's variables, from the left
abbrev pub left_places : CompiledLeft → List Place
left_places = fold-CompiledLeft (List Place) left_places_step

-- the names of a left term's variables, each once, in the order of first places
abbrev pub left_variables : CompiledLeft → List Text
left_variables l = names_after [] (left_places l)

-- ---- terms and conditions

-- one level, where each argument is already known to tell the number of each name or not to
abbrev pub term_reads_step : List Text → CompiledTerm-F Bool → Bool
term_reads_step xs (CompiledTerm-F.Variable x i) = stands_at xs (string_bytes x) i
term_reads_step xs (CompiledTerm-F.Fixed u) = true
term_reads_step xs (CompiledTerm-F.Built c ts) = list_all (λ b. b) ts.items
term_reads_step xs (CompiledTerm-F.Call h t s) = t.value && s.value
term_reads_step xs (CompiledTerm-F.Opposite t) = t.value

-- each variable of the term is one of these names, and tells its number
abbrev pub term_reads : List Text → CompiledTerm → Bool
term_reads xs = fold-CompiledTerm Bool (term_reads_step xs)

abbrev pub condition_reads_step : List Text → Condition-F Bool → Bool
condition_reads_step xs Condition-F.Always = true
condition_reads_step xs Condition-F.Never = true
condition_reads_step xs (Condition-F.Not c) = c.value
condition_reads_step xs (Condition-F.All cs) = list_all (λ b. b) cs.items
condition_reads_step xs (Condition-F.Any cs) = list_all (λ b. b) cs.items
condition_reads_step xs (Condition-F.Implies c d) = c.value && d.value
condition_reads_step xs (Condition-F.Iff c d) = c.value && d.value
condition_reads_step xs (Condition-F.Same t s) = term_reads xs t && term_reads xs s

-- the same of a condition
abbrev pub condition_reads : List Text → Condition → Bool
condition_reads xs = fold-Condition Bool (condition_reads_step xs)
