-- Rows as the steps of a signature, and the table.
use Rattle.std.specs.Prelude.{◌≡◌, ◌↔◌, ℕ, ◌<◌, List, [], ◌∷◌, ◌++◌, IsTrue, length}
use Rattle.std.specs.List.{Contains}
use Rattle.kp_kore.specs.Syntax.{KoreSort}
use Rattle.kp_kore.specs.Signature.{KoreSignature, has_literals}
use Rattle.kp_signature.specs.Edges.{IsNumber}
use Rattle.kp_heads.specs.Heads.{HasValue}
use Rattle.kp_heads.specs.Steps.{Step}
use Rattle.kp_signature.specs.Numbering.{IsNumbering, sorts_in}
use Rattle.kp_signature.specs.declared.numbering.Numbering.{Numbering}
use Rattle.kp_heads.specs.declared.row.Row.{Row}
use Rattle.kp_heads.specs.declared.made.Made.{Made}
use Rattle.kp_heads.specs.declared.table.HeadTable.{HeadTable}

-- the numbers of these sorts, one by one
abbrev pub AreNumbers : List KoreSort → List ℕ → List KoreSort → Type 0
AreNumbers sorts [] [] = Unit {0}
AreNumbers sorts (n ∷ ns) (s ∷ ss) = IsNumber sorts n s × AreNumbers sorts ns ss
AreNumbers sorts [] (s ∷ ss) = ⊥
AreNumbers sorts (n ∷ ns) [] = ⊥

-- more sorts may have numbers than before, and these have these
pub record HasNumbers (before : List KoreSort) (x : Numbering) (ss : List KoreSort) (ns : List ℕ) : Type 0 where
  pub more : List KoreSort
  pub is : sorts_in x ≡ before ++ more
  pub numbers : AreNumbers (sorts_in x) ns ss
  pub kept : IsNumbering x

-- the row says the step by numbers
abbrev pub IsRow : List KoreSort → Row → Step → Type 0
IsRow sorts r step = AreNumbers sorts r.needs.items step.from × IsNumber sorts r.gives step.to

-- each row says a step, and each step is said by a row
pub record AreRows (sorts : List KoreSort) (rows : List Row) (steps : List Step) : Type 0 where
  pub told : (r : Row) → Contains rows r → (step : Step) × Contains steps step × IsRow sorts r step
  pub all : (step : Step) → Contains steps step → (r : Row) × Contains rows r × IsRow sorts r step

pub record IsMade (steps : List Step) (m : Made) : Type 0 where
  pub numbering : IsNumbering m.numbering
  pub rows : AreRows (sorts_in m.numbering) m.rows.items steps

-- the numbers of those of the sorts that have literals
abbrev pub AreLiteralNumbers : KoreSignature → List KoreSort → List ℕ → Type 0
AreLiteralNumbers g sorts found =
    ((i : ℕ) (a : KoreSort) → IsNumber sorts i a → Contains found i ↔ IsTrue (has_literals g a))
    × ((i : ℕ) → Contains found i → i < length sorts)

-- The table of a signature: which of the numbered sorts have a value; of all others only those with literals do.
pub record IsHeadTableOf (g : KoreSignature) (x : HeadTable) : Type 0 where
  pub numbering : IsNumbering x.numbering
  pub live : (i : ℕ) (a : KoreSort) → IsNumber (sorts_in x.numbering) i a → Contains x.live.keys i ↔ HasValue g a
  pub others : (a : KoreSort) → ¬ Contains (sorts_in x.numbering) a → HasValue g a → IsTrue (has_literals g a)
