-- Rows and numbers when one more step is noted.
use Rattle.std.proofs.Common.{◌≡◌, refl, sym, ap, subst, ◌∙◌, ℕ, inl, inr, List, [], ◌∷◌, ◌++◌, map, Contains}
use Rattle.std.specs.List.{flat_map}
use Rattle.std.proofs.lemmas.List.{append_assoc, append-nil}
use Rattle.std.proofs.lemmas.List.Elements.{Contains-append_left, Contains-push, Contains-push_cases}
use Rattle.kp_kore.specs.Syntax.{KoreSort, SymbolDeclaration}
use Rattle.kp_kore.specs.Parts.{sort_list}
use Rattle.kp_kore.specs.View.{sort_view, sorts_view}
use Rattle.kp_kore.specs.declared.sort.Sort.{Sort}
use Rattle.kp_signature.specs.Edges.{IsNumber}
use Rattle.kp_signature.proofs.NewOrder.{number_on}
use Rattle.kp_signature.specs.Numbering.{sorts_in, IsNumbering, HasNumber}
use Rattle.kp_heads.specs.Steps.{Step}
use Rattle.kp_heads.specs.Made.{AreNumbers, HasNumbers, IsRow, AreRows, IsMade}
use Rattle.kp_signature.specs.declared.numbering.Numbering.{Numbering}
use Rattle.kp_heads.specs.declared.row.Row.{Row}
use Rattle.kp_heads.specs.declared.made.Made.{Made}
use Rattle.kp_heads.proofs.Values.{nothing_in, first_in, later_in, in_cases}

pub numbers_on : (sorts more : List KoreSort) (ns : List ℕ) (ss : List KoreSort) → AreNumbers sorts ns ss → AreNumbers (sorts ++ more) ns ss
numbers_on sorts more [] [] h = tt
numbers_on sorts more (n ∷ ns) (s ∷ ss) h = (number_on sorts more n s h.0, numbers_on sorts more ns ss h.1)
numbers_on sorts more [] (s ∷ ss) h = h
numbers_on sorts more (n ∷ ns) [] h = h

numbers_push : (sorts : List KoreSort) (ns : List ℕ) (ss : List KoreSort) (n : ℕ) (s : KoreSort) → AreNumbers sorts ns ss → IsNumber sorts n s → AreNumbers sorts (ns ++ n ∷ []) (ss ++ s ∷ [])
numbers_push sorts [] [] n s h k = (k, tt)
numbers_push sorts (m ∷ ns) (t ∷ ss) n s h k = (h.0, numbers_push sorts ns ss n s h.1 k)
numbers_push sorts [] (t ∷ ss) n s h k = absurd h
numbers_push sorts (m ∷ ns) [] n s h k = absurd h

-- of each number the sort, and of each sort the number
pub sort_among : (sorts : List KoreSort) (ns : List ℕ) (ss : List KoreSort) (n : ℕ) → AreNumbers sorts ns ss → Contains ns n → (s : KoreSort) × Contains ss s × IsNumber sorts n s
sort_among sorts [] ss n h k = absurd (nothing_in n k)
sort_among sorts (m ∷ ns) [] n h k = absurd h
sort_among sorts (m ∷ ns) (s ∷ ss) n h k = elim (in_cases m n ns k) [
  | inl same ↦ (s, first_in s ss, subst (λ v. IsNumber sorts v s) same h.0)
  | inr more ↦ let r = sort_among sorts ns ss n h.1 more in (r.0, later_in s r.0 ss r.1, r.2)
]

pub number_among : (sorts : List KoreSort) (ns : List ℕ) (ss : List KoreSort) (s : KoreSort) → AreNumbers sorts ns ss → Contains ss s → (n : ℕ) × Contains ns n × IsNumber sorts n s
number_among sorts ns [] s h k = absurd (nothing_in s k)
number_among sorts [] (t ∷ ss) s h k = absurd h
number_among sorts (n ∷ ns) (t ∷ ss) s h k = elim (in_cases t s ss k) [
  | inl same ↦ (n, first_in n ns, subst (IsNumber sorts n) same h.0)
  | inr more ↦ let r = number_among sorts ns ss s h.1 more in (r.0, later_in n r.0 ns r.1, r.2)
]

-- ---- numbers of sorts one after another

pub numbers_none : (x : Numbering) → IsNumbering x → HasNumbers (sorts_in x) x [] []
numbers_none x ix = record { more = []; is = sym (append-nil (sorts_in x)); numbers = tt; kept = ix }

pub numbers_more : (before : List KoreSort) (x y : Numbering) (ss : List KoreSort) (ns : List ℕ) (s : KoreSort) (n : ℕ) → HasNumbers before x ss ns → HasNumber (sorts_in x) y s n → HasNumbers before y (ss ++ s ∷ []) (ns ++ n ∷ [])
numbers_more before x y ss ns s n h k = record {
  more = h.more ++ k.more;
  is = k.is ∙ ap (λ l. l ++ k.more) h.is ∙ append_assoc before h.more k.more;
  numbers = numbers_push (sorts_in y) ns ss n s (subst (λ l. AreNumbers l ns ss) (sym k.is) (numbers_on (sorts_in x) k.more ns ss h.numbers)) k.number;
  kept = k.kept;
}

-- ---- rows

row_on : (sorts more : List KoreSort) (r : Row) (step : Step) → IsRow sorts r step → IsRow (sorts ++ more) r step
row_on sorts more r step h = (numbers_on sorts more r.needs.items step.from h.0, number_on sorts more r.gives step.to h.1)

rows_on : (sorts more : List KoreSort) (rows : List Row) (steps : List Step) → AreRows sorts rows steps → AreRows (sorts ++ more) rows steps
rows_on sorts more rows steps h = record {
  told = λ r k. let t = h.told r k in (t.0, t.1, row_on sorts more r t.0 t.2);
  all = λ step k. let t = h.all step k in (t.0, t.1, row_on sorts more t.0 step t.2);
}

rows_push : (sorts : List KoreSort) (rows : List Row) (steps : List Step) (r : Row) (step : Step) → AreRows sorts rows steps → IsRow sorts r step → AreRows sorts (rows ++ r ∷ []) (steps ++ step ∷ [])
rows_push sorts rows steps r step h is = record {
  told = λ q k. elim (Contains-push_cases rows r q k) [
    | inl old ↦ let t = h.told q old in (t.0, Contains-append_left steps (step ∷ []) t.0 t.1, t.2)
    | inr same ↦ (step, Contains-push steps step, subst (λ (v : Row). IsRow sorts v step) same is)
  ];
  all = λ s k. elim (Contains-push_cases steps step s k) [
    | inl old ↦ let t = h.all s old in (t.0, Contains-append_left rows (r ∷ []) t.0 t.1, t.2)
    | inr same ↦ (r, Contains-push rows r, subst (λ (v : Step). IsRow sorts r v) same is)
  ];
}

-- one more row, over more sorts
pub row_made : (more : List KoreSort) (steps : List Step) (m after : Made) (r : Row) (step : Step) → IsMade steps m → sorts_in after.numbering ≡ sorts_in m.numbering ++ more → IsNumbering after.numbering →
    IsRow (sorts_in after.numbering) r step → after.rows.items ≡ m.rows.items ++ r ∷ [] → IsMade (steps ++ step ∷ []) after
row_made more steps m after r step h is numbering row pushed = record {
  numbering = numbering;
  rows = subst (λ l. AreRows (sorts_in after.numbering) l (steps ++ step ∷ [])) (sym pushed)
      (rows_push (sorts_in after.numbering) m.rows.items steps r step (subst (λ l. AreRows l m.rows.items steps) (sym is) (rows_on (sorts_in m.numbering) more m.rows.items steps h.rows)) row);
}

-- a number stays when there are more sorts
pub number_stays : (before after more : List KoreSort) (n : ℕ) (s : KoreSort) → after ≡ before ++ more → IsNumber before n s → IsNumber after n s
number_stays before after more n s e h = subst (λ l. IsNumber l n s) (sym e) (number_on before more n s h)

pub sorts_twice : (a b c first second : List KoreSort) → b ≡ a ++ first → c ≡ b ++ second → c ≡ a ++ (first ++ second)
sorts_twice a b c first second e f = f ∙ ap (λ l. l ++ second) e ∙ append_assoc a first second

pub listed_sorts : (ss : List Sort) → sort_list (sorts_view ss) ≡ map sort_view ss
listed_sorts [] = refl
listed_sorts (s ∷ ss) = ap (λ l. sort_view s ∷ l) (listed_sorts ss)

-- ---- steps one after another

pub steps_more : (f : SymbolDeclaration → List Step) (xs : List SymbolDeclaration) (x : SymbolDeclaration) (before : List Step) → before ++ flat_map f (xs ++ x ∷ []) ≡ (before ++ flat_map f xs) ++ f x
steps_more f xs x before = ap (λ l. before ++ l) (pushed xs) ∙ sym (append_assoc before (flat_map f xs) (f x))
  where
    pushed : (ys : List SymbolDeclaration) → flat_map f (ys ++ x ∷ []) ≡ flat_map f ys ++ f x
    pushed [] = append-nil (f x)
    pushed (y ∷ ys) = ap (λ l. f y ++ l) (pushed ys) ∙ sym (append_assoc (f y) (flat_map f ys) (f x))
