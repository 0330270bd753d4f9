-- What rows give from the sorts that have literals is what has a value.
use Rattle.std.proofs.Common.{◌≡◌, sym, subst, ℕ, ◌⊎◌, ◌↔◌, inl, inr, true, List, length, Contains}
use Rattle.kp_kore.specs.Syntax.{KoreSort}
use Rattle.kp_kore.specs.Signature.{KoreSignature, has_literals}
use Rattle.kp_signature.specs.Edges.{IsNumber}
use Rattle.kp_signature.proofs.OrderLemmas.{one_sort}
use Rattle.kp_heads.specs.Heads.{HasValue}
use Rattle.kp_signature.specs.Numbering.{sorts_in, IsNumbering}
use Rattle.kp_heads.specs.Steps.{Step, steps_of}
use Rattle.kp_heads.specs.Rows.{IsGiven, starting, by_row, NeedBelow}
use Rattle.kp_heads.specs.Made.{AreRows, AreLiteralNumbers, IsMade, IsHeadTableOf}
use Rattle.kp_heads.specs.declared.row.Row.{Row}
use Rattle.kp_heads.specs.declared.made.Made.{Made}
use Rattle.kp_heads.specs.declared.table.HeadTable.{HeadTable}
use Rattle.kp_heads.proofs.Values.{literal_has, step_has, by_value}
use Rattle.kp_heads.proofs.Making.{sort_among, number_among}

-- what a row needs has numbers
pub need_below : (sorts : List KoreSort) (rows : List Row) (steps : List Step) → AreRows sorts rows steps → NeedBelow rows (length sorts)
need_below sorts rows steps h r there n need =
    let t = h.told r there in
    let s = sort_among sorts r.needs.items t.0.from n t.2.0 need in
    s.2.0

module _ (g : KoreSignature) (sorts : List KoreSort) (rows : List Row) (starts : List ℕ) (is : AreRows sorts rows (steps_of g)) (lit : AreLiteralNumbers g sorts starts)
    (once : (i j : ℕ) (a : KoreSort) → IsNumber sorts i a → IsNumber sorts j a → i ≡ j) where
  pub given_has : (j : ℕ) → IsGiven rows starts j → (a : KoreSort) → IsNumber sorts j a → HasValue g a
  given_has _ (starting i h) a n = literal_has g a ((lit.0 i a n).0 h)
  given_has _ (by_row r h needs) a n =
      let t = is.told r h in
      subst (HasValue g) (one_sort sorts r.gives t.0.to a t.2.1 n)
      (step_has g t.0 t.1 (λ b k. let m = number_among sorts r.needs.items t.0.from b t.2.0 k in given_has m.0 (needs m.0 m.1) b m.2))

  -- by literals, or by its number
  abbrev IsReached : KoreSort → Type 0
  IsReached a = (has_literals g a ≡ true) ⊎ ((i : ℕ) × IsNumber sorts i a × IsGiven rows starts i)

  by_number : (a : KoreSort) (i : ℕ) → IsNumber sorts i a → IsReached a → IsGiven rows starts i
  by_number a i n (inl l) = starting i ((lit.0 i a n).1 l)
  by_number a i n (inr k) = subst (IsGiven rows starts) (once k.0 i a k.1 n) k.2

  reached : (a : KoreSort) → HasValue g a → IsReached a
  reached a u = by_value g IsReached (λ b l. inl l) (λ step h all.
      let t = is.all step h in
      inr (t.0.gives, t.2.1, by_row t.0 t.1 (λ n need. let s = sort_among sorts t.0.needs.items step.from n t.2.0 need in by_number s.0 n s.2 (all s.0 s.1)))) u.0 a u.1

  pub has_given : (i : ℕ) (a : KoreSort) → IsNumber sorts i a → HasValue g a → IsGiven rows starts i
  has_given i a n u = by_number a i n (reached a u)

  pub only_literals : (a : KoreSort) → ¬ Contains sorts a → HasValue g a → has_literals g a ≡ true
  only_literals a none u = elim (reached a u) [ inl l ↦ l | inr k ↦ absurd (none (k.0, k.1.0, k.1.1)) ]

pub table_made : (g : KoreSignature) (m : Made) (x : HeadTable) (starts : List ℕ) → IsMade (steps_of g) m → x.numbering ≡ m.numbering → AreLiteralNumbers g (sorts_in m.numbering) starts →
    ((j : ℕ) → Contains x.live.keys j ↔ IsGiven m.rows.items starts j) → IsHeadTableOf g x
table_made g m x starts made same lit live = record {
  numbering = subst IsNumbering (sym same) made.numbering;
  live = λ i a n. let k = subst (λ y. IsNumber (sorts_in y) i a) same n in (
    λ h. given_has g (sorts_in m.numbering) m.rows.items starts made.rows lit made.numbering.once i ((live i).0 h) a k,
    λ u. (live i).1 (has_given g (sorts_in m.numbering) m.rows.items starts made.rows lit made.numbering.once i a k u),
  );
  others = λ a none u. only_literals g (sorts_in m.numbering) m.rows.items starts made.rows lit made.numbering.once a (subst (λ y. ¬ Contains (sorts_in y) a) same none) u;
}
