-- Which rows need a number.
use Rattle.std.proofs.Common.{◌≡◌, refl, sym, ap, subst, ◌∙◌, ℕ, zero, suc, ◌+◌, ◌<◌, ◌≤◌, ◌⊎◌, inl, inr, Some, List, [], ◌∷◌, ◌++◌, length, slice_get, get_or, Vec, Global, Contains, arith}
use Rattle.std.proofs.lemmas.List.{length-map}
use Rattle.std.proofs.lemmas.List.Elements.{Contains-append_cases, Contains-push_cases}
use Rattle.kp_signature.specs.Edges.{Leads, edges_of, HasEdge}
use Rattle.kp_heads.specs.Rows.{AreUsers, HasUses, NeedBelow}
use Rattle.kp_heads.specs.declared.row.Row.{Row}
use Rattle.kp_heads.proofs.Values.{nothing_in, later_in}
use Rattle.kp_heads.proofs.Rows.{read_row}

pub uses_none : (users : List (Vec ℕ Global)) (place : ℕ) → HasUses users users [] place
uses_none users place = record { same_length = refl; kept = λ i j h. h; added = λ n h. absurd (nothing_in n h) }

pub uses_on : (a b c : List (Vec ℕ Global)) (ns ms : List ℕ) (place : ℕ) → HasUses a b ns place → HasUses b c ms place → HasUses a c (ns ++ ms) place
uses_on a b c ns ms place f s = record {
  same_length = s.same_length ∙ f.same_length;
  kept = λ i j h. s.kept i j (f.kept i j h);
  added = λ n h short. elim (Contains-append_cases ns ms n h) [
    | inl old ↦ s.kept n place (f.added n old short)
    | inr new ↦ s.added n new (subst (λ m. n < m) (sym f.same_length) short)
  ];
}

pub uses_edge : (a b : List (Vec ℕ Global)) (n place : ℕ) → HasEdge (edges_of a) (edges_of b) n place → HasUses a b (n ∷ []) place
uses_edge a b n place e = record {
  same_length = sym (length-map b (λ (v : Vec ℕ Global). v.items)) ∙ e.same_length ∙ length-map a (λ (v : Vec ℕ Global). v.items);
  kept = λ i j h. (e.edges i j).1 (inl h);
  added = λ m h short. elim (Contains-push_cases [] n m h) [
    | inl none ↦ absurd (nothing_in m none)
    | inr same ↦ (e.edges m place).1 (inr (sym same, refl))
  ];
}

pub uses_past : (a : List (Vec ℕ Global)) (n place : ℕ) → length a ≤ n → HasUses a a (n ∷ []) place
uses_past a n place past = record {
  same_length = refl;
  kept = λ i j h. h;
  added = λ m h short. elim (Contains-push_cases [] n m h) [
    | inl none ↦ absurd (nothing_in m none)
    | inr same ↦ absurd (no m same short)
  ];
}
  where
    no : (m : ℕ) → n ≡ m → m < length a → ⊥
    no m e h = omega (arith, past)

short_or_past : (k n : ℕ) → (k < n) ⊎ (n ≤ k)
short_or_past k zero = inr (omega arith)
short_or_past zero (suc n) = inl (omega arith)
short_or_past (suc k) (suc n) = elim (short_or_past k n) [ inl h ↦ inl (omega (arith, h)) | inr h ↦ inr (omega (arith, h)) ]

-- the rows before a place are noted
pub record AreUsersBefore (rows : List Row) (count place : ℕ) (users : List (Vec ℕ Global)) : Type 0 where
  pub long : length users ≡ count
  pub noted : (k : ℕ) (r : Row) → k < place → slice_get rows k ≡ Some r → (n : ℕ) → Contains r.needs.items n → n < count → Leads (edges_of users) n k

pub before_none : (rows : List Row) (count : ℕ) (users : List (Vec ℕ Global)) → length users ≡ count → AreUsersBefore rows count 0 users
before_none rows count users e = record { long = e; noted = λ k r h. absurd (no k h) }
  where
    no : (k : ℕ) → k < 0 → ⊥
    no k h = omega arith

pub before_more : (rows : List Row) (count place : ℕ) (a b : List (Vec ℕ Global)) (r : Row) → place < length rows → r ≡ get_or rows place r → AreUsersBefore rows count place a → HasUses a b r.needs.items place → AreUsersBefore rows count (place + 1) b
before_more rows count place a b r short is before uses = record {
  long = uses.same_length ∙ before.long;
  noted = λ k q h e n need below. noted k q (last k h) e n need below;
}
  where
    last : (k : ℕ) → k < place + 1 → (k < place) ⊎ (place ≡ k)
    last k h = elim (short_or_past k place) [ inl short ↦ inl short | inr past ↦ inr (omega (arith, h, past)) ]

    same_row : (q : Row) → Some r ≡ Some q → r ≡ q
    same_row q e = cc

    noted : (k : ℕ) (q : Row) → (k < place) ⊎ (place ≡ k) → slice_get rows k ≡ Some q → (n : ℕ) → Contains q.needs.items n → n < count → Leads (edges_of b) n k
    noted k q (inl old) e n need below = uses.kept n k (before.noted k q old e n need below)
    noted k q (inr same) e n need below =
        let row = same_row q (sym (read_row rows place r short is).0 ∙ ap (slice_get rows) same ∙ e) in
        subst (Leads (edges_of b) n) same (uses.added n (subst (λ (v : Row). Contains v.needs.items n) (sym row) need) (subst (λ m. n < m) (sym before.long) below))

row_at : (rows : List Row) (k : ℕ) (r : Row) → slice_get rows k ≡ Some r → (k < length rows) × Contains rows r
row_at [] k r e = absurd (cc)
row_at (q ∷ rows) zero r e = (omega arith, (zero, omega arith, inside e))
  where
    inside : Some q ≡ Some r → q ≡ r
    inside e = cc
row_at (q ∷ rows) (suc k) r e = let p = row_at rows k r e in (omega (arith, p.0), later_in q r rows p.1)

pub all_before : (rows : List Row) (count place : ℕ) (users : List (Vec ℕ Global)) → length rows ≤ place → NeedBelow rows count → AreUsersBefore rows count place users → AreUsers rows users
all_before rows count place users past below before k r e n need =
    let p = row_at rows k r e in
    before.noted k r (omega (arith, p.0, past)) e n need (below r p.1 n need)
