-- What rows give, and that a closed search finds it.
use Rattle.std.proofs.Common.{◌≡◌, refl, sym, ap, subst, ◌∙◌, ℕ, zero, suc, ◌<◌, ◌≤◌, ◌↔◌, inl, inr, Bool, true, false, nat_eq, Some, None, Option, List, [], ◌∷◌, ◌++◌, length, take, get_or, slice_get, Vec, Global, Contains, arith}
use Rattle.std.specs.List.{list_any}
use Rattle.std.proofs.lemmas.Option.{slice_get_read, slice_get_past}
use Rattle.std.proofs.lemmas.List.{append_assoc, append-nil}
use Rattle.std.proofs.lemmas.List.Elements.{Contains-append_left, Contains-append_cases, Contains-push, Contains-push_cases}
use Rattle.kp_signature.specs.Edges.{edges_of, Extended}
use Rattle.kp_signature.proofs.EdgeLemmas.{in_set}
use Rattle.kp_heads.specs.Rows.{IsMet, IsGiven, starting, by_row, AreUsers, Tried, Grown, Began, Woken}
use Rattle.kp_heads.specs.declared.row.Row.{Row}
use Rattle.kp_heads.proofs.Values.{nothing_in, first_in, later_in, in_cases}

pub still : (before more after : List ℕ) (j : ℕ) → after ≡ before ++ more → Contains before j → Contains after j
still before more after j e h = subst (λ l. Contains l j) (sym e) (Contains-append_left before more j h)

-- ---- one row

pub not_tried : (r : Row) (found : List ℕ) → ¬ IsMet r found → Tried r found found
not_tried r found not = record {
  more = [];
  is = sym (append-nil found);
  sound = λ j h. absurd (nothing_in j h);
  met = λ h. absurd (not h);
}

pub is_tried : (r : Row) (found after : List ℕ) → IsMet r found → Extended found (r.gives ∷ []) after → Tried r found after
is_tried r found after met e = record {
  more = e.more;
  is = e.is;
  sound = λ j h. (met, only j (e.among j h));
  met = λ _. e.all r.gives (Contains-push [] r.gives);
}
  where
    only : (j : ℕ) → Contains (r.gives ∷ []) j → j ≡ r.gives
    only j h = elim (Contains-push_cases [] r.gives j h) [ inl none ↦ absurd (nothing_in j none) | inr same ↦ sym same ]

-- ---- some rows

pub grown_none : (rows : List Row) (found : List ℕ) → Grown rows found found
grown_none rows found = record { more = []; is = sym (append-nil found); sound = λ starts h. h }

pub grown_on : (rows : List Row) (a b c : List ℕ) → Grown rows a b → Grown rows b c → Grown rows a c
grown_on rows a b c f s = record {
  more = f.more ++ s.more;
  is = s.is ∙ ap (λ l. l ++ s.more) f.is ∙ append_assoc a f.more s.more;
  sound = λ starts h. s.sound starts (f.sound starts h);
}

pub grown_by : (rows : List Row) (r : Row) (a b : List ℕ) → Contains rows r → Tried r a b → Grown rows a b
grown_by rows r a b there t = record {
  more = t.more;
  is = t.is;
  sound = λ starts h j k. elim (Contains-append_cases a t.more j (subst (λ l. Contains l j) t.is k)) [
    | inl old ↦ h j old
    | inr new ↦ let m = t.sound j new in subst (IsGiven rows starts) (sym m.1) (by_row r there (λ n need. h n (m.0 n need)))
  ];
}

pub kept : (rows : List Row) (a b : List ℕ) (j : ℕ) → Grown rows a b → Contains a j → Contains b j
kept rows a b j g h = still a g.more b j g.is h

pub met_later : (rows : List Row) (a b : List ℕ) (r : Row) → Grown rows a b → IsMet r a → IsMet r b
met_later rows a b r g m n need = kept rows a b n g (m n need)

-- ---- rows one after another

pub began_none : (rows : List Row) (found : List ℕ) → Began rows [] found found
began_none rows found = record { grown = grown_none rows found; met = λ r h. absurd (nothing_in r h) }

pub began_more : (rows some : List Row) (r : Row) (a b c : List ℕ) → Contains rows r → Began rows some a b → Tried r b c → Began rows (some ++ r ∷ []) a c
began_more rows some r a b c there begun t =
    let g = grown_by rows r b c there t in
    record {
      grown = grown_on rows a b c begun.grown g;
      met = λ q h m. elim (Contains-push_cases some r q h) [
        | inl old ↦ kept rows b c q.gives g (begun.met q old m)
        | inr same ↦ subst (λ (v : Row). Contains c v.gives) same (t.met (subst (λ (v : Row). IsMet v b) (sym same) (met_later rows a b q begun.grown m)))
      ];
    }

pub woken_none : (rows : List Row) (found : List ℕ) → Woken rows [] found found
woken_none rows found = record { grown = grown_none rows found; met = λ k r h. absurd (nothing_in k h) }

pub woken_past : (rows : List Row) (k : ℕ) (found : List ℕ) → ((r : Row) → ¬ (slice_get rows k ≡ Some r)) → Woken rows (k ∷ []) found found
woken_past rows k found past = record {
  grown = grown_none rows found;
  met = λ i r h e m. elim (Contains-push_cases [] k i h) [ inl none ↦ absurd (nothing_in i none) | inr same ↦ absurd (past r (ap (slice_get rows) same ∙ e)) ];
}

same_row : (q r : Row) → Some q ≡ Some r → q ≡ r
same_row q r e = cc

pub woken_one : (rows : List Row) (k : ℕ) (r : Row) (a b : List ℕ) → slice_get rows k ≡ Some r → Contains rows r → Tried r a b → Woken rows (k ∷ []) a b
woken_one rows k r a b is there t = record {
  grown = grown_by rows r a b there t;
  met = λ i q h e m. elim (Contains-push_cases [] k i h) [
    | inl none ↦ absurd (nothing_in i none)
    | inr same ↦ let s = same_row r q (sym is ∙ ap (slice_get rows) same ∙ e) in subst (λ (v : Row). Contains b v.gives) s (t.met (subst (λ (v : Row). IsMet v a) (sym s) m))
  ];
}

pub woken_on : (rows : List Row) (first second : List ℕ) (a b c : List ℕ) → Woken rows first a b → Woken rows second b c → Woken rows (first ++ second) a c
woken_on rows first second a b c f s = record {
  grown = grown_on rows a b c f.grown s.grown;
  met = λ k r h e m. elim (Contains-append_cases first second k h) [
    | inl old ↦ kept rows b c r.gives s.grown (f.met k r old e m)
    | inr new ↦ s.met k r new e (met_later rows a b r f.grown m)
  ];
}

-- a row that is read
pub read_row : (rows : List Row) (k : ℕ) (r : Row) → k < length rows → r ≡ get_or rows k r → (slice_get rows k ≡ Some r) × Contains rows r
read_row rows k r h e = (slice_get_read rows (length rows) k r refl h e, (k, h, sym e))

pub no_row : (rows : List Row) (k : ℕ) → length rows ≤ k → (r : Row) → ¬ (slice_get rows k ≡ Some r)
no_row rows k past r e = differ (sym (slice_get_past rows k past) ∙ e)
  where
    differ : ◌≡◌ {A = Option Row} None (Some r) → ⊥
    differ h = cc

pub in_taken : {A : Type 0} (xs : List A) (n : ℕ) (x : A) → Contains (take n xs) x → Contains xs x
in_taken [] zero x h = absurd (nothing_in x h)
in_taken [] (suc n) x h = absurd (nothing_in x h)
in_taken (y ∷ xs) zero x h = absurd (nothing_in x h)
in_taken (y ∷ xs) (suc n) x h = elim (in_cases y x (take n xs) h) [
  | inl same ↦ subst (Contains (y ∷ xs)) same (first_in y xs)
  | inr more ↦ later_in y x xs (in_taken xs n x more)
]

-- ---- the search

-- what is found is given; and what rows give of numbers that are done is found
pub record Spreading (rows : List Row) (starts done found : List ℕ) : Type 0 where
  pub sound : (j : ℕ) → Contains found j → IsGiven rows starts j
  pub start : (j : ℕ) → Contains starts j → Contains found j
  pub closed : (r : Row) → Contains rows r → IsMet r done → Contains found r.gives

pub spreading_start : (rows : List Row) (starts found : List ℕ) → Began rows rows starts found → Spreading rows starts [] found
spreading_start rows starts found b = record {
  sound = b.grown.sound starts (λ j h. starting j h);
  start = λ j h. kept rows starts found j b.grown h;
  closed = λ r h m. b.met r h (λ n need. absurd (nothing_in n (m n need)));
}

module _ (rows : List Row) (users : List (Vec ℕ Global)) (needed : AreUsers rows users) (starts done found after : List ℕ) (i : ℕ) where
  at_place : (rs : List Row) (r : Row) → Contains rs r → (k : ℕ) × (slice_get rs k ≡ Some r)
  at_place rs r h = read rs r h.0 h.1 h.2
    where
      read : (rs : List Row) (r : Row) (k : ℕ) → k < length rs → get_or rs k r ≡ r → (k : ℕ) × (slice_get rs k ≡ Some r)
      read [] r k l e = absurd (nothing_in r (k, l, e))
      read (q ∷ rs) r zero l e = (zero, ap Some e)
      read (q ∷ rs) r (suc k) l e = let p = read rs r k (omega arith) e in (suc p.0, p.1)

  -- a row that needs the number, or whose needs were all done before
  by_need : Spreading rows starts done found → ((n : ℕ) → Contains (done ++ i ∷ []) n → Contains found n) → Woken rows (get_or (edges_of users) i []) found after → (r : Row) → Contains rows r → IsMet r (done ++ i ∷ []) →
      (b : Bool) → list_any (nat_eq i) r.needs.items ≡ b → Contains after r.gives
  by_need s in_found w r h m true q =
      let k = at_place rows r h in
      w.met k.0 r (needed k.0 r k.1 i ((in_set r.needs.items i).0 q)) k.1 (λ n need. in_found n (m n need))
  by_need s in_found w r h m false q = kept rows found after r.gives w.grown (s.closed r h (λ n need. elim (Contains-push_cases done i n (m n need)) [
    | inl old ↦ old
    | inr same ↦ absurd (differ (sym q ∙ (in_set r.needs.items i).1 (subst (λ v. Contains r.needs.items v) (sym same) need)))
  ]))
    where
      differ : false ≡ true → ⊥
      differ e = cc

  pub spreading_more : Spreading rows starts done found → ((n : ℕ) → Contains (done ++ i ∷ []) n → Contains found n) → Woken rows (get_or (edges_of users) i []) found after → Spreading rows starts (done ++ i ∷ []) after
  spreading_more s in_found w = record {
    sound = w.grown.sound starts s.sound;
    start = λ j h. kept rows found after j w.grown (s.start j h);
    closed = λ r h m. by_need s in_found w r h m (list_any (nat_eq i) r.needs.items) refl;
  }

holds_given : (rows : List Row) (starts found : List ℕ) → Spreading rows starts found found → (j : ℕ) → IsGiven rows starts j → Contains found j
holds_given rows starts found s _ (starting j h) = s.start j h
holds_given rows starts found s _ (by_row r h needs) = s.closed r h (λ n need. holds_given rows starts found s n (needs n need))

pub all_spread : (rows : List Row) (starts done found : List ℕ) → done ≡ found → Spreading rows starts done found → (j : ℕ) → Contains found j ↔ IsGiven rows starts j
all_spread rows starts done found e s j = (s.sound j, λ g. holds_given rows starts found (subst (λ l. Spreading rows starts l found) e s) j g)
