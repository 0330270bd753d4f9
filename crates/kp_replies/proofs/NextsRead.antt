-- Reading next states from the front: what all give is what was read and what the rest gives.
use Rattle.std.proofs.Common.{◌≡◌, ℕ, ◌<◌, ◌+◌, length, get_or, drop, List, [], ◌∷◌, ◌++◌, Option, Some, None, option_map, refl, sym, ap, ◌∙◌, subst}
use Rattle.std.proofs.lemmas.List.{append_assoc, append-nil, at_drop_more}
use Rattle.serde_json.specs.Data.{Data, Items, no_items, item}
use Rattle.serde_json.specs.View.{view, items_view}
use Rattle.serde_json.specs.declared.value.Value.{Value}
use Rattle.kp_results.specs.Results.{NextParts}
use Rattle.kp_results.specs.View.{next_view, nexts_view}
use Rattle.kp_results.specs.declared.executed.NextState.{NextState}
use Rattle.kp_replies.specs.Read.{read_next, first_next, read_nexts}

pub record ReadsOn (whole : Option (List NextParts)) (front : List NextParts) (rest : Items) : Type 0 where
  pub is : whole ≡ option_map (λ ns. front ++ ns) (read_nexts rest)

same_option : (o : Option (List NextParts)) → o ≡ option_map (λ ns. [] ++ ns) o
same_option None = refl
same_option (Some ns) = refl

pub reads_from_the_start : (ds : Items) → ReadsOn (read_nexts ds) [] ds
reads_from_the_start ds = record { is = same_option (read_nexts ds) }

moved : (front : List NextParts) (n : NextParts) (o : Option (List NextParts)) → option_map (λ ns. front ++ ns) (first_next (Some n) o) ≡ option_map (λ ns. (front ++ n ∷ []) ++ ns) o
moved front n None = refl
moved front n (Some ns) = ap Some (sym (append_assoc front (n ∷ []) ns))

pub reads_one_more : (whole : Option (List NextParts)) (front : List NextParts) (n : NextParts) (d : Data) (ds : Items) → Some n ≡ read_next d → ReadsOn whole front (item d ds) → ReadsOn whole (front ++ n ∷ []) ds
reads_one_more whole front n d ds e h = record { is = h.is ∙ ap (λ x. option_map (λ ns. front ++ ns) (first_next x (read_nexts ds))) (sym e) ∙ moved front n (read_nexts ds) }

pub reads_no_more : (whole : Option (List NextParts)) (front : List NextParts) (d : Data) (ds : Items) → None ≡ read_next d → ReadsOn whole front (item d ds) → None ≡ whole
reads_no_more whole front d ds e h = sym (h.is ∙ ap (λ x. option_map (λ ns. front ++ ns) (first_next x (read_nexts ds))) (sym e))

pub reads_to_the_end : (whole : Option (List NextParts)) (front : List NextParts) → ReadsOn whole front no_items → Some front ≡ whole
reads_to_the_end whole front h = sym (h.is ∙ ap Some (append-nil front))

-- ---- over the code's lists

one_behind : (front : List NextState) (n : NextState) → nexts_view (front ++ n ∷ []) ≡ nexts_view front ++ next_view n ∷ []
one_behind [] n = refl
one_behind (m ∷ front) n = ap (λ l. next_view m ∷ l) (one_behind front n)

pub reads_next : (whole : Option (List NextParts)) (front : List NextState) (vs : List Value) (i : ℕ) (v : Value) (n : NextState) → i < length vs → v ≡ get_or vs i v → Some (next_view n) ≡ read_next (view v)
    → ReadsOn whole (nexts_view front) (items_view (drop i vs)) → ReadsOn whole (nexts_view (front ++ n ∷ [])) (items_view (drop (i + 1) vs))
reads_next whole front vs i v n within is e h =
    let rest : Items = items_view (drop (i + 1) vs) in
    let first : items_view (drop i vs) ≡ item (view v) rest = at_drop_more items_view vs i v within ∙ ap (λ r. item (view r) rest) (sym is) in
    subst (λ l. ReadsOn whole l rest) (sym (one_behind front n)) (reads_one_more whole (nexts_view front) (next_view n) (view v) rest e (subst (λ ds. ReadsOn whole (nexts_view front) ds) first h))
