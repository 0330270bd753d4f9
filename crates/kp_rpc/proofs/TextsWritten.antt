-- What is written of a list of texts, text by text.
use Rattle.std.proofs.Common.{◌≡◌, ℕ, ◌<◌, ◌≤◌, length, get_or, drop, ◌+◌, List, [], ◌∷◌, ◌++◌, String, Global, string_bytes, refl, sym, ap, ◌∙◌}
use Rattle.std.proofs.lemmas.List.{at_drop_more, at_drop_all}
use Rattle.serde_json.specs.Data.{string, Items, no_items, item}
use Rattle.serde_json.specs.View.{view, items_view}
use Rattle.serde_json.specs.declared.value.Value.{Value}
use Rattle.kp_rpc.specs.Questions.{text_items}
use Rattle.kp_rpc.specs.View.{texts_view}

-- trees already written, before others
abbrev pub joined_items : List Value → Items → Items
joined_items [] ds = ds
joined_items (v ∷ vs) ds = item (view v) (joined_items vs ds)

joined_end : (vs : List Value) → joined_items vs no_items ≡ items_view vs
joined_end [] = refl
joined_end (v ∷ vs) = ap (item (view v)) (joined_end vs)

joined_next : (vs : List Value) (v : Value) (ds : Items) → joined_items (vs ++ v ∷ []) ds ≡ joined_items vs (item (view v) ds)
joined_next [] v ds = refl
joined_next (w ∷ vs) v ds = ap (item (view w)) (joined_next vs v ds)

abbrev pub texts_written : List Value → List (String Global) → Items
texts_written done ts = joined_items done (text_items (texts_view ts))

pub texts_first : (ts : List (String Global)) (vs : List Value) → vs ≡ [] → text_items (texts_view ts) ≡ texts_written vs ts
texts_first ts vs is = ap (λ l. texts_written l ts) (sym is)

pub texts_next : (done : List Value) (ts : List (String Global)) (i : ℕ) (t : String Global) (v : Value) → i < length ts → t ≡ get_or ts i t → view v ≡ string (string_bytes t)
    → texts_written done (drop i ts) ≡ texts_written (done ++ v ∷ []) (drop (i + 1) ts)
texts_next done ts i t v within is written =
    at_drop_more (texts_written done) ts i t within ∙ ap (λ r. texts_written done (r ∷ drop (i + 1) ts)) (sym is)
    ∙ ap (λ d. joined_items done (item d (text_items (texts_view (drop (i + 1) ts))))) (sym written) ∙ sym (joined_next done v (text_items (texts_view (drop (i + 1) ts))))

pub texts_done : (done : List Value) (ts : List (String Global)) (i : ℕ) → length ts ≤ i → texts_written done (drop i ts) ≡ items_view done
texts_done done ts i h = at_drop_all (texts_written done) ts i h ∙ joined_end done
