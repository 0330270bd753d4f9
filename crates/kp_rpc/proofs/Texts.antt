-- Reading a list of texts from the front: what the whole list gives is what was read and what the rest gives.
use Rattle.std.proofs.Common.{◌≡◌, List, [], ◌∷◌, ◌++◌, Option, Some, None, option_map, refl, sym, ap, ◌∙◌}
use Rattle.std.proofs.lemmas.List.{append_assoc, append-nil}
use Rattle.serde_json.specs.Data.{Data, null, boolean, number, string, array, object, Items, no_items, item}
use Rattle.serde_json.specs.Find.{as_str}
use Rattle.kp_kore.specs.Syntax.{Text}
use Rattle.kp_rpc.specs.Readings.{read_items}

pub record ReadsOn (whole : Option (List Text)) (front : List Text) (rest : Items) : Type 0 where
  pub is : whole ≡ option_map (λ ts. front ++ ts) (read_items rest)

same_option : (o : Option (List Text)) → o ≡ option_map (λ ts. [] ++ ts) o
same_option None = refl
same_option (Some ts) = refl

pub reads_from_the_start : (ds : Items) → ReadsOn (read_items ds) [] ds
reads_from_the_start ds = record { is = same_option (read_items ds) }

moved : (front : List Text) (t : Text) (o : Option (List Text)) → option_map (λ ts. front ++ ts) (option_map (λ us. t ∷ us) o) ≡ option_map (λ ts. (front ++ t ∷ []) ++ ts) o
moved front t None = refl
moved front t (Some ts) = ap Some (sym (append_assoc front (t ∷ []) ts))

pub reads_one_more : (whole : Option (List Text)) (front : List Text) (t : Text) (d : Data) (ds : Items) → Some t ≡ as_str d → ReadsOn whole front (item d ds) → ReadsOn whole (front ++ t ∷ []) ds
reads_one_more whole front t null ds e h = absurd (cc e)
reads_one_more whole front t (boolean b) ds e h = absurd (cc e)
reads_one_more whole front t (number n) ds e h = absurd (cc e)
reads_one_more whole front t (string u) ds e h =
    let same : u ≡ t = cc e in
    record { is = h.is ∙ moved front u (read_items ds) ∙ ap (λ x. option_map (λ ts. (front ++ x ∷ []) ++ ts) (read_items ds)) same }
reads_one_more whole front t (array es) ds e h = absurd (cc e)
reads_one_more whole front t (object o) ds e h = absurd (cc e)

pub reads_no_more : (whole : Option (List Text)) (front : List Text) (d : Data) (ds : Items) → None ≡ as_str d → ReadsOn whole front (item d ds) → whole ≡ None
reads_no_more whole front null ds e h = h.is
reads_no_more whole front (boolean b) ds e h = h.is
reads_no_more whole front (number n) ds e h = h.is
reads_no_more whole front (string u) ds e h = absurd (cc e)
reads_no_more whole front (array es) ds e h = h.is
reads_no_more whole front (object o) ds e h = h.is

pub reads_to_the_end : (whole : Option (List Text)) (front : List Text) → ReadsOn whole front no_items → whole ≡ Some front
reads_to_the_end whole front h = h.is ∙ ap Some (append-nil front)
