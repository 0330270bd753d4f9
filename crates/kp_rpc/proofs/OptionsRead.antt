-- The options that are read are those that the members spell, and none else.
use Rattle.std.proofs.Common.{◌≡◌, ◌⊎◌, inl, inr, ℕ, List, [], ◌∷◌, Option, Some, None, option_map, refl, sym, ap, ◌∙◌}
use Rattle.std.specs.Prelude.{codes}
use Rattle.serde_json.specs.Data.{Data, unsigned, negative, float, null, boolean, number, string, array, object, Items, no_items, item, Members}
use Rattle.serde_json.specs.Find.{get_member}
use Rattle.kp_kore.specs.Syntax.{Text}
use Rattle.kp_rpc.specs.Request.{NumberAt, TextAt, AreTexts, TextsAt, ExecuteOptions, HasOptions}
use Rattle.kp_rpc.specs.Readings.{read_number, read_text, read_items, read_texts, options_from, read_options}

-- ---- numbers

number_none : (x : Option Data) → read_number x ≡ Some None → (x ≡ None) ⊎ (x ≡ Some null)
number_none None e = inl refl
number_none (Some null) e = inr refl
number_none (Some (boolean b)) e = absurd (cc e)
number_none (Some (number (unsigned n))) e = absurd (cc e)
number_none (Some (number (negative z))) e = absurd (cc e)
number_none (Some (number (float x))) e = absurd (cc e)
number_none (Some (string t)) e = absurd (cc e)
number_none (Some (array ds)) e = absurd (cc e)
number_none (Some (object o)) e = absurd (cc e)

number_some : (x : Option Data) (m : ℕ) → read_number x ≡ Some (Some m) → x ≡ Some (number (unsigned m))
number_some None m e = absurd (cc e)
number_some (Some null) m e = absurd (cc e)
number_some (Some (boolean b)) m e = absurd (cc e)
number_some (Some (number (unsigned n))) m e = cc e
number_some (Some (number (negative z))) m e = absurd (cc e)
number_some (Some (number (float x))) m e = absurd (cc e)
number_some (Some (string t)) m e = absurd (cc e)
number_some (Some (array ds)) m e = absurd (cc e)
number_some (Some (object o)) m e = absurd (cc e)

number_found : (o : Members) (key : Text) (n : Option ℕ) → read_number (get_member key o) ≡ Some n → NumberAt o key n
number_found o key None e = number_none (get_member key o) e
number_found o key (Some m) e = number_some (get_member key o) m e

number_told : (o : Members) (key : Text) (n : Option ℕ) → NumberAt o key n → read_number (get_member key o) ≡ Some n
number_told o key None (inl e) = ap read_number e
number_told o key None (inr e) = ap read_number e
number_told o key (Some m) e = ap read_number e

-- ---- texts

text_none : (x : Option Data) → read_text x ≡ Some None → (x ≡ None) ⊎ (x ≡ Some null)
text_none None e = inl refl
text_none (Some null) e = inr refl
text_none (Some (boolean b)) e = absurd (cc e)
text_none (Some (number n)) e = absurd (cc e)
text_none (Some (string t)) e = absurd (cc e)
text_none (Some (array ds)) e = absurd (cc e)
text_none (Some (object o)) e = absurd (cc e)

text_some : (x : Option Data) (u : Text) → read_text x ≡ Some (Some u) → x ≡ Some (string u)
text_some None u e = absurd (cc e)
text_some (Some null) u e = absurd (cc e)
text_some (Some (boolean b)) u e = absurd (cc e)
text_some (Some (number n)) u e = absurd (cc e)
text_some (Some (string t)) u e = cc e
text_some (Some (array ds)) u e = absurd (cc e)
text_some (Some (object o)) u e = absurd (cc e)

pub text_found : (o : Members) (key : Text) (t : Option Text) → read_text (get_member key o) ≡ Some t → TextAt o key t
text_found o key None e = text_none (get_member key o) e
text_found o key (Some u) e = text_some (get_member key o) u e

pub text_told : (o : Members) (key : Text) (t : Option Text) → TextAt o key t → read_text (get_member key o) ≡ Some t
text_told o key None (inl e) = ap read_text e
text_told o key None (inr e) = ap read_text e
text_told o key (Some u) e = ap read_text e

-- ---- lists of texts

first_text : (o : Option (List Text)) (t u : Text) (us : List Text) → option_map (λ ts. t ∷ ts) o ≡ Some (u ∷ us) → (u ≡ t) × (o ≡ Some us)
first_text None t u us e = absurd (cc e)
first_text (Some ts) t u us e = (cc e, cc e)

never_none : (o : Option (List Text)) (t : Text) → option_map (λ ts. t ∷ ts) o ≡ Some [] → ⊥
never_none None t e = cc e
never_none (Some ts) t e = cc e

items_found : (ds : Items) (ts : List Text) → read_items ds ≡ Some ts → AreTexts ds ts
items_found no_items ts e = cc e
items_found (item null ds) ts e = absurd (cc e)
items_found (item (boolean b) ds) ts e = absurd (cc e)
items_found (item (number n) ds) ts e = absurd (cc e)
items_found (item (string t) ds) [] e = never_none (read_items ds) t e
items_found (item (string t) ds) (u ∷ us) e = let both = first_text (read_items ds) t u us e in (both.0, items_found ds us both.1)
items_found (item (array es) ds) ts e = absurd (cc e)
items_found (item (object o) ds) ts e = absurd (cc e)

items_told : (ds : Items) (ts : List Text) → AreTexts ds ts → read_items ds ≡ Some ts
items_told no_items ts h = ap Some (sym h)
items_told (item null ds) ts h = absurd h
items_told (item (boolean b) ds) ts h = absurd h
items_told (item (number n) ds) ts h = absurd h
items_told (item (string t) ds) [] h = absurd h
items_told (item (string t) ds) (u ∷ us) h = ap (option_map (λ ts. t ∷ ts)) (items_told ds us h.1) ∙ ap (λ x. Some (x ∷ us)) (sym h.0)
items_told (item (array es) ds) ts h = absurd h
items_told (item (object o) ds) ts h = absurd h

texts_in : (x : Option Data) (ts : List Text) → read_texts x ≡ Some ts → (((x ≡ None) ⊎ (x ≡ Some null)) × (ts ≡ [])) ⊎ ((ds : Items) × (x ≡ Some (array ds)) × AreTexts ds ts)
texts_in None ts e = inl (inl refl, cc e)
texts_in (Some null) ts e = inl (inr refl, cc e)
texts_in (Some (boolean b)) ts e = absurd (cc e)
texts_in (Some (number n)) ts e = absurd (cc e)
texts_in (Some (string t)) ts e = absurd (cc e)
texts_in (Some (array ds)) ts e = inr (ds, refl, items_found ds ts e)
texts_in (Some (object o)) ts e = absurd (cc e)

texts_found : (o : Members) (key : Text) (ts : List Text) → read_texts (get_member key o) ≡ Some ts → TextsAt o key ts
texts_found o key ts e = texts_in (get_member key o) ts e

texts_told : (o : Members) (key : Text) (ts : List Text) → TextsAt o key ts → read_texts (get_member key o) ≡ Some ts
texts_told o key ts (inl (inl e, n)) = ap read_texts e ∙ ap Some (sym n)
texts_told o key ts (inl (inr e, n)) = ap read_texts e ∙ ap Some (sym n)
texts_told o key ts (inr (ds, e, h)) = ap read_texts e ∙ items_told ds ts h

-- ---- all four

record FourRead (a : Option (Option ℕ)) (b : Option (Option Text)) (c d : Option (List Text)) (o : ExecuteOptions) : Type 0 where
  pub depth : a ≡ Some o.max_depth
  pub name : b ≡ Some o.module_name
  pub cuts : c ≡ Some o.cut_points
  pub ends : d ≡ Some o.terminals

four_read : (a : Option (Option ℕ)) (b : Option (Option Text)) (c d : Option (List Text)) (o : ExecuteOptions) → options_from a b c d ≡ Some o → FourRead a b c d o
four_read None b c d o e = absurd (cc e)
four_read (Some n) None c d o e = absurd (cc e)
four_read (Some n) (Some t) None d o e = absurd (cc e)
four_read (Some n) (Some t) (Some us) None o e = absurd (cc e)
four_read (Some n) (Some t) (Some us) (Some vs) o e =
    let same : record { max_depth = n; module_name = t; cut_points = us; terminals = vs } ≡ o = cc e in
    record { depth = ap (λ x. Some x.max_depth) same; name = ap (λ x. Some x.module_name) same; cuts = ap (λ x. Some x.cut_points) same; ends = ap (λ x. Some x.terminals) same }

four_told : (a : Option (Option ℕ)) (b : Option (Option Text)) (c d : Option (List Text)) (o : ExecuteOptions) → FourRead a b c d o → options_from a b c d ≡ Some o
four_told a b c d o h = rw (h.depth, h.name, h.cuts, h.ends) refl

pub options_found : (p : Members) (o : ExecuteOptions) → read_options (object p) ≡ Some o → HasOptions p o
options_found p o e =
    let parts = four_read _ _ _ _ o e in
    record {
      max_depth = number_found p (codes "max-depth") o.max_depth parts.depth;
      module_name = text_found p (codes "module") o.module_name parts.name;
      cut_points = texts_found p (codes "cut-point-rules") o.cut_points parts.cuts;
      terminals = texts_found p (codes "terminal-rules") o.terminals parts.ends;
    }

pub options_told : (p : Members) (o : ExecuteOptions) → HasOptions p o → read_options (object p) ≡ Some o
options_told p o h =
    four_told _ _ _ _ o (record {
      depth = number_told p (codes "max-depth") o.max_depth h.max_depth;
      name = text_told p (codes "module") o.module_name h.module_name;
      cuts = texts_told p (codes "cut-point-rules") o.cut_points h.cut_points;
      ends = texts_told p (codes "terminal-rules") o.terminals h.terminals;
    })
