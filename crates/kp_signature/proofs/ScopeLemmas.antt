-- What a scope knows once a variable comes in or goes out.
use Rattle.std.proofs.Common.{◌≡◌, refl, sym, ap, ◌∙◌, Bool, true, false, not, cond, List, [], ◌∷◌, ◌++◌, Option, Some, None, Result, Ok, Err, OnOk, IfErr}
use Rattle.std.specs.Option.{option_map}
use Rattle.std.specs.Str.{bytes_eq}
use Rattle.std.proofs.lemmas.Slice.Eq.{bytes_eq-Decides}
use Rattle.kp_kore.specs.Syntax.{Text, KoreSort}
use Rattle.kp_kore.specs.Parts.{SortedName, without_name}
use Rattle.kp_kore.specs.View.{sort_view}
use Rattle.kp_kore.specs.declared.sort.Sort.{Sort}
use Rattle.kp_signature.specs.Places.{earlier, sort_in_scope}

pub scope_append : (n : Text) (s t : List SortedName) → sort_in_scope n (s ++ t) ≡ earlier (sort_in_scope n s) (sort_in_scope n t)
scope_append n [] t = refl
scope_append n (v ∷ vs) t = by (bytes_eq v.name n) (scope_append n vs t)
  where
    by : (b : Bool) → sort_in_scope n (vs ++ t) ≡ earlier (sort_in_scope n vs) (sort_in_scope n t) → cond b (Some v.sort) (sort_in_scope n (vs ++ t)) ≡ earlier (cond b (Some v.sort) (sort_in_scope n vs)) (sort_in_scope n t)
    by true rest = refl
    by false rest = rest

-- a name that isn't there yet
pub added : (x : Text) (t : KoreSort) (s : List SortedName) (sort : Sort) (f g : Text → Option Sort) →
    ((n : Text) → option_map sort_view (f n) ≡ sort_in_scope n s) → sort_in_scope x s ≡ None → sort_view sort ≡ t → ((n : Text) → g n ≡ cond (bytes_eq x n) (Some sort) (f n)) →
    (n : Text) → option_map sort_view (g n) ≡ sort_in_scope n (s ++ record { name = x; sort = t } ∷ [])
added x t s sort f g knows new is h n = ap (option_map sort_view) (h n) ∙ by (bytes_eq x n) refl ∙ sym (scope_append n s (record { name = x; sort = t } ∷ []))
  where
    unchanged : (o : Option KoreSort) → o ≡ earlier o None
    unchanged (Some i) = refl
    unchanged None = refl

    by : (b : Bool) → bytes_eq x n ≡ b → option_map sort_view (cond b (Some sort) (f n)) ≡ earlier (sort_in_scope n s) (cond b (Some t) None)
    by true e = ap Some is ∙ ap (λ o. earlier o (Some t)) (sym (ap (λ m. sort_in_scope m s) (sym ((bytes_eq-Decides x n).0 e)) ∙ new))
    by false e = knows n ∙ unchanged (sort_in_scope n s)

-- a name that is there keeps its sort
pub kept_name : (x : Text) (t u : KoreSort) (s : List SortedName) (f : Text → Option Sort) →
    ((n : Text) → option_map sort_view (f n) ≡ sort_in_scope n s) → sort_in_scope x s ≡ Some u →
    (n : Text) → option_map sort_view (f n) ≡ sort_in_scope n (s ++ record { name = x; sort = t } ∷ [])
kept_name x t u s f knows there n = knows n ∙ by (bytes_eq x n) refl ∙ sym (scope_append n s (record { name = x; sort = t } ∷ []))
  where
    unchanged : (o : Option KoreSort) → o ≡ earlier o None
    unchanged (Some i) = refl
    unchanged None = refl

    by : (b : Bool) → bytes_eq x n ≡ b → sort_in_scope n s ≡ earlier (sort_in_scope n s) (cond b (Some t) None)
    by true e = let at : sort_in_scope n s ≡ Some u = ap (λ m. sort_in_scope m s) (sym ((bytes_eq-Decides x n).0 e)) ∙ there in at ∙ ap (λ o. earlier o (Some t)) (sym at)
    by false e = unchanged (sort_in_scope n s)

-- a binder's name comes in
pub bound : (x : Text) (t : KoreSort) (s : List SortedName) (sort : Sort) (f g : Text → Option Sort) →
    ((n : Text) → option_map sort_view (f n) ≡ sort_in_scope n s) → sort_view sort ≡ t → ((n : Text) → g n ≡ cond (bytes_eq x n) (Some sort) (f n)) →
    (n : Text) → option_map sort_view (g n) ≡ sort_in_scope n (record { name = x; sort = t } ∷ s)
bound x t s sort f g knows is h n = ap (option_map sort_view) (h n) ∙ by (bytes_eq x n)
  where
    by : (b : Bool) → option_map sort_view (cond b (Some sort) (f n)) ≡ cond b (Some t) (sort_in_scope n s)
    by true = ap Some is
    by false = knows n

without_hides : (x : Text) (vs : List SortedName) → sort_in_scope x (without_name x vs) ≡ None
without_hides x [] = refl
without_hides x (v ∷ vs) = by (bytes_eq v.name x) refl (without_hides x vs)
  where
    by : (b : Bool) → bytes_eq v.name x ≡ b → sort_in_scope x (without_name x vs) ≡ None → sort_in_scope x (cond (not b) (v ∷ without_name x vs) (without_name x vs)) ≡ None
    by true e rest = rest
    by false e rest = ap (λ b. cond b (Some v.sort) (sort_in_scope x (without_name x vs))) e ∙ rest

pub without_keeps : (x n : Text) (vs : List SortedName) → bytes_eq x n ≡ false → sort_in_scope n (without_name x vs) ≡ sort_in_scope n vs
without_keeps x n [] differs = refl
without_keeps x n (v ∷ vs) differs = by (bytes_eq v.name x) refl (without_keeps x n vs differs)
  where
    by : (b : Bool) → bytes_eq v.name x ≡ b → sort_in_scope n (without_name x vs) ≡ sort_in_scope n vs → sort_in_scope n (cond (not b) (v ∷ without_name x vs) (without_name x vs)) ≡ cond (bytes_eq v.name n) (Some v.sort) (sort_in_scope n vs)
    by true e rest = rest ∙ sym (ap (λ b. cond b (Some v.sort) (sort_in_scope n vs)) (ap (λ m. bytes_eq m n) ((bytes_eq-Decides v.name x).0 e) ∙ differs))
    by false e rest = ap (λ o. cond (bytes_eq v.name n) (Some v.sort) o) rest

-- and goes out
pub unbound : (x : Text) (t : KoreSort) (s found : List SortedName) (hidden : Option Sort) (f g : Text → Option Sort) →
    ((n : Text) → option_map sort_view (f n) ≡ sort_in_scope n (record { name = x; sort = t } ∷ (s ++ found))) → option_map sort_view hidden ≡ sort_in_scope x s → ((n : Text) → g n ≡ cond (bytes_eq x n) hidden (f n)) →
    (n : Text) → option_map sort_view (g n) ≡ sort_in_scope n (s ++ without_name x found)
unbound x t s found hidden f g knows was h n = ap (option_map sort_view) (h n) ∙ by (bytes_eq x n) refl ∙ sym (scope_append n s (without_name x found))
  where
    unchanged : (o : Option KoreSort) → o ≡ earlier o None
    unchanged (Some i) = refl
    unchanged None = refl

    by : (b : Bool) → bytes_eq x n ≡ b → option_map sort_view (cond b hidden (f n)) ≡ earlier (sort_in_scope n s) (sort_in_scope n (without_name x found))
    by true e =
        let same : x ≡ n = (bytes_eq-Decides x n).0 e in
        was ∙ ap (λ m. sort_in_scope m s) same ∙ unchanged (sort_in_scope n s) ∙ ap (earlier (sort_in_scope n s)) (sym (ap (λ m. sort_in_scope m (without_name x found)) (sym same) ∙ without_hides x found))
    by false e =
        knows n ∙ ap (λ b. cond b (Some t) (sort_in_scope n (s ++ found))) e ∙ scope_append n s found ∙ ap (earlier (sort_in_scope n s)) (sym (without_keeps x n found e))

pub on_ok : {T E P : Type 0} (r : Result T E) → P → OnOk r P
on_ok (Ok x) p = p
on_ok (Err e) p = tt

pub ok_map : {T E P Q : Type 0} (r : Result T E) → (P → Q) → OnOk r P → OnOk r Q
ok_map (Ok x) f p = f p
ok_map (Err e) f p = tt

pub err_map : {T E : Type 0} {P Q : E → Type 0} (r : Result T E) → ((e : E) → P e → Q e) → IfErr r P → IfErr r Q
err_map (Ok x) f p = tt
err_map (Err e) f p = f e p
