-- What a skeleton shows by heads is what it admits, and bindings after a match.
use Rattle.std.proofs.Common.{◌≡◌, refl, sym, ◌∙◌, ap, subst, ℕ, ◌+◌, ◌<◌, Bool, true, false, ◌↔◌, List, [], ◌∷◌, map, drop, length, get_or}
use Rattle.std.specs.Prelude.{Option, Some, None, Ok, Vec, MatchOption, IfSome, is_some, All, ◌≢◌, string_bytes}
use Rattle.std.specs.declared.alloc.Global.{Global}
use Rattle.std.specs.declared.alloc.AllocError.{AllocError}
use Rattle.std.specs.List.{AllByRecursion}
use Rattle.std.specs.Str.{bytes_eq}
use Rattle.std.proofs.lemmas.List.{drop_more}
use Rattle.std.proofs.lemmas.List.Elements.{recursion_from_All}
use Rattle.std.proofs.lemmas.Slice.Eq.{bytes_eq-Decides}
use Rattle.kp_kore.specs.Syntax.{Text, KoreSort, KoreSorts, no_sorts, next_sort}
use Rattle.kp_kore.specs.Signature.{KoreSignature}
use Rattle.kp_kore.specs.Value.{Value, whole, truth, token, constructed, Values, no_values, next_value, HasSort, HaveSorts}
use Rattle.kp_kore.specs.Sorted.{IsSorted}
use Rattle.kp_kore.specs.Instance.{Valuation, assigned}
use Rattle.kp_ground.specs.Matches.{Matches}
use Rattle.kp_ground.specs.Solves.{Solves}
use Rattle.kp_ground.specs.View.{value_view, values_of}
use Rattle.kp_ground.specs.declared.binding.Binding.{Binding}
use Rattle.kp_ground.specs.declared.value.Value as code
use Rattle.kp_rules.specs.Skeletons.{Form, Forms, anything, nothing, any_of, one_of, fixed, built, no_forms, next_form, forms_of, skeleton_view, Admits, AdmitAll, Shows, ShowAll, IsSolvable, IsAdmitted}
use Rattle.kp_rules.specs.declared.skeleton.Skeleton.{Skeleton}
use Rattle.kp_rules.proofs.HeadSorts.{sort_by_head, arguments_have_sorts}

-- ---- heads of sorted values tell their sorts

mutual
  pub shows_admits : (g : KoreSignature) (v : Valuation) (k : Form) (u : Value) (s : KoreSort) → HasSort g s u → Shows g v k u ↔ Admits g v k u
  shows_admits g v anything u s h = ((λ a. a), (λ a. a))
  shows_admits g v nothing u s h = ((λ a. a), (λ a. a))
  shows_admits g v (any_of t) u s h = sort_by_head g s t u h
  shows_admits g v (one_of x t) u s h =
      let here = sort_by_head g s t u h in
      ((λ a. (sym a.0, here.0 a.1)), (λ a. (sym a.0, here.1 a.1)))
  shows_admits g v (fixed w) u s h = ((λ a. sym a), (λ a. sym a))
  shows_admits g v (built f ks) (whole n) s h = ((λ a. a), (λ a. a))
  shows_admits g v (built f ks) (truth b) s h = ((λ a. a), (λ a. a))
  shows_admits g v (built f ks) (token t x) s h = ((λ a. a), (λ a. a))
  shows_admits g v (built f ks) (constructed c us) s h =
      let inside = arguments_have_sorts g s c us h in
      let all = show_admit_all g v ks us inside.0 inside.2 in
      ((λ a. (a.0, all.0 a.1)), (λ a. (a.0, all.1 a.1)))

  show_admit_all : (g : KoreSignature) (v : Valuation) (ks : Forms) (us : Values) (ss : KoreSorts) → HaveSorts g ss us → ShowAll g v ks us ↔ AdmitAll g v ks us
  show_admit_all g v no_forms no_values ss h = ((λ a. a), (λ a. a))
  show_admit_all g v no_forms (next_value u us) ss h = ((λ a. a), (λ a. a))
  show_admit_all g v (next_form k ks) no_values ss h = ((λ a. a), (λ a. a))
  show_admit_all g v (next_form k ks) (next_value u us) no_sorts h = absurd h
  show_admit_all g v (next_form k ks) (next_value u us) (next_sort s ss) h =
      let one = shows_admits g v k u s h.0 in
      let all = show_admit_all g v ks us ss h.1 in
      ((λ a. (one.0 a.0, all.0 a.1)), (λ a. (one.1 a.0, all.1 a.1)))

-- ---- the answer

pub decides_admitted : (g : KoreSignature) (k : Skeleton) (u : Value) (o : Option (Vec Binding Global)) → Matches {E = AllocError} (Ok o) [] (λ v. Shows g v (skeleton_view k) u) →
    (IsSolvable [] → IfSome o (λ new. IsSolvable new.items)) → IsSorted g u → (is_some o ≡ true) ↔ IsAdmitted g k u
decides_admitted g k u None m solvable s = (
  (λ e. absurd (cc)),
  (λ a. absurd (m a.0 tt ((shows_admits g a.0 (skeleton_view k) u s.0 s.1).1 a.1))),
)
decides_admitted g k u (Some new) m solvable s =
    let start : Valuation = λ y. u in
    let found : IsSolvable new.items = solvable (start, tt) in (
      (λ e. (found.0, (shows_admits g found.0 (skeleton_view k) u s.0 s.1).0 ((m found.0).0 found.1).1)),
      (λ a. refl),
    )

-- ---- bindings that are kept

pub kept_matches : (b : Bool) (o : Option (Vec Binding Global)) (old : List Binding) (Same : Valuation → Type 0) → MatchOption o (b ≡ false) (λ kept. (kept.items ≡ old) × (b ≡ true)) →
    ((v : Valuation) → Solves v old → (b ≡ true) ↔ Same v) → Matches {E = AllocError} (Ok o) old Same
kept_matches b None old Same h e = λ v s same. let t : b ≡ true = (e v s).1 same in absurd (cc)
kept_matches b (Some kept) old Same h e = λ v. (
  (λ s. let t : Solves v old = subst (Solves v) h.0 s in (t, (e v t).0 h.1)),
  (λ s. subst (Solves v) (sym h.0) s.0),
)

pub kept_solvable : (b : Bool) (o : Option (Vec Binding Global)) (old : List Binding) → MatchOption o (b ≡ false) (λ kept. (kept.items ≡ old) × (b ≡ true)) → IsSolvable old → IfSome o (λ new. IsSolvable new.items)
kept_solvable b None old h s = tt
kept_solvable b (Some kept) old h s = subst IsSolvable (sym h.0) s

pub matches_with : (o : Option (Vec Binding Global)) (old : List Binding) (Same : Valuation → Type 0) (P : Type 0) → P → Matches {E = AllocError} (Ok o) old Same → Matches {E = AllocError} (Ok o) old (λ v. Same v × P)
matches_with None old Same P p m = λ v s same. m v s same.0
matches_with (Some new) old Same P p m = λ v. (
  (λ s. let r = (m v).0 s in (r.0, (r.1, p))),
  (λ a. (m v).1 (a.0, a.1.0)),
)

-- ---- one binding more

assigned_here : (v : Valuation) (x : Text) (u : Value) (b : Bool) → bytes_eq x x ≡ b → assigned v x u x ≡ u
assigned_here v x u true e = rw e refl
assigned_here v x u false e = let h : bytes_eq x x ≡ true = (bytes_eq-Decides x x).1 refl in absurd (cc)

assigned_there : (v : Valuation) (x y : Text) (u : Value) (b : Bool) → bytes_eq x y ≡ b → y ≢ x → assigned v x u y ≡ v y
assigned_there v x y u true e n = let h : x ≡ y = (bytes_eq-Decides x y).0 e in absurd (n (sym h))
assigned_there v x y u false e n = rw e refl

fresh_solves : (v : Valuation) (x : Text) (u : Value) (bs : List Binding) → AllByRecursion (λ b. string_bytes b.name.value ≢ x) bs → Solves v bs → Solves (assigned v x u) bs
fresh_solves v x u [] n s = tt
fresh_solves v x u (b ∷ bs) n s = (assigned_there v x (string_bytes b.name.value) u _ refl n.0 ∙ s.0, fresh_solves v x u bs n.1 s.1)

pub fresh_solvable : (x : Text) (u : Value) (old new : List Binding) → All (λ b. string_bytes b.name.value ≢ x) old → ((v : Valuation) → Solves v new ↔ (Solves v old × (v x ≡ u))) → IsSolvable old → IsSolvable new
fresh_solvable x u old new n same s =
    (assigned s.0 x u, (same (assigned s.0 x u)).1 (fresh_solves s.0 x u old (recursion_from_All (λ b. string_bytes b.name.value ≢ x) old n) s.1, assigned_here s.0 x u _ refl))

-- ---- lists, by what is left of them

pub one_shown : (g : KoreSignature) (v : Valuation) (i : ℕ) (ks : List Skeleton) (us : List code.Value) (k : Skeleton) (u : code.Value) → i < length ks → i < length us → k ≡ get_or ks i k → u ≡ get_or us i u →
    ShowAll g v (forms_of (map skeleton_view (drop i ks))) (values_of (map value_view (drop i us)))
    ↔ (Shows g v (skeleton_view k) (value_view u) × ShowAll g v (forms_of (map skeleton_view (drop (i + 1) ks))) (values_of (map value_view (drop (i + 1) us))))
one_shown g v i ks us k u h l e f =
    let p : drop i ks ≡ k ∷ drop (i + 1) ks = drop_more ks i k h ∙ ap (λ x. x ∷ drop (i + 1) ks) (sym e) in
    let q : drop i us ≡ u ∷ drop (i + 1) us = drop_more us i u l ∙ ap (λ x. x ∷ drop (i + 1) us) (sym f) in
    rw (p, q) ((λ a. a), (λ a. a))

-- what is shown so far, and is to be shown
abbrev pub Left : KoreSignature → List Skeleton → List code.Value → ℕ → Valuation → Type 0
Left g ks us i v = ShowAll g v (forms_of (map skeleton_view (drop i ks))) (values_of (map value_view (drop i us)))

pub shown_more : (g : KoreSignature) (i : ℕ) (ks : List Skeleton) (us : List code.Value) (k : Skeleton) (u : code.Value) (first before after : List Binding) → i < length ks → i < length us → k ≡ get_or ks i k → u ≡ get_or us i u →
    ((v : Valuation) → (Solves v before × Left g ks us i v) ↔ (Solves v first × Left g ks us 0 v)) →
    ((v : Valuation) → Solves v after ↔ (Solves v before × Shows g v (skeleton_view k) (value_view u))) →
    (v : Valuation) → (Solves v after × Left g ks us (i + 1) v) ↔ (Solves v first × Left g ks us 0 v)
shown_more g i ks us k u first before after h l e f kept more = λ v.
    let here = one_shown g v i ks us k u h l e f in (
      (λ a. let b = (more v).0 a.0 in (kept v).0 (b.0, here.1 (b.1, a.1))),
      (λ a. let b = (kept v).1 a in let r = here.0 b.1 in ((more v).1 (b.0, r.0), r.1)),
    )

pub shown_not : (g : KoreSignature) (i : ℕ) (ks : List Skeleton) (us : List code.Value) (k : Skeleton) (u : code.Value) (first before : List Binding) → i < length ks → i < length us → k ≡ get_or ks i k → u ≡ get_or us i u →
    ((v : Valuation) → (Solves v before × Left g ks us i v) ↔ (Solves v first × Left g ks us 0 v)) →
    ((v : Valuation) → Solves v before → ¬ Shows g v (skeleton_view k) (value_view u)) →
    (v : Valuation) → Solves v first → ¬ Left g ks us 0 v
shown_not g i ks us k u first before h l e f kept none = λ v s a.
    let b = (kept v).1 (s, a) in
    none v b.0 ((one_shown g v i ks us k u h l e f).0 b.1).0

pub shown_whole : (g : KoreSignature) (i : ℕ) (ks : List Skeleton) (us : List code.Value) (first last : List Binding) → drop i ks ≡ [] → drop i us ≡ [] →
    ((v : Valuation) → (Solves v last × Left g ks us i v) ↔ (Solves v first × Left g ks us 0 v)) →
    (v : Valuation) → Solves v last ↔ (Solves v first × Left g ks us 0 v)
shown_whole g i ks us first last e f kept = λ v.
    let none : Left g ks us i v = rw (e, f) tt in
    ((λ s. (kept v).0 (s, none)), (λ a. ((kept v).1 a).0))

other_numbers : (g : KoreSignature) (v : Valuation) (ks : List Skeleton) (us : List code.Value) → (length ks ≡ length us → ⊥) → ¬ ShowAll g v (forms_of (map skeleton_view ks)) (values_of (map value_view us))
other_numbers g v [] [] n a = n refl
other_numbers g v [] (u ∷ us) n a = a
other_numbers g v (k ∷ ks) [] n a = a
other_numbers g v (k ∷ ks) (u ∷ us) n a = other_numbers g v ks us (λ e. n (cc)) a.1

pub not_as_many : (g : KoreSignature) (ks : List Skeleton) (us : List code.Value) (first : List Binding) → (length ks ≡ length us → ⊥) → (v : Valuation) → Solves v first → ¬ ShowAll g v (forms_of (map skeleton_view ks)) (values_of (map value_view us))
not_as_many g ks us first n = λ v s a. other_numbers g v ks us n a

-- ---- constructors

pub built_shown : (g : KoreSignature) (o : Option (Vec Binding Global)) (old : List Binding) (c d : Text) (ks : Forms) (us : Values) → d ≡ c → Matches {E = AllocError} (Ok o) old (λ v. ShowAll g v ks us) →
    Matches {E = AllocError} (Ok o) old (λ v. Shows g v (built c ks) (constructed d us))
built_shown g None old c d ks us e m = λ v s same. m v s same.1
built_shown g (Some new) old c d ks us e m = λ v. (
  (λ s. let r = (m v).0 s in (r.0, (e, r.1))),
  (λ a. (m v).1 (a.0, a.1.1)),
)

pub shown_as : (g : KoreSignature) (o : Option (Vec Binding Global)) (old : List Binding) (j k : Form) (t u : Value) → j ≡ k → t ≡ u → Matches {E = AllocError} (Ok o) old (λ v. Shows g v k u) →
    Matches {E = AllocError} (Ok o) old (λ v. Shows g v j t)
shown_as g o old j k t u e f m =
    subst (λ f. Matches {E = AllocError} (Ok o) old (λ v. Shows g v f t)) (sym e)
    (subst (λ w. Matches {E = AllocError} (Ok o) old (λ v. Shows g v k w)) (sym f) m)
