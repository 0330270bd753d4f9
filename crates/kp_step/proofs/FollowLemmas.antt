-- What a right side gives is what the rule rewrites a part's instances to.
use Rattle.std.proofs.Common.{◌≡◌, refl, sym, ap, subst, ◌∙◌, Bool, true, false, not, cond, List, [], ◌∷◌, Some, None, ◌↔◌}
use Rattle.std.specs.Prelude.{if◌then◌else◌}
use Rattle.std.specs.List.{AllByRecursion}
use Rattle.std.specs.Str.{bytes_eq}
use Rattle.std.proofs.lemmas.Slice.Eq.{bytes_eq-Decides}
use Rattle.kp_kore.specs.Syntax.{Text, sort_variable}
use Rattle.kp_kore.specs.Parts.{SortedName}
use Rattle.kp_kore.specs.Signature.{KoreSignature}
use Rattle.kp_kore.specs.Value.{Value, HasSort}
use Rattle.kp_kore.specs.Instance.{Valuation, GivesSorts, is_named}
use Rattle.kp_kore.specs.Rules.{Rewrite, RuleBody, rewrite}
use Rattle.kp_kore.specs.Steps.{Fires, LeadsTo}
use Rattle.kp_kore.proofs.NameLemmas.{true_is_false}
use Rattle.kp_kore.proofs.ListLemmas.{all_map}
use Rattle.kp_symbolic.specs.Terms.{Replaced, replacement_for, under_replaced, term_instance}
use Rattle.kp_symbolic.specs.States.{SymbolicState, IsStateInstance, AreTrue}
use Rattle.kp_symbolic.proofs.Distribution.{all_first}
use Rattle.kp_symbolic.proofs.Folded.{for_instance}
use Rattle.kp_rules.specs.Skeletons.{Form, Admits}
use Rattle.kp_case_laws.specs.Parts.{StatePart, whole, OfEachInstance, IsPartBelow, IsSortedPart}
use Rattle.kp_case_laws.specs.Cases.{IsBoundBy, MetPart, IsMetBy, left_side}
use Rattle.kp_case_laws.specs.Nexts.{IsInstantiated, IsNextState}
use Rattle.kp_case_laws.proofs.CaseLemmas.{gives_valuation}
use Rattle.kp_case_laws.proofs.NextLemmas.{next_found, next_follows}
use Rattle.kp_case_laws.specs.Firing.{HasNoInstance}
use Rattle.kp_rules.specs.LeftSides.{IsLeftInstance, IsLeftSide, IsOverLeft}
use Rattle.kp_case_laws.specs.NextStates.{FollowsBy}
use Rattle.kp_case_laws.proofs.FiringLemmas.{same_condition}
use Rattle.kp_step.specs.Follows.{kept_bindings}

-- ---- bindings that new variables hide

no_name : (new : List SortedName) (b : Replaced) (y : Text) → is_named y new ≡ false → is_named b.name new ≡ true → bytes_eq b.name y ≡ false
no_name new b y e h = by (bytes_eq b.name y) refl
  where
    by : (m : Bool) → bytes_eq b.name y ≡ m → m ≡ false
    by false q = refl
    by true q = absurd (true_is_false (sym h ∙ subst (λ z. is_named z new ≡ false) (sym ((bytes_eq-Decides b.name y).0 q)) e))

pub kept_at : (new : List SortedName) (bs : List Replaced) (y : Text) → is_named y new ≡ false → replacement_for (kept_bindings new bs) y ≡ replacement_for bs y
kept_at new [] y e = refl
kept_at new (b ∷ bs) y e = by (is_named b.name new) refl (kept_at new bs y e)
  where
    by : (k : Bool) → is_named b.name new ≡ k → replacement_for (kept_bindings new bs) y ≡ replacement_for bs y →
        replacement_for (cond (not k) (b ∷ kept_bindings new bs) (kept_bindings new bs)) y ≡ replacement_for (b ∷ bs) y
    by false q rest = ap (λ o. if bytes_eq b.name y then Some b.term else o) rest
    by true q rest = rest ∙ sym (ap (λ m. if m then Some b.term else replacement_for bs y) (no_name new b y e q))

pub hidden_at : (new : List SortedName) (bs : List Replaced) (y : Text) → is_named y new ≡ true → replacement_for (kept_bindings new bs) y ≡ None
hidden_at new [] y e = refl
hidden_at new (b ∷ bs) y e = by (is_named b.name new) refl (hidden_at new bs y e)
  where
    other : is_named b.name new ≡ false → (m : Bool) → bytes_eq b.name y ≡ m → m ≡ false
    other q false h = refl
    other q true h = absurd (true_is_false (sym e ∙ subst (λ z. is_named z new ≡ false) ((bytes_eq-Decides b.name y).0 h) q))

    by : (k : Bool) → is_named b.name new ≡ k → replacement_for (kept_bindings new bs) y ≡ None →
        replacement_for (cond (not k) (b ∷ kept_bindings new bs) (kept_bindings new bs)) y ≡ None
    by false q rest = ap (λ m. if m then Some b.term else replacement_for (kept_bindings new bs) y) (other q (bytes_eq b.name y) refl) ∙ rest
    by true q rest = rest

pub kept_all : (new : List SortedName) (P : Replaced → Type 0) (bs : List Replaced) → AllByRecursion P bs → AllByRecursion P (kept_bindings new bs)
kept_all new P [] h = tt
kept_all new P (b ∷ bs) h = by (is_named b.name new) (kept_all new P bs h.1)
  where
    by : (k : Bool) → AllByRecursion P (kept_bindings new bs) → AllByRecursion P (cond (not k) (b ∷ kept_bindings new bs) (kept_bindings new bs))
    by false rest = (h.0, rest)
    by true rest = rest

same_under : (g : KoreSignature) (rs qs : List Replaced) (w : Valuation) (x : Text) → replacement_for rs x ≡ replacement_for qs x → under_replaced g rs w x ≡ under_replaced g qs w x
same_under g rs qs w x e = sym (for_instance g rs w x (sort_variable []) (replacement_for qs x) e) ∙ for_instance g qs w x (sort_variable []) (replacement_for qs x) refl

-- a new variable's own value doesn't matter
leads_from : (g : KoreSignature) (rule : Rewrite) (bs : List Replaced) (w : Valuation) (next : Value) → LeadsTo g rule (under_replaced g (kept_bindings rule.new_variables bs) w) next → LeadsTo g rule (under_replaced g bs w) next
leads_from g rule bs w next l = record {
  chosen = l.chosen;
  agrees = λ y e. l.agrees y e ∙ same_under g (kept_bindings rule.new_variables bs) bs w y (kept_at rule.new_variables bs y e);
  sorts = l.sorts;
  ensured = l.ensured;
  result = l.result;
}

-- ---- what follows

pub follows_right : (g : KoreSignature) (rule : Rewrite) (form : Form) (m : MetPart) (p : StatePart) (ys new : List SortedName) (s : SymbolicState) → IsLeftSide g rule form → IsOverLeft rule → IsMetBy g (left_side g form) m →
    IsPartBelow g m.part p → OfEachInstance g p (λ w c. Fires g (rewrite rule) c) → IsSortedPart g p → IsInstantiated g rule p (kept_bindings rule.new_variables m.bindings) ys new →
    IsNextState g rule p (kept_bindings rule.new_variables m.bindings) ys new s → FollowsBy g (rewrite rule) p s
follows_right g rule form m p ys new s left over met below fires sorted i n = record {
  found = λ w c sorts has later r.
      let at : GivesSorts g w m.part.state.variables = below.part.within.sorts w sorts in
      let there : IsStateInstance g w m.part.state c = ((below.part.same w c sorts).0 has).0 in
      let bound : IsBoundBy g w m.bindings r.0 = ((met.exactly w c at there r.0).0 ((left.stands r.0 c).1 (r.1.sorts, r.1.matches))).1 in
      next_found g rule p (kept_bindings rule.new_variables m.bindings) ys new s w r.0 c later sorted i n sorts has (kept_all rule.new_variables (λ b. r.0 b.name ≡ term_instance g w b.term) m.bindings bound) r.2;
  only = λ x later sorts has.
      let back = next_follows g rule p (kept_bindings rule.new_variables m.bindings) ys new s x later i n sorts has in
      let c : Value = term_instance g x p.state.term in
      let here : GivesSorts g x p.state.variables = all_first (λ y. HasSort g y.sort (x y.name)) p.state.variables new (subst (λ ys. GivesSorts g x ys) n.variables sorts) in
      let at : GivesSorts g x m.part.state.variables = below.part.within.sorts x here in
      let there : IsStateInstance g x m.part.state c = ((below.part.same x c here).0 back.0).0 in
      let own : Valuation = under_replaced g m.bindings x in
      let given : AreTrue g x m.equations ↔ Admits g own form c = gives_valuation g (left_side g form) m met x c at there in
      let f = fires x c here back.0 in
      let instance_of : IsLeftInstance g rule f.0 c = (f.1.sorts, f.1.matches) in
      let equal : AreTrue g x m.equations = ((met.exactly x c at there f.0).0 ((left.stands f.0 c).1 instance_of)).0 in
      let own_instance : IsLeftInstance g rule own c = (left.stands own c).0 (given.0 equal) in (
        c,
        back.0,
        (
          own,
          record { sorts = own_instance.0; matches = own_instance.1; condition = same_condition g rule f.0 own over (left.once f.0 own c instance_of own_instance) f.1.condition },
          leads_from g rule m.bindings x later back.1,
        ),
      );
}

-- where the new variables have no values, nothing follows
pub nothing_follows : (g : KoreSignature) (rule : Rewrite) (p : StatePart) (s : SymbolicState) → ¬ AllByRecursion (λ y. (u : Value) × HasSort g y.sort u) rule.new_variables → HasNoInstance g (whole s) → FollowsBy g (rewrite rule) p s
nothing_follows g rule p s none empty = record {
  found = λ w c sorts has later r. absurd (none (all_map (λ y. HasSort g y.sort (r.2.chosen y.name)) (λ y. (u : Value) × HasSort g y.sort u) rule.new_variables (λ y h. (r.2.chosen y.name, h)) r.2.sorts));
  only = λ x later sorts has. absurd (empty x later sorts has);
}

-- a state with the same instances follows, too
pub follows_same : (g : KoreSignature) (body : RuleBody) (p : StatePart) (s t : SymbolicState) → t.variables ≡ s.variables → ((w : Valuation) (c : Value) → GivesSorts g w s.variables → IsStateInstance g w s c ↔ IsStateInstance g w t c) →
    FollowsBy g body p s → FollowsBy g body p t
follows_same g body p s t e same f = record {
  found = λ w c sorts has later r.
      let x = f.found w c sorts has later r in (
        x.0,
        record { agrees = x.1.agrees; sorts = subst (λ ys. GivesSorts g x.0 ys) (sym e) x.1.sorts },
        (same x.0 later x.1.sorts).0 x.2,
      );
  only = λ x later sorts has. let there = subst (λ ys. GivesSorts g x ys) e sorts in f.only x later there ((same x later there).1 has);
}
