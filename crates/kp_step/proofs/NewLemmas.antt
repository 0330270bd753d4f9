-- New variables of a rule stand for new variables of the state, each for one.
use Rattle.std.proofs.Common.{◌≡◌, refl, sym, ap, subst, ◌∙◌, arith, ℕ, ◌≤◌, Bool, true, false, ◌||◌, List, [], ◌∷◌, ◌++◌, Some, None, inl, inr, ◌⊎◌, ◌↔◌}
use Rattle.std.specs.Prelude.{is_some, if◌then◌else◌, MatchBool}
use Rattle.std.specs.List.{AllByRecursion, Contains}
use Rattle.std.specs.Str.{bytes_eq}
use Rattle.std.proofs.lemmas.Slice.Eq.{bytes_eq-Decides}
use Rattle.std.proofs.lemmas.List.{append_assoc, append-nil}
use Rattle.std.proofs.lemmas.List.Elements.{Contains-push, Contains-append_left}
use Rattle.kp_kore.specs.Syntax.{Text, KoreSort, KoreSorts, no_sorts, next_sort}
use Rattle.kp_kore.specs.Parts.{SortedName, free_variables}
use Rattle.kp_kore.specs.Signature.{KoreSignature}
use Rattle.kp_kore.specs.Value.{Value, HasSort}
use Rattle.kp_kore.specs.Instance.{Valuation, GivesSorts, is_named}
use Rattle.kp_kore.specs.Rules.{Rewrite}
use Rattle.kp_kore.proofs.ListLemmas.{all_append, all_map}
use Rattle.kp_kore.proofs.NameLemmas.{true_is_false}
use Rattle.kp_kore.proofs.TurnLemmas.{of_member, each_member}
use Rattle.kp_symbolic.specs.Terms.{SymbolicTerm, unknown, term_variables, Replaced, replacement_for}
use Rattle.kp_symbolic.specs.WellFormed.{AreAtHand}
use Rattle.kp_symbolic_laws.specs.Runs.{HasOneSortEach}
use Rattle.kp_case_laws.specs.Parts.{StatePart, AreNew, IsNewVariable}
use Rattle.kp_case_laws.specs.Narrowings.{sorts_of_names}
use Rattle.kp_case_laws.specs.Courses.{IsBoundTo}
use Rattle.kp_case_laws.specs.Nexts.{fresh_bindings, AreRulesNew, AreBoundOrNew, IsInstantiated}
use Rattle.kp_case_laws.proofs.GrownLemmas.{new_further}
use Rattle.kp_case_laws.proofs.AtHandLemmas.{Named, named_member, member_named}
use Rattle.kp_unify.specs.Way.{IsInUse}
use Rattle.kp_unify.proofs.WayLemmas.{all_later, not_named, new_one, later, last_in_use}
use Rattle.kp_step.specs.Follows.{kept_bindings}
use Rattle.kp_step.specs.RightSides.{ChosenNew, IsChosenNext, IsChosenOne, AreChosenFrom, AreChosen, AreNamedIn, IsOverBoth}
use Rattle.kp_step.proofs.FollowLemmas.{kept_at, hidden_at, kept_all}

-- ---- names

first_sort : {a b : KoreSort} {ss ts : KoreSorts} → next_sort a ss ≡ next_sort b ts → a ≡ b
first_sort e = cc

other_sorts : {a b : KoreSort} {ss ts : KoreSorts} → next_sort a ss ≡ next_sort b ts → ss ≡ ts
other_sorts e = cc

-- a rule's variable is bound to a new one where it is one of these
bound_where : (ys zs : List SortedName) (x : Text) → sorts_of_names zs ≡ sorts_of_names ys → is_some (replacement_for (fresh_bindings ys zs) x) ≡ is_named x ys
bound_where [] [] x e = refl
bound_where [] (z ∷ zs) x e = absurd (cc)
bound_where (y ∷ ys) [] x e = absurd (cc)
bound_where (y ∷ ys) (z ∷ zs) x e = by (bytes_eq y.name x) (bound_where ys zs x (other_sorts e))
  where
    by : (b : Bool) → is_some (replacement_for (fresh_bindings ys zs) x) ≡ is_named x ys → is_some (if b then Some (unknown z) else replacement_for (fresh_bindings ys zs) x) ≡ (b || is_named x ys)
    by true r = refl
    by false r = r

pub named_in_both : (x : Text) (xs ys : List SortedName) → is_named x (xs ++ ys) ≡ (is_named x xs || is_named x ys)
named_in_both x [] ys = refl
named_in_both x (y ∷ xs) ys = by (bytes_eq y.name x) (named_in_both x xs ys)
  where
    by : (b : Bool) → is_named x (xs ++ ys) ≡ (is_named x xs || is_named x ys) → (b || is_named x (xs ++ ys)) ≡ ((b || is_named x xs) || is_named x ys)
    by true r = refl
    by false r = r

or_false : (b : Bool) → (b || false) ≡ b
or_false true = refl
or_false false = refl

or_same : (b d : Bool) → (d ≡ true → b ≡ true) → b ≡ (b || d)
or_same true d h = refl
or_same false true h = h refl
or_same false false h = refl

-- ---- sorts and lists with one more

sorts_with : (xs ys : List SortedName) (x y : SortedName) → sorts_of_names xs ≡ sorts_of_names ys → x.sort ≡ y.sort → sorts_of_names (xs ++ x ∷ []) ≡ sorts_of_names (ys ++ y ∷ [])
sorts_with [] [] x y e s = ap (λ a. next_sort a no_sorts) s
sorts_with [] (b ∷ ys) x y e s = absurd (cc)
sorts_with (a ∷ xs) [] x y e s = absurd (cc)
sorts_with (a ∷ xs) (b ∷ ys) x y e s = ap (λ c. next_sort c (sorts_of_names (xs ++ x ∷ []))) (first_sort e) ∙ ap (next_sort b.sort) (sorts_with xs ys x y (other_sorts e) s)

bindings_with : (ys zs : List SortedName) (y z : SortedName) → sorts_of_names zs ≡ sorts_of_names ys → fresh_bindings (ys ++ y ∷ []) (zs ++ z ∷ []) ≡ fresh_bindings ys zs ++ record { name = y.name; term = unknown z } ∷ []
bindings_with [] [] y z e = refl
bindings_with [] (b ∷ zs) y z e = absurd (cc)
bindings_with (a ∷ ys) [] y z e = absurd (cc)
bindings_with (a ∷ ys) (b ∷ zs) y z e = ap (λ rs. record { name = a.name; term = unknown b } ∷ rs) (bindings_with ys zs y z (other_sorts e))

-- ---- one variable of the rule after the other

-- what is chosen for these variables of the rule, beside the variables at hand
pub record IsChosenFor (g : KoreSignature) (used : List Text) (scope done : List SortedName) (c : ChosenNew) : Type 0 where
  pub ys : List SortedName
  pub bindings : c.bindings ≡ fresh_bindings ys c.new
  pub sorts : sorts_of_names c.new ≡ sorts_of_names ys
  pub among : AllByRecursion (Contains done) ys
  pub named : (x : Text) → is_named x ys ≡ is_named x done
  pub once : AreNew [] ys
  pub are_new : AreNew scope c.new
  pub each : AllByRecursion (IsNewVariable g used) c.new
  pub begun : 1 ≤ c.next
  pub in_use : AllByRecursion (λ x. IsInUse used c.next x.name) (scope ++ c.new)

none_chosen : (g : KoreSignature) (used : List Text) (scope : List SortedName) (next : ℕ) → 1 ≤ next → AllByRecursion (λ x. IsInUse used next x.name) scope → IsChosenFor g used scope [] (record { bindings = []; new = []; next = next })
none_chosen g used scope next b h = record {
  ys = [];
  bindings = refl;
  sorts = refl;
  among = tt;
  named = λ x. refl;
  once = tt;
  are_new = tt;
  each = tt;
  begun = b;
  in_use = subst (λ xs. AllByRecursion (λ x. IsInUse used next x.name) xs) (sym (append-nil scope)) h;
}

among_more : (done : List SortedName) (y : SortedName) (ys : List SortedName) → AllByRecursion (Contains done) ys → AllByRecursion (Contains (done ++ y ∷ [])) ys
among_more done y ys = all_map (Contains done) (Contains (done ++ y ∷ [])) ys (λ x c. Contains-append_left done (y ∷ []) x c)

-- the name of one more
named_with : (x : Text) (done : List SortedName) (y : SortedName) → is_named x (done ++ y ∷ []) ≡ (is_named x done || bytes_eq y.name x)
named_with x done y = named_in_both x done (y ∷ []) ∙ ap (λ b. is_named x done || b) (or_false (bytes_eq y.name x))

stays_chosen : (g : KoreSignature) (used : List Text) (scope done : List SortedName) (c : ChosenNew) (y : SortedName) → IsChosenFor g used scope done c → is_some (replacement_for c.bindings y.name) ≡ true → IsChosenFor g used scope (done ++ y ∷ []) c
stays_chosen g used scope done c y k e = record {
  ys = k.ys;
  bindings = k.bindings;
  sorts = k.sorts;
  among = among_more done y k.ys k.among;
  named = λ x. k.named x ∙ or_same (is_named x done) (bytes_eq y.name x) (λ s. subst (λ n. is_named n done ≡ true) ((bytes_eq-Decides y.name x).0 s) already) ∙ sym (named_with x done y);
  once = k.once;
  are_new = k.are_new;
  each = k.each;
  begun = k.begun;
  in_use = k.in_use;
}
  where
    already : is_named y.name done ≡ true
    already = sym (k.named y.name) ∙ sym (bound_where k.ys c.new y.name k.sorts) ∙ ap (λ rs. is_some (replacement_for rs y.name)) (sym k.bindings) ∙ e

one_chosen : (g : KoreSignature) (used : List Text) (scope done : List SortedName) (c d : ChosenNew) (y : SortedName) (u : Value) → IsChosenFor g used scope done c → is_some (replacement_for c.bindings y.name) ≡ false → HasSort g y.sort u → IsChosenNext used y c d →
    IsChosenFor g used scope (done ++ y ∷ []) d
one_chosen g used scope done c d y u k e h n = record {
  ys = k.ys ++ y ∷ [];
  bindings = n.bindings ∙ ap (λ rs. rs ++ record { name = y.name; term = unknown z } ∷ []) k.bindings ∙ sym (bindings_with k.ys c.new y z k.sorts) ∙ ap (fresh_bindings (k.ys ++ y ∷ [])) (sym n.new);
  sorts = ap sorts_of_names n.new ∙ sorts_with c.new k.ys z y k.sorts refl;
  among = all_append (Contains (done ++ y ∷ [])) k.ys (y ∷ []) (among_more done y k.ys k.among) (Contains-push done y, tt);
  named = λ x. named_with x k.ys y ∙ ap (λ b. b || bytes_eq y.name x) (k.named x) ∙ sym (named_with x done y);
  once = new_further [] k.ys (y ∷ []) k.once (not_yet, refl, tt);
  are_new = subst (AreNew scope) (sym n.new) (new_further scope c.new (z ∷ []) k.are_new (not_named used c.next d.next n.name (scope ++ c.new) n.named k.in_use, refl, tt));
  each = subst (AllByRecursion (IsNewVariable g used)) (sym n.new) (all_append (IsNewVariable g used) c.new (z ∷ []) k.each (new_one g used c.next d.next n.name y.sort k.begun n.named u h, tt));
  begun = let b = k.begun in let l = later used c.next d.next n.name n.named in omega (arith, b, l);
  in_use = subst (AllByRecursion (λ x. IsInUse used d.next x.name)) (append_assoc scope c.new (z ∷ []) ∙ ap (λ xs. scope ++ xs) (sym n.new))
      (all_append (λ x. IsInUse used d.next x.name) (scope ++ c.new) (z ∷ []) (all_later used c.next d.next (scope ++ c.new) (later used c.next d.next n.name n.named) k.in_use) (last_in_use used c.next d.next n.name n.named, tt));
}
  where
    z : SortedName
    z = record { name = n.name; sort = y.sort }

    not_yet : is_named y.name k.ys ≡ false
    not_yet = sym (bound_where k.ys c.new y.name k.sorts) ∙ ap (λ rs. is_some (replacement_for rs y.name)) (sym k.bindings) ∙ e

chosen_one : (g : KoreSignature) (used : List Text) (scope done : List SortedName) (c d : ChosenNew) (y : SortedName) (u : Value) → IsChosenFor g used scope done c → HasSort g y.sort u → IsChosenOne used y c d → IsChosenFor g used scope (done ++ y ∷ []) d
chosen_one g used scope done c d y u k h o = by (is_some (replacement_for c.bindings y.name)) refl o
  where
    by : (b : Bool) → is_some (replacement_for c.bindings y.name) ≡ b → MatchBool b (d ≡ c) (IsChosenNext used y c d) → IsChosenFor g used scope (done ++ y ∷ []) d
    by true e s = subst (λ a. IsChosenFor g used scope (done ++ y ∷ []) a) (sym s) (stays_chosen g used scope done c y k e)
    by false e n = one_chosen g used scope done c d y u k e h n

chosen_from : (g : KoreSignature) (used : List Text) (scope done ys : List SortedName) (c d : ChosenNew) → IsChosenFor g used scope done c → AllByRecursion (λ y. (u : Value) × HasSort g y.sort u) ys → AreChosenFrom used ys c d → IsChosenFor g used scope (done ++ ys) d
chosen_from g used scope done [] c d k h a = subst (λ e. IsChosenFor g used scope (done ++ []) e) (sym a) (subst (λ xs. IsChosenFor g used scope xs c) (sym (append-nil done)) k)
chosen_from g used scope done (y ∷ ys) c d k h a = subst (λ xs. IsChosenFor g used scope xs d) (append_assoc done (y ∷ []) ys)
    (chosen_from g used scope (done ++ y ∷ []) ys a.0 d (chosen_one g used scope done c a.0 y h.0.0 k h.0.1 a.1) h.1 a.2)

pub all_chosen : (g : KoreSignature) (used : List Text) (scope ys : List SortedName) (next : ℕ) (d : ChosenNew) → 1 ≤ next → AllByRecursion (λ x. IsInUse used next x.name) scope → AllByRecursion (λ y. (u : Value) × HasSort g y.sort u) ys → AreChosen used ys next d → IsChosenFor g used scope ys d
all_chosen g used scope ys next d b h v a = chosen_from g used scope [] ys (record { bindings = []; new = []; next = next }) d (none_chosen g used scope next b h) v a

-- ---- the rule's right side

sorts_both : (g : KoreSignature) (own ys : List SortedName) → HasOneSortEach own → AllByRecursion (Contains own) ys → ((x : Text) → is_named x ys ≡ is_named x own) → (w : Valuation) → GivesSorts g w ys ↔ GivesSorts g w own
sorts_both g own ys one among named w = (
  (λ h. each_member (λ x. HasSort g x.sort (w x.name)) own (λ x c. from x c (named_member ys x.name (named x.name ∙ member_named own x c)) h)),
  (λ h. all_map (Contains own) (λ y. HasSort g y.sort (w y.name)) ys (λ y c. of_member (λ x. HasSort g x.sort (w x.name)) own y h c) among),
)
  where
    from : (x : SortedName) → Contains own x → Named ys x.name → GivesSorts g w ys → HasSort g x.sort (w x.name)
    from x c m h = subst (λ s. HasSort g s (w x.name)) (one m.member x (of_member (Contains own) ys m.member among m.among) c m.name)
        (subst (λ n. HasSort g m.member.sort (w n)) m.name (of_member (λ y. HasSort g y.sort (w y.name)) ys m.member h m.among))

pub are_rules_new : (g : KoreSignature) (used : List Text) (scope : List SortedName) (rule : Rewrite) (bs : List Replaced) (c : ChosenNew) → HasOneSortEach rule.new_variables → (k : IsChosenFor g used scope rule.new_variables c) → AreRulesNew g rule (kept_bindings rule.new_variables bs) k.ys
are_rules_new g used scope rule bs c one k = record {
  named = k.named;
  sorts = sorts_both g rule.new_variables k.ys one k.among k.named;
  once = k.once;
  unbound = all_map (Contains rule.new_variables) (λ y. replacement_for (kept_bindings rule.new_variables bs) y.name ≡ None) k.ys (λ y m. hidden_at rule.new_variables bs y.name (member_named rule.new_variables y m)) k.among;
}

bound_or_new : (g : KoreSignature) (left new xs ys : List SortedName) (m : StatePart) (bs : List Replaced) → AllByRecursion (IsBoundTo g m bs) left → ((x : Text) → is_named x ys ≡ is_named x new) → AreNamedIn left new xs → AreBoundOrNew (kept_bindings new bs) ys xs
bound_or_new g left new [] ys m bs b named a = tt
bound_or_new g left new (x ∷ xs) ys m bs b named a = (either (is_named x.name new) refl a.0, bound_or_new g left new xs ys m bs b named a.1)
  where
    found : is_named x.name new ≡ false → (n : Named left x.name) → IsBoundTo g m bs n.member → (t : SymbolicTerm) × (replacement_for (kept_bindings new bs) x.name ≡ Some t)
    found f n i = (i.term, kept_at new bs x.name f ∙ subst (λ z. replacement_for bs z ≡ Some i.term) n.name i.bound)

    either : (d : Bool) → is_named x.name new ≡ d → (is_named x.name left ≡ true) ⊎ (is_named x.name new ≡ true) → ((t : SymbolicTerm) × (replacement_for (kept_bindings new bs) x.name ≡ Some t)) ⊎ (is_named x.name ys ≡ true)
    either true e h = inr (named x.name ∙ e)
    either false e (inl h) = let n = named_member left x.name h in inl (found e n (of_member (IsBoundTo g m bs) left n.member b n.among))
    either false e (inr h) = absurd (true_is_false (sym h ∙ e))

pub is_instantiated : (g : KoreSignature) (used : List Text) (rule : Rewrite) (m p : StatePart) (bs : List Replaced) (c : ChosenNew) → IsOverBoth rule → AllByRecursion (IsBoundTo g m bs) (free_variables rule.left) → AllByRecursion (λ b. AreAtHand (term_variables b.term) p.state.variables) bs →
    (k : IsChosenFor g used p.state.variables rule.new_variables c) → IsInstantiated g rule p (kept_bindings rule.new_variables bs) k.ys c.new
is_instantiated g used rule m p bs c over bound hand k = record {
  rules_new = are_rules_new g used p.state.variables rule bs c over.one_sort k;
  at_hand = kept_all rule.new_variables (λ b. AreAtHand (term_variables b.term) p.state.variables) bs hand;
  right = bound_or_new g (free_variables rule.left) rule.new_variables (free_variables rule.right) k.ys m bs bound k.named over.right;
  ensured = all_map (λ q. AreNamedIn (free_variables rule.left) rule.new_variables (free_variables q)) (λ q. AreBoundOrNew (kept_bindings rule.new_variables bs) k.ys (free_variables q)) rule.ensured
      (λ q h. bound_or_new g (free_variables rule.left) rule.new_variables (free_variables q) k.ys m bs bound k.named h) over.ensured;
  are_new = k.are_new;
  same_sorts = k.sorts;
}

-- ---- one more behind those that are chosen

pub chosen_more : (used : List Text) (ys : List SortedName) (y : SortedName) (before between after : ChosenNew) → AreChosenFrom used ys before between → IsChosenOne used y between after → AreChosenFrom used (ys ++ y ∷ []) before after
chosen_more used [] y before between after a o = (after, subst (λ c. IsChosenOne used y c after) a o, refl)
chosen_more used (x ∷ ys) y before between after a o = (a.0, a.1, chosen_more used ys y a.0 between after a.2 o)
