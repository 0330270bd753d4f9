-- A variable narrowed by a constructor or by a sort, and a question for its head, split a part in two.
use Rattle.std.proofs.Common.{◌≡◌, refl, sym, ◌∙◌, ap, subst, Bool, true, false, List, [], ◌∷◌, ◌++◌, inl, inr, ◌⊎◌, ◌↔◌}
use Rattle.std.specs.Prelude.{if◌then◌else◌}
use Rattle.kp_kore.specs.Syntax.{Text, KoreSort, KoreSorts, no_sorts}
use Rattle.kp_kore.specs.Parts.{SortedName}
use Rattle.kp_kore.specs.Signature.{KoreSignature, construction, meaning_of, constructor_of, IsHeadOf, itself}
use Rattle.kp_kore.specs.Value.{Value, whole, truth, token, constructed, Values, no_values, next_value, HasSort, HaveSorts, ArgumentSorts, head_of}
use Rattle.kp_kore.specs.Instance.{Valuation, GivesSorts, AgreesOn, applied}
use Rattle.kp_kore.specs.Scopes.{IsWithin}
use Rattle.kp_kore.specs.Cases.{OfOneAlone}
use Rattle.kp_kore.specs.Division.{IsHeldBy}
use Rattle.kp_kore.proofs.TruthLemmas.{agrees_back}
use Rattle.kp_kore.proofs.ArcLemmas.{sorts_stay, agrees_through}
use Rattle.kp_compile.specs.Spelled.{places_of}
use Rattle.kp_symbolic.specs.Terms.{SymbolicTerm, unknown, known, term_instance, term_instances}
use Rattle.kp_symbolic.specs.States.{HeadTest, one_head, head_of_sort, PassesHead, same, has_head, Literal, IsClauseTrue, AreTrue, IsStateInstance}
use Rattle.kp_symbolic.specs.Heads.{passes_head}
use Rattle.kp_symbolic.specs.Opening.{signed, literal_fact, opened_test}
use Rattle.kp_symbolic.proofs.Distribution.{all_both, all_first, all_second}
use Rattle.kp_symbolic.proofs.Folded.{applied_is}
use Rattle.kp_symbolic.proofs.HeadLemmas.{passes-Decides, head_from_sort}
use Rattle.kp_symbolic.proofs.HeadQuestions.{assigned_all, sort_from_head, test_says}
use Rattle.kp_symbolic.proofs.Leaf.{one_literal, formula_says, then_says}
use Rattle.kp_symbolic.proofs.Agreeing.{itself_there}
use Rattle.kp_case_laws.specs.Parts.{StatePart, state_reading, IsPartBelow, IsDivided, IsRestricted, IsTold, DependsOnHand, AreNew}
use Rattle.kp_case_laws.specs.Narrowings.{IsMade, IsNarrowing, equates, head_clauses, are_never, all_unknown, constructor_term, has_other_head, sorts_of_names, IsForConstructor}
use Rattle.kp_case_laws.proofs.PartLemmas.{agrees_itself}
use Rattle.kp_case_laws.proofs.NewVariables.{scope_stays, new_sorts, new_values, of_unknown, values_agree}

abbrev Gives : KoreSignature → Valuation → SortedName → Type 0
Gives g w x = HasSort g x.sort (w x.name)

abbrev SameAt : Valuation → Valuation → SortedName → Type 0
SameAt v w x = w x.name ≡ v x.name

false_true : false ≡ true → ⊥
false_true e = cc

-- ---- a part by further clauses

pub restricted_below : (g : KoreSignature) (p r : StatePart) (new : List SortedName) (clauses : List (List Literal)) → IsTold g p → IsRestricted g p clauses new r →
    ((w x : Valuation) → GivesSorts g w (p.state.variables ++ new) → GivesSorts g x (p.state.variables ++ new) → AgreesOn p.state.variables w x → AreTrue g w clauses → AreTrue g x clauses → AgreesOn new w x) → IsPartBelow g p r
restricted_below g p r new clauses told i determined =
    let xs : List SortedName = p.state.variables in
    record {
      part = record {
        within = record {
          sorts = λ w h. all_first (Gives g w) xs new (subst (λ ys. GivesSorts g w ys) i.variables h);
          agree = λ v w h. all_first (SameAt v w) xs new (subst (λ ys. AgreesOn ys v w) i.variables h);
        };
        same = λ w c h. (
          (λ k.
              let j = (i.instances w c h).0 k in
              (j.0, subst (λ cs. AreTrue g w cs) (sym i.added) (all_both (IsClauseTrue g w) p.added clauses (told w c (all_first (Gives g w) xs new (subst (λ ys. GivesSorts g w ys) i.variables h)) j.0) j.1))),
          (λ k. (i.instances w c h).1 (k.0, all_second (IsClauseTrue g w) p.added clauses (subst (λ cs. AreTrue g w cs) i.added k.1))),
        );
        alone = λ w x h k e t u. subst (λ ys. AgreesOn ys w x) (sym i.variables) (all_both (SameAt w x) xs new e
            (determined w x (subst (λ ys. GivesSorts g w ys) i.variables h) (subst (λ ys. GivesSorts g x ys) i.variables k) e
            (all_second (IsClauseTrue g w) p.added clauses (subst (λ cs. AreTrue g w cs) i.added t))
            (all_second (IsClauseTrue g x) p.added clauses (subst (λ cs. AreTrue g x cs) i.added u))));
      };
      more = clauses;
      grown = i.added;
    }

-- each instance lies in exactly one of the two
split : (g : KoreSignature) (p r q : StatePart) (new : List SortedName) (clauses others : List (List Literal)) (v : Valuation) (c : Value) → IsNarrowing g p.state.variables new clauses others → DependsOnHand g p.state →
    IsRestricted g p clauses new r → IsRestricted g p others [] q → GivesSorts g v p.state.variables → IsStateInstance g v p.state c → IsMade g p.state.variables new clauses v ⊎ AreTrue g v others →
    OfOneAlone (λ x. IsHeldBy (state_reading g) g p x v c) (r ∷ q ∷ [])
split g p r q new clauses others v c n hand i j sorts met (inl m) =
    let xs : List SortedName = p.state.variables in
    let at_r : GivesSorts g m.chosen r.state.variables = subst (λ ys. GivesSorts g m.chosen ys) (sym i.variables) m.extends.sorts in
    inl (
      record {
        chosen = m.chosen;
        agrees = m.extends.agrees;
        sorts = at_r;
        met = (i.instances m.chosen c at_r).1 (hand v m.chosen c m.extends.agrees met, m.are_true);
      },
      (
        (λ k. n.not_both m.chosen k.chosen m.extends.sorts (all_first (Gives g k.chosen) xs [] (subst (λ ys. GivesSorts g k.chosen ys) j.variables k.sorts))
            (agrees_through xs m.chosen v k.chosen (agrees_back xs v m.chosen m.extends.agrees) k.agrees) m.are_true ((j.instances k.chosen c k.sorts).0 k.met).1),
        tt,
      ),
    )
split g p r q new clauses others v c n hand i j sorts met (inr t) =
    let xs : List SortedName = p.state.variables in
    let at_q : GivesSorts g v q.state.variables = subst (λ ys. GivesSorts g v ys) (sym j.variables) (all_both (Gives g v) xs [] sorts tt) in
    inr (
      (λ k. n.not_both k.chosen v (subst (λ ys. GivesSorts g k.chosen ys) i.variables k.sorts) sorts (agrees_back xs v k.chosen k.agrees) ((i.instances k.chosen c k.sorts).0 k.met).1 t),
      inl (record { chosen = v; agrees = agrees_itself xs v; sorts = at_q; met = (j.instances v c at_q).1 (met, t) }, tt),
    )

pub narrowing_divides : (g : KoreSignature) (p r q : StatePart) (new : List SortedName) (clauses others : List (List Literal)) → IsNarrowing g p.state.variables new clauses others → IsTold g p → DependsOnHand g p.state →
    IsRestricted g p clauses new r → IsRestricted g p others [] q → IsDivided g p (r ∷ q ∷ [])
narrowing_divides g p r q new clauses others n told hand i j = record {
  below = (restricted_below g p r new clauses told i n.determined, (restricted_below g p q [] others told j (λ w x h k e t u. tt), tt));
  each = λ v c sorts met t. split g p r q new clauses others v c n hand i j sorts met (n.either v sorts);
}

-- where the others are never true, nothing is split off
pub narrowing_is_whole : (g : KoreSignature) (p r : StatePart) (new : List SortedName) (clauses others : List (List Literal)) → IsNarrowing g p.state.variables new clauses others → IsTold g p → DependsOnHand g p.state →
    IsRestricted g p clauses new r → ((w : Valuation) → GivesSorts g w p.state.variables → ¬ AreTrue g w others) → IsDivided g p (r ∷ [])
narrowing_is_whole g p r new clauses others n told hand i never = record {
  below = (restricted_below g p r new clauses told i n.determined, tt);
  each = λ v c sorts met t. elim (n.either v sorts) [
    | inl m ↦ (let at_r : GivesSorts g m.chosen r.state.variables = subst (λ ys. GivesSorts g m.chosen ys) (sym i.variables) m.extends.sorts in
        inl (record { chosen = m.chosen; agrees = m.extends.agrees; sorts = at_r; met = (i.instances m.chosen c at_r).1 (hand v m.chosen c m.extends.agrees met, m.are_true) }, tt))
    | inr o ↦ absurd (never v sorts o)
  ];
}

-- ---- what the clauses say

pub equates_says : (g : KoreSignature) (w : Valuation) (x : SortedName) (t : SymbolicTerm) → AreTrue g w (equates x t) ↔ (w x.name ≡ term_instance g w t)
equates_says g w x t = one_literal g w (record { holds = true; atom = same x.sort (unknown x) t })

pub head_says : (g : KoreSignature) (w : Valuation) (b : Bool) (x : SortedName) (test : HeadTest) → HasSort g x.sort (w x.name) → AreTrue g w (head_clauses g b x test) ↔ signed b (¬ ¬ PassesHead g test (head_of (w x.name)))
head_says g w b x test h = then_says (formula_says g w (opened_test g b test (literal_fact b (has_head x test)) (unknown x))) (test_says g w b test (literal_fact b (has_head x test)) x.sort (unknown x) (itself x.sort) (h, tt))

pub passes_not : (g : KoreSignature) (w : Valuation) (x : SortedName) (test : HeadTest) → HasSort g x.sort (w x.name) → AreTrue g w (head_clauses g false x test) ↔ (¬ PassesHead g test (head_of (w x.name)))
passes_not g w x test h = let i = head_says g w false x test h in ((λ t k. i.0 t (λ n. n k)), (λ n. i.1 (λ d. d n)))

-- ---- by a constructor

name_inside : {c d : Text} → constructor_of d ≡ constructor_of c → d ≡ c
name_inside e = cc

values_inside : {c : Text} {us ws : Values} → constructed c us ≡ constructed c ws → us ≡ ws
values_inside e = cc

none_of_none : (g : KoreSignature) (us : Values) → HaveSorts g no_sorts us → us ≡ no_values
none_of_none g no_values h = refl
none_of_none g (next_value u us) h = absurd h

declared_places : (g : KoreSignature) (c : Text) (ss : KoreSorts) → ArgumentSorts g c ss → places_of g c ≡ ss
declared_places g c ss k = rw k.1 k.2

-- a value with this head
built_by : (g : KoreSignature) (s : KoreSort) (c : Text) (u : Value) → HasSort g s u → head_of u ≡ constructor_of c → (us : Values) × (u ≡ constructed c us) × HaveSorts g (places_of g c) us
built_by g s c (whole n) h e = absurd (cc)
built_by g s c (truth b) h e = absurd (cc)
built_by g s c (token t x) h e = absurd (cc)
built_by g s c (constructed d us) h e = (
  us,
  ap (λ f. constructed f us) (name_inside e),
  subst (λ f. HaveSorts g (places_of g f) us) (name_inside e) (subst (λ ss. HaveSorts g ss us) (sym (declared_places g d h.1 h.2)) h.3),
)

pub constructor_value : (g : KoreSignature) (w : Valuation) (c : Text) (new : List SortedName) → meaning_of g c ≡ construction → GivesSorts g w new → term_instance g w (constructor_term g c new) ≡ constructed c (term_instances g w (all_unknown new))
constructor_value g w c new m h = applied_is g w c (all_unknown new) (of_unknown (Gives g w) new h) ∙ ap (λ k. applied k c (term_instances g w (all_unknown new))) m

-- clauses of which one has no literal are never true
pub never_true : (g : KoreSignature) (w : Valuation) (cs : List (List Literal)) → are_never cs ≡ true → ¬ AreTrue g w cs
never_true g w [] e t = absurd (false_true e)
never_true g w ([] ∷ cs) e t = t.0 tt
never_true g w ((l ∷ c) ∷ cs) e t = never_true g w cs e t.1

other_value : (g : KoreSignature) (w : Valuation) (x : SortedName) (c : Text) → HasSort g x.sort (w x.name) → no_sorts ≡ places_of g c → AreTrue g w ((record { holds = false; atom = same x.sort (unknown x) (known (constructed c no_values)) } ∷ []) ∷ []) ↔ (¬ (head_of (w x.name) ≡ constructor_of c))
other_value g w x c h e =
    let i = one_literal g w (record { holds = false; atom = same x.sort (unknown x) (known (constructed c no_values)) }) in (
      (λ t k. let b = built_by g x.sort c (w x.name) h k in i.0 t (b.1 ∙ ap (λ us. constructed c us) (none_of_none g b.0 (subst (λ ss. HaveSorts g ss b.0) (sym e) b.2)))),
      (λ n. i.1 (λ k. n (ap head_of k))),
    )

pub other_says : (g : KoreSignature) (w : Valuation) (x : SortedName) (c : Text) (new : List SortedName) → HasSort g x.sort (w x.name) → sorts_of_names new ≡ places_of g c → AreTrue g w (has_other_head g x c new) ↔ (¬ (head_of (w x.name) ≡ constructor_of c))
other_says g w x c [] h e = by (are_never (head_clauses g false x (one_head c)))
  where
    by : (b : Bool) → AreTrue g w (if b then head_clauses g false x (one_head c) else (record { holds = false; atom = same x.sort (unknown x) (known (constructed c no_values)) } ∷ []) ∷ []) ↔ (¬ (head_of (w x.name) ≡ constructor_of c))
    by true = passes_not g w x (one_head c) h
    by false = other_value g w x c h e
other_says g w x c (y ∷ new) h e = passes_not g w x (one_head c) h

made_by_constructor : (g : KoreSignature) (scope : List SortedName) (x : SortedName) (c : Text) (new : List SortedName) (v : Valuation) (us : Values) → IsForConstructor g scope x c new → GivesSorts g v scope → v x.name ≡ constructed c us → HaveSorts g (sorts_of_names new) us → IsMade g scope new (equates x (constructor_term g c new)) v
made_by_constructor g scope x c new v us i h e s =
    let w : Valuation = assigned_all v new us in
    let stays : AgreesOn scope v w = scope_stays v scope new us i.are_new in
    let given : GivesSorts g w new = new_sorts g v scope new us s i.are_new in
    record {
      chosen = w;
      extends = record { agrees = stays; sorts = all_both (Gives g w) scope new (sorts_stay g scope v w stays h) given };
      are_true = (equates_says g w x (constructor_term g c new)).1 ((i.at_hand.agree v w stays).0 ∙ e ∙ sym (ap (λ vs. constructed c vs) (new_values g v scope new us s i.are_new)) ∙ sym (constructor_value g w c new i.constructs given));
    }

pub constructor_narrows : (g : KoreSignature) (scope : List SortedName) (x : SortedName) (c : Text) (new : List SortedName) → IsForConstructor g scope x c new → IsNarrowing g scope new (equates x (constructor_term g c new)) (has_other_head g x c new)
constructor_narrows g scope x c new i = record {
  either = λ v h. by v h (passes_head g (one_head c) (head_of (v x.name))) refl;
  determined = λ w y h k e t u.
      values_agree g w y new (values_inside (sym (value_of w h t) ∙ sym (i.at_hand.agree w y e).0 ∙ value_of y k u));
  not_both = λ w y h k e t o.
      (other_says g y x c new (i.at_hand.sorts y k).0 i.sorts).0 o (ap head_of ((i.at_hand.agree w y e).0 ∙ value_of w h t));
}
  where
    value_of : (w : Valuation) → GivesSorts g w (scope ++ new) → AreTrue g w (equates x (constructor_term g c new)) → w x.name ≡ constructed c (term_instances g w (all_unknown new))
    value_of w h t = (equates_says g w x (constructor_term g c new)).0 t ∙ constructor_value g w c new i.constructs (all_second (Gives g w) scope new h)

    by : (v : Valuation) → GivesSorts g v scope → (b : Bool) → passes_head g (one_head c) (head_of (v x.name)) ≡ b → IsMade g scope new (equates x (constructor_term g c new)) v ⊎ AreTrue g v (has_other_head g x c new)
    by v h true e =
        let b = built_by g x.sort c (v x.name) (i.at_hand.sorts v h).0 ((passes-Decides g (one_head c) (head_of (v x.name))).0 e) in
        inl (made_by_constructor g scope x c new v b.0 i h b.1 (subst (λ ss. HaveSorts g ss b.0) (sym i.sorts) b.2))
    by v h false e = inr ((other_says g v x c new (i.at_hand.sorts v h).0 i.sorts).1 (λ k. false_true (sym e ∙ (passes-Decides g (one_head c) (head_of (v x.name))).1 k)))

-- ---- by a sort

made_by_sort : (g : KoreSignature) (scope : List SortedName) (x y : SortedName) (v : Valuation) → IsWithin g (x ∷ []) scope → AreNew scope (y ∷ []) → GivesSorts g v scope → HasSort g y.sort (v x.name) → IsMade g scope (y ∷ []) (equates x (unknown y)) v
made_by_sort g scope x y v i a h s =
    let us : Values = next_value (v x.name) no_values in
    let w : Valuation = assigned_all v (y ∷ []) us in
    let stays : AgreesOn scope v w = scope_stays v scope (y ∷ []) us a in
    record {
      chosen = w;
      extends = record { agrees = stays; sorts = all_both (Gives g w) scope (y ∷ []) (sorts_stay g scope v w stays h) (new_sorts g v scope (y ∷ []) us (s, tt) a) };
      are_true = (equates_says g w x (unknown y)).1 ((i.agree v w stays).0 ∙ sym (itself_there v y.name (v x.name)));
    }

pub sort_narrows : (g : KoreSignature) (scope : List SortedName) (x y : SortedName) → IsWithin g (x ∷ []) scope → AreNew scope (y ∷ []) → IsNarrowing g scope (y ∷ []) (equates x (unknown y)) (head_clauses g false x (head_of_sort y.sort))
sort_narrows g scope x y i a = record {
  either = λ v h. by v h (passes_head g (head_of_sort y.sort) (head_of (v x.name))) refl;
  determined = λ w z h k e t u. (sym ((equates_says g z x (unknown y)).0 u) ∙ (i.agree w z e).0 ∙ (equates_says g w x (unknown y)).0 t, tt);
  not_both = λ w z h k e t o.
      (passes_not g z x (head_of_sort y.sort) (i.sorts z k).0).0 o
      (subst (λ u. IsHeadOf g y.sort (head_of u)) (sym ((i.agree w z e).0 ∙ (equates_says g w x (unknown y)).0 t)) (head_from_sort g y.sort (w y.name) (all_second (Gives g w) scope (y ∷ []) h).0));
}
  where
    by : (v : Valuation) → GivesSorts g v scope → (b : Bool) → passes_head g (head_of_sort y.sort) (head_of (v x.name)) ≡ b → IsMade g scope (y ∷ []) (equates x (unknown y)) v ⊎ AreTrue g v (head_clauses g false x (head_of_sort y.sort))
    by v h true e = inl (made_by_sort g scope x y v i a h (sort_from_head g x.sort y.sort (v x.name) (i.sorts v h).0 ((passes-Decides g (head_of_sort y.sort) (head_of (v x.name))).0 e)))
    by v h false e = inr ((passes_not g v x (head_of_sort y.sort) (i.sorts v h).0).1 (λ k. false_true (sym e ∙ (passes-Decides g (head_of_sort y.sort) (head_of (v x.name))).1 k)))

-- ---- a question for the head

pub question_narrows : (g : KoreSignature) (scope : List SortedName) (x : SortedName) (test : HeadTest) → IsWithin g (x ∷ []) scope → IsNarrowing g scope [] (head_clauses g true x test) (head_clauses g false x test)
question_narrows g scope x test i = record {
  either = λ v h. by v h (passes_head g test (head_of (v x.name))) refl;
  determined = λ w y h k e t u. tt;
  not_both = λ w y h k e t o.
      (head_says g w true x test (i.sorts w (all_first (Gives g w) scope [] h)).0).0 t
      (subst (λ u. ¬ PassesHead g test (head_of u)) (i.agree w y e).0 ((passes_not g y x test (i.sorts y k).0).0 o));
}
  where
    by : (v : Valuation) → GivesSorts g v scope → (b : Bool) → passes_head g test (head_of (v x.name)) ≡ b → IsMade g scope [] (head_clauses g true x test) v ⊎ AreTrue g v (head_clauses g false x test)
    by v h true e = inl (record {
      chosen = v;
      extends = record { agrees = agrees_itself scope v; sorts = all_both (Gives g v) scope [] h tt };
      are_true = (head_says g v true x test (i.sorts v h).0).1 (λ n. n ((passes-Decides g test (head_of (v x.name))).0 e));
    })
    by v h false e = inr ((passes_not g v x test (i.sorts v h).0).1 (λ k. false_true (sym e ∙ (passes-Decides g test (head_of (v x.name))).1 k)))
