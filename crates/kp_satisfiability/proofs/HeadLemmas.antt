-- The heads of variables can be as all clauses ask exactly where each variable that is asked for may have some head.
use Rattle.std.proofs.Common.{◌≡◌, refl, sym, ap, subst, ◌∙◌, Bool, true, false, not, ◌&&◌, ◌||◌, List, [], ◌∷◌, Option, Some, None}
use Rattle.std.specs.Prelude.{MatchBool, if◌then◌else◌, ⊤}
use Rattle.std.specs.Bool.{beq, Decides}
use Rattle.std.specs.List.{AllByRecursion, Contains, flat_map}
use Rattle.std.specs.Str.{bytes_eq}
use Rattle.std.proofs.lemmas.Slice.Eq.{bytes_eq-Decides}
use Rattle.std.proofs.lemmas.List.Elements.{Contains-append_left, Contains-append_right, Contains-push}
use Rattle.kp_kore.specs.Syntax.{Text, KoreSort}
use Rattle.kp_kore.specs.Parts.{SortedName}
use Rattle.kp_kore.specs.Signature.{KoreSignature, Head, is_head}
use Rattle.kp_kore.specs.Value.{Value, truth, head_of, HasSort}
use Rattle.kp_kore.specs.Instance.{Valuation, GivesSorts, assigned}
use Rattle.kp_kore.proofs.ListLemmas.{all_left, all_right, all_map, all_append}
use Rattle.kp_kore.proofs.TurnLemmas.{of_member}
use Rattle.kp_signature.proofs.HeadLemmas.{is_head-Decides}
use Rattle.kp_symbolic.specs.States.{HeadTest, PassesHead}
use Rattle.kp_symbolic.specs.Heads.{passes_head}
use Rattle.kp_symbolic.specs.Plain.{Form, compares, is_truth, equates, asks, gives, ReadLiteral}
use Rattle.kp_symbolic.proofs.HeadLemmas.{passes-Decides, head_from_sort}
use Rattle.kp_symbolic.proofs.HeadQuestions.{sort_from_head}
use Rattle.kp_symbolic.proofs.Agreeing.{itself_there}
use Rattle.kp_satisfiability.proofs.Asked.{asked_of, asked_in, IsHeadAsked, AreHeadsAsked, CanHaveHeads}
use Rattle.kp_satisfiability.specs.Heads.{head_agrees, agrees_with_one, agrees_with_all, MayBe, HasHead, IsStanding, AreStanding}
use Rattle.kp_satisfiability.proofs.Alone.{all_pass}

true_false : true ≡ false → ⊥
true_false e = cc

-- ---- one question

abbrev SaysHead : KoreSignature → HeadTest → Head → Bool → Type 0
SaysHead g test h b = MatchBool b (¬ ¬ PassesHead g test h) (¬ ¬ ¬ PassesHead g test h)

passes_as_said : (P : Type 0) (p b : Bool) → Decides p P → MatchBool b (¬ ¬ P) (¬ ¬ ¬ P) → beq p b ≡ true
passes_as_said P true true d n = refl
passes_as_said P false false d n = refl
passes_as_said P false true d n = absurd (n (λ k. true_false (sym (d.1 k))))
passes_as_said P true false d n = absurd (n (λ m. m (d.0 refl)))

said_as_passes : (P : Type 0) (p b : Bool) → Decides p P → beq p b ≡ true → MatchBool b (¬ ¬ P) (¬ ¬ ¬ P)
said_as_passes P true true d e = λ n. n (d.0 refl)
said_as_passes P false false d e = λ n. n (λ k. true_false (sym (d.1 k)))
said_as_passes P false true d e = absurd (cc)
said_as_passes P true false d e = absurd (cc)

-- ---- where heads are as asked, they may be

said_agrees : (g : KoreSignature) (v : Valuation) (x : Text) (o : Option Form) → IsHeadAsked g v o → head_agrees g (head_of (v x)) x o ≡ true
said_agrees g v x (Some (asks y test b)) h = by (bytes_eq y.name x) refl
  where
    by : (t : Bool) → bytes_eq y.name x ≡ t → (not t || beq (passes_head g test (head_of (v x))) b) ≡ true
    by false e = refl
    by true e = passes_as_said (PassesHead g test (head_of (v x))) (passes_head g test (head_of (v x))) b (passes-Decides g test (head_of (v x))) (subst (λ n. SaysHead g test (head_of (v n)) b) ((bytes_eq-Decides y.name x).0 e) h)
said_agrees g v x (Some (compares c m n)) h = refl
said_agrees g v x (Some (is_truth y b)) h = refl
said_agrees g v x (Some (equates b p q)) h = refl
said_agrees g v x (Some (gives e)) h = refl
said_agrees g v x None h = refl

first_or : (a b : Bool) → a ≡ true → (a || b) ≡ true
first_or true b e = refl
first_or false b e = absurd (cc)

both_and : (a b : Bool) → a ≡ true → b ≡ true → (a && b) ≡ true
both_and true b e f = f
both_and false b e f = absurd (cc)

-- no clause is empty
abbrev pub IsSome : List ReadLiteral → Type 0
IsSome [] = ⊥
IsSome (l ∷ c) = ⊤

clause_agrees : (g : KoreSignature) (v : Valuation) (x : Text) (c : List ReadLiteral) → IsSome c → AllByRecursion (λ l. IsHeadAsked g v l.form) c → agrees_with_one g (head_of (v x)) x c ≡ true
clause_agrees g v x [] some h = absurd some
clause_agrees g v x (l ∷ c) some h = first_or (head_agrees g (head_of (v x)) x l.form) (agrees_with_one g (head_of (v x)) x c) (said_agrees g v x l.form h.0)

all_agree : (g : KoreSignature) (v : Valuation) (x : Text) (cs : List (List ReadLiteral)) → AllByRecursion IsSome cs → AreHeadsAsked g v cs → agrees_with_all g (head_of (v x)) x cs ≡ true
all_agree g v x [] some h = refl
all_agree g v x (c ∷ cs) some h = both_and (agrees_with_one g (head_of (v x)) x c) (agrees_with_all g (head_of (v x)) x cs) (clause_agrees g v x c some.0 h.0) (all_agree g v x cs some.1 h.1)

may_be : (g : KoreSignature) (v : Valuation) (cs : List (List ReadLiteral)) (x : SortedName) → AllByRecursion IsSome cs → AreHeadsAsked g v cs → HasSort g x.sort (v x.name) → HasHead g cs x
may_be g v cs x some h has = (
  head_of (v x.name),
  record {
    head = (is_head-Decides g x.sort (head_of (v x.name))).1 (head_from_sort g x.sort (v x.name) has);
    live = (v x.name, (x.sort, has), refl);
    agrees = all_agree g v x.name cs some h;
  },
)

said_stands : (g : KoreSignature) (v : Valuation) (cs : List (List ReadLiteral)) (o : Option Form) → AllByRecursion IsSome cs → AreHeadsAsked g v cs → GivesSorts g v (asked_of o) → IsStanding g cs o
said_stands g v cs (Some (asks x test b)) some h has = may_be g v cs x some h has.0
said_stands g v cs (Some (compares c m n)) some h has = tt
said_stands g v cs (Some (is_truth y b)) some h has = tt
said_stands g v cs (Some (equates b p q)) some h has = tt
said_stands g v cs (Some (gives e)) some h has = tt
said_stands g v cs None some h has = tt

abbrev Sorted : KoreSignature → Valuation → SortedName → Type 0
Sorted g v x = HasSort g x.sort (v x.name)

clause_stands : (g : KoreSignature) (v : Valuation) (cs : List (List ReadLiteral)) (c : List ReadLiteral) → AllByRecursion IsSome cs → AreHeadsAsked g v cs → GivesSorts g v (flat_map (λ l. asked_of l.form) c) → AllByRecursion (λ l. IsStanding g cs l.form) c
clause_stands g v cs [] some h has = tt
clause_stands g v cs (l ∷ c) some h has =
    let rest = flat_map (λ l. asked_of l.form) c in
    (said_stands g v cs l.form some h (all_left (Sorted g v) (asked_of l.form) rest has), clause_stands g v cs c some h (all_right (Sorted g v) (asked_of l.form) rest has))

clauses_stand : (g : KoreSignature) (v : Valuation) (cs ds : List (List ReadLiteral)) → AllByRecursion IsSome cs → AreHeadsAsked g v cs → GivesSorts g v (asked_in ds) → AllByRecursion (AllByRecursion (λ l. IsStanding g cs l.form)) ds
clauses_stand g v cs [] some h has = tt
clauses_stand g v cs (d ∷ ds) some h has =
    let own = flat_map (λ l. asked_of l.form) d in
    (clause_stands g v cs d some h (all_left (Sorted g v) own (asked_in ds) has), clauses_stand g v cs ds some h (all_right (Sorted g v) own (asked_in ds) has))

pub stand_where_asked : (g : KoreSignature) (v : Valuation) (cs : List (List ReadLiteral)) → AllByRecursion IsSome cs → AreHeadsAsked g v cs → GivesSorts g v (asked_in cs) → AreStanding g cs
stand_where_asked g v cs some h has = clauses_stand g v cs cs some h has

-- ---- where each may have some head, all can

said_asked : (g : KoreSignature) (cs : List (List ReadLiteral)) (o : Option Form) → IsStanding g cs o → AllByRecursion (HasHead g cs) (asked_of o)
said_asked g cs (Some (asks x test b)) h = (h, tt)
said_asked g cs (Some (compares c m n)) h = tt
said_asked g cs (Some (is_truth y b)) h = tt
said_asked g cs (Some (equates b p q)) h = tt
said_asked g cs (Some (gives e)) h = tt
said_asked g cs None h = tt

clause_asked : (g : KoreSignature) (cs : List (List ReadLiteral)) (c : List ReadLiteral) → AllByRecursion (λ l. IsStanding g cs l.form) c → AllByRecursion (HasHead g cs) (flat_map (λ l. asked_of l.form) c)
clause_asked g cs [] h = tt
clause_asked g cs (l ∷ c) h = all_append (HasHead g cs) (asked_of l.form) (flat_map (λ l. asked_of l.form) c) (said_asked g cs l.form h.0) (clause_asked g cs c h.1)

clauses_asked : (g : KoreSignature) (cs ds : List (List ReadLiteral)) → AllByRecursion (AllByRecursion (λ l. IsStanding g cs l.form)) ds → AllByRecursion (HasHead g cs) (asked_in ds)
clauses_asked g cs [] h = tt
clauses_asked g cs (d ∷ ds) h = all_append (HasHead g cs) (flat_map (λ l. asked_of l.form) d) (asked_in ds) (clause_asked g cs d h.0) (clauses_asked g cs ds h.1)

-- the value is of the variable's sort, and its head may be the variable's
abbrev pub IsFitting : KoreSignature → List (List ReadLiteral) → SortedName → Value → Type 0
IsFitting g cs x u = HasSort g x.sort u × MayBe g x cs (head_of u)

fitting : (g : KoreSignature) (cs : List (List ReadLiteral)) (x : SortedName) → HasHead g cs x → (u : Value) × IsFitting g cs x u
fitting g cs x h =
    let m = h.1 in
    let u = m.live.0 in
    let is : head_of u ≡ h.0 = m.live.2 in
    let head : is_head g x.sort (head_of u) ≡ true = subst (λ k. is_head g x.sort k ≡ true) (sym is) m.head in
    (u, (sort_from_head g m.live.1.0 x.sort u m.live.1.1 ((is_head-Decides g x.sort (head_of u)).0 head), subst (MayBe g x cs) (sym is) m))

abbrev values_for : (g : KoreSignature) (cs : List (List ReadLiteral)) (xs : List SortedName) → AllByRecursion (HasHead g cs) xs → Valuation
values_for g cs [] h = λ y. truth true
values_for g cs (x ∷ xs) h = assigned (values_for g cs xs h.1) x.name (fitting g cs x h.0).0

still_fit : (g : KoreSignature) (cs : List (List ReadLiteral)) (v : Valuation) (x : SortedName) (u : Value) (xs : List SortedName) → IsFitting g cs x u → AllByRecursion (λ y. x.name ≡ y.name → x.sort ≡ y.sort) xs → AllByRecursion (λ y. IsFitting g cs y (v y.name)) xs → AllByRecursion (λ y. IsFitting g cs y (assigned v x.name u y.name)) xs
still_fit g cs v x u [] f one h = tt
still_fit g cs v x u (y ∷ ys) f one h = (by (bytes_eq x.name y.name) refl, still_fit g cs v x u ys f one.1 h.1)
  where
    same : x.name ≡ y.name → x ≡ y
    same e = ap (λ (n : Text). record { name = n; sort = x.sort }) e ∙ ap (λ (s : KoreSort). record { name = y.name; sort = s }) (one.0 e)

    by : (b : Bool) → bytes_eq x.name y.name ≡ b → IsFitting g cs y (if b then u else v y.name)
    by true e = subst (λ z. IsFitting g cs z u) (same ((bytes_eq-Decides x.name y.name).0 e)) f
    by false e = h.0

all_fit : (g : KoreSignature) (cs : List (List ReadLiteral)) (hand xs : List SortedName) (h : AllByRecursion (HasHead g cs) xs) → ((x y : SortedName) → Contains hand x → Contains hand y → x.name ≡ y.name → x.sort ≡ y.sort) → AllByRecursion (Contains hand) xs → AllByRecursion (λ x. IsFitting g cs x (values_for g cs xs h x.name)) xs
all_fit g cs hand [] h one at = tt
all_fit g cs hand (x ∷ xs) h one at = (
  subst (λ u. IsFitting g cs x u) (sym (itself_there (values_for g cs xs h.1) x.name (fitting g cs x h.0).0)) (fitting g cs x h.0).1,
  still_fit g cs (values_for g cs xs h.1) x (fitting g cs x h.0).0 xs (fitting g cs x h.0).1 (all_map (Contains hand) (λ y. x.name ≡ y.name → x.sort ≡ y.sort) xs (λ y there. one x y at.0 there) at.1) (all_fit g cs hand xs h.1 one at.1),
)

-- heads are asked for in clauses of one literal
abbrev pub AsksAlone : List ReadLiteral → Type 0
AsksAlone [] = ⊤
AsksAlone (l ∷ []) = ⊤
AsksAlone (l ∷ m ∷ c) = AllByRecursion (λ r. asked_of r.form ≡ []) (l ∷ m ∷ c)

none_asked : (g : KoreSignature) (v : Valuation) (o : Option Form) → asked_of o ≡ [] → IsHeadAsked g v o
none_asked g v (Some (asks x test b)) e = absurd (cc)
none_asked g v (Some (compares c m n)) e = tt
none_asked g v (Some (is_truth y b)) e = tt
none_asked g v (Some (equates b p q)) e = tt
none_asked g v (Some (gives e)) i = tt
none_asked g v None e = tt

one_of_one : (a : Bool) → (a || false) ≡ true → a ≡ true
one_of_one true e = refl
one_of_one false e = absurd (cc)

-- a literal in a clause of its own
own_asked : (g : KoreSignature) (v : Valuation) (cs : List (List ReadLiteral)) (l : ReadLiteral) (o : Option Form) → l.form ≡ o → Contains cs (l ∷ []) → AllByRecursion (λ x. IsFitting g cs x (v x.name)) (asked_of o) → IsHeadAsked g v o
own_asked g v cs l (Some (asks x test b)) i at fit =
    let h = head_of (v x.name) in
    let each = all_pass (agrees_with_one g h x.name) cs fit.0.1.agrees in
    let own : head_agrees g h x.name l.form ≡ true = one_of_one (head_agrees g h x.name l.form) (of_member (λ c. agrees_with_one g h x.name c ≡ true) cs (l ∷ []) each at) in
    let asked : (not (bytes_eq x.name x.name) || beq (passes_head g test h) b) ≡ true = subst (λ p. head_agrees g h x.name p ≡ true) i own in
    let passes : beq (passes_head g test h) b ≡ true = subst (λ t. (not t || beq (passes_head g test h) b) ≡ true) ((bytes_eq-Decides x.name x.name).1 refl) asked in
    said_as_passes (PassesHead g test h) (passes_head g test h) b (passes-Decides g test h) passes
own_asked g v cs l (Some (compares c m n)) i at fit = tt
own_asked g v cs l (Some (is_truth y b)) i at fit = tt
own_asked g v cs l (Some (equates b p q)) i at fit = tt
own_asked g v cs l (Some (gives e)) i at fit = tt
own_asked g v cs l None i at fit = tt

abbrev Fits : KoreSignature → List (List ReadLiteral) → Valuation → SortedName → Type 0
Fits g cs v x = IsFitting g cs x (v x.name)

clause_heads : (g : KoreSignature) (v : Valuation) (cs : List (List ReadLiteral)) (c : List ReadLiteral) → AsksAlone c → Contains cs c → AllByRecursion (Fits g cs v) (flat_map (λ l. asked_of l.form) c) → AllByRecursion (λ l. IsHeadAsked g v l.form) c
clause_heads g v cs [] alone at fit = tt
clause_heads g v cs (l ∷ []) alone at fit = (own_asked g v cs l l.form refl at (all_left (Fits g cs v) (asked_of l.form) [] fit), tt)
clause_heads g v cs (l ∷ m ∷ c) alone at fit = all_map (λ (r : ReadLiteral). asked_of r.form ≡ []) (λ (r : ReadLiteral). IsHeadAsked g v r.form) (l ∷ m ∷ c) (λ r e. none_asked g v r.form e) alone

all_heads : (g : KoreSignature) (v : Valuation) (cs ds : List (List ReadLiteral)) → AllByRecursion AsksAlone ds → AllByRecursion (Contains cs) ds → AllByRecursion (Fits g cs v) (asked_in ds) → AreHeadsAsked g v ds
all_heads g v cs [] alone at fit = tt
all_heads g v cs (d ∷ ds) alone at fit =
    let own = flat_map (λ l. asked_of l.form) d in
    (clause_heads g v cs d alone.0 at.0 (all_left (Fits g cs v) own (asked_in ds) fit), all_heads g v cs ds alone.1 at.1 (all_right (Fits g cs v) own (asked_in ds) fit))

pub each_self : {X : Type 0} (xs : List X) → AllByRecursion (Contains xs) xs
each_self [] = tt
each_self (x ∷ xs) = (Contains-append_left (x ∷ []) xs x (Contains-push [] x), all_map (Contains xs) (Contains (x ∷ xs)) xs (λ y h. Contains-append_right (x ∷ []) xs y h) (each_self xs))

pub can_have_heads : (g : KoreSignature) (hand : List SortedName) (cs : List (List ReadLiteral)) → ((x y : SortedName) → Contains hand x → Contains hand y → x.name ≡ y.name → x.sort ≡ y.sort) → AllByRecursion (Contains hand) (asked_in cs) → AllByRecursion AsksAlone cs → AreStanding g cs → CanHaveHeads g cs
can_have_heads g hand cs one at alone stand =
    let asked = clauses_asked g cs cs stand in
    let fit = all_fit g cs hand (asked_in cs) asked one at in
    let v = values_for g cs (asked_in cs) asked in
    record {
      valuation = v;
      sorts = all_map (Fits g cs v) (Sorted g v) (asked_in cs) (λ x f. f.0) fit;
      are_true = all_heads g v cs cs alone (each_self cs) fit;
    }
