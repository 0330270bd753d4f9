-- The first entry that binds a name, in the book and in what a pass has seen of it.
use Rattle.std.proofs.Common.{◌≡◌, refl, sym, ap, subst, ◌∙◌, ℕ, zero, suc, ◌<◌, ◌+◌, ◌++◌, Bool, true, false, cond, ◌||◌, List, [], ◌∷◌, length, get_or, Option, Some, None, Result, Ok, Err, IfOk, Global, arith}
use Rattle.std.specs.Option.{option_map, is_some}
use Rattle.std.specs.List.{AllByRecursion, AllZip}
use Rattle.std.specs.Str.{bytes_eq}
use Rattle.std.specs.declared.alloc.AllocError.{AllocError}
use Rattle.std.specs.declared.sync.Arc.{Arc}
use Rattle.std.proofs.lemmas.Slice.Eq.{bytes_eq-Decides}
use Rattle.kp_kore.specs.Syntax.{Text}
use Rattle.kp_kore.specs.Signature.{KoreSignature}
use Rattle.kp_kore.specs.Theory.{NumberedAxiom}
use Rattle.kp_rule_sets.specs.declared.rule_set.RuleSet.{RuleSet}
use Rattle.kp_book.specs.Books.{Opening, Registration, IsDuplicate, by_opening, by_entry, binds, rules_in, rules_bound, first_of}
use Rattle.kp_modules.specs.Openings.{IsTableOf}
use Rattle.kp_modules.specs.Tables.{does_reach}
use Rattle.kp_modules.specs.declared.table.ModuleTable.{ModuleTable}
use Rattle.kp_modules.specs.OwnSets.{MeansRules}
use Rattle.kp_registry.specs.Passes.{IsEntryOf, first_binding, binds_name, is_either, MeansAt}
use Rattle.kp_registry.specs.Refusals.{IsFree}
use Rattle.kp_registry.specs.declared.seen.Entry.{Entry}

none_some : {X : Type 0} {x : X} → None ≡ Some x → ⊥
none_some e = absurd (cc (e))

inside : {X : Type 0} {x y : X} → Some x ≡ Some y → x ≡ y
inside {X} {x} {y} e = ap by e
  where
    by : Option X → X
    by None = x
    by (Some z) = z

pub not_equal : (x y : Text) → bytes_eq x y ≡ false → ¬ (x ≡ y)
not_equal x y e same = absurd (cc (sym e ∙ (bytes_eq-Decides x y).1 same))

-- ---- names of an entry

or_nothing : (b : Bool) → b || false ≡ b
or_nothing true = refl
or_nothing false = refl

also_bound : (n id : Text) (text : List ℕ) (own : Option Text) (axioms : List NumberedAxiom) → binds n (record { text = text; id = id; also = own; axioms = axioms }) ≡ is_either n id own
also_bound n id text (Some own) axioms = refl
also_bound n id text None axioms = or_nothing (bytes_eq n id)

pub same_names : (g : KoreSignature) (r : Registration) (e : Entry) (n : Text) → IsEntryOf g r e → binds n r ≡ binds_name n e
same_names g r e n is = also_bound n r.id r.text r.also r.axioms ∙ ap (λ i. is_either n i r.also) (sym is.id) ∙ ap (is_either n e.id) (sym is.also)

-- ---- the first that binds a name

pub record FirstBinder (g : KoreSignature) (book : List Registration) (es : List Entry) (n : Text) (k : ℕ) : Type 0 where
  pub before : List Registration
  pub first : Registration
  pub after : List Registration
  pub are : book ≡ before ++ first ∷ after
  pub count : length before ≡ k
  pub passed : AllByRecursion (λ q. binds n q ≡ false) before
  pub bound : binds n first ≡ true
  pub within : k < length es
  pub entry : (d : Entry) → IsEntryOf g first (get_or es k d)

pub first_found : (g : KoreSignature) (book : List Registration) (es : List Entry) (n : Text) (k : ℕ) → AllZip (IsEntryOf g) book es → first_binding es n ≡ Some k → FirstBinder g book es n k
first_found g [] [] n k are e = absurd (none_some e)
first_found g [] (x ∷ es) n k are e = absurd are
first_found g (r ∷ book) [] n k are e = absurd are
first_found g (r ∷ book) (x ∷ es) n k are e = by (λ j i. first_found g book es n j are.1 i) (binds_name n x) refl e
  where
    behind : (j : ℕ) → binds_name n x ≡ false → first_binding es n ≡ Some j → suc j ≡ k → FirstBinder g book es n j → FirstBinder g (r ∷ book) (x ∷ es) n k
    behind j misses i s f = record {
      before = r ∷ f.before;
      first = f.first;
      after = f.after;
      are = ap (λ l. r ∷ l) f.are;
      count = ap suc f.count ∙ s;
      passed = (same_names g r x n are.0 ∙ misses, f.passed);
      bound = f.bound;
      within = subst (λ i. i < suc (length es)) s (omega (arith, f.within));
      entry = λ d. subst (λ i. IsEntryOf g f.first (get_or (x ∷ es) i d)) s (f.entry d);
    }

    rest : ((j : ℕ) → first_binding es n ≡ Some j → FirstBinder g book es n j) → binds_name n x ≡ false → (o : Option ℕ) → first_binding es n ≡ o → option_map suc o ≡ Some k → FirstBinder g (r ∷ book) (x ∷ es) n k
    rest again misses None i s = absurd (none_some s)
    rest again misses (Some j) i s = behind j misses i (inside s) (again j i)

    here : binds_name n x ≡ true → zero ≡ k → FirstBinder g (r ∷ book) (x ∷ es) n k
    here meets s = record {
      before = [];
      first = r;
      after = book;
      are = refl;
      count = s;
      passed = tt;
      bound = same_names g r x n are.0 ∙ meets;
      within = subst (λ i. i < suc (length es)) s (omega arith);
      entry = λ d. subst (λ i. IsEntryOf g r (get_or (x ∷ es) i d)) s are.0;
    }

    by : ((j : ℕ) → first_binding es n ≡ Some j → FirstBinder g book es n j) → (b : Bool) → binds_name n x ≡ b → cond b (Some zero) (option_map suc (first_binding es n)) ≡ Some k → FirstBinder g (r ∷ book) (x ∷ es) n k
    by again true meets s = here meets (inside s)
    by again false misses s = rest again misses (first_binding es n) refl s

pub none_found : (g : KoreSignature) (book : List Registration) (es : List Entry) (n : Text) → AllZip (IsEntryOf g) book es → first_binding es n ≡ None → AllByRecursion (λ q. binds n q ≡ false) book
none_found g [] [] n are e = tt
none_found g [] (x ∷ es) n are e = absurd are
none_found g (r ∷ book) [] n are e = absurd are
none_found g (r ∷ book) (x ∷ es) n are e = by (λ i. none_found g book es n are.1 i) (binds_name n x) refl e
  where
    rest : (o : Option ℕ) → option_map suc o ≡ None → o ≡ None
    rest None s = refl
    rest (Some j) s = absurd (none_some (sym s))

    by : (first_binding es n ≡ None → AllByRecursion (λ q. binds n q ≡ false) book) → (b : Bool) → binds_name n x ≡ b → cond b (Some zero) (option_map suc (first_binding es n)) ≡ None → AllByRecursion (λ q. binds n q ≡ false) (r ∷ book)
    by again true meets s = absurd (none_some (sym s))
    by again false misses s = (same_names g r x n are.0 ∙ misses, again (rest (first_binding es n) s))

pub found_within : (es : List Entry) (n : Text) (k : ℕ) → first_binding es n ≡ Some k → k < length es
found_within [] n k e = absurd (none_some e)
found_within (x ∷ es) n k e = by (λ j f. found_within es n j f) (binds_name n x) (first_binding es n) refl e
  where
    by : ((j : ℕ) → first_binding es n ≡ Some j → j < length es) → (b : Bool) (o : Option ℕ) → first_binding es n ≡ o → cond b (Some zero) (option_map suc o) ≡ Some k → k < suc (length es)
    by again true o f s = subst (λ i. i < suc (length es)) (inside s) (omega arith)
    by again false None f s = absurd (none_some s)
    by again false (Some j) f s = let near : j < length es = again j f in subst (λ i. i < suc (length es)) (inside s) (omega (arith, near))

-- ---- what a name means

pub bound_at : (before after : List Registration) (r : Registration) (n : Text) → AllByRecursion (λ q. binds n q ≡ false) before → binds n r ≡ true → rules_bound (before ++ r ∷ after) n ≡ Some r.axioms
bound_at [] after r n h k = ap (λ b. cond b (Some r.axioms) (rules_bound after n)) k
bound_at (q ∷ before) after r n h k = ap (λ b. cond b (Some q.axioms) (rules_bound (before ++ r ∷ after) n)) h.0 ∙ bound_at before after r n h.1 k

bound_nowhere : (book : List Registration) (n : Text) → AllByRecursion (λ q. binds n q ≡ false) book → rules_bound book n ≡ None
bound_nowhere [] n h = refl
bound_nowhere (q ∷ book) n h = ap (λ b. cond b (Some q.axioms) (rules_bound book n)) h.0 ∙ bound_nowhere book n h.1

pub not_some : {X : Type 0} (o : Option X) → is_some o ≡ false → o ≡ None
not_some None e = refl
not_some (Some x) e = absurd (cc (e))

-- a name that main doesn't reach
pub not_reached : (o : Opening) (t : ModuleTable) (n : Text) → IsTableOf o t → does_reach t n ≡ false → rules_in o.modules n ≡ None
not_reached o t n table e = not_some (rules_in o.modules n) (sym (table.reaches n) ∙ e)

-- the rule set of a module that main reaches
pub means_reached : (o : Opening) (t : ModuleTable) (book : List Registration) (n : Text) (r : Result (Option (Arc RuleSet Global)) AllocError) → IsTableOf o t → does_reach t n ≡ true → IfOk r (MeansRules o n) →
    IfOk r (λ found. MeansAt o book n (option_map (λ s. s.value) found))
means_reached o t book n (Ok (Some rules)) table e h = (h.0, ap (λ m. first_of m (rules_bound book n)) h.1, h.2)
means_reached o t book n (Ok None) table e h = absurd (cc (sym (ap is_some h) ∙ sym (table.reaches n) ∙ e))
means_reached o t book n (Err x) table e h = tt

-- the first binder's rule set
pub means_first : (o : Opening) (book : List Registration) (es : List Entry) (n : Text) (k : ℕ) (d : Entry) → rules_in o.modules n ≡ None → AllZip (IsEntryOf o.signature) book es → first_binding es n ≡ Some k → MeansAt o book n (Some (get_or es k d).rules.value)
means_first o book es n k d out are e =
    let f = first_found o.signature book es n k are e in
    (f.first.axioms, ap (λ m. first_of m (rules_bound book n)) out ∙ ap (λ b. rules_bound b n) f.are ∙ bound_at f.before f.after f.first n f.passed f.bound, (f.entry d).rules)

pub means_nothing : (o : Opening) (book : List Registration) (es : List Entry) (n : Text) → rules_in o.modules n ≡ None → AllZip (IsEntryOf o.signature) book es → first_binding es n ≡ None → MeansAt o book n None
means_nothing o book es n out are e = ap (λ m. first_of m (rules_bound book n)) out ∙ bound_nowhere book n (none_found o.signature book es n are e)

-- ---- duplicates

abbrev first_text : List Registration → Text → Option (List ℕ)
first_text [] n = None
first_text (r ∷ book) n = cond (binds n r) (Some r.text) (first_text book n)

text_at : (before after : List Registration) (r : Registration) (n : Text) → AllByRecursion (λ q. binds n q ≡ false) before → binds n r ≡ true → first_text (before ++ r ∷ after) n ≡ Some r.text
text_at [] after r n h k = ap (λ b. cond b (Some r.text) (first_text after n)) k
text_at (q ∷ before) after r n h k = ap (λ b. cond b (Some q.text) (first_text (before ++ r ∷ after) n)) h.0 ∙ text_at before after r n h.1 k

text_nowhere : (book : List Registration) (n : Text) → AllByRecursion (λ q. binds n q ≡ false) book → first_text book n ≡ None
text_nowhere [] n h = refl
text_nowhere (q ∷ book) n h = ap (λ b. cond b (Some q.text) (first_text book n)) h.0 ∙ text_nowhere book n h.1

-- a name that is bound first to this text, or nowhere, is free
free_by : (o : Opening) (book : List Registration) (text : List ℕ) (n : Text) → rules_in o.modules n ≡ None → ((t : List ℕ) → first_text book n ≡ Some t → t ≡ text) → IsFree o book text n
free_by o book text n out h i (by_opening axioms e) = none_some (sym out ∙ e)
free_by o book text n out h i (by_entry before r after free are passed bound other) = other (h r.text (ap (λ b. first_text b n) are ∙ text_at before after r n passed bound))

pub free_same : (o : Opening) (book : List Registration) (es : List Entry) (text : List ℕ) (n : Text) (k : ℕ) (d : Entry) → rules_in o.modules n ≡ None → AllZip (IsEntryOf o.signature) book es → first_binding es n ≡ Some k → (get_or es k d).text.items ≡ text → IsFree o book text n
free_same o book es text n k d out are e same =
    let f = first_found o.signature book es n k are e in
    let first : first_text book n ≡ Some f.first.text = ap (λ b. first_text b n) f.are ∙ text_at f.before f.after f.first n f.passed f.bound in
    free_by o book text n out (λ t h. inside (sym h ∙ first) ∙ sym (f.entry d).text ∙ same)

pub free_nowhere : (o : Opening) (book : List Registration) (es : List Entry) (text : List ℕ) (n : Text) → rules_in o.modules n ≡ None → AllZip (IsEntryOf o.signature) book es → first_binding es n ≡ None → IsFree o book text n
free_nowhere o book es text n out are e = free_by o book text n out (λ t h. absurd (none_some (sym (text_nowhere book n (none_found o.signature book es n are e)) ∙ h)))

pub other_text : (o : Opening) (book : List Registration) (es : List Entry) (text : List ℕ) (n : Text) (k : ℕ) (d : Entry) → rules_in o.modules n ≡ None → AllZip (IsEntryOf o.signature) book es → first_binding es n ≡ Some k → ¬ ((get_or es k d).text.items ≡ text) → IsDuplicate o book text n (k + 1)
other_text o book es text n k d out are e other =
    let f = first_found o.signature book es n k are e in
    let more : suc (length f.before) ≡ k + 1 = ap suc f.count ∙ omega arith in
    subst (IsDuplicate o book text n) more (by_entry f.before f.first f.after out f.are f.passed f.bound (λ h. other ((f.entry d).text ∙ h)))

pub in_opening : (o : Opening) (book : List Registration) (text : List ℕ) (n : Text) → is_some (rules_in o.modules n) ≡ true → IsDuplicate o book text n 0
in_opening o book text n h = by (rules_in o.modules n) refl h
  where
    by : (m : Option (List NumberedAxiom)) → rules_in o.modules n ≡ m → is_some m ≡ true → IsDuplicate o book text n 0
    by None e k = absurd (cc (k))
    by (Some axioms) e k = by_opening axioms e

-- some entry, where there is one
pub some_entry : (es : List Entry) (k : ℕ) → k < length es → Entry
some_entry [] k h = absurd (omega (arith, h))
some_entry (x ∷ es) k h = x
