-- What a table keeps, and what it tells of another module's walk and rules.
use Rattle.std.proofs.Common.{◌≡◌, refl, sym, ap, subst, ◌∙◌, ℕ, zero, suc, ◌+◌, ◌-◌, ◌<◌, ◌≤◌, Bool, true, false, ◌||◌, cond, List, [], ◌∷◌, ◌++◌, length, map, take, drop, slice_get, slice_range, Option, Some, None, MatchOption, Result, Ok, Err, IfOk, Vec, Global, Bor, ◌⊎◌, inl, inr, arith}
use Rattle.std.specs.Option.{option_map, is_some}
use Rattle.std.specs.Slice.{IsGetRangeResult}
use Rattle.std.specs.Str.{bytes_eq}
use Rattle.std.specs.declared.alloc.AllocError.{AllocError}
use Rattle.std.proofs.lemmas.List.{append_assoc, length-append}
use Rattle.std.proofs.lemmas.Option.{slice_get-map}
use Rattle.std.proofs.lemmas.Simd.{map-map}
use Rattle.std.proofs.lemmas.Slice.Eq.{bytes_eq-Decides}
use Rattle.kp_kore.specs.Syntax.{Text, KoreModule, KoreDefinition}
use Rattle.kp_kore.specs.View.{module_view}
use Rattle.kp_kore.specs.declared.sentence.Module.{Module}
use Rattle.kp_kore.specs.Theory.{modules_reached, names_reached, rewrite_axioms}
use Rattle.kp_rules.specs.declared.rule.Rule.{Rule}
use Rattle.kp_signature.specs.Names.{first_place}
use Rattle.kp_imports.specs.Faults.{Fault, IsImportFault, fault_view}
use Rattle.kp_modules.specs.Keeping.{outline, own_axioms, spans_from, span_view, KeepsReached, StandsAt, own_rules}
use Rattle.kp_imports.specs.Names.{names_of, module_names}
use Rattle.kp_imports.specs.Reaching.{has}
use Rattle.kp_imports.specs.Walks.{IsLaidOut, IsOver}
use Rattle.kp_imports.specs.declared.fault.LoadError.{LoadError}
use Rattle.kp_modules.specs.declared.outlines.RuleSpan.{RuleSpan}
use Rattle.kp_modules.specs.declared.table.ModuleTable.{ModuleTable}
use Rattle.kp_imports.proofs.Collect.{false_true, or_true}
use Rattle.kp_modules.proofs.Outlined.{names_named, same_names, no_fault_kept, stands_at}
use Rattle.kp_imports.proofs.Walking.{bool_not, some_same}

pub kept : (d : KoreDefinition) (main : Text) (t : ModuleTable) (ms ks : List (Bor Module)) → map (λ m. module_view m.now) ms ≡ modules_reached d main → map (λ m. module_view m.now) ks ≡ modules_reached d main →
    IsLaidOut d.modules (names_reached (length d.modules) d.modules main) → map (λ m. outline (module_view m)) t.modules.items ≡ map (λ m. outline (module_view m.now)) ms →
    map span_view t.spans.items ≡ spans_from 0 (map (λ m. module_view m.now) ks) → KeepsReached d main t
kept d main t ms ks outlined spanned laid outlines spans = record {
  laid_out = laid;
  outlines = map-map outline module_view t.modules.items ∙ outlines ∙ sym (map-map outline (λ m. module_view m.now) ms) ∙ ap (map outline) outlined;
  spans = spans ∙ ap (spans_from 0) spanned;
}

-- ---- names and places

at_has : (names : List Text) (n : Text) (p : ℕ) → first_place n names ≡ Some p → has n names ≡ true
at_has [] n p h = absurd (cc)
at_has (m ∷ ms) n p h = by (bytes_eq m n) refl (first_place n ms) refl (λ q e. at_has ms n q e) h
  where
    by : (b : Bool) → bytes_eq m n ≡ b → (o : Option ℕ) → first_place n ms ≡ o → ((q : ℕ) → first_place n ms ≡ Some q → has n ms ≡ true) → cond b (Some 0) (option_map suc o) ≡ Some p → (bytes_eq n m || has n ms) ≡ true
    by true e o f again k = ap (λ b. b || has n ms) ((bytes_eq-Decides n m).1 (sym ((bytes_eq-Decides m n).0 e)))
    by false e (Some q) f again k = ap (λ b. bytes_eq n m || b) (again q f) ∙ or_true (bytes_eq n m)
    by false e None f again k = absurd (cc)

not_at : (names : List Text) (n : Text) → first_place n names ≡ None → has n names ≡ false
not_at [] n h = refl
not_at (m ∷ ms) n h = by (bytes_eq m n) refl (first_place n ms) refl (λ e. not_at ms n e) h
  where
    by : (b : Bool) → bytes_eq m n ≡ b → (o : Option ℕ) → first_place n ms ≡ o → (first_place n ms ≡ None → has n ms ≡ false) → cond b (Some 0) (option_map suc o) ≡ None → (bytes_eq n m || has n ms) ≡ false
    by true e o f again k = absurd (cc)
    by false e (Some q) f again k = absurd (cc)
    by false e None f again k =
        ap (λ b. b || has n ms) (bool_not (bytes_eq n m) (λ q. false_true (sym e ∙ (bytes_eq-Decides m n).1 (sym ((bytes_eq-Decides n m).0 q))))) ∙ again f

kept_names : (d : KoreDefinition) (main : Text) (t : ModuleTable) → KeepsReached d main t → module_names t.modules.items ≡ names_of (modules_reached d main)
kept_names d main t keeps =
    let names = names_reached (length d.modules) d.modules main in
    same_names d.modules names keeps.laid_out (map module_view t.modules.items) keeps.outlines ∙ sym (names_named d.modules names keeps.laid_out.named)

pub not_reached : (d : KoreDefinition) (main name : Text) (t : ModuleTable) (rows : List Module) → KeepsReached d main t → rows ≡ t.modules.items → first_place name (module_names rows) ≡ None → has name (names_of (modules_reached d main)) ≡ false
not_reached d main name t rows keeps is e = ap (has name) (sym (ap module_names is ∙ kept_names d main t keeps)) ∙ not_at (module_names rows) name e

-- the walk over the outlines
pub walked : (d : KoreDefinition) (main name : Text) (t : ModuleTable) (rows : List Module) (place : ℕ) (r : Result (Option (Vec ℕ Global)) AllocError) → KeepsReached d main t → rows ≡ t.modules.items → first_place name (module_names rows) ≡ Some place →
    (((f : Fault) → IsImportFault (map module_view rows) name f → ⊥) → IfOk r (λ o. MatchOption o ⊥ (λ order. IsOver rows name order.items))) →
    IfOk r (λ o. MatchOption o (has name (names_of (modules_reached d main)) ≡ false) (λ places. (has name (names_of (modules_reached d main)) ≡ true) × StandsAt d main name places.items))
walked d main name t rows place r keeps is at given = by r (given (no_fault_kept d.modules names keeps.laid_out (map module_view rows) outlined name among))
  where
    names : List Text
    names = names_reached (length d.modules) d.modules main

    outlined : map outline (map module_view rows) ≡ map outline (modules_reached d main)
    outlined = ap (λ l. map outline (map module_view l)) is ∙ keeps.outlines

    among : has name names ≡ true
    among = ap (has name) (sym (same_names d.modules names keeps.laid_out (map module_view rows) outlined)) ∙ at_has (module_names rows) name place at

    by : (r : Result (Option (Vec ℕ Global)) AllocError) → IfOk r (λ o. MatchOption o ⊥ (λ order. IsOver rows name order.items)) →
        IfOk r (λ o. MatchOption o (has name (names_of (modules_reached d main)) ≡ false) (λ places. (has name (names_of (modules_reached d main)) ≡ true) × StandsAt d main name places.items))
    by (Ok (Some order)) over = (ap (has name) (names_named d.modules names keeps.laid_out.named) ∙ among, stands_at d main name rows order.items keeps.laid_out outlined among over)
    by (Ok None) h = absurd h
    by (Err e) h = tt

-- a fault that can't be told
pub none_of_it : {X : Type 0} (P : X → Type 0) (r : Result X AllocError) (e : LoadError) → IfOk r (λ x. is_some (fault_view e) ≡ true) → ((f : Fault) → fault_view e ≡ Some f → ⊥) → IfOk r P
none_of_it P (Ok x) e h none = by (fault_view e) refl h
  where
    by : (o : Option Fault) → fault_view e ≡ o → is_some o ≡ true → P x
    by (Some f) q k = absurd (none f q)
    by None q k = false_true k
none_of_it P (Err x) e h none = tt

-- ---- rules

span_at : (n : ℕ) (ms : List KoreModule) (p : ℕ) (m : KoreModule) → slice_get ms p ≡ Some m →
    slice_get (spans_from n ms) p ≡ Some (n + length (rewrite_axioms (take p ms)), n + length (rewrite_axioms (take p ms)) + length (own_axioms m))
span_at n [] p m h = absurd (cc)
span_at n (x ∷ ms) zero m h =
    let same : n + 0 ≡ n = omega arith in
    let one : x ≡ m = some_same x m h in
    ap (λ y. Some (n, n + length (own_axioms y))) one ∙ ap (λ k. Some (k, k + length (own_axioms m))) (sym same)
span_at n (x ∷ ms) (suc p) m h =
    let more : length (own_axioms x ++ rewrite_axioms (take p ms)) ≡ length (own_axioms x) + length (rewrite_axioms (take p ms)) = length-append (own_axioms x) (rewrite_axioms (take p ms)) in
    let same : n + length (own_axioms x) + length (rewrite_axioms (take p ms)) ≡ n + length (own_axioms x ++ rewrite_axioms (take p ms)) = added n (length (own_axioms x)) (length (rewrite_axioms (take p ms))) (length (own_axioms x ++ rewrite_axioms (take p ms))) more in
    span_at (n + length (own_axioms x)) ms p m h ∙ ap (λ k. Some (k, k + length (own_axioms m))) same
  where
    added : (a b c l : ℕ) → l ≡ b + c → a + b + c ≡ a + l
    added a b c l e = omega arith

-- counted from the first
first_span : (ms : List KoreModule) (p : ℕ) (m : KoreModule) → slice_get ms p ≡ Some m →
    slice_get (spans_from 0 ms) p ≡ Some (length (rewrite_axioms (take p ms)), length (rewrite_axioms (take p ms)) + length (own_axioms m))
first_span ms p m h = span_at 0 ms p m h ∙ ap (λ k. Some (k, k + length (own_axioms m))) (none_more (length (rewrite_axioms (take p ms))))
  where
    none_more : (k : ℕ) → 0 + k ≡ k
    none_more k = omega arith

-- the axioms before a module's, its own, and those behind
pub axioms_parted : (ms : List KoreModule) (p : ℕ) (m : KoreModule) → slice_get ms p ≡ Some m → rewrite_axioms ms ≡ rewrite_axioms (take p ms) ++ (own_axioms m ++ rewrite_axioms (drop (suc p) ms))
axioms_parted [] p m h = absurd (cc)
axioms_parted (x ∷ ms) zero m h = ap (λ y. own_axioms y ++ rewrite_axioms ms) (some_same x m h)
axioms_parted (x ∷ ms) (suc p) m h =
    ap (λ l. own_axioms x ++ l) (axioms_parted ms p m h) ∙ sym (append_assoc (own_axioms x) (rewrite_axioms (take p ms)) (own_axioms m ++ rewrite_axioms (drop (suc p) ms)))

within : (ms : List KoreModule) (p : ℕ) (m : KoreModule) → slice_get ms p ≡ Some m → length (rewrite_axioms (take p ms)) + length (own_axioms m) ≤ length (rewrite_axioms ms)
within ms p m h = fits (length (rewrite_axioms (take p ms))) (length (own_axioms m)) (length (rewrite_axioms (drop (suc p) ms))) (length (own_axioms m ++ rewrite_axioms (drop (suc p) ms))) (length (rewrite_axioms ms))
    (ap length (axioms_parted ms p m h) ∙ length-append (rewrite_axioms (take p ms)) (own_axioms m ++ rewrite_axioms (drop (suc p) ms)))
    (length-append (own_axioms m) (rewrite_axioms (drop (suc p) ms)))
  where
    fits : (a b c k l : ℕ) → l ≡ a + k → k ≡ b + c → a + b ≤ l
    fits a b c k l e f = omega arith

-- the part of main's rules that a span tells
pub spanned : (ms : List KoreModule) (spans : List RuleSpan) (rules : List Rule) (place : ℕ) (m : KoreModule) (s : RuleSpan) (r : Option (Bor (List Rule))) → map span_view spans ≡ spans_from 0 ms → slice_get ms place ≡ Some m →
    length rules ≡ length (rewrite_axioms ms) → slice_get spans place ≡ Some s → IsGetRangeResult rules s.from s.to r → MatchOption r ⊥ (λ own. own.now ≡ own_rules ms place m rules)
spanned ms spans rules place m s r is at many found told = by r told
  where
    start : ℕ
    start = length (rewrite_axioms (take place ms))

    size : ℕ
    size = length (own_axioms m)

    both : ◌≡◌ {A = ℕ × ℕ} (s.from, s.to) (start, start + size)
    both = some_same (s.from, s.to) (start, start + size) (ap (option_map span_view) (sym found) ∙ sym (slice_get-map span_view spans place) ∙ ap (λ l. slice_get l place) is ∙ first_span ms place m at)

    from_is : s.from ≡ start
    from_is = ap (λ p. p.0) both

    to_is : s.to ≡ start + size
    to_is = ap (λ p. p.1) both

    left : (a b : ℕ) → a + b - a ≡ b
    left a b = omega arith

    fits : start + size ≤ length rules
    fits = subst (λ k. start + size ≤ k) (sym many) (within ms place m at)

    outside : (f t a b l : ℕ) → f ≡ a → t ≡ a + b → a + b ≤ l → (t < f) ⊎ (l < t) → ⊥
    outside f t a b l e g h (inl k) = absurd (omega arith)
    outside f t a b l e g h (inr k) = absurd (omega arith)

    by : (r : Option (Bor (List Rule))) → IsGetRangeResult rules s.from s.to r → MatchOption r ⊥ (λ own. own.now ≡ own_rules ms place m rules)
    by (Some own) h =
        h.0.2 ∙ ap (λ k. slice_range rules k s.to) from_is ∙ ap (slice_range rules start) to_is ∙ ap (λ k. take k (drop start rules)) (left start size)
    by None h = outside s.from s.to start size (length rules) from_is to_is fits h.0

-- no span at a module's place
pub no_span : (ms : List KoreModule) (spans : List RuleSpan) (place : ℕ) (m : KoreModule) → map span_view spans ≡ spans_from 0 ms → slice_get ms place ≡ Some m → slice_get spans place ≡ None → ⊥
no_span ms spans place m is at none =
    let told : None ≡ Some (length (rewrite_axioms (take place ms)), length (rewrite_axioms (take place ms)) + length (own_axioms m)) =
    ap (option_map span_view) (sym none) ∙ sym (slice_get-map span_view spans place) ∙ ap (λ l. slice_get l place) is ∙ first_span ms place m at in
    nothing (length (rewrite_axioms (take place ms)), length (rewrite_axioms (take place ms)) + length (own_axioms m)) told
  where
    nothing : (s : ℕ × ℕ) → None ≡ Some s → ⊥
    nothing s e = absurd (cc)
