-- Ground sides that verify in the claim without its word on paths verify by themselves, with its sort.
use Rattle.std.proofs.Common.{◌≡◌, refl, sym, ap, subst, ◌∙◌, ℕ, Bool, true, false, ◌&&◌, List, [], ◌∷◌, ◌++◌, Option, Some, None}
use Rattle.std.specs.List.{filter_map}
use Rattle.std.proofs.lemmas.List.Elements.{filter_map-append}
use Rattle.kp_kore.specs.Syntax.{Text, KoreSort, KoreSorts, no_sorts, next_sort, KorePattern, KorePatterns, variable, set_variable, application, string_literal, literal, top, bottom, negation, next, conjunction, disjunction, implication, equivalence, rewriting, exists, forall, ceil, floor, equals, membership, mu, nu, no_patterns, next_pattern}
use Rattle.kp_kore.specs.Attributes.{sorts_equal}
use Rattle.kp_kore.specs.Parts.{SortedName, is_term, free_variables, subpatterns}
use Rattle.kp_kore.specs.Signature.{KoreSignature}
use Rattle.kp_kore.proofs.SameLemmas.{sorts_equal-Decides}
use Rattle.kp_signature.specs.Places.{Place, the_top, part_at, argument_at, after, argument_sorts, own_sort, earlier}
use Rattle.kp_signature.specs.Verify.{VerifyFault, sort_differs, fault_unless, sort_fault, symbol_fault, difference, variable_fault, injection_fault, literal_fault, width_fault, depth_fault, first_of, fault_at, first_fault, arguments_fault, VerifiesAs}
use Rattle.kp_signature.proofs.OwnSorts.{has_a_sort}
use Rattle.kp_compile.specs.Spelled.{first_foreign, first_member, foreign_name}
use Rattle.kp_claims.specs.Claims.{ClaimSides}
use Rattle.kp_claims.specs.Faults.{bare_claim}
use Rattle.kp_claim_files.specs.Ground.{has_none, is_ground, IsGroundAt}

-- ---- the first of several

pub nothing_earlier : {A : Type 0} (a b : Option A) → earlier a b ≡ None → a ≡ None
nothing_earlier None b e = refl
nothing_earlier (Some f) b e = absurd (cc)

pub nothing_later : {A : Type 0} (a b : Option A) → earlier a b ≡ None → b ≡ None
nothing_later None b e = e
nothing_later (Some f) b e = absurd (cc)

both_nothing : {A : Type 0} (a b : Option A) → a ≡ None → b ≡ None → earlier a b ≡ None
both_nothing None b e f = f
both_nothing (Some x) b e f = absurd (cc)

third_nothing : {A : Type 0} (a b d r : Option A) → earlier a (earlier b (earlier d r)) ≡ None → d ≡ None
third_nothing a b d r e = nothing_earlier d r (nothing_later b (earlier d r) (nothing_later a (earlier b (earlier d r)) e))

without_third : {A : Type 0} (a b d r : Option A) → earlier a (earlier b (earlier d r)) ≡ None → earlier a (earlier b r) ≡ None
without_third a b d r e =
    let k = nothing_later a (earlier b (earlier d r)) e in
    both_nothing a (earlier b r) (nothing_earlier a (earlier b (earlier d r)) e) (both_nothing b r (nothing_earlier b (earlier d r) k) (nothing_later d r (nothing_later b (earlier d r) k)))

-- ---- a part of a sort, and the same by itself

abbrev a_part : KoreSort → Place
a_part s = record { wanted = Some s; depth = 1; scope = [] }

-- the faults of a node that aren't about the sort that its place wants
abbrev others : KoreSignature → KorePattern → Option VerifyFault
others g p = first_of (variable_fault [] p ∷ injection_fault g p ∷ literal_fault g p ∷ width_fault g p ∷ depth_fault 1 ∷ [])

same_sort : (s t : KoreSort) → fault_unless (sorts_equal s t) (sort_differs s t) ≡ None → s ≡ t
same_sort s t h = (sorts_equal-Decides s t).0 (by (sorts_equal s t) h)
  where
    by : (b : Bool) → fault_unless b (sort_differs s t) ≡ None → b ≡ true
    by true e = refl
    by false e = absurd (cc)

has_its_sort : (g : KoreSignature) (c : Place) (s : KoreSort) (p : KorePattern) → first_fault g c p ≡ None → difference (Some s) (own_sort g p) ≡ None → own_sort g p ≡ Some s
has_its_sort g c s p h d = by (own_sort g p) refl d
  where
    by : (o : Option KoreSort) → own_sort g p ≡ o → difference (Some s) o ≡ None → own_sort g p ≡ Some s
    by None e f = absurd (has_a_sort g c p e h)
    by (Some t) e f = e ∙ ap Some (sym (same_sort s t f))

arguments_same : (g : KoreSignature) (w : Option KoreSort) (n : ℕ) (scope : List SortedName) (ss : KoreSorts) (ps : KorePatterns) → arguments_fault g (record { wanted = w; depth = n; scope = scope }) ss ps ≡ arguments_fault g (record { wanted = None; depth = n; scope = scope }) ss ps
arguments_same g w n scope no_sorts ps = refl
arguments_same g w n scope (next_sort s ss) no_patterns = refl
arguments_same g w n scope (next_sort s ss) (next_pattern p ps) = ap (earlier (first_fault g (argument_at (record { wanted = None; depth = n; scope = scope }) s) p)) (arguments_same g w n (scope ++ free_variables p) ss ps)

node_by_itself : (g : KoreSignature) (s : KoreSort) (p : KorePattern) → fault_at g (a_part s) p ≡ None → fault_at g the_top p ≡ None
node_by_itself g s p h = without_third (sort_fault g p) (symbol_fault g p) (difference (Some s) (own_sort g p)) (others g p) h

verifies_as : (g : KoreSignature) (s : KoreSort) (p : KorePattern) → first_fault g (a_part s) p ≡ None → fault_at g (a_part s) p ≡ None → first_fault g the_top p ≡ None → VerifiesAs g p s
verifies_as g s p h at by_itself = (by_itself, has_its_sort g (a_part s) s p h (third_nothing (sort_fault g p) (symbol_fault g p) (difference (Some s) (own_sort g p)) (others g p) at))

pub verifies : (g : KoreSignature) (s : KoreSort) (p : KorePattern) → is_term p ≡ true → first_fault g (a_part s) p ≡ None → VerifiesAs g p s
verifies g s (variable x t) e h = verifies_as g s (variable x t) h h (node_by_itself g s (variable x t) h)
verifies g s (literal t x) e h = verifies_as g s (literal t x) h h (node_by_itself g s (literal t x) h)
verifies g s (application f ss ps) e h =
    let p = application f ss ps in
    let node : fault_at g (a_part s) p ≡ None = nothing_earlier (fault_at g (a_part s) p) (arguments_fault g (a_part s) (argument_sorts g f ss) ps) h in
    let rest : arguments_fault g (a_part s) (argument_sorts g f ss) ps ≡ None = nothing_later (fault_at g (a_part s) p) (arguments_fault g (a_part s) (argument_sorts g f ss) ps) h in
    verifies_as g s p h node (both_nothing (fault_at g the_top p) (arguments_fault g the_top (argument_sorts g f ss) ps) (node_by_itself g s p node) (sym (arguments_same g (Some s) 1 [] (argument_sorts g f ss) ps) ∙ rest))
verifies g s (set_variable x t) e h = absurd (cc)
verifies g s (string_literal t) e h = absurd (cc)
verifies g s (top t) e h = absurd (cc)
verifies g s (bottom t) e h = absurd (cc)
verifies g s (negation t p) e h = absurd (cc)
verifies g s (next t p) e h = absurd (cc)
verifies g s (conjunction t ps) e h = absurd (cc)
verifies g s (disjunction t ps) e h = absurd (cc)
verifies g s (implication t p q) e h = absurd (cc)
verifies g s (equivalence t p q) e h = absurd (cc)
verifies g s (rewriting t p q) e h = absurd (cc)
verifies g s (exists t x u p) e h = absurd (cc)
verifies g s (forall t x u p) e h = absurd (cc)
verifies g s (ceil a t p) e h = absurd (cc)
verifies g s (floor a t p) e h = absurd (cc)
verifies g s (equals a t p q) e h = absurd (cc)
verifies g s (membership a t p q) e h = absurd (cc)
verifies g s (mu x t p) e h = absurd (cc)
verifies g s (nu x t p) e h = absurd (cc)

-- ---- ground terms

and_first : (a b : Bool) → (a && b) ≡ true → a ≡ true
and_first true b h = refl
and_first false b h = absurd (cc)

and_second : (a b : Bool) → (a && b) ≡ true → b ≡ true
and_second true b h = h
and_second false b h = absurd (cc)

none_there : (vs : List SortedName) → has_none vs ≡ true → vs ≡ []
none_there [] h = refl
none_there (v ∷ vs) h = absurd (cc)

pub ground_is_term : (p : KorePattern) → is_ground p ≡ true → is_term p ≡ true
ground_is_term p h = and_first (is_term p) (has_none (free_variables p)) h

pub ground_is_closed : (p : KorePattern) → is_ground p ≡ true → free_variables p ≡ []
ground_is_closed p h = none_there (free_variables p) (and_second (is_term p) (has_none (free_variables p)) h)

-- ---- foreign symbols

no_first : (xs ys : List Text) → first_member (xs ++ ys) ≡ None → (first_member xs ≡ None) × (first_member ys ≡ None)
no_first [] ys h = (refl, h)
no_first (x ∷ xs) ys h = absurd (cc)

known_in_both : (g : KoreSignature) (s : KoreSort) (p q : KorePattern) → first_foreign g (implication s p q) ≡ None → (first_foreign g p ≡ None) × (first_foreign g q ≡ None)
known_in_both g s p q h = no_first (filter_map (foreign_name g) (subpatterns p)) (filter_map (foreign_name g) (subpatterns q)) (ap first_member (sym (filter_map-append (foreign_name g) (subpatterns p) (subpatterns q))) ∙ h)

-- ---- the sides

pub left_is_ground : (g : KoreSignature) (c : ClaimSides) → first_fault g the_top (bare_claim c) ≡ None → first_foreign g (bare_claim c) ≡ None → is_ground c.left ≡ true → IsGroundAt g c.sort c.left
left_is_ground g c h f l =
    let node = fault_at g the_top (bare_claim c) in
    let left_place = part_at the_top c.sort in
    let on_left = first_fault g left_place c.left in
    let on_right = first_fault g (after c.left left_place) c.right in
    let left_none : first_fault g (a_part c.sort) c.left ≡ None = nothing_earlier on_left (earlier on_right None) (nothing_later node (earlier on_left (earlier on_right None)) h) in
    record { ground = l; verified = verifies g c.sort c.left (ground_is_term c.left l) left_none; known = (known_in_both g c.sort c.left c.right f).0 }

pub right_is_ground : (g : KoreSignature) (c : ClaimSides) → first_fault g the_top (bare_claim c) ≡ None → first_foreign g (bare_claim c) ≡ None → is_ground c.left ≡ true → is_ground c.right ≡ true → IsGroundAt g c.sort c.right
right_is_ground g c h f l r =
    let node = fault_at g the_top (bare_claim c) in
    let left_place = part_at the_top c.sort in
    let on_left = first_fault g left_place c.left in
    let on_right = first_fault g (after c.left left_place) c.right in
    let right_there : on_right ≡ None = nothing_earlier on_right None (nothing_later on_left (earlier on_right None) (nothing_later node (earlier on_left (earlier on_right None)) h)) in
    let right_none : first_fault g (a_part c.sort) c.right ≡ None = subst (λ vs. first_fault g (record { wanted = Some c.sort; depth = 1; scope = vs }) c.right ≡ None) (ground_is_closed c.left l) right_there in
    record { ground = r; verified = verifies g c.sort c.right (ground_is_term c.right r) right_none; known = (known_in_both g c.sort c.left c.right f).1 }
