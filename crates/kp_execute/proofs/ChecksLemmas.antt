-- What the tests of ids, of calls and of added literals tell.
use Rattle.std.proofs.Common.{◌≡◌, refl, sym, ap, subst, ◌∙◌, ℤ, ℕ, ◌+◌, ◌<◌, ◌≤◌, Bool, true, false, not, ◌&&◌, ◌||◌, List, [], ◌∷◌, ◌++◌, length, take, drop, get_or, string_bytes}
use Rattle.std.specs.Prelude.{IsTrue, String, Option, Some, None, is_some}
use Rattle.std.specs.List.{AllByRecursion, AllZip, list_any}
use Rattle.std.specs.Option.{option_map}
use Rattle.std.specs.Str.{bytes_eq}
use Rattle.std.specs.declared.alloc.Global.{Global}
use Rattle.std.proofs.lemmas.List.{append_assoc, map_more, drop_more, drop_all}
use Rattle.std.proofs.lemmas.List.Folds.{list_any-append}
use Rattle.std.proofs.lemmas.Slice.Eq.{bytes_eq-Decides}
use Rattle.kp_kore.specs.Syntax.{Text, KorePattern}
use Rattle.kp_kore.specs.Signature.{KoreSignature, meaning_of}
use Rattle.kp_kore.specs.Value.{whole, no_values, next_value}
use Rattle.kp_kore.specs.Forms.{wholes}
use Rattle.kp_kore.specs.Foreign.{none_within, has_foreign_head}
use Rattle.kp_kore.specs.Instance.{applied, instance, is_predicate}
use Rattle.kp_kore.specs.Replies.{is_wide_value}
use Rattle.kp_kore.specs.Rules.{RewriteRule}
use Rattle.kp_kore.proofs.InstanceLemmas.{first_true, second_true}
use Rattle.kp_kore.proofs.ListLemmas.{all_map}
use Rattle.kp_signature.specs.Places.{the_top}
use Rattle.kp_signature.specs.Verify.{first_fault}
use Rattle.kp_compile.specs.Spelled.{first_foreign}
use Rattle.kp_compile.proofs.GroundStates.{no_foreign}
use Rattle.kp_symbolic_laws.specs.Safe.{IsSoundQuote}
use Rattle.kp_symbolic_laws.proofs.Sound.{place_sound}
use Rattle.kp_rules.specs.Bodies.{IsCodeOf}
use Rattle.kp_rules.specs.declared.rule.Rule.{Rule}
use Rattle.kp_case_laws.specs.NextStates.{HaveOwnIds}
use Rattle.kp_execute.specs.Checks.{are_new, rule_ids, both_of, IsAlways, IsWideCall}

-- ---- ids

abbrev pub id_of : Rule → Text
id_of r = string_bytes r.id.value

-- where the rules from here on are asked about, behind those before
abbrev pub IsLeft : List Text → List Rule → ℕ → Type 0
IsLeft before rs i = are_new (before ++ rule_ids (take i rs)) (rule_ids (drop i rs)) ≡ are_new before (rule_ids rs)

pub one_more : (before : List Text) (rs : List Rule) (i : ℕ) (r : Rule) → i < length rs → r ≡ get_or rs i r →
    (before ++ rule_ids (take i rs)) ++ id_of r ∷ [] ≡ before ++ rule_ids (take (i + 1) rs)
one_more before rs i r lt is =
    append_assoc before (rule_ids (take i rs)) (id_of r ∷ [])
    ∙ ap (λ l. before ++ l) (ap (λ y. rule_ids (take i rs) ++ id_of y ∷ []) is ∙ sym (map_more id_of rs i r lt))

-- the rule here, and those behind it
opened : (before : List Text) (rs : List Rule) (i : ℕ) (r : Rule) → i < length rs → r ≡ get_or rs i r → IsLeft before rs i →
    are_new (before ++ rule_ids (take i rs)) (id_of r ∷ rule_ids (drop (i + 1) rs)) ≡ are_new before (rule_ids rs)
opened before rs i r lt is left =
    ap (λ x. are_new (before ++ rule_ids (take i rs)) (id_of x ∷ rule_ids (drop (i + 1) rs))) is
    ∙ sym (ap (λ l. are_new (before ++ rule_ids (take i rs)) (rule_ids l)) (drop_more rs i r lt)) ∙ left

pub id_met : (before : List Text) (rs : List Rule) (i : ℕ) (r : Rule) → i < length rs → r ≡ get_or rs i r →
    list_any (bytes_eq (id_of r)) (before ++ rule_ids (take i rs)) ≡ true → IsLeft before rs i → false ≡ are_new before (rule_ids rs)
id_met before rs i r lt is met left =
    let known = before ++ rule_ids (take i rs) in
    sym (ap (λ b. not b && are_new (known ++ id_of r ∷ []) (rule_ids (drop (i + 1) rs))) met) ∙ opened before rs i r lt is left

pub id_new : (before : List Text) (rs : List Rule) (i : ℕ) (r : Rule) → i < length rs → r ≡ get_or rs i r →
    list_any (bytes_eq (id_of r)) (before ++ rule_ids (take i rs)) ≡ false → IsLeft before rs i → IsLeft before rs (i + 1)
id_new before rs i r lt is new left =
    let known = before ++ rule_ids (take i rs) in
    let later = rule_ids (drop (i + 1) rs) in
    ap (λ l. are_new l later) (sym (one_more before rs i r lt is))
    ∙ sym (ap (λ b. not b && are_new (known ++ id_of r ∷ []) later) new) ∙ opened before rs i r lt is left

pub all_new : (before : List Text) (rs : List Rule) (i : ℕ) → length rs ≤ i → IsLeft before rs i → true ≡ are_new before (rule_ids rs)
all_new before rs i le left = sym (ap (λ l. are_new (before ++ rule_ids (take i rs)) (rule_ids l)) (drop_all i rs le)) ∙ left

not_true : (b : Bool) → not b ≡ true → b ≡ false
not_true true e = absurd (cc)
not_true false e = refl

first_false : (a b : Bool) → (a || b) ≡ false → a ≡ false
first_false true b e = e
first_false false b e = refl

second_false : (a b : Bool) → (a || b) ≡ false → b ≡ false
second_false true b e = absurd (cc)
second_false false b e = e

-- neither one of the first nor this one
abbrev IsOutside : List Text → RewriteRule → Type 0
IsOutside before q = list_any (bytes_eq q.id) before ≡ false

outside_both : (before : List Text) (x : Text) (q : RewriteRule) → IsOutside (before ++ x ∷ []) q → IsOutside before q × (bytes_eq q.id x ≡ false)
outside_both before x q e =
    let both = sym (list_any-append (bytes_eq q.id) before (x ∷ [])) ∙ e in
    (first_false (list_any (bytes_eq q.id) before) (bytes_eq q.id x || false) both, first_false (bytes_eq q.id x) false (second_false (list_any (bytes_eq q.id) before) (bytes_eq q.id x || false) both))

not_same : (x y z : Text) → bytes_eq x y ≡ false → y ≡ z → ¬ (x ≡ z)
not_same x y z e is same = absurd (let told = (bytes_eq-Decides x y).1 (same ∙ sym is) in cc)

own_from : (g : KoreSignature) (before : List Text) (ts : List RewriteRule) (rs : List Rule) → AllZip (IsCodeOf g) ts rs → are_new before (rule_ids rs) ≡ true → AllByRecursion (IsOutside before) ts × HaveOwnIds ts
own_from g before [] [] z e = (tt, tt)
own_from g before [] (r ∷ rs) z e = absurd z
own_from g before (t ∷ ts) [] z e = absurd z
own_from g before (t ∷ ts) (r ∷ rs) z e =
    let x = id_of r in
    let here : list_any (bytes_eq x) before ≡ false = not_true (list_any (bytes_eq x) before) (first_true (not (list_any (bytes_eq x) before)) (are_new (before ++ x ∷ []) (rule_ids rs)) e) in
    let on = own_from g (before ++ x ∷ []) ts rs z.1 (second_true (not (list_any (bytes_eq x) before)) (are_new (before ++ x ∷ []) (rule_ids rs)) e) in (
      (subst (λ y. list_any (bytes_eq y) before ≡ false) z.0.id here, all_map (IsOutside (before ++ x ∷ [])) (IsOutside before) ts (λ q h. (outside_both before x q h).0) on.0),
      (all_map (IsOutside (before ++ x ∷ [])) (λ q. ¬ (q.id ≡ t.id)) ts (λ q h. not_same q.id x t.id (outside_both before x q h).1 z.0.id) on.0, on.1),
    )

pub own_ids : (g : KoreSignature) (ts : List RewriteRule) (rs : List Rule) → AllZip (IsCodeOf g) ts rs → are_new [] (rule_ids rs) ≡ true → HaveOwnIds ts
own_ids g ts rs z e = (own_from g [] ts rs z e).1

-- ---- calls

pub wide_of_two : (g : KoreSignature) (f : Text) (p q : KorePattern) (m n : ℤ) → IsAlways g p m → IsAlways g q n → IsTrue (is_wide_value (applied (meaning_of g f) f (wholes m n))) → IsWideCall g f (both_of p q)
wide_of_two g f p q m n left right wide v =
    subst (λ u. IsTrue (is_wide_value (applied (meaning_of g f) f (next_value u (next_value (instance g v q) no_values))))) (sym (left v))
    (subst (λ u. IsTrue (is_wide_value (applied (meaning_of g f) f (next_value (whole m) (next_value u no_values))))) (sym (right v)) wide)

-- ---- literals

pub sound_quote : (g : KoreSignature) (p : KorePattern) → is_predicate p ≡ true → first_fault g the_top p ≡ None → none_within (has_foreign_head g) p ≡ true → IsSoundQuote g p
sound_quote g p b e m = (b, place_sound g the_top p e m b)

pub none_foreign : (first : Option (String Global)) (g : KoreSignature) (p : KorePattern) → option_map string_bytes first ≡ first_foreign g p → is_some first ≡ false → none_within (has_foreign_head g) p ≡ true
none_foreign None g p is none = no_foreign g p (sym is)
none_foreign (Some name) g p is none = absurd (cc)
