-- The first fault of a claims file, from its faults as modules alone and as a definition: a definition begins with an
-- opening bracket, modules with their keyword, so that from the first token on a text goes on as one of them at most.
use Rattle.std.proofs.Common.{◌≡◌, refl, sym, ap, subst, ◌∙◌, ℕ, suc, ◌<◌, ◌≤◌, Bool, true, false, cond, List, [], ◌∷◌, ◌++◌, length, take, arith, rules, tests, nat_lt, codes, inl, inr, ◌⊎◌, min}
use Rattle.std.proofs.lemmas.List.{length-take}
use Rattle.std.specs.Str.Lossy.{utf8_valid_len}
use Rattle.kp_text.specs.Grammar.{Leveled}
use Rattle.kp_text.specs.Spelling.{tokens_of, IsShallow, IsModulesText, IsDefinitionText, Begins, BeginsShallow, TokenFault, FirstFault, offset, IsFaultOf}
use Rattle.kp_text.specs.Tokens.{KoreToken, identifier, string_token, mark, Lexemes, finished, lexeme, broken, broken_string, lexemes, utf8_front, utf8_tail}
use Rattle.kp_text.specs.declared.fault.FaultKind.{FaultKind}
use Rattle.kp_text.specs.declared.fault.FaultKind.TheVariants as kind
use Rattle.kp_text.specs.declared.fault.TextFault.{TextFault}
use Rattle.kp_claims.specs.Files.{IsFileText, further_fault}
use Rattle.kp_claims.proofs.Falling.{Falling, fault_below, text_falls}

-- ---- the first token

abbrev Starts : KoreToken → List Leveled → Type 0
Starts t [] = ⊥
Starts t (l ∷ ls) = (l.token ≡ t) × (l.level ≡ 0)

-- each of the texts begins with this token
abbrev Open : (List Leveled → Type 0) → KoreToken → Type 0
Open Texts t = (ls : List Leveled) → Texts ls → Starts t ls

word : KoreToken
word = identifier (codes "module")

bracket : KoreToken
bracket = mark 91

modules_open : Open IsModulesText word
unfolding word
modules_open ls x = subst (Starts word) x.1 (refl, refl)

definitions_open : Open IsDefinitionText bracket
unfolding bracket
definitions_open ls x = subst (Starts bracket) x.1 (refl, refl)

apart : word ≡ bracket → ⊥
unfolding word bracket
apart e = cc

no_string : (t : List ℕ) → string_token t ≡ word → ⊥
unfolding word
no_string t e = cc

no_string_either : (t : List ℕ) → string_token t ≡ bracket → ⊥
unfolding bracket
no_string_either t e = cc

start_is : (ls : List Leveled) (t u : KoreToken) (more : List KoreToken) → Starts t ls → tokens_of ls ≡ u ∷ more → u ≡ t
start_is [] t u more s e = absurd s
start_is (l ∷ ls) t u more s e = let at : l.token ≡ t = s.0 in cc

opened : (Texts : List Leveled → Type 0) (t u : KoreToken) (us : List KoreToken) → Open Texts t → Begins Texts (u ∷ us) → u ≡ t
opened Texts t u us o b = start_is b.whole t u (us ++ b.more) (o b.whole b.is_text) b.front

-- ---- texts of two kinds

-- texts of a kind among texts of two kinds, the others of which begin with another token than a
pub record IsKind (A B T : List Leveled → Type 0) (a : KoreToken) : Type 1 where
  pub b : KoreToken
  pub into : (ls : List Leveled) → A ls → T ls
  pub out : (ls : List Leveled) → T ls → A ls ⊎ B ls
  pub open_a : Open A a
  pub open_b : Open B b
  pub differ : a ≡ b → ⊥

among : (A B T : List Leveled → Type 0) (a : KoreToken) → IsKind A B T a → (ts : List KoreToken) → Begins A ts → Begins T ts
among A B T a k ts h = record { whole = h.whole; more = h.more; is_text = k.into h.whole h.is_text; front = h.front }

among_shallow : (A B T : List Leveled → Type 0) (a : KoreToken) → IsKind A B T a → (ts : List KoreToken) → BeginsShallow A ts → BeginsShallow T ts
unfolding among
among_shallow A B T a k ts h = record { begins = among A B T a k ts h.begins; shallow = h.shallow }

its_text : (A B T : List Leveled → Type 0) (a : KoreToken) → IsKind A B T a → (us : List KoreToken) (ls : List Leveled) → (more : List KoreToken) → tokens_of ls ≡ a ∷ more → T ls → A ls
its_text A B T a k us ls more e x = elim (k.out ls x) [
  | inl y ↦ y
  | inr y ↦ absurd (k.differ (start_is ls k.b a more (k.open_b ls y) e))
]

its : (A B T : List Leveled → Type 0) (a : KoreToken) → IsKind A B T a → (us : List KoreToken) → Begins T (a ∷ us) → Begins A (a ∷ us)
its A B T a k us h = record { whole = h.whole; more = h.more; is_text = its_text A B T a k us h.whole (us ++ h.more) h.front h.is_text; front = h.front }

its_shallow : (A B T : List Leveled → Type 0) (a : KoreToken) → IsKind A B T a → (us : List KoreToken) → BeginsShallow T (a ∷ us) → BeginsShallow A (a ∷ us)
unfolding its
its_shallow A B T a k us h = record { begins = its A B T a k us h.begins; shallow = h.shallow }

token_fault : (A B T : List Leveled → Type 0) (a : KoreToken) → IsKind A B T a → (us : List KoreToken) (t : KoreToken) (f : FaultKind) → TokenFault A (a ∷ us) t f → TokenFault T (a ∷ us) t f
token_fault A B T a k us t f (inl h) = inl (λ x. h.0 (its A B T a k (us ++ t ∷ []) x), h.1)
token_fault A B T a k us t f (inr h) = inr (among A B T a k (a ∷ (us ++ t ∷ [])) h.0, λ x. h.1 (its_shallow A B T a k (us ++ t ∷ []) x), h.2)

-- from its first token on a text goes on as one of the first kind
goes_on : (A B T : List Leveled → Type 0) (a : KoreToken) → IsKind A B T a → (us : List KoreToken) (l : Lexemes) (left : ℕ) (f : FaultKind) → FirstFault A (a ∷ us) l left f → FirstFault T (a ∷ us) l left f
goes_on A B T a k us finished left f h = (λ x. h.0 (x.0, its_text A B T a k us x.0 us x.2 x.1, x.2), h.1, h.2)
goes_on A B T a k us (broken at found) left f h = h
goes_on A B T a k us (broken_string quote at found) left f (inl h) = inl (h.0, among_shallow A B T a k (a ∷ (us ++ string_token h.0 ∷ [])) h.1, h.2, h.3)
goes_on A B T a k us (broken_string quote at found) left f (inr h) = inr (h.0, token_fault A B T a k us (string_token h.0) f h.1, h.2)
goes_on A B T a k us (lexeme at t rest) left f (inl h) = inl (among_shallow A B T a k (a ∷ (us ++ t ∷ [])) h.0, goes_on A B T a k (us ++ t ∷ []) rest left f h.1)
goes_on A B T a k us (lexeme at t rest) left f (inr h) = inr (token_fault A B T a k us t f h.0, h.1)

-- ---- from the beginning

-- one token that begins a text isn't too deep
shallow_first : (Texts : List Leveled → Type 0) (a t : KoreToken) → Open Texts a → Begins Texts (t ∷ []) → BeginsShallow Texts (t ∷ [])
shallow_first Texts a t o h = record { begins = h; shallow = level_of h.whole (o h.whole h.is_text) }
  where
    level_of : (ls : List Leveled) → Starts a ls → IsShallow (take 1 ls)
    level_of [] s = absurd s
    level_of (l ∷ ls) s = let e : l.level ≡ 0 = s.1 in (omega arith, tt)

-- a first token with which neither kind begins is no fault of depth
plain_fault : (Texts : List Leveled → Type 0) (a t : KoreToken) (f : FaultKind) → Open Texts a → TokenFault Texts [] t f → (Begins Texts (t ∷ []) → ⊥) × (f ≡ kind.Token)
plain_fault Texts a t f o (inl h) = h
plain_fault Texts a t f o (inr h) = absurd (h.1 (shallow_first Texts a t o h.0))

pub record IsLater (n left other : ℕ) : Type 0 where
  pub nearer : left < other
  pub within : other < suc n

-- the fault of the file: both are the same, or the one is it and stands further
pub data Outcome (n : ℕ) (T : List Leveled → Type 0) (l : Lexemes) (left : ℕ) (f : FaultKind) (left2 : ℕ) (g : FaultKind) : Type 0 where
  same : left ≡ left2 → f ≡ g → FirstFault T [] l left f → Outcome n T l left f left2 g
  first : IsLater n left left2 → g ≡ kind.Token → FirstFault T [] l left f → Outcome n T l left f left2 g
  second : IsLater n left2 left → f ≡ kind.Token → FirstFault T [] l left2 g → Outcome n T l left f left2 g

neither_begins : (t : KoreToken) → (Begins IsModulesText (t ∷ []) → ⊥) → (Begins IsDefinitionText (t ∷ []) → ⊥) → Begins IsFileText (t ∷ []) → ⊥
neither_begins t m d h = elim h.is_text [
  | inl x ↦ m (record { whole = h.whole; more = h.more; is_text = x; front = h.front })
  | inr x ↦ d (record { whole = h.whole; more = h.more; is_text = x; front = h.front })
]

as_modules : IsKind IsModulesText IsDefinitionText IsFileText word
as_modules = record { b = bracket; into = λ ls x. inl x; out = λ ls x. x; open_a = modules_open; open_b = definitions_open; differ = apart }

swapped : {X Y : Type 0} → X ⊎ Y → Y ⊎ X
swapped (inl x) = inr x
swapped (inr y) = inl y

as_definition : IsKind IsDefinitionText IsModulesText IsFileText bracket
as_definition = record { b = word; into = λ ls x. inr x; out = λ ls x. swapped x; open_a = definitions_open; open_b = modules_open; differ = λ e. apart (sym e) }

outcome : (n : ℕ) (l : Lexemes) (left : ℕ) (f : FaultKind) (left2 : ℕ) (g : FaultKind) → Falling (suc n) l → FirstFault IsModulesText [] l left f → FirstFault IsDefinitionText [] l left2 g → Outcome n IsFileText l left f left2 g
outcome n finished left f left2 g falls m d = same (m.1 ∙ sym d.1) (m.2 ∙ sym d.2) (λ x. elim x.1 [ inl y ↦ m.0 (x.0, y, x.2) | inr y ↦ d.0 (x.0, y, x.2) ], m.1, m.2)
outcome n (broken at k) left f left2 g falls m d = same (m.0 ∙ sym d.0) (m.1 ∙ sym d.1) m
outcome n (broken_string quote at k) left f left2 g falls (inl m) d = absurd (no_string m.0 (opened IsModulesText word (string_token m.0) [] modules_open m.1.begins))
outcome n (broken_string quote at k) left f left2 g falls (inr m) (inl d) = absurd (no_string_either d.0 (opened IsDefinitionText bracket (string_token d.0) [] definitions_open d.1.begins))
outcome n (broken_string quote at k) left f left2 g falls (inr m) (inr d) =
    let in_modules = plain_fault IsModulesText word (string_token m.0) f modules_open m.1 in
    let in_definition = plain_fault IsDefinitionText bracket (string_token d.0) g definitions_open d.1 in
    let no : Begins IsDefinitionText (string_token m.0 ∷ []) → ⊥ = λ x. no_string_either m.0 (opened IsDefinitionText bracket (string_token m.0) [] definitions_open x) in
    same (m.2 ∙ sym d.2) (in_modules.1 ∙ sym in_definition.1) (inr (m.0, inl (neither_begins (string_token m.0) in_modules.0 no, in_modules.1), m.2))
outcome n (lexeme at t rest) left f left2 g falls (inl m) (inl d) = absurd (apart (sym (opened IsModulesText word t [] modules_open m.0.begins) ∙ opened IsDefinitionText bracket t [] definitions_open d.0.begins))
outcome n (lexeme at t rest) left f left2 g falls (inl m) (inr d) =
    let is : t ≡ word = opened IsModulesText word t [] modules_open m.0.begins in
    let on : FirstFault IsFileText (t ∷ []) rest left f = subst (λ u. FirstFault IsFileText (u ∷ []) rest left f) (sym is) (goes_on IsModulesText IsDefinitionText IsFileText word as_modules [] rest left f (subst (λ u. FirstFault IsModulesText (u ∷ []) rest left f) is m.1)) in
    first (record { nearer = subst (λ k. left < k) (sym d.1) (fault_below IsModulesText (t ∷ []) at rest left f falls.1 m.1); within = subst (λ k. k < suc n) (sym d.1) falls.0 })
    (plain_fault IsDefinitionText bracket t g definitions_open d.0).1
    (inl (among_shallow IsModulesText IsDefinitionText IsFileText word as_modules (t ∷ []) m.0, on))
outcome n (lexeme at t rest) left f left2 g falls (inr m) (inl d) =
    let is : t ≡ bracket = opened IsDefinitionText bracket t [] definitions_open d.0.begins in
    let on : FirstFault IsFileText (t ∷ []) rest left2 g = subst (λ u. FirstFault IsFileText (u ∷ []) rest left2 g) (sym is) (goes_on IsDefinitionText IsModulesText IsFileText bracket as_definition [] rest left2 g (subst (λ u. FirstFault IsDefinitionText (u ∷ []) rest left2 g) is d.1)) in
    second (record { nearer = subst (λ k. left2 < k) (sym m.1) (fault_below IsDefinitionText (t ∷ []) at rest left2 g falls.1 d.1); within = subst (λ k. k < suc n) (sym m.1) falls.0 })
    (plain_fault IsModulesText word t f modules_open m.0).1
    (inl (among_shallow IsDefinitionText IsModulesText IsFileText bracket as_definition (t ∷ []) d.0, on))
outcome n (lexeme at t rest) left f left2 g falls (inr m) (inr d) =
    let in_modules = plain_fault IsModulesText word t f modules_open m.0 in
    let in_definition = plain_fault IsDefinitionText bracket t g definitions_open d.0 in
    same (m.1 ∙ sym d.1) (in_modules.1 ∙ sym in_definition.1) (inr (inl (neither_begins t in_modules.0 in_definition.0, in_modules.1), m.1))

-- ---- offsets

front_short : (bytes : List ℕ) → length (utf8_front bytes) ≤ length bytes
front_short bytes = let e : length (utf8_front bytes) ≡ min (utf8_valid_len bytes) (length bytes) = length-take (utf8_valid_len bytes) bytes in omega arith

-- a fault that is nearer to the end has a greater offset
offset_greater : (bytes : List ℕ) (left other : ℕ) (f : FaultKind) → IsLater (length (utf8_front bytes)) left other → offset bytes other kind.Token < offset bytes left f
offset_greater bytes left other kind.Byte h = omega arith
offset_greater bytes left other kind.Token h = omega arith
offset_greater bytes left other kind.String h = omega arith
offset_greater bytes left other kind.Deep h = omega arith
offset_greater bytes left other kind.End h = omega (arith, front_short bytes)

less : (a b : ℕ) → a < b → nat_lt a b ≡ true
less a b h = search (rules, tests)

not_less : (a b : ℕ) → b ≤ a → nat_lt a b ≡ false
not_less a b h = search (rules, tests)

pub file_fault : (bytes : List ℕ) (m d : TextFault) → IsFaultOf IsModulesText bytes m → IsFaultOf IsDefinitionText bytes d → IsFaultOf IsFileText bytes (further_fault m d)
file_fault bytes m d hm hd = by (outcome (length (utf8_front bytes)) (lexemes bytes) hm.0 m.kind hd.0 d.kind (text_falls (utf8_tail bytes) (utf8_front bytes)) hm.1 hd.1)
  where
    picks : (b : Bool) (x : TextFault) → nat_lt m.at d.at ≡ b → cond b d m ≡ x → further_fault m d ≡ x
    picks b x e h = ap (λ c. cond c d m) e ∙ h

    by : Outcome (length (utf8_front bytes)) IsFileText (lexemes bytes) hm.0 m.kind hd.0 d.kind → IsFaultOf IsFileText bytes (further_fault m d)
    by (same e k f) =
        let ats : m.at ≡ d.at = hm.2 ∙ ap (λ x. offset bytes x m.kind) e ∙ ap (offset bytes hd.0) k ∙ sym hd.2 in
        subst (IsFaultOf IsFileText bytes) (sym (picks false m (not_less m.at d.at (omega arith)) refl)) (hm.0, f, hm.2)
    by (first l k f) =
        let later : offset bytes hd.0 kind.Token < offset bytes hm.0 m.kind = offset_greater bytes hm.0 hd.0 m.kind l in
        let at : d.at ≡ offset bytes hd.0 kind.Token = hd.2 ∙ ap (offset bytes hd.0) k in
        let bt : m.at ≡ offset bytes hm.0 m.kind = hm.2 in
        subst (IsFaultOf IsFileText bytes) (sym (picks false m (not_less m.at d.at (omega arith)) refl)) (hm.0, f, hm.2)
    by (second l k f) =
        let later : offset bytes hm.0 kind.Token < offset bytes hd.0 d.kind = offset_greater bytes hd.0 hm.0 d.kind l in
        let at : m.at ≡ offset bytes hm.0 kind.Token = hm.2 ∙ ap (offset bytes hm.0) k in
        let bt : d.at ≡ offset bytes hd.0 d.kind = hd.2 in
        subst (IsFaultOf IsFileText bytes) (sym (picks true d (less m.at d.at (omega arith)) refl)) (hd.0, f, hd.2)
