-- What each head of a sort says is what all of them say.
use Rattle.std.proofs.Common.{◌≡◌, refl, sym, ap, ap₂, ◌∙◌, ℕ, suc, ◌<◌, ◌≤◌, Bool, true, false, not, ◌&&◌, List, [], ◌∷◌, ◌++◌, map, Option, Some, None}
use Rattle.std.specs.Prelude.{if◌then◌else◌}
use Rattle.std.specs.Bool.{beq}
use Rattle.std.specs.List.{filter, list_all}
use Rattle.kp_kore.specs.Syntax.{KoreSort, SymbolDeclaration}
use Rattle.kp_kore.specs.Signature.{KoreSignature, Head, integers, booleans, tokens, constructor_of, is_head, possible_heads, heads_of}
use Rattle.kp_symbolic.specs.States.{HeadTest}
use Rattle.kp_symbolic.specs.Heads.{passes_head, answer_of, head_answer}
use Rattle.kp_formulas.specs.Answers.{agrees, all_agree}

-- ---- a sort's heads in three parts

abbrev lower_heads : List (KoreSort × KoreSort) → List Head
lower_heads ps = map tokens (map (λ p. p.0) ps)

abbrev made_heads : List SymbolDeclaration → List Head
made_heads ds = map (λ d. constructor_of d.name) ds

abbrev first_heads : KoreSort → List Head
first_heads s = integers ∷ booleans ∷ tokens s ∷ []

both_parts : (a b c : Bool) → a && (b && c) ≡ (a && b) && c
both_parts true b c = refl
both_parts false b c = refl

agree_in_both : (g : KoreSignature) (s : KoreSort) (test : HeadTest) (w : Bool) (hs ks : List Head) → all_agree g s test w (hs ++ ks) ≡ (all_agree g s test w hs && all_agree g s test w ks)
agree_in_both g s test w [] ks = refl
agree_in_both g s test w (h ∷ hs) ks = ap (λ b. agrees g s test w h && b) (agree_in_both g s test w hs ks) ∙ both_parts (agrees g s test w h) (all_agree g s test w hs) (all_agree g s test w ks)

in_parts : (g : KoreSignature) (s : KoreSort) (test : HeadTest) (w : Bool) → all_agree g s test w (possible_heads g s)
    ≡ (all_agree g s test w (first_heads s) && (all_agree g s test w (lower_heads g.subsorts) && all_agree g s test w (made_heads g.symbols)))
in_parts g s test w = agree_in_both g s test w (first_heads s) (lower_heads g.subsorts ++ made_heads g.symbols)
    ∙ ap (λ b. all_agree g s test w (first_heads s) && b) (agree_in_both g s test w (lower_heads g.subsorts) (made_heads g.symbols))

first_no : (a b : Bool) → false ≡ a → false ≡ (a && b)
first_no true b e = absurd (cc)
first_no false b e = refl

second_no : (a b c : Bool) → true ≡ a → false ≡ b → false ≡ (a && (b && c))
second_no true true c e d = absurd (cc)
second_no true false c e d = refl
second_no false b c e d = absurd (cc)

third_left : (a b c d : Bool) → true ≡ a → true ≡ b → d ≡ c → d ≡ (a && (b && c))
third_left true true c d e k h = h
third_left true false c d e k h = absurd (cc)
third_left false b c d e k h = absurd (cc)

pub first_refused : (g : KoreSignature) (s : KoreSort) (test : HeadTest) (w : Bool) → false ≡ all_agree g s test w (first_heads s) → false ≡ all_agree g s test w (possible_heads g s)
first_refused g s test w e = first_no (all_agree g s test w (first_heads s)) _ e ∙ sym (in_parts g s test w)

pub lower_refused : (g : KoreSignature) (s : KoreSort) (test : HeadTest) (w : Bool) (ps : List (KoreSort × KoreSort)) → ps ≡ g.subsorts → true ≡ all_agree g s test w (first_heads s) → false ≡ all_agree g s test w (lower_heads ps) → false ≡ all_agree g s test w (possible_heads g s)
lower_refused g s test w ps is e d = second_no (all_agree g s test w (first_heads s)) (all_agree g s test w (lower_heads g.subsorts)) _ e (d ∙ ap (λ qs. all_agree g s test w (lower_heads qs)) is) ∙ sym (in_parts g s test w)

pub rest_answers : (g : KoreSignature) (s : KoreSort) (test : HeadTest) (w b : Bool) (ps : List (KoreSort × KoreSort)) (ds : List SymbolDeclaration) → ps ≡ g.subsorts → ds ≡ g.symbols →
    true ≡ all_agree g s test w (first_heads s) → true ≡ all_agree g s test w (lower_heads ps) → b ≡ all_agree g s test w (made_heads ds) → b ≡ all_agree g s test w (possible_heads g s)
rest_answers g s test w b ps ds is are e d h =
    third_left (all_agree g s test w (first_heads s)) (all_agree g s test w (lower_heads g.subsorts)) (all_agree g s test w (made_heads g.symbols)) b
    e (d ∙ ap (λ qs. all_agree g s test w (lower_heads qs)) is) (h ∙ ap (λ qs. all_agree g s test w (made_heads qs)) are)
    ∙ sym (in_parts g s test w)

-- ---- all pass, or none does

is_yes : (b : Bool) → beq b true ≡ b
is_yes true = refl
is_yes false = refl

is_no : (b : Bool) → beq b false ≡ not b
is_no true = refl
is_no false = refl

all_pass_by : (g : KoreSignature) (s : KoreSort) (test : HeadTest) (hs : List Head) → all_agree g s test true hs ≡ list_all (passes_head g test) (filter (is_head g s) hs)
all_pass_by g s test [] = refl
all_pass_by g s test (h ∷ hs) = by (is_head g s h) (all_pass_by g s test hs)
  where
    by : (b : Bool) → all_agree g s test true hs ≡ list_all (passes_head g test) (filter (is_head g s) hs) →
        ((if b then beq (passes_head g test h) true else true) && all_agree g s test true hs) ≡ list_all (passes_head g test) (if b then h ∷ filter (is_head g s) hs else filter (is_head g s) hs)
    by true e = ap₂ (λ a c. a && c) (is_yes (passes_head g test h)) e
    by false e = e

none_pass_by : (g : KoreSignature) (s : KoreSort) (test : HeadTest) (hs : List Head) → all_agree g s test false hs ≡ list_all (λ h. not (passes_head g test h)) (filter (is_head g s) hs)
none_pass_by g s test [] = refl
none_pass_by g s test (h ∷ hs) = by (is_head g s h) (none_pass_by g s test hs)
  where
    by : (b : Bool) → all_agree g s test false hs ≡ list_all (λ k. not (passes_head g test k)) (filter (is_head g s) hs) →
        ((if b then beq (passes_head g test h) false else true) && all_agree g s test false hs) ≡ list_all (λ k. not (passes_head g test k)) (if b then h ∷ filter (is_head g s) hs else filter (is_head g s) hs)
    by true e = ap₂ (λ a c. a && c) (is_no (passes_head g test h)) e
    by false e = e

answered : (g : KoreSignature) (s : KoreSort) (test : HeadTest) → answer_of (all_agree g s test true (possible_heads g s)) (all_agree g s test false (possible_heads g s)) ≡ head_answer g s test
answered g s test = ap₂ answer_of (all_pass_by g s test (possible_heads g s)) (none_pass_by g s test (possible_heads g s))

yes_of : (a b : Bool) → true ≡ a → Some true ≡ answer_of a b
yes_of true b e = refl
yes_of false b e = absurd (cc)

no_of : (a b : Bool) → false ≡ a → true ≡ b → Some false ≡ answer_of a b
no_of true b e d = absurd (cc)
no_of false true e d = refl
no_of false false e d = absurd (cc)

none_of : (a b : Bool) → false ≡ a → false ≡ b → None ≡ answer_of a b
none_of true b e d = absurd (cc)
none_of false true e d = absurd (cc)
none_of false false e d = refl

pub all_pass : (g : KoreSignature) (s : KoreSort) (test : HeadTest) → true ≡ all_agree g s test true (possible_heads g s) → Some true ≡ head_answer g s test
all_pass g s test e = yes_of (all_agree g s test true (possible_heads g s)) (all_agree g s test false (possible_heads g s)) e ∙ answered g s test

pub none_passes : (g : KoreSignature) (s : KoreSort) (test : HeadTest) → false ≡ all_agree g s test true (possible_heads g s) → true ≡ all_agree g s test false (possible_heads g s) → Some false ≡ head_answer g s test
none_passes g s test e d = no_of (all_agree g s test true (possible_heads g s)) (all_agree g s test false (possible_heads g s)) e d ∙ answered g s test

pub some_pass : (g : KoreSignature) (s : KoreSort) (test : HeadTest) → false ≡ all_agree g s test true (possible_heads g s) → false ≡ all_agree g s test false (possible_heads g s) → None ≡ head_answer g s test
some_pass g s test e d = none_of (all_agree g s test true (possible_heads g s)) (all_agree g s test false (possible_heads g s)) e d ∙ answered g s test
