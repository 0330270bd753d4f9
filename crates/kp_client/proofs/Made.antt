-- What calls do to what a link tells, one after another.
use Rattle.std.proofs.Common.{◌≡◌, refl, sym, ◌∙◌, ap, ℕ, zero, suc, ◌≤◌, inl, inr, List, [], ◌∷◌, ◌++◌, map, length, drop, slice_get, Option, Some, None, option_map, append_assoc, arith}
use Rattle.std.specs.List.{AllByRecursion}
use Rattle.kp_io.specs.Outside.{Rose}
use Rattle.kp_client.specs.Links.{Exchange, LinkState, Makes}
use Rattle.kp_client.specs.Script.{script_state}
use Rattle.kp_client.specs.View.{exchanges_view}
use Rattle.kp_client.specs.declared.script.ScriptLink.{ScriptLink}
use Rattle.kp_client.specs.declared.script.Spoken.{Spoken}

append_none : (es : List Exchange) → es ++ [] ≡ es
append_none [] = refl
append_none (e ∷ es) = ap (λ l. e ∷ l) (append_none es)

told_none : (o : Option (List Exchange)) → o ≡ option_map (λ earlier. earlier ++ []) o
told_none None = refl
told_none (Some es) = ap Some (sym (append_none es))

given_none : (o : Option (List (List ℕ))) → o ≡ option_map (λ later. later) o
given_none None = refl
given_none (Some ls) = refl

-- a link that isn't asked
pub makes_none : (a : LinkState) → Makes a a []
makes_none a = record { keeps = λ e m. m; exchanges = told_none a.exchanges; replies = given_none a.replies; faults = omega arith; met = tt }

told_more : (o : Option (List Exchange)) (es fs : List Exchange) → option_map (λ earlier. earlier ++ fs) (option_map (λ earlier. earlier ++ es) o) ≡ option_map (λ earlier. earlier ++ (es ++ fs)) o
told_more None es fs = refl
told_more (Some old) es fs = ap Some (append_assoc old es fs)

replies_append : (es fs : List Exchange) (later : List (List ℕ)) → map (λ e. e.reply) es ++ (map (λ e. e.reply) fs ++ later) ≡ map (λ e. e.reply) (es ++ fs) ++ later
replies_append [] fs later = refl
replies_append (e ∷ es) fs later = ap (λ l. e.reply ∷ l) (replies_append es fs later)

given_more : (o : Option (List (List ℕ))) (es fs : List Exchange) → option_map (λ later. map (λ e. e.reply) es ++ later) (option_map (λ later. map (λ e. e.reply) fs ++ later) o) ≡ option_map (λ later. map (λ e. e.reply) (es ++ fs) ++ later) o
given_more None es fs = refl
given_more (Some later) es fs = ap Some (replies_append es fs later)

pub all_append : (P : Exchange → Type 0) (es fs : List Exchange) → AllByRecursion P es → AllByRecursion P fs → AllByRecursion P (es ++ fs)
all_append P [] fs a b = b
all_append P (e ∷ es) fs a b = (a.0, all_append P es fs a.1 b)

pub all_into : (P Q : Exchange → Type 0) → ((e : Exchange) → P e → Q e) → (es : List Exchange) → AllByRecursion P es → AllByRecursion Q es
all_into P Q into [] a = tt
all_into P Q into (e ∷ es) a = (into e a.0, all_into P Q into es a.1)

pub all_front : (P : Exchange → Type 0) (es fs : List Exchange) → AllByRecursion P (es ++ fs) → AllByRecursion P es
all_front P [] fs a = tt
all_front P (e ∷ es) fs a = (a.0, all_front P es fs a.1)

pub all_back : (P : Exchange → Type 0) (es fs : List Exchange) → AllByRecursion P (es ++ fs) → AllByRecursion P fs
all_back P [] fs a = a
all_back P (e ∷ es) fs a = all_back P es fs a.1

-- one call behind another
pub makes_more : (a b c : LinkState) (es fs : List Exchange) → Makes a b es → Makes b c fs → Makes a c (es ++ fs)
makes_more a b c es fs m n = record {
  keeps = λ e h. m.keeps e (n.keeps e h);
  exchanges = n.exchanges ∙ ap (option_map (λ earlier. earlier ++ fs)) m.exchanges ∙ told_more a.exchanges es fs;
  replies = m.replies ∙ ap (option_map (λ later. map (λ e. e.reply) es ++ later)) n.replies ∙ given_more c.replies es fs;
  faults = omega (arith, m.faults, n.faults);
  met = all_append a.meets es fs m.met (all_into b.meets a.meets m.keeps fs n.met);
}

-- a count that rose after it hadn't fallen
pub rose_after : (a b c : ℕ) → a ≤ b → Rose b c → Rose a c
rose_after a b c l (inl r) = inl (omega arith)
rose_after a b c l (inr r) = inr r

pub rose_from : (a b c : LinkState) (es : List Exchange) → Makes a b es → Rose b.faults c.faults → Rose a.faults c.faults
rose_from a b c es m r = rose_after a.faults b.faults c.faults m.faults r

-- ---- a link in memory

behind : (lines : List (List ℕ)) (n : ℕ) (line : List ℕ) → slice_get lines n ≡ Some line → drop n lines ≡ line ∷ drop (suc n) lines
behind [] n line h = absurd (cc)
behind (l ∷ ls) zero line h = ap (λ x. x ∷ ls) (cc)
behind (l ∷ ls) (suc n) line h = behind ls n line h

nothing_behind : (lines : List (List ℕ)) (n : ℕ) → slice_get lines n ≡ None → drop n lines ≡ []
nothing_behind [] zero h = refl
nothing_behind [] (suc n) h = refl
nothing_behind (l ∷ ls) zero h = absurd (cc)
nothing_behind (l ∷ ls) (suc n) h = nothing_behind ls n h

length_more : (xs ys : List Spoken) (e : Exchange) → exchanges_view ys ≡ exchanges_view xs ++ e ∷ [] → length ys ≡ suc (length xs)
length_more [] [] e h = absurd (cc)
length_more [] (y ∷ []) e h = refl
length_more [] (y ∷ z ∷ zs) e h = absurd (cc)
length_more (x ∷ xs) [] e h = absurd (cc)
length_more (x ∷ xs) (y ∷ ys) e h = ap suc (length_more xs ys e (cc))

length_same : (xs ys : List Spoken) → exchanges_view ys ≡ exchanges_view xs → length ys ≡ length xs
length_same [] [] h = refl
length_same [] (y ∷ ys) h = absurd (cc)
length_same (x ∷ xs) [] h = absurd (cc)
length_same (x ∷ xs) (y ∷ ys) h = ap suc (length_same xs ys (cc))

abbrev lines_of : ScriptLink → List (List ℕ)
lines_of s = map (λ line. line.items) s.script.items

-- one more exchange, by the script's next line
pub asked_next : (old new : ScriptLink) (frame line : List ℕ) → new.script ≡ old.script →
    exchanges_view new.spoken.items ≡ exchanges_view old.spoken.items ++ record { frame = frame; reply = line } ∷ [] →
    slice_get (lines_of old) (length old.spoken.items) ≡ Some line → old.faults ≤ new.faults →
    Makes (script_state old) (script_state new) (record { frame = frame; reply = line } ∷ [])
asked_next old new frame line same more at l = record {
  keeps = λ e m. m;
  exchanges = ap Some more;
  replies = ap Some (
      behind (lines_of old) (length old.spoken.items) line at
      ∙ ap (λ n. line ∷ drop n (lines_of old)) (sym (length_more old.spoken.items new.spoken.items _ more))
      ∙ ap (λ script. line ∷ drop (length new.spoken.items) (map (λ l. l.items) script.items)) (sym same)
      );
  faults = l;
  met = (tt, tt);
}

-- and none
pub asked_none : (old new : ScriptLink) → new.script ≡ old.script → exchanges_view new.spoken.items ≡ exchanges_view old.spoken.items →
    old.faults ≤ new.faults → Makes (script_state old) (script_state new) []
asked_none old new same kept l = record {
  keeps = λ e m. m;
  exchanges = ap Some (kept ∙ sym (append_none _));
  replies = ap Some (
      ap (λ n. drop n (lines_of old)) (sym (length_same old.spoken.items new.spoken.items kept))
      ∙ ap (λ script. drop (length new.spoken.items) (map (λ l. l.items) script.items)) (sym same)
      );
  faults = l;
  met = tt;
}

-- none is left where there is no next line
pub none_left : (s : ScriptLink) (later : List (List ℕ)) → Some (drop (length s.spoken.items) (lines_of s)) ≡ Some later → slice_get (lines_of s) (length s.spoken.items) ≡ None → later ≡ []
none_left s later same past = let is : later ≡ drop (length s.spoken.items) (lines_of s) = cc in is ∙ nothing_behind (lines_of s) (length s.spoken.items) past
