-- Places in a text fall: what stands further has fewer bytes left.
use Rattle.std.proofs.Common.{◌≡◌, ℕ, suc, ◌+◌, ◌*◌, ◌-◌, ◌<◌, ◌≤◌, Bool, true, false, ◌||◌, cond, List, [], ◌∷◌, ◌++◌, length, arith, nat_lt, encode_utf8, ◌==◌, inl, inr}
use Rattle.std.specs.Char.{is_ascii_alphabetic, is_digit, digit_value}
use Rattle.std.specs.Str.{all_scalars}
use Rattle.kp_kore.specs.Syntax.{Text}
use Rattle.kp_text.specs.Grammar.{Leveled}
use Rattle.kp_text.specs.Spelling.{FirstFault}
use Rattle.kp_text.specs.Tokens.{KoreToken, identifier, backslashed, string_token, mark, defined_as, Lexemes, finished, lexeme, broken, broken_string, Lexing, between, after_slash, in_line_comment, in_comment, after_star, in_identifier, after_backslash, in_backslashed, after_colon, in_string, after_escape, in_number, is_white, is_identifier_byte, is_mark, begun, in_string_at, escaped_at, digit_at, further, tail_between, tail_in_line, tail_after, tail_kind, at_tail, lexed}
use Rattle.kp_text.specs.declared.fault.FaultKind.{FaultKind}
use Rattle.kp_text.specs.declared.fault.FaultKind.TheVariants as kind
use Rattle.kp_text.specs.declared.tail.Tail.{Tail}
use Rattle.kp_text.specs.declared.tail.Tail.TheVariants.{Whole, Bad, Cut}

abbrev pub Falling : ℕ → Lexemes → Type 0
Falling n finished = 0 < n
Falling n (lexeme at t rest) = (at < n) × Falling at rest
Falling n (broken at k) = at < n
Falling n (broken_string quote at k) = (quote < n) × (at < n)

-- each place is below n, and below those before it
pub record Falls (n : ℕ) (l : Lexemes) : Type 0 where
  pub falling : Falling n l

higher : (n m : ℕ) (l : Lexemes) → Falling n l → n ≤ m → Falling m l
higher n m finished h le = omega arith
higher n m (lexeme at t rest) h le = (omega (arith, h.0), h.1)
higher n m (broken at k) h le = omega arith
higher n m (broken_string quote at k) h le = (omega (arith, h.0), omega (arith, h.1))

pub fault_below : (Texts : List Leveled → Type 0) (ts : List KoreToken) (n : ℕ) (l : Lexemes) (left : ℕ) (k : FaultKind) → Falling n l → FirstFault Texts ts l left k → left < n
fault_below Texts ts n finished left k h f = let e : left ≡ 0 = f.1 in omega arith
fault_below Texts ts n (broken at found) left k h f = let e : left ≡ at = f.0 in omega arith
fault_below Texts ts n (broken_string quote at found) left k h (inl f) = let e : left ≡ at = f.2 in let below : at < n = h.1 in omega arith
fault_below Texts ts n (broken_string quote at found) left k h (inr f) = let e : left ≡ quote = f.2 in let below : quote < n = h.0 in omega arith
fault_below Texts ts n (lexeme at t rest) left k h (inl f) = let below : left < at = fault_below Texts (ts ++ t ∷ []) at rest left k h.1 f.1 in let more : at < n = h.0 in omega arith
fault_below Texts ts n (lexeme at t rest) left k h (inr f) = let e : left ≡ at = f.1 in let more : at < n = h.0 in omega arith

-- ---- what is read falls

-- a place between bytes, where so many are left, and the places that it keeps
abbrev Stands : Lexing → ℕ → ℕ → Type 0
Stands between n len = len < n
Stands in_line_comment n len = len < n
Stands in_comment n len = len < n
Stands after_star n len = len < n
Stands (after_slash at) n len = (at < n) × (len < at)
Stands (in_identifier at t) n len = (at < n) × (len < at)
Stands (after_backslash at) n len = (at < n) × (len < at)
Stands (in_backslashed at t) n len = (at < n) × (len < at)
Stands (after_colon at) n len = (at < n) × (len < at)
Stands (in_string at t) n len = (at < n) × (len < at)
Stands (after_escape at t) n len = (at < n) × (len < at)
Stands (in_number at t more m) n len = (at < n) × (len < at)

-- what is read from each place on, where so many bytes are left
abbrev AllFall : (Lexing → Lexemes) → ℕ → Type 0
AllFall on len = (s : Lexing) (n : ℕ) → Stands s n len → Falls n (on s)

either : (n : ℕ) (c : Bool) (x y : Lexemes) → Falls n x → Falls n y → Falls n (cond c x y)
either n true x y p q = p
either n false x y p q = q

a_lexeme : (n at : ℕ) (t : KoreToken) (rest : Lexemes) → at < n → Falls at rest → Falls n (lexeme at t rest)
a_lexeme n at t rest h r = record { falling = (h, r.falling) }

a_break : (n at : ℕ) (k : FaultKind) → at < n → Falls n (broken at k)
a_break n at k h = record { falling = h }

a_broken_string : (n quote at : ℕ) (k : FaultKind) → quote < n → at < n → Falls n (broken_string quote at k)
a_broken_string n quote at k h g = record { falling = (h, g) }

begun_falls : (on : Lexing → Lexemes) (len : ℕ) → AllFall on len → (b n : ℕ) → suc len < n → Falls n (begun on b (suc len))
begun_falls on len all b n h =
    either n (is_white b) _ _ (all between n (omega arith))
    (either n (is_ascii_alphabetic b) _ _ (all (in_identifier (suc len) (b ∷ [])) n (omega arith, omega arith))
    (either n (is_mark b) _ _ (a_lexeme n (suc len) (mark b) _ (omega arith) (all between (suc len) (omega arith)))
    (either n (b == 58) _ _ (all (after_colon (suc len)) n (omega arith, omega arith))
    (either n (b == 92) _ _ (all (after_backslash (suc len)) n (omega arith, omega arith))
    (either n (b == 34) _ _ (all (in_string (suc len) []) n (omega arith, omega arith))
    (either n (b == 47) _ _ (all (after_slash (suc len)) n (omega arith, omega arith))
    (a_break n (suc len) kind.Byte (omega arith))))))))

in_string_falls : (on : Lexing → Lexemes) (len : ℕ) → AllFall on len → (quote : ℕ) (t : Text) (b n : ℕ) → quote < n → len < quote → Falls n (in_string_at on quote t b)
in_string_falls on len all quote t b n h l =
    either n (b == 34) _ _ (a_lexeme n quote (string_token t) _ h (all between quote l))
    (either n (b == 92) _ _ (all (after_escape quote t) n (h, l))
    (either n (b == 10) _ _ (a_broken_string n quote quote kind.String h h)
    (all (in_string quote (t ++ b ∷ [])) n (h, l))))

escaped_falls : (on : Lexing → Lexemes) (len : ℕ) → AllFall on len → (quote : ℕ) (t : Text) (b n : ℕ) → quote < n → len < quote → Falls n (escaped_at on quote t b)
escaped_falls on len all quote t b n h l =
    either n (b == 110) _ _ (all (in_string quote (t ++ 10 ∷ [])) n (h, l))
    (either n (b == 114) _ _ (all (in_string quote (t ++ 13 ∷ [])) n (h, l))
    (either n (b == 116) _ _ (all (in_string quote (t ++ 9 ∷ [])) n (h, l))
    (either n (b == 102) _ _ (all (in_string quote (t ++ 12 ∷ [])) n (h, l))
    (either n ((b == 34) || (b == 92)) _ _ (all (in_string quote (t ++ b ∷ [])) n (h, l))
    (either n (b == 120) _ _ (all (in_number quote t 2 0) n (h, l))
    (either n (b == 117) _ _ (all (in_number quote t 4 0) n (h, l))
    (either n (b == 85) _ _ (all (in_number quote t 8 0) n (h, l))
    (a_broken_string n quote quote kind.String h h))))))))

digit_falls : (on : Lexing → Lexemes) (len : ℕ) → AllFall on len → (quote : ℕ) (t : Text) (more m b n : ℕ) → quote < n → len < quote → Falls n (digit_at on quote t more m b)
digit_falls on len all quote t more m b n h l =
    either n (is_digit b 16) _ _
    (either n (nat_lt 1 more) _ _ (all (in_number quote t (more - 1) (m * 16 + digit_value b)) n (h, l))
    (either n (all_scalars ((m * 16 + digit_value b) ∷ [])) _ _ (all (in_string quote (t ++ encode_utf8 (m * 16 + digit_value b))) n (h, l))
    (a_broken_string n quote quote kind.String h h)))
    (a_broken_string n quote quote kind.String h h)

further_falls : (on : Lexing → Lexemes) (len : ℕ) → AllFall on len → (b : ℕ) (s : Lexing) (n : ℕ) → Stands s n (suc len) → Falls n (further on s b (suc len))
further_falls on len all b between n h = begun_falls on len all b n h
further_falls on len all b (after_slash at) n h = either n (b == 47) _ _ (all in_line_comment n (omega (arith, h.0, h.1))) (either n (b == 42) _ _ (all in_comment n (omega (arith, h.0, h.1))) (a_break n at kind.Byte h.0))
further_falls on len all b in_line_comment n h = either n (b == 10) _ _ (all between n (omega arith)) (all in_line_comment n (omega arith))
further_falls on len all b in_comment n h = either n (b == 42) _ _ (all after_star n (omega arith)) (all in_comment n (omega arith))
further_falls on len all b after_star n h = either n (b == 47) _ _ (all between n (omega arith)) (either n (b == 42) _ _ (all after_star n (omega arith)) (all in_comment n (omega arith)))
further_falls on len all b (in_identifier at t) n h = either n (is_identifier_byte b) _ _ (all (in_identifier at (t ++ b ∷ [])) n (h.0, omega (arith, h.1))) (a_lexeme n at (identifier t) _ h.0 (begun_falls on len all b at h.1))
further_falls on len all b (after_backslash at) n h = either n (is_ascii_alphabetic b) _ _ (all (in_backslashed at (b ∷ [])) n (h.0, omega (arith, h.1))) (a_break n at kind.Byte h.0)
further_falls on len all b (in_backslashed at t) n h = either n (is_identifier_byte b) _ _ (all (in_backslashed at (t ++ b ∷ [])) n (h.0, omega (arith, h.1))) (a_lexeme n at (backslashed t) _ h.0 (begun_falls on len all b at h.1))
further_falls on len all b (after_colon at) n h = either n (b == 61) _ _ (a_lexeme n at defined_as _ h.0 (all between at (omega (arith, h.1)))) (a_lexeme n at (mark 58) _ h.0 (begun_falls on len all b at h.1))
further_falls on len all b (in_string quote t) n h = in_string_falls on len all quote t b n h.0 (omega (arith, h.1))
further_falls on len all b (after_escape quote t) n h = escaped_falls on len all quote t b n h.0 (omega (arith, h.1))
further_falls on len all b (in_number quote t more m) n h = digit_falls on len all quote t more m b n h.0 (omega (arith, h.1))

tail_falls : (tail : Tail) (n : ℕ) → 0 < n → Falls n (tail_between tail)
tail_falls Whole n h = record { falling = h }
tail_falls Bad n h = a_break n 0 kind.Byte h
tail_falls Cut n h = a_break n 0 kind.Byte h

line_falls : (tail : Tail) (n : ℕ) → 0 < n → Falls n (tail_in_line tail)
line_falls Whole n h = record { falling = h }
line_falls Bad n h = a_break n 0 kind.Byte h
line_falls Cut n h = a_break n 0 kind.End h

after_falls : (tail : Tail) (n at : ℕ) → at < n → 0 < n → Falls n (tail_after tail at)
after_falls Whole n at h z = a_break n 0 kind.End z
after_falls Bad n at h z = a_break n at kind.Byte h
after_falls Cut n at h z = a_break n at kind.Byte h

end_falls : (tail : Tail) → AllFall (at_tail tail) 0
end_falls tail between n h = tail_falls tail n h
end_falls tail (after_slash at) n h = after_falls tail n at h.0 (omega (arith, h.0))
end_falls tail in_line_comment n h = line_falls tail n h
end_falls tail in_comment n h = a_break n 0 (tail_kind tail) h
end_falls tail after_star n h = a_break n 0 (tail_kind tail) h
end_falls tail (in_identifier at t) n h = a_lexeme n at (identifier t) _ h.0 (tail_falls tail at h.1)
end_falls tail (after_backslash at) n h = after_falls tail n at h.0 (omega (arith, h.0))
end_falls tail (in_backslashed at t) n h = a_lexeme n at (backslashed t) _ h.0 (tail_falls tail at h.1)
end_falls tail (after_colon at) n h = a_lexeme n at (mark 58) _ h.0 (tail_falls tail at h.1)
end_falls tail (in_string quote t) n h = a_broken_string n quote 0 (tail_kind tail) h.0 (omega (arith, h.0))
end_falls tail (after_escape quote t) n h = a_broken_string n quote 0 (tail_kind tail) h.0 (omega (arith, h.0))
end_falls tail (in_number quote t more m) n h = a_broken_string n quote 0 (tail_kind tail) h.0 (omega (arith, h.0))

all_fall : (tail : Tail) (text : List ℕ) → AllFall (lexed tail text) (length text)
all_fall tail [] = end_falls tail
all_fall tail (b ∷ bs) = λ s n h. further_falls (lexed tail bs) (length bs) (all_fall tail bs) b s n h

pub text_falls : (tail : Tail) (text : List ℕ) → Falling (suc (length text)) (lexed tail text between)
text_falls tail text = (all_fall tail text between (suc (length text)) (omega arith)).falling
