-- What clap's walk makes of words of which some are values, in a command without commands of its own: the values themselves
-- are passed over, so a walk over given options computes.
use Rattle.std.proofs.Common.{◌≡◌, refl, sym, ap, ap₂, ◌∙◌, ℕ, List, [], ◌∷◌, ◌++◌, map, true, false, codes, Option, Some, None, Bool, not, ◌&&◌, is_some, append_assoc, append-nil}
use Rattle.std.specs.Prelude.{if◌then◌else◌, ◌==◌, ⊤}
use Rattle.std.specs.List.{find, fold}
use Rattle.std.specs.Option.{option_map, option_map_or}
use Rattle.std.specs.Str.{bytes_eq}
use Rattle.std.proofs.lemmas.Bool.{ne_eqb}
use Rattle.clap.specs.Lexer.{long_of, short_of}
use Rattle.clap.specs.Walk.{Text, Rule, Held, Names, Waiting, idle, option, positional, Step, Walk, walk_from, walk, walked, answers_to, stop_after, walked_from, word_met, plain_word, after_step, nothing_held, settled, finished}
use Rattle.clap.specs.Simple.{App, Shape, entered, label_of, names_of, rows_at}
use Rattle.clap.specs.Kinds.{Kinds, or_else}
use Rattle.clap.specs.Faults.{walk_fault, turn_fault, word_fault, step_fault, level_fault, settle_fault, defaults_fault, check_fault, built_fault, entered_fault}
use Rattle.clap.proofs.WalkLemmas.{both}
use Rattle.kp_command.specs.Words.{IsValue}

-- ---- a value isn't read as an option

-- a word that isn't read as an option
pub record IsPlain (w : Text) : Type 0 where
  pub long : long_of w ≡ None
  pub short : short_of w ≡ None
  pub dashes : bytes_eq w (codes "--") ≡ false

pub plain_of : (w : Text) → IsValue w → IsPlain w
plain_of [] h = record { long = refl; short = refl; dashes = refl }
plain_of (c ∷ rest) h =
    let other : (c == 45) ≡ false = ne_eqb c 45 h in
    record { long = rw other refl; short = rw other refl; dashes = rw other refl }

-- ---- one word

value_met : (c : List Rule) (waiting : Waiting) (position : ℕ) (v : Text) (h : Held) → IsPlain v → word_met c [] false waiting position v h ≡ plain_word c waiting v h
value_met c idle position v h p = rw p.dashes (rw p.long (rw p.short refl))
value_met c (option id) position v h p = rw p.dashes (rw p.long (rw p.short refl))
value_met c positional position v h p = rw p.dashes (rw p.long (rw p.short refl))

value_passes : (s : Shape) (waiting : Waiting) (v : Text) (h : Held) → IsPlain v → word_fault s [] false waiting v h ≡ []
value_passes s idle v h p = rw p.dashes (rw p.long (rw p.short refl))
value_passes s (option id) v h p = rw p.dashes (rw p.long (rw p.short refl))
value_passes s positional v h p = rw p.dashes (rw p.long (rw p.short refl))

-- the walk after a value
abbrev pub value_walked : List Rule → Walk → Text → Walk
value_walked c w v = after_step c v w (plain_word c w.waiting v w.held).0 (plain_word c w.waiting v w.held).1

-- the fault of a value that no argument takes
abbrev pub value_fault : Shape → Walk → Text → Kinds
value_fault s w v = step_fault s w.position (plain_word s.rules w.waiting v w.held).0 (plain_word s.rules w.waiting v w.held).1

-- no command was met, and no `--`
abbrev pub is_open : Walk → Bool
is_open w = not (is_some w.stopped) && not w.is_trailing

none_of : {X : Type 0} (o : Option X) → not (is_some o) ≡ true → o ≡ None
none_of None e = refl
none_of (Some x) e = absurd (cc)

false_of : (b : Bool) → not b ≡ true → b ≡ false
false_of false e = refl
false_of true e = absurd (cc)

after_value : (c : List Rule) (w : Walk) (v : Text) → IsPlain v → is_open w ≡ true → walked c [] w v ≡ value_walked c w v
unfolding walked
after_value c w v p open' =
    let parts = both _ _ open' in
    ap (λ s. walked_from c [] s w v) (none_of w.stopped parts.0)
    ∙ ap (λ (met : Held × Step). after_step c v w met.0 met.1) (ap (λ t. word_met c [] t w.waiting w.position v w.held) (false_of w.is_trailing parts.1) ∙ value_met c w.waiting w.position v w.held p)

value_turn : (s : Shape) (w : Walk) (v : Text) → IsPlain v → is_open w ≡ true → turn_fault s [] w v ≡ value_fault s w v
value_turn s w v p open' =
    let parts = both _ _ open' in
    let trailing = false_of w.is_trailing parts.1 in
    let met = word_met s.rules [] w.is_trailing w.waiting w.position v w.held in
    ap (λ (o : Option (Text × List Text)). if is_some o then [] else or_else (word_fault s [] w.is_trailing w.waiting v w.held) (step_fault s w.position met.0 met.1)) (none_of w.stopped parts.0)
    ∙ ap₂ or_else (ap (λ t. word_fault s [] t w.waiting v w.held) trailing ∙ value_passes s w.waiting v w.held p)
    (ap (λ (m : Held × Step). step_fault s w.position m.0 m.1) (ap (λ t. word_met s.rules [] t w.waiting w.position v w.held) trailing ∙ value_met s.rules w.waiting w.position v w.held p))

-- ---- words of which some are values

-- a word: an option as it is written, or a value
pub data Piece : Type 0 where
  written : Text → Piece
  given : Text → Piece

abbrev pub word_of : Piece → Text
word_of (written t) = t
word_of (given t) = t

abbrev pub words_of : List Piece → List Text
words_of = map word_of

-- each value is plain
abbrev pub AllPlain : List Piece → Type 0
AllPlain [] = ⊤
AllPlain (written t ∷ rest) = AllPlain rest
AllPlain (given t ∷ rest) = IsPlain t × AllPlain rest

abbrev pub piece_walked : List Rule → Walk → Piece → Walk
piece_walked c w (written t) = walked c [] w t
piece_walked c w (given t) = value_walked c w t

abbrev pub piece_fault : Shape → Walk → Piece → Kinds
piece_fault s w (written t) = turn_fault s [] w t
piece_fault s w (given t) = value_fault s w t

-- the walk stays open
abbrev pub goes : List Rule → Walk → List Piece → Bool
goes c w [] = true
goes c w (p ∷ rest) = is_open w && goes c (piece_walked c w p) rest

abbrev pub pieces_walked : List Rule → Walk → List Piece → Walk
pieces_walked c w [] = w
pieces_walked c w (p ∷ rest) = pieces_walked c (piece_walked c w p) rest

abbrev pub pieces_fault : Shape → Walk → List Piece → Kinds
pieces_fault s w [] = []
pieces_fault s w (p ∷ rest) = or_else (piece_fault s w p) (pieces_fault s (piece_walked s.rules w p) rest)

pub walk_is : (c : List Rule) (w : Walk) (ps : List Piece) → AllPlain ps → goes c w ps ≡ true → fold (walked c []) w (words_of ps) ≡ pieces_walked c w ps
walk_is c w [] plain open' = refl
walk_is c w (written t ∷ rest) plain open' = walk_is c (walked c [] w t) rest plain (both _ _ open').1
walk_is c w (given t ∷ rest) plain open' =
    let parts = both _ _ open' in
    ap (λ next. fold (walked c []) next (words_of rest)) (after_value c w t plain.0 parts.0) ∙ walk_is c (value_walked c w t) rest plain.1 parts.1

pub walk_fault_is : (s : Shape) (w : Walk) (ps : List Piece) → AllPlain ps → goes s.rules w ps ≡ true → walk_fault s [] w (words_of ps) ≡ pieces_fault s w ps
unfolding walk_fault
walk_fault_is s w [] plain open' = refl
walk_fault_is s w (written t ∷ rest) plain open' = ap (or_else (turn_fault s [] w t)) (walk_fault_is s (walked s.rules [] w t) rest plain (both _ _ open').1)
walk_fault_is s w (given t ∷ rest) plain open' =
    let parts = both _ _ open' in
    ap₂ or_else (value_turn s w t plain.0 parts.0)
    (ap (λ next. walk_fault s [] next (words_of rest)) (after_value s.rules w t plain.0 parts.0) ∙ walk_fault_is s (value_walked s.rules w t) rest plain.1 parts.1)

-- ---- a whole command

abbrev pub level_by : Shape → Kinds → Held → Kinds
level_by s faults end = or_else faults (or_else (settle_fault s.rules s.args_override_self end) (or_else (defaults_fault (settled s.rules end).rows s.rules) (check_fault s (finished s.rules end) false)))

pub level_is : (s : Shape) (ps : List Piece) → AllPlain ps → goes s.rules (walk_from nothing_held) ps ≡ true
    → level_fault s [] nothing_held (words_of ps) false [] ≡ level_by s (pieces_fault s (walk_from nothing_held) ps) (pieces_walked s.rules (walk_from nothing_held) ps).held
level_is s ps plain open' =
    ap₂ (level_by s) (walk_fault_is s (walk_from nothing_held) ps plain open') (ap (λ (w : Walk). w.held) (walk_is s.rules (walk_from nothing_held) ps plain open'))

-- ---- words behind a command's name

abbrev pub at_command : Text → List Text → Walk
at_command name rest = record (walk_from nothing_held) { stopped = Some (name, rest) }

walk_stays : (c : List Rule) (names : Names) (name : Text) (before rest : List Text) → fold (walked c names) (at_command name before) rest ≡ at_command name (before ++ rest)
unfolding walked
walk_stays c names name before [] = ap (at_command name) (sym (append-nil before))
walk_stays c names name before (word ∷ rest) = walk_stays c names name (before ++ word ∷ []) rest ∙ ap (at_command name) (append_assoc before (word ∷ []) rest)

no_more_faults : (s : Shape) (names : Names) (name : Text) (before rest : List Text) → walk_fault s names (at_command name before) rest ≡ []
unfolding walked walk_fault
no_more_faults s names name before [] = refl
no_more_faults s names name before (word ∷ rest) = no_more_faults s names name (before ++ word ∷ []) rest

-- the first word names a command of the built ones
pub record IsNamed (a : App) (name : Text) (s : Shape) : Type 0 where
  pub met : walked a.top.rules (names_of a) (walk_from nothing_held) name ≡ at_command name []
  pub turn : turn_fault a.top (names_of a) (walk_from nothing_held) name ≡ []
  pub found : find (λ s. answers_to name (label_of s)) a.subs ≡ Some s
  pub settles : settle_fault a.top.rules a.top.args_override_self nothing_held ≡ []
  pub defaults : defaults_fault (settled a.top.rules nothing_held).rows a.top.rules ≡ []
  pub checked : check_fault a.top (finished a.top.rules nothing_held) true ≡ []

walk_at : (a : App) (name : Text) (s : Shape) (rest : List Text) → IsNamed a name s → walk a.top.rules (names_of a) nothing_held (name ∷ rest) ≡ at_command name rest
walk_at a name s rest named = ap (λ w. fold (walked a.top.rules (names_of a)) w rest) named.met ∙ walk_stays a.top.rules (names_of a) name [] rest

fault_at : (a : App) (name : Text) (s : Shape) (rest : List Text) → IsNamed a name s → walk_fault a.top (names_of a) (walk_from nothing_held) (name ∷ rest) ≡ []
unfolding walk_fault
fault_at a name s rest named = ap₂ or_else named.turn (ap (λ w. walk_fault a.top (names_of a) w rest) named.met ∙ no_more_faults a.top (names_of a) name [] rest)

abbrev tail_fault : App → Held → Bool → Kinds
tail_fault a end met = or_else (settle_fault a.top.rules a.top.args_override_self end) (or_else (defaults_fault (settled a.top.rules end).rows a.top.rules) (check_fault a.top (finished a.top.rules end) met))

abbrev fault_with : App → Kinds → Walk → Kinds
fault_with a faults w = or_else faults (or_else (entered_fault a w.stopped) (tail_fault a w.held (is_some (entered a w.stopped))))

abbrev fault_in : App → List Text → Option Shape → Kinds
fault_in a rest o = or_else (option_map_or (λ s. level_fault s [] nothing_held rest false []) o []) (tail_fault a nothing_held (is_some (option_map (λ s. rows_at s rest) o)))

tail_none : (a : App) (name : Text) (s : Shape) → IsNamed a name s → tail_fault a nothing_held true ≡ []
tail_none a name s named = ap₂ or_else named.settles (ap₂ or_else named.defaults named.checked)

-- a command's words have no fault where those behind its name have none
pub command_faultless : (a : App) (name : Text) (s : Shape) (rest : List Text) → IsNamed a name s → level_fault s [] nothing_held rest false [] ≡ [] → built_fault a nothing_held (name ∷ rest) ≡ []
command_faultless a name s rest named none =
    ap₂ (fault_with a) (fault_at a name s rest named) (walk_at a name s rest named)
    ∙ ap (fault_in a rest) named.found
    ∙ ap₂ or_else none (tail_none a name s named)

-- and what is read are its rows
pub command_rows : (a : App) (name : Text) (s : Shape) (rest : List Text) → IsNamed a name s → entered a (stop_after a.top.rules (names_of a) (name ∷ rest)) ≡ Some (rows_at s rest)
command_rows a name s rest named =
    ap (λ (w : Walk). entered a w.stopped) (walk_at a name s rest named) ∙ ap (option_map (λ s. rows_at s rest)) named.found
