-- What it says that a part of a text was read, or that a fault was met in it: whatever may follow that part, the
-- text is read on from its place as what comes behind the part is read on from the place after it.
use Rattle.std.specs.Prelude.{◌≡◌, ◌≢◌, ℕ, ◌<◌, ◌≤◌, Bool, false, ◌==◌, List, [], ◌∷◌, length, Option, Some, None, IsUtf8, string_bytes}
use Rattle.std.specs.Borrow.{Bor}
use Rattle.kp_text.specs.Tokens.{KoreToken, identifier, backslashed, mark, defined_as, Lexemes, finished, lexeme, broken, broken_string, lexed, between, string_token}
use Rattle.kp_kore.specs.Syntax.{Text, KoreSort, KorePattern, set_variable, string_literal}
use Rattle.kp_text.specs.Next.{a_sort, more_sorts, a_variable, after_name, after_keyword, a_mark, a_pattern, Place, Outcome, faulty, run, step, Step, refused, goes, at_end}
use Rattle.kp_text.specs.declared.tail.Tail.{Tail}
use Rattle.kp_text.specs.declared.fault.FaultKind.TheVariants as kind
use Rattle.kp_text.specs.Grammar.{below}
use Rattle.kp_text.specs.declared.level.Level.{Level}
use Rattle.kp_text.specs.declared.patterns.Beginning.{Beginning}
use Rattle.kp_text.specs.declared.patterns.Beginning.TheVariants as beginning
use Rattle.kp_text.specs.declared.expected.Separator.{Separator}
use Rattle.kp_text.specs.declared.expected.Separator.TheVariants as separator
use Rattle.kp_text.specs.declared.fault.TextFailure.{TextFailure}
use Rattle.kp_text.specs.declared.fault.TextFailure.TheVariants as failure

-- what is read in a text from a place on
abbrev pub run_text : Tail → List ℕ → Place → Outcome
run_text tail text g = run (lexed tail text between) g

-- what a failure says of what is read: a fault is all of it, and want of memory says nothing
abbrev pub failed : TextFailure → Outcome → Outcome
failed failure.Memory o = o
failed (failure.Fault left k) o = faulty left k

-- a mark or a word was read, or a fault was met there
abbrev pub Leads : Tail → List ℕ → (Place → Place) → List ℕ → Type 0
Leads tail text place rest = (g : Place) → run_text tail rest g ≡ run_text tail text (place g)

abbrev pub StopsAt : Tail → List ℕ → (Place → Place) → TextFailure → Type 0
StopsAt tail text place e = (g : Place) → run_text tail text (place g) ≡ failed e (run_text tail text (place g))

-- a value was read, or a fault was met there
abbrev pub Finds : {V : Type 0} → Tail → List ℕ → ((V → Place) → Place) → V → List ℕ → Type 0
Finds {V} tail text place v rest = (k : V → Place) → run_text tail rest (k v) ≡ run_text tail text (place k)

abbrev pub Stops : {V : Type 0} → Tail → List ℕ → ((V → Place) → Place) → TextFailure → Type 0
Stops {V} tail text place e = (k : V → Place) → run_text tail text (place k) ≡ failed e (run_text tail text (place k))

-- what comes behind is shorter
abbrev pub IsBehind : List ℕ → List ℕ → Type 0
IsBehind rest text = (length rest < length text) × IsUtf8 rest

-- whether a token is this mark
abbrev pub is_that_mark : ℕ → KoreToken → Bool
is_that_mark c (mark d) = d == c
is_that_mark c (identifier x) = false
is_that_mark c (backslashed x) = false
is_that_mark c (string_token x) = false
is_that_mark c defined_as = false

-- the mark c doesn't stand next
abbrev pub IsNoMark : ℕ → Lexemes → Type 0
IsNoMark c (lexeme at t rest) = is_that_mark c t ≡ false
IsNoMark c finished = Unit {0}
IsNoMark c (broken at k) = Unit {0}
IsNoMark c (broken_string quote at k) = Unit {0}

-- the mark c stands next, and what comes behind it; or it doesn't
abbrev pub IsMarkAhead : Tail → List ℕ → ℕ → Option (Bor (List ℕ)) → Type 0
IsMarkAhead tail text c (Some rest) = ((left : ℕ) × (lexed tail text between ≡ lexeme left (mark c) (lexed tail rest.now between))) × IsBehind rest.now text
IsMarkAhead tail text c None = IsNoMark c (lexed tail text between)

-- what comes behind is no longer
abbrev pub IsNotBefore : List ℕ → List ℕ → Type 0
IsNotBefore rest text = (length rest ≤ length text) × IsUtf8 rest

-- a comma stands next, or the mark that closes a list, and what comes behind it
abbrev pub IsSeparator : Tail → List ℕ → ℕ → Separator → Type 0
IsSeparator tail text close (separator.Comma rest) = ((left : ℕ) × (lexed tail text between ≡ lexeme left (mark 44) (lexed tail rest.now between))) × (44 ≢ close) × IsBehind rest.now text
IsSeparator tail text close (separator.Close rest) = ((left : ℕ) × (lexed tail text between ≡ lexeme left (mark close) (lexed tail rest.now between))) × IsBehind rest.now text

-- a place in a list, where nothing but those two may come next
pub record IsSeparated (close : ℕ) (g : Place) : Type 0 where
  pub ends : at_end g ≡ faulty 0 kind.End
  pub others : (t : KoreToken) → is_that_mark close t ≡ false → is_that_mark 44 t ≡ false → step g t ≡ refused

-- one sort or more before a mark that closes them
abbrev pub some_sorts : ℕ → ℕ → (List KoreSort → Place) → Place
some_sorts n close k = a_sort n (λ s. more_sorts n close (s ∷ []) k)

-- the same of two and of three values
abbrev pub Finds2 : {V W : Type 0} → Tail → List ℕ → ((V → W → Place) → Place) → V → W → List ℕ → Type 0
Finds2 {V} {W} tail text place v w rest = (k : V → W → Place) → run_text tail rest (k v w) ≡ run_text tail text (place k)

abbrev pub Stops2 : {V W : Type 0} → Tail → List ℕ → ((V → W → Place) → Place) → TextFailure → Type 0
Stops2 {V} {W} tail text place e = (k : V → W → Place) → run_text tail text (place k) ≡ failed e (run_text tail text (place k))

abbrev pub Finds3 : {U V W : Type 0} → Tail → List ℕ → ((U → V → W → Place) → Place) → U → V → W → List ℕ → Type 0
Finds3 {U} {V} {W} tail text place u v w rest = (k : U → V → W → Place) → run_text tail rest (k u v w) ≡ run_text tail text (place k)

abbrev pub Stops3 : {U V W : Type 0} → Tail → List ℕ → ((U → V → W → Place) → Place) → TextFailure → Type 0
Stops3 {U} {V} {W} tail text place e = (k : U → V → W → Place) → run_text tail text (place k) ≡ failed e (run_text tail text (place k))

-- how a pattern begins, and the place behind that
abbrev pub begun_place : Level → (KorePattern → Place) → Beginning → Place
begun_place l k (beginning.Name x) = after_name l (string_bytes x) k
begun_place l k beginning.SetVariable = a_variable (λ x s. k (set_variable x s))
begun_place l k (beginning.Text t) = k (string_literal (string_bytes t))
begun_place l k (beginning.Keyword w) = after_keyword l k w

abbrev pub begun_step : Level → (KorePattern → Place) → Option Beginning → Step
begun_step l k None = refused
begun_step l k (Some b) = goes l.reached (begun_place l k b)

-- a variable, a comma, a pattern and a closing parenthesis
abbrev pub bound_argument : Level → (Text → KoreSort → KorePattern → Place) → Place
bound_argument l k = a_variable (λ x t. a_mark 44 (a_pattern (below l) (λ p. a_mark 41 (k x t p))))

-- a level at which no number is great
abbrev pub IsSmall : Level → Type 0
IsSmall l = (l.written ≤ 256) × (l.meant ≤ 256)
