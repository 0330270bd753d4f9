-- The module that is asked, and what is served of it; calls that leave the book.
use Rattle.std.proofs.Common.{◌≡◌, ◌∙◌, refl, sym, ap, subst, arith, ℕ, List, [], ◌∷◌, Option, Some, None, Result, Ok, Err, Vec, ◌⊎◌, inl, inr, string_bytes}
use Rattle.std.specs.Option.{option_map, IsSome, IfSome}
use Rattle.std.proofs.lemmas.Result.{IfOk-weaker}
use Rattle.std.specs.Result.{IfOk, OnOk}
use Rattle.std.specs.declared.alloc.Global.{Global}
use Rattle.std.specs.Prelude.{String}
use Rattle.serde_json.specs.Data.{Data}
use Rattle.kp_kore.specs.Syntax.{Text, KorePattern}
use Rattle.kp_kore.specs.Signature.{KoreSignature}
use Rattle.kp_json.specs.Faults.{Reading}
use Rattle.kp_rule_sets.specs.RuleSets.{RunsAs}
use Rattle.kp_rule_sets.specs.declared.rule_set.RuleSet.{RuleSet}
use Rattle.kp_rpc.specs.Request.{RequestId}
use Rattle.kp_rpc.specs.Reply.{error_reply, no_module, reply_bytes}
use Rattle.kp_requests.specs.Requests.{Asked}
use Rattle.kp_book.specs.Books.{Opening, Registration, Seen, Grows, at_book, first_of, rules_bound}
use Rattle.kp_book.proofs.BookLemmas.{at_grows}
use Rattle.kp_modules.specs.Made.{IsSetOf}
use Rattle.kp_modules.specs.Openings.{IsTableOf}
use Rattle.kp_modules.specs.Tables.{rule_set_of}
use Rattle.std.specs.List.{AllZip}
use Rattle.kp_history.specs.Passes.{positions, seen}
use Rattle.kp_modules.specs.declared.table.ModuleTable.{ModuleTable}
use Rattle.kp_registry.specs.Passes.{IsEntryOf, MeansAt}
use Rattle.kp_registry.specs.declared.seen.Entry.{Entry}
use Rattle.kp_registry.specs.declared.book.Registry.{Registry}
use Rattle.kp_registry.specs.Registries.{IsPassOf, table_of}
use Rattle.kp_methods.specs.ServedTheory.{IsElsewhere, ServedTheory}
use Rattle.kp_methods.specs.Simplified.{IsSimplifiedAs}
use Rattle.kp_service.specs.Answered.{IsReplyIn, no_such_module, in_module}
use Rattle.kp_service.specs.Answers.{AddsNothing, IsReplyTo}
use Rattle.kp_service.specs.Batches.{FromEachBookSeen, IsEffect, adds_nothing, IsReplyLine, line_told}
use Rattle.kp_service.specs.Meant.{IsServedAt, module_asked}
use Rattle.kp_service.specs.Ready.{signature_over}
use Rattle.kp_additions.specs.Served.{AtEachBookSeen, HasLooked, HasSeenAt, Pass, nothing_seen}
use Rattle.kp_additions.proofs.Later.{looked_none, sees_later}
use Rattle.kp_methods.specs.ImpliedLines.{IsLineOf}

-- ---- the module that is asked

-- main means the rule set of the table
pub main_means : (o : Opening) (book : List Registration) (registry : Registry) → IsTableOf o (table_of registry) → (rules : RuleSet) → rules ≡ rule_set_of (table_of registry) → MeansAt o book o.main (Some rules)
main_means o book registry t rules is = (t.axioms, ap (λ m. first_of m (rules_bound book o.main)) t.bound, subst (IsSetOf o.signature t.axioms) (sym is) t.rules)

-- what is served where a module is asked that means this rule set
pub record Serves (o : Opening) (book : List Registration) (asked : Option Text) (rules : RuleSet) : Type 0 where
  pub setting : ServedTheory
  pub served : IsServedAt o book asked setting
  pub runs : RunsAs setting.theory rules
  pub here : ¬ IsElsewhere setting.main asked
  pub over : o.signature ≡ setting.theory.signature

not_elsewhere : (o : Opening) (asked : Option Text) → ¬ IsElsewhere (module_asked o asked) asked
not_elsewhere o None e = e
not_elsewhere o (Some name) e = e refl

pub serves : (o : Opening) (book : List Registration) (asked : Option Text) (rules : RuleSet) → MeansAt o book (module_asked o asked) (Some rules) → Serves o book asked rules
serves o book asked rules m = record {
  setting = record { theory = record { signature = o.signature; rules = m.2.made.meant }; main = module_asked o asked; names = module_asked o asked ∷ [] };
  served = record { axioms = m.0; bound = m.1; means = record { signature = refl; rules = m.2.made.are_rules }; main_is = refl; names_are = refl };
  runs = record { signature = m.2.signature; each = m.2.made.are_code };
  here = not_elsewhere o asked;
  over = refl;
}

-- ---- lines

-- the line that is right over what is served
pub in_module_line : (o : Opening) (book : List Registration) (asked : Option Text) (id : RequestId) (RightOver : ServedTheory → Data → Type 0) (s : ServedTheory) → IsServedAt o book asked s →
    (line : List ℕ) → IsLineOf (RightOver s) line → IsLineOf (IsReplyIn o book asked id RightOver) line
in_module_line o book asked id RightOver s served line l = (l.0, in_module s l.0 served l.1, l.2)

-- the line that is right over an equal signature
pub line_over : {E : Type 0} (r : Result (Vec ℕ Global) E) (id : RequestId) (state : Reading KorePattern) {g h : KoreSignature} → g ≡ h → IfOk r (λ line. IsLineOf (IsSimplifiedAs g id state) line.items) → IfOk r (λ line. IsLineOf (IsSimplifiedAs h id state) line.items)
line_over r id state same l = subst (λ k. IfOk r (λ line. IsLineOf (IsSimplifiedAs k id state) line.items)) same l

-- the line with code 3, where the name that is asked means nothing
pub no_module_line : (o : Opening) (book : List Registration) (asked : Option (String Global)) (id : RequestId) (RightOver : ServedTheory → Data → Type 0) → IsSome asked → MeansAt o book (module_asked o (option_map string_bytes asked)) None →
    (line : List ℕ) → IfSome asked (λ name. line ≡ reply_bytes (error_reply id (no_module (string_bytes name)))) → IsLineOf (IsReplyIn o book (option_map string_bytes asked) id RightOver) line
no_module_line o book None id RightOver some means line l = absurd (cc some)
no_module_line o book (Some name) id RightOver some means line l = (error_reply id (no_module (string_bytes name)), no_such_module (string_bytes name) (refl, means), l)

-- rules are there, or a name was asked; so a name was asked where no rules are there
pub was_asked : {X Y : Type 0} (rules : Option X) (asked : Option Y) → rules ≡ None → IsSome rules ⊎ IsSome asked → IsSome asked
was_asked None asked is (inl some) = absurd (cc some)
was_asked None asked is (inr some) = some
was_asked (Some r) asked is either = absurd (cc is)

-- ---- for all that was seen

-- what an outcome has for each book it has for all of them
pub for_all : {T E : Type 0} (r : Result T E) (registry : Registry) (pass : Pass) (Holds : Opening → List Registration → T → Type 0) →
    ((o : Opening) (s : Seen) → HasSeenAt registry pass o s → IfOk r (Holds o s.book)) → IfOk r (λ x. AtEachBookSeen registry pass (λ o book. Holds o book x))
for_all (Ok x) registry pass Holds h = h
for_all (Err e) registry pass Holds h = tt

pub for_any : {T E : Type 0} (r : Result T E) (Holds : T → Type 0) → ((x : T) → Holds x) → IfOk r Holds
for_any (Ok x) Holds h = h x
for_any (Err e) Holds h = tt

-- ---- a call that looks

-- the pass has looked, and this holds at the book that it has seen
pub looks : (registry : Registry) (before after : Pass) (Holds : Opening → Seen → Seen → Type 0) → IsPassOf registry after → HasLooked before after →
    ((o : Opening) (s : Seen) (at : List Registration) → Grows s.book at → HasSeenAt registry after o (at_book at s) → Holds o s (at_book at s)) → FromEachBookSeen registry before after Holds
looks registry before after Holds is looked h o s had =
    let l = sees_later registry before after o s is looked had in
    record { after = at_book l.at s; seen = l.seen; grows = at_grows l.at s l.grows; holds = h o s l.at l.grows l.seen }

-- the same of what is asked, by another name
pub lines_of : (registry : Registry) (before after : Pass) (id : RequestId) (x y : Asked) (line : List ℕ) → x ≡ y → FromEachBookSeen registry before after (λ o seen. IsReplyLine o seen id y line) →
    FromEachBookSeen registry before after (λ o seen. IsReplyLine o seen id x line)
lines_of registry before after id x y line is h = subst (λ z. FromEachBookSeen registry before after (λ o seen. IsReplyLine o seen id z line)) (sym is) h

pub effect_of : {T E : Type 0} (r : Result T E) (registry : Registry) (before after : Pass) (x y : Asked) → x ≡ y → OnOk r (FromEachBookSeen registry before after (λ o seen. IsEffect o seen y)) →
    OnOk r (FromEachBookSeen registry before after (λ o seen. IsEffect o seen x))
effect_of r registry before after x y is h = subst (λ z. OnOk r (FromEachBookSeen registry before after (λ o seen. IsEffect o seen z))) (sym is) h

pub no_effect : (registry : Registry) (pass : Pass) (x y : Asked) → IsPassOf registry pass → x ≡ y → ((o : Opening) (book : List Registration) → AddsNothing o book y) → FromEachBookSeen registry pass pass (λ o seen. IsEffect o seen x)
no_effect registry pass x y pass_of is h = looks registry pass pass (λ o seen. IsEffect o seen x) pass_of (looked_none pass) (λ o s at grows seen. subst (λ z. IsEffect o s z (at_book at s)) (sym is) (adds_nothing at grows (h o at)))

-- a line that is right, of a call that looks
pub line_stays : (registry : Registry) (before after : Pass) (id : RequestId) (asked : Asked) (line : List ℕ) → IsPassOf registry after → HasLooked before after →
    AtEachBookSeen registry after (λ o book. IsLineOf (IsReplyTo o book id asked) line) → FromEachBookSeen registry before after (λ o seen. IsReplyLine o seen id asked line)
line_stays registry before after id asked line is looked h =
    looks registry before after (λ o seen. IsReplyLine o seen id asked line) is looked (λ o s at grows seen. let l = h o (at_book at s) seen in line_told at l.0 grows l.1 l.2)

-- ---- what a call of a method is answered

-- the line over the module that is asked
pub served_line : {E : Type 0} (r : Result (Vec ℕ Global) E) (registry : Registry) (pass : Pass) (asked : Option Text) (found : Option RuleSet) (rules : RuleSet) (id : RequestId) (RightOver : ServedTheory → Data → Type 0) → found ≡ Some rules →
    AtEachBookSeen registry pass (λ o book. MeansAt o book (module_asked o asked) found) →
    ((s : ServedTheory) → RunsAs s.theory rules → ¬ IsElsewhere s.main asked → signature_over registry ≡ s.theory.signature → IfOk r (λ line. IsLineOf (RightOver s) line.items)) →
    IfOk r (λ line. AtEachBookSeen registry pass (λ o book. IsLineOf (IsReplyIn o book asked id RightOver) line.items))
served_line r registry pass asked found rules id RightOver is means right =
    for_all r registry pass (λ o book line. IsLineOf (IsReplyIn o book asked id RightOver) line.items)
    (λ o at seen. let s = serves o at.book asked rules (subst (MeansAt o at.book (module_asked o asked)) is (means o at seen)) in
    IfOk-weaker r _ _ (λ line l. in_module_line o at.book asked id RightOver s.setting s.served line.items l) (right s.setting s.runs s.here (seen.table.rules.signature ∙ s.over)))

-- the line where no such module is there
pub unserved_line : {E : Type 0} (r : Result (Vec ℕ Global) E) (registry : Registry) (pass : Pass) (asked : Option (String Global)) (found : Option RuleSet) (id : RequestId) (RightOver : ServedTheory → Data → Type 0) → found ≡ None → IsSome asked →
    AtEachBookSeen registry pass (λ o book. MeansAt o book (module_asked o (option_map string_bytes asked)) found) →
    IfOk r (λ line. IfSome asked (λ name. line.items ≡ reply_bytes (error_reply id (no_module (string_bytes name))))) →
    IfOk r (λ line. AtEachBookSeen registry pass (λ o book. IsLineOf (IsReplyIn o book (option_map string_bytes asked) id RightOver) line.items))
unserved_line r registry pass asked found id RightOver is some means told =
    for_all r registry pass (λ o book line. IsLineOf (IsReplyIn o book (option_map string_bytes asked) id RightOver) line.items)
    (λ o at seen. IfOk-weaker r _ _ (λ line l. no_module_line o at.book asked id RightOver some (subst (MeansAt o at.book (module_asked o (option_map string_bytes asked))) is (means o at seen)) line.items l) told)

-- the name that is asked means what it means
pub asked_means : (o : Opening) (book : List Registration) (asked : Option (String Global)) (name : String Global) (text : Text) (rules : Option RuleSet) → asked ≡ Some name → text ≡ string_bytes name → MeansAt o book text rules →
    MeansAt o book (module_asked o (option_map string_bytes asked)) rules
asked_means o book asked name text rules is same m = subst (λ a. MeansAt o book (module_asked o (option_map string_bytes a)) rules) (sym is) (subst (λ t. MeansAt o book t rules) same m)

-- ---- nothing was seen

pub begun_seen : (registry : Registry) (pass : Pass) (table : ModuleTable) → (table_of registry ≡ table) → seen pass ≡ [] → positions pass ≡ [] → (o : Opening) → IsTableOf o table → HasSeenAt registry pass o nothing_seen
begun_seen registry pass table is none own o opens = record {
  table = subst (IsTableOf o) (sym is) opens;
  seen = subst (λ (es : List Entry). AllZip (IsEntryOf o.signature) [] es) (sym none) tt;
  legal = record { entries = tt; room = omega arith };
  own = sym own;
}
