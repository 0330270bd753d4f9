-- A module that is added, or why it isn't.
use Rattle.std.proofs.Common.{◌≡◌, refl, sym, ap, subst, ◌∙◌, ℕ, Bool, List, [], ◌∷◌, ◌++◌, Option, Some, None, Vec}
use Rattle.std.specs.Option.{option_map}
use Rattle.std.specs.declared.alloc.Global.{Global}
use Rattle.serde_json.specs.Data.{Data}
use Rattle.kp_rpc.specs.Request.{RequestId}
use Rattle.kp_rpc.specs.Reply.{reply_bytes, result_reply}
use Rattle.kp_replies.specs.Failures.{Failure, bad_sides, undecided, bad_module, duplicate, failure_reply}
use Rattle.kp_replies.specs.Written.{added_tree}
use Rattle.kp_requests.specs.Requests.{asks, add_module}
use Rattle.kp_book.specs.Books.{Opening, Seen, at_book, with_own}
use Rattle.kp_book.proofs.BookLemmas.{own_grows}
use Rattle.kp_registry.specs.declared.book.Registry.{Registry}
use Rattle.kp_registry.specs.Registries.{IsPassOf}
use Rattle.kp_additions.specs.Added.{IsRefusedFor}
use Rattle.kp_additions.specs.Served.{AtEachBookSeen, HasLooked, HasSeenAt, Pass}
use Rattle.kp_additions.specs.Told.{IsEntered, TellsRefusal, failure_told}
use Rattle.kp_additions.specs.declared.error.AdditionError.{AdditionError}
use Rattle.kp_conn.specs.Conversations.{Sees}
use Rattle.kp_service.specs.Batches.{FromEachBookSeen, IsAddFailure, IsReplyLine, line_told, line_added, IsEffect, adds_nothing, adds}
use Rattle.kp_service.proofs.Serving.{looks}

-- ---- what was entered

abbrev pub EntersAll : Registry → Pass → Pass → List ℕ → Bool → List ℕ → Type 0
EntersAll registry before after text flag id = (o : Opening) (s : Seen) → HasSeenAt registry before o s → IsEntered o s text flag id registry after

-- a text is its bytes
pub enters_text : (registry : Registry) (before after : Pass) (bytes text : List ℕ) (flag : Bool) (id : List ℕ) → bytes ≡ text → EntersAll registry before after bytes flag id → EntersAll registry before after text flag id
enters_text registry before after bytes text flag id is h = subst (λ t. EntersAll registry before after t flag id) is h

sees_entered : (registry : Registry) (o : Opening) (s : Seen) (text : List ℕ) (flag : Bool) (id : List ℕ) (after : Pass) (Holds : Seen → Type 0) → (e : IsEntered o s text flag id registry after) →
    Holds (with_own e.between e.registration s.own) → Sees (HasSeenAt registry after o) s Holds
sees_entered registry o s text flag id after Holds e holds = record { after = with_own e.between e.registration s.own; seen = e.seen; grows = own_grows e.between e.registration s e.grows; holds = holds }

pub entered_line : (registry : Registry) (before after : Pass) (text : List ℕ) (flag : Bool) (mid : List ℕ) (id : RequestId) (line : List ℕ) → EntersAll registry before after text flag mid → line ≡ reply_bytes (result_reply id (added_tree mid)) →
    FromEachBookSeen registry before after (λ o seen. IsReplyLine o seen id (asks (add_module text flag)) line)
entered_line registry before after text flag mid id line all l o s had =
    let e : IsEntered o s text flag mid registry after = all o s had in
    sees_entered registry o s text flag mid after (IsReplyLine o s id (asks (add_module text flag)) line) e
    (line_added e.between e.registration e.grows e.is_added (l ∙ ap (λ m. reply_bytes (result_reply id (added_tree m))) (sym e.is_id)))

pub entered_silently : (registry : Registry) (before after : Pass) (text : List ℕ) (flag : Bool) (mid : List ℕ) → EntersAll registry before after text flag mid →
    FromEachBookSeen registry before after (λ o seen. IsEffect o seen (asks (add_module text flag)))
entered_silently registry before after text flag mid all o s had =
    let e : IsEntered o s text flag mid registry after = all o s had in
    sees_entered registry o s text flag mid after (IsEffect o s (asks (add_module text flag))) e (adds e.between e.registration e.grows e.is_added)

-- ---- refusals

-- whatever the book is, the text isn't added for this cause
abbrev pub RefusesAll : Registry → Pass → List ℕ → Bool → Failure → Type 0
RefusesAll registry pass text flag f = AtEachBookSeen registry pass (λ o book. IsRefusedFor o book text flag f)

pub refused_all : (registry : Registry) (pass : Pass) (bytes text : List ℕ) (flag : Bool) (e : AdditionError) (f : Failure) → bytes ≡ text → failure_told e ≡ Some f →
    AtEachBookSeen registry pass (λ o book. TellsRefusal o book bytes flag e) → RefusesAll registry pass text flag f
refused_all registry pass bytes text flag e f same is h = subst (λ t. RefusesAll registry pass t flag f) same (λ o s seen. h o s seen f is)

pub refused_line_told : (registry : Registry) (before after : Pass) (text : List ℕ) (flag : Bool) (f : Failure) (id : RequestId) (line : List ℕ) → IsPassOf registry after → HasLooked before after → RefusesAll registry after text flag f →
    (reply : Data) × (failure_reply id f ≡ Some reply) × (line ≡ reply_bytes reply) →
    FromEachBookSeen registry before after (λ o seen. IsReplyLine o seen id (asks (add_module text flag)) line)
refused_line_told registry before after text flag f id line is looked all l =
    looks registry before after (λ o seen. IsReplyLine o seen id (asks (add_module text flag)) line) is looked (λ o s at grows seen. line_told at l.0 grows (f, all o (at_book at s) seen, l.1) l.2)

pub refused_silently : (registry : Registry) (before after : Pass) (text : List ℕ) (flag : Bool) (f : Failure) → IsPassOf registry after → HasLooked before after → RefusesAll registry after text flag f →
    FromEachBookSeen registry before after (λ o seen. IsEffect o seen (asks (add_module text flag)))
refused_silently registry before after text flag f is looked all =
    looks registry before after (λ o seen. IsEffect o seen (asks (add_module text flag))) is looked (λ o s at grows seen. adds_nothing at grows (f, all o (at_book at s) seen))

-- ---- the reply with a cause

pub reply_told : (o : Option (Vec ℕ Global)) (line : Vec ℕ Global) (r : Option Data) → o ≡ Some line → option_map (λ (b : Vec ℕ Global). b.items) o ≡ option_map reply_bytes r → (reply : Data) × (r ≡ Some reply) × (line.items ≡ reply_bytes reply)
reply_told o line None is e =
    let none : Some line.items ≡ None = sym (ap (option_map (λ (b : Vec ℕ Global). b.items)) is) ∙ e in
    absurd (cc none)
reply_told o line (Some reply) is e =
    let some : Some line.items ≡ Some (reply_bytes reply) = sym (ap (option_map (λ (b : Vec ℕ Global). b.items)) is) ∙ e in
    (reply, refl, cc some)

some_reply : (id : RequestId) (f : Failure) → IsAddFailure f → failure_reply id f ≡ None → ⊥
some_reply id (bad_module f) told none = absurd (cc none)
some_reply id (duplicate n name) told none = absurd (cc none)
some_reply id (bad_sides f) told none = absurd told
some_reply id (undecided u) told none = absurd told

pub has_reply : (id : RequestId) (f : Failure) (o : Option (Vec ℕ Global)) → IsAddFailure f → option_map (λ (b : Vec ℕ Global). b.items) o ≡ option_map reply_bytes (failure_reply id f) → o ≡ None → ⊥
has_reply id f o told e none = some_reply id f told (none_of (failure_reply id f) (sym e ∙ ap (option_map (λ (b : Vec ℕ Global). b.items)) none))
  where
    none_of : (r : Option Data) → option_map reply_bytes r ≡ None → r ≡ None
    none_of None e = refl
    none_of (Some d) e = absurd (cc e)
