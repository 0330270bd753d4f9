-- Links to a server: exchanges, and what calls do to what a link tells.
-- Source: JSON-RPC 2.0 (requests, responses).
use Rattle.std.specs.Prelude.{◌≡◌, ◌≤◌, ℕ, List, [], ◌∷◌, ◌++◌, map, Option, Some, None, option_map}
use Rattle.kp_book.specs.Books.{Opening, Registration, Seen}

-- a frame, and the line that replied to it
pub record Exchange : Type 0 where
  pub frame : List ℕ
  pub reply : List ℕ

-- How exchanges are met: from what was seen before one to what is seen after it, where it entered a module or none.
abbrev pub Meeting : Type 1
Meeting = Seen → Exchange → Option Registration → Seen → Type 0

-- What a link tells: how each exchange over it is met; what was seen so far; the exchanges so far, those of them that
-- entered a module, and the replies to come, where these are known; and how often it has failed.
pub record LinkState : Type 1 where
  pub meets : Opening → Meeting
  pub seen : Opening → Seen → Type 0
  pub exchanges : Option (List Exchange)
  pub entered : Option (List Exchange)
  pub replies : Option (List (List ℕ))
  pub faults : ℕ

-- exchanges one behind another, from what was seen before them to what is seen after, and those that entered a module
pub data Chain (meets : Meeting) : Seen → List Exchange → List Exchange → Seen → Type 0 where
  no_more : (seen : Seen) → Chain meets seen [] [] seen
  told : (before between after : Seen) (e : Exchange) (es entered : List Exchange) → meets before e None between →
      Chain meets between es entered after → Chain meets before (e ∷ es) entered after
  enters : (before between after : Seen) (e : Exchange) (r : Registration) (es entered : List Exchange) → meets before e (Some r) between →
      Chain meets between es entered after → Chain meets before (e ∷ es) (e ∷ entered) after

-- exactly these exchanges are made, by the first of the replies to come, and are met as the link tells, as later ones
-- will be, too
pub record Makes (before after : LinkState) (es : List Exchange) : Type 0 where
  pub keeps : (o : Opening) (s : Seen) (e : Exchange) (r : Option Registration) (s' : Seen) → after.meets o s e r s' → before.meets o s e r s'
  pub more : List Exchange
  pub chain : (o : Opening) (s : Seen) → before.seen o s → (s' : Seen) × after.seen o s' × Chain (before.meets o) s es more s'
  pub exchanges : after.exchanges ≡ option_map (λ earlier. earlier ++ es) before.exchanges
  pub entered : after.entered ≡ option_map (λ earlier. earlier ++ more) before.entered
  pub replies : before.replies ≡ option_map (λ later. map (λ e. e.reply) es ++ later) after.replies
  pub faults : before.faults ≤ after.faults

-- The same where the last call fails: it makes no exchange that is told. Of what is seen then nothing is said, since a
-- module may have been entered without a reply.
pub record Stops (before after : LinkState) (es : List Exchange) : Type 0 where
  pub more : List Exchange
  pub exchanges : after.exchanges ≡ option_map (λ earlier. earlier ++ es) before.exchanges
  pub entered : after.entered ≡ option_map (λ earlier. earlier ++ more) before.entered
  pub replies : before.replies ≡ option_map (λ later. map (λ e. e.reply) es ++ later) after.replies
  pub faults : before.faults ≤ after.faults
