-- A member nests less deep than its object.
use Rattle.std.proofs.Common.{◌≡◌, ℕ, ◌<◌, ◌≤◌, List, Option, Some, None, Ordering, Less, Equal, Greater, subst, arith}
use Rattle.std.specs.Prelude.{⊤}
use Rattle.std.specs.Cmp.Lexicographic.{slice_cmp}
use Rattle.std.specs.Ordering.{nat_cmp, match_ordering}
use Rattle.serde_json.specs.Data.{Data, null, boolean, number, string, array, object, Members, no_members, member, depth, members_depth}
use Rattle.serde_json.specs.Find.{get, get_member}

abbrev pub Within : ℕ → Option Data → Type 0
Within n None = ⊤
Within n (Some d) = depth d ≤ n

within_ordering : (o : Ordering) (n : ℕ) (a b c : Option Data) → Within n a → Within n b → Within n c → Within n (match_ordering o a b c)
within_ordering Less n a b c p q r = p
within_ordering Equal n a b c p q r = q
within_ordering Greater n a b c p q r = r

within_more : (o : Option Data) (m n : ℕ) → m ≤ n → Within m o → Within n o
within_more None m n h w = tt
within_more (Some d) m n h w = omega arith

members_within : (k : List ℕ) (ms : Members) → Within (members_depth ms) (get_member k ms)
members_within k no_members = tt
members_within k (member l e ms) =
    let rest = within_more (get_member k ms) (members_depth ms) (members_depth (member l e ms)) (omega arith) (members_within k ms) in
    within_ordering (slice_cmp nat_cmp k l) (members_depth (member l e ms)) _ (Some e) _ rest (omega arith) rest

pub get_deeper : (k : List ℕ) (d e : Data) → get k d ≡ Some e → depth e < depth d
get_deeper k null e h = absurd (cc h)
get_deeper k (boolean b) e h = absurd (cc h)
get_deeper k (number n) e h = absurd (cc h)
get_deeper k (string s) e h = absurd (cc h)
get_deeper k (array ds) e h = absurd (cc h)
get_deeper k (object ms) e h =
    let w : depth e ≤ members_depth ms = subst (Within (members_depth ms)) h (members_within k ms) in
    omega arith
