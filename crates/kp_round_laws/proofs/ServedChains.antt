-- Exchanges one behind another: those over a link that serves are served, each is right from the first book on, and a chain
-- is cut where its exchanges are.
use Rattle.std.proofs.Common.{◌≡◌, refl, sym, ap, subst, ◌∙◌, suc, length, append-nil, append_assoc, List, [], ◌∷◌, ◌++◌, Option, Some, None}
use Rattle.std.specs.List.{AllByRecursion}
use Rattle.kp_book.specs.Books.{Opening, Registration, Seen, Grows}
use Rattle.kp_book.proofs.BookLemmas.{grows_none, grows_on}
use Rattle.kp_registry.specs.Legal.{IsLegal}
use Rattle.kp_links.specs.Links.{Exchange, Meeting, LinkState, Chain, no_more, told, enters}
use Rattle.kp_links.specs.RightExchanges.{Enters, IsServed, Serves}
use Rattle.kp_round_laws.specs.RightRounds.{IsRightFrom}
use Rattle.kp_round_laws.specs.Laws.{OwnEntriesAreTold}

-- the book only grows
pub entered_grows : (before : Seen) (r : Option Registration) (after : Seen) → Enters before r after → Grows before.book after.book
entered_grows before None after h = h.0
entered_grows before (Some n) after h = grows_on before.book h.0 after.book h.1 (n ∷ [], h.2)

-- ---- links that serve

-- over a link that serves the opening, exchanges from a legal book on are served
pub served_chain : (a : LinkState) (o : Opening) (before after : Seen) (es entered : List Exchange) → Serves a o → IsLegal o before.book → Chain (a.meets o) before es entered after → Chain (IsServed o) before es entered after
served_chain a o before after es entered serves legal (no_more s) = no_more s
served_chain a o before after es entered serves legal (told b between c e rest more met chain) =
    let one : IsServed o before e None between = serves before between e None met legal in
    told before between after e rest more one (served_chain a o between after rest more serves one.legal chain)
served_chain a o before after es entered serves legal (enters b between c e r rest more met chain) =
    let one : IsServed o before e (Some r) between = serves before between e (Some r) met legal in
    enters before between after e r rest more one (served_chain a o between after rest more serves one.legal chain)

-- ---- exchanges that are right from a book on

from_earlier : (o : Opening) (book between : List Registration) (es : List Exchange) → Grows book between → AllByRecursion (IsRightFrom o between) es → AllByRecursion (IsRightFrom o book) es
from_earlier o book between [] g h = tt
from_earlier o book between (e ∷ es) g h =
    (record { before = h.0.before; entered = h.0.entered; after = h.0.after; grown = grows_on book between h.0.before.book g h.0.grown; right = h.0.right }, from_earlier o book between es g h.1)

-- each exchange of a chain is right, and the book grows and stays legal
pub record AreRightOver (o : Opening) (before : Seen) (es : List Exchange) (after : Seen) : Type 0 where
  pub each : AllByRecursion (IsRightFrom o before.book) es
  pub legal : IsLegal o after.book
  pub grows : Grows before.book after.book

one_more_right : (o : Opening) (before between after : Seen) (e : Exchange) (r : Option Registration) (es : List Exchange) → IsServed o before e r between → AreRightOver o between es after → AreRightOver o before (e ∷ es) after
one_more_right o before between after e r es one others =
    let grown : Grows before.book between.book = entered_grows before r between one.enters in
    record {
      each = (record { before = before; entered = r; after = between; grown = grows_none before.book; right = one.right }, from_earlier o before.book between.book es grown others.each);
      legal = others.legal;
      grows = grows_on before.book between.book after.book grown others.grows;
    }

pub chain_is_right : (o : Opening) (before after : Seen) (es entered : List Exchange) → IsLegal o before.book → Chain (IsServed o) before es entered after → AreRightOver o before es after
chain_is_right o before after es entered legal (no_more s) = record { each = tt; legal = legal; grows = grows_none before.book }
chain_is_right o before after es entered legal (told b between c e rest more one chain) =
    one_more_right o before between after e None rest one (chain_is_right o between after rest more one.legal chain)
chain_is_right o before after es entered legal (enters b between c e r rest more one chain) =
    one_more_right o before between after e (Some r) rest one (chain_is_right o between after rest more one.legal chain)

-- ---- what is entered is told

pub own_told : (o : Opening) → OwnEntriesAreTold o
own_told o before after es entered (no_more s) = ([], sym (append-nil before.own), refl)
own_told o before after es entered (told b between c e rest more one chain) =
    let others = own_told o between after rest more chain in
    (others.0, others.1 ∙ ap (λ own. own ++ others.0) one.enters.1, others.2)
own_told o before after es entered (enters b between c e r rest more one chain) =
    let others = own_told o between after rest more chain in
    let place = suc (length one.enters.0) in
    (place ∷ others.0, others.1 ∙ ap (λ own. own ++ others.0) one.enters.3 ∙ append_assoc before.own (place ∷ []) others.0, ap suc others.2)

-- ---- cutting a chain

pub record InTwo (meets : Meeting) (before : Seen) (xs ys : List Exchange) (after : Seen) : Type 0 where
  pub between : Seen
  pub firsts : List Exchange
  pub seconds : List Exchange
  pub front : Chain meets before xs firsts between
  pub back : Chain meets between ys seconds after

pub in_two : (meets : Meeting) (before after : Seen) (xs ys all entered : List Exchange) → all ≡ xs ++ ys → Chain meets before all entered after → InTwo meets before xs ys after
in_two meets before after [] ys all entered is chain = record { between = before; firsts = []; seconds = entered; front = no_more before; back = subst (λ zs. Chain meets before zs entered after) is chain }
in_two meets before after (x ∷ xs) ys all entered is (no_more s) = absurd (cc is)
in_two meets before after (x ∷ xs) ys all entered is (told b between c e rest more met chain) =
    let heads : e ≡ x = cc is in
    let tails : rest ≡ xs ++ ys = cc is in
    let two : InTwo meets between xs ys after = in_two meets between after xs ys rest more tails chain in
    record { between = two.between; firsts = two.firsts; seconds = two.seconds; front = told before between two.between x xs two.firsts (subst (λ y. meets before y None between) heads met) two.front; back = two.back }
in_two meets before after (x ∷ xs) ys all entered is (enters b between c e r rest more met chain) =
    let heads : e ≡ x = cc is in
    let tails : rest ≡ xs ++ ys = cc is in
    let two : InTwo meets between xs ys after = in_two meets between after xs ys rest more tails chain in
    record { between = two.between; firsts = x ∷ two.firsts; seconds = two.seconds; front = enters before between two.between x r xs two.firsts (subst (λ y. meets before y (Some r) between) heads met) two.front; back = two.back }

-- a chain of one exchange meets it
pub record OneMet (meets : Meeting) (before : Seen) (e : Exchange) (after : Seen) : Type 0 where
  pub entered : Option Registration
  pub met : meets before e entered after

ended : (meets : Meeting) (before after : Seen) (es entered : List Exchange) → es ≡ [] → Chain meets before es entered after → before ≡ after
ended meets before after es entered none (no_more s) = refl
ended meets before after es entered none (told b between c e rest more met chain) = absurd (cc none)
ended meets before after es entered none (enters b between c e r rest more met chain) = absurd (cc none)

pub only_one : (meets : Meeting) (before after : Seen) (e : Exchange) (es entered : List Exchange) → es ≡ e ∷ [] → Chain meets before es entered after → OneMet meets before e after
only_one meets before after e es entered is (no_more s) = absurd (cc is)
only_one meets before after e es entered is (told b between c f rest more met chain) =
    let heads : f ≡ e = cc is in
    let none : rest ≡ [] = cc is in
    record { entered = None; met = subst (λ y. meets before y None after) heads (subst (λ s. meets before f None s) (ended meets between after rest more none chain) met) }
only_one meets before after e es entered is (enters b between c f r rest more met chain) =
    let heads : f ≡ e = cc is in
    let none : rest ≡ [] = cc is in
    record { entered = Some r; met = subst (λ y. meets before y (Some r) after) heads (subst (λ s. meets before f (Some r) s) (ended meets between after rest more none chain) met) }
