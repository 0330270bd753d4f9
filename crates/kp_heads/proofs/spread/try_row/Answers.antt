use Rattle.std.proofs.Common.{rules, ◌≡◌, true, Contains, sym, subst, ℕ}
use Rattle.kp_signature.proofs.EdgeLemmas.{inserted}
use Rattle.kp_heads.proofs.Rows.{not_tried, is_tried}
use Rattle.kp_heads.proofs.spread.try_row.Goals as goal

pub returns-then-not-has_all : goal.returns-then-not-has_all
returns-then-not-has_all c = not_tried c.args.row.now c.args.found.now.keys
    (λ m. absurd (cc (c.has_all.ensures.1 (subst (λ l. (n : ℕ) → Contains l n → Contains c.args.found.now.keys n) (sym c.deref.ensures.value) m), c.if-not-has_all.true)))

pub returns : goal.returns
returns c =
    let all : c.has_all.result ≡ true = search rules in
    is_tried c.args.row.now c.args.found.now.keys c.insert.new.self.keys
    (subst (λ l. (n : ℕ) → Contains l n → Contains c.args.found.now.keys n) c.deref.ensures.value (c.has_all.ensures.0 all))
    (inserted c.args.found.now.keys c.insert.new.self.keys c.args.row.now.gives c.in_ok-insert.ensures.keys)
