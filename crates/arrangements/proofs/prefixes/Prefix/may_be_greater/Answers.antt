use Rattle.std.proofs.Common.{◌≡◌, ◌≤◌, ◌+◌, ◌-◌, ◌∙◌, sym, subst, arith, get_or, ℕ}
use Rattle.std.proofs.lemmas.Bool.{ltb-true, ltb-false}
use Rattle.arrangements.proofs.Tops.{option-top, option-unopened, none-greater, one-top, not-empty}
use Rattle.arrangements.proofs.prefixes.Prefix.may_be_greater.Goals as goal
use Rattle.arrangements.proofs.prefixes.Prefix.may_be_greater.Goals.{else-count-gt0-via-then-count-gt0+else-edge, else-count-gt0-via-else-count-gt0}

-- the greatest edge of a block not opened
pub returns-then-edge-clause-some : goal.returns-then-edge-clause-some
returns-then-edge-clause-some c = λ prefix n t block order a b.
    let p : c.args.count ≡ (c.args.count - 1) + 1 = omega arith in
    let w = n.right block order a b in
    record {
      greater = get_or c.args.tables.now.edges (c.args.count - 1) 0;
      option = option-unopened c.args.tables.now _ _ _ prefix block order (c.args.count - 1) w (omega (arith, c.requires.count)) (c.requires.unopened (c.args.count - 1) p);
      above = omega (arith, c.edge.ensures, c.if-edge.true);
    }

-- the top of the stack
pub returns-in-Some-clause-some : goal.returns-in-Some-clause-some
returns-in-Some-clause-some c = λ prefix n t block order a b.
    let w = n.right block order a b in
    record {
      greater = c.in-Some.top;
      option = option-top c.args.tables.now _ _ _ prefix c.in-Some.ensures.0 block order c.in-Some.top w c.in-Some.ensures.1;
      above = ltb-true c.args.edge c.in-Some.top t;
    }

-- neither is greater
pub returns-in-Some-clause-none : goal.returns-in-Some-clause-none
returns-in-Some-clause-none c = λ prefix n t block order a b.
    none-greater c.args.tables.now _ _ _ prefix block order c.args.edge c.args.count c.keeps.ensures (n.right block order a b) c.requires.opened
    (λ p e. elim c.else-count-gt0.branch [
      | else-count-gt0-via-then-count-gt0+else-edge w ↦ let q : c.args.count - 1 ≡ p = omega arith in subst (λ (z : ℕ). get_or c.args.tables.now.edges z 0 ≤ c.args.edge) q (omega (arith, w.edge.ensures, w.if-edge.false))
      | else-count-gt0-via-else-count-gt0 w ↦ absurd (omega (arith, w.if-count-gt0.false, e))
    ])
    (λ front top s. let q = one-top front c.in-Some.ensures.0 top c.in-Some.top (sym s ∙ c.in-Some.ensures.1) in omega (arith, q, ltb-false c.args.edge c.in-Some.top t))
    c.requires.count

-- there is no top
pub returns-in-None-clause-none : goal.returns-in-None-clause-none
returns-in-None-clause-none c = λ prefix n t block order a b.
    none-greater c.args.tables.now _ _ _ prefix block order c.args.edge c.args.count c.keeps.ensures (n.right block order a b) c.requires.opened
    (λ p e. elim c.else-count-gt0.branch [
      | else-count-gt0-via-then-count-gt0+else-edge w ↦ let q : c.args.count - 1 ≡ p = omega arith in subst (λ (z : ℕ). get_or c.args.tables.now.edges z 0 ≤ c.args.edge) q (omega (arith, w.edge.ensures, w.if-edge.false))
      | else-count-gt0-via-else-count-gt0 w ↦ absurd (omega (arith, w.if-count-gt0.false, e))
    ])
    (λ front top s. absurd (not-empty front top (sym s ∙ c.in-None.ensures)))
    c.requires.count
