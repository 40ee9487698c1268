use Rattle.std.proofs.Common.{◌≡◌, ◌<◌, ◌+◌, ◌-◌, ℕ, List, sym, ◌∙◌, subst, arith, inl, inr, take, get_or, length}
use Rattle.std.proofs.Math.ListN.{set, length-set}
use Rattle.std.proofs.lemmas.Bool.{cases_lt}
use Rattle.std.proofs.lemmas.List.{length-take-le, take-set-le}
use Rattle.arrangements.specs.Options.{follower, IsBuilt, IsLeastOption}
use Rattle.arrangements.proofs.Built.{option-exists}
use Rattle.arrangements.proofs.Tops.{can-go_on}
use Rattle.arrangements.proofs.Made.{built-filled, built-set, least-kept, least-put}
use Rattle.arrangements.proofs.making.fill.Goals as goal

-- some edge may come
pub option_from-requires-clause-some : goal.option_from-requires-clause-some
option_from-requires-clause-some c =
    let v = c.loop-i.invariant.built in
    let l : List ℕ = c.loop-i.list in
    let i : ℕ = c.loop-i.i in
    let short : length (take i l) < length c.args.tables.now.edges = omega (arith, length-take-le i l (omega (arith, c.loop-i-test.true)), c.loop-i.invariant.size, c.loop-i-test.true) in
    let e = option-exists v.block v.order c.args.tables.now.edges v.are.orders (take i l) v.built short in
    can-go_on c.args.tables.now c.loop-i.prefix.used.items c.loop-i.prefix.opened.items c.loop-i.prefix.stack.items (take i l) v.block v.order 0 c.unopened_from-low.result e.0
    (c.loop-i.invariant.noted.right v.block v.order v.are v.built)
    (record {
      within = c.unopened_from-low.ensures.within.1;
      before = λ p h f. elim (cases_lt p c.loop-i.low) [
        | inl below ↦ c.loop-i.invariant.opened p (omega arith) below
        | inr above ↦ c.unopened_from-low.ensures.opened p above h
      ];
      here = λ h. (c.unopened_from-low.ensures.unopened h, omega arith);
    }) e.1 (omega arith)

-- one place more
pub loop-i-preserved : goal.loop-i-preserved
loop-i-preserved c =
    let v = c.loop-i.invariant.built in
    let l : List ℕ = c.loop-i.list in
    let i : ℕ = c.loop-i.i in
    let y : ℕ = c.option_from.result in
    let edges : List ℕ = c.args.tables.now.edges in
    let inside : i < length l = omega (arith, c.loop-i-test.true, c.loop-i.invariant.size, c.requires.all) in
    let w = c.option_from.ensures (take i l) c.loop-i.invariant.noted in
    record {
      size = length-set l i y ∙ c.loop-i.invariant.size;
      before = take-set-le c.args.from l i y (omega (arith, c.loop-i.auto.i)) ∙ c.loop-i.invariant.before;
      noted = c.lay.ensures.noted;
      low = c.unopened_from-low.ensures.within.1;
      opened = λ p g h. c.lay.ensures.opened (get_or c.args.tables.now.ranks p 0) (elim (cases_lt p c.loop-i.low) [
        | inl below ↦ c.loop-i.invariant.opened p g below
        | inr above ↦ c.unopened_from-low.ensures.opened p above h
      ]);
      built = record {
        block = v.block;
        order = v.order;
        are = v.are;
        built = built-set v.block (follower v.block v.order) edges l i y inside v.built (w.0 v.block v.order v.are v.built).option;
      };
      filled = λ block order a b j g h. elim (cases_lt j i) [
        | inl below ↦ least-kept block (follower block order) edges l i y j 0 below (c.loop-i.invariant.filled block order a b j g below)
        | inr above ↦
            let e : i ≡ j = omega (arith, above, h) in
            let k : c.args.from + (i - c.args.from) ≡ i = omega (arith, c.loop-i.auto.i) in
            let built : IsBuilt block (follower block order) edges (take i l) = subst (λ (n : ℕ). IsBuilt block (follower block order) edges (take n l)) k
            (built-filled block (follower block order) edges l c.args.from (i - c.args.from) (omega (arith, k, inside)) (subst (IsBuilt block (follower block order) edges) (sym c.loop-i.invariant.before) b)
            (λ m p q. c.loop-i.invariant.filled block order a b m p (omega (arith, q, k)))) in
            subst (λ (n : ℕ). IsLeastOption block (follower block order) edges (take n (set l i y)) 0 (get_or (set l i y) n 0)) e (least-put block (follower block order) edges l i y 0 inside (w.0 block order a built))
      ];
    }
