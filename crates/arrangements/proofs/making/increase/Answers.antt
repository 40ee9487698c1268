use Rattle.std.proofs.Common.{◌≡◌, ◌+◌, ℕ, List, sym, ◌∙◌, subst, arith, take, get_or}
use Rattle.std.proofs.Math.ListN.{set, length-set}
use Rattle.std.proofs.lemmas.List.{take-set, get_or-set_same}
use Rattle.arrangements.specs.Options.{follower, IsLeastOption}
use Rattle.arrangements.proofs.Tops.{can-go_on, unopened-after}
use Rattle.arrangements.proofs.Made.{built-take, built-set, agree-before, agree-at}
use Rattle.arrangements.proofs.making.increase.Goals as goal

-- the place is the least of a greater edge of a block not opened
pub option_from-requires-clause-place : goal.option_from-requires-clause-place
option_from-requires-clause-place c =
    unopened-after c.args.tables.now c.lay_first.new.prefix.opened.items (get_or c.args.list.now c.args.place 0) c.place.result c.unopened_from-low.result c.keeps.ensures c.place.ensures.below c.place.ensures.holds
    c.unopened_from-low.ensures.within.0 c.unopened_from-low.ensures.within.1 c.unopened_from-low.ensures.opened c.unopened_from-low.ensures.unopened

-- a greater edge may come
pub option_from-requires-clause-some : goal.option_from-requires-clause-some
option_from-requires-clause-some c =
    let v = c.requires.blocks in
    let built = built-take v.block (follower v.block v.order) c.args.tables.now.edges c.args.list.now c.args.place v.built in
    let g = c.requires.greater v.block v.order v.are v.built in
    can-go_on c.args.tables.now c.lay_first.new.prefix.used.items c.lay_first.new.prefix.opened.items c.lay_first.new.prefix.stack.items (take c.args.place c.args.list.now) v.block v.order (get_or c.args.list.now c.args.place 0 + 1) c.unopened_from-low.result g.greater
    (c.lay_first.ensures.right v.block v.order v.are built)
    (unopened-after c.args.tables.now c.lay_first.new.prefix.opened.items (get_or c.args.list.now c.args.place 0) c.place.result c.unopened_from-low.result c.keeps.ensures c.place.ensures.below c.place.ensures.holds
    c.unopened_from-low.ensures.within.0 c.unopened_from-low.ensures.within.1 c.unopened_from-low.ensures.opened c.unopened_from-low.ensures.unopened)
    g.option (omega (arith, g.above))

-- the list with that edge is built
pub fill-requires-clause-blocks : goal.fill-requires-clause-blocks
fill-requires-clause-blocks c =
    let v = c.requires.blocks in
    let built = built-take v.block (follower v.block v.order) c.args.tables.now.edges c.args.list.now c.args.place v.built in
    let w = c.option_from.ensures (take c.args.place c.args.list.now) c.lay_first.ensures in
    record {
      block = v.block;
      order = v.order;
      are = v.are;
      built = built-set v.block (follower v.block v.order) c.args.tables.now.edges c.args.list.now c.args.place c.option_from.result c.requires.place built (w.0 v.block v.order v.are built).option;
    }

-- the least greater edge, and the least ones after it
pub returns-clause-increased : goal.returns-clause-increased
returns-clause-increased c = λ block order a b.
    let l : List ℕ = c.args.list.now in
    let y : ℕ = c.option_from.result in
    let edges : List ℕ = c.args.tables.now.edges in
    let w = c.option_from.ensures (take c.args.place l) c.lay_first.ensures in
    let built = built-take block (follower block order) edges l c.args.place b in
    let at : get_or c.fill.new.list c.args.place 0 ≡ y = agree-at c.fill.new.list (set l c.args.place y) c.args.place c.fill.ensures.before ∙ get_or-set_same l c.args.place y 0 c.requires.place in
    record {
      same_length = omega (arith, c.fill.auto.list, length-set l c.args.place y);
      same_before = agree-before c.fill.new.list (set l c.args.place y) c.args.place c.fill.ensures.before ∙ take-set l c.args.place y;
      greater = subst (IsLeastOption block (follower block order) edges (take c.args.place l) (get_or l c.args.place 0 + 1)) (sym at) (w.0 block order a built);
      filled = c.fill.ensures.filled block order a (built-set block (follower block order) edges l c.args.place y c.requires.place built (w.0 block order a built).option);
    }
