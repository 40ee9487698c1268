use Rattle.std.proofs.Common.{◌≡◌, ◌+◌, ℕ, List, length, sym, ap, ◌∙◌, subst, arith, Contains}
use Rattle.choice_lists.specs.Order.{IsAt}
use Rattle.choice_lists.specs.Products.{IsLast}
use Rattle.arrangements.specs.Arranged.{IsArrangement, arrangements_at}
use Rattle.arrangements.proofs.Laws.{arrangements_are_listed}
use Rattle.whole_embed.specs.Around.{edges_around, block_with, block_order}
use Rattle.whole_embed.specs.Cuts.{blocks_in}
use Rattle.whole_embed.specs.Keeping.{KeepsTables}
use Rattle.whole_embed.proofs.Assembly.{assembled}
use Rattle.whole_embed.proofs.FrameFacts.{written-back}
use Rattle.whole_embed.proofs.tables.next_at.Goals as goal

pub next-requires : goal.next-requires
next-requires c =
    let k = c.args.frame.now in
    let v = c.args.v in
    let block = block_with k in
    let order = block_order (blocks_in c.args.all.now) v in
    let a = assembled k (blocks_in c.args.all.now) c.requires.component in
    let is = ((arrangements_are_listed block order (edges_around k v) (a.orders v (a.cuts_in v c.requires.vertex))).exactly c.args.list.now.items).0 c.requires.arranged in
    record {
      block = block;
      order = order;
      are = c.renew.ensures.renewed;
      arranged = subst (λ (es : List ℕ). IsArrangement block order es c.deref_mut.result.now) (sym c.renew.ensures.tables.edges) (subst (IsArrangement block order (edges_around k v)) (sym c.deref_mut.ensures.value) is);
    }

pub returns-clause-next : goal.returns-clause-next
returns-clause-next c t i at =
    let k = c.args.frame.now in
    let block = block_with k in
    let order = block_order (blocks_in c.args.all.now) c.args.v in
    let before : IsAt (arrangements_at block order c.renew.new.orders.edges) i c.deref_mut.result.now =
    subst (λ (es : List ℕ). IsAt (arrangements_at block order es) i c.deref_mut.result.now) (sym c.renew.ensures.tables.edges) (subst (IsAt (arrangements_at block order (edges_around k c.args.v)) i) (sym c.deref_mut.ensures.value) at) in
    let after : IsAt (arrangements_at block order (edges_around k c.args.v)) (i + 1) c.next.new.list =
    subst (λ (es : List ℕ). IsAt (arrangements_at block order es) (i + 1) c.next.new.list) c.renew.ensures.tables.edges (c.next.ensures.next t block order c.renew.ensures.renewed i before) in
    subst (IsAt (arrangements_at block order (edges_around k c.args.v)) (i + 1))
    (sym (written-back c.args.list.now.len c.args.list.now.items c.next.new.list (omega (arith, c.next.auto.list, ap length c.deref_mut.ensures.value, c.args.list.now.ok.0)))) after

pub returns-clause-last : goal.returns-clause-last
returns-clause-last c f =
    let k = c.args.frame.now in
    let block = block_with k in
    let order = block_order (blocks_in c.args.all.now) c.args.v in
    let there : Contains (arrangements_at block order c.renew.new.orders.edges) c.deref_mut.result.now =
    subst (λ (es : List ℕ). Contains (arrangements_at block order es) c.deref_mut.result.now) (sym c.renew.ensures.tables.edges) (subst (Contains (arrangements_at block order (edges_around k c.args.v))) (sym c.deref_mut.ensures.value) c.requires.arranged) in
    subst (IsLast (arrangements_at block order (edges_around k c.args.v))) c.deref_mut.ensures.value
    (subst (λ (es : List ℕ). IsLast (arrangements_at block order es) c.deref_mut.result.now) c.renew.ensures.tables.edges (c.next.ensures.last f block order c.renew.ensures.renewed there))

pub returns-clause-as_before : goal.returns-clause-as_before
returns-clause-as_before c f =
    written-back c.args.list.now.len c.args.list.now.items c.next.new.list (omega (arith, c.next.auto.list, ap length c.deref_mut.ensures.value, c.args.list.now.ok.0))
    ∙ (c.next.ensures.unchanged f ∙ c.deref_mut.ensures.value)

pub returns-clause-long : goal.returns-clause-long
returns-clause-long c =
    let each : length c.next.new.list ≡ length c.args.list.now.items = omega (arith, c.next.auto.list, ap length c.deref_mut.ensures.value) in
    ap length (written-back c.args.list.now.len c.args.list.now.items c.next.new.list (omega (arith, each, c.args.list.now.ok.0))) ∙ each

pub returns-clause-tables : goal.returns-clause-tables
returns-clause-tables c = subst (KeepsTables c.args.frame.now c.args.v) (sym c.next.ensures.tables) c.renew.ensures.tables
