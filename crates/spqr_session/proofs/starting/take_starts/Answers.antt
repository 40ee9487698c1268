use Rattle.std.proofs.Common.{◌<◌, ℕ, List, length, sym, subst}
use Rattle.spqr_session.specs.Embedded.{BlockView, view_at}
use Rattle.spqr_session.specs.Start.{start_entries, IsStartRefusal}
use Rattle.spqr_session.specs.Starting.{IsReadyFor, IsBlockTaken, IsGenusRefusal}
use Rattle.spqr_session.proofs.BlockTrees.{view-at}
use Rattle.spqr_session.proofs.StartSteps.{first-stay, start-arranges, next-there, next-lists, next-ready, next-started, next-refused, err-from}
use Rattle.spqr_session.proofs.starting.take_starts.Goals as goal

pub returns-then-not-has_start-clause-started : goal.returns-then-not-has_start-clause-started
returns-then-not-has_start-clause-started c =
    first-stay c.args.named.now c.args.blocks.now c.args.embedded.now.items c.has_start.ensures.graph c.requires.structure (c.has_start.ensures.none c.if-not-has_start.true) c.requires.first

pub start_block-requires : goal.start_block-requires
start_block-requires c =
    let named = c.args.named.now in
    let structure = c.args.blocks.now in
    let views = c.loop-b.embedded.items in
    let starts = c.loop-b.invariant.0 in
    let told = c.loop-b.invariant.1 in
    let below = c.loop-b.invariant.2 in
    let l : c.loop-b.b < length structure.blocks = subst (λ (n : ℕ). c.loop-b.b < n) c.block_count-b-end.ensures c.loop-b-test.true in
    let own = next-lists named structure c.requires.structure starts told c.loop-b.b views below l c.in_ok-lists.lists.items c.index.result.now (c.in_ok-lists.ensures starts told) c.index.ensures in
    let seen = view-at views c.loop-b.b c.index_mut.result.now (next-there named structure c.requires.structure starts told c.loop-b.b views below l) c.index_mut.ensures.value in
    subst (λ (v : BlockView). IsReadyFor c.index.result.now v) (sym seen)
    (subst (λ (e : List (ℕ × List ℕ)). IsReadyFor e (view_at views c.loop-b.b)) (sym own)
    (next-ready named structure c.requires.structure starts told c.loop-b.b views below l c.has_start.ensures.graph (start-arranges named starts c.has_start.ensures.named told)))

pub returns-in_err-start_block-clause-refused : goal.returns-in_err-start_block-clause-refused
returns-in_err-start_block-clause-refused c =
    let named = c.args.named.now in
    let structure = c.args.blocks.now in
    let views = c.loop-b.embedded.items in
    let starts = c.loop-b.invariant.0 in
    let told = c.loop-b.invariant.1 in
    let below = c.loop-b.invariant.2 in
    let l : c.loop-b.b < length structure.blocks = subst (λ (n : ℕ). c.loop-b.b < n) c.block_count-b-end.ensures c.loop-b-test.true in
    let own = next-lists named structure c.requires.structure starts told c.loop-b.b views below l c.in_ok-lists.lists.items c.index.result.now (c.in_ok-lists.ensures starts told) c.index.ensures in
    let seen = view-at views c.loop-b.b c.index_mut.result.now (next-there named structure c.requires.structure starts told c.loop-b.b views below l) c.index_mut.ensures.value in
    let fault = c.in_err-start_block.field-0.0 in
    let refused : IsStartRefusal named fault = next-refused named structure c.requires.structure starts told c.loop-b.b views below l fault
    (subst (λ (v : BlockView). IsGenusRefusal c.loop-b.b (start_entries (view_at views c.loop-b.b).tree.part starts) v fault) seen
    (subst (λ (e : List (ℕ × List ℕ)). IsGenusRefusal c.loop-b.b e c.index_mut.result.now fault) own c.in_err-start_block.ensures.refused)) in
    err-from c.from_residual-in_err-start_block.result fault (IsStartRefusal named) c.from_residual-in_err-start_block.ensures.1 refused

pub loop-b-preserved : goal.loop-b-preserved
loop-b-preserved c =
    let named = c.args.named.now in
    let structure = c.args.blocks.now in
    let views = c.loop-b.embedded.items in
    let starts = c.loop-b.invariant.0 in
    let told = c.loop-b.invariant.1 in
    let below = c.loop-b.invariant.2 in
    let l : c.loop-b.b < length structure.blocks = subst (λ (n : ℕ). c.loop-b.b < n) c.block_count-b-end.ensures c.loop-b-test.true in
    let own = next-lists named structure c.requires.structure starts told c.loop-b.b views below l c.in_ok-lists.lists.items c.index.result.now (c.in_ok-lists.ensures starts told) c.index.ensures in
    let seen = view-at views c.loop-b.b c.index_mut.result.now (next-there named structure c.requires.structure starts told c.loop-b.b views below l) c.index_mut.ensures.value in
    let new = c.start_block.new.block in (
      starts,
      told,
      next-started named structure c.requires.structure starts told c.loop-b.b views below l new
          (subst (λ (v : BlockView). IsBlockTaken (start_entries (view_at views c.loop-b.b).tree.part starts) v new) seen
          (subst (λ (e : List (ℕ × List ℕ)). IsBlockTaken e c.index_mut.result.now new) own c.in_ok-start_block.ensures.taken)),
    )
