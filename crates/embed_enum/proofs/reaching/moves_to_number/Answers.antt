use Rattle.std.proofs.Common.{◌≡◌, ◌+◌, ◌-◌, ◌/◌, ◌%◌, ◌<◌, ◌∷◌, ◌∙◌, ℕ, List, [], length, sym, ap, subst, arith}
use Rattle.std.specs.Global.{Vec}
use Rattle.std.proofs.lemmas.List.{map-append}
use Rattle.skel_embed.specs.Block.{BlockState, lock_at}
use Rattle.skel_embed.specs.Values.{as_move, as_moves}
use Rattle.skel_embed.specs.declared.Move.{Move}
use Rattle.embed_enum.specs.Digits.{radix_at}
use Rattle.embed_enum.specs.Changes.{IsMoveTo}
use Rattle.embed_enum.specs.Walk.{IsAtRank, AreMovesTo}
use Rattle.embed_enum.proofs.Counts.{radix-positive}
use Rattle.embed_enum.proofs.Leads.{some-held, none-held}
use Rattle.embed_enum.proofs.Reaches.{AreNumberedBy, reach-begins, reach-kept, reach-more, reach-ends}
use Rattle.embed_enum.proofs.States.{radix-fits}
use Rattle.embed_enum.proofs.reaching.moves_to_number.Goals as goal
use Rattle.embed_enum.proofs.reaching.moves_to_number.Goals.{in-Some+in_ok-push, in_default}

pub loop-k-init : goal.loop-k-init
loop-k-init c =
    let p : BlockState = c.args.p.now in
    let number : ℕ = c.args.number in
    subst (λ (z : List Move). AreNumberedBy p c.node_count-k.result number number (as_moves z)) (sym c.new-moves.ensures.items)
    (subst (λ (n : ℕ). AreNumberedBy p n number number []) (sym (c.node_count-k.ensures ∙ ap length c.tree.ensures.value)) (reach-begins p c.belongs.ensures number c.requires.below))

pub radix-choices-requires-clause-fits : goal.radix-choices-requires-clause-fits
radix-choices-requires-clause-fits c =
    let all = c.loop-k.invariant.numbered.all in
    let f = radix-fits c.args.p.now c.belongs.ensures (c.loop-k.k - 1) (omega (arith, all, c.loop-k-test.true)) in
    omega (arith, f, c.requires.fits)

pub nonzero_div-left : goal.nonzero_div-left
nonzero_div-left c = let p = radix-positive c.args.p.now.tree (lock_at c.args.p.now.locks) (c.loop-k.k - 1) in omega (arith, p, c.radix-choices.ensures)

pub loop-k-preserved : goal.loop-k-preserved
loop-k-preserved c =
    let p : BlockState = c.args.p.now in
    let k : ℕ = c.loop-k.k - 1 in
    let left : ℕ = c.loop-k.left in
    let number : ℕ = c.args.number in
    let moves : List Move = c.loop-k.moves.items in
    let all = c.loop-k.invariant.numbered.all in
    let l : k < length p.tree = omega (arith, all, c.loop-k-test.true) in
    let up : c.loop-k.k ≡ k + 1 = omega (arith, c.loop-k-test.true) in
    let now : AreNumberedBy p (k + 1) left number (as_moves moves) = subst (λ (n : ℕ). AreNumberedBy p n left number (as_moves moves)) up c.loop-k.invariant in
    subst (λ (n : ℕ). AreNumberedBy p k (left / n) number (as_moves c.match-branch-2.moves.items)) (sym c.radix-choices.ensures)
    (elim c.match-branch-2.branch [
      | in-Some+in_ok-push w ↦
          let found = some-held _ _ w.in-Some.is (c.in_ok-one.ensures {u = tt}) in
          subst (λ (z : List Move). AreNumberedBy p k (left / radix_at p.tree (lock_at p.locks) k) number (as_moves z)) (sym (ap (λ (v : Vec Move). v.items) w.moves-is ∙ w.in_ok-push.ensures.items))
          (subst (AreNumberedBy p k (left / radix_at p.tree (lock_at p.locks) k) number) (sym (map-append as_move moves (w.in-Some.one ∷ [])))
          (reach-more p k left number (as_moves moves) l now (as_move w.in-Some.one) found.0 (subst (λ (n : ℕ). IsMoveTo p k (left % n) (as_move w.in-Some.one)) c.radix-choices.ensures found.1)))
      | in_default w ↦
          subst (λ (v : Vec Move). AreNumberedBy p k (left / radix_at p.tree (lock_at p.locks) k) number (as_moves v.items)) (sym w.moves-is)
          (reach-kept p k left number (as_moves moves) l now (none-held _ _ w.in_default.is (c.in_ok-one.ensures {u = tt}) ∙ ap (λ (n : ℕ). left % n) c.radix-choices.ensures))
    ])

pub returns : goal.returns
returns c =
    let p : BlockState = c.args.p.now in
    subst (λ (z : List Move). AreMovesTo p (IsAtRank p c.args.number) (as_moves z)) (sym c.of.ensures)
    (reach-ends p c.belongs.ensures c.loop-k.k c.loop-k.left c.args.number (as_moves c.loop-k.moves.items) (omega (arith, c.loop-k-test.false)) c.loop-k.invariant)
