use Rattle.std.proofs.Common.{◌≡◌, ℕ, ◌∷◌, ◌++◌, [], List, length, map, sym, ap, ◌∙◌, arith, append-nil}
use Rattle.std.proofs.lemmas.List.{append_assoc, map-append, nil_from_length}
use Rattle.moves.specs.declared.values.Move.{Move}
use Rattle.skel_embed.specs.Values.{as_move, as_moves}
use Rattle.whole_convert.specs.declared.steps.WholeMove.{WholeMove}
use Rattle.whole_convert.specs.declared.steps.WholeMove.TheVariants.{Block}
use Rattle.whole_convert.specs.Between.{WholeStep, move_block, as_step, as_steps}
use Rattle.whole_convert.proofs.moving.add_moves.Goals as goal

-- one move more is appended
one-more : (b : ℕ) (one : Move) (left rest : List Move) (old new : List WholeMove) → left ≡ one ∷ rest → new ≡ old ++ Block b one ∷ [] → as_steps new ++ map (move_block b) (as_moves rest) ≡ as_steps old ++ map (move_block b) (as_moves left)
one-more b one left rest old new l n =
    ap (λ (z : List WholeMove). as_steps z ++ map (move_block b) (as_moves rest)) n
    ∙ (ap (λ (z : List WholeStep). z ++ map (move_block b) (as_moves rest)) (map-append as_step old (Block b one ∷ []))
    ∙ (append_assoc (as_steps old) (move_block b (as_move one) ∷ []) (map (move_block b) (as_moves rest))
    ∙ ap (λ (z : List Move). as_steps old ++ map (move_block b) (as_moves z)) (sym l)))

pub loop-one-init : goal.loop-one-init
loop-one-init c = ap (λ (z : List Move). as_steps c.args.list.now.items ++ map (move_block c.args.b) (as_moves z)) c.into_iter-one-iterator.ensures.into_iter_gives.0

pub loop-one-preserved : goal.loop-one-preserved
loop-one-preserved c = one-more c.args.b c.in-Some.one c.loop-one.one-iterator.rest.items c.next.new.self.rest.items c.loop-one.list.items c.push.new.self.items c.in-Some.ensures.steps.0 c.in_ok-push.ensures.items ∙ c.loop-one.invariant

pub returns : goal.returns
returns c =
    let none : length c.loop-one.one-iterator.rest.items ≡ 0 = omega (arith, c.in-None.ensures.steps.0, c.loop-one.one-iterator.rest.ok.0) in
    sym (append-nil (as_steps c.loop-one.list.items))
    ∙ (ap (λ (z : List Move). as_steps c.loop-one.list.items ++ map (move_block c.args.b) (as_moves z)) (sym (nil_from_length c.loop-one.one-iterator.rest.items none))
    ∙ c.loop-one.invariant)
