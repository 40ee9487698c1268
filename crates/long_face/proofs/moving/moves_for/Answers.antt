use Rattle.std.proofs.Common.{ℕ, List, map, ap, ◌∙◌}
use Rattle.std.specs.Prelude.{option_to_list}
use Rattle.std.proofs.lemmas.List.{map-append}
use Rattle.skel_embed.specs.Values.{as_move}
use Rattle.long_face.specs.Settled.{has_want, want_or, want_at}
use Rattle.long_face.specs.Wanted.{choice_wanted}
use Rattle.long_face.proofs.Greatest.{towards-more}
use Rattle.long_face.proofs.moving.moves_for.Goals as goal

pub loop-k-preserved : goal.loop-k-preserved
loop-k-preserved c =
    let s = c.args.p.now in
    let keys : ℕ → List ℕ = choice_wanted s.tree s.rotation (λ k. has_want (want_at c.args.wants.now k)) (λ k. want_or (want_at c.args.wants.now k)) in
    ap (map as_move) (c.in_ok-add.ensures {u = tt}) ∙ map-append as_move c.loop-k.list.items (option_to_list c.in_ok-move_at.field-0)
    ∙ towards-more s.tree s.rotation keys c.loop-k.k (map as_move c.loop-k.list.items) (map as_move (option_to_list c.in_ok-move_at.field-0)) c.loop-k.invariant (c.in_ok-move_at.ensures {u = tt})
