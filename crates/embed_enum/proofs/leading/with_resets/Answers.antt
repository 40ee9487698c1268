use Rattle.std.proofs.Common.{◌+◌, ◌<◌, ◌∷◌, ◌∙◌, ℕ, List, [], length, sym, ap, subst, arith}
use Rattle.std.specs.Global.{Vec}
use Rattle.std.proofs.lemmas.List.{map-append}
use Rattle.skel_embed.specs.Block.{BlockState}
use Rattle.skel_embed.specs.Values.{as_move, as_moves}
use Rattle.skel_embed.specs.declared.Move.{Move}
use Rattle.embed_enum.specs.Changes.{AreResetBy}
use Rattle.embed_enum.proofs.Leads.{some-held, none-held, led-kept, led-more}
use Rattle.embed_enum.proofs.leading.with_resets.Goals as goal
use Rattle.embed_enum.proofs.leading.with_resets.Goals.{in-Some+in_ok-push, in_default}

pub loop-k-preserved : goal.loop-k-preserved
loop-k-preserved c = λ mid h.
    let p : BlockState = c.args.p.now in
    let k : ℕ = c.loop-k.k in
    let moves : List Move = c.loop-k.moves.items in
    let l : k < length p.tree = omega (arith, c.loop-k-test.true, c.loop-k.auto.k-end, c.node_count-k-end.ensures, ap length c.tree.ensures.value) in
    let now : AreResetBy p mid c.args.from k (as_moves moves) = c.loop-k.invariant mid h in
    elim c.match-branch-2.branch [
      | in-Some+in_ok-push w ↦
          let found = some-held _ _ w.in-Some.is (c.in_ok-one.ensures {u = tt}) in
          subst (λ (z : List Move). AreResetBy p mid c.args.from (k + 1) (as_moves z)) (sym (ap (λ (v : Vec Move). v.items) w.moves-is ∙ w.in_ok-push.ensures.items))
          (subst (AreResetBy p mid c.args.from (k + 1)) (sym (map-append as_move moves (w.in-Some.one ∷ []))) (led-more p mid c.args.from k (as_moves moves) c.loop-k.auto.k l now (as_move w.in-Some.one) found.0 found.1))
      | in_default w ↦ subst (λ (v : Vec Move). AreResetBy p mid c.args.from (k + 1) (as_moves v.items)) (sym w.moves-is) (led-kept p mid c.args.from k (as_moves moves) c.loop-k.auto.k l now (none-held _ _ w.in_default.is (c.in_ok-one.ensures {u = tt})))
    ]
