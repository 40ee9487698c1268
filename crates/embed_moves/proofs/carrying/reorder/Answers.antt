use Rattle.std.proofs.Common.{nat_eq, sym, ◌∙◌, subst}
use Rattle.std.proofs.lemmas.Bool.{not-false}
use Rattle.std.specs.Cmp.Lexicographic.{pointwise, same_text}
use Rattle.skeletons.specs.Moves.{permute}
use Rattle.skel_embed.specs.Block.{BlockState, IsBlockState}
use Rattle.embed_moves.specs.Made.{IsMade, KeepsOthers}
use Rattle.embed_moves.proofs.Near.{keeps-same, made-near, made-arranged}
use Rattle.embed_moves.proofs.carrying.reorder.Goals as goal
use Rattle.embed_moves.proofs.carrying.reorder.Goals.{then-is_near, else-is_near, then-ne, else-ne}

pub returns : goal.returns
returns c = elim c.if-ne.branch [
  | then-ne w ↦ subst (λ (s : BlockState). IsMade (permute c.args.k c.args.keys.now) c.args.p.now s) (sym w.p-is)
      (made-arranged c.args.p.now c.if-is_near.p w.arrange.new.self c.belongs.ensures c.belongs-2.ensures (subst IsBlockState w.p-is c.belongs-3.ensures) c.args.k c.requires.node c.args.keys.now c.requires.arrangement keeps
      w.arrange.ensures.permute w.arrange.ensures.rest)
  | else-ne w ↦ subst (λ (s : BlockState). IsMade (permute c.args.k c.args.keys.now) c.args.p.now s) (sym w.p-is)
      (made-near c.args.p.now c.if-is_near.p c.belongs.ensures c.belongs-2.ensures c.args.k c.requires.node c.args.keys.now c.requires.arrangement keeps (sym c.keys.ensures ∙ same_text c.keys.result.now c.args.keys.now (sym (not-false (pointwise nat_eq c.keys.result.now c.args.keys.now) (sym w.if-ne.ensures)))))
]
  where
    keeps : KeepsOthers c.args.p.now c.if-is_near.p c.args.k
    keeps = elim c.if-is_near.branch [
      | then-is_near w ↦ subst (λ (s : BlockState). KeepsOthers c.args.p.now s c.args.k) (sym w.p-is) w.exchange_towards.ensures
      | else-is_near w ↦ subst (λ (s : BlockState). KeepsOthers c.args.p.now s c.args.k) (sym w.p-is) (keeps-same c.args.p.now c.args.k)
    ]
