-- Each item leads on, or shows that no document goes on.
use Rattle.std.proofs.Common.{◌≡◌, ◌<◌, [], refl, sym, subst, arith, length, vec_len}
use Rattle.std.proofs.lemmas.Bool.{eqb-true, eqb-false}
use Rattle.std.proofs.lemmas.Bool.Decides.{when_true, when_false}
use Rattle.gml_text.specs.Partial.{frames_of, IsClosed, IsTaken, IsTooDeep}
use Rattle.gml_text.specs.Items.{ItemStands, IsShorter}
use Rattle.gml_text.specs.declared.item.Item.{Item}
use Rattle.gml_text.proofs.Frames.{length-frames_onto}
use Rattle.gml_text.proofs.Steps.{advances_pair, advances_close, over_end}
use Rattle.gml_text.proofs.Refusals.{refused_pair, refused_close, refused_stuck, refused_end}
use Rattle.gml_text.proofs.partial.Partial.step.Goals as goal

pub returns-in-Err : goal.returns-in-Err
returns-in-Err c = (refused_stuck c.args.self.now c.args.rest.now c.in-Err.left c.in-Err.ensures.item c.requires, c.in-Err.ensures.within)

pub returns-then-is_empty : goal.returns-then-is_empty
returns-then-is_empty c = (
  over_end c.args.self.now c.args.rest.now
      (omega (arith, length-frames_onto c.args.self.now.open_lists.items [], c.args.self.now.open_lists.ok.0, eqb-true (vec_len c.args.self.now.open_lists) 0 (sym c.if-is_empty.ensures)))
      (subst (λ (i : Item). ItemStands i c.args.rest.now) c.in-End.is c.in-Ok.ensures.item)
      c.requires,
  refl,
)

pub returns-else-is_empty : goal.returns-else-is_empty
returns-else-is_empty c = (
  refused_end c.args.self.now c.args.rest.now
      (omega (arith, length-frames_onto c.args.self.now.open_lists.items [], c.args.self.now.open_lists.ok.0, eqb-false (vec_len c.args.self.now.open_lists) 0 (sym c.if-is_empty.ensures)))
      (subst (λ (i : Item). ItemStands i c.args.rest.now) c.in-End.is c.in-Ok.ensures.item)
      c.requires,
  omega arith,
)

pub returns-then-closed : goal.returns-then-closed
returns-then-closed c =
    advances_close c.args.self.now c.close.new.self c.args.rest.now c.in-Close.after.now
    (subst (λ (i : Item). ItemStands i c.args.rest.now) c.in-Close.is c.in-Ok.ensures.item)
    (when_true (IsClosed c.args.self.now c.close.new.self) (frames_of c.args.self.now ≡ []) c.if-closed.true c.in-Ok-close.ensures)
    c.requires

pub returns-else-closed : goal.returns-else-closed
returns-else-closed c =
    let shorter : length c.in-Close.after.now < length c.args.rest.now = subst (λ (i : Item). IsShorter i c.args.rest.now) c.in-Close.is c.in-Ok.ensures.shorter in (
      refused_close c.args.self.now c.args.rest.now c.in-Close.after.now
          (subst (λ (i : Item). ItemStands i c.args.rest.now) c.in-Close.is c.in-Ok.ensures.item)
          (when_false (IsClosed c.args.self.now c.close.new.self) (frames_of c.args.self.now ≡ []) c.if-closed.false c.in-Ok-close.ensures)
          c.requires,
      omega arith,
    )

pub returns-then-taken : goal.returns-then-taken
returns-then-taken c =
    advances_pair c.in-Pair.key c.in-Pair.found c.in-Pair.behind c.args.self.now c.take_pair.new.self c.args.rest.now
    (subst (λ (i : Item). ItemStands i c.args.rest.now) c.in-Pair.is c.in-Ok.ensures.item)
    (when_true (IsTaken c.in-Pair.key.now c.in-Pair.found c.args.self.now c.take_pair.new.self) (IsTooDeep c.in-Pair.found c.args.self.now) c.if-taken.true c.in-Ok-take_pair.ensures)
    c.requires

pub returns-else-taken : goal.returns-else-taken
returns-else-taken c =
    let shorter : length c.in-Pair.behind.now < length c.args.rest.now = subst (λ (i : Item). IsShorter i c.args.rest.now) c.in-Pair.is c.in-Ok.ensures.shorter in (
      refused_pair c.in-Pair.key c.in-Pair.found c.in-Pair.behind c.args.self.now c.args.rest.now
          (subst (λ (i : Item). ItemStands i c.args.rest.now) c.in-Pair.is c.in-Ok.ensures.item)
          (when_false (IsTaken c.in-Pair.key.now c.in-Pair.found c.args.self.now c.take_pair.new.self) (IsTooDeep c.in-Pair.found c.args.self.now) c.if-taken.false c.in-Ok-take_pair.ensures)
          c.requires,
      omega arith,
    )
