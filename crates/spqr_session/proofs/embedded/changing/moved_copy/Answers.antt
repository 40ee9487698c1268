use Rattle.std.proofs.Common.{◌≡◌, ◌+◌, ◌<◌, ◌∙◌, ℕ, suc, List, [], ◌∷◌, add-one, get_or, length, drop, drop-cons, refl, sym, ap, ap₂, subst, arith, All}
use Rattle.std.proofs.lemmas.List.{drop_all}
use Rattle.std.proofs.lemmas.List.Elements.{All-head, All-tail}
use Rattle.pair_split.specs.Tutte.{Node}
use Rattle.skeletons.specs.Moves as theory
use Rattle.skel_embed.specs.Block.{BlockState}
use Rattle.skel_embed.specs.Values.{as_move, as_moves}
use Rattle.moves.specs.declared.values.Move.{Move}
use Rattle.embed_moves.specs.Made.{Fits}
use Rattle.spqr_session.specs.Moved.{moved, all_moved}
use Rattle.spqr_session.proofs.embedded.changing.moved_copy.Goals as goal

-- the move at a place, and those after it
next-one : (moves : List Move) (i : ℕ) (m : Move) → i < length moves → m ≡ get_or moves i m → as_moves (drop i moves) ≡ as_move m ∷ as_moves (drop (i + 1) moves)
next-one moves i m l e =
    let cut : drop i moves ≡ m ∷ drop (i + 1) moves = rw add-one (drop-cons moves i m l ∙ ap (λ (x : Move). x ∷ drop (suc i) moves) (sym e)) in
    ap as_moves cut

pub loop-one-init : goal.loop-one-init
loop-one-init c =
    let p : BlockState = c.args.plane.now in
    let e : c.in_ok-copy.copy ≡ p = c.in_ok-copy.ensures {u = tt} in
    record {
      right = subst (λ (l : List Move). All (Fits p.tree) (as_moves l)) (sym c.as_slice-one-items.ensures) c.requires;
      rest = subst (λ (z : BlockState). z ≡ record p { rotation = z.rotation; choices = z.choices }) (sym e) refl;
      made = ap₂ (λ (l : List Move) (z : BlockState). all_moved p.tree (as_moves l) z.rotation) c.as_slice-one-items.ensures e;
    }

pub carry_one-requires : goal.carry_one-requires
carry_one-requires c =
    let p : BlockState = c.args.plane.now in
    let items = c.as_slice-one-items.result.now in
    let i : ℕ = c.loop-one.one-index in
    let m : Move = c.one-item.result in
    let fit = subst (All (Fits p.tree)) (next-one items i m c.loop-one-test.true c.one-item.is) c.loop-one.invariant.right in
    subst (λ (t : List Node). Fits t (as_move m)) (sym (ap (λ (z : BlockState). z.tree) c.loop-one.invariant.rest)) (All-head (Fits p.tree) (as_move m) (as_moves (drop (i + 1) items)) fit)

pub loop-one-preserved : goal.loop-one-preserved
loop-one-preserved c =
    let p : BlockState = c.args.plane.now in
    let items = c.as_slice-one-items.result.now in
    let i : ℕ = c.loop-one.one-index in
    let m : Move = c.one-item.result in
    let copy : BlockState = c.loop-one.copy in
    let new : BlockState = c.carry_one.new.plane in
    let was = c.loop-one.invariant in
    let next = next-one items i m c.loop-one-test.true c.one-item.is in
    let tree : copy.tree ≡ p.tree = ap (λ (z : BlockState). z.tree) was.rest in
    let turned : new.rotation ≡ moved p.tree (as_move m) copy.rotation = ap (λ (z : BlockState). z.rotation) c.carry_one.ensures ∙ ap (λ (t : List Node). moved t (as_move m) copy.rotation) tree in
    record {
      right = All-tail (Fits p.tree) (as_move m) (as_moves (drop (i + 1) items)) (subst (All (Fits p.tree)) next was.right);
      rest = subst (λ (z : BlockState). z ≡ record p { rotation = z.rotation; choices = z.choices }) (sym c.carry_one.ensures)
          (ap (λ (z : BlockState). record z { rotation = moved copy.tree (as_move m) copy.rotation; choices = new.choices }) was.rest);
      made = ap (all_moved p.tree (as_moves (drop (i + 1) items))) turned ∙ sym (ap (λ (ms : List theory.Move). all_moved p.tree ms copy.rotation) next) ∙ was.made;
    }

pub returns : goal.returns
returns c =
    let p : BlockState = c.args.plane.now in
    let copy : BlockState = c.loop-one.copy in
    let was = c.loop-one.invariant in
    let items = c.as_slice-one-items.result.now in
    let none : drop c.loop-one.one-index items ≡ [] = drop_all c.loop-one.one-index items (omega (arith, c.loop-one-test.false)) in
    was.rest ∙ ap (λ (r : List (List ℕ)). record p { rotation = r; choices = copy.choices }) (sym (ap (λ (ms : List Move). all_moved p.tree (as_moves ms) copy.rotation) none) ∙ was.made)
