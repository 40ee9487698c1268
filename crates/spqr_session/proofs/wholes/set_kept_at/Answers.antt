use Rattle.std.proofs.Common.{◌≡◌, ℕ, List, None, Some, true, slice_index, slice_index_or, sym, ap, ◌∙◌, subst}
use Rattle.permutations.specs.Members.{is_member}
use Rattle.permutations.proofs.Arrangements.{member-at}
use Rattle.rotations.specs.Rotation.{IsCyclicOrder}
use Rattle.whole_embed.specs.Component.{Component}
use Rattle.whole_embed.specs.Around.{edges_around}
use Rattle.whole_embed.specs.Cuts.{set_around}
use Rattle.spqr_session.specs.Wholes.{set_if}
use Rattle.spqr_session.proofs.wholes.set_kept_at.Goals as goal

pub set-requires-clause-vertex : goal.set-requires-clause-vertex
set-requires-clause-vertex c =
    let k = c.args.cuts.now.component in
    let e : slice_index c.cuts.result.now c.args.i ≡ slice_index k.cuts c.args.i = ap (λ (l : List ℕ). slice_index l c.args.i) (c.cuts.ensures.value ∙ ap (λ (x : Component). x.cuts) c.frame.ensures.value) in
    subst (λ (z : ℕ). is_member z k.cuts ≡ true) (sym e) (member-at k.cuts c.args.i 0 c.requires.within)

pub set-requires-clause-edges : goal.set-requires-clause-edges
set-requires-clause-edges c =
    let k = c.args.cuts.now.component in
    let lists = c.args.board.now.lists in
    let e : slice_index c.cuts.result.now c.args.i ≡ slice_index k.cuts c.args.i = ap (λ (l : List ℕ). slice_index l c.args.i) (c.cuts.ensures.value ∙ ap (λ (x : Component). x.cuts) c.frame.ensures.value) in
    subst (λ (z : ℕ). IsCyclicOrder (edges_around k z) c.in-Some.list.now) (sym e) (c.requires.orders c.args.i c.in-Some.list.now c.requires.within (ap (λ (z : ℕ). slice_index_or lists z None) (sym e) ∙ c.in-Some.ensures))

pub returns-in-Some : goal.returns-in-Some
returns-in-Some c =
    let k = c.args.cuts.now.component in
    let lists = c.args.board.now.lists in
    let e : slice_index c.cuts.result.now c.args.i ≡ slice_index k.cuts c.args.i = ap (λ (l : List ℕ). slice_index l c.args.i) (c.cuts.ensures.value ∙ ap (λ (x : Component). x.cuts) c.frame.ensures.value) in
    let told : slice_index_or lists (slice_index k.cuts c.args.i) None ≡ Some c.in-Some.list.now = ap (λ (z : ℕ). slice_index_or lists z None) (sym e) ∙ c.in-Some.ensures in
    c.set.ensures ∙ ap (λ (z : ℕ). set_around c.args.cuts.now z c.in-Some.list.now) e ∙ ap (set_if c.args.cuts.now (slice_index k.cuts c.args.i)) (sym told)

pub returns-in-None : goal.returns-in-None
returns-in-None c =
    let k = c.args.cuts.now.component in
    let lists = c.args.board.now.lists in
    let e : slice_index c.cuts.result.now c.args.i ≡ slice_index k.cuts c.args.i = ap (λ (l : List ℕ). slice_index l c.args.i) (c.cuts.ensures.value ∙ ap (λ (x : Component). x.cuts) c.frame.ensures.value) in
    let told : slice_index_or lists (slice_index k.cuts c.args.i) None ≡ None = ap (λ (z : ℕ). slice_index_or lists z None) (sym e) ∙ c.in-None.ensures in
    ap (set_if c.args.cuts.now (slice_index k.cuts c.args.i)) (sym told)
