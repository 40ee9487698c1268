use Rattle.std.proofs.Common.{◌≡◌, ◌∙◌, ℕ, List, [], ◌∷◌, ◌++◌, length, ap, arith}
use Rattle.std.proofs.lemmas.Grind.{common_steps}
use Rattle.std.proofs.lemmas.List.{length-append}
use Rattle.pair_split.specs.Tutte.{Node}
use Rattle.skeletons.specs.Families.{skeleton_graph, system_at}
use Rattle.skeleton_planes.proofs.Followed.{follows-plane_back}
use Rattle.skel_decompose.proofs.Stepped.{steps-push}
use Rattle.face_weights.specs.Numbers.{NumberFaces}
use Rattle.long_face.proofs.numbers.present_faces.Goals as goal

-- the numbers of one node more
pub loop-k-preserved : goal.loop-k-preserved
loop-k-preserved c =
    let s = c.args.p.now in
    let own = c.numbers_at.new.own.items in
    let new : c.push.new.self ≡ c.loop-k.faces ++ own ∷ [] = c.in_ok-push.ensures ∙ ap (λ (z : List ℕ). c.loop-k.faces ++ z ∷ []) c.deref.ensures.value in (
      omega (arith, c.loop-k.invariant.0, ap length new, length-append c.loop-k.faces (own ∷ [])),
      grind (arith, common_steps, c.loop-k.invariant.1),
      λ family f h. steps-push (λ j row. NumberFaces (skeleton_graph s.tree j) (system_at family j) row) c.loop-k.faces c.push.new.self own c.loop-k.k c.loop-k.invariant.0 (c.loop-k.invariant.2 family f h) new
          (c.in_ok-numbers_at.ensures.numbers family f h),
    )

pub returns : goal.returns
returns c = λ family f h.
    let s = c.args.p.now in
    let p = c.belongs.ensures.plane in
    let count = c.node_count-k-end.ensures ∙ ap (λ (z : List Node). length z) c.tree-2.ensures.value in
    record {
      systems = f;
      plane = follows-plane_back s.graph s.tree c.belongs.ensures.block family f s.rotation p.system h p.plane;
      each = omega (arith, c.loop-k.invariant.0, c.loop-k-test.false, count, c.loop-k.auto);
      numbers = λ k l. c.loop-k.invariant.2 family f h k (omega (arith, l, c.loop-k-test.false, count, c.loop-k.auto));
    }
