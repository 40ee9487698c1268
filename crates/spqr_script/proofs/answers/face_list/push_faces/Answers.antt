use Rattle.std.proofs.Common.{◌<◌, All, sym, subst, ℕ, length}
use Rattle.spqr_script.proofs.Within.{face-within, IsPairOf}
use Rattle.spqr_script.proofs.answers.face_list.push_faces.Goals as goal

pub push_face-requires : goal.push_face-requires
push_face-requires c =
    let g = c.args.part.now.graph in
    let within : c.loop-i.i < length c.args.f.now = subst (λ (n : ℕ). c.loop-i.i < n) c.count-i-end.ensures c.loop-i-test.true in
    subst (All (IsPairOf g)) (sym c.face.ensures) (face-within g c.args.f.now c.loop-i.i c.graph.ensures.numbered.is_graph c.requires within)
