use Rattle.std.proofs.Common.{ℕ, cond, List, sym, ap}
use Rattle.std.specs.Prelude.{Option}
use Rattle.pair_split.specs.Tutte.{node_at, node_item}
use Rattle.skeletons.specs.Choices.{choice}
use Rattle.long_face.specs.Settled.{has_want, want_or}
use Rattle.long_face.specs.Wanted.{Want, wanted_choice}
use Rattle.long_face.proofs.Changes.{towards-kept}
use Rattle.long_face.proofs.moving.move_at.Goals as goal

pub returns-in-None : goal.returns-in-None
returns-in-None c =
    let s = c.args.p.now in
    let key : ℕ → ℕ = λ i. (node_item s.tree c.args.k i).key in
    let present = choice s.tree s.rotation c.args.k in
    let target : Option Want → List ℕ = λ o. cond (has_want o) (wanted_choice (node_at s.tree c.args.k).kind key present (want_or o)) present in
    sym (towards-kept s.tree s.rotation c.args.k (target c.args.own) (sym (ap target c.in-None.is)))
