use Rattle.std.proofs.Common.{◌<◌, sym, subst}
use Rattle.skeletons.proofs.Vertices.{vertex-in}
use Rattle.skel_compose.proofs.sums.end_sums.Goals as goal

pub clear-requires-clause-within : goal.clear-requires-clause-within
clear-requires-clause-within c = λ v h.
    let y = c.requires.block in
    subst (λ n. v < n) (sym y.3) (vertex-in y.0 c.args.tree.now y.1 c.args.k v h)
