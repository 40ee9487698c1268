use Rattle.std.proofs.Common.{All, ◌≡◌, ◌<◌, ◌∙◌, sym, subst, ℕ, List, [], length}
use Rattle.std.proofs.lemmas.List.{get_or_read}
use Rattle.multigraph.specs.Graph.{edge_count}
use Rattle.kuratowski.specs.Subdivision.{path_at, pattern_edges}
use Rattle.spqr_script.proofs.Within.{path-within}
use Rattle.spqr_script.proofs.nonplanar.push_paths.Goals as goal

pub push_path-requires-clause-edges : goal.push_path-requires-clause-edges
push_path-requires-clause-edges c =
    let g = c.args.part.now.graph in
    let k = c.loop-k.k in
    let paths : List (List ℕ) = c.args.paths.now in
    let pairs = pattern_edges c.args.kind in
    let within : k < length pairs = subst (λ ps. k < length ps) c.edges-pair-items.ensures c.loop-k-test.true in
    let there : k < length paths = subst (λ (n : ℕ). k < n) (sym c.requires.one_each) within in
    let is : c.as_slice-path.result.now ≡ path_at paths k = c.as_slice-path.ensures ∙ get_or_read paths k c.index-paths-k.result there c.index-paths-k.is [] in
    subst (All (λ e. e < edge_count g)) (sym is) (path-within g c.args.kind c.args.branch.now paths k c.requires within)
