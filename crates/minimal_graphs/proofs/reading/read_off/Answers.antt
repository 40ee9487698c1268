use Rattle.std.proofs.Common.{◌≡◌, arith, sym, ◌∙◌}
use Rattle.minimal_graphs.proofs.ReadOff.{read-kind, read-branch, read-long, read-joined, read-written}
use Rattle.minimal_graphs.proofs.reading.read_off.Goals as goal

pub paths_between-requires-clause-branches : goal.paths_between-requires-clause-branches
paths_between-requires-clause-branches c =
    let g = c.args.g.now in
    let ok = c.keeps_limits.ensures.graph in
    let sides = c.in_ok-far.ensures in
    let kind_is : c.pattern_of-kind.result ≡ c.requires.0 = c.pattern_of-kind.ensures c.requires.0 (omega (arith, c.len.ensures, c.in_ok-far.far.ok.0, read-kind g ok c.requires c.in_ok-far.far.items sides.0)) in
    let branch_is : c.deref-2.result.now ≡ c.requires.1 = read-branch g ok c.requires c.in_ok-far.far.items c.deref.result.now c.deref-2.result.now sides.0 (c.deref.ensures.value ∙ sides.1) (c.deref-2.ensures.value ∙ c.in_ok-extend_from_slice.ensures.items) in
    read-long g ok c.requires c.pattern_of-kind.result c.deref-2.result.now kind_is branch_is

pub paths_between-requires-clause-joined : goal.paths_between-requires-clause-joined
paths_between-requires-clause-joined c =
    let g = c.args.g.now in
    let ok = c.keeps_limits.ensures.graph in
    let sides = c.in_ok-far.ensures in
    let kind_is : c.pattern_of-kind.result ≡ c.requires.0 = c.pattern_of-kind.ensures c.requires.0 (omega (arith, c.len.ensures, c.in_ok-far.far.ok.0, read-kind g ok c.requires c.in_ok-far.far.items sides.0)) in
    let branch_is : c.deref-2.result.now ≡ c.requires.1 = read-branch g ok c.requires c.in_ok-far.far.items c.deref.result.now c.deref-2.result.now sides.0 (c.deref.ensures.value ∙ sides.1) (c.deref-2.ensures.value ∙ c.in_ok-extend_from_slice.ensures.items) in
    read-joined g ok c.requires c.pattern_of-kind.result c.deref-2.result.now kind_is branch_is

pub returns : goal.returns
returns c =
    let g = c.args.g.now in
    let ok = c.keeps_limits.ensures.graph in
    let sides = c.in_ok-far.ensures in
    let kind_is : c.pattern_of-kind.result ≡ c.requires.0 = c.pattern_of-kind.ensures c.requires.0 (omega (arith, c.len.ensures, c.in_ok-far.far.ok.0, read-kind g ok c.requires c.in_ok-far.far.items sides.0)) in
    let items = c.in_ok-extend_from_slice.ensures.items in
    let branch_is : c.deref-2.result.now ≡ c.requires.1 = read-branch g ok c.requires c.in_ok-far.far.items c.deref.result.now c.deref-2.result.now sides.0 (c.deref.ensures.value ∙ sides.1) (c.deref-2.ensures.value ∙ items) in
    read-written g ok c.requires c.pattern_of-kind.result c.deref-2.result.now kind_is branch_is c.of.result c.in_ok-paths.paths.items c.of-2.result c.in_ok-paths.ensures (c.of.ensures ∙ sym c.deref-2.ensures.value) c.of-2.ensures
