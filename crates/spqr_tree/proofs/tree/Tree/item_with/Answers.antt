use Rattle.std.proofs.Common.{◌≡◌, ◌<◌, ℕ, List, [], length, subst, sym, ◌∙◌, arith}
use Rattle.std.proofs.lemmas.List.{get_or_read}
use Rattle.std.specs.List.Sorted.{IsNonDecreasingBy}
use Rattle.multigraph.specs.Graph.{edge_count}
use Rattle.pair_split.specs.Tutte.{Node}
use Rattle.spqr_tree.specs.Tour.{AreToured, place_of, bounds_of}
use Rattle.spqr_tree.proofs.UpLinks.{first-in}
use Rattle.spqr_tree.proofs.Intervals.{bounds-sorted, edge-place, found-here, found-first}
use Rattle.spqr_tree.proofs.tree.Tree.item_with.Goals as goal
use Rattle.spqr_tree.specs.Absent.{absent}

-- the edge has a place
pub index-place-requires : goal.index-place-requires
index-place-requires c =
    let t = c.requires.tree in
    let few : 0 < edge_count t.0 = omega (arith, t.3) in
    let a : AreToured c.args.self.now c.self.inside.places.items c.self.inside.bounds.items = subst (λ (z : List Node). AreToured z c.self.inside.places.items c.self.inside.bounds.items) c.self.view_is c.self.invariant.1 in
    omega (arith, edge-place t.0 c.args.self.now t.2 few c.self.inside.places.items c.self.inside.bounds.items a c.args.e t.3, c.self.inside.places.ok.0)

-- the bounds rise
pub bounds_up_to-i-requires : goal.bounds_up_to-i-requires
bounds_up_to-i-requires c =
    let t = c.requires.tree in
    let few : 0 < edge_count t.0 = omega (arith, t.3) in
    let a : AreToured c.args.self.now c.self.inside.places.items c.self.inside.bounds.items = subst (λ (z : List Node). AreToured z c.self.inside.places.items c.self.inside.bounds.items) c.self.view_is c.self.invariant.1 in
    let l : c.args.k < length c.self.inside.bounds.items = omega (arith, a.number, c.requires.node) in
    let list : c.as_slice.result.now ≡ bounds_of c.self.inside.bounds.items c.args.k = c.as_slice.ensures ∙ get_or_read c.self.inside.bounds.items c.args.k c.index.result.now l c.index.ensures [] in
    subst (λ (z : List ℕ). IsNonDecreasingBy (λ x. x) z) (sym list) (bounds-sorted t.0 c.args.self.now t.2 few c.self.inside.places.items c.self.inside.bounds.items a c.args.k)

-- an item is found
pub returns-then-i-items-clause-key : goal.returns-then-i-items-clause-key
returns-then-i-items-clause-key c =
    let t = c.requires.tree in
    let few : 0 < edge_count t.0 = omega (arith, t.3) in
    let a : AreToured c.args.self.now c.self.inside.places.items c.self.inside.bounds.items = subst (λ (z : List Node). AreToured z c.self.inside.places.items c.self.inside.bounds.items) c.self.view_is c.self.invariant.1 in
    let l : c.args.k < length c.self.inside.bounds.items = omega (arith, a.number, c.requires.node) in
    let list : c.as_slice.result.now ≡ bounds_of c.self.inside.bounds.items c.args.k = c.as_slice.ensures ∙ get_or_read c.self.inside.bounds.items c.args.k c.index.result.now l c.index.ensures [] in
    let place : c.index-place.result.now ≡ place_of c.self.inside.places.items c.args.e = get_or_read c.self.inside.places.items c.args.e c.index-place.result.now (edge-place t.0 c.args.self.now t.2 few c.self.inside.places.items c.self.inside.bounds.items a c.args.e t.3) c.index-place.ensures absent in
    found-here t.0 c.args.self.now t.2 few c.self.inside.places.items c.self.inside.bounds.items a c.args.k c.args.e c.bounds_up_to-i.result c.index-place.result.now c.as_slice.result.now c.items.result.now c.requires.node t.3 place list c.items.ensures
    c.bounds_up_to-i.ensures.up_to c.bounds_up_to-i.ensures.above c.bounds_up_to-i.ensures.within c.if-i-items.true

-- none is: the edge is beyond the first
pub returns-else-i-items-clause-key : goal.returns-else-i-items-clause-key
returns-else-i-items-clause-key c =
    let t = c.requires.tree in
    let few : 0 < edge_count t.0 = omega (arith, t.3) in
    let a : AreToured c.args.self.now c.self.inside.places.items c.self.inside.bounds.items = subst (λ (z : List Node). AreToured z c.self.inside.places.items c.self.inside.bounds.items) c.self.view_is c.self.invariant.1 in
    let l : c.args.k < length c.self.inside.bounds.items = omega (arith, a.number, c.requires.node) in
    let list : c.as_slice.result.now ≡ bounds_of c.self.inside.bounds.items c.args.k = c.as_slice.ensures ∙ get_or_read c.self.inside.bounds.items c.args.k c.index.result.now l c.index.ensures [] in
    let place : c.index-place.result.now ≡ place_of c.self.inside.places.items c.args.e = get_or_read c.self.inside.places.items c.args.e c.index-place.result.now (edge-place t.0 c.args.self.now t.2 few c.self.inside.places.items c.self.inside.bounds.items a c.args.e t.3) c.index-place.ensures absent in
    found-first t.0 c.args.self.now t.2 few c.self.inside.places.items c.self.inside.bounds.items a c.args.k c.args.e c.bounds_up_to-i.result c.index-place.result.now c.as_slice.result.now c.items.result.now c.requires.node t.3 place list c.items.ensures
    c.bounds_up_to-i.ensures.up_to c.bounds_up_to-i.ensures.above c.bounds_up_to-i.ensures.within c.if-i-items.false

pub returns-else-i-items-clause-within : goal.returns-else-i-items-clause-within
returns-else-i-items-clause-within c =
    let t = c.requires.tree in
    first-in t.0 c.args.self.now t.2 (omega (arith, t.3)) c.args.k c.requires.node
