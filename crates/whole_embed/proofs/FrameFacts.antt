-- What the code reads of a component and of the blocks in the plane.
use Rattle.std.proofs.Common.{◌≡◌, ℕ, ◌<◌, true, None, Some, Option, List, [], ◌∷◌, ◌++◌, length, map, drop, take, get_or, slice_index, refl, sym, ap, ◌∙◌, subst, arith}
use Rattle.std.specs.List.{slice_get}
use Rattle.std.specs.Option.{IsSome}
use Rattle.std.proofs.lemmas.List.{length-map, get_or_default}
use Rattle.permutations.specs.Members.{is_member, place_of}
use Rattle.permutations.proofs.Members.{member-head}
use Rattle.permutations.proofs.Arrangements.{member-at, permutation-member}
use Rattle.permutations.proofs.Places.{place-below, place-holds}
use Rattle.multigraph.specs.Graph.{Multigraph, edge_count, incident_edges}
use Rattle.multigraph.specs.Part.{GraphPart, Rises, IsNumbered, IsPlace, IsPartOn}
use Rattle.multigraph.proofs.Places.{rises-once}
use Rattle.rotations.specs.Rotation.{order_at, IsRotationSystem}
use Rattle.rotations.proofs.Membership.{member-edge}
use Rattle.blocks.specs.Blocks.{BlockStructure, IsBlockStructure}
use Rattle.skel_embed.specs.Block.{BlockState}
use Rattle.skel_embed.proofs.KeptLists.{take-front}
use Rattle.whole_embed.specs.declared.members.Member.{Member}
use Rattle.whole_embed.specs.Component.{Component, BlockInPlane, component_vertices, component_edges, component_blocks, component_cuts, block_of, component_of}
use Rattle.whole_embed.specs.Around.{outer_at, edges_around, block_with, block_order}
use Rattle.whole_embed.specs.Cuts.{no_part, in_plane, member_at, blocks_in, HavePlanes}
use Rattle.whole_embed.specs.Whole.{first_order}
use Rattle.whole_embed.specs.Frames.{IsFrame}
use Rattle.whole_embed.specs.Keeping.{HasVertex}
use Rattle.whole_embed.proofs.Outer.{place-rising}
use Rattle.whole_embed.proofs.Components.{vertices-rise, cuts-rise, cut-in}
use Rattle.whole_embed.proofs.ComponentBlocks.{part_on-is}
use Rattle.whole_embed.proofs.Assembled.{IsAssembled}

-- what a function wrote to a whole vector, as the vector
pub written-back : (len : ℕ) (old new : List ℕ) → length new ≡ len → take len (new ++ drop (length new) old) ≡ new
written-back len old new h = take-front new (drop (length new) old) len h

-- a member has a place
pub place-some : (l : List ℕ) (x : ℕ) (r : Option ℕ) → IsPlace l x r → is_member x l ≡ true → IsSome r
place-some l x None p m = absurd (p.none.0 refl (place_of l x) (place-below l x m) (place-holds l x m))
place-some l x (Some i) p m = refl

-- and it is its place
pub place-value : (l : List ℕ) (x i : ℕ) (r : Option ℕ) → Rises l → IsPlace l x r → r ≡ Some i → i ≡ place_of l x
place-value l x i r rise p e =
    let w = (p.some i).0 e in
    let m : is_member x l ≡ true = subst (λ (z : ℕ). is_member z l ≡ true) w.1 (member-at l i 0 w.0) in
    rises-once l rise i (place_of l x) w.0 (place-below l x m) (w.1 ∙ sym (place-holds l x m))

-- an option has one value
pub one-value : {X : Type 0} (o : Option X) (a b : X) → o ≡ Some a → o ≡ Some b → a ≡ b
one-value o a b p q = (let both : Some a ≡ Some b = sym p ∙ q in cc)

-- a component of these parts
abbrev pub framed : GraphPart → List ℕ → List ℕ → List ℕ → Component
framed part blocks cuts edge_blocks = record { part = part; blocks = blocks; cuts = cuts; edge_blocks = edge_blocks }

-- what is made is the component
pub frame-is : (g : Multigraph) (s : BlockStructure) (c : ℕ) → IsBlockStructure g s → (part : GraphPart) (vertices edges blocks cuts edge_blocks : List ℕ) → vertices ≡ component_vertices s c → edges ≡ component_edges g s c → IsPartOn g vertices edges part
    → blocks ≡ component_blocks g s c → cuts ≡ component_cuts s c → edge_blocks ≡ map (block_of s.blocks) edges
    → framed part blocks cuts edge_blocks ≡ component_of g s c
frame-is g s c is part vertices edges blocks cuts edge_blocks pv pe h pb pc pt =
    let on : IsPartOn g (component_vertices s c) (component_edges g s c) part = subst (λ (l : List ℕ). IsPartOn g l (component_edges g s c) part) pv (subst (λ (l : List ℕ). IsPartOn g vertices l part) pe h) in
    let same = part_on-is g (component_vertices s c) (component_edges g s c) part (vertices-rise g s c is) on in
    let table : edge_blocks ≡ map (block_of s.blocks) (component_edges g s c) = pt ∙ ap (map (block_of s.blocks)) pe in
    λ i. record { part = same i; blocks = pb i; cuts = pc i; edge_blocks = table i }

-- a component has a block for each edge, and increasing cut vertices
pub frame-of : (g : Multigraph) (s : BlockStructure) (c : ℕ) → IsBlockStructure g s → IsFrame (component_of g s c)
frame-of g s c is = record { edge_each = length-map (component_edges g s c) (block_of s.blocks); cuts_rise = cuts-rise g s c is; cuts_in = cut-in g s c is }

-- the edges around a vertex are edges of the graph
pub round-below : (g : Multigraph) (r : List (List ℕ)) (i e : ℕ) → IsRotationSystem g r → i < g.vertex_count → is_member e (order_at r i) ≡ true → e < edge_count g
round-below g r i e s l m = member-edge g i e (sym (permutation-member (incident_edges g i) (order_at r i) e (s.orders i l).arranged) ∙ m)

-- a block in the plane is seen with its part
pub plane-part : (part : GraphPart) (o : Option BlockState) → (in_plane part o).part ≡ part
plane-part part None = refl
plane-part part (Some p) = refl

-- and with its rotation system
pub plane-order : (m : Member) (p : BlockState) (v : ℕ) → m.plane ≡ Some p → outer_at (in_plane m.part m.plane).part (in_plane m.part m.plane).rotation v ≡ outer_at m.part p.rotation v
plane-order m p v e = ap (λ o. outer_at (in_plane m.part o).part (in_plane m.part o).rotation v) e

-- a list that has a first member
pub first-split : (l : List ℕ) (e : ℕ) → slice_get l 0 ≡ Some e → (rest : List ℕ) × (l ≡ e ∷ rest)
first-split [] e h = absurd (let bad : None ≡ Some e = h in cc)
first-split (x ∷ rest) e h = (rest, ap (λ (z : ℕ). z ∷ rest) (one-value (Some x) x e refl h))

-- and one that has none
pub first-none : (l : List ℕ) → slice_get l 0 ≡ None → l ≡ []
first-none [] h = refl
first-none (x ∷ rest) h = absurd (let bad : Some x ≡ None = h in cc)

-- the blocks of the component are in the list, in the plane
pub block-there : (k : Component) (all : List Member) (b v : ℕ) → HavePlanes k all → is_member b k.blocks ≡ true → is_member v (blocks_in all b).part.vertices ≡ true → HasVertex (member_at all b) v
block-there k all b v h m n =
    let w = h.plane b m in
    record { state = w.0; plane = w.1; graph = w.2; vertex = subst (λ (z : GraphPart). is_member v z.vertices ≡ true) (plane-part (member_at all b).part (member_at all b).plane) n }

-- the first edge at vertex i of the part, and the cyclic order around it in its block
pub record IsOwn (k : Component) (block : ℕ → BlockInPlane) (i e : ℕ) : Type 0 where
  pub within : e < length k.edge_blocks
  pub among : is_member (slice_index k.edge_blocks e) k.blocks ≡ true
  pub vertex : is_member (slice_index k.part.vertices i) (block (slice_index k.edge_blocks e)).part.vertices ≡ true
  pub order : first_order k block (slice_index k.part.vertices i) (edges_around k (slice_index k.part.vertices i)) ≡ block_order block (slice_index k.part.vertices i) (slice_index k.edge_blocks e)

pub own-first : (k : Component) (block : ℕ → BlockInPlane) (i e : ℕ) (l : List ℕ) → IsAssembled k block → IsFrame k → i < k.part.graph.vertex_count → l ≡ incident_edges k.part.graph i → slice_get l 0 ≡ Some e → IsOwn k block i e
own-first k block i e l a f li is h =
    let rest = first-split l e h in
    let v = slice_index k.part.vertices i in
    let back : place_of k.part.vertices v ≡ i = place-rising k.part.vertices i a.numbered.vertices_rise (omega (arith, li, a.numbered.vertex_each)) in
    let around : edges_around k v ≡ slice_index k.part.edges e ∷ map (slice_index k.part.edges) rest.0 =
    ap (λ (z : ℕ). map (slice_index k.part.edges) (incident_edges k.part.graph z)) back ∙ ap (map (slice_index k.part.edges)) (sym is ∙ rest.1) in
    let me : is_member e (incident_edges k.part.graph i) ≡ true = subst (λ (z : List ℕ). is_member e z ≡ true) (sym rest.1 ∙ is) (member-head e rest.0) in
    let le : e < edge_count k.part.graph = member-edge k.part.graph i e me in
    let lp : e < length k.part.edges = omega (arith, le, a.numbered.edge_each) in
    let x = slice_index k.part.edges e in
    let at : block_with k x ≡ slice_index k.edge_blocks e = ap (slice_index k.edge_blocks) (place-rising k.part.edges e a.numbered.edges_rise lp) in
    let mv : is_member v k.part.vertices ≡ true = member-at k.part.vertices i 0 (omega (arith, li, a.numbered.vertex_each)) in
    let mx : is_member x (edges_around k v) ≡ true = subst (λ (z : List ℕ). is_member x z ≡ true) (sym around) (member-head x (map (slice_index k.part.edges) rest.0)) in
    record {
      within = omega (arith, lp, f.edge_each);
      among = subst (λ (z : ℕ). is_member z k.blocks ≡ true) at (a.edge_block x (member-at k.part.edges e 0 lp)).0;
      vertex = subst (λ (z : ℕ). is_member v (block z).part.vertices ≡ true) at (a.has_vertex v x mv mx);
      order = ap (first_order k block v) around ∙ ap (block_order block v) at;
    }

-- a vertex without edges
pub own-none : (k : Component) (block : ℕ → BlockInPlane) (i : ℕ) (l : List ℕ) → IsNumbered k.part → i < k.part.graph.vertex_count → l ≡ incident_edges k.part.graph i → slice_get l 0 ≡ None
    → first_order k block (slice_index k.part.vertices i) (edges_around k (slice_index k.part.vertices i)) ≡ []
own-none k block i l n li is h =
    let v = slice_index k.part.vertices i in
    let back : place_of k.part.vertices v ≡ i = place-rising k.part.vertices i n.vertices_rise (omega (arith, li, n.vertex_each)) in
    let around : edges_around k v ≡ [] = ap (λ (z : ℕ). map (slice_index k.part.edges) (incident_edges k.part.graph z)) back ∙ ap (map (slice_index k.part.edges)) (sym is ∙ first-none l h) in
    ap (first_order k block v) around

-- the order that was found in the block of the first edge
pub own-order : (k : Component) (all : List Member) (i e : ℕ) (m : Member) (v : ℕ) (items : List ℕ) → HavePlanes k all → IsOwn k (blocks_in all) i e → m ≡ member_at all (slice_index k.edge_blocks e) → v ≡ slice_index k.part.vertices i
    → ((p : BlockState) → m.plane ≡ Some p → items ≡ outer_at m.part p.rotation v) → items ≡ first_order k (blocks_in all) (slice_index k.part.vertices i) (edges_around k (slice_index k.part.vertices i))
own-order k all i e m v items h o em ev found =
    let b = slice_index k.edge_blocks e in
    let w = h.plane b o.among in
    found w.0 (ap (λ (x : Member). x.plane) em ∙ w.1)
    ∙ (ap (λ (x : Member). outer_at x.part w.0.rotation v) em
    ∙ (ap (outer_at (member_at all b).part w.0.rotation) ev
    ∙ (sym (plane-order (member_at all b) w.0 (slice_index k.part.vertices i) w.1)
    ∙ sym o.order)))

-- the block of that edge
pub own-there : (k : Component) (all : List Member) (i e : ℕ) (m : Member) (v : ℕ) → HavePlanes k all → IsOwn k (blocks_in all) i e → m ≡ member_at all (slice_index k.edge_blocks e) → v ≡ slice_index k.part.vertices i → HasVertex m v
own-there k all i e m v h o em ev = subst (λ (x : Member). HasVertex x v) (sym em) (subst (HasVertex (member_at all (slice_index k.edge_blocks e))) (sym ev)
    (block-there k all (slice_index k.edge_blocks e) (slice_index k.part.vertices i) h o.among o.vertex))

-- an element of the list of all blocks, by its place
pub block-at : (all : List Member) (table : List ℕ) (other : List ℕ) (e : ℕ) (m : Member) → table ≡ other → get_or table e 0 < length all → m ≡ get_or all (get_or table e 0) m → m ≡ member_at all (slice_index other e)
block-at all table other e m same l is = is ∙ (get_or_default all (get_or table e 0) m (record { part = no_part; plane = None }) l ∙ ap (λ (z : List ℕ). member_at all (slice_index z e)) same)
