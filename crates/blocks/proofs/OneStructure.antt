-- A multigraph has one structure of blocks, cut vertices and components.
use Rattle.std.proofs.Common.{◌≡◌, ℕ, ◌<◌, ◌≤◌, true, List, [], length, map, get_or, refl, sym, ap, ◌∙◌, subst, arith}
use Rattle.std.proofs.lemmas.List.{ext_get_or, get_or-map, length-map}
use Rattle.permutations.specs.Count.{count}
use Rattle.permutations.specs.Members.{is_member}
use Rattle.permutations.specs.Relation.{IsEquivalence, connected, leads, leader}
use Rattle.permutations.proofs.Arrangements.{member-at}
use Rattle.permutations.proofs.Leaders.{leader-related, leader-le, leader-leads}
use Rattle.permutations.proofs.Relation.{connected-equivalence}
use Rattle.permutations.proofs.Places.{place-of}
use Rattle.multigraph.specs.Graph.{Multigraph, edge_count}
use Rattle.multigraph.specs.Part.{Rises}
use Rattle.graph_theory.specs.Block.{SameBlock}
use Rattle.graph_theory.proofs.Rising.{HasMembers, rises-first, members-same}
use Rattle.blocks.specs.Blocks.{BlockStructure, AreBlocks, AreCutVertices, AreComponents, IsBlockStructure}

-- the least edge of each block
abbrev heads : List (List ℕ) → List ℕ
heads blocks = map (λ block. get_or block 0 0) blocks

heads-at : (blocks : List (List ℕ)) (b : ℕ) → b < length blocks → get_or (heads blocks) b 0 ≡ get_or (get_or blocks b []) 0 0
heads-at blocks b within = get_or-map (λ block. get_or block 0 0) blocks b [] 0 within

-- they rise
heads-rise : (g : Multigraph) (blocks : List (List ℕ)) → AreBlocks g blocks → Rises (heads blocks)
heads-rise g blocks a i j less within =
    let long : length (heads blocks) ≡ length blocks = length-map blocks (λ block. get_or block 0 0) in
    let j_in : j < length blocks = omega arith in
    omega (arith, heads-at blocks i (omega arith), heads-at blocks j j_in, a.by_least i j less j_in)

-- the least edge of a block is one of its edges
head-in : (g : Multigraph) (blocks : List (List ℕ)) (b : ℕ) → AreBlocks g blocks → b < length blocks → is_member (get_or (get_or blocks b []) 0 0) (get_or blocks b []) ≡ true
head-in g blocks b a within = member-at (get_or blocks b []) 0 0 (a.not_empty b within)

-- an edge in the same block as an edge of block b is in block b
block-closed : (g : Multigraph) (blocks : List (List ℕ)) (b e f : ℕ) → AreBlocks g blocks → b < length blocks → is_member e (get_or blocks b []) ≡ true → f < edge_count g → SameBlock g e f → is_member f (get_or blocks b []) ≡ true
block-closed g blocks b e f a within e_in f_edge same =
    let w = a.each f f_edge in
    let c : b ≡ w.0 = (a.same b w.0 e f within w.1 e_in w.2).1 same in
    subst (λ (x : ℕ). is_member f (get_or blocks x []) ≡ true) (sym c) w.2

-- the least edge of a block by one list is that of a block by the other
head-other : (g : Multigraph) (p q : List (List ℕ)) (b : ℕ) → AreBlocks g p → AreBlocks g q → b < length p → (c : ℕ) × (c < length q) × (get_or (get_or q c []) 0 0 ≡ get_or (get_or p b []) 0 0)
head-other g p q b a o within =
    let x = get_or (get_or p b []) 0 0 in
    let x_in = head-in g p b a within in
    let w = o.each x (a.edges b x within x_in) in
    let y = get_or (get_or q w.0 []) 0 0 in
    let y_in = head-in g q w.0 o w.1 in
    let same : SameBlock g x y = (o.same w.0 w.0 x y w.1 w.1 w.2 y_in).0 refl in
    let y_there = block-closed g p b x y a within x_in (o.edges w.0 y w.1 y_in) same in
    let low : x ≤ y = rises-first (get_or p b []) y (a.rising b within) y_there in
    let high : y ≤ x = rises-first (get_or q w.0 []) x (o.rising w.0 w.1) w.2 in
    (w.0, w.1, omega arith)

heads-members : (g : Multigraph) (p q : List (List ℕ)) → AreBlocks g p → AreBlocks g q → HasMembers (heads p) (heads q)
heads-members g p q a o x h = from (place-of (heads p) x h)
  where
    from : (b : ℕ) × (b < length (heads p)) × (get_or (heads p) b 0 ≡ x) → is_member x (heads q) ≡ true
    from v =
        let long : length (heads p) ≡ length p = length-map p (λ block. get_or block 0 0) in
        let long_other : length (heads q) ≡ length q = length-map q (λ block. get_or block 0 0) in
        let b_in : v.0 < length p = omega (arith, v.1) in
        let w = head-other g p q v.0 a o b_in in
        let is : get_or (heads q) w.0 0 ≡ x = heads-at q w.0 w.1 ∙ (w.2 ∙ (sym (heads-at p v.0 b_in) ∙ v.2)) in
        subst (λ (y : ℕ). is_member y (heads q) ≡ true) is (member-at (heads q) w.0 0 (omega (arith, w.1)))

one-heads : (g : Multigraph) (p q : List (List ℕ)) → AreBlocks g p → AreBlocks g q → heads p ≡ heads q
one-heads g p q a o = members-same (heads p) (heads q) (heads-rise g p a) (heads-rise g q o) (heads-members g p q a o) (heads-members g q p o a)

-- blocks with the same least edge have the same edges
block-members : (g : Multigraph) (p q : List (List ℕ)) (b : ℕ) → AreBlocks g p → AreBlocks g q → b < length p → b < length q → get_or (get_or p b []) 0 0 ≡ get_or (get_or q b []) 0 0 → HasMembers (get_or p b []) (get_or q b [])
block-members g p q b a o p_in q_in same_head x h =
    let e = get_or (get_or p b []) 0 0 in
    let e_there : is_member e (get_or q b []) ≡ true = subst (λ (y : ℕ). is_member y (get_or q b []) ≡ true) (sym same_head) (head-in g q b o q_in) in
    block-closed g q b e x o q_in e_there (a.edges b x p_in h) ((a.same b b e x p_in p_in (head-in g p b a p_in) h).0 refl)

-- the lists of blocks are equal
one-blocks : (g : Multigraph) (p q : List (List ℕ)) → AreBlocks g p → AreBlocks g q → p ≡ q
one-blocks g p q a o = ext_get_or [] p q long (λ b within.
    let q_in : b < length q = omega (arith, within, long) in
    let same : get_or (get_or p b []) 0 0 ≡ get_or (get_or q b []) 0 0 = sym (heads-at p b within) ∙ (ap (λ (l : List ℕ). get_or l b 0) (one-heads g p q a o) ∙ heads-at q b q_in) in
    members-same (get_or p b []) (get_or q b []) (a.rising b within) (o.rising b q_in) (block-members g p q b a o within q_in same) (block-members g q p b o a q_in within (sym same)))
  where
    long : length p ≡ length q
    long = sym (length-map p (λ block. get_or block 0 0)) ∙ (ap length (one-heads g p q a o) ∙ length-map q (λ block. get_or block 0 0))

-- the lists of cut vertices are equal
one-cuts : (g : Multigraph) (p q : List ℕ) → AreCutVertices g p → AreCutVertices g q → p ≡ q
one-cuts g p q a o = members-same p q a.rising o.rising (λ v h. o.complete v (a.vertices v h) (a.sound v h)) (λ v h. a.complete v (o.vertices v h) (o.sound v h))

-- the lists of components are equal
one-components : (g : Multigraph) (p q : List ℕ) (n k : ℕ) → AreComponents g p n → AreComponents g q k → p ≡ q
one-components g p q n k a o = ext_get_or 0 p q (a.places ∙ sym o.places) (λ v within.
    let v_in : v < g.vertex_count = omega (arith, a.places) in
    component p n a v v_in ∙ sym (component q k o v v_in))
  where
    eq : IsEquivalence (connected g.ends)
    eq = connected-equivalence g.ends

    component : (l : List ℕ) (t : ℕ) → AreComponents g l t → (v : ℕ) → v < g.vertex_count → get_or l v 0 ≡ count (leader (connected g.ends) v) (leads (connected g.ends))
    component l t c v v_in =
        let u = leader (connected g.ends) v in
        let u_in : u < g.vertex_count = omega (arith, leader-le (connected g.ends) v eq) in
        sym ((c.same u v u_in v_in).1 (leader-related (connected g.ends) v eq)) ∙ c.least u u_in (leader-leads (connected g.ends) v eq)

-- blocks, cut vertices and components are determined
pub one-structure : (g : Multigraph) (a b : BlockStructure) → IsBlockStructure g a → IsBlockStructure g b → a ≡ b
one-structure g a b p q =
    let blocks = one-blocks g a.blocks b.blocks p.blocks q.blocks in
    let cuts = one-cuts g a.cut_vertices b.cut_vertices p.cut_vertices q.cut_vertices in
    let components = one-components g a.components b.components a.component_count b.component_count p.components q.components in
    let total : a.component_count ≡ b.component_count = p.components.counted ∙ sym q.components.counted in
    λ i. record { blocks = blocks i; cut_vertices = cuts i; component_count = total i; components = components i }
