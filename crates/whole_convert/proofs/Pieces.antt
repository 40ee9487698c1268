-- Edges around the vertices of a component, dealt to its blocks and cut up at the vertices of each.
use Rattle.std.proofs.Common.{◌≡◌, ℕ, ◌+◌, ◌-◌, ◌<◌, ◌≤◌, inl, inr, Bool, true, false, ◌==◌, List, [], ◌∷◌, ◌++◌, length, map, filter, take, drop, flat_map, get_or, slice_index, slice_index_or, slice_set, refl, sym, ap, ap₂, ◌∙◌, subst, arith, eqb-true}
use Rattle.std.proofs.lemmas.Bool.{cases_Bool, cases_eq, both_ways, eq-eqb, ne_eqb}
use Rattle.std.proofs.lemmas.List.{take_at, drop_at, length-drop, take_more, drop_more, length-map, length-append, map-append, get_or-map, get_or-take, length-take-le, append_assoc, append-nil, get_or-set_same, get_or-set_other}
use Rattle.std.specs.List.{slice_range}
use Rattle.std.proofs.lemmas.List.Folds.{drop_split}
use Rattle.std.proofs.lemmas.List.Elements.{filter-append}
use Rattle.std.proofs.lemmas.List.Sorted.{length_permutation}
use Rattle.permutations.specs.Members.{is_member, place_of}
use Rattle.permutations.proofs.Members.{member-head, member-tail, member-append_cases}
use Rattle.permutations.proofs.Filter.{filter-yes, filter-no, member-filter_parts, filter-member}
use Rattle.permutations.proofs.Arrangements.{member-at}
use Rattle.permutations.proofs.Places.{place-below, place-holds}
use Rattle.multigraph.specs.Graph.{incident_edges}
use Rattle.multigraph.specs.Part.{GraphPart, Rises}
use Rattle.graph_theory.proofs.Rising.{members-same}
use Rattle.rotations.specs.Entries.{entry, list_at}
use Rattle.rotations.specs.Rotation.{IsRotationSystem}
use Rattle.rotations.specs.PartLists.{outer_edges, outer_list}
use Rattle.arrangements.specs.Arranged.{of_block}
use Rattle.whole_embed.specs.declared.members.Member.{Member}
use Rattle.whole_embed.specs.Component.{Component, BlockInPlane, IsComponentInPlane}
use Rattle.whole_embed.specs.Around.{outer_at, edges_around, block_with}
use Rattle.whole_embed.specs.Cuts.{blocks_in, HavePlanes}
use Rattle.whole_embed.specs.Frames.{IsFrame}
use Rattle.whole_embed.proofs.Outer.{place-rising}
use Rattle.whole_embed.proofs.Assembled.{IsAssembled}
use Rattle.whole_embed.proofs.Assembly.{assembled}
use Rattle.whole_embed.proofs.Told.{round-edge, round-member}
use Rattle.whole_embed.proofs.Mapping.{no-members}
use Rattle.whole_embed.proofs.WholeParts.{list-for}
use Rattle.whole_embed.proofs.Components.{filter-rises}
use Rattle.whole_convert.specs.Led.{degree_in, total, cut_up, IsDealt, AreWithin}
use Rattle.whole_convert.proofs.PartOf.{lists_in, IsPartOf, parts-plane}

-- lists one after the other, cut up as long as they are
pub cut-pieces : (degree : ℕ → ℕ) (f : ℕ → List ℕ) (vs : List ℕ) → ((v : ℕ) → is_member v vs ≡ true → length (f v) ≡ degree v) → cut_up degree vs (flat_map f vs) ≡ map (λ v. (v, f v)) vs
cut-pieces degree f [] h = refl
cut-pieces degree f (v ∷ vs) h =
    let long : length (f v) ≡ degree v = h v (member-head v vs) in
    let one : take (degree v) (f v ++ flat_map f vs) ≡ f v = take_at (f v) (flat_map f vs) (degree v) long in
    let rest : cut_up degree vs (drop (degree v) (f v ++ flat_map f vs)) ≡ map (λ x. (x, f x)) vs =
    ap (cut_up degree vs) (drop_at (f v) (flat_map f vs) (degree v) long) ∙ cut-pieces degree f vs (λ x m. h x (member-tail x v vs m)) in
    λ i. (v, one i) ∷ rest i

-- what passes, of lists one after the other
pub filter-flat : (p : ℕ → Bool) (f : ℕ → List ℕ) (vs : List ℕ) → filter p (flat_map f vs) ≡ flat_map (λ v. filter p (f v)) vs
filter-flat p f [] = refl
filter-flat p f (v ∷ vs) = filter-append p (f v) (flat_map f vs) ∙ ap (λ z. filter p (f v) ++ z) (filter-flat p f vs)

-- without those that are empty
pub flat-chosen : (p : ℕ → Bool) (f : ℕ → List ℕ) (vs : List ℕ) → ((v : ℕ) → is_member v vs ≡ true → p v ≡ false → f v ≡ []) → flat_map f vs ≡ flat_map f (filter p vs)
flat-chosen p f [] h = refl
flat-chosen p f (v ∷ vs) h =
    let rest : flat_map f vs ≡ flat_map f (filter p vs) = flat-chosen p f vs (λ x m. h x (member-tail x v vs m)) in
    elim (cases_Bool (p v)) [
      | inl y ↦ ap (λ z. f v ++ z) rest ∙ ap (flat_map f) (sym (filter-yes p v vs y))
      | inr n ↦ ap (λ z. z ++ flat_map f vs) (h v (member-head v vs) n) ∙ (rest ∙ ap (flat_map f) (sym (filter-no p v vs n)))
    ]

-- as many edges as all the degrees
pub flat-total : (degree : ℕ → ℕ) (f : ℕ → List ℕ) (vs : List ℕ) → ((v : ℕ) → is_member v vs ≡ true → length (f v) ≡ degree v) → length (flat_map f vs) ≡ total degree vs
flat-total degree f [] h = refl
flat-total degree f (v ∷ vs) h = length-append (f v) (flat_map f vs) ∙ ap₂ ◌+◌ (h v (member-head v vs)) (flat-total degree f vs (λ x m. h x (member-tail x v vs m)))

-- one edge more is dealt
pub dealt-more : (block : ℕ → ℕ) (edges : List ℕ) (i e place count : ℕ) (old new : List (List ℕ)) → i < length edges → e ≡ slice_index edges i → place ≡ block e → place < count → length old ≡ count
    → ((b : ℕ) → b < count → slice_index_or old b [] ≡ of_block block b (take i edges)) → new ≡ slice_set old place (slice_index_or old place [] ++ e ∷ [])
    → (b : ℕ) → b < count → slice_index_or new b [] ≡ of_block block b (take (i + 1) edges)
dealt-more block edges i e place count old new l is at low long h n b c =
    ap (λ (z : List (List ℕ)). slice_index_or z b []) n ∙ (elim (cases_eq b place) [
      | inl q ↦
          subst (λ z. slice_index_or (slice_set old place (slice_index_or old place [] ++ e ∷ [])) z [] ≡ of_block block z (take i edges) ++ of_block block z (e ∷ [])) (sym q)
          (get_or-set_same old place (slice_index_or old place [] ++ e ∷ []) [] (omega (arith, low, long))
          ∙ ap₂ ◌++◌ (h place low) (sym (filter-yes (λ x. block x == place) e [] (eq-eqb (block e) place (sym at)))))
      | inr d ↦
          get_or-set_other old place b (slice_index_or old place [] ++ e ∷ []) [] d
          ∙ (h b c ∙ (sym (append-nil (of_block block b (take i edges))) ∙ ap (λ z. of_block block b (take i edges) ++ z) (sym (filter-no (λ x. block x == b) e [] (ne_eqb (block e) b (λ q. d (sym q ∙ sym at)))))))
    ] ∙ sym more)
  where
    more : of_block block b (take (i + 1) edges) ≡ of_block block b (take i edges) ++ of_block block b (e ∷ [])
    more = ap (of_block block b) (take_more edges i 0 l ∙ ap (λ z. take i edges ++ z ∷ []) (sym is)) ∙ filter-append (λ x. block x == b) (take i edges) (e ∷ [])

-- pieces cut off so far
pub record AreCut (degree : ℕ → ℕ) (vs edges : List ℕ) (lists : List (ℕ × List ℕ)) (at i : ℕ) : Type 0 where
  pub rest : lists ++ cut_up degree (drop i vs) (drop at edges) ≡ cut_up degree vs edges
  pub left : length edges ≡ at + total degree (drop i vs)
  pub heads : map (λ (z : ℕ × List ℕ). z.0) lists ≡ take i vs

-- the next piece is within the edges
pub cut-within : (degree : ℕ → ℕ) (vs edges : List ℕ) (lists : List (ℕ × List ℕ)) (at i : ℕ) → i < length vs → AreCut degree vs edges lists at i → at + degree (slice_index vs i) ≤ length edges
cut-within degree vs edges lists at i l h = omega (arith, h.left, ap (total degree) (drop_more vs i 0 l))

-- one piece more
pub cut-more : (degree : ℕ → ℕ) (vs edges : List ℕ) (lists new : List (ℕ × List ℕ)) (at end i v : ℕ) (piece : List ℕ) → i < length vs → AreCut degree vs edges lists at i → v ≡ slice_index vs i → end ≡ at + degree (slice_index vs i)
    → piece ≡ slice_range edges at end → new ≡ lists ++ (v, piece) ∷ [] → AreCut degree vs edges new end (i + 1)
cut-more degree vs edges lists new at end i v piece l h is e p n =
    let w : ℕ = slice_index vs i in
    let within : at + degree (slice_index vs i) ≤ length edges = cut-within degree vs edges lists at i l h in
    let split : drop at edges ≡ slice_range edges at end ++ drop end edges = drop_split edges at end (omega (arith, e)) in
    let dropped : length (drop at edges) + at ≡ length edges = omega (arith, length-drop at edges, within) in
    let long : length (slice_range edges at end) ≡ degree (slice_index vs i) = length-take-le (end - at) (drop at edges) (omega (arith, e, within, dropped)) ∙ omega (arith, e) in
    let taken : take (degree (slice_index vs i)) (drop at edges) ≡ slice_range edges at end = ap (take (degree (slice_index vs i))) split ∙ take_at (slice_range edges at end) (drop end edges) (degree (slice_index vs i)) long in
    let beyond : drop (degree (slice_index vs i)) (drop at edges) ≡ drop end edges = ap (drop (degree (slice_index vs i))) split ∙ drop_at (slice_range edges at end) (drop end edges) (degree (slice_index vs i)) long in
    let pair : (v, piece) ≡ (slice_index vs i, take (degree (slice_index vs i)) (drop at edges)) = (λ j. (is j, (p ∙ sym taken) j)) in
    record {
      rest =
          ap (λ (z : List (ℕ × List ℕ)). z ++ cut_up degree (drop (i + 1) vs) (drop end edges)) (n ∙ ap (λ (z : ℕ × List ℕ). lists ++ z ∷ []) pair)
          ∙ (append_assoc lists ((slice_index vs i, take (degree (slice_index vs i)) (drop at edges)) ∷ []) (cut_up degree (drop (i + 1) vs) (drop end edges))
          ∙ (ap (λ (z : List ℕ). lists ++ (slice_index vs i, take (degree (slice_index vs i)) (drop at edges)) ∷ cut_up degree (drop (i + 1) vs) z) (sym beyond)
          ∙ (ap (λ (z : List ℕ). lists ++ cut_up degree z (drop at edges)) (sym (drop_more vs i 0 l)) ∙ h.rest)));
      left = omega (arith, h.left, e, ap (total degree) (drop_more vs i 0 l));
      heads = ap (map (λ (z : ℕ × List ℕ). z.0)) n ∙ (map-append (λ (z : ℕ × List ℕ). z.0) lists ((v, piece) ∷ []) ∙ (ap₂ (λ (a : List ℕ) (b : ℕ). a ++ b ∷ []) h.heads is ∙ sym (take_more vs i 0 l)));
    }

-- the next vertex is above the last one
pub cut-above : (degree : ℕ → ℕ) (vs edges : List ℕ) (lists : List (ℕ × List ℕ)) (at i v : ℕ) → Rises vs → i < length vs → AreCut degree vs edges lists at i → v ≡ slice_index vs i → 0 < length lists → (entry lists (length lists - 1)).0 < v
cut-above degree vs edges lists at i v rise l h is some =
    let count : length lists ≡ i = sym (length-map lists (λ (z : ℕ × List ℕ). z.0)) ∙ (ap length h.heads ∙ length-take-le i vs (omega (arith, l))) in
    let before : length lists - 1 < i = omega (arith, count, some) in
    let last : (entry lists (length lists - 1)).0 ≡ slice_index vs (length lists - 1) =
    sym (get_or-map (λ (z : ℕ × List ℕ). z.0) lists (length lists - 1) (0, []) 0 (omega (arith, some))) ∙ (ap (λ (z : List ℕ). get_or z (length lists - 1) 0) h.heads ∙ get_or-take i vs (length lists - 1) 0 before) in
    omega (arith, last, is, rise (length lists - 1) i before l)

module _ (k : Component) (block : ℕ → BlockInPlane) (q : List (List ℕ)) (made : IsAssembled k block) (b : ℕ) (mb : is_member b k.blocks ≡ true) (part : IsPartOf k block q b)
    (around : (v e : ℕ) → is_member v k.part.vertices ≡ true → is_member e (outer_at k.part q v) ≡ true → is_member e (edges_around k v) ≡ true) where
  abbrev P : GraphPart
  P = (block b).part

  abbrev own : ℕ → List ℕ
  own v = of_block (block_with k) b (outer_at k.part q v)

  -- none around a vertex that the block does not have
  none : (v : ℕ) → is_member v k.part.vertices ≡ true → is_member v P.vertices ≡ false → own v ≡ []
  none v m f = no-members (own v) (λ e t.
      let w = member-filter_parts (λ x. block_with k x == b) (outer_at k.part q v) e t in
      both_ways (is_member v P.vertices) f (subst (λ z. is_member v (block z).part.vertices ≡ true) (eqb-true (block_with k e) b w.1) (made.has_vertex v e m (around v e m w.0))))

  vertices-are : filter (λ v. is_member v P.vertices) k.part.vertices ≡ P.vertices
  vertices-are = members-same (filter (λ v. is_member v P.vertices) k.part.vertices) P.vertices (filter-rises (λ v. is_member v P.vertices) k.part.vertices made.numbered.vertices_rise) part.numbered.vertices_rise
      (λ v m. (member-filter_parts (λ u. is_member u P.vertices) k.part.vertices v m).1) (λ v m. filter-member (λ u. is_member u P.vertices) k.part.vertices v (part.vertices v m) m)

  -- as many as the block has there
  long : (v : ℕ) → is_member v P.vertices ≡ true → length (own v) ≡ degree_in P v
  long v m =
      let i = place_of P.vertices v in
      let l : place_of P.vertices v < P.graph.vertex_count = omega (arith, place-below P.vertices v m, part.numbered.vertex_each) in
      let list : outer_list P (lists_in k q b P) (place_of P.vertices v) ≡ own v =
      ap (λ z. list_at (lists_in k q b P) z) (place-holds P.vertices v m) ∙ list-for own P.vertices v m in
      omega (arith, ap length list, length_permutation (outer_edges P i) (outer_list P (lists_in k q b P) i) (part.given.arranged.arranged i l), length-map (incident_edges P.graph i) (slice_index P.edges))

  dealt-flat : of_block (block_with k) b (flat_map (outer_at k.part q) k.part.vertices) ≡ flat_map own P.vertices
  dealt-flat = filter-flat (λ e. block_with k e == b) (outer_at k.part q) k.part.vertices ∙ (flat-chosen (λ v. is_member v P.vertices) own k.part.vertices none ∙ ap (flat_map own) vertices-are)

  pub pieces-long : length (of_block (block_with k) b (flat_map (outer_at k.part q) k.part.vertices)) ≡ total (degree_in P) P.vertices
  pieces-long = ap length dealt-flat ∙ flat-total (degree_in P) own P.vertices long

  pub pieces-are : cut_up (degree_in P) P.vertices (of_block (block_with k) b (flat_map (outer_at k.part q) k.part.vertices)) ≡ lists_in k q b P
  pieces-are = ap (cut_up (degree_in P) P.vertices) dealt-flat ∙ cut-pieces (degree_in P) own P.vertices long

-- what is in lists one after the other is in one of them
pub flat-member : (f : ℕ → List ℕ) (vs : List ℕ) (e : ℕ) → is_member e (flat_map f vs) ≡ true → (v : ℕ) × (is_member v vs ≡ true) × (is_member e (f v) ≡ true)
flat-member f [] e m = absurd (both_ways (is_member e []) refl m)
flat-member f (v ∷ vs) e m = elim (member-append_cases e (f v) (flat_map f vs) m) [
  | inl h ↦ (v, member-head v vs, h)
  | inr h ↦ (let w = flat-member f vs e h in (w.0, member-tail w.0 v vs w.1, w.2))
]

-- around a vertex of a component there are its edges
pub orders-edges : (k : Component) (block : ℕ → BlockInPlane) (q : List (List ℕ)) → IsAssembled k block → IsRotationSystem k.part.graph q → (e : ℕ) → is_member e (flat_map (outer_at k.part q) k.part.vertices) ≡ true → is_member e k.part.edges ≡ true
orders-edges k block q made s e m = let w = flat-member (outer_at k.part q) k.part.vertices e m in round-edge k block made q s w.0 w.1 e w.2

-- the blocks of all edges are in the list of blocks
pub blocks-within : (k : Component) (all : List Member) → IsAssembled k (blocks_in all) → IsFrame k → HavePlanes k all → AreWithin k (length all)
blocks-within k all made frame have x l =
    let h : x < length k.part.edges = omega (arith, l, frame.edge_each) in
    let e : ℕ = slice_index k.part.edges x in
    let at : block_with k (slice_index k.part.edges x) ≡ slice_index k.edge_blocks x = ap (slice_index k.edge_blocks) (place-rising k.part.edges x made.numbered.edges_rise h) in
    subst (λ z. z < length all) at (have.within (block_with k e) (made.edge_block e (member-at k.part.edges x 0 h)).0)

-- what a block has of the orders is dealt to it
pub pieces-of : (k : Component) (block : ℕ → BlockInPlane) (q : List (List ℕ)) (b : ℕ) (edges : List ℕ) → IsComponentInPlane k block → is_member b k.blocks ≡ true → IsDealt k q b edges
    → IsPartOf k block q b × (length edges ≡ total (degree_in (block b).part) (block b).part.vertices) × (cut_up (degree_in (block b).part) (block b).part.vertices edges ≡ lists_in k q b (block b).part)
pieces-of k block q b edges is m d =
    let made : IsAssembled k block = assembled k block is in
    let part : IsPartOf k block q b = parts-plane k block is q d.plane b m in
    let around : (v e : ℕ) → is_member v k.part.vertices ≡ true → is_member e (outer_at k.part q v) ≡ true → is_member e (edges_around k v) ≡ true =
    λ v e t h. sym (round-member k block made q d.plane.system v t e) ∙ h in (
      part,
      ap length d.edges_are ∙ pieces-long k block q made b m part around,
      ap (cut_up (degree_in (block b).part) (block b).part.vertices) d.edges_are ∙ pieces-are k block q made b m part around,
    )
