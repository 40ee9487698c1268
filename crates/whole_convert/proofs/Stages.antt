-- Stages on the way from one rotation system of a component to another: some blocks have their parts, one has any rotation system.
use Rattle.std.proofs.Common.{◌≡◌, ◌≢◌, ℕ, ◌+◌, ◌<◌, inl, inr, Bool, true, false, ◌==◌, ◌&&◌, nat_lt, if◌then◌else◌, List, [], length, map, slice_index, slice_index_or, Contains, refl, sym, ap, ◌∙◌, subst, arith, eq-eqb}
use Rattle.std.proofs.Math.Path.{fun_ext}
use Rattle.std.proofs.lemmas.Bool.{cases_Bool, cases_eq, cases_lt, both_ways, cond-true, cond-false, and_parts, and_from, lt-ltb, le-ltb, false_from_ne_true, ne_eqb}
use Rattle.std.proofs.lemmas.List.{get_or-map, length-map, get_or_past, ext_get_or}
use Rattle.permutations.specs.Members.{is_member, place_of}
use Rattle.permutations.proofs.Arrangements.{member-at}
use Rattle.permutations.proofs.Places.{place-below, place-holds}
use Rattle.multigraph.specs.Graph.{numbers_below}
use Rattle.multigraph.specs.Part.{GraphPart, IsNumbered, IsPart}
use Rattle.multigraph.proofs.Below.{length-numbers_below, get_or-numbers_below}
use Rattle.blocks.specs.Blocks.{block_at}
use Rattle.pair_split.specs.Tutte.{Node}
use Rattle.rotations.specs.Rotation.{IsRotationSystem}
use Rattle.faces.specs.Euler.{IsPlaneSystem}
use Rattle.skeletons.specs.Items.{IsBlockTree}
use Rattle.arrangements.specs.Arranged.{first_arrangement, arrangements_at}
use Rattle.whole_embed.specs.Component.{Component, BlockInPlane, component_blocks, IsComponentInPlane}
use Rattle.whole_embed.specs.Around.{outer_at, edges_around, block_with, block_order, arrangements_around}
use Rattle.whole_embed.specs.Whole.{block_part, AreArranged, IsWholeMember}
use Rattle.whole_embed.proofs.Outer.{place-rising, place-absent}
use Rattle.whole_embed.proofs.Assembled.{IsAssembled}
use Rattle.whole_convert.specs.Between.{blocks_to}

-- a block with another rotation system
abbrev pub with-rotation : BlockInPlane → List (List ℕ) → BlockInPlane
with-rotation a r = record { part = a.part; nodes = a.nodes; rotation = r; locks = a.locks }

-- b is the block a with another plane rotation system
pub record IsTurnedBlock (a b : BlockInPlane) : Type 0 where
  pub part : b.part ≡ a.part
  pub nodes : b.nodes ≡ a.nodes
  pub locks : b.locks ≡ a.locks
  pub plane : IsPlaneSystem a.part.graph b.rotation

-- with such blocks a component is in the plane
pub component-turned : (k : Component) (old new : ℕ → BlockInPlane) → ((b : ℕ) → is_member b k.blocks ≡ true → IsTurnedBlock (old b) (new b)) → IsComponentInPlane k old → IsComponentInPlane k new
component-turned k old new turned h = record {
  graph = h.graph;
  structure = h.structure;
  number = h.number;
  is_graph = h.is_graph;
  is_structure = h.is_structure;
  limits = h.limits;
  within = h.within;
  component = h.component;
  blocks = record {
    parts = λ b c. subst (λ (z : GraphPart). IsPart h.graph (block_at h.structure.blocks b) z) (sym (at b c).part) (h.blocks.parts b c);
    trees = λ b c. subst (λ (z : GraphPart). IsBlockTree z.graph (new b).nodes) (sym (at b c).part) (subst (λ (z : List Node). IsBlockTree (old b).part.graph z) (sym (at b c).nodes) (h.blocks.trees b c));
    planes = λ b c. subst (λ (z : GraphPart). IsPlaneSystem z.graph (new b).rotation) (sym (at b c).part) (at b c).plane;
    locks = λ b c. ap length (at b c).locks ∙ h.blocks.locks b c ∙ sym (ap length (at b c).nodes);
  };
}
  where
    at : (b : ℕ) → is_member b (component_blocks h.graph h.structure h.number) ≡ true → IsTurnedBlock (old b) (new b)
    at b c = turned b (subst (λ (z : Component). is_member b z.blocks ≡ true) (sym h.component) c)

-- a part has no order around what is not a vertex of it
pub round-outside : (part : GraphPart) (r : List (List ℕ)) (v : ℕ) → IsNumbered part → IsRotationSystem part.graph r → is_member v part.vertices ≡ false → outer_at part r v ≡ []
round-outside part r v n s f =
    let at : place_of part.vertices v ≡ length part.vertices = place-absent part.vertices v f in
    ap (map (slice_index part.edges)) (get_or_past r (place_of part.vertices v) [] (omega (arith, at, n.vertex_each, s.vertices)))

-- the blocks with r in the place of the rotation system of one of them
abbrev pub with-one : (ℕ → BlockInPlane) → ℕ → List (List ℕ) → ℕ → BlockInPlane
with-one block b r c = (if c == b then with-rotation (block c) r else block c)

pub one-here : (block : ℕ → BlockInPlane) (b : ℕ) (r : List (List ℕ)) → with-one block b r b ≡ with-rotation (block b) r
one-here block b r = cond-true (b == b) (with-rotation (block b) r) (block b) (eq-eqb b b refl)

pub one-other : (block : ℕ → BlockInPlane) (b c : ℕ) (r : List (List ℕ)) → c ≢ b → with-one block b r c ≡ block c
one-other block b c r n = cond-false (c == b) (with-rotation (block c) r) (block c) (ne_eqb c b n)

-- around what is not a vertex of it nothing changes
module _ (block : ℕ → BlockInPlane) (b v : ℕ) (n : IsNumbered (block b).part) (r s : List (List ℕ)) (a : IsRotationSystem (block b).part.graph r) (c : IsRotationSystem (block b).part.graph s)
    (f : is_member v (block b).part.vertices ≡ false) where
  orders-same : block_order (with-one block b r) v ≡ block_order (with-one block b s) v
  orders-same = fun_ext (λ d. elim (cases_eq d b) [
    | inl e ↦ subst (λ z. block_order (with-one block b r) v z ≡ block_order (with-one block b s) v z) (sym e)
        (ap (λ (z : BlockInPlane). outer_at z.part z.rotation v) (one-here block b r)
        ∙ (round-outside (block b).part r v n a f
        ∙ (sym (round-outside (block b).part s v n c f)
        ∙ sym (ap (λ (z : BlockInPlane). outer_at z.part z.rotation v) (one-here block b s)))))
    | inr d-not ↦ ap (λ (z : BlockInPlane). outer_at z.part z.rotation v) (one-other block b d r d-not ∙ sym (one-other block b d s d-not))
  ])

  pub arrangements-same : (k : Component) → arrangements_around k (with-one block b r) v ≡ arrangements_around k (with-one block b s) v
  arrangements-same k = ap (λ (o : ℕ → List ℕ). arrangements_at (block_with k) o (edges_around k v)) orders-same

  pub first-same : (k : Component) → first_arrangement (block_with k) (block_order (with-one block b r) v) (edges_around k v) ≡ first_arrangement (block_with k) (block_order (with-one block b s) v) (edges_around k v)
  first-same k = ap (λ (o : ℕ → List ℕ). first_arrangement (block_with k) o (edges_around k v)) orders-same

-- a list for each cut vertex
abbrev pub listed : Component → (ℕ → List ℕ) → List (List ℕ)
listed k f = map f (numbers_below (length k.cuts))

pub listed-length : (k : Component) (f : ℕ → List ℕ) → length (listed k f) ≡ length k.cuts
listed-length k f = length-map (numbers_below (length k.cuts)) f ∙ length-numbers_below (length k.cuts)

pub listed-at : (k : Component) (f : ℕ → List ℕ) (i : ℕ) → i < length k.cuts → slice_index_or (listed k f) i [] ≡ f i
listed-at k f i l = get_or-map f (numbers_below (length k.cuts)) i 0 [] (omega (arith, l, length-numbers_below (length k.cuts))) ∙ ap f (get_or-numbers_below (length k.cuts) i 0 l)

pub listed-is : (k : Component) (f : ℕ → List ℕ) (lists : List (List ℕ)) → length lists ≡ length k.cuts → ((i : ℕ) → i < length k.cuts → slice_index_or lists i [] ≡ f i) → lists ≡ listed k f
listed-is k f lists e h = ext_get_or [] lists (listed k f) (e ∙ sym (listed-length k f)) (λ i l. h i (omega (arith, l, e)) ∙ sym (listed-at k f i (omega (arith, l, e))))

-- all of them are arrangements
pub listed-arranged : (k : Component) (block : ℕ → BlockInPlane) (f : ℕ → List ℕ) → ((i : ℕ) → i < length k.cuts → Contains (arrangements_around k block (slice_index k.cuts i)) (f i)) → AreArranged k block (listed k f)
listed-arranged k block f h = record {
  one_each = listed-length k f;
  each = λ i l. subst (λ (z : List ℕ). Contains (arrangements_around k block (slice_index k.cuts i)) z) (sym (listed-at k f i l)) (h i l);
}

-- the first n blocks of the component with their parts of q
module _ (k : Component) (block : ℕ → BlockInPlane) (q : List (List ℕ)) where
  abbrev pub is-done : ℕ → ℕ → Bool
  is-done n b = is_member b k.blocks && nat_lt (place_of k.blocks b) n

  abbrev pub done : ℕ → ℕ → BlockInPlane
  done n b = (if is-done n b then with-rotation (block b) (block_part k (block b).part q) else block b)

  done-yes : (n b : ℕ) → is_member b k.blocks ≡ true → place_of k.blocks b < n → done n b ≡ with-rotation (block b) (block_part k (block b).part q)
  done-yes n b m l = cond-true (is-done n b) (with-rotation (block b) (block_part k (block b).part q)) (block b) (and_from (is_member b k.blocks) (nat_lt (place_of k.blocks b) n) m (lt-ltb (place_of k.blocks b) n l))

  done-no : (n b : ℕ) → (is_member b k.blocks ≡ true → place_of k.blocks b < n → ⊥) → done n b ≡ block b
  done-no n b h = cond-false (is-done n b) (with-rotation (block b) (block_part k (block b).part q)) (block b)
      (false_from_ne_true (is-done n b) (λ y. let p = and_parts (is_member b k.blocks) (nat_lt (place_of k.blocks b) n) y in h p.0 (less p.1)))
    where
      less : nat_lt (place_of k.blocks b) n ≡ true → place_of k.blocks b < n
      less t = elim (cases_lt (place_of k.blocks b) n) [
        | inl l ↦ l
        | inr l ↦ absurd (both_ways (nat_lt (place_of k.blocks b) n) (le-ltb (place_of k.blocks b) n l) t)
      ]

  pub done-none : done 0 ≡ block
  done-none = fun_ext (λ b. done-no 0 b (λ m l. omega (arith, l)))

  pub done-all : done (length k.blocks) ≡ blocks_to k block q
  done-all = fun_ext (λ b. elim (cases_Bool (is_member b k.blocks)) [
    | inl m ↦ done-yes (length k.blocks) b m (place-below k.blocks b m) ∙ sym (cond-true (is_member b k.blocks) (with-rotation (block b) (block_part k (block b).part q)) (block b) m)
    | inr f ↦ done-no (length k.blocks) b (λ m l. both_ways (is_member b k.blocks) f m) ∙ sym (cond-false (is_member b k.blocks) (with-rotation (block b) (block_part k (block b).part q)) (block b) f)
  ])

  module _ (made : IsAssembled k block) (n : ℕ) (l : n < length k.blocks) where
    abbrev b : ℕ
    b = slice_index k.blocks n

    among : is_member (slice_index k.blocks n) k.blocks ≡ true
    among = member-at k.blocks n 0 l

    place : place_of k.blocks (slice_index k.blocks n) ≡ n
    place = place-rising k.blocks n made.blocks_rise l

    -- the one that comes next is as it was
    pub done-here : done n (slice_index k.blocks n) ≡ block (slice_index k.blocks n)
    done-here = done-no n b (λ m h. omega (arith, h, place))

    pub begins : with-one (done n) (slice_index k.blocks n) (block (slice_index k.blocks n)).rotation ≡ done n
    begins = fun_ext (λ c. elim (cases_eq c b) [
      | inl e ↦ subst (λ z. with-one (done n) b (block b).rotation z ≡ done n z) (sym e) (one-here (done n) b (block b).rotation ∙ (ap (λ (z : BlockInPlane). with-rotation z (block b).rotation) done-here ∙ sym done-here))
      | inr d ↦ one-other (done n) b c (block b).rotation d
    ])

    -- with its part it is one block more
    pub ends : with-one (done n) (slice_index k.blocks n) (block_part k (block (slice_index k.blocks n)).part q) ≡ done (n + 1)
    ends = fun_ext (λ c. elim (cases_eq c b) [
      | inl e ↦ subst (λ z. with-one (done n) b (block_part k (block b).part q) z ≡ done (n + 1) z) (sym e)
          (one-here (done n) b (block_part k (block b).part q) ∙ (ap (λ (z : BlockInPlane). with-rotation z (block_part k (block b).part q)) done-here ∙ sym (done-yes (n + 1) b among (omega (arith, place)))))
      | inr d ↦ one-other (done n) b c (block_part k (block b).part q) d ∙ elsewhere c d
    ])
      where
        elsewhere : (c : ℕ) → c ≢ b → done n c ≡ done (n + 1) c
        elsewhere c d = elim (cases_Bool (is_member c k.blocks)) [
          | inl m ↦ elim (cases_lt (place_of k.blocks c) n) [
            | inl h ↦ done-yes n c m h ∙ sym (done-yes (n + 1) c m (omega (arith, h)))
            | inr h ↦ done-no n c (λ u v. omega (arith, h, v)) ∙ sym (done-no (n + 1) c (λ u v. d (sym (place-holds k.blocks c m) ∙ ap (slice_index k.blocks) (let e : place_of k.blocks c ≡ n = omega (arith, h, v) in e))))
          ]
          | inr f ↦ done-no n c (λ u v. both_ways (is_member c k.blocks) f u) ∙ sym (done-no (n + 1) c (λ u v. both_ways (is_member c k.blocks) f u))
        ]

-- each block is one with a plane rotation system
module _ (k : Component) (block : ℕ → BlockInPlane) (q : List (List ℕ)) (is : IsComponentInPlane k block) (m : IsWholeMember k block q) where
  own : (b : ℕ) → is_member b k.blocks ≡ true → IsPlaneSystem (block b).part.graph (block b).rotation
  own b c = subst (λ (z : Component). is_member b z.blocks ≡ true → IsPlaneSystem (block b).part.graph (block b).rotation) (sym is.component) (is.blocks.planes b) c

  pub done-turned : (n b : ℕ) → is_member b k.blocks ≡ true → IsTurnedBlock (block b) (done k block q n b)
  done-turned n b c = elim (cases_lt (place_of k.blocks b) n) [
    | inl l ↦ subst (IsTurnedBlock (block b)) (sym (done-yes k block q n b c l)) (record { part = refl; nodes = refl; locks = refl; plane = (m.kept b c).plane })
    | inr l ↦ subst (IsTurnedBlock (block b)) (sym (done-no k block q n b (λ u v. omega (arith, l, v)))) (record { part = refl; nodes = refl; locks = refl; plane = own b c })
  ]

  pub own-plane : (b : ℕ) → is_member b k.blocks ≡ true → IsPlaneSystem (block b).part.graph (block b).rotation
  own-plane b c = own b c

  -- and so it is with any plane rotation system in the place of one of them
  pub stage-turned : (n c : ℕ) (r : List (List ℕ)) → is_member c k.blocks ≡ true → IsPlaneSystem (block c).part.graph r → (b : ℕ) → is_member b k.blocks ≡ true → IsTurnedBlock (block b) (with-one (done k block q n) c r b)
  stage-turned n c r mc p b mb = elim (cases_eq b c) [
    | inl e ↦ subst (λ z. IsTurnedBlock (block z) (with-one (done k block q n) c r z)) (sym e) (subst (IsTurnedBlock (block c)) (sym (one-here (done k block q n) c r))
        (let t = done-turned n c mc in record { part = t.part; nodes = t.nodes; locks = t.locks; plane = p }))
    | inr d ↦ subst (IsTurnedBlock (block b)) (sym (one-other (done k block q n) c b r d)) (done-turned n b mb)
  ]

  pub stage-plane : (n c : ℕ) (r : List (List ℕ)) → is_member c k.blocks ≡ true → IsPlaneSystem (block c).part.graph r → IsComponentInPlane k (with-one (done k block q n) c r)
  stage-plane n c r mc p = component-turned k block (with-one (done k block q n) c r) (stage-turned n c r mc p) is
