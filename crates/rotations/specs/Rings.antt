-- A rotation system as it is kept: for each dart the one that follows it around its vertex, and the one that it follows.
-- Each edge e has two darts: 2e leaves its first end, 2e + 1 its second.
use Rattle.std.specs.Prelude.{◌≡◌, ℕ, ◌+◌, ◌*◌, ◌/◌, ◌<◌, ◌≤◌, ◌==◌, ◌⊎◌, if◌then◌else◌, true, List, length, map, slice_index, slice_index_or}
use Rattle.std.specs.List.{All, Contains}
use Rattle.permutations.specs.Cyclic.{first_or, successor, predecessor}
use Rattle.permutations.specs.Members.{is_member, is_distinct}
use Rattle.permutations.specs.Permutation.{Permutes}
use Rattle.permutations.specs.Ring.{turns}
use Rattle.multigraph.specs.Graph.{Multigraph, IsGraph, max_vertices, max_darts, edge_count, ends_of, incident_edges}
use Rattle.ring_arena.specs.Links.{Links}
use Rattle.rotations.specs.Rotation.{order_at, IsRotationSystem}
use Rattle.rotations.specs.declared.rings.Ring.{Ring}

-- the dart of edge e that leaves v, one of its ends, by the vertices that the darts leave
abbrev pub dart_at : List ℕ → ℕ → ℕ → ℕ
dart_at tails v e = (if slice_index tails (2 * e) == v then 2 * e else 2 * e + 1)

-- the edges of each ring, from its first dart on
abbrev pub orders : List ℕ → List Ring → List (List ℕ)
orders next rings = map (λ ring. turns next ring.first ring.degree) rings

-- edges around v: each once, with a dart that leaves v
pub record StandRound (tails : List ℕ) (v : ℕ) (order : List ℕ) : Type 0 where
  pub distinct : is_distinct order ≡ true
  pub darts : (e : ℕ) → is_member e order ≡ true → 2 * e + 1 < length tails
  pub tail : (e : ℕ) → is_member e order ≡ true → slice_index tails (dart_at tails v e) ≡ v

-- the darts of the edges `some` of a cyclic order around v are linked to those that follow, and these back to them
pub record AreLinked (tails next prev : List ℕ) (v : ℕ) (order some : List ℕ) : Type 0 where
  pub forth : (e : ℕ) → is_member e some ≡ true → slice_index next (dart_at tails v e) ≡ dart_at tails v (successor order e)
  pub back : (e : ℕ) → is_member e some ≡ true → slice_index prev (dart_at tails v (successor order e)) ≡ dart_at tails v e

-- rings of darts keep a rotation system, each written from its least edge on
pub record AreRings (tails next prev : List ℕ) (rings : List Ring) : Type 0 where
  pub few : length tails ≤ max_darts
  pub few_rings : length rings ≤ max_vertices
  pub next_long : length next ≡ length tails
  pub prev_long : length prev ≡ length tails
  pub permutes : Permutes (length next) (slice_index next) (slice_index prev)
  pub first_in : All (λ ring. 0 < ring.degree → ring.first < length next) rings
  pub begins : (v : ℕ) (other : Ring) → v < length rings → 0 < (slice_index_or rings v other).degree → (slice_index_or rings v other).first ≡ dart_at tails v (first_or 0 (order_at (orders next rings) v))
  pub rounds : (v : ℕ) → v < length rings → StandRound tails v (order_at (orders next rings) v)
  pub linked : (v : ℕ) → v < length rings → AreLinked tails next prev v (order_at (orders next rings) v) (order_at (orders next rings) v)
  pub least : (v e : ℕ) → v < length rings → is_member e (order_at (orders next rings) v) ≡ true → first_or 0 (order_at (orders next rings) v) ≤ e
  pub each : (d : ℕ) → d < length tails → is_member (d / 2) (order_at (orders next rings) (slice_index tails d)) ≡ true

-- the vertices that the darts of g leave
pub record AreTails (g : Multigraph) (tails : List ℕ) : Type 0 where
  pub long : length tails ≡ 2 * edge_count g
  pub first : (e : ℕ) → e < edge_count g → slice_index tails (2 * e) ≡ (ends_of g e).0
  pub second : (e : ℕ) → e < edge_count g → slice_index tails (2 * e + 1) ≡ (ends_of g e).1

-- the ring of v in g: one dart for each edge at v, from the least edge on
pub record IsRingOf (g : Multigraph) (tails : List ℕ) (v : ℕ) (ring : Ring) : Type 0 where
  pub degree : ring.degree ≡ length (incident_edges g v)
  pub first : 0 < ring.degree → ring.first ≡ dart_at tails v (first_or 0 (incident_edges g v))

-- there are two nodes for each edge of g, and they leave its two ends, one each. Cyclic orders do not
-- determine which of the ends is the first: they are also those of the graph in which the two ends are exchanged.
pub record LeaveEnds (g : Multigraph) (tails : List ℕ) : Type 0 where
  pub count : length tails ≡ 2 * edge_count g
  pub ends : (e : ℕ) → e < edge_count g → ((slice_index tails (2 * e) ≡ (ends_of g e).0) × (slice_index tails (2 * e + 1) ≡ (ends_of g e).1))
      ⊎ ((slice_index tails (2 * e) ≡ (ends_of g e).1) × (slice_index tails (2 * e + 1) ≡ (ends_of g e).0))

-- rings on which cyclic orders are kept: each node leaves a vertex, an edge around v has one of its two nodes there, and after
-- and before this node come those of the edges that follow and precede it around v. In every graph that the orders are a rotation
-- system of, the two nodes of an edge leave its two ends.
pub record StandOnRings (r : List (List ℕ)) (links : Links) (tails : List ℕ) : Type 0 where
  pub leaves_each : length tails ≡ length links.next
  pub node : (v e : ℕ) → Contains (order_at r v) e → dart_at tails v e < length links.next
  pub leaves : (v e : ℕ) → Contains (order_at r v) e → slice_index tails (dart_at tails v e) ≡ v
  pub next : (v e : ℕ) → Contains (order_at r v) e → slice_index links.next (dart_at tails v e) ≡ dart_at tails v (successor (order_at r v) e)
  pub prev : (v e : ℕ) → Contains (order_at r v) e → slice_index links.prev (dart_at tails v e) ≡ dart_at tails v (predecessor (order_at r v) e)
  pub ends : (g : Multigraph) → IsGraph g → IsRotationSystem g r → LeaveEnds g tails
