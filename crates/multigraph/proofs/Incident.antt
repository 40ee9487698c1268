-- The edges at a vertex: they are the edges that have it as an end, each once, rising.
use Rattle.std.proofs.Common.{◌≡◌, ℕ, ◌<◌, ◌≤◌, true, length, get_or}
use Rattle.std.specs.List.{Contains}
use Rattle.multigraph.specs.Graph.{Multigraph, edge_count, is_end, incident_edges}
use Rattle.multigraph.proofs.Below.{length-filter_below, filter_below-has, filter_below-only, filter_below-at, filter_below-rises}

-- there are at most as many as the multigraph has
pub length-incident : (g : Multigraph) (v : ℕ) → length (incident_edges g v) ≤ edge_count g
length-incident g v = length-filter_below (is_end g v) (edge_count g)

-- an edge that has v as an end is at v
pub incident-has : (g : Multigraph) (v e : ℕ) → e < edge_count g → is_end g v e ≡ true → Contains (incident_edges g v) e
incident-has g v e l h = filter_below-has (is_end g v) (edge_count g) e l h

-- what is at v is an edge
pub incident-edge : (g : Multigraph) (v e : ℕ) → Contains (incident_edges g v) e → e < edge_count g
incident-edge g v e c = (filter_below-only (is_end g v) (edge_count g) e c).0

-- an edge at v has it as an end
pub incident-end : (g : Multigraph) (v e : ℕ) → Contains (incident_edges g v) e → is_end g v e ≡ true
incident-end g v e c = (filter_below-only (is_end g v) (edge_count g) e c).1

-- the number at a place is an edge
pub incident_at-edge : (g : Multigraph) (v k d : ℕ) → k < length (incident_edges g v) → get_or (incident_edges g v) k d < edge_count g
incident_at-edge g v k d l = (filter_below-at (is_end g v) (edge_count g) k d l).0

-- the edge at a place has v as an end
pub incident_at-end : (g : Multigraph) (v k d : ℕ) → k < length (incident_edges g v) → is_end g v (get_or (incident_edges g v) k d) ≡ true
incident_at-end g v k d l = (filter_below-at (is_end g v) (edge_count g) k d l).1

-- the edges at v rise
pub incident-rises : (g : Multigraph) (v i j d : ℕ) → i < j → j < length (incident_edges g v) → get_or (incident_edges g v) i d < get_or (incident_edges g v) j d
incident-rises g v i j d l m = filter_below-rises (is_end g v) (edge_count g) i j d l m
