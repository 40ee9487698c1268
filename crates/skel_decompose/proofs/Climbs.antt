-- Climbs as they are carried out: what is known of them before and after each entry.
use Rattle.std.proofs.Common.{◌≡◌, ◌≢◌, ℕ, ◌+◌, ◌*◌, ◌<◌, ◌==◌, if◌then◌else◌, List, length, slice_set, sym, ap, ◌∙◌, subst}
use Rattle.multigraph.specs.Graph.{Multigraph, edge_count}
use Rattle.pair_split.specs.Tutte.{Node}
use Rattle.skel_compose.specs.Homes.{home_at, IsHome, HasHomes}
use Rattle.skel_compose.proofs.Found.{home-is}
use Rattle.skel_compose.specs.Followers.{IsItemEnd, item_place, row_at, IsTable}
use Rattle.skel_decompose.specs.Followers.{IsFamily, IsStep, Keeps, HasLast}
use Rattle.skel_decompose.proofs.Around.{some-family, next-edge, home-leads}
use Rattle.skel_decompose.specs.Ups.{UpLink, up_at, HaveUps, rank_at, AreRanks}
use Rattle.skel_decompose.proofs.Below.{first, up-lesser}
use Rattle.skel_decompose.proofs.Entries.{entry-has, entry-keeps}
use Rattle.skel_decompose.proofs.Joins.{IsUpOf, AreClimbs, up-of, starts, up, up-follows, up-climbs, up-there, there-end, there-follows, there-climbs, met-follows, met-last, met-none, alone-follows, alone-last}

module _ (nodes : List Node) (homes : List (ℕ × ℕ)) (ups : List UpLink) (ranks : List ℕ) (hu : HaveUps nodes (length nodes) 1 ups) (a : AreRanks nodes ranks) (v e next : ℕ)
    (step : (g : Multigraph) × (r : List (List ℕ)) × IsStep g nodes r v e next × HasHomes g nodes (length nodes) 0 homes)
    (k0 i0 : ℕ) (l0 : k0 < length nodes) (h0 : IsHome nodes k0 i0 e) where
  next-in : next < edge_count step.0
  next-in = subst (λ z. z < edge_count step.0) (sym step.2.follows) (next-edge step.0 nodes step.1 step.2.runs v e step.2.edge step.2.end).1

  -- the home of the next edge
  pub next-below : next < length homes
  next-below = subst (λ n. next < n) (sym step.3.each) next-in

  abbrev there : ℕ × ℕ
  there = home_at homes next

  there-home : (there.0 < length nodes) × IsHome nodes there.0 there.1 next
  there-home =
      let w = home-is step.0 nodes step.2.runs.block.tree homes next step.3 next-in in
      (subst (λ (p : ℕ × ℕ). p.0 < length nodes) (sym w.4) w.2, subst (λ (p : ℕ × ℕ). IsHome nodes p.0 p.1 next) (sym w.4) w.3)

  -- of each rotation system with this step and each family that it follows
  abbrev pub Climb : List (List ℕ) → List (List ℕ) → ℕ → ℕ → ℕ → ℕ → Type 0
  Climb old table k i m p = (g : Multigraph) (r : List (List ℕ)) (family : List (List (List ℕ))) → IsStep g nodes r v e next → IsFamily nodes r family
      → AreClimbs nodes ranks r family table v e next k0 there.0 k i m p × Keeps nodes family old table

  pub climb-starts : e ≢ next → (table : List (List ℕ)) → Climb table table k0 i0 there.0 there.1
  climb-starts n table g r family s f = (
    starts g nodes r s.runs ranks a family f v e next s.edge s.end s.follows k0 i0 there.0 there.1 l0 h0 there-home.0 there-home.1 n table,
    λ k i w m h. h,
  )

  -- an edge that follows itself
  pub home-end : IsItemEnd nodes k0 i0 v
  home-end =
      let f = some-family step.0 nodes step.1 step.2.runs in
      let s = step.2 in
      home-end-of step.0 step.1 f.0 s f.1
    where
      home-end-of : (g : Multigraph) (r : List (List ℕ)) (family : List (List (List ℕ))) → IsStep g nodes r v e next → IsFamily nodes r family → IsItemEnd nodes k0 i0 v
      home-end-of g r family s f = let w = home-leads g nodes r s.runs family f v e s.edge s.end k0 i0 l0 h0.is_item h0.is_edge in record { is_node = l0; is_item = h0.is_item; end = w.end }

  pub alone-put : e ≡ next → (table new : List (List ℕ)) → IsTable nodes table → (place : ℕ) → place ≡ item_place nodes k0 i0 v → new ≡ slice_set table k0 (slice_set (row_at table k0) place i0)
      → (g : Multigraph) (r : List (List ℕ)) (family : List (List (List ℕ))) → IsStep g nodes r v e next → IsFamily nodes r family → Keeps nodes family table new × HasLast nodes r family new v e
  alone-put q table new t place at is g r family s f =
      let x = alone-follows g nodes r s.runs ranks a family f v e next s.edge s.end s.follows k0 i0 there.0 there.1 l0 h0 there-home.0 there-home.1 q in (
        entry-keeps nodes table t k0 i0 v i0 home-end place at new is family x,
        alone-last g nodes r s.runs ranks a family f v e next s.edge s.end s.follows k0 i0 there.0 there.1 l0 h0 there-home.0 there-home.1 q new (entry-has nodes table t k0 i0 v i0 home-end place at new is family x),
      )

  module _ (old table : List (List ℕ)) (t : IsTable nodes table) (k i m p : ℕ) (c : Climb old table k i m p) where
    some : AreClimbs nodes ranks step.1 (some-family step.0 nodes step.1 step.2.runs).0 table v e next k0 there.0 k i m p
    some = let f = some-family step.0 nodes step.1 step.2.runs in (c step.0 step.1 f.0 step.2 f.1).0

    pub here-in : k < length nodes
    here-in = some.here.is_node

    pub there-in : m < length nodes
    there-in = some.there.is_node

    pub here-end : IsItemEnd nodes k i v
    here-end = record { is_node = some.here.is_node; is_item = some.here.is_item; end = some.here.end }

    module _ (less : rank_at ranks m < rank_at ranks k) where
      pub up-link : IsUpOf nodes k (up_at ups k)
      up-link =
          let f = some-family step.0 nodes step.1 step.2.runs in
          let w = up step.0 nodes step.1 step.2.runs ranks a f.0 f.1 v e next step.2.edge step.2.end step.2.follows k0 i0 there.0 there.1 l0 h0 there-home.0 there-home.1 table k i m p some less in
          up-of step.0 nodes step.1 step.2.runs ups hu k w.0 some.here.is_node w.1

      pub up-falls : rank_at ranks (up_at ups k).node < rank_at ranks k
      up-falls = a.falls k (up_at ups k).node some.here.is_node up-link.above

      pub up-place : (place : ℕ) → place ≡ (if (up_at ups k).lesser == v then 2 * (up_at ups k).item else 2 * (up_at ups k).item + 1) → place ≡ item_place nodes (up_at ups k).node (up_at ups k).item v
      up-place place q = q ∙ ap (λ z. if z == v then 2 * (up_at ups k).item else 2 * (up_at ups k).item + 1) up-link.lesser

      pub up-put : (place : ℕ) → place ≡ item_place nodes k i v → (new : List (List ℕ)) → new ≡ slice_set table k (slice_set (row_at table k) place 0)
          → Climb old new (up_at ups k).node (up_at ups k).item m p
      up-put place at new is g r family s f =
          let w = c g r family s f in
          let x = up-follows g nodes r s.runs ranks a family f v e next s.edge s.end s.follows k0 i0 there.0 there.1 l0 h0 there-home.0 there-home.1 table k i m p w.0 less in
          let keeps = entry-keeps nodes table t k i v 0 here-end place at new is family x in (
            up-climbs g nodes r s.runs ranks a family f v e next s.edge s.end s.follows k0 i0 there.0 there.1 l0 h0 there-home.0 there-home.1 table k i m p w.0 less (up_at ups k) up-link new keeps
                (entry-has nodes table t k i v 0 here-end place at new is family x),
            λ j h u n y. keeps j h u n (w.1 j h u n y),
          )

    module _ (less : rank_at ranks k < rank_at ranks m) where
      pub there-link : IsUpOf nodes m (up_at ups m)
      there-link =
          let f = some-family step.0 nodes step.1 step.2.runs in
          let w = up-there step.0 nodes step.1 step.2.runs ranks a f.0 f.1 v e next step.2.edge step.2.end step.2.follows k0 i0 there.0 there.1 l0 h0 there-home.0 there-home.1 table k i m p some less in
          up-of step.0 nodes step.1 step.2.runs ups hu m w.0 some.there.is_node w.1

      pub there-falls : rank_at ranks (up_at ups m).node < rank_at ranks m
      there-falls = a.falls m (up_at ups m).node some.there.is_node there-link.above

      pub first-end : IsItemEnd nodes m 0 v
      first-end =
          let f = some-family step.0 nodes step.1 step.2.runs in
          let s = step.2 in
          record {
            is_node = some.there.is_node;
            is_item = first step.0 nodes s.runs.block s.runs.limits (rank_at ranks) a.falls m some.there.is_node;
            end = there-end step.0 nodes step.1 s.runs ranks a f.0 f.1 v e next s.edge s.end s.follows k0 i0 there.0 there.1 l0 h0 there-home.0 there-home.1 table k i m p some less;
          }

      pub first-place : (place : ℕ) → place ≡ (if (up_at ups m).lesser == v then 0 else 1) → place ≡ item_place nodes m 0 v
      first-place place q = q ∙ ap (λ z. if z == v then 0 else 1)
          (there-link.lesser ∙ sym (up-lesser step.0 nodes step.2.runs.block step.2.runs.limits (rank_at ranks) a.falls m (up_at ups m).node (up_at ups m).item some.there.is_node there-link.above there-link.is_item there-link.is_link))

      pub there-put : (place : ℕ) → place ≡ item_place nodes m 0 v → (new : List (List ℕ)) → new ≡ slice_set table m (slice_set (row_at table m) place p)
          → Climb old new k i (up_at ups m).node (up_at ups m).item
      there-put place at new is g r family s f =
          let w = c g r family s f in
          let x = there-follows g nodes r s.runs ranks a family f v e next s.edge s.end s.follows k0 i0 there.0 there.1 l0 h0 there-home.0 there-home.1 table k i m p w.0 less in
          let keeps = entry-keeps nodes table t m 0 v p first-end place at new is family x in (
            there-climbs g nodes r s.runs ranks a family f v e next s.edge s.end s.follows k0 i0 there.0 there.1 l0 h0 there-home.0 there-home.1 table k i m p w.0 less (up_at ups m) there-link new keeps
                (entry-has nodes table t m 0 v p first-end place at new is family x),
            λ j h u n y. keeps j h u n (w.1 j h u n y),
          )

    module _ (other : e ≢ next) (met : k ≡ m) where
      pub met-put : i ≢ p → (place : ℕ) → place ≡ item_place nodes k i v → (new : List (List ℕ)) → new ≡ slice_set table k (slice_set (row_at table k) place p)
          → (g : Multigraph) (r : List (List ℕ)) (family : List (List (List ℕ))) → IsStep g nodes r v e next → IsFamily nodes r family → Keeps nodes family old new × HasLast nodes r family new v e
      met-put n place at new is g r family s f =
          let w = c g r family s f in
          let x = met-follows g nodes r s.runs ranks a family f v e next s.edge s.end s.follows k0 i0 there.0 there.1 l0 h0 there-home.0 there-home.1 table k i m p w.0 other met n in
          let keeps = entry-keeps nodes table t k i v p here-end place at new is family x in (
            λ j h u d y. keeps j h u d (w.1 j h u d y),
            met-last g nodes r s.runs ranks a family f v e next s.edge s.end s.follows k0 i0 there.0 there.1 l0 h0 there-home.0 there-home.1 table k i m p w.0 other met new keeps (entry-has nodes table t k i v p here-end place at new is family x),
          )

      pub met-done : i ≡ p → (g : Multigraph) (r : List (List ℕ)) (family : List (List (List ℕ))) → IsStep g nodes r v e next → IsFamily nodes r family → Keeps nodes family old table × HasLast nodes r family table v e
      met-done q g r family s f =
          let w = c g r family s f in
          (w.1, met-none g nodes r s.runs ranks a family f v e next s.edge s.end s.follows k0 i0 there.0 there.1 l0 h0 there-home.0 there-home.1 table k i m p w.0 other met q)
