-- The tables of a cut vertex: that they are those of its blocks, and what a change of what follows an edge leaves.
use Rattle.std.proofs.Common.{◌≡◌, ◌≢◌, ℕ, ◌+◌, ◌<◌, ◌^◌, inl, inr, true, nat_lt, List, [], ◌∷◌, ◌++◌, length, map, slice_index, slice_set, sym, ap, ◌∙◌, subst, arith}
use Rattle.std.proofs.lemmas.Bool.{cases_lt}
use Rattle.std.proofs.lemmas.List.{get_or-map, length-map, get_or-set_same, get_or-set_other, length_push, get_or_append_left, get_or_push}
use Rattle.permutations.specs.Members.{is_member, place_of}
use Rattle.permutations.proofs.Places.{place-below, place-holds, place-of}
use Rattle.multigraph.specs.Graph.{incident_edges}
use Rattle.multigraph.specs.Part.{IsNumbered}
use Rattle.multigraph.proofs.Incident.{incident_at-edge, incident-rises, length-incident}
use Rattle.rotations.proofs.Membership.{member-edge}
use Rattle.choice_lists.specs.Order.{IsRising}
use Rattle.arrangements.specs.Arranged.{AreOrders}
use Rattle.arrangements.specs.Options.{follower}
use Rattle.arrangements.specs.Tables.{VertexTables, follow_in, AreTablesOf}
use Rattle.whole_embed.specs.Component.{Component, BlockInPlane}
use Rattle.whole_embed.specs.Around.{edges_around, block_with, block_order}
use Rattle.whole_embed.specs.Keeping.{KeepsTables, AreRanks, numbers_at, tables_at}
use Rattle.whole_embed.proofs.Outer.{place-rising, rises-map}
use Rattle.whole_embed.proofs.Arranging.{rising-from}
use Rattle.whole_embed.proofs.Assembled.{IsAssembled}

-- the tables with another edge after e
abbrev pub followed : VertexTables → ℕ → ℕ → VertexTables
followed t e f = record t { followers = slice_set t.followers (place_of t.edges e) f }

-- it comes after e
pub followed-same : (t : VertexTables) (e f : ℕ) → is_member e t.edges ≡ true → length t.followers ≡ length t.edges → follow_in (followed t e f) e ≡ f
followed-same t e f m l = get_or-set_same t.followers (place_of t.edges e) f 0 (omega (arith, place-below t.edges e m, l))

-- after the others comes what came before
pub followed-other : (t : VertexTables) (e f x : ℕ) → is_member e t.edges ≡ true → is_member x t.edges ≡ true → x ≢ e → follow_in (followed t e f) x ≡ follow_in t x
followed-other t e f x m n d = get_or-set_other t.followers (place_of t.edges e) (place_of t.edges x) f 0
    (λ q. d (sym (place-holds t.edges x n) ∙ (ap (slice_index t.edges) q ∙ place-holds t.edges e m)))

-- the tables have the same edges and ranks
pub followed-keeps : (k : Component) (v : ℕ) (t : VertexTables) (e f : ℕ) → KeepsTables k v t → KeepsTables k v (followed t e f)
followed-keeps k v t e f h = record { edges = h.edges; ranks = h.ranks }

-- tables in which each edge is followed as in its block are those of the blocks
pub tables-are : (k : Component) (block : ℕ → BlockInPlane) (v : ℕ) (t : VertexTables) → IsAssembled k block → is_member v k.part.vertices ≡ true → KeepsTables k v t
    → ((j : ℕ) → j < length (edges_around k v) → follow_in t (slice_index (edges_around k v) j) ≡ follower (block_with k) (block_order block v) (slice_index (edges_around k v) j))
    → AreTablesOf t (block_with k) (block_order block v)
tables-are k block v t a m h f = record {
  orders = subst (AreOrders (block_with k) (block_order block v)) (sym h.edges) (a.orders v m);
  ranks = h.ranks;
  follows = λ e n.
      let w = place-of (edges_around k v) e (subst (λ (l : List ℕ). is_member e l ≡ true) h.edges n) in
      subst (λ (z : ℕ). follow_in t z ≡ follower (block_with k) (block_order block v) z) w.2 (f w.0 w.1);
}

-- the tables that are made
pub tables-kept : (k : Component) (v i : ℕ) (edges ranks followers : List ℕ) → IsNumbered k.part → i ≡ place_of k.part.vertices v → length k.edge_blocks ≡ length k.part.edges
    → edges ≡ map (slice_index k.part.edges) (incident_edges k.part.graph i) → AreRanks (numbers_at k i) ranks → KeepsTables k v (record { edges = edges; ranks = ranks; followers = followers })
tables-kept k v i edges ranks followers n at each is r = record {
  edges = is ∙ ap (λ (z : ℕ). map (slice_index k.part.edges) (incident_edges k.part.graph z)) at;
  ranks = λ e x me mx.
      let p = place_of edges e in
      let q = place_of edges x in
      let lp : p < length (numbers_at k i) = within e me in
      let lq : q < length (numbers_at k i) = within x mx in
      r.same p q lp lq ∙ (ap (λ (z : ℕ). nat_lt z (slice_index (numbers_at k i) q)) (number e me) ∙ ap (nat_lt (block_with k e)) (number x mx));
}
  where
    inner : List ℕ
    inner = incident_edges k.part.graph i

    within : (e : ℕ) → is_member e edges ≡ true → place_of edges e < length (numbers_at k i)
    within e m = omega (arith, place-below edges e m, ap length is, length-map inner (slice_index k.part.edges), length-map inner (slice_index k.edge_blocks))

    -- the number at the place of an edge is that of its block
    number : (e : ℕ) → is_member e edges ≡ true → slice_index (numbers_at k i) (place_of edges e) ≡ block_with k e
    number e m =
        let p = place_of edges e in
        let lp : p < length inner = omega (arith, within e m, length-map inner (slice_index k.edge_blocks)) in
        let here : e ≡ slice_index k.part.edges (slice_index inner p) = sym (place-holds edges e m) ∙ (ap (λ (l : List ℕ). slice_index l p) is ∙ get_or-map (slice_index k.part.edges) inner p 0 0 lp) in
        let back : place_of k.part.edges e ≡ slice_index inner p = ap (place_of k.part.edges) here ∙ place-rising k.part.edges (slice_index inner p) n.edges_rise (omega (arith, incident_at-edge k.part.graph i p 0 lp, n.edge_each)) in
        get_or-map (slice_index k.edge_blocks) inner p 0 0 lp ∙ ap (slice_index k.edge_blocks) (sym back)

-- the edges around a vertex increase
pub rising-around : (k : Component) (i : ℕ) → IsNumbered k.part → IsRising nat_lt (map (slice_index k.part.edges) (incident_edges k.part.graph i))
rising-around k i n = rising-from (map (slice_index k.part.edges) (incident_edges k.part.graph i)) (rises-map (slice_index k.part.edges) (incident_edges k.part.graph i) (λ a b l m. incident-rises k.part.graph i a b 0 l m)
    (λ a b ma mb l. n.edges_rise a b l (omega (arith, member-edge k.part.graph i b mb, n.edge_each))))

-- they are few
pub few-around : (k : Component) (i : ℕ) → IsNumbered k.part → length (incident_edges k.part.graph i) < 2 ^ 32
few-around k i n = omega (arith, length-incident k.part.graph i, n.limits.few_edges)

-- the tables of a vertex after those of the others
pub tables-more : (k : Component) (old new : List VertexTables) (n : ℕ) (t : VertexTables) → length old ≡ n → ((i : ℕ) → i < n → KeepsTables k (slice_index k.cuts i) (tables_at old i)) → KeepsTables k (slice_index k.cuts n) t → new ≡ old ++ t ∷ []
    → (length new ≡ n + 1) × ((i : ℕ) → i < n + 1 → KeepsTables k (slice_index k.cuts i) (tables_at new i))
tables-more k old new n t l h kept is = subst (λ (z : List VertexTables). (length z ≡ n + 1) × ((i : ℕ) → i < n + 1 → KeepsTables k (slice_index k.cuts i) (tables_at z i))) (sym is) (
  length_push old t ∙ ap (λ (m : ℕ). m + 1) l,
  λ i less. elim (cases_lt i n) [
    | inl b ↦ subst (KeepsTables k (slice_index k.cuts i)) (sym (get_or_append_left old (t ∷ []) none i (omega (arith, b, l)))) (h i b)
    | inr b ↦
        let at : i ≡ n = omega (arith, less, b) in
        subst (KeepsTables k (slice_index k.cuts i)) (sym (get_or_push old t none i (omega (arith, at, l)))) (subst (λ (m : ℕ). KeepsTables k (slice_index k.cuts m) t) (sym at) kept)
  ],
)
  where
    none : VertexTables
    none = record { edges = []; ranks = []; followers = [] }
