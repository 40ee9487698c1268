-- Why a list of edges is not an arrangement at a cut vertex, in the numbers of the graph; and that it is one where there is no reason.
use Rattle.std.proofs.Common.{◌≡◌, ℕ, ◌<◌, true, false, List, length, map, get_or, slice_index, sym, ap, ◌∙◌, subst, arith, inl, inr, Contains, IsPermutation}
use Rattle.std.proofs.lemmas.Bool.{cases_lt, lt-ltb, ltb-true}
use Rattle.std.proofs.lemmas.List.{get_or-map, length-map}
use Rattle.std.proofs.lemmas.List.Sorted.{length_permutation}
use Rattle.permutations.specs.Members.{is_member}
use Rattle.permutations.specs.Cyclic.{from_least}
use Rattle.permutations.proofs.Arrangements.{member-at}
use Rattle.permutations.proofs.NormalForm.{from_least-member}
use Rattle.multigraph.specs.Graph.{incident_edges}
use Rattle.multigraph.specs.Part.{IsNumbered, Rises}
use Rattle.multigraph.proofs.Incident.{incident_at-edge}
use Rattle.rotations.specs.Rotation.{IsCyclicOrder}
use Rattle.skeletons.proofs.Systems.{order-arranged}
use Rattle.arrangements.specs.Arranged.{AreOrders, cross}
use Rattle.arrangements.specs.Changed.{AreKept, IsLeastChangedRank}
use Rattle.arrangements.specs.Crossings.{IsCrossingOf}
use Rattle.arrangements.specs.Refused.{IsLeastChanged, IsLeastCrossing}
use Rattle.arrangements.specs.Tables.{VertexTables, rank_in}
use Rattle.arrangements.proofs.Laws.{arrangements_are_listed}
use Rattle.whole_embed.specs.declared.faults.RegroupFault.TheVariants.{BlockOrder, Cross}
use Rattle.whole_embed.specs.Component.{Component, BlockInPlane, IsComponentInPlane}
use Rattle.whole_embed.specs.Around.{edges_around, block_with, block_order, arrangements_around}
use Rattle.whole_embed.specs.Cuts.{IsRegroupRefusal}
use Rattle.whole_embed.specs.Keeping.{KeepsTables, IsFoundRank, numbers_at}
use Rattle.whole_embed.proofs.Outer.{place-rising, rises-distinct, first-least}
use Rattle.whole_embed.proofs.Assembly.{assembled}

-- edges of one rank are of one block
same-block : (k : Component) (v : ℕ) (t : VertexTables) → KeepsTables k v t → (e x : ℕ) → is_member e t.edges ≡ true → is_member x t.edges ≡ true → rank_in t e ≡ rank_in t x → block_with k e ≡ block_with k x
same-block k v t h e x me mx q = elim (cases_lt (block_with k e) (block_with k x)) [
  | inl l ↦ absurd (omega (arith, q, ltb-true (rank_in t e) (rank_in t x) (h.ranks e x me mx ∙ lt-ltb (block_with k e) (block_with k x) l)))
  | inr l ↦ elim (cases_lt (block_with k x) (block_with k e)) [
    | inl m ↦ absurd (omega (arith, q, ltb-true (rank_in t x) (rank_in t e) (h.ranks x e mx me ∙ lt-ltb (block_with k x) (block_with k e) m)))
    | inr m ↦ omega (arith, l, m)
  ]
]

-- the block of the edge at place p
at-block : (k : Component) (i p : ℕ) (at numbers : List ℕ) → IsNumbered k.part → at ≡ map (slice_index k.part.edges) (incident_edges k.part.graph i) → numbers ≡ numbers_at k i → p < length at
    → slice_index numbers p ≡ block_with k (slice_index at p)
at-block k i p at numbers n qa qn l =
    let inner : List ℕ = incident_edges k.part.graph i in
    let lp : p < length inner = omega (arith, l, ap length qa, length-map inner (slice_index k.part.edges)) in
    let x : ℕ = get_or inner p 0 in
    let lx : x < length k.part.edges = omega (arith, incident_at-edge k.part.graph i p 0 lp, n.edge_each) in
    ap (λ (z : List ℕ). slice_index z p) qn
    ∙ (get_or-map (slice_index k.edge_blocks) inner p 0 0 lp
    ∙ (sym (ap (slice_index k.edge_blocks) (place-rising k.part.edges x n.edges_rise lx))
    ∙ ap (block_with k) (sym (ap (λ (z : List ℕ). slice_index z p) qa ∙ get_or-map (slice_index k.part.edges) inner p 0 0 lp))))

-- the block that is found is that of each edge of the rank
pub own-block : (k : Component) (v i : ℕ) (t : VertexTables) (at numbers : List ℕ) (rank b : ℕ) → KeepsTables k v t → IsNumbered k.part → at ≡ map (slice_index k.part.edges) (incident_edges k.part.graph i)
    → numbers ≡ numbers_at k i → t.edges ≡ at → IsFoundRank t at numbers rank b → (e : ℕ) → is_member e t.edges ≡ true → rank_in t e ≡ rank → b ≡ block_with k e
own-block k v i t at numbers rank b h n qa qn qt f e me re =
    f.is ∙ (at-block k i f.place at numbers n qa qn f.within
    ∙ same-block k v t h (slice_index at f.place) e (subst (λ (l : List ℕ). is_member (slice_index at f.place) l ≡ true) (sym qt) (member-at at f.place 0 f.within)) me (f.rank ∙ sym re))

module _ (k : Component) (block : ℕ → BlockInPlane) (v : ℕ) (t : VertexTables) (edges l : List ℕ) (perm : IsPermutation (edges_around k v) edges) (ql : l ≡ from_least edges) where
  -- a block is changed
  pub refusal-changed : (rank b : ℕ) → IsLeastChangedRank t (block_with k) (block_order block v) l rank → ((e : ℕ) → is_member e t.edges ≡ true → rank_in t e ≡ rank → b ≡ block_with k e)
      → IsRegroupRefusal k block v edges (BlockOrder b)
  refusal-changed rank b h own = (
    perm,
    subst (IsLeastChanged (block_with k) (block_order block v) (from_least edges)) (sym (own h.edge h.within h.of_rank))
        (subst (λ (z : List ℕ). IsLeastChanged (block_with k) (block_order block v) z (block_with k h.edge)) ql h.least),
  )

  -- two blocks cross
  pub refusal-crossing : (r s b c : ℕ) → AreKept (block_with k) (block_order block v) l → IsCrossingOf t (block_with k) l r s
      → ((e : ℕ) → is_member e t.edges ≡ true → rank_in t e ≡ r → b ≡ block_with k e) → ((e : ℕ) → is_member e t.edges ≡ true → rank_in t e ≡ s → c ≡ block_with k e)
      → IsRegroupRefusal k block v edges (Cross b c)
  refusal-crossing r s b c kept h own other =
      let all : AreKept (block_with k) (block_order block v) (from_least edges) = subst (AreKept (block_with k) (block_order block v)) ql kept in (
        perm,
        λ e m. all e (from_least-member edges e ∙ m),
        subst (λ (z : ℕ). IsLeastCrossing (block_with k) (from_least edges) z c) (sym (own h.first h.first_met h.first_rank))
            (subst (IsLeastCrossing (block_with k) (from_least edges) (block_with k h.first)) (sym (other h.second h.second_met h.second_rank))
            (subst (λ (z : List ℕ). IsLeastCrossing (block_with k) z (block_with k h.first) (block_with k h.second)) ql h.least)),
      )

  -- there is no reason
  pub no-refusal : AreOrders (block_with k) (block_order block v) (edges_around k v) → IsCyclicOrder (edges_around k v) l → AreKept (block_with k) (block_order block v) l
      → ((b c : ℕ) → cross (block_with k) b c l ≡ false) → Contains (arrangements_around k block v) l
  no-refusal o round kept apart =
      ((arrangements_are_listed (block_with k) (block_order block v) (edges_around k v) o).exactly l).1
      (record { all = round.arranged; least_first = round.least_first; kept = kept; apart = apart })

-- an ordering, from its least edge on, is a cyclic order
pub around-order : (k : Component) (v : ℕ) (edges : List ℕ) → Rises (edges_around k v) → IsPermutation (edges_around k v) edges → IsCyclicOrder (edges_around k v) (from_least edges)
around-order k v edges rise perm = order-arranged (edges_around k v) edges (rises-distinct (edges_around k v) rise) (λ e m. first-least (edges_around k v) e rise m) perm

-- an arrangement has all edges
pub arranged-length : (k : Component) (block : ℕ → BlockInPlane) (v : ℕ) (l : List ℕ) → IsComponentInPlane k block → is_member v k.cuts ≡ true → Contains (arrangements_around k block v) l → length l ≡ length (edges_around k v)
arranged-length k block v l w m h =
    let a = assembled k block w in
    length_permutation (edges_around k v) l (((arrangements_are_listed (block_with k) (block_order block v) (edges_around k v) (a.orders v (a.cuts_in v m))).exactly l).0 h).all
