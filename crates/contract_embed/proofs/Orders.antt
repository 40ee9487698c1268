-- The cyclic orders of a rotation system, read from its steps.
use Rattle.std.proofs.Common.{◌≡◌, ℕ, ◌+◌, ◌<◌, inl, inr, List, [], ◌∷◌, ◌++◌, length, get_or, slice_index, sym, ap, ◌∙◌, subst, arith}
use Rattle.std.specs.List.Sorted.{IsPermutation}
use Rattle.std.proofs.lemmas.Bool.{cases_eq}
use Rattle.std.proofs.Math.ListN.{get_or-append}
use Rattle.std.proofs.Math.Seq.{get_or-append_seam}
use Rattle.std.proofs.lemmas.List.{same_lists, get_or_default, length-append}
use Rattle.permutations.specs.Cyclic.{first_or, turned}
use Rattle.permutations.proofs.Turned.{turned-own}
use Rattle.multigraph.specs.Graph.{Multigraph, incident_edges}
use Rattle.rotations.specs.Entries.{entry, list_at}
use Rattle.rotations.specs.Given.{given_order, AreArranged}
use Rattle.rotations.specs.Rotation.{order_at}
use Rattle.rotations.proofs.Cursor.{list_at-found}
use Rattle.contract_obstruct.specs.Steps.{AreSteps}
use Rattle.contract_embed.specs.Entries.{AreOrdersBelow}

-- a list that gives the values of f, with one more
pub listed-push : (f : ℕ → ℕ) (k x : ℕ) (l : List ℕ) → length l ≡ k → ((d : ℕ) → d < k → slice_index l d ≡ f d) → x ≡ f k → (length (l ++ x ∷ []) ≡ k + 1) × ((d : ℕ) → d < k + 1 → slice_index (l ++ x ∷ []) d ≡ f d)
listed-push f k x l e h y = (length-append l (x ∷ []) ∙ ap (λ n. n + 1) e, each)
  where
    each : (d : ℕ) → d < k + 1 → slice_index (l ++ x ∷ []) d ≡ f d
    each d m = elim (cases_eq d k) [
      | inl q ↦ ap (slice_index (l ++ x ∷ [])) (q ∙ sym e) ∙ (get_or-append_seam l x [] 0 ∙ (y ∙ ap f (sym q)))
      | inr n ↦ get_or-append l (x ∷ []) 0 d (omega (arith, e)) ∙ h d (omega arith)
    ]

-- what is given for a vertex
pub orders-given : (s : List (List ℕ)) (k : ℕ) (entries : List (ℕ × List ℕ)) → AreOrdersBelow s k entries → (v : ℕ) → v < k → list_at entries v ≡ order_at s v
orders-given s k entries a v l = list_at-found entries v v (subst (λ n. v < n) (sym a.each) l) (λ i m q. absurd (omega (arith, a.vertex i (omega arith)))) (a.vertex v l) ∙ a.order v l

-- with the cyclic order of the next vertex they are one more
pub orders-more : (s : List (List ℕ)) (k : ℕ) (entries new : List (ℕ × List ℕ)) (edges : List ℕ) → AreOrdersBelow s k entries → edges ≡ order_at s k → new ≡ entries ++ (k, edges) ∷ [] → AreOrdersBelow s (k + 1) new
orders-more s k entries new edges a e p = subst (AreOrdersBelow s (k + 1)) (sym p) (record {
  each = length-append entries ((k, edges) ∷ []) ∙ ap (λ n. n + 1) a.each;
  vertex = λ v m. (at v m).0;
  order = λ v m. (at v m).1;
})
  where
    at : (v : ℕ) → v < k + 1 → ((entry (entries ++ (k, edges) ∷ []) v).0 ≡ v) × ((entry (entries ++ (k, edges) ∷ []) v).1 ≡ order_at s v)
    at v m = elim (cases_eq v k) [
      | inl q ↦
          let last : entry (entries ++ (k, edges) ∷ []) v ≡ (k, edges) = ap (entry (entries ++ (k, edges) ∷ [])) (q ∙ sym a.each) ∙ get_or-append_seam entries (k, edges) [] (0, []) in
          (ap (λ (z : ℕ × List ℕ). z.0) last ∙ sym q, ap (λ (z : ℕ × List ℕ). z.1) last ∙ e ∙ ap (order_at s) (sym q))
      | inr n ↦
          let l : v < k = omega (arith, m, n) in
          let own : entry (entries ++ (k, edges) ∷ []) v ≡ entry entries v = get_or-append entries ((k, edges) ∷ []) (0, []) v (subst (λ i. v < i) (sym a.each) l) in
          (ap (λ (z : ℕ × List ℕ). z.0) own ∙ a.vertex v l, ap (λ (z : ℕ × List ℕ). z.1) own ∙ a.order v l)
    ]

-- the rotation system of these entries is the one whose steps were read
pub orders-same : (g : Multigraph) (s r : List (List ℕ)) (next : List ℕ) (entries : List (ℕ × List ℕ)) → AreSteps g s next → ((v : ℕ) → v < g.vertex_count → list_at entries v ≡ order_at s v)
    → length r ≡ g.vertex_count → ((v : ℕ) → v < g.vertex_count → order_at r v ≡ given_order g entries v) → r ≡ s
orders-same g s r next entries a given vertices orders = same_lists r s (vertices ∙ sym a.system.vertices) each
  where
    one : (v : ℕ) → v < g.vertex_count → order_at r v ≡ order_at s v
    one v l = orders v l ∙ (ap (λ k. turned k (first_or 0 (incident_edges g v))) (given v l) ∙ (ap (turned (order_at s v)) (sym (a.system.orders v l).least_first) ∙ turned-own (order_at s v)))

    each : (k : ℕ) (d : List ℕ) → k < length r → get_or r k d ≡ get_or s k d
    each k d l =
        let m : k < g.vertex_count = subst (λ n. k < n) vertices l in
        get_or_default r k d [] l ∙ (one k m ∙ get_or_default s k [] d (subst (λ n. k < n) (sym a.system.vertices) m))

-- these entries are arranged
pub orders-arranged : (g : Multigraph) (s : List (List ℕ)) (next : List ℕ) (entries : List (ℕ × List ℕ)) → AreSteps g s next → AreOrdersBelow s g.vertex_count entries → AreArranged g entries
orders-arranged g s next entries a o = record {
  arranged = λ v l. subst (IsPermutation (incident_edges g v)) (sym (orders-given s g.vertex_count entries o v l)) (a.system.orders v l).arranged;
  vertices = λ v n. omega (arith, n.1, n.2, o.each, o.vertex n.0 (omega (arith, n.1, o.each)));
}
