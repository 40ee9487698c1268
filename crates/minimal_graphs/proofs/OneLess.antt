-- A triconnected graph without one edge is one block.
use Rattle.std.proofs.Common.{◌≡◌, ◌≢◌, ℕ, ◌<◌, ◌⊎◌, inl, inr, true, false, ◌==◌, not, [], ◌∷◌, refl, sym, ap, ◌∙◌, subst, arith}
use Rattle.std.proofs.lemmas.Bool.{cases_eq, ne_eqb, not_from_false}
use Rattle.permutations.specs.Members.{is_member}
use Rattle.permutations.specs.Relation.{connected}
use Rattle.permutations.proofs.Members.{no_member-cons, no_member-head, no_member-tail}
use Rattle.permutations.proofs.Relation.{connected-reflexive, connected-symmetric, connected-transitive}
use Rattle.multigraph.specs.Graph.{Multigraph, IsGraph, edge_count, ends_of, is_end, other_end}
use Rattle.multigraph.proofs.OtherEnd.{is_end-cases, is_end-first, is_end-second, other_end-in}
use Rattle.graph_theory.specs.Block.{SameBlock, IsOneBlock}
use Rattle.graph_theory.specs.Triconnected.{ends_without, IsTriconnected}
use Rattle.graph_theory.proofs.Ends.{end-in, other-differs}
use Rattle.graph_theory.proofs.Exchange.{block-symmetric, block-transitive}
use Rattle.graph_theory.proofs.Removed.{least-without, link-without, step-without}
use Rattle.graph_theory.proofs.AtVertex.{at_vertex-cycle}
use Rattle.contractions.proofs.Neighbours.{neighbour, three_neighbours}
use Rattle.minimal_graphs.proofs.Renamed.{Renames, same-end, same-other}

-- not removed are numbers other than two, or other than one
out-both : (u v a : ℕ) → u ≢ v → u ≢ a → is_member u (v ∷ a ∷ []) ≡ false
out-both u v a n o = no_member-cons u v (a ∷ []) (λ q. n (sym q)) (no_member-cons u a [] (λ q. o (sym q)) refl)

out-one : (u v : ℕ) → u ≢ v → is_member u (v ∷ []) ≡ false
out-one u v n = no_member-cons u v [] (λ q. n (sym q)) refl

-- each vertex of a triconnected graph has an edge other than e
pub other_edge-at : (g : Multigraph) → IsGraph g → IsTriconnected g → (e v : ℕ) → v < g.vertex_count → (f : ℕ) × (f < edge_count g) × (f ≢ e) × (is_end g v f ≡ true)
other_edge-at g ok tri e v l =
    let n = three_neighbours g ok tri v l in
    elim (cases_eq n.first e) [
      | inl q ↦ (n.second, n.second_edge, (λ z. n.first_second (ap (λ k. other_end g k v) (q ∙ sym z))), n.second_end)
      | inr z ↦ (n.first, n.first_edge, z, n.first_end)
    ]

-- another edge than e passes
pub passes : (e f : ℕ) → f ≢ e → not (f == e) ≡ true
passes e f n = not_from_false (f == e) (ne_eqb f e n)

module _ (g : Multigraph) (ok : IsGraph g) (tri : IsTriconnected g) (e : ℕ) (le : e < edge_count g) (p : Multigraph) (okp : IsGraph p) (r : ℕ → ℕ) (h : Renames g p (λ f. not (f == e)) r)
    (same : p.vertex_count ≡ g.vertex_count) where
  -- an edge that avoids an end of e is another one
  other-edge : (a f : ℕ) → is_end g a e ≡ true → (ends_of g f).0 ≢ a → (ends_of g f).1 ≢ a → f ≢ e
  other-edge a f i m n q = elim (is_end-cases g a e i) [ inl u ↦ m (ap (λ z. (ends_of g z).0) q ∙ u) | inr u ↦ n (ap (λ z. (ends_of g z).1) q ∙ u) ]

  -- what stays connected in g without v and an end of e, does so without e and v
  avoids-edge : (v a : ℕ) → is_end g a e ≡ true → (u w : ℕ) → connected (ends_without g (v ∷ a ∷ [])) u w ≡ true → connected (ends_without p (v ∷ [])) u w ≡ true
  avoids-edge v a i u w c = least-without g (v ∷ a ∷ []) (λ x y. connected (ends_without p (v ∷ [])) x y ≡ true)
      (connected-reflexive (ends_without p (v ∷ []))) (connected-symmetric (ends_without p (v ∷ []))) (connected-transitive (ends_without p (v ∷ [])))
      (λ f l m n.
      let q : not (f == e) ≡ true = passes e f (other-edge a f i
      (λ y. no_member-head (ends_of g f).0 a [] (no_member-tail (ends_of g f).0 v (a ∷ []) m) (sym y))
      (λ y. no_member-head (ends_of g f).1 a [] (no_member-tail (ends_of g f).1 v (a ∷ []) n) (sym y))) in
      subst (λ (x : ℕ × ℕ). connected (ends_without p (v ∷ [])) x.0 x.1 ≡ true) (h.same_ends f l q)
      (link-without p (v ∷ []) (r f) (h.edge_in f l q)
      (subst (λ (x : ℕ × ℕ). is_member x.0 (v ∷ []) ≡ false) (sym (h.same_ends f l q)) (out-one (ends_of g f).0 v (λ y. no_member-head (ends_of g f).0 v (a ∷ []) m (sym y))))
      (subst (λ (x : ℕ × ℕ). is_member x.1 (v ∷ []) ≡ false) (sym (h.same_ends f l q)) (out-one (ends_of g f).1 v (λ y. no_member-head (ends_of g f).1 v (a ∷ []) n (sym y))))))
      u w c

  -- other vertices than v stay connected without e and v, where an end of e is none of them
  apart-end : (v a : ℕ) → is_end g a e ≡ true → (x y : ℕ) → x < g.vertex_count → y < g.vertex_count → x ≢ v → y ≢ v → x ≢ a → y ≢ a → connected (ends_without p (v ∷ [])) x y ≡ true
  apart-end v a i x y lx ly xv yv xa ya = avoids-edge v a i x y (tri.stays_connected v a x y lx ly (out-both x v a xv xa) (out-both y v a yv ya))

  -- each end of e is connected with another vertex, without v
  steps-off : (v a b : ℕ) → is_end g a e ≡ true → other_end g e a ≡ b → a ≢ v → (w : ℕ) × (w < g.vertex_count) × (w ≢ v) × (w ≢ a) × (w ≢ b) × (connected (ends_without p (v ∷ [])) a w ≡ true)
  steps-off v a b i o n =
      let f = neighbour g ok tri a v b (end-in g ok e a le i) in
      let q : not (f.0 == e) ≡ true = passes e f.0 (λ z. f.4 (ap (λ k. other_end g k a) z ∙ o)) in
      let there : other_end p (r f.0) a ≡ other_end g f.0 a = same-other g p (λ f. not (f == e)) r h f.0 a f.1 q in (
        other_end g f.0 a,
        other_end-in g f.0 a ok f.1,
        f.3,
        other-differs g ok f.0 a f.1 f.2,
        f.4,
        subst (λ z. connected (ends_without p (v ∷ [])) a z ≡ true) there
            (step-without p (v ∷ []) (r f.0) a (h.edge_in f.0 f.1 q) (same-end g p (λ f. not (f == e)) r h f.0 a f.1 q ∙ f.2) (out-one a v n)
            (out-one (other_end p (r f.0) a) v (λ z. f.3 (sym there ∙ z)))),
      )

  -- other vertices than v stay connected without e and v
  pub stays : (v x y : ℕ) → x < g.vertex_count → y < g.vertex_count → x ≢ v → y ≢ v → connected (ends_without p (v ∷ [])) x y ≡ true
  stays v x y lx ly xv yv = elim (cases_eq x y) [
    | inl q ↦ subst (λ z. connected (ends_without p (v ∷ [])) x z ≡ true) q (connected-reflexive (ends_without p (v ∷ [])) x)
    | inr n ↦ elim (cases_eq x a) [
      | inl xa ↦ from-end x y lx ly n xv yv (subst (λ z. is_end g z e ≡ true) (sym xa) ia)
      | inr xa ↦ elim (cases_eq y a) [
        | inl ya ↦ connected-symmetric (ends_without p (v ∷ [])) y x (from-end y x ly lx (λ q. n (sym q)) yv xv (subst (λ z. is_end g z e ≡ true) (sym ya) ia))
        | inr ya ↦ apart-end v a ia x y lx ly xv yv xa ya
      ]
    ]
  ]
    where
      a : ℕ
      a = (ends_of g e).0

      ia : is_end g a e ≡ true
      ia = is_end-first g e

      -- from an end of e, to a third vertex, and on without that end
      from-end : (x y : ℕ) → x < g.vertex_count → y < g.vertex_count → x ≢ y → x ≢ v → y ≢ v → is_end g x e ≡ true → connected (ends_without p (v ∷ [])) x y ≡ true
      from-end x y lx ly n xv yv i =
          let w = steps-off v x (other_end g e x) i refl xv in
          connected-transitive (ends_without p (v ∷ [])) x w.0 y w.5 (apart-end v x i w.0 y w.1 ly w.2 yv w.3 (λ q. n (sym q)))

  -- edges at a vertex are in the same block
  at-vertex : (v i j : ℕ) → i < edge_count p → j < edge_count p → is_end p v i ≡ true → is_end p v j ≡ true → SameBlock p i j
  at-vertex v i j li lj ei ej = elim (cases_eq i j) [
    | inl q ↦ inl q
    | inr n ↦ inr (at_vertex-cycle p okp v i j li lj ei ej n
        (stays v (other_end p i v) (other_end p j v) (subst (λ z. other_end p i v < z) same (other_end-in p i v okp li)) (subst (λ z. other_end p j v < z) same (other_end-in p j v okp lj))
        (other-differs p okp i v li ei) (other-differs p okp j v lj ej)))
  ]

  -- the vertices are one, or edges at them are in the same block
  abbrev Near : ℕ → ℕ → Type 0
  Near u w = (u ≡ w) ⊎ ((i : ℕ) × (j : ℕ) × (i < edge_count p) × (j < edge_count p) × (is_end p u i ≡ true) × (is_end p w j ≡ true) × SameBlock p i j)

  near : (u w : ℕ) → u < g.vertex_count → w < g.vertex_count → Near u w
  near u w lu lw = least-without p (g.vertex_count ∷ []) Near (λ u. inl refl) back onward (λ f l m n. inr (f, f, l, l, is_end-first p f, is_end-second p f, inl refl)) u w
      (stays g.vertex_count u w lu lw (λ q. omega (arith, q, lu)) (λ q. omega (arith, q, lw)))
    where
      back : (u w : ℕ) → Near u w → Near w u
      back u w (inl q) = inl (sym q)
      back u w (inr s) = inr (s.1, s.0, s.3, s.2, s.5, s.4, block-symmetric p s.0 s.1 s.6)

      onward : (u w z : ℕ) → Near u w → Near w z → Near u z
      onward u w z (inl q) t = subst (λ k. Near k z) (sym q) t
      onward u w z (inr s) (inl q) = subst (λ k. Near u k) q (inr s)
      onward u w z (inr s) (inr t) = inr (
        s.0,
        t.1,
        s.2,
        t.3,
        s.4,
        t.5,
        block-transitive p okp s.0 s.1 t.1 s.6 (block-transitive p okp s.1 t.0 t.1 (at-vertex w s.1 t.0 s.3 t.2 s.5 t.4) t.6),
      )

  pub one_less-block : IsOneBlock p
  one_less-block = record {
    has_edge = let f = other_edge-at g ok tri e (ends_of g e).0 (end-in g ok e (ends_of g e).0 le (is_end-first g e)) in omega (arith, h.edge_in f.0 f.1 (passes e f.0 f.2));
    at_edge = λ v l. let f = other_edge-at g ok tri e v (subst (λ z. v < z) same l) in (r f.0, h.edge_in f.0 f.1 (passes e f.0 f.2), same-end g p (λ f. not (f == e)) r h f.0 v f.1 (passes e f.0 f.2) ∙ f.3);
    same_block = λ i j li lj. shared i j li lj (near (ends_of p i).0 (ends_of p j).0 (inside i li) (inside j lj));
  }
    where
      inside : (i : ℕ) → i < edge_count p → (ends_of p i).0 < g.vertex_count
      inside i l = subst (λ z. (ends_of p i).0 < z) same (end-in p okp i (ends_of p i).0 l (is_end-first p i))

      shared : (i j : ℕ) → i < edge_count p → j < edge_count p → Near (ends_of p i).0 (ends_of p j).0 → SameBlock p i j
      shared i j li lj (inl q) = at-vertex (ends_of p i).0 i j li lj (is_end-first p i) (subst (λ z. is_end p z j ≡ true) (sym q) (is_end-first p j))
      shared i j li lj (inr s) = block-transitive p okp i s.0 j (at-vertex (ends_of p i).0 i s.0 li s.2 (is_end-first p i) s.4)
          (block-transitive p okp s.0 s.1 j s.6 (at-vertex (ends_of p j).0 s.1 j s.3 lj s.5 (is_end-first p j)))
