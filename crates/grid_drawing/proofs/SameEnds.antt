-- Edges with the same ends, found among the edges at one of them.
use Rattle.std.proofs.Common.{◌≡◌, ◌≢◌, ℕ, ◌+◌, ◌<◌, ◌≤◌, ◌⊎◌, inl, inr, true, false, ◌&&◌, ◌==◌, nat_lt, List, length, slice_index, sym, ap, ◌∙◌, subst, arith, below_more}
use Rattle.std.proofs.lemmas.Grind.{get_or_default_zero}
use Rattle.std.proofs.lemmas.Bool.{cases_order, eq-eqb, eqb-true, ltb-true, lt-ltb, or_cases, or_left, or_right, and_parts, and_from, both_ways, false_from_ne_true}
use Rattle.permutations.specs.Count.{least}
use Rattle.permutations.proofs.Search.{some-from, none-some, least-is}
use Rattle.multigraph.specs.Graph.{Multigraph, edge_count, ends_of, is_end, other_end, incident_edges, IsGraph}
use Rattle.multigraph.proofs.OtherEnd.{is_end-cases, is_end-first, is_end-second, other_end-of_first, other_end-of_second}
use Rattle.multigraph.proofs.Incident.{incident-has, incident_at-edge, incident_at-end, incident-rises}
use Rattle.graph_theory.specs.Triconnected.{AreParallel}
use Rattle.grid_drawing.specs.Parallel.{same_ends, is_later, has_later, has_parallel, first_parallel, second_parallel}

both : (p q x y : ℕ) → ((p == q) && (x == y)) ≡ true → (p ≡ q) × (x ≡ y)
both p q x y h = let w = and_parts (p == q) (x == y) h in (eqb-true p q w.0, eqb-true x y w.1)

pub same-cases : (g : Multigraph) (a b : ℕ) → same_ends g a b ≡ true → AreParallel g a b
same-cases g a b h = elim (or_cases (((ends_of g a).0 == (ends_of g b).0) && ((ends_of g a).1 == (ends_of g b).1)) (((ends_of g a).0 == (ends_of g b).1) && ((ends_of g a).1 == (ends_of g b).0)) h) [
  | inl s ↦ inl (both (ends_of g a).0 (ends_of g b).0 (ends_of g a).1 (ends_of g b).1 s)
  | inr s ↦ inr (both (ends_of g a).0 (ends_of g b).1 (ends_of g a).1 (ends_of g b).0 s)
]

pub same-from : (g : Multigraph) (a b : ℕ) → AreParallel g a b → same_ends g a b ≡ true
same-from g a b (inl s) = or_left (((ends_of g a).0 == (ends_of g b).0) && ((ends_of g a).1 == (ends_of g b).1)) (((ends_of g a).0 == (ends_of g b).1) && ((ends_of g a).1 == (ends_of g b).0))
    (and_from ((ends_of g a).0 == (ends_of g b).0) ((ends_of g a).1 == (ends_of g b).1) (eq-eqb (ends_of g a).0 (ends_of g b).0 s.0) (eq-eqb (ends_of g a).1 (ends_of g b).1 s.1))
same-from g a b (inr s) = or_right (((ends_of g a).0 == (ends_of g b).0) && ((ends_of g a).1 == (ends_of g b).1)) (((ends_of g a).0 == (ends_of g b).1) && ((ends_of g a).1 == (ends_of g b).0))
    (and_from ((ends_of g a).0 == (ends_of g b).1) ((ends_of g a).1 == (ends_of g b).0) (eq-eqb (ends_of g a).0 (ends_of g b).1 s.0) (eq-eqb (ends_of g a).1 (ends_of g b).0 s.1))

-- an edge with the same ends is at each of them
pub same-end : (g : Multigraph) (v a b : ℕ) → same_ends g a b ≡ true → is_end g v a ≡ true → is_end g v b ≡ true
same-end g v a b h k = go (same-cases g a b h) (is_end-cases g v a k)
  where
    go : AreParallel g a b → ((ends_of g a).0 ≡ v) ⊎ ((ends_of g a).1 ≡ v) → is_end g v b ≡ true
    go (inl s) (inl e) = subst (λ (w : ℕ). is_end g w b ≡ true) (sym s.0 ∙ e) (is_end-first g b)
    go (inl s) (inr e) = subst (λ (w : ℕ). is_end g w b ≡ true) (sym s.1 ∙ e) (is_end-second g b)
    go (inr s) (inl e) = subst (λ (w : ℕ). is_end g w b ≡ true) (sym s.0 ∙ e) (is_end-second g b)
    go (inr s) (inr e) = subst (λ (w : ℕ). is_end g w b ≡ true) (sym s.1 ∙ e) (is_end-first g b)

-- of the edges at v, the first i are not later ones with the ends of a
abbrev pub NoneAmong : Multigraph → ℕ → ℕ → ℕ → Type 0
NoneAmong g v a i = (k : ℕ) → k < i → is_later g a (slice_index (incident_edges g v) k) ≡ false

-- what is met at a vertex is an edge there
pub met-edge : (g : Multigraph) (v : ℕ) (edges : List ℕ) → edges ≡ incident_edges g v → (i : ℕ) → i < length edges → slice_index edges i < edge_count g
met-edge g v edges e i l = subst (λ (l : List ℕ). i < length l → slice_index l i < edge_count g) (sym e) (λ l. incident_at-edge g v i 0 l) l

pub met-end : (g : Multigraph) (v : ℕ) (edges : List ℕ) → edges ≡ incident_edges g v → (i : ℕ) → i < length edges → is_end g v (slice_index edges i) ≡ true
met-end g v edges e i l = subst (λ (l : List ℕ). i < length l → is_end g v (slice_index l i) ≡ true) (sym e) (λ l. incident_at-end g v i 0 l) l

module _ (g : Multigraph) (graph : IsGraph g) where
  -- an edge at a common end has the same ends where the other end is the same
  pub other-same : (v a b : ℕ) → a < edge_count g → b < edge_count g → is_end g v a ≡ true → is_end g v b ≡ true → other_end g b v ≡ other_end g a v → same_ends g a b ≡ true
  other-same v a b la lb ha hb e = same-from g a b (go (is_end-cases g v a ha) (is_end-cases g v b hb))
    where
      go : ((ends_of g a).0 ≡ v) ⊎ ((ends_of g a).1 ≡ v) → ((ends_of g b).0 ≡ v) ⊎ ((ends_of g b).1 ≡ v) → AreParallel g a b
      go (inl x) (inl y) = inl (x ∙ sym y, sym (other_end-of_first g a v x) ∙ (sym e ∙ other_end-of_first g b v y))
      go (inl x) (inr y) = inr (x ∙ sym y, sym (other_end-of_first g a v x) ∙ (sym e ∙ other_end-of_second g b v y (graph.no_loop b lb)))
      go (inr x) (inl y) = inr (sym (other_end-of_second g a v x (graph.no_loop a la)) ∙ (sym e ∙ other_end-of_first g b v y), x ∙ sym y)
      go (inr x) (inr y) = inl (sym (other_end-of_second g a v x (graph.no_loop a la)) ∙ (sym e ∙ other_end-of_second g b v y (graph.no_loop b lb)), x ∙ sym y)

  -- and where it has the same ends, the other end is the same
  pub same-other : (v a b : ℕ) → a < edge_count g → b < edge_count g → is_end g v a ≡ true → same_ends g a b ≡ true → other_end g b v ≡ other_end g a v
  same-other v a b la lb ha h = go (same-cases g a b h) (is_end-cases g v a ha)
    where
      go : AreParallel g a b → ((ends_of g a).0 ≡ v) ⊎ ((ends_of g a).1 ≡ v) → other_end g b v ≡ other_end g a v
      go (inl s) (inl x) = other_end-of_first g b v (sym s.0 ∙ x) ∙ (sym s.1 ∙ sym (other_end-of_first g a v x))
      go (inl s) (inr x) = other_end-of_second g b v (sym s.1 ∙ x) (graph.no_loop b lb) ∙ (sym s.0 ∙ sym (other_end-of_second g a v x (graph.no_loop a la)))
      go (inr s) (inl x) = other_end-of_second g b v (sym s.0 ∙ x) (graph.no_loop b lb) ∙ (sym s.1 ∙ sym (other_end-of_first g a v x))
      go (inr s) (inr x) = other_end-of_first g b v (sym s.1 ∙ x) ∙ (sym s.0 ∙ sym (other_end-of_second g a v x (graph.no_loop a la)))

  -- a later edge with the same ends
  pub later-from : (v a b : ℕ) → a < edge_count g → b < edge_count g → is_end g v a ≡ true → is_end g v b ≡ true → a < b → other_end g b v ≡ other_end g a v → is_later g a b ≡ true
  later-from v a b la lb ha hb l e = and_from (nat_lt a b) (same_ends g a b) (lt-ltb a b l) (other-same v a b la lb ha hb e)

  pub later-parts : (v a b : ℕ) → a < edge_count g → b < edge_count g → is_end g v a ≡ true → is_later g a b ≡ true → (a < b) × (other_end g b v ≡ other_end g a v)
  later-parts v a b la lb ha h = let w = and_parts (nat_lt a b) (same_ends g a b) h in (ltb-true a b w.0, same-other v a b la lb ha w.1)

  pub not-after : (v a b : ℕ) → a < edge_count g → b < edge_count g → is_end g v a ≡ true → b ≤ a → is_later g a b ≡ false
  not-after v a b la lb ha l = false_from_ne_true (is_later g a b) (λ h. omega (arith, (later-parts v a b la lb ha h).0))

  pub not-same : (v a b : ℕ) → a < edge_count g → b < edge_count g → is_end g v a ≡ true → other_end g b v ≢ other_end g a v → is_later g a b ≡ false
  not-same v a b la lb ha n = false_from_ne_true (is_later g a b) (λ h. n (later-parts v a b la lb ha h).1)

  -- an edge that is one is at v
  at-place : (v a b : ℕ) → b < edge_count g → is_end g v a ≡ true → is_later g a b ≡ true → (k : ℕ) × (k < length (incident_edges g v)) × (slice_index (incident_edges g v) k ≡ b)
  at-place v a b lb ha h =
      let w = incident-has g v b lb (same-end g v a b (and_parts (nat_lt a b) (same_ends g a b) h).1 ha) in
      (w.0, w.1, sym (get_or_default_zero (incident_edges g v) w.0 b w.1) ∙ w.2)

  pub none-later : (v a : ℕ) → is_end g v a ≡ true → NoneAmong g v a (length (incident_edges g v)) → has_later g a ≡ false
  none-later v a ha n = none-some (edge_count g) (is_later g a) (λ b lb. false_from_ne_true (is_later g a b) (λ h.
      let w = at-place v a b lb ha h in both_ways (is_later g a b) (subst (λ (x : ℕ). is_later g a x ≡ false) w.2 (n w.0 w.1)) h))

  pub one-later : (v a i : ℕ) → is_end g v a ≡ true → i < length (incident_edges g v) → NoneAmong g v a i → is_later g a (slice_index (incident_edges g v) i) ≡ true
      → (has_later g a ≡ true) × (slice_index (incident_edges g v) i ≡ least (edge_count g) (is_later g a))
  one-later v a i ha l n h = (
    some-from (edge_count g) (is_later g a) b within h,
    sym (least-is (edge_count g) (is_later g a) b within h (λ c k. false_from_ne_true (is_later g a c) (before c k))),
  )
    where
      b : ℕ
      b = slice_index (incident_edges g v) i

      within : b < edge_count g
      within = incident_at-edge g v i 0 l

      before : (c : ℕ) → c < b → is_later g a c ≡ true → ⊥
      before c k t = go (at-place v a c (omega (arith, k, within)) ha t)
        where
          go : (k : ℕ) × (k < length (incident_edges g v)) × (slice_index (incident_edges g v) k ≡ c) → ⊥
          go (j, s, e) = elim (cases_order j i) [
            | inl x ↦ omega (arith, k, e, ap (slice_index (incident_edges g v)) x)
            | inr (inl x) ↦ both_ways (is_later g a c) (subst (λ (z : ℕ). is_later g a z ≡ false) e (n j x)) t
            | inr (inr x) ↦ omega (arith, k, e, incident-rises g v i j 0 x s)
          ]

  -- the loop over the edges at v
  pub pass-not_after : (v a : ℕ) → a < edge_count g → is_end g v a ≡ true → (edges : List ℕ) → edges ≡ incident_edges g v → (i : ℕ) → i < length edges → NoneAmong g v a i → slice_index edges i ≤ a → NoneAmong g v a (i + 1)
  pass-not_after v a la ha edges e i l n k = below_more (λ (k : ℕ). is_later g a (slice_index (incident_edges g v) k) ≡ false) i n
      (subst (λ (l : List ℕ). is_later g a (slice_index l i) ≡ false) e (not-after v a (slice_index edges i) la (met-edge g v edges e i l) ha k))

  pub pass-not_same : (v a : ℕ) → a < edge_count g → is_end g v a ≡ true → (edges : List ℕ) → edges ≡ incident_edges g v → (i : ℕ) → i < length edges → NoneAmong g v a i
      → other_end g (slice_index edges i) v ≢ other_end g a v → NoneAmong g v a (i + 1)
  pass-not_same v a la ha edges e i l n k = below_more (λ (k : ℕ). is_later g a (slice_index (incident_edges g v) k) ≡ false) i n
      (subst (λ (l : List ℕ). is_later g a (slice_index l i) ≡ false) e (not-same v a (slice_index edges i) la (met-edge g v edges e i l) ha k))

  pub met-one : (v a : ℕ) → a < edge_count g → is_end g v a ≡ true → (edges : List ℕ) → edges ≡ incident_edges g v → (i : ℕ) → i < length edges → NoneAmong g v a i
      → a < slice_index edges i → other_end g (slice_index edges i) v ≡ other_end g a v → (has_later g a ≡ true) × (slice_index edges i ≡ least (edge_count g) (is_later g a))
  met-one v a la ha edges e i l n k o =
      let t = one-later v a i ha (subst (λ (l : List ℕ). i < length l) e l) n
      (subst (λ (l : List ℕ). is_later g a (slice_index l i) ≡ true) e (later-from v a (slice_index edges i) la (met-edge g v edges e i l) ha (met-end g v edges e i l) k o)) in
      (t.0, ap (λ (l : List ℕ). slice_index l i) e ∙ t.1)

  pub met-none : (v a : ℕ) → is_end g v a ≡ true → (edges : List ℕ) → edges ≡ incident_edges g v → (i : ℕ) → length edges ≤ i → NoneAmong g v a i → has_later g a ≡ false
  met-none v a ha edges e i l n = none-later v a ha (λ k h. n k (omega (arith, h, l, ap length e)))

-- the least pair: none of the edges before a has a later one
pub pair-first : (g : Multigraph) (a b : ℕ) → a < edge_count g → ((x : ℕ) → x < a → has_later g x ≡ false) → has_later g a ≡ true → b ≡ least (edge_count g) (is_later g a)
    → (has_parallel g ≡ true) × (a ≡ first_parallel g) × (b ≡ second_parallel g)
pair-first g a b l n h e = (some-from (edge_count g) (has_later g) a l h, sym first, e ∙ ap (λ (x : ℕ). least (edge_count g) (is_later g x)) (sym first))
  where
    first : first_parallel g ≡ a
    first = least-is (edge_count g) (has_later g) a l h n
