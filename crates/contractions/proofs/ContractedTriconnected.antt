-- What is connected stays so when an edge is contracted, and a contraction of a triconnected graph is triconnected.
use Rattle.std.proofs.Common.{◌≡◌, ◌≢◌, ℕ, ◌<◌, ◌≤◌, ◌⊎◌, inl, inr, Bool, true, false, List, [], ◌∷◌, refl, sym, ap, ◌∙◌, subst, arith}
use Rattle.std.proofs.lemmas.Bool.{cases_Bool, cases_eq, cases_lt}
use Rattle.permutations.specs.Members.{is_member}
use Rattle.permutations.specs.Relation.{connected}
use Rattle.permutations.proofs.Relation.{connected-reflexive, connected-symmetric, connected-transitive}
use Rattle.multigraph.specs.Graph.{Multigraph, edge_count, ends_of, is_end, other_end, IsGraph}
use Rattle.multigraph.proofs.OtherEnd.{is_end-first, other_end-of_first, other_end-is_end, other_end-differs, other_end-twice, other_end-in, end-in}
use Rattle.graph_theory.specs.Triconnected.{ends_without, IsConnectedWithout, IsTriconnected}
use Rattle.graph_theory.proofs.Triconnected.{first-four}
use Rattle.graph_theory.proofs.Ends.{end-cases}
use Rattle.contractions.specs.Contraction.{are_adjacent, is_kept, IsContractible, IsContraction}
use Rattle.graph_theory.proofs.Removed.{step-without, least-without}
use Rattle.contractions.proofs.Outside.{out-two, out-three, two-out, three-out}
use Rattle.contractions.proofs.Joined.{joined-edge, kept-from, dropped-joined}
use Rattle.contractions.proofs.Contracted.{first-in, second-in, ends-apart, end-forth, other-forth, simple-contracted}

module _ (g h : Multigraph) (i : IsGraph g) (t : IsTriconnected g) (e x y : ℕ) (edge vertex : ℕ → ℕ) (c : IsContraction g h e x y edge vertex) where
  -- each end of the contracted edge becomes the one vertex
  ends-merged : (p : ℕ) → is_end g p e ≡ true → vertex p ≡ vertex x
  ends-merged p a = elim (end-cases g e x p c.first_end a) [ inl d ↦ ap vertex d | inr d ↦ ap vertex (d ∙ c.second_end) ∙ sym c.merged ]

  module _ (removed others : List ℕ) (left : (v : ℕ) → v < g.vertex_count → is_member v removed ≡ false → is_member (vertex v) others ≡ false) where
    abbrev linked : ℕ → ℕ → Bool
    linked p q = connected (ends_without h others) (vertex p) (vertex q)

    -- an edge that stays connects, where its new ends are not removed
    kept-linked : (f p : ℕ) → f < edge_count g → is_kept g e x y f ≡ true → is_end g p f ≡ true
        → is_member (vertex p) others ≡ false → is_member (vertex (other_end g f p)) others ≡ false → linked p (other_end g f p) ≡ true
    kept-linked f p l k a m n =
        let j = c.edges_met f l k in
        let b : is_end g p (edge j.0) ≡ true = subst (λ (r : ℕ). is_end g p r ≡ true) (sym j.2) a in
        let d : other_end h j.0 (vertex p) ≡ vertex (other_end g f p) = other-forth g h i t.simple e x y edge vertex c j.0 p j.1 b ∙ ap (λ (r : ℕ). vertex (other_end g r p)) j.2 in
        subst (λ (r : ℕ). connected (ends_without h others) (vertex p) r ≡ true) d
        (step-without h others j.0 (vertex p) j.1 (end-forth g h i t.simple e x y edge vertex c j.0 p j.1 b) m (subst (λ (r : ℕ). is_member r others ≡ false) (sym d) n))

    -- in place of an edge from y that does not stay there is one from x
    dropped-linked : (b : ℕ) → y ≢ b → are_adjacent g x b ≡ true → is_member (vertex y) others ≡ false → is_member (vertex b) others ≡ false → linked y b ≡ true
    dropped-linked b yb j m n =
        let f = joined-edge g x b j in
        let k : is_kept g e x y f.0 ≡ true = kept-from g e x y f.0
        (λ d. yb (sym c.second_end ∙ (ap (λ (r : ℕ). other_end g r x) (sym d) ∙ f.3)))
        (λ a w. elim (end-cases g f.0 x y f.2 a) [ inl d ↦ ends-apart g h i t.simple e x y edge vertex c (sym d) | inr d ↦ yb (d ∙ f.3) ]) in
        subst (λ (r : ℕ). connected (ends_without h others) r (vertex b) ≡ true) c.merged
        (subst (λ (r : ℕ). connected (ends_without h others) (vertex x) (vertex r) ≡ true) f.3
        (kept-linked f.0 x f.1 k f.2 (subst (λ (r : ℕ). is_member r others ≡ false) (sym c.merged) m) (subst (λ (r : ℕ). is_member (vertex r) others ≡ false) (sym f.3) n)))

    -- each edge that is left connects
    edge-linked : (f p : ℕ) → f < edge_count g → is_end g p f ≡ true → is_member p removed ≡ false → is_member (other_end g f p) removed ≡ false → linked p (other_end g f p) ≡ true
    edge-linked f p l a m n =
        let m' : is_member (vertex p) others ≡ false = left p (end-in g p f i l a) m in
        let n' : is_member (vertex (other_end g f p)) others ≡ false = left (other_end g f p) (other_end-in g f p i l) n in
        elim (cases_eq f e) [
          | inl d ↦ subst (λ (r : ℕ). connected (ends_without h others) (vertex p) r ≡ true)
              (ends-merged p (subst (λ (r : ℕ). is_end g p r ≡ true) d a) ∙ sym (ends-merged (other_end g f p) (subst (λ (r : ℕ). is_end g (other_end g f p) r ≡ true) d (other_end-is_end g f p))))
              (connected-reflexive (ends_without h others) (vertex p))
          | inr d ↦ elim (cases_Bool (is_kept g e x y f)) [
            | inl k ↦ kept-linked f p l k a m' n'
            | inr k ↦ dropped f p l a m' n' (dropped-joined g e x y f k d)
          ]
        ]
      where
        dropped : (f p : ℕ) → f < edge_count g → is_end g p f ≡ true → is_member (vertex p) others ≡ false → is_member (vertex (other_end g f p)) others ≡ false
            → (is_end g y f ≡ true) × (are_adjacent g x (other_end g f y) ≡ true) → linked p (other_end g f p) ≡ true
        dropped f p l a m n w = elim (end-cases g f p y a w.0) [
          | inl d ↦ subst (λ (r : ℕ). linked r (other_end g f r) ≡ true) d (dropped-linked (other_end g f y) (λ r. other_end-differs g f y i l w.0 (sym r)) w.1
              (subst (λ (r : ℕ). is_member (vertex r) others ≡ false) (sym d) m) (subst (λ (r : ℕ). is_member (vertex (other_end g f r)) others ≡ false) (sym d) n))
          | inr d ↦
              let back : other_end g f y ≡ p = ap (other_end g f) d ∙ other_end-twice g f p i l a in
              subst (λ (r : ℕ). linked p r ≡ true) d (connected-symmetric (ends_without h others) (vertex y) (vertex p)
              (dropped-linked p (λ r. other_end-differs g f p i l a (sym d ∙ r)) (subst (λ (r : ℕ). are_adjacent g x r ≡ true) back w.1) (subst (λ (r : ℕ). is_member (vertex r) others ≡ false) (sym d) n) m))
        ]

    -- so what is connected stays connected
    pub connected-contracted : (u v : ℕ) → connected (ends_without g removed) u v ≡ true → linked u v ≡ true
    connected-contracted u v w = least-without g removed (λ p q. linked p q ≡ true)
        (λ p. connected-reflexive (ends_without h others) (vertex p))
        (λ p q. connected-symmetric (ends_without h others) (vertex p) (vertex q))
        (λ p q r. connected-transitive (ends_without h others) (vertex p) (vertex q) (vertex r))
        (λ f l m n.
        let d : other_end g f (ends_of g f).0 ≡ (ends_of g f).1 = other_end-of_first g f (ends_of g f).0 refl in
        subst (λ (r : ℕ). linked (ends_of g f).0 r ≡ true) d
        (edge-linked f (ends_of g f).0 l (is_end-first g f) m (subst (λ (r : ℕ). is_member r removed ≡ false) (sym d) n)))
        u v w

  -- a vertex of the contraction other than the merged one, or no vertex, comes from one number
  over : (a : ℕ) → a ≢ vertex x → (b : ℕ) × ((v : ℕ) → v < g.vertex_count → vertex v ≡ a → v ≡ b) × ((v : ℕ) → v < g.vertex_count → v ≡ b → vertex v ≡ a)
  over a n = elim (cases_lt a h.vertex_count) [
    | inl l ↦
        let w = c.vertices_met a l in (
          w.0,
          λ v m d. elim (c.vertices_once v w.0 m w.1 (d ∙ sym w.3)) [
            | inl r ↦ r
            | inr r ↦ elim r [ inl o ↦ absurd (w.2 o.1) | inr o ↦ absurd (n (sym w.3 ∙ ap vertex o.1)) ]
          ],
          λ v m d. ap vertex d ∙ w.3,
        )
    | inr ge ↦ (g.vertex_count, λ v m d. absurd (omega (arith, c.vertices v m)), λ v m d. absurd (omega arith))
  ]

  -- where the others stay connected without some vertices, they do in the contraction without those that these become
  lifted : (removed others : List ℕ) → ((v : ℕ) → v < g.vertex_count → is_member v removed ≡ false → is_member (vertex v) others ≡ false)
      → ((v : ℕ) → v < g.vertex_count → is_member (vertex v) others ≡ false → is_member v removed ≡ false) → IsConnectedWithout g removed → IsConnectedWithout h others
  lifted removed others forth back w p q l m a b =
      let u = c.vertices_met p l in
      let v = c.vertices_met q m in
      subst (λ (r : ℕ). connected (ends_without h others) r q ≡ true) u.3
      (subst (λ (r : ℕ). connected (ends_without h others) (vertex u.0) r ≡ true) v.3
      (connected-contracted removed others forth u.0 v.0 (w u.0 v.0 u.1 v.1
      (back u.0 u.1 (subst (λ (r : ℕ). is_member r others ≡ false) (sym u.3) a)) (back v.0 v.1 (subst (λ (r : ℕ). is_member r others ≡ false) (sym v.3) b)))))

  -- neither of the two numbers is the merged vertex
  both-other : (a b : ℕ) → a ≢ vertex x → b ≢ vertex x → IsConnectedWithout h (a ∷ b ∷ [])
  both-other a b m n =
      let p = over a m in
      let q = over b n in
      lifted (p.0 ∷ q.0 ∷ []) (a ∷ b ∷ [])
      (λ v l o. let r = two-out p.0 q.0 v o in out-two a b (vertex v) (λ d. r.0 (sym (p.1 v l (sym d)))) (λ d. r.1 (sym (q.1 v l (sym d)))))
      (λ v l o. let r = two-out a b (vertex v) o in out-two p.0 q.0 v (λ d. r.0 (sym (p.2 v l (sym d)))) (λ d. r.1 (sym (q.2 v l (sym d)))))
      (t.stays_connected p.0 q.0)

  -- who becomes the merged vertex is an end of the contracted edge
  under : (v : ℕ) → v < g.vertex_count → vertex x ≡ vertex v → (x ≡ v) ⊎ (y ≡ v)
  under v l d = elim (c.vertices_once v x l (first-in g h i t.simple e x y edge vertex c) (sym d)) [
    | inl r ↦ inl (sym r)
    | inr r ↦ elim r [ inl o ↦ inl (sym o.0) | inr o ↦ inr (sym o.0) ]
  ]

  -- both are
  both-merged : IsConnectedWithout h (vertex x ∷ vertex x ∷ [])
  both-merged = lifted (x ∷ y ∷ []) (vertex x ∷ vertex x ∷ [])
      (λ v l o. let r = two-out x y v o in
      let n : vertex x ≢ vertex v = λ d. elim (under v l d) [ inl q ↦ r.0 q | inr q ↦ r.1 q ] in
      out-two (vertex x) (vertex x) (vertex v) n n)
      (λ v l o. let r = two-out (vertex x) (vertex x) (vertex v) o in out-two x y v (λ d. r.0 (ap vertex d)) (λ d. r.0 (c.merged ∙ ap vertex d)))
      (t.stays_connected x y)

  -- one is
  one-merged : IsContractible g x y → (b : ℕ) → b ≢ vertex x → (others : List ℕ)
      → ((w : ℕ) → is_member w others ≡ false → (vertex x ≢ w) × (b ≢ w)) → ((w : ℕ) → vertex x ≢ w → b ≢ w → is_member w others ≡ false) → IsConnectedWithout h others
  one-merged k b n others apart from =
      let q = over b n in
      let x_in : x < g.vertex_count = first-in g h i t.simple e x y edge vertex c in
      let y_in : y < g.vertex_count = second-in g h i t.simple e x y edge vertex c in
      lifted (x ∷ y ∷ q.0 ∷ []) others
      (λ v l o. let r = three-out x y q.0 v o in from (vertex v) (λ d. elim (under v l d) [ inl s ↦ r.0 s | inr s ↦ r.1 s ]) (λ d. r.2 (sym (q.1 v l (sym d)))))
      (λ v l o. let r = apart (vertex v) o in out-three x y q.0 v (λ d. r.0 (ap vertex d)) (λ d. r.0 (c.merged ∙ ap vertex d)) (λ d. r.1 (sym (q.2 v l (sym d)))))
      (k q.0 (λ d. n (sym (q.2 x x_in (sym d)))) (λ d. n (sym (q.2 y y_in (sym d)) ∙ sym c.merged)))

  -- a contraction along an edge that may be contracted, of a graph of at least five vertices, is triconnected
  pub triconnected-contracted : 5 ≤ g.vertex_count → IsContractible g x y → IsTriconnected h
  triconnected-contracted five k = record {
    simple = simple-contracted g h i t.simple e x y edge vertex c;
    four = first-four h (omega (arith, five, c.fewer));
    stays_connected = λ a b. elim (cases_eq a (vertex x)) [
      | inl d ↦ elim (cases_eq b (vertex x)) [
        | inl r ↦ subst (λ (p : ℕ). IsConnectedWithout h (p ∷ b ∷ [])) (sym d) (subst (λ (q : ℕ). IsConnectedWithout h (vertex x ∷ q ∷ [])) (sym r) both-merged)
        | inr n ↦ subst (λ (p : ℕ). IsConnectedWithout h (p ∷ b ∷ [])) (sym d) (one-merged k b n (vertex x ∷ b ∷ []) (two-out (vertex x) b) (out-two (vertex x) b))
      ]
      | inr m ↦ elim (cases_eq b (vertex x)) [
        | inl r ↦ subst (λ (q : ℕ). IsConnectedWithout h (a ∷ q ∷ [])) (sym r)
            (one-merged k a m (a ∷ vertex x ∷ []) (λ w o. let p = two-out a (vertex x) w o in (p.1, p.0)) (λ w p q. out-two a (vertex x) w q p))
        | inr n ↦ both-other a b m n
      ]
    ];
  }
