-- The search from a node through the links: what it has noted, and that it reaches each node.
use Rattle.std.proofs.Common.{◌≡◌, ◌≢◌, ℕ, ◌+◌, ◌<◌, ◌≤◌, ◌||◌, ◌==◌, inl, inr, Bool, true, List, [], length, slice_index_or, refl, sym, ap, ◌∙◌, subst, arith, Contains}
use Rattle.std.proofs.lemmas.Bool.{cases_Bool, cases_eq, both_ways, or_cases, or_left, or_right, eq-eqb, eqb-true}
use Rattle.permutations.specs.Members.{is_member}
use Rattle.permutations.proofs.Arrangements.{member-at}
use Rattle.permutations.proofs.Relation.{same-tests, connected-closed}
use Rattle.permutations.proofs.Places.{place-of}
use Rattle.multigraph.specs.Graph.{Multigraph}
use Rattle.pair_split.specs.Split.{all_links, is_beyond, LinksTo}
use Rattle.pair_split.specs.Tutte.{Node, components, node_at, IsTutte}
use Rattle.pair_split.specs.declared.components.Comp.{Comp}
use Rattle.pair_split.specs.declared.components.What.TheVariants.{Link}
use Rattle.pair_split.proofs.GraphFamily.{all-from_contained}
use Rattle.pair_split.proofs.Links.{contained-link}
use Rattle.pair_split.proofs.TreeSides.{all-linked, beyond-far, beyond-near, beyond-along, link-back}
use Rattle.pair_split.proofs.Subtrees.{link-in}
use Rattle.skeletons.proofs.NodeItems.{comp-in, node-in, stands-of, item-of}
use Rattle.graph_paths.specs.Listing.{note_of, Grows}
use Rattle.block_obstruct.specs.Towards.{HaveItem, IsItem, IsTowards, AreReached}
use Rattle.graph_paths.proofs.Listed.{grows-member, stays}

module _ (g : Multigraph) (nodes : List Node) (t : IsTutte g nodes) (k : ℕ) where
  abbrev comps : List Comp
  comps = components nodes

  -- a link of a node is one of its component
  links : (x y : ℕ) → HaveItem (node_at nodes x).items (Link y) → LinksTo comps x y
  links x y h = (h.0, stands-of g nodes t x h.0 (Link y) h.1 h.2)

  links-back : (x y : ℕ) → LinksTo comps x y → HaveItem (node_at nodes x).items (Link y)
  links-back x y l = let w = item-of g nodes t x l.0 (Link y) l.1 in (l.0, w.0, w.1)

  -- the links lead to nodes
  pub links-below : (x n : ℕ) → n ≡ length nodes → (h : ℕ) → HaveItem (node_at nodes x).items (Link h) → h < n
  links-below x n q h i = subst (λ z. h < z) (sym q) (node-in g nodes t h (link-in comps t.split.linked x h (links x h i)))

  -- seen from k, nothing leads towards k itself
  pub towards-differs : (i x : ℕ) → IsTowards nodes k i x → x ≢ k
  towards-differs i x w q = both_ways (is_beyond comps k w.0 k) (beyond-near comps t.split.linked k w.0 (links k w.0 (i, w.1.0, w.1.1))) (subst (λ z. is_beyond comps k w.0 z ≡ true) q w.2)

  -- the nodes next to k
  pub reached-begin : (notes list : List ℕ) (start : List ℕ) → Grows (λ y m. IsItem (node_at nodes k).items m (Link y)) [] start list notes → ((h : ℕ) → HaveItem (node_at nodes k).items (Link h) → is_member h list ≡ true) → AreReached nodes k notes list 0
  reached-begin notes list start a met = record {
    towards = λ x m. let w = a.noted x m refl in (x, (w.0, w.1), beyond-far comps t.split.linked k x);
    near = met;
    closed = λ p h b. absurd (omega (arith, b));
  }

  -- the nodes next to the one at place q
  pub reached-next : (notes list next_notes next_list : List ℕ) (q x note : ℕ) → q < length list → slice_index_or list q 0 ≡ x → note_of notes x ≡ note → AreReached nodes k notes list q
      → Grows (λ y m. (m ≡ note) × (y ≢ k) × HaveItem (node_at nodes x).items (Link y)) list notes next_list next_notes
      → ((h : ℕ) → HaveItem (node_at nodes x).items (Link h) → h ≢ k → is_member h next_list ≡ true) → AreReached nodes k next_notes next_list (q + 1)
  reached-next notes list next_notes next_list q x note b at is r a met = record {
    towards = λ y m. elim (cases_Bool (is_member y list)) [
      | inl old ↦ subst (λ z. IsTowards nodes k z y) (sym (a.kept y old)) (r.towards y old)
      | inr new ↦
          let w = a.noted y m new in
          let on : is_member x list ≡ true = subst (λ z. is_member z list ≡ true) at (member-at list q 0 b) in
          let v : IsTowards nodes k note x = subst (λ z. IsTowards nodes k z x) is (r.towards x on) in
          subst (λ z. IsTowards nodes k z y) (sym w.0)
          (v.0, v.1, sym (beyond-along comps t.split.linked k v.0 x y (links x y w.2) (towards-differs note x v) w.1) ∙ v.2)
    ];
    near = λ h i. grows-member fits list notes next_list next_notes a h (r.near h i);
    closed = λ p h c d i n. elim (cases_eq p q) [
      | inl e ↦
          let here : slice_index_or next_list p 0 ≡ x = stays fits list notes next_list next_notes a p (omega (arith, e, b)) ∙ (ap (λ z. slice_index_or list z 0) e ∙ at) in
          met h (subst (λ z. HaveItem (node_at nodes z).items (Link h)) here i) n
      | inr e ↦
          let less : p < q = omega (arith, c, e) in
          let long : p < length list = omega (arith, less, b) in
          grows-member fits list notes next_list next_notes a h
          (r.closed p h less long (subst (λ z. HaveItem (node_at nodes z).items (Link h)) (stays fits list notes next_list next_notes a p long) i) n)
    ];
  }
    where
      fits : ℕ → ℕ → Type 0
      fits y m = (m ≡ note) × (y ≢ k) × HaveItem (node_at nodes x).items (Link y)

  -- no node stands at place q
  pub reached-past : (notes list : List ℕ) (q : ℕ) → length list ≤ q → AreReached nodes k notes list q → AreReached nodes k notes list (q + 1)
  reached-past notes list q b r = record { towards = r.towards; near = r.near; closed = λ p h c d i n. r.closed p h (omega (arith, b, d)) d i n }

  -- in the end each node but k is reached
  pub reached-all : (notes list : List ℕ) (q : ℕ) → k < length nodes → length list ≤ q → AreReached nodes k notes list q → (x : ℕ) → x < length nodes → x ≢ k → IsTowards nodes k (note_of notes x) x
  reached-all notes list q kl b r x xl n = r.towards x on
    where
      test : ℕ → Bool
      test y = is_member y list || (y == k)

      forth : (u v : ℕ) → LinksTo comps u v → test u ≡ true → test v ≡ true
      forth u v l h = elim (or_cases (is_member u list) (u == k) h) [
        | inl m ↦ elim (cases_eq v k) [
          | inl e ↦ or_right (is_member v list) (v == k) (eq-eqb v k e)
          | inr d ↦
              let w = place-of list u m in
              or_left (is_member v list) (v == k) (r.closed w.0 v (omega (arith, w.1, b)) w.1 (subst (λ z. HaveItem (node_at nodes z).items (Link v)) (sym w.2) (links-back u v l)) d)
        ]
        | inr e ↦ or_left (is_member v list) (v == k) (r.near v (links-back k v (subst (λ z. LinksTo comps z v) (eqb-true u k e) l)))
      ]

      each : (link : ℕ × ℕ) → Contains (all_links 0 comps) link → test link.0 ≡ test link.1
      each link c =
          let l : LinksTo comps link.0 link.1 = contained-link comps link c in
          same-tests (test link.0) (test link.1) (forth link.0 link.1 l) (forth link.1 link.0 (link-back comps t.split.linked link.0 link.1 l))

      reached : test k ≡ test x
      reached = connected-closed (all_links 0 comps) test (all-from_contained (λ (link : ℕ × ℕ). test link.0 ≡ test link.1) (all_links 0 comps) each) k x
          (all-linked comps t.split.linked k x (comp-in g nodes t k kl) (comp-in g nodes t x xl))

      on : is_member x list ≡ true
      on = elim (or_cases (is_member x list) (x == k) (sym reached ∙ or_right (is_member k list) (k == k) (eq-eqb k k refl))) [ inl m ↦ m | inr e ↦ absurd (n (eqb-true x k e)) ]
