-- The rings of the first vertices are built, and at the end they keep the rotation system that was given.
use Rattle.std.proofs.Common.{◌≡◌, ◌≢◌, ℕ, ◌+◌, ◌<◌, ◌≤◌, true, List, [], ◌∷◌, ◌++◌, length, get_or, ◌*◌, ◌/◌, sym, ap, ◌∙◌, subst, inl, inr, arith}
use Rattle.std.proofs.lemmas.List.{length_push, get_or_push, get_or_append_left, get_or-map, length-map, nil_from_length}
use Rattle.std.proofs.lemmas.List.Sorted.{length_permutation, IsPermutation-trans}
use Rattle.std.proofs.lemmas.Bool.{cases_eq, true≢false}
use Rattle.permutations.specs.Members.{is_member}
use Rattle.permutations.specs.Cyclic.{first_or, turned}
use Rattle.permutations.proofs.Successor.{first_or-member}
use Rattle.permutations.proofs.Turned.{turned-member, turned-distinct, turned-length, turned-permutation, turned-successor, turned-first_or}
use Rattle.multigraph.specs.Graph.{Multigraph, edge_count, ends_of, is_end, incident_edges, IsGraph, IsWithinLimits}
use Rattle.multigraph.proofs.OtherEnd.{is_end-first, is_end-second}
use Rattle.ring_arena.specs.Links.{Links, AreInverse}
use Rattle.rotations.specs.Entries.{list_at}
use Rattle.rotations.specs.Given.{AreArranged, given_order}
use Rattle.rotations.specs.Rotation.{order_at, IsRotationSystem, IsCyclicOrder}
use Rattle.rotations.specs.Rings.{dart_at, orders, StandRound, AreLinked, AreRings, AreTails, IsRingOf}
use Rattle.permutations.specs.Ring.{turns}
use Rattle.rotations.specs.declared.rings.Ring.{Ring}
use Rattle.rotations.proofs.Membership.{incident-distinct, incident-member, incident-least}
use Rattle.rotations.proofs.Arrangements.{permutation-member, permutation-member_back, permutation-distinct}
use Rattle.rotations.proofs.Darts.{dart-in, stand_round}
use Rattle.rotations.proofs.Links.{linked-back}
use Rattle.rotations.proofs.Turns.{turns-order}

-- the edges that are given for a vertex stand round it
pub given-round : (g : Multigraph) (entries : List (ℕ × List ℕ)) (tails : List ℕ) (v : ℕ) → AreArranged g entries → AreTails g tails → v < g.vertex_count → StandRound tails v (list_at entries v)
given-round g entries tails v a t l =
    stand_round g tails v (list_at entries v) t
    (permutation-distinct (incident_edges g v) (list_at entries v) (a.arranged v l) (incident-distinct g v))
    (λ e m. permutation-member_back (incident_edges g v) (list_at entries v) e (a.arranged v l) m)

-- the rings of the vertices below v are built, and the darts that leave others are alone
pub record AreBuilt (g : Multigraph) (entries : List (ℕ × List ℕ)) (tails : List ℕ) (links : Links) (rings : List Ring) (v : ℕ) : Type 0 where
  pub rings_long : length rings ≡ v
  pub long : length links.next ≡ length tails
  pub inverse : AreInverse links
  pub ring : (w : ℕ) (other : Ring) → w < v → IsRingOf g tails w (get_or rings w other)
  pub linked : (w : ℕ) → w < v → AreLinked tails links.next links.prev w (list_at entries w) (list_at entries w)
  pub alone : (d : ℕ) → d < length links.next → v ≤ get_or tails d 0 → get_or links.next d 0 ≡ d

-- the darts of a list of the next vertex are alone
pub built-alone : (g : Multigraph) (entries : List (ℕ × List ℕ)) (tails : List ℕ) (links : Links) (rings : List Ring) (v : ℕ) (list : List ℕ) → AreBuilt g entries tails links rings v → StandRound tails v list
    → (e : ℕ) → is_member e list ≡ true → get_or links.next (dart_at tails v e) 0 ≡ dart_at tails v e
built-alone g entries tails links rings v list r round e m =
    r.alone (dart_at tails v e) (dart-in tails v e (length links.next) (omega (arith, round.darts e m, r.long))) (omega (arith, round.tail e m))

-- links of another vertex stay
linked-kept : (tails : List ℕ) (links new : Links) (v w : ℕ) (list : List ℕ) → w ≢ v → AreInverse new → length new.next ≡ length tails → StandRound tails w list → AreLinked tails links.next links.prev w list list
    → ((d : ℕ) → get_or tails d 0 ≢ v → get_or new.next d 0 ≡ get_or links.next d 0) → AreLinked tails new.next new.prev w list list
linked-kept tails links new v w list apart inv long round r nk =
    linked-back tails new w list inv long round (λ e m. nk (dart_at tails w e) (λ same. apart (sym (round.tail e m) ∙ same)) ∙ r.forth e m)

-- one ring more
pub built-more : (g : Multigraph) (entries : List (ℕ × List ℕ)) (tails : List ℕ) (links new : Links) (rings rings_new : List Ring) (v : ℕ) (ring : Ring) → AreArranged g entries → AreTails g tails → v < g.vertex_count → AreBuilt g entries tails links rings v
    → AreLinked tails new.next new.prev v (list_at entries v) (list_at entries v) → ((d : ℕ) → get_or tails d 0 ≢ v → get_or new.next d 0 ≡ get_or links.next d 0)
    → AreInverse new → length new.next ≡ length links.next → IsRingOf g tails v ring → rings_new ≡ rings ++ ring ∷ [] → AreBuilt g entries tails new rings_new (v + 1)
built-more g entries tails links new rings rings_new v ring a t l r linked nk inv count is_ring er =
    subst (λ (rs : List Ring). AreBuilt g entries tails new rs (v + 1)) (sym er) (record {
      rings_long = omega (arith, length_push rings ring, r.rings_long);
      long = count ∙ r.long;
      inverse = inv;
      ring = λ w other m. elim (cases_eq w v) [
        | inl same ↦ subst (λ (u : ℕ). IsRingOf g tails u (get_or (rings ++ ring ∷ []) u other)) (sym same)
            (subst (λ (x : Ring). IsRingOf g tails v x) (sym (get_or_push rings ring other v r.rings_long)) is_ring)
        | inr n ↦ subst (λ (x : Ring). IsRingOf g tails w x) (sym (get_or_append_left rings (ring ∷ []) other w (omega (arith, r.rings_long)))) (r.ring w other (omega arith))
      ];
      linked = λ w m. elim (cases_eq w v) [
        | inl same ↦ subst (λ (u : ℕ). AreLinked tails new.next new.prev u (list_at entries u) (list_at entries u)) (sym same) linked
        | inr n ↦ linked-kept tails links new v w (list_at entries w) n inv (count ∙ r.long) (given-round g entries tails w a t (omega arith)) (r.linked w (omega arith)) nk
      ];
      alone = λ d m w. nk d (λ same. absurd (omega arith)) ∙ r.alone d (omega arith) (omega arith);
    })

-- one ring more, by what the calls of a turn say of the lists that they were given
pub built-step : (g : Multigraph) (entries : List (ℕ × List ℕ)) (tails : List ℕ) (links : Links) (rings : List Ring) (v : ℕ) (tails₁ tails₂ list : List ℕ) (new : Links) (rings₂ : List Ring) (ring : Ring) → AreArranged g entries → AreTails g tails → v < g.vertex_count → AreBuilt g entries tails links rings v
    → tails₁ ≡ tails → tails₂ ≡ tails → list ≡ list_at entries v
    → AreLinked tails₁ new.next new.prev v list list → ((d : ℕ) → get_or tails₁ d 0 ≢ v → get_or new.next d 0 ≡ get_or links.next d 0)
    → AreInverse new → length new.next ≡ length links.next → IsRingOf g tails₂ v ring
    → rings₂ ≡ rings ++ ring ∷ [] → AreBuilt g entries tails new rings₂ (v + 1)
built-step g entries tails links rings v tails₁ tails₂ list new rings₂ ring a t l r et et' el linked nk inv count is_ring er =
    built-more g entries tails links new rings rings₂ v ring a t l r
    (subst (λ (ts : List ℕ). AreLinked ts new.next new.prev v (list_at entries v) (list_at entries v)) et (subst (λ (xs : List ℕ). AreLinked tails₁ new.next new.prev v xs xs) el linked))
    (λ d n. nk d (λ same. n (ap (λ (ts : List ℕ). get_or ts d 0) (sym et) ∙ same)))
    inv count (subst (λ (ts : List ℕ). IsRingOf g ts v ring) et' is_ring) er

-- the least edge at a vertex with edges stands in the list given for it
least-given : (g : Multigraph) (entries : List (ℕ × List ℕ)) (v : ℕ) → AreArranged g entries → v < g.vertex_count → 0 < length (incident_edges g v) → is_member (first_or 0 (incident_edges g v)) (list_at entries v) ≡ true
least-given g entries v a l some = permutation-member (incident_edges g v) (list_at entries v) (first_or 0 (incident_edges g v)) (a.arranged v l) (first-in (incident_edges g v) some)
  where
    first-in : (xs : List ℕ) → 0 < length xs → is_member (first_or 0 xs) xs ≡ true
    first-in [] m = absurd (omega arith)
    first-in (x ∷ xs) m = first_or-member 0 x xs

-- the given order stands round its vertex
order-round : (g : Multigraph) (entries : List (ℕ × List ℕ)) (tails : List ℕ) (v : ℕ) → AreArranged g entries → AreTails g tails → v < g.vertex_count → StandRound tails v (given_order g entries v)
order-round g entries tails v a t l =
    let listed = given-round g entries tails v a t l in
    record {
      distinct = turned-distinct (list_at entries v) (first_or 0 (incident_edges g v)) listed.distinct;
      darts = λ e m. listed.darts e (sym (turned-member (list_at entries v) (first_or 0 (incident_edges g v)) e) ∙ m);
      tail = λ e m. listed.tail e (sym (turned-member (list_at entries v) (first_or 0 (incident_edges g v)) e) ∙ m);
    }

-- and is linked
order-linked : (g : Multigraph) (entries : List (ℕ × List ℕ)) (tails next prev : List ℕ) (v : ℕ) → AreArranged g entries → AreTails g tails → v < g.vertex_count → AreLinked tails next prev v (list_at entries v) (list_at entries v) → AreLinked tails next prev v (given_order g entries v) (given_order g entries v)
order-linked g entries tails next prev v a t l r =
    let listed = given-round g entries tails v a t l in
    let least : ℕ = first_or 0 (incident_edges g v) in
    record {
      forth = λ e m. r.forth e (sym (turned-member (list_at entries v) least e) ∙ m) ∙ ap (dart_at tails v) (sym (turned-successor (list_at entries v) least e listed.distinct));
      back = λ e m. ap (λ (f : ℕ). get_or prev (dart_at tails v f) 0) (turned-successor (list_at entries v) least e listed.distinct) ∙ r.back e (sym (turned-member (list_at entries v) least e) ∙ m);
    }

-- the walk along a ring gives the given order
ring-order : (g : Multigraph) (entries : List (ℕ × List ℕ)) (tails next prev : List ℕ) (v : ℕ) (ring : Ring) → AreArranged g entries → AreTails g tails → v < g.vertex_count → AreLinked tails next prev v (list_at entries v) (list_at entries v) → IsRingOf g tails v ring → turns next ring.first ring.degree ≡ given_order g entries v
ring-order g entries tails next prev v ring a t l r is = elim (cases_eq ring.degree 0) [
  | inl none ↦ ap (turns next ring.first) none ∙ sym (ap (λ (xs : List ℕ). turned xs least) (nil_from_length (list_at entries v) (omega (arith, long))))
  | inr some ↦
      (λ k. turns next (begin (omega arith) k) (many k))
      ∙ turns-order tails next prev v (given_order g entries v) (order-round g entries tails v a t l) (order-linked g entries tails next prev v a t l r)
]
  where
    least : ℕ
    least = first_or 0 (incident_edges g v)

    long : length (list_at entries v) ≡ ring.degree
    long = length_permutation (incident_edges g v) (list_at entries v) (a.arranged v l) ∙ sym is.degree

    many : ring.degree ≡ length (given_order g entries v)
    many = sym long ∙ sym (turned-length (list_at entries v) least)

    begin : 0 < ring.degree → ring.first ≡ dart_at tails v (first_or 0 (given_order g entries v))
    begin some = is.first some ∙ ap (dart_at tails v) (sym (turned-first_or (list_at entries v) least 0 (least-given g entries v a l (omega (arith, is.degree)))))

-- no ring
abbrev none : Ring
none = record { first = 0; degree = 0 }

-- at the end the walks give the orders
pub built-orders : (g : Multigraph) (entries : List (ℕ × List ℕ)) (tails : List ℕ) (links : Links) (rings : List Ring) → AreArranged g entries → AreTails g tails → AreBuilt g entries tails links rings g.vertex_count → (v : ℕ) → v < g.vertex_count → order_at (orders links.next rings) v ≡ given_order g entries v
built-orders g entries tails links rings a t r v l =
    get_or-map (λ (ring : Ring). turns links.next ring.first ring.degree) rings v none [] (omega (arith, r.rings_long))
    ∙ ring-order g entries tails links.next links.prev v (get_or rings v none) a t l (r.linked v l) (r.ring v none l)

-- so is the first of the given order
given-least : (g : Multigraph) (entries : List (ℕ × List ℕ)) (v e : ℕ) → AreArranged g entries → v < g.vertex_count → is_member e (given_order g entries v) ≡ true → first_or 0 (given_order g entries v) ≤ e
given-least g entries v e a l m =
    let at_v : is_member e (incident_edges g v) ≡ true = permutation-member_back (incident_edges g v) (list_at entries v) e (a.arranged v l) (sym (turned-member (list_at entries v) (first_or 0 (incident_edges g v)) e) ∙ m) in
    omega (arith, incident-least g v e at_v, turned-first_or (list_at entries v) (first_or 0 (incident_edges g v)) 0 (least-given g entries v a l (some (incident_edges g v) at_v)))
  where
    some : (xs : List ℕ) → is_member e xs ≡ true → 0 < length xs
    some [] m = absurd (true≢false (sym m))
    some (x ∷ xs) m = omega arith

-- at the end the rings keep a rotation system
pub built-rings : (g : Multigraph) (entries : List (ℕ × List ℕ)) (tails : List ℕ) (links : Links) (rings : List Ring) → IsGraph g → IsWithinLimits g → AreArranged g entries → AreTails g tails → AreBuilt g entries tails links rings g.vertex_count → AreRings tails links.next links.prev rings
built-rings g entries tails links rings ok limits a t r = record {
  few = omega (arith, t.long, limits.few_edges);
  few_rings = omega (arith, r.rings_long, limits.few_vertices);
  next_long = r.long;
  prev_long = r.inverse.long ∙ r.long;
  permutes = r.inverse.permutes;
  first_in = λ k other l some. node k other l some;
  begins = λ v other l some. (r.ring v other (inside v l)).first some
      ∙ ap (dart_at tails v) (sym (ap (first_or 0) (is v l) ∙ turned-first_or (list_at entries v) (first_or 0 (incident_edges g v)) 0 (least-given g entries v a (inside v l) (omega (arith, (r.ring v other (inside v l)).degree)))));
  rounds = λ v l. subst (λ (o : List ℕ). StandRound tails v o) (sym (is v l)) (order-round g entries tails v a t (inside v l));
  linked = λ v l. subst (λ (o : List ℕ). AreLinked tails links.next links.prev v o o) (sym (is v l)) (order-linked g entries tails links.next links.prev v a t (inside v l) (r.linked v (inside v l)));
  least = λ v e l m. subst (λ (o : List ℕ). first_or 0 o ≤ e) (sym (is v l)) (given-least g entries v e a (inside v l) (subst (λ (o : List ℕ). is_member e o ≡ true) (is v l) m));
  each = λ d l. each-round d (omega (arith, l, t.long));
}
  where
    inside : (v : ℕ) → v < length rings → v < g.vertex_count
    inside v l = omega (arith, r.rings_long)

    is : (v : ℕ) → v < length rings → order_at (orders links.next rings) v ≡ given_order g entries v
    is v l = built-orders g entries tails links rings a t r v (inside v l)

    node : (k : ℕ) (other : Ring) → k < length rings → 0 < (get_or rings k other).degree → (get_or rings k other).first < length links.next
    node k other l some =
        let is = r.ring k other (inside k l) in
        let m = least-given g entries k a (inside k l) (omega (arith, is.degree)) in
        let d = (given-round g entries tails k a t (inside k l)).darts (first_or 0 (incident_edges g k)) m in
        omega (arith, is.first some, dart-in tails k (first_or 0 (incident_edges g k)) (length links.next) (omega (arith, r.long, d)))

    -- an edge stands round its ends
    at-end : (v e : ℕ) → e < edge_count g → v < g.vertex_count → is_end g v e ≡ true → is_member e (order_at (orders links.next rings) v) ≡ true
    at-end v e l m at_v = subst (λ (o : List ℕ). is_member e o ≡ true) (sym (is v (omega (arith, m, r.rings_long))))
        (turned-member (list_at entries v) (first_or 0 (incident_edges g v)) e ∙ permutation-member (incident_edges g v) (list_at entries v) e (a.arranged v m) (incident-member g v e l at_v))

    each-round : (d : ℕ) → d < 2 * edge_count g → is_member (d / 2) (order_at (orders links.next rings) (get_or tails d 0)) ≡ true
    each-round d l =
        let e : ℕ = d / 2 in
        let inside_e : e < edge_count g = omega (arith, l) in
        elim (cases_eq d (2 * (d / 2))) [
          | inl even ↦ subst (λ (v : ℕ). is_member e (order_at (orders links.next rings) v) ≡ true) (sym (ap (λ (k : ℕ). get_or tails k 0) even ∙ t.first e inside_e))
              (at-end (ends_of g e).0 e inside_e (ok.first_in e inside_e) (is_end-first g e))
          | inr odd ↦ subst (λ (v : ℕ). is_member e (order_at (orders links.next rings) v) ≡ true)
              (sym (ap (λ (k : ℕ). get_or tails k 0) (let next : d ≡ 2 * (d / 2) + 1 = omega (arith, odd) in next) ∙ t.second e inside_e))
              (at-end (ends_of g e).1 e inside_e (ok.second_in e inside_e) (is_end-second g e))
        ]

-- the orders that are given make a rotation system
pub given-system : (g : Multigraph) (entries : List (ℕ × List ℕ)) (r : List (List ℕ)) → AreArranged g entries → length r ≡ g.vertex_count → ((v : ℕ) → v < g.vertex_count → order_at r v ≡ given_order g entries v) → IsRotationSystem g r
given-system g entries r a long same = record {
  vertices = long;
  orders = λ v l. subst (λ (o : List ℕ). IsCyclicOrder (incident_edges g v) o) (sym (same v l)) (record {
    arranged = IsPermutation-trans (incident_edges g v) (list_at entries v) (given_order g entries v) (a.arranged v l) (turned-permutation (list_at entries v) (first_or 0 (incident_edges g v)));
    least_first = elim (cases_eq (length (incident_edges g v)) 0) [
      | inl none ↦ begin v l none
      | inr some ↦ turned-first_or (list_at entries v) (first_or 0 (incident_edges g v)) 0 (least-given g entries v a l (omega arith))
    ];
  });
}
  where
    begin : (v : ℕ) → v < g.vertex_count → length (incident_edges g v) ≡ 0 → first_or 0 (given_order g entries v) ≡ first_or 0 (incident_edges g v)
    begin v l none =
        ap (λ (xs : List ℕ). first_or 0 (turned xs (first_or 0 (incident_edges g v)))) (nil_from_length (list_at entries v) (omega (arith, length_permutation (incident_edges g v) (list_at entries v) (a.arranged v l))))
        ∙ ap (first_or 0) (sym (nil_from_length (incident_edges g v) none))

-- the rings that were built are a rotation system
pub built-system : (g : Multigraph) (entries : List (ℕ × List ℕ)) (tails : List ℕ) (links : Links) (rings : List Ring) → AreArranged g entries → AreTails g tails → AreBuilt g entries tails links rings g.vertex_count → IsRotationSystem g (orders links.next rings)
built-system g entries tails links rings a t r =
    given-system g entries (orders links.next rings) a (length-map rings (λ (ring : Ring). turns links.next ring.first ring.degree) ∙ r.rings_long) (built-orders g entries tails links rings a t r)
