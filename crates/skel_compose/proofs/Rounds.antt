-- Cyclic orders read from the successors, and put into lists.
use Rattle.std.proofs.Common.{◌≡◌, ℕ, suc, ◌+◌, ◌-◌, ◌<◌, true, Result, Ok, Err, IfOk, List, [], ◌∷◌, ◌++◌, length, get_or, map, refl, sym, ap, ap₂, ◌∙◌, subst, arith, append_assoc, append-nil, IsPermutation}
use Rattle.std.proofs.lemmas.List.{get_or-map, length-map, map-append, ext_get_or}
use Rattle.permutations.specs.Cyclic.{first_or, successor, turned}
use Rattle.permutations.specs.Members.{is_member, is_distinct}
use Rattle.permutations.specs.Ring.{images}
use Rattle.permutations.proofs.Arrangements.{permutation-member, length-from_members, member-at, contains-from_member}
use Rattle.permutations.proofs.Chains.{successor-next}
use Rattle.permutations.proofs.Turned.{turned-own}
use Rattle.permutations.proofs.Places.{first-at}
use Rattle.multigraph.specs.Graph.{Multigraph, numbers_below, incident_edges}
use Rattle.multigraph.proofs.Below.{get_or-numbers_below, length-numbers_below, numbers_below-more}
use Rattle.graph_theory.specs.Block.{IsOneBlock}
use Rattle.rotations.proofs.Membership.{incident-member, incident-distinct}
use Rattle.rotations.proofs.Cursor.{list_at-found}
use Rattle.faces.proofs.DartLemmas.{order-distinct}
use Rattle.rotations.specs.Entries.{entry, list_at, IsAbove}
use Rattle.rotations.specs.Given.{given_order, AreArranged}
use Rattle.rotations.specs.Rotation.{order_at, IsRotationSystem}
use Rattle.skel_compose.specs.Orders.{orders_below}

-- a stretch of a list without repetition is made by the successors of its first member
images-from : (l : List ℕ) → is_distinct l ≡ true → (a : List ℕ) (y : ℕ) (b : List ℕ) → l ≡ a ++ y ∷ b → images (successor l) (suc (length b)) y ≡ y ∷ b
images-from l d a y [] e = refl
images-from l d a y (z ∷ b) e = ap (λ (w : List ℕ). y ∷ w) (ap (images (successor l) (suc (length b))) step ∙ images-from l d (a ++ y ∷ []) z b (e ∙ sym (append_assoc a (y ∷ []) (z ∷ b))))
  where
    step : successor l y ≡ z
    step = ap (λ (w : List ℕ). successor w y) e ∙ successor-next a y z b (subst (λ (w : List ℕ). is_distinct w ≡ true) e d)

-- so is the list
pub images-list : (l : List ℕ) → is_distinct l ≡ true → images (successor l) (length l) (first_or 0 l) ≡ l
images-list [] d = refl
images-list (y ∷ b) d = images-from (y ∷ b) d [] y b refl

-- one turn more
pub images-next : (f : ℕ → ℕ) (l all : List ℕ) (n i e : ℕ) → i < n → l ++ images f (n - i) e ≡ all → (l ++ e ∷ []) ++ images f (n - (i + 1)) (f e) ≡ all
images-next f l all n i e m q = append_assoc l (e ∷ []) (images f (n - (i + 1)) (f e)) ∙ ap (λ (z : List ℕ). l ++ z) (sym (ap (λ k. images f k e) step)) ∙ q
  where
    step : n - i ≡ suc (n - (i + 1))
    step = omega (arith, m)

pub round-more : (f : ℕ → ℕ) (l all new : List ℕ) (n i e x : ℕ) → new ≡ l ++ e ∷ [] → x ≡ f e → i < n → l ++ images f (n - i) e ≡ all → new ++ images f (n - (i + 1)) x ≡ all
round-more f l all new n i e x p q m h = ap₂ (λ (u : List ℕ) (y : ℕ). u ++ images f (n - (i + 1)) y) p q ∙ images-next f l all n i e m h

pub images-end : (f : ℕ → ℕ) (l all : List ℕ) (n i e : ℕ) → n ≡ i → l ++ images f (n - i) e ≡ all → l ≡ all
images-end f l all n i e h q = sym (append-nil l) ∙ sym (ap (λ k. l ++ images f k e) none) ∙ q
  where
    none : n - i ≡ 0
    none = omega (arith, h)

-- the entries with that of one vertex more
pub orders-more : (r : List (List ℕ)) (v : ℕ) (lists new : List (ℕ × List ℕ)) (edges : List ℕ) → lists ≡ orders_below r v → edges ≡ order_at r v → new ≡ lists ++ (v, edges) ∷ [] → new ≡ orders_below r (v + 1)
orders-more r v lists new edges p q e =
    e ∙ ap₂ (λ (u : List (ℕ × List ℕ)) (w : List ℕ). u ++ (v, w) ∷ []) p q
    ∙ sym (ap (map (λ (w : ℕ). (w, order_at r w))) (numbers_below-more v) ∙ map-append (λ (w : ℕ). (w, order_at r w)) (numbers_below v) (v ∷ []))

-- entry v is for v
pub entry-at : (r : List (List ℕ)) (n v : ℕ) → v < n → entry (orders_below r n) v ≡ (v, order_at r v)
entry-at r n v l = get_or-map (λ w. (w, order_at r w)) (numbers_below n) v 0 (0, []) (subst (λ k. v < k) (sym (length-numbers_below n)) l) ∙ ap (λ w. (w, order_at r w)) (get_or-numbers_below n v 0 l)

pub entries-number : (r : List (List ℕ)) (n : ℕ) → length (orders_below r n) ≡ n
entries-number r n = length-map (numbers_below n) (λ v. (v, order_at r v)) ∙ length-numbers_below n

-- the next vertex is above those so far
pub entries-above : (r : List (List ℕ)) (n : ℕ) → IsAbove (orders_below r n) n
entries-above r n l =
    let e : length (orders_below r n) ≡ n = entries-number r n in
    let m : length (orders_below r n) - 1 < n = omega (arith, l, e) in
    subst (λ (z : ℕ × List ℕ). z.0 < n) (sym (entry-at r n (length (orders_below r n) - 1) m)) m

-- what is given for a vertex
pub entries-given : (r : List (List ℕ)) (n v : ℕ) → v < n → list_at (orders_below r n) v ≡ order_at r v
entries-given r n v l =
    list_at-found (orders_below r n) v v (subst (λ k. v < k) (sym (entries-number r n)) l) (λ i m q. let e : i ≡ v = sym (ap (λ (z : ℕ × List ℕ). z.0) (entry-at r n i (omega (arith, m, l)))) ∙ q in omega (arith, e, m))
    (ap (λ (z : ℕ × List ℕ). z.0) (entry-at r n v l)) ∙ ap (λ (z : ℕ × List ℕ). z.1) (entry-at r n v l)

-- each vertex of a block has an edge
pub some-edge : (g : Multigraph) (v : ℕ) → IsOneBlock g → v < g.vertex_count → 0 < length (incident_edges g v)
some-edge g v b l =
    let w = b.at_edge v l in
    let i = contains-from_member (incident_edges g v) w.0 (incident-member g v w.0 w.1 w.2) in
    omega (arith, i.1)

module _ (g : Multigraph) (r : List (List ℕ)) (s : IsRotationSystem g r) where
  -- the first edge
  pub round-start : (v x : ℕ) (edges : List ℕ) → v < g.vertex_count → edges ≡ [] → x ≡ get_or (incident_edges g v) 0 0 → edges ++ images (successor (order_at r v)) (length (incident_edges g v) - 0) x ≡ order_at r v
  round-start v x edges l e q = ap₂ (λ (u : List ℕ) (y : ℕ). u ++ images (successor (order_at r v)) (length (incident_edges g v) - 0) y) e (q ∙ first-at (incident_edges g v) ∙ sym (s.orders v l).least_first)
      ∙ ap (λ n. images (successor (order_at r v)) n (first_or 0 (order_at r v))) number ∙ images-list (order_at r v) (order-distinct g r v s l)
    where
      number : length (incident_edges g v) - 0 ≡ length (order_at r v)
      number = omega (arith, length-from_members (incident_edges g v) (order_at r v) (incident-distinct g v) (order-distinct g r v s l) (λ z. sym (permutation-member (incident_edges g v) (order_at r v) z (s.orders v l).arranged)))

  -- is in the order
  pub round-member : (v x : ℕ) → v < g.vertex_count → x ≡ get_or (incident_edges g v) 0 0 → 0 < length (incident_edges g v) → is_member x (order_at r v) ≡ true
  round-member v x l q n = permutation-member (incident_edges g v) (order_at r v) x (s.orders v l).arranged ∙ subst (λ z. is_member z (incident_edges g v) ≡ true) (sym q) (member-at (incident_edges g v) 0 0 n)

  -- the entries of a rotation system are arranged
  pub entries-arranged : AreArranged g (orders_below r g.vertex_count)
  entries-arranged = record {
    arranged = λ v l. subst (IsPermutation (incident_edges g v)) (sym (entries-given r g.vertex_count v l)) (s.orders v l).arranged;
    vertices = λ v n.
        let l : n.0 < g.vertex_count = subst (λ z. n.0 < z) (entries-number r g.vertex_count) n.1 in
        let e : n.0 ≡ v = sym (ap (λ (z : ℕ × List ℕ). z.0) (entry-at r g.vertex_count n.0 l)) ∙ n.2 in
        omega (arith, l, e);
  }

  -- the rotation system of these entries is the one
  pub entries-same : (q : List (List ℕ)) → length q ≡ g.vertex_count → ((v : ℕ) → v < g.vertex_count → order_at q v ≡ given_order g (orders_below r g.vertex_count) v) → r ≡ q
  entries-same q long h = ext_get_or [] r q (s.vertices ∙ sym long) (λ v l. order v (subst (λ n. v < n) s.vertices l))
    where
      order : (v : ℕ) → v < g.vertex_count → order_at r v ≡ order_at q v
      order v l = sym (h v l ∙ ap (λ (z : List ℕ). turned z (first_or 0 (incident_edges g v))) (entries-given r g.vertex_count v l)
          ∙ ap (turned (order_at r v)) (sym (s.orders v l).least_first) ∙ turned-own (order_at r v))

-- what two facts on a value give, where there is one
pub both-ok : {A E : Type 0} → (found : Result A E) → (P Q R : A → Type 0) → ((x : A) → P x → Q x → R x) → IfOk found P → IfOk found Q → IfOk found R
both-ok (Ok x) P Q R f p q = f x p q
both-ok (Err e) P Q R f p q = tt
