-- The list with locked nodes, its length, and the last member of the full list.
use Rattle.std.proofs.Common.{◌≡◌, ◌≢◌, ℕ, zero, suc, ◌+◌, ◌*◌, ◌<◌, ◌≤◌, nat_lt, inl, inr, Bool, true, false, cond, List, [], ◌∷◌, length, map, reverse, slice_index_or, refl, sym, ap, ap₂, ◌∙◌, subst, arith, Contains}
use Rattle.std.specs.Prelude.{AllPairs}
use Rattle.std.proofs.lemmas.Bool.{cases_Bool, lt-ltb}
use Rattle.std.proofs.lemmas.List.{length-map, get_or_default}
use Rattle.permutations.specs.Cyclic.{first_or, least_or, from_least}
use Rattle.permutations.specs.Members.{is_member, is_distinct}
use Rattle.permutations.proofs.Members.{member-head, member-tail}
use Rattle.permutations.proofs.NormalForm.{from_least-first_or, least_or-le}
use Rattle.multigraph.specs.Graph.{Multigraph}
use Rattle.multigraph.specs.Part.{Rises}
use Rattle.rotations.specs.Rotation.{IsCyclicOrder}
use Rattle.rotations.specs.Runs.{mirror_image}
use Rattle.faces.proofs.MapMirror.{mirror-system, mirror-image-plane}
use Rattle.pair_split.specs.Tutte.{Node, node_at}
use Rattle.pair_split.specs.declared.components.Kind.{Kind}
use Rattle.pair_split.specs.declared.components.Kind.TheVariants.{S, P, R, B}
use Rattle.pair_split.specs.declared.components.Item.{Item}
use Rattle.choice_lists.specs.Order.{IsRising, is_before}
use Rattle.choice_lists.specs.Arrangements.{factorial}
use Rattle.choice_lists.specs.Choices.{mirror_choice, IsBondChoice, bond_choices, rigid_choices, IsChoiceList}
use Rattle.choice_lists.specs.Products.{IsFirst, IsLast}
use Rattle.choice_lists.proofs.Places.{Ascends, at-from, has-from, contains-from}
use Rattle.choice_lists.proofs.Choices.{bond-list, bond-length, rigid-has, rigid-length, mirror-differs, mirror-is, choice_list-ascends, choice_list-ends}
use Rattle.choice_lists.proofs.Products.{at-first, at-last}
use Rattle.choice_lists.proofs.ToldByChoices.{product_to, AreTold, ListedByVectors, listed-by_vectors}
use Rattle.skeletons.specs.Items.{item_key, node_keys, has_vertex, least_vertex, IsBlockTree}
use Rattle.skeletons.specs.Round.{keys_round}
use Rattle.faces.specs.Euler.{IsPlaneSystem}
use Rattle.skeletons.specs.Choices.{choice_of_kind, choice, Precedes}
use Rattle.skeletons.specs.Lists.{IsKept, IsKeptList, cyclic_orders, choice_count, count_below, list_count}
use Rattle.skeletons.specs.Families.{IsPossible, IsPossibleFor}
use Rattle.skeletons.specs.Laws.{KeptListExists, LastIsMirrorOfFirst}
use Rattle.skeletons.proofs.NodeItems.{edge-item}
use Rattle.skeletons.proofs.Vertices.{least-has}
use Rattle.skeletons.proofs.Moved.{mirror-turns}
use Rattle.skeletons.proofs.Before.{list-unique}
use Rattle.skeletons.proofs.Leading.{unlocked-full}
use Rattle.skeleton_runs.proofs.Contiguous.{plane-contiguous}
use Rattle.skeleton_choices.proofs.Plane.{choice-round}
use Rattle.skeleton_choices.proofs.Told.{round-once, round-written, rigid-three, rigid-rounds, tell, possible, selection}

-- a cyclic order from the least on, the other way round
pub mirror-same : (keys : List ℕ) → is_distinct keys ≡ true → from_least keys ≡ keys → from_least (reverse keys) ≡ mirror_choice keys
mirror-same [] d n = refl
mirror-same (x ∷ keys) d n = mirror-is x keys d least
  where
    least : (z : ℕ) → is_member z keys ≡ true → x ≤ z
    least z m =
        let first : x ≡ least_or x (x ∷ keys) = sym (ap (first_or 0) n) ∙ from_least-first_or (x ∷ keys) x (member-head x keys) in
        omega (arith, first, least_or-le x z (x ∷ keys) (member-tail z x keys m))

-- (n - 1)! for n items
pub orders-factorial : (n : ℕ) → cyclic_orders (suc n) ≡ factorial n
orders-factorial zero = refl
orders-factorial (suc n) = ap (λ z. (n + 1) * z) (orders-factorial n)

-- rising keys as the lists of choices ask it
rising-keys : (l : List ℕ) → Rises l → IsRising nat_lt l
rising-keys l r i j d a c = lt-ltb (slice_index_or l i d) (slice_index_or l j d)
    (let e : slice_index_or l i 0 < slice_index_or l j 0 = r i j a c in
    let li : slice_index_or l i d ≡ slice_index_or l i 0 = get_or_default l i d 0 (omega (arith, a, c)) in
    let lj : slice_index_or l j d ≡ slice_index_or l j 0 = get_or_default l j d 0 c in
    omega (arith, e, li, lj))

one-contains : (x c : List ℕ) → Contains (x ∷ []) c → x ≡ c
one-contains x c (zero, l, e) = e
one-contains x c (suc k, l, e) = absurd (omega (arith, l))

module _ (g : Multigraph) (nodes : List Node) (b : IsBlockTree g nodes) where
  -- a choice stands from its least key on, each key once
  pub choice-normal : (r : List (List ℕ)) (k : ℕ) → IsPlaneSystem g r → k < length nodes → (is_distinct (choice nodes r k) ≡ true) × (from_least (choice nodes r k) ≡ choice nodes r k)
  choice-normal r k p l = by_kind (node_at nodes k).kind
    where
      keys : List ℕ
      keys = keys_round nodes r k (least_vertex nodes k)

      once : is_distinct keys ≡ true
      once = round-once g nodes b r k (least_vertex nodes k) p (least-has g nodes b k l)

      written : from_least keys ≡ keys
      written = round-written g nodes b r k (least_vertex nodes k) p (least-has g nodes b k l)

      by_kind : (kind : Kind) → (is_distinct (choice_of_kind kind keys) ≡ true) × (from_least (choice_of_kind kind keys) ≡ choice_of_kind kind keys)
      by_kind S = (refl, refl)
      by_kind B = (refl, refl)
      by_kind P = (once, written)
      by_kind R = (once, written)

  module _ (r : List (List ℕ)) (p : IsPlaneSystem g r) where
    -- the possible choices of a node, in order
    unfoldable pub options_of : Kind → ℕ → List (List ℕ)
    options_of P k = bond_choices (node_keys nodes k)
    options_of R k = rigid_choices (choice nodes r k)
    options_of S k = [] ∷ []
    options_of B k = [] ∷ []

    unfoldable pub options : ℕ → List (List ℕ)
    options k = options_of (node_at nodes k).kind k

    -- the keys of a bond
    pub bond-keys_cut : (k : ℕ) → k < length nodes → (key : ℕ) × (keys : List ℕ) × (node_keys nodes k ≡ key ∷ keys)
    bond-keys_cut k l = cut (node_at nodes k).items some
      where
        some : 0 < length (node_at nodes k).items
        some = let w = edge-item g nodes b.tree k 0 l b.block.has_edge in omega (arith, w.1)

        cut : (items : List Item) → 0 < length items → (key : ℕ) × (keys : List ℕ) × (map item_key items ≡ key ∷ keys)
        cut [] s = absurd (omega (arith, s))
        cut (item ∷ items) s = (item.key, map item_key items, refl)

    pub rise : (k : ℕ) → k < length nodes → IsRising nat_lt (node_keys nodes k)
    rise k l = rising-keys (node_keys nodes k) (b.tree.in_order.keys_rise k l)

    -- a triconnected node's choice is not its own mirror image
    pub two-ways : (k : ℕ) → k < length nodes → (node_at nodes k).kind ≡ R → mirror_choice (choice nodes r k) ≢ choice nodes r k
    two-ways k l e = mirror-differs (choice nodes r k) (choice-normal r k p l).0
        (subst (λ (z : List ℕ). 3 ≤ length z) (sym (choice-round g nodes b r k R e)) (rigid-three g nodes b r k (least_vertex nodes k) p (l, e) (least-has g nodes b k l)))

    pub options-list : (k : ℕ) → k < length nodes → IsChoiceList (options k)
    unfolding options options_of
    options-list k l = by_kind (node_at nodes k).kind refl
      where
        by_kind : (kind : Kind) → (node_at nodes k).kind ≡ kind → IsChoiceList (options_of kind k)
        by_kind P e = let c = bond-keys_cut k l in inl (record { key = c.0; keys = c.1; rise = subst (IsRising nat_lt) c.2 (rise k l); is = ap bond_choices c.2 })
        by_kind R e = inr (inl (record { choice = choice nodes r k; two_ways = two-ways k l e; is = refl }))
        by_kind S e = inr (inr refl)
        by_kind B e = inr (inr refl)

    -- the choices of plane rotation systems are among them
    pub choice-option : (q : List (List ℕ)) (k : ℕ) → IsPlaneSystem g q → k < length nodes → Contains (options k) (choice nodes q k)
    unfolding options options_of
    choice-option q k s l = by_kind (node_at nodes k).kind refl
      where
        by_kind : (kind : Kind) → (node_at nodes k).kind ≡ kind → Contains (options_of kind k) (choice nodes q k)
        by_kind P e =
            let c = bond-keys_cut k l in
            let h : IsPossibleFor P nodes k (choice nodes q k) = subst (λ (z : Kind). IsPossibleFor z nodes k (choice nodes q k)) e (possible g nodes b q k s l) in
            subst (λ (z : List ℕ). Contains (bond_choices z) (choice nodes q k)) (sym c.2)
            (((bond-list c.0 c.1 (subst (IsRising nat_lt) c.2 (rise k l))).exactly (choice nodes q k)).1 (subst (λ (z : List ℕ). IsBondChoice z (choice nodes q k)) c.2 (record { arranged = h.arranged; least_first = h.least_first })))
        by_kind R e =
            let v : ℕ = least_vertex nodes k in
            let h : has_vertex nodes k v ≡ true = least-has g nodes b k l in
            let own = choice-round g nodes b r k R e in
            let other = choice-round g nodes b q k R e in
            contains-from (rigid_choices (choice nodes r k)) (choice nodes q k) ((rigid-has (choice nodes r k) (choice nodes q k)).1 (elim (rigid-rounds g nodes b r q k p s (l, e)) [
              | inl a ↦ inl (other ∙ a v h ∙ sym own)
              | inr a ↦ inr (other ∙ a v h ∙ ap (λ (z : List ℕ). from_least (reverse z)) (sym own) ∙ mirror-same (choice nodes r k) (choice-normal r k p l).0 (choice-normal r k p l).1)
            ]))
        by_kind S e = (0, omega arith, sym (choice-round g nodes b q k S e))
        by_kind B e = (0, omega arith, sym (choice-round g nodes b q k B e))

    -- and each of them is possible
    option-possible : (k : ℕ) (c : List ℕ) → k < length nodes → Contains (options k) c → IsPossible nodes k c
    unfolding options options_of
    option-possible k c l m = by_kind (node_at nodes k).kind refl m
      where
        by_kind : (kind : Kind) → (node_at nodes k).kind ≡ kind → Contains (options_of kind k) c → IsPossibleFor kind nodes k c
        by_kind P e m =
            let d = bond-keys_cut k l in
            let h : IsBondChoice (d.0 ∷ d.1) c = ((bond-list d.0 d.1 (subst (IsRising nat_lt) d.2 (rise k l))).exactly c).0 (subst (λ (z : List ℕ). Contains (bond_choices z) c) d.2 m) in
            subst (λ (z : List ℕ). IsCyclicOrder z c) (sym d.2) (record { arranged = h.arranged; least_first = h.least_first })
        by_kind R e m = elim ((rigid-has (choice nodes r k) c).0 (has-from (rigid_choices (choice nodes r k)) c m)) [
          | inl q ↦ subst (λ (z : List ℕ). IsPossibleFor R nodes k z) (sym q) (subst (λ (z : Kind). IsPossibleFor z nodes k (choice nodes r k)) e (possible g nodes b r k p l))
          | inr q ↦ subst (λ (z : List ℕ). IsPossibleFor R nodes k z) (mirror-turns g nodes r b p.system (plane-contiguous g nodes r b p) k l ∙ mirror-same (choice nodes r k) (choice-normal r k p l).0 (choice-normal r k p l).1 ∙ sym q)
              (subst (λ (z : Kind). IsPossibleFor z nodes k (choice nodes (mirror_image r) k)) e (possible g nodes b (mirror_image r) k (record { system = mirror-system g r p.system; plane = mirror-image-plane g r b.graph p.system p.plane }) l))
        ]
        by_kind S e m = sym (one-contains [] c m)
        by_kind B e m = sym (one-contains [] c m)

    -- how many there are
    pub options-count : (k : ℕ) → k < length nodes → length (options k) ≡ choice_count (node_at nodes k).kind (length (node_at nodes k).items)
    unfolding options options_of
    options-count k l = by_kind (node_at nodes k).kind
      where
        by_kind : (kind : Kind) → length (options_of kind k) ≡ choice_count kind (length (node_at nodes k).items)
        by_kind P =
            let c = bond-keys_cut k l in
            ap (λ (z : List ℕ). length (bond_choices z)) c.2 ∙ bond-length c.0 c.1 ∙ sym (orders-factorial (length c.1)) ∙ ap (λ (z : List ℕ). cyclic_orders (length z)) (sym c.2) ∙ ap cyclic_orders (length-map (node_at nodes k).items item_key)
        by_kind R = rigid-length (choice nodes r k)
        by_kind S = refl
        by_kind B = refl

    module _ (locked : ℕ → Bool) where
      -- those of a locked node: its own choice
      unfoldable pub free : ℕ → List (List ℕ)
      free k = cond (locked k) (choice nodes r k ∷ []) (options k)

      pub free-locked : (k : ℕ) → locked k ≡ true → free k ≡ choice nodes r k ∷ []
      unfolding free
      free-locked k y = ap (λ (z : Bool). cond z (choice nodes r k ∷ []) (options k)) y

      pub free-open : (k : ℕ) → locked k ≡ false → free k ≡ options k
      unfolding free
      free-open k n = ap (λ (z : Bool). cond z (choice nodes r k ∷ []) (options k)) n

      -- plane rotation systems with the choices of r at the locked nodes are told by their choices
      told : AreTold (choice nodes) (length nodes) free (IsKept g nodes locked r)
      told = record {
        rising = λ k l. elim (cases_Bool (locked k)) [
          | inl y ↦ subst (λ (z : List (List ℕ)). Ascends is_before z) (sym (free-locked k y)) ((λ i c m. absurd m), tt)
          | inr n ↦ subst (λ (z : List (List ℕ)). Ascends is_before z) (sym (free-open k n)) (choice_list-ascends (options k) (options-list k l))
        ];
        each = λ q k l m. elim (cases_Bool (locked k)) [
          | inl y ↦ subst (λ (z : List (List ℕ)). Contains z (choice nodes q k)) (sym (free-locked k y)) (0, omega arith, sym (m.keeps k l y))
          | inr n ↦ subst (λ (z : List (List ℕ)). Contains z (choice nodes q k)) (sym (free-open k n)) (choice-option q k m.plane l)
        ];
        any = any;
        tell = λ q s m n same. tell g nodes b q s m.plane n.plane same;
      }
        where
          any : (f : ℕ → List ℕ) → ((k : ℕ) → k < length nodes → Contains (free k) (f k)) → (q : List (List ℕ)) × IsKept g nodes locked r q × ((k : ℕ) → k < length nodes → choice nodes q k ≡ f k)
          any f h =
              let held : (k : ℕ) → k < length nodes → locked k ≡ true → choice nodes r k ≡ f k = λ k l y. one-contains (choice nodes r k) (f k) (subst (λ (z : List (List ℕ)). Contains z (f k)) (free-locked k y) (h k l)) in
              let w = selection g nodes b f (λ k l. elim (cases_Bool (locked k)) [
                | inl y ↦ subst (λ (z : List ℕ). IsPossible nodes k z) (held k l y) (possible g nodes b r k p l)
                | inr n ↦ option-possible k (f k) l (subst (λ (z : List (List ℕ)). Contains z (f k)) (free-open k n) (h k l))
              ]) in
              (w.0, record { plane = w.1; keeps = λ k l y. w.2 k l ∙ sym (held k l y) }, w.2)

      pub listed : ListedByVectors (choice nodes) (length nodes) free (IsKept g nodes locked r)
      listed = listed-by_vectors (choice nodes) (length nodes) free (IsKept g nodes locked r) told

      -- the list with locked nodes
      pub kept-list : IsKeptList g nodes locked r listed.list
      kept-list = record { rising = rising; members = listed.is.exactly }
        where
          rising : AllPairs (Precedes nodes) listed.list
          rising i j d a c =
              let w = listed.is.rises i j d a c in
              record { node = w.place; is_node = w.within; same = w.same; smaller = w.smaller }

      -- how many members it has
      pub kept-count : length listed.list ≡ list_count nodes locked
      kept-count = listed.count ∙ below (length nodes) (omega arith)
        where
          one : (k : ℕ) → k < length nodes → length (free k) ≡ cond (locked k) 1 (choice_count (node_at nodes k).kind (length (node_at nodes k).items))
          one k l = elim (cases_Bool (locked k)) [
            | inl y ↦ ap length (free-locked k y) ∙ sym (ap (λ (z : Bool). cond z 1 (choice_count (node_at nodes k).kind (length (node_at nodes k).items))) y)
            | inr n ↦ ap length (free-open k n) ∙ options-count k l ∙ sym (ap (λ (z : Bool). cond z 1 (choice_count (node_at nodes k).kind (length (node_at nodes k).items))) n)
          ]

          below : (n : ℕ) → n ≤ length nodes → product_to n (λ k. length (free k)) ≡ count_below nodes locked n
          below zero l = refl
          below (suc n) l = ap₂ ◌*◌ (below n (omega (arith, l))) (one n (omega (arith, l)))

    -- with no node locked
    pub full-mirrored : (first last : List (List ℕ)) → IsFirst (listed (λ k. false)).list first → IsLast (listed (λ k. false)).list last → (k : ℕ) → k < length nodes → choice nodes last k ≡ mirror_choice (choice nodes first k)
    full-mirrored first last a c = (listed (λ k. false)).mirrored mirror_choice (λ k l x f. subst (λ (z : List (List ℕ)). IsLast z (mirror_choice x)) (sym (free-open (λ k. false) k refl)) (choice_list-ends (options k) (options-list k l) x
        (subst (λ (z : List (List ℕ)). IsFirst z x) (free-open (λ k. false) k refl) f))) first last a c

pub list-exists : KeptListExists
list-exists g nodes locked r b p = ((listed g nodes b r p locked).list, kept-list g nodes b r p locked, kept-count g nodes b r p locked)

pub last-mirror : LastIsMirrorOfFirst
last-mirror g nodes l b full n e = tell g nodes b last (mirror_image first) (plane n (omega (arith, e))) mirrored (λ k d.
    full-mirrored g nodes b first (plane 0 (omega (arith, e))) first last (subst (λ (z : List (List (List ℕ))). IsFirst z first) same is-first) (subst (λ (z : List (List (List ℕ))). IsLast z last) same is-last) k d
    ∙ sym (mirror-turns g nodes first b first-plane.system (plane-contiguous g nodes first b first-plane) k d
    ∙ mirror-same (choice nodes first k) (choice-normal g nodes b first k first-plane d).0 (choice-normal g nodes b first k first-plane d).1))
  where
    first : List (List ℕ)
    first = slice_index_or l 0 []

    last : List (List ℕ)
    last = slice_index_or l n []

    plane : (i : ℕ) → i < length l → IsPlaneSystem g (slice_index_or l i [])
    plane i h = (full.members (slice_index_or l i [])).0 (i, h, get_or_default l i (slice_index_or l i []) [] h)

    first-plane : IsPlaneSystem g first
    first-plane = plane 0 (omega (arith, e))

    mirrored : IsPlaneSystem g (mirror_image first)
    mirrored = record { system = mirror-system g first first-plane.system; plane = mirror-image-plane g first b.graph first-plane.system first-plane.plane }

    same : l ≡ (listed g nodes b first (plane 0 (omega (arith, e))) (λ k. false)).list
    same = list-unique nodes (IsPlaneSystem g) l (listed g nodes b first (plane 0 (omega (arith, e))) (λ k. false)).list full ((unlocked-full g nodes first (listed g nodes b first (plane 0 (omega (arith, e))) (λ k. false)).list).0 (kept-list g nodes b first (plane 0 (omega (arith, e))) (λ k. false)))

    is-first : IsFirst l first
    is-first = at-first l first (at-from l 0 first (omega (arith, e)) (get_or_default l 0 first [] (omega (arith, e))))

    is-last : IsLast l last
    is-last = at-last l n last (at-from l n last (omega (arith, e)) (get_or_default l n last [] (omega (arith, e)))) (sym e)
