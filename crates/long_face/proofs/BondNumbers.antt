-- The faces of a bond numbered along its choice.
use Rattle.std.proofs.Common.{◌≡◌, ◌≢◌, ℕ, suc, ◌+◌, ◌*◌, ◌/◌, ◌%◌, ◌<◌, ◌≤◌, ◌⊎◌, true, ◌||◌, ◌==◌, inl, inr, List, ◌∷◌, ◌++◌, length, map, take, drop, slice_index_or, slice_set, refl, sym, ap, ◌∙◌, subst, arith, eq-eqb, eqb-true, IsPermutation}
use Rattle.std.proofs.lemmas.Bool.{cases_eq, or_cases, or_left, or_right}
use Rattle.std.proofs.lemmas.List.{length-map, length-set, length-take-le, get_or-set_same, get_or-set_other, get_or-map, take-append-drop}
use Rattle.std.proofs.lemmas.List.Sorted.{length_permutation}
use Rattle.permutations.specs.Cyclic.{successor, predecessor}
use Rattle.permutations.specs.Members.{is_member, is_distinct}
use Rattle.std.proofs.Math.Seq.{drop-cons}
use Rattle.permutations.proofs.Chains.{apart-front}
use Rattle.permutations.proofs.Arrangements.{permutation-member, permutation-distinct, member-at}
use Rattle.permutations.proofs.Places.{place-of, same-place, told-distinct}
use Rattle.permutations.proofs.Relation.{same-tests}
use Rattle.permutations.proofs.Successor.{successor-member, successor-injective, successor-predecessor, predecessor-member}
use Rattle.multigraph.specs.Graph.{Multigraph}
use Rattle.multigraph.specs.Part.{Rises}
use Rattle.multigraph.proofs.Places.{rises-once}
use Rattle.dart_maps.specs.Map.{twin}
use Rattle.dart_maps.proofs.Darts.{twin-even}
use Rattle.rotations.specs.Rotation.{IsRotationSystem}
use Rattle.faces.specs.Euler.{dart_count, IsPlane, IsPlaneSystem}
use Rattle.pair_split.specs.Tutte.{Node, node_at, node_item}
use Rattle.pair_split.specs.declared.components.Item.{Item}
use Rattle.pair_split.specs.declared.components.Kind.TheVariants.{P}
use Rattle.skeletons.specs.Items.{item_key, nth_item, node_keys, least_vertex, IsBlockTree}
use Rattle.skeletons.specs.Choices.{choice}
use Rattle.skeletons.specs.Families.{skeleton_graph, system_at, AreSkeletonSystems, FollowsFamily}
use Rattle.skeletons.specs.Moves.{IsNodeOfKind}
use Rattle.skeletons.proofs.NodeItems.{no_item}
use Rattle.skeletons.proofs.Leading.{bond-choice}
use Rattle.skeleton_runs.proofs.Contiguous.{plane-contiguous}
use Rattle.skeleton_planes.proofs.Followed.{follows-plane_back}
use Rattle.skeleton_runs.proofs.SkeletonGraph.{graph-edges}
use Rattle.skeleton_choices.proofs.Rounds.{skeleton_round}
use Rattle.skeleton_faces.specs.Faces.{on_one_face}
use Rattle.face_weights.specs.Numbers.{number_at, NumberFaces}
use Rattle.long_face.specs.Bonds.{AreBondNumbers, AreBondNumbersUpTo}
use Rattle.skel_embed.specs.Exchanges.{StandsAt}
use Rattle.long_face.proofs.Changes.{follow-end, follow-next}
use Rattle.long_face.proofs.Possible.{bond-round}
use Rattle.long_face.proofs.Bonds.{bond-next, bond-face}

-- a dart of an item is even or odd
even-or : (d : ℕ) → (d ≡ 2 * (d / 2)) ⊎ (d ≡ 2 * (d / 2) + 1)
even-or d = elim (cases_eq (d % 2) 0) [ inl e ↦ inl (omega (arith, e)) | inr n ↦ inr (omega (arith, n)) ]

-- the key at a place is there
pub stands-at : (keys : List ℕ) (place : ℕ) → is_distinct keys ≡ true → place < length keys → StandsAt keys place (slice_index_or keys place 0)
stands-at keys place once l = record {
  front = take place keys;
  back = drop (suc place) keys;
  is = is;
  before = length-take-le place keys (omega (arith, l));
  new = apart-front (take place keys) (slice_index_or keys place 0) (drop (suc place) keys) (subst (λ (z : List ℕ). is_distinct z ≡ true) is once);
}
  where
    is : keys ≡ take place keys ++ slice_index_or keys place 0 ∷ drop (suc place) keys
    is = sym (take-append-drop place keys) ∙ ap (λ (z : List ℕ). take place keys ++ z) (drop-cons keys place 0 l)

-- the key after it
pub key-after : (keys : List ℕ) (place : ℕ) → is_distinct keys ≡ true → place < length keys → place + 1 ≢ length keys → successor keys (slice_index_or keys place 0) ≡ slice_index_or keys (place + 1) 0
key-after keys place once l n = follow-next keys place (slice_index_or keys place 0) once (stands-at keys place once l) n

pub key-after_last : (keys : List ℕ) (place : ℕ) → is_distinct keys ≡ true → place < length keys → place + 1 ≡ length keys → successor keys (slice_index_or keys place 0) ≡ slice_index_or keys 0 0
key-after_last keys place once l e = follow-end keys place (slice_index_or keys place 0) once (stands-at keys place once l) e

-- items with keys in increasing order, and a permutation of the keys
module _ (items : List Item) (rising : Rises (map item_key items)) (keys : List ℕ) (all : IsPermutation (map item_key items) keys) where
  keys-once : is_distinct (map item_key items) ≡ true
  keys-once = told-distinct (map item_key items) (rises-once (map item_key items) rising)

  pub order-once : is_distinct keys ≡ true
  order-once = permutation-distinct (map item_key items) keys all keys-once

  pub order-long : length keys ≡ length items
  order-long = length_permutation (map item_key items) keys all ∙ length-map items item_key

  key-at : (i : ℕ) → i < length items → slice_index_or (map item_key items) i 0 ≡ (nth_item items i).key
  key-at i l = get_or-map item_key items i no_item 0 l

  -- an item is determined by its key
  pub item-one : (i j : ℕ) → i < length items → j < length items → (nth_item items i).key ≡ (nth_item items j).key → i ≡ j
  item-one i j li lj e = same-place (map item_key items) i j keys-once (subst (λ n. i < n) (sym (length-map items item_key)) li) (subst (λ n. j < n) (sym (length-map items item_key)) lj) (key-at i li ∙ e ∙ sym (key-at j lj))

  -- the key of an item is in the arrangement
  pub key-in : (i : ℕ) → i < length items → is_member (nth_item items i).key keys ≡ true
  key-in i l = permutation-member (map item_key items) keys (nth_item items i).key all
      ∙ subst (λ z. is_member z (map item_key items) ≡ true) (key-at i l) (member-at (map item_key items) i 0 (subst (λ n. i < n) (sym (length-map items item_key)) l))

  -- and each key there is that of an item
  pub item-of_key : (key : ℕ) → is_member key keys ≡ true → (i : ℕ) × (i < length items) × ((nth_item items i).key ≡ key)
  item-of_key key m =
      let p = place-of (map item_key items) key (sym (permutation-member (map item_key items) keys key all) ∙ m) in
      let l : p.0 < length items = subst (λ n. p.0 < n) (length-map items item_key) p.1 in
      (p.0, l, sym (key-at p.0 l) ∙ p.2)

  pub none-written : (numbers : List ℕ) → length numbers ≡ 2 * length items → AreBondNumbersUpTo items keys 0 numbers
  none-written numbers e = record { places = e; leaving = λ q i l. absurd (omega (arith, l)); arriving = λ q i j l. absurd (omega (arith, l)) }

  -- an item more
  module _ (count : ℕ) (numbers : List ℕ) (w : AreBondNumbersUpTo items keys count numbers) (inside : count < length keys) (here next : ℕ) (lh : here < length items) (ln : next < length items) (is : (nth_item items here).key ≡ slice_index_or keys count 0)
      (follows : (nth_item items next).key ≡ successor keys (slice_index_or keys count 0)) where
    abbrev first : List ℕ
    first = slice_set numbers (2 * here) (2 * here)

    abbrev second : List ℕ
    second = slice_set (slice_set numbers (2 * here) (2 * here)) (2 * here + 1) (2 * next)

    long : length numbers ≡ 2 * length items
    long = w.places

    apart : (a c : ℕ) → 2 * a ≢ 2 * c + 1
    apart a c e = omega (arith, e)

    even-own : number_at second (2 * here) ≡ 2 * here
    even-own = get_or-set_other first (2 * here + 1) (2 * here) (2 * next) 0 (λ e. apart here here e) ∙ get_or-set_same numbers (2 * here) (2 * here) 0 (omega (arith, lh, long))

    odd-own : number_at second (2 * here + 1) ≡ 2 * next
    odd-own = get_or-set_same first (2 * here + 1) (2 * next) 0 (omega (arith, lh, long, length-set numbers (2 * here) (2 * here)))

    even-other : (i : ℕ) → i ≢ here → number_at second (2 * i) ≡ number_at numbers (2 * i)
    even-other i n = get_or-set_other first (2 * here + 1) (2 * i) (2 * next) 0 (λ e. apart i here e) ∙ get_or-set_other numbers (2 * here) (2 * i) (2 * here) 0 (λ e. n (omega (arith, e)))

    odd-other : (i : ℕ) → i ≢ here → number_at second (2 * i + 1) ≡ number_at numbers (2 * i + 1)
    odd-other i n = get_or-set_other first (2 * here + 1) (2 * i + 1) (2 * next) 0 (λ e. n (omega (arith, e))) ∙ get_or-set_other numbers (2 * here) (2 * i + 1) (2 * here) 0 (λ e. apart here i (sym e))

    -- an item before is another one
    differs : (q i : ℕ) → q < count → i < length items → (nth_item items i).key ≡ slice_index_or keys q 0 → i ≢ here
    differs q i l li e f = let same : q ≡ count = same-place keys q count order-once (omega (arith, l, inside)) inside (sym e ∙ ap (λ z. (nth_item items z).key) f ∙ is) in omega (arith, same, l)

    pub written-more : AreBondNumbersUpTo items keys (count + 1) second
    written-more = record {
      places = length-set first (2 * here + 1) (2 * next) ∙ length-set numbers (2 * here) (2 * here) ∙ long;
      leaving = λ q i l li e. elim (cases_eq q count) [
        | inl f ↦ let own : i ≡ here = item-one i here li lh (e ∙ ap (λ z. slice_index_or keys z 0) f ∙ sym is) in subst (λ z. number_at second (2 * z) ≡ 2 * z) (sym own) even-own
        | inr n ↦ let before : q < count = omega (arith, l, n) in even-other i (differs q i before li e) ∙ w.leaving q i before li e
      ];
      arriving = λ q i j l li lj e s. elim (cases_eq q count) [
        | inl f ↦
            let at : (nth_item items i).key ≡ slice_index_or keys count 0 = e ∙ ap (λ z. slice_index_or keys z 0) f in
            let own : i ≡ here = item-one i here li lh (at ∙ sym is) in
            let after : next ≡ j = item-one next j ln lj (follows ∙ ap (successor keys) (sym at) ∙ s) in
            ap (λ z. number_at second (2 * z + 1)) own ∙ odd-own ∙ ap (λ z. 2 * z) after
        | inr n ↦ let before : q < count = omega (arith, l, n) in odd-other i (differs q i before li e) ∙ w.arriving q i j before li lj e s
      ];
    }

  -- all of them
  pub all-written : (count : ℕ) (numbers : List ℕ) → length keys ≤ count → AreBondNumbersUpTo items keys count numbers → AreBondNumbers items keys numbers
  all-written count numbers e w = record {
    places = w.places;
    leaving = λ i l. let p = place-of keys (nth_item items i).key (key-in i l) in w.leaving p.0 i (omega (arith, p.1, e)) l (sym p.2);
    arriving = λ i j li lj s. let p = place-of keys (nth_item items i).key (key-in i li) in w.arriving p.0 i j (omega (arith, p.1, e)) li lj (sym p.2) s;
  }

-- such numbers are numbers of the faces of a bond, with a plane rotation system of its skeleton in which its choice is that
module _ (g : Multigraph) (nodes : List Node) (b : IsBlockTree g nodes) (k : ℕ) (is : IsNodeOfKind nodes k P) (s : List (List ℕ)) (system : IsRotationSystem (skeleton_graph nodes k) s) (plane : IsPlane (skeleton_graph nodes k) s)
    (keys : List ℕ) (all : IsPermutation (node_keys nodes k) keys) (round : skeleton_round g nodes b.tree k is.0 s (least_vertex nodes k) ≡ keys) (numbers : List ℕ) (w : AreBondNumbers (node_at nodes k).items keys numbers) where
  abbrev items : List Item
  items = (node_at nodes k).items

  rising : Rises (map item_key (node_at nodes k).items)
  rising = b.tree.in_order.keys_rise k is.0

  once : is_distinct keys ≡ true
  once = order-once items rising keys all

  darts : dart_count (skeleton_graph nodes k) ≡ 2 * length (node_at nodes k).items
  darts = ap (λ n. 2 * n) (graph-edges g nodes b k is.0)

  -- two items, the key of the one after that of the other, and a dart of their face
  record IsOn (d : ℕ) : Type 0 where
    pub first : ℕ
    pub second : ℕ
    pub first_in : first < length (node_at nodes k).items
    pub second_in : second < length (node_at nodes k).items
    pub next : successor keys (node_item nodes k first).key ≡ (node_item nodes k second).key
    pub on : (d ≡ twin (2 * first)) ⊎ (d ≡ 2 * second)
    pub number : number_at numbers d ≡ 2 * second

  twin-is : (i : ℕ) → twin (2 * i) ≡ 2 * i + 1
  twin-is i = twin-even (2 * i) (omega arith)

  on-even : (i : ℕ) → i < length (node_at nodes k).items → IsOn (2 * i)
  on-even i l =
      let m = predecessor-member keys (node_item nodes k i).key (key-in items rising keys all i l) in
      let p = item-of_key items rising keys all (predecessor keys (node_item nodes k i).key) m in
      record { first = p.0; second = i; first_in = p.1; second_in = l; next = ap (successor keys) p.2 ∙ successor-predecessor keys (node_item nodes k i).key once; on = inr refl; number = w.leaving i l }

  on-odd : (i : ℕ) → i < length (node_at nodes k).items → IsOn (2 * i + 1)
  on-odd i l =
      let m = successor-member keys (node_item nodes k i).key (key-in items rising keys all i l) in
      let p = item-of_key items rising keys all (successor keys (node_item nodes k i).key) m in
      record { first = i; second = p.0; first_in = l; second_in = p.1; next = sym p.2; on = inl (sym (twin-is i)); number = w.arriving i p.0 l p.1 (sym p.2) }

  on-face : (d : ℕ) → d < dart_count (skeleton_graph nodes k) → IsOn d
  on-face d l =
      let item : d / 2 < length (node_at nodes k).items = omega (arith, l, darts) in
      elim (even-or d) [ inl e ↦ subst IsOn (sym e) (on-even (d / 2) item) | inr e ↦ subst IsOn (sym e) (on-odd (d / 2) item) ]

  -- the darts of the face of a dart
  face-is : (d x : ℕ) (o : IsOn d) → on_one_face (skeleton_graph nodes k) s d x ≡ ((x == twin (2 * o.first)) || (x == 2 * o.second))
  face-is d x o = bond-face g nodes b k is s system plane o.first o.second o.first_in o.second_in (bond-next g nodes b k is s system plane keys round o.first o.second o.first_in o.second_in o.next) d x o.on

  -- a dart has the number of the second item where it is on the face
  same-number : (x y : ℕ) (o : IsOn x) (p : IsOn y) → (number_at numbers x == number_at numbers y) ≡ on_one_face (skeleton_graph nodes k) s x y
  same-number x y o p = same-tests (number_at numbers x == number_at numbers y) ((y == twin (2 * o.first)) || (y == 2 * o.second)) to from ∙ sym (face-is x y o)
    where
      to : (number_at numbers x == number_at numbers y) ≡ true → ((y == twin (2 * o.first)) || (y == 2 * o.second)) ≡ true
      to t =
          let e : 2 * o.second ≡ 2 * p.second = sym o.number ∙ eqb-true (number_at numbers x) (number_at numbers y) t ∙ p.number in
          let second : p.second ≡ o.second = omega (arith, e) in
          let first : p.first ≡ o.first = item-one items rising keys all p.first o.first p.first_in o.first_in
          (successor-injective keys (node_item nodes k p.first).key (node_item nodes k o.first).key once (p.next ∙ ap (λ z. (node_item nodes k z).key) second ∙ sym o.next)) in
          elim p.on [
            | inl q ↦ or_left (y == twin (2 * o.first)) (y == 2 * o.second) (eq-eqb y (twin (2 * o.first)) (q ∙ ap (λ z. twin (2 * z)) first))
            | inr q ↦ or_right (y == twin (2 * o.first)) (y == 2 * o.second) (eq-eqb y (2 * o.second) (q ∙ ap (λ z. 2 * z) second))
          ]

      from : ((y == twin (2 * o.first)) || (y == 2 * o.second)) ≡ true → (number_at numbers x == number_at numbers y) ≡ true
      from t = eq-eqb (number_at numbers x) (number_at numbers y) (o.number ∙ sym (elim (or_cases (y == twin (2 * o.first)) (y == 2 * o.second) t) [
        | inl q ↦ ap (number_at numbers) (eqb-true y (twin (2 * o.first)) q ∙ twin-is o.first) ∙ w.arriving o.first o.second o.first_in o.second_in o.next
        | inr q ↦ ap (number_at numbers) (eqb-true y (2 * o.second) q) ∙ w.leaving o.second o.second_in
      ]))

  pub bond-numbered : NumberFaces (skeleton_graph nodes k) s numbers
  bond-numbered = record {
    darts = w.places ∙ sym darts;
    within = λ d l. let o = on-face d l in omega (arith, o.number, o.second_in, darts);
    same = λ x y lx ly. same-number x y (on-face x lx) (on-face y ly);
  }

-- so those of a bond of a block in the plane, by its choice, number the faces in the family that is followed
pub bond-known : (g : Multigraph) (nodes : List Node) (b : IsBlockTree g nodes) (r : List (List ℕ)) (p : IsPlaneSystem g r) (k : ℕ) (is : IsNodeOfKind nodes k P) (family : List (List (List ℕ))) → AreSkeletonSystems nodes family → FollowsFamily nodes family r → (numbers : List ℕ)
    → AreBondNumbers (node_at nodes k).items (choice nodes r k) numbers → NumberFaces (skeleton_graph nodes k) (system_at family k) numbers
bond-known g nodes b r p k is family f h numbers w =
    let plane : (j : ℕ) → j < length nodes → IsPlane (skeleton_graph nodes j) (system_at family j) = follows-plane_back g nodes b family f r p.system h p.plane in
    bond-numbered g nodes b k is (system_at family k) (f.systems k is.0) (plane k is.0) (choice nodes r k) ((bond-choice g nodes b r k p.system (plane-contiguous g nodes r b p) is).0)
    (bond-round g nodes b r (record { family = family; systems = f; follows = h; plane = plane }) k is) numbers w
