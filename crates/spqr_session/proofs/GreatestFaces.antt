-- The greatest length of a face: there is one among all plane rotation systems of a block, and moves lead to it.
use Rattle.std.proofs.Common.{◌≡◌, ℕ, zero, suc, ◌<◌, ◌≤◌, false, List, [], ◌∷◌, ◌++◌, length, Contains, inl, inr, refl, sym, ap₂, subst, arith}
use Rattle.std.proofs.lemmas.Bool.{cases_lt, true≢false}
use Rattle.multigraph.specs.Graph.{Multigraph}
use Rattle.faces.specs.Euler.{tail, face_step, IsPlaneSystem}
use Rattle.faces.specs.Trace.{face_lists}
use Rattle.faces.specs.FaceLists.{IsListedOnce}
use Rattle.faces.proofs.DartLemmas.{tail-end, face_step-permutes}
use Rattle.faces.proofs.ListedOnce.{listed-once}
use Rattle.pair_split.specs.Tutte.{Node}
use Rattle.pair_split.proofs.Elements.{contains-here, contains-later, contains-cases}
use Rattle.skeletons.specs.Items.{IsBlockTree}
use Rattle.skeletons.specs.Moves.{Move, moves_below, moves_between}
use Rattle.skeleton_choices.proofs.Listed.{list-exists}
use Rattle.embed_convert.proofs.Between.{no-move}
use Rattle.long_face.specs.Longest.{HasFace, NoneLonger, IsLongest}

-- an element has a number, and none that is greater
pub record Greatest {A : Type 0} (Has : A → ℕ → Type 0) (x : A) : Type 0 where
  pub number : ℕ
  pub has : Has x number
  pub none_more : (m : ℕ) → Has x m → m ≤ number

-- an element of a list has a number, and no element has one that is greater
pub record GreatestIn {A : Type 0} (Has : A → ℕ → Type 0) (l : List A) : Type 0 where
  pub element : A
  pub within : Contains l element
  pub number : ℕ
  pub has : Has element number
  pub none_more : (x : A) → Contains l x → (m : ℕ) → Has x m → m ≤ number

-- there is such an element, where each has a greatest number
pub greatest-in : {A : Type 0} (Has : A → ℕ → Type 0) (x : A) (l : List A) → ((y : A) → Contains (x ∷ l) y → Greatest Has y) → GreatestIn Has (x ∷ l)
greatest-in {A = A} Has x [] each =
    let here : Greatest Has x = each x (contains-here x []) in
    record {
      element = x;
      within = contains-here x [];
      number = here.number;
      has = here.has;
      none_more = λ y c m h. elim (contains-cases y x [] c) [
        | inl e ↦ here.none_more m (subst (λ (z : A). Has z m) (sym e) h)
        | inr d ↦ absurd (omega (arith, d.1))
      ];
    }
greatest-in {A = A} Has x (y ∷ l) each =
    let here : Greatest Has x = each x (contains-here x (y ∷ l)) in
    let later : GreatestIn Has (y ∷ l) = greatest-in Has y l (λ z c. each z (contains-later z x (y ∷ l) c)) in
    elim (cases_lt here.number later.number) [
      | inl less ↦ record {
        element = later.element;
        within = contains-later later.element x (y ∷ l) later.within;
        number = later.number;
        has = later.has;
        none_more = λ z c m h. elim (contains-cases z x (y ∷ l) c) [
          | inl e ↦ let b = here.none_more m (subst (λ (w : A). Has w m) (sym e) h) in omega (arith, b, less)
          | inr d ↦ later.none_more z d m h
        ];
      }
      | inr more ↦ record {
        element = x;
        within = contains-here x (y ∷ l);
        number = here.number;
        has = here.has;
        none_more = λ z c m h. elim (contains-cases z x (y ∷ l) c) [
          | inl e ↦ here.none_more m (subst (λ (w : A). Has w m) (sym e) h)
          | inr d ↦ let b = later.none_more z d m h in omega (arith, b, more)
        ];
      }
    ]

-- the same for a list that has an element
greatest-of : {A : Type 0} (Has : A → ℕ → Type 0) (l : List A) → 0 < length l → ((y : A) → Contains l y → Greatest Has y) → GreatestIn Has l
greatest-of Has [] some each = absurd (omega arith)
greatest-of Has (x ∷ l) some each = greatest-in Has x l each

-- no node is moved between a rotation system and itself
none-below : (nodes : List Node) (r : List (List ℕ)) (n : ℕ) → moves_below nodes r r n ≡ []
none-below nodes r zero = refl
none-below nodes r (suc n) = ap₂ (λ (a b : List Move). a ++ b) (none-below nodes r n) (no-move nodes r r n refl)

module _ (g : Multigraph) (nodes : List Node) (tree : IsBlockTree g nodes) where
  -- a rotation system of a block has a face, since the block has an edge
  some-face : (q : List (List ℕ)) → IsPlaneSystem g q → 0 < length (face_lists g q)
  some-face q plane =
      let once : IsListedOnce (face_lists g q) (tail g 0, 0) = listed-once g (face_step g q) tree.graph (_, face_step-permutes g q tree.graph plane.system) (tail g 0) 0 tree.block.has_edge (tail-end g 0) in
      omega (arith, once.list_in)

  -- one of its faces has the greatest length
  face-greatest : (q : List (List ℕ)) → IsPlaneSystem g q → Greatest (HasFace g) q
  face-greatest q plane =
      let best : GreatestIn (λ (face : List (ℕ × ℕ)) (n : ℕ). length face ≡ n) (face_lists g q) = greatest-of (λ (face : List (ℕ × ℕ)) (n : ℕ). length face ≡ n) (face_lists g q) (some-face q plane) (λ face c. record { number = length face; has = refl; none_more = λ m e. omega (arith, e) }) in
      record {
        number = best.number;
        has = (best.element, best.within, best.has);
        none_more = λ m h. best.none_more h.0 h.1 m h.2;
      }

  -- and one of all plane ones
  pub plane-greatest : (r : List (List ℕ)) → IsPlaneSystem g r → (q : List (List ℕ)) × IsPlaneSystem g q × (len : ℕ) × HasFace g q len × NoneLonger g len
  plane-greatest r plane =
      let l = list-exists g nodes (λ k. false) r tree plane in
      let kept : (q : List (List ℕ)) → IsPlaneSystem g q → Contains l.0 q = λ q p. (l.1.members q).1 (record { plane = p; keeps = λ k m on. absurd (true≢false (sym on)) }) in
      let best : GreatestIn (HasFace g) l.0 = greatest-of (HasFace g) l.0 (omega (arith, (kept r plane).1)) (λ q c. face-greatest q ((l.1.members q).0 c).plane) in
      (best.element, ((l.1.members best.element).0 best.within).plane, best.number, best.has, λ q p other h. best.none_more q (kept q p) other h)

  -- moves from r to one that has it; none where r has it
  pub longest-exists : (r : List (List ℕ)) → IsPlaneSystem g r → (len : ℕ) × (moves : List Move) × IsLongest g nodes r len moves
  longest-exists r plane =
      let best = plane-greatest r plane in
      let here : Greatest (HasFace g) r = face-greatest r plane in
      elim (cases_lt here.number best.2) [
        | inl less ↦ (
          best.2,
          moves_between nodes r best.0,
          record {
            system = best.0;
            plane = best.1;
            reached = best.3;
            none_longer = best.4;
            moves_are = refl;
            stays = λ h. let b = here.none_more best.2 h in absurd (omega (arith, b, less));
          },
        )
        | inr more ↦ (
          here.number,
          moves_between nodes r r,
          record {
            system = r;
            plane = plane;
            reached = here.has;
            none_longer = λ q p other h. let b = best.4 q p other h in omega (arith, b, more);
            moves_are = refl;
            stays = λ h. none-below nodes r (length nodes);
          },
        )
      ]
