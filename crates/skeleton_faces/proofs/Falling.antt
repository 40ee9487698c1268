-- Sums of weights over faces do not grow by gluing, where at first no face of a dart of a link has more than the link: the two
-- faces that become one have no more than the link each, and the link's darts go.
use Rattle.std.proofs.Common.{◌≡◌, ◌≢◌, ℕ, ◌+◌, ◌*◌, ◌<◌, ◌≤◌, ◌⊎◌, inl, inr, Bool, true, false, ◌||◌, List, [], ◌∷◌, sym, ap, ◌∙◌, subst, arith}
use Rattle.std.proofs.lemmas.Bool.{cases_Bool, both_ways, or_cases, false_from_ne_true}
use Rattle.permutations.proofs.Orbits.{orbit-equivalence}
use Rattle.dart_maps.specs.Map.{twin, face, IsMap, same_face, same_component}
use Rattle.dart_maps.specs.Order.{one_of_four}
use Rattle.dart_maps.proofs.Darts.{twin-below, twin-twin}
use Rattle.skeleton_planes.proofs.Seams.{IsOff, AreFacing, AreJoined}
use Rattle.skeleton_planes.proofs.LinkLists.{all_glued, is_used, AreLinksOf, IsStage}
use Rattle.skeleton_planes.proofs.Joined.{four-off}
use Rattle.skeleton_planes.proofs.Stages.{neither, facing, joined, all-stages, used-twin}
use Rattle.skeleton_faces.proofs.FaceSums.{face_sum, sum_of-two, face_sum-one, sum_of-more}
use Rattle.skeleton_faces.proofs.JoinedFaces.{on_either, facing-twins, joined-twins, off-twins, either-kept, other-before, side-before, two_t, two_w}

-- at most what is at most that
up-to : {a b c : ℕ} → a ≤ b → b ≤ c → a ≤ c
up-to p q = omega (arith, p, q)

-- one gluing
module _ (m : ℕ) (f g h k : ℕ → ℕ) (place : ℕ → ℕ) (side : ℕ → Bool) (d e : ℕ) (s : AreFacing m f g place side d e) (j : AreJoined m f g h d e) (b : IsMap m h k)
    (two_d : same_face m f d (twin d) ≡ false) (two_e : same_face m f e (twin e) ≡ false) (w : ℕ → ℕ) where
  -- the face that comes of the two, without d and e's twin
  pub either-sum : (x : ℕ) → IsOff d e x → on_either m f d e x ≡ true → face_sum m h w x + (w d + w (twin e)) ≤ face_sum m f w d + face_sum m f w (twin e)
  either-sum x o t = sum_of-two (2 * m) (same_face m h x) (same_face m f d) (same_face m f (twin e)) w d (twin e) (s.darts.0) (twin-below m e (s.darts.1))
      ((orbit-equivalence (2 * m) (face f)).reflexive d) ((orbit-equivalence (2 * m) (face f)).reflexive (twin e))
      (λ y l i. let p = either-kept m f g h k place side d e s j b two_d two_e x y i o t in
      (or_cases (same_face m f d y) (same_face m f (twin e) y) p.1, p.0.first, p.0.second_twin))

  -- it has no more than either of the two had, where neither has more than the two darts
  pub either-falls : face_sum m f w d ≤ w d + w (twin e) → face_sum m f w (twin e) ≤ w d + w (twin e) → (x : ℕ) → IsOff d e x → on_either m f d e x ≡ true → face_sum m h w x ≤ face_sum m f w x
  either-falls a c x o t = elim (or_cases (same_face m f d x) (same_face m f (twin e) x) t) [
    | inl i ↦ omega (arith, either-sum x o t, a, c, face_sum-one m f w d x i)
    | inr i ↦ omega (arith, either-sum x o t, a, c, face_sum-one m f w (twin e) x i)
  ]

-- one gluing, where no face of the four darts has more than the two edges
module _ (m : ℕ) (f g h k : ℕ → ℕ) (place : ℕ → ℕ) (side : ℕ → Bool) (d e : ℕ) (s : AreFacing m f g place side d e) (j : AreJoined m f g h d e) (b : IsMap m h k)
    (two_d : same_face m f d (twin d) ≡ false) (two_e : same_face m f e (twin e) ≡ false) (w : ℕ → ℕ) (twins : (x : ℕ) → w (twin x) ≡ w x)
    (first : face_sum m f w d ≤ w d + w e) (first_twin : face_sum m f w (twin d) ≤ w d + w e) (second : face_sum m f w e ≤ w d + w e) (second_twin : face_sum m f w (twin e) ≤ w d + w e) where
  -- no face of a dart off the edges has more than before
  pub step-falls : (x : ℕ) → IsOff d e x → face_sum m h w x ≤ face_sum m f w x
  step-falls x o = elim (cases_Bool (on_either m f d e x)) [
    | inl u ↦ either-falls m f g h k place side d e s j b two_d two_e w (omega (arith, first, twins e)) (omega (arith, second_twin, twins e)) x o u
    | inr u ↦ elim (cases_Bool (on_either m f (twin d) (twin e) x)) [
      | inl v ↦ either-falls m f g h k place side (twin d) (twin e) (facing-twins m f g place side d e s) (joined-twins m f g h d e j) b
          (two_t m f g h k place side d e s j b two_d two_e) (two_w m f g h k place side d e s j b two_d two_e) w
          (omega (arith, first_twin, twins d, back e)) (subst (λ (z : ℕ). face_sum m f w z ≤ w (twin d) + w z) (sym (twin-twin e)) (omega (arith, second, twins d))) x (off-twins d e x o) v
      | inr v ↦ sum_of-more (2 * m) (same_face m h x) (same_face m f x) w (λ y l t. other-before m f g h k place side d e s j b two_d two_e x u v y t)
    ]
  ]
    where
      back : (y : ℕ) → w (twin (twin y)) ≡ w y
      back y = ap w (twin-twin y)

-- at first the darts of a link lie on two faces each time, and none of these has more than the link
pub record IsLight (m : ℕ) (next w : ℕ → ℕ) (d e : ℕ) : Type 0 where
  pub two : (same_face m next d (twin d) ≡ false) × (same_face m next e (twin e) ≡ false)
  pub first : face_sum m next w d ≤ w d + w e
  pub first_twin : face_sum m next w (twin d) ≤ w d + w e
  pub second : face_sum m next w e ≤ w d + w e
  pub second_twin : face_sum m next w (twin e) ≤ w d + w e

-- and so for each link
abbrev pub AreLight : ℕ → (ℕ → ℕ) → (ℕ → ℕ) → List (ℕ × ℕ) → Type 0
AreLight m next w [] = Unit {0}
AreLight m next w (link ∷ links) = IsLight m next w link.0 link.1 × AreLight m next w links

-- the two darts of each link lie on two faces
abbrev pub AreOnTwo : ℕ → (ℕ → ℕ) → List (ℕ × ℕ) → Type 0
AreOnTwo m next [] = Unit {0}
AreOnTwo m next (link ∷ links) = (same_face m next link.0 (twin link.0) ≡ false) × (same_face m next link.1 (twin link.1) ≡ false) × AreOnTwo m next links

-- as was said
pub light-two : (m : ℕ) (next w : ℕ → ℕ) (links : List (ℕ × ℕ)) → AreLight m next w links → AreOnTwo m next links
light-two m next w [] a = tt
light-two m next w (link ∷ links) a = (a.0.two.0, a.0.two.1, light-two m next w links a.1)

-- a map glued along many links
module _ (m : ℕ) (next previous : ℕ → ℕ) (b : IsMap m next previous) (place : ℕ → ℕ) (places : (x : ℕ) → x < 2 * m → place (next x) ≡ place x) (ends begins : ℕ → ℕ → Bool) (part : ℕ → ℕ)
    (parts_next : (x : ℕ) → x < 2 * m → part (next x) ≡ part x) (parts_twin : (x : ℕ) → x < 2 * m → part (twin x) ≡ part x) (follows : (x : ℕ) → x < 2 * m → (c : ℕ) → ends x c ≡ true → begins (next x) c ≡ true) where
  -- the stage after some links
  pub stage : (links : List (ℕ × ℕ)) → AreLinksOf m next place ends begins part links → (before : ℕ → ℕ) × IsStage m next place ends begins part links (all_glued links next) before
  stage links a = all-stages m next previous b place places ends begins part parts_next parts_twin follows links a

  -- the first link of a list, glued last
  module _ (d e : ℕ) (links : List (ℕ × ℕ)) (a : AreLinksOf m next place ends begins part ((d, e) ∷ links)) where
    -- the map before
    abbrev f : ℕ → ℕ
    f = all_glued links next

    -- its inverse
    abbrev g : ℕ → ℕ
    g = (stage links a.4).0

    -- the twins are not used before
    fresh_t : is_used links (twin d) ≡ false
    fresh_t = used-twin links d ∙ a.1

    -- nor e's
    fresh_w : is_used links (twin e) ≡ false
    fresh_w = used-twin links e ∙ a.2

    -- the edges face each other
    pub last-facing : AreFacing m (all_glued links next) ((stage links a.4).0) place (same_component m (all_glued links next) d) d e
    last-facing = facing m next place ends begins part parts_twin links f g (stage links a.4).1 d e a.0 a.1 a.2 fresh_t fresh_w a.3

    -- and are joined
    pub last-joined : AreJoined m (all_glued links next) ((stage links a.4).0) (all_glued ((d, e) ∷ links) next) d e
    last-joined = joined m next place ends begins part parts_twin links f g (stage links a.4).1 d e a.0 a.1 a.2 fresh_t fresh_w a.3

    -- what is glued is a map
    pub last-map : IsMap m (all_glued ((d, e) ∷ links) next) ((stage ((d, e) ∷ links) a).0)
    last-map = (stage ((d, e) ∷ links) a).1.is_map

    -- a dart that is not used then
    pub last-off : (x : ℕ) → is_used ((d, e) ∷ links) x ≡ false → IsOff d e x × (is_used links x ≡ false)
    last-off x u = let p = neither (one_of_four d (twin d) e (twin e) x) (is_used links x) u in (four-off d e x p.0, p.1)

  -- the two darts of an edge stay on two faces
  pub stay-two : (links : List (ℕ × ℕ)) → AreLinksOf m next place ends begins part links → AreOnTwo m next links → (x : ℕ) → x < 2 * m → is_used links x ≡ false → same_face m next x (twin x) ≡ false
      → same_face m (all_glued links next) x (twin x) ≡ false
  stay-two [] a o x l u t = t
  stay-two ((d, e) ∷ links) a o x l u t = let p = last-off d e links a x u in
      false_from_ne_true (same_face m (all_glued ((d, e) ∷ links) next) x (twin x)) (λ i. both_ways (same_face m (all_glued links next) x (twin x))
      (stay-two links a.4 o.2 x l p.1 t)
      (side-before m (all_glued links next) ((stage links a.4).0) (all_glued ((d, e) ∷ links) next) ((stage ((d, e) ∷ links) a).0) place (same_component m (all_glued links next) d) d e
      (last-facing d e links a) (last-joined d e links a) (last-map d e links a)
      (stay-two links a.4 o.2 d (a.0.darts.0) a.1 o.0) (stay-two links a.4 o.2 e (a.0.darts.1) a.2 o.1) x (twin x) p.0
      (sym ((last-facing d e links a).sides_twin x l)) i))

  -- and no face of a dart that is not used has more than at first
  pub sums-fall : (w : ℕ → ℕ) → ((x : ℕ) → w (twin x) ≡ w x) → (links : List (ℕ × ℕ)) → AreLinksOf m next place ends begins part links → AreLight m next w links
      → (x : ℕ) → x < 2 * m → is_used links x ≡ false → face_sum m (all_glued links next) w x ≤ face_sum m next w x
  sums-fall w twins [] a o x l u = omega arith
  sums-fall w twins ((d, e) ∷ links) a o x l u =
      let p = last-off d e links a x u in
      let two = light-two m next w links o.1 in
      let before : (y : ℕ) → y < 2 * m → is_used links y ≡ false → face_sum m next w y ≤ w d + w e → face_sum m (all_glued links next) w y ≤ w d + w e
      = λ y k v c. up-to (sums-fall w twins links a.4 o.1 y k v) c in
      up-to (step-falls m (all_glued links next) ((stage links a.4).0) (all_glued ((d, e) ∷ links) next) ((stage ((d, e) ∷ links) a).0) place (same_component m (all_glued links next) d) d e
      (last-facing d e links a) (last-joined d e links a) (last-map d e links a)
      (stay-two links a.4 two d (a.0.darts.0) a.1 (o.0.two.0)) (stay-two links a.4 two e (a.0.darts.1) a.2 (o.0.two.1)) w twins
      (before d (a.0.darts.0) a.1 (o.0.first)) (before (twin d) (twin-below m d (a.0.darts.0)) (used-twin links d ∙ a.1) (o.0.first_twin))
      (before e (a.0.darts.1) a.2 (o.0.second)) (before (twin e) (twin-below m e (a.0.darts.1)) (used-twin links e ∙ a.2) (o.0.second_twin)) x p.0)
      (sums-fall w twins links a.4 o.1 x l p.1)
