-- A map glued along the links of a tree, link by link.
use Rattle.std.proofs.Common.{◌≡◌, ◌≢◌, ℕ, ◌*◌, ◌<◌, Bool, true, false, not, ◌||◌, ◌==◌, List, [], ◌∷◌, inl, inr, refl, sym, ap, ◌∙◌, subst, arith, eq-eqb, eqb-true}
use Rattle.std.proofs.lemmas.Bool.{cases_Bool, both_ways, or_cases, false_from_ne_true}
use Rattle.permutations.specs.Relation.{IsEquivalence, connected}
use Rattle.permutations.specs.Exchange.{restricted}
use Rattle.permutations.proofs.Relation.{same-tests, connected-equivalence, connected-more, connected-first}
use Rattle.permutations.proofs.Orbits.{orbit-test}
use Rattle.permutations.proofs.Renaming.{equivalence-through}
use Rattle.dart_maps.specs.Map.{twin, IsMap, same_vertex, same_component}
use Rattle.dart_maps.specs.Changes.{glued}
use Rattle.dart_maps.specs.Order.{one_of_four}
use Rattle.dart_maps.proofs.Darts.{twin-below, twin-twin}
use Rattle.dart_maps.proofs.Components.{component-equivalence, component-next, component-twin, component-least}
use Rattle.dart_maps.proofs.FourDarts.{four-members, four-cases}
use Rattle.dart_maps.proofs.Glue.{glue-plane, glued-map}
use Rattle.dart_maps.proofs.Steps.{back_after}
use Rattle.skeleton_planes.proofs.Seams.{IsOff, AreFacing, AreJoined}
use Rattle.skeleton_planes.proofs.LinkLists.{all_glued, is_used, part_links, IsLinkOf, AreLinksOf, IsStage}
use Rattle.skeleton_planes.proofs.Facing.{sides-differ, before-side, twin_before-side}
use Rattle.skeleton_planes.proofs.Unglued.{joined-places, unglue-plane}
use Rattle.skeleton_planes.proofs.Bridges.{joined-no_bridge}
use Rattle.skeleton_planes.proofs.Joined.{glued-joined, joined-split, four-off}

-- neither of two tests
pub neither : (x y : Bool) → (x || y) ≡ false → (x ≡ false) × (y ≡ false)
neither x y h = (grind (arith, cases_Bool x, cases_Bool y), grind (arith, cases_Bool x, cases_Bool y))

-- a test that an equivalence makes is kept by a step within its classes
pub class-kept : (r : ℕ → ℕ → Bool) → IsEquivalence r → (d x y : ℕ) → r x y ≡ true → r d y ≡ r d x
class-kept r e d x y h = same-tests (r d y) (r d x) (λ t. e.transitive d y x t (e.symmetric x y h)) (λ t. e.transitive d x y t h)

-- a stage, and a further link
module _ (m : ℕ) (next : ℕ → ℕ) (place : ℕ → ℕ) (ends begins : ℕ → ℕ → Bool) (part : ℕ → ℕ) (parts_twin : (x : ℕ) → x < 2 * m → part (twin x) ≡ part x) (links : List (ℕ × ℕ)) (f g : ℕ → ℕ) (s : IsStage m next place ends begins part links f g)
    (d e : ℕ) (link : IsLinkOf m next place ends begins d e) (fresh_d : is_used links d ≡ false) (fresh_e : is_used links e ≡ false) (fresh_t : is_used links (twin d) ≡ false) (fresh_w : is_used links (twin e) ≡ false)
    (apart : connected (part_links part links) (part d) (part e) ≡ false) where
  -- the component of d
  abbrev side : ℕ → Bool
  side = same_component m f d

  -- the twins are darts
  lt : twin d < 2 * m
  lt = twin-below m d (link.darts.0)

  -- e's twin
  lw : twin e < 2 * m
  lw = twin-below m e (link.darts.1)

  -- darts of one component lie in parts that the links join
  parts-joined : (x y : ℕ) → same_component m f x y ≡ true → connected (part_links part links) (part x) (part y) ≡ true
  parts-joined = component-least m f (λ x y. connected (part_links part links) (part x) (part y)) (equivalence-through (connected (part_links part links)) part (connected-equivalence (part_links part links)))
      (λ x l. s.within x l) (λ x l. subst (λ (z : ℕ). connected (part_links part links) (part x) z ≡ true) (sym (parts_twin x l)) ((connected-equivalence (part_links part links)).reflexive (part x)))

  -- so d and e are in different ones
  components-apart : same_component m f d e ≡ false
  components-apart = false_from_ne_true (same_component m f d e) (λ t. both_ways (connected (part_links part links) (part d) (part e)) apart (parts-joined d e t))

  -- the edges of d and e face each other
  pub facing : AreFacing m f g place (same_component m f d) d e
  facing = record {
    is_map = s.is_map;
    sides_next = λ x l. class-kept (same_component m f) (component-equivalence m f) d x (f x) (component-next m f x l);
    sides_twin = λ x l. class-kept (same_component m f) (component-equivalence m f) d x (twin x) (component-twin m f x l);
    places_next = s.places;
    darts = link.darts;
    inside = (component-equivalence m f).reflexive d;
    outside = components-apart;
    places = link.places;
    twin_places = link.twin_places;
    two_places = link.two_places;
    company = (s.company d (link.darts.0) (link.company.0) fresh_d, s.company (twin d) lt (link.company.1) fresh_t);
    other_company = (s.company e (link.darts.1) (link.other_company.0) fresh_e, s.company (twin e) lw (link.other_company.1) fresh_w);
  }

  -- and are joined
  pub joined : AreJoined m f g (glued d e f) d e
  joined = glued-joined m f g place side d e facing

  -- darts of one vertex leave one place
  one-place : (x y : ℕ) → same_vertex m f x y ≡ true → place x ≡ place y
  one-place x y t = sym (eqb-true (place y) (place x) (sym (orbit-test (2 * m) f (λ z. place z == place x) (λ z l. ap (λ (u : ℕ). u == place x) (s.places z l)) x y t) ∙ eq-eqb (place x) (place x) refl))

  -- so each of the two edges joins two vertices
  first-joins : same_vertex m f d (twin d) ≡ false
  first-joins = false_from_ne_true (same_vertex m f d (twin d)) (λ t. link.two_places (one-place d (twin d) t))

  -- e's edge
  second-joins : same_vertex m f e (twin e) ≡ false
  second-joins = false_from_ne_true (same_vertex m f e (twin e)) (λ t. link.two_places (link.places ∙ one-place e (twin e) t ∙ sym link.twin_places))

  -- the inverse of the glued map
  abbrev glued_before : ℕ → ℕ
  glued_before = restricted (2 * m) (λ x. not (one_of_four d (twin d) e (twin e) x)) (back_after (g (twin d)) (g (twin e)) (back_after d e g))

  -- it is a map
  next-map : IsMap m (glued d e f) glued_before
  next-map = glued-map m f g s.is_map d e (link.darts.0) (link.darts.1) components-apart first-joins second-joins (facing.company.0) (facing.company.1) (facing.other_company.0) (facing.other_company.1)

  -- the parts joined, with the new link too
  abbrev more : ℕ → ℕ → Bool
  more x y = connected ((part d, part e) ∷ part_links part links) (part x) (part y)

  -- it is an equivalence
  more-equivalence : IsEquivalence (λ x y. connected ((part d, part e) ∷ part_links part links) (part x) (part y))
  more-equivalence = equivalence-through (connected ((part d, part e) ∷ part_links part links)) part (connected-equivalence ((part d, part e) ∷ part_links part links))

  -- which contains the old one
  more-old : (x y : ℕ) → connected (part_links part links) (part x) (part y) ≡ true → more x y ≡ true
  more-old x y t = connected-more (part d, part e) (part_links part links) (part x) (part y) t

  -- and d with e
  more-new : more d e ≡ true
  more-new = connected-first (part d, part e) (part_links part links)

  -- and each dart with its twin
  more-twin : (x : ℕ) → x < 2 * m → more x (twin x) ≡ true
  more-twin x l = subst (λ (z : ℕ). connected ((part d, part e) ∷ part_links part links) (part x) z ≡ true) (sym (parts_twin x l)) ((connected-equivalence ((part d, part e) ∷ part_links part links)).reflexive (part x))

  -- the darts before and behind
  behind : (x : ℕ) → x < 2 * m → more x (f x) ≡ true
  behind x l = more-old x (f x) (s.within x l)

  -- before x stands the dart before it
  ahead : (x : ℕ) → x < 2 * m → more (g x) x ≡ true
  ahead x l = subst (λ (z : ℕ). more (g x) z ≡ true) (s.is_map.forth_back x l) (behind (g x) (s.is_map.back x l))

  -- what is connected now lies in parts that the links join
  next-within : (x : ℕ) → x < 2 * m → more x (glued d e f x) ≡ true
  next-within = joined-split m f g (glued d e f) place side d e facing joined (λ x y. more x y ≡ true)
      (λ x t. r.reflexive x)
      (over d e (link.darts.0) (link.darts.1) more-new)
      (over e d (link.darts.1) (link.darts.0) (r.symmetric d e more-new))
      (over (twin d) (twin e) lt lw twins)
      (over (twin e) (twin d) lw lt (r.symmetric (twin d) (twin e) twins))
      (λ x l o. behind x l)
    where
      r : IsEquivalence (λ x y. connected ((part d, part e) ∷ part_links part links) (part x) (part y))
      r = more-equivalence

      twins : more (twin d) (twin e) ≡ true
      twins = r.transitive (twin d) d (twin e) (r.symmetric d (twin d) (more-twin d (link.darts.0))) (r.transitive d e (twin e) more-new (more-twin e (link.darts.1)))

      over : (x y : ℕ) → x < 2 * m → y < 2 * m → more x y ≡ true → more (g x) (f y) ≡ true
      over x y l k t = r.transitive (g x) x (f y) (ahead x l) (r.transitive x y (f y) t (behind y k))

  -- what ends before d begins behind e, and so on
  next-follows : (x : ℕ) → x < 2 * m → is_used ((d, e) ∷ links) x ≡ false → (c : ℕ) → ends x c ≡ true → begins (glued d e f x) c ≡ true
  next-follows = joined-split m f g (glued d e f) place side d e facing joined (λ x y. is_used ((d, e) ∷ links) x ≡ false → (c : ℕ) → ends x c ≡ true → begins y c ≡ true)
      (λ x t u. absurd (both_ways (one_of_four d (twin d) e (twin e) x) (neither (one_of_four d (twin d) e (twin e) x) (is_used links x) u).0 t))
      (over d e (link.darts.0) (link.darts.1) fresh_e link.first_meets)
      (over e d (link.darts.1) (link.darts.0) fresh_d link.second_meets)
      (over (twin d) (twin e) lt lw fresh_w link.first_twin_meets)
      (over (twin e) (twin d) lw lt fresh_t link.second_twin_meets)
      (λ x l o u. s.follows x l (neither (one_of_four d (twin d) e (twin e) x) (is_used links x) u).1)
    where
      over : (x y : ℕ) → x < 2 * m → y < 2 * m → is_used links y ≡ false → ((c : ℕ) → begins x c ≡ true → ends y c ≡ true) → is_used ((d, e) ∷ links) (g x) ≡ false → (c : ℕ) → ends (g x) c ≡ true → begins (f y) c ≡ true
      over x y l k fresh meets u c t = s.follows y k fresh c (meets c (subst (λ (z : ℕ). begins z c ≡ true) (s.is_map.forth_back x l)
          (s.follows (g x) (s.is_map.back x l) (neither (one_of_four d (twin d) e (twin e) (g x)) (is_used links (g x)) u).1 c t)))

  -- what had company has it still
  next-company : (x : ℕ) → x < 2 * m → next x ≢ x → is_used ((d, e) ∷ links) x ≡ false → glued d e f x ≢ x
  next-company = joined-split m f g (glued d e f) place side d e facing joined (λ x y. next x ≢ x → is_used ((d, e) ∷ links) x ≡ false → y ≢ x)
      (λ x t n u. absurd (both_ways (one_of_four d (twin d) e (twin e) x) (neither (one_of_four d (twin d) e (twin e) x) (is_used links x) u).0 t))
      (λ n u i. sides-differ side (g d) (f e) (before-side m f g place side d e facing) (facing.sides_next e (link.darts.1) ∙ facing.outside) (sym i))
      (λ n u i. sides-differ side (f d) (g e) (facing.sides_next d (link.darts.0) ∙ facing.inside) before_e i)
      (λ n u i. sides-differ side (g (twin d)) (f (twin e)) (twin_before-side m f g place side d e facing) (facing.sides_next (twin e) lw ∙ twin_e) (sym i))
      (λ n u i. sides-differ side (f (twin d)) (g (twin e)) (facing.sides_next (twin d) lt ∙ twin_d) before_w i)
      (λ x l o n u. s.company x l n (neither (one_of_four d (twin d) e (twin e) x) (is_used links x) u).1)
    where
      twin_d : side (twin d) ≡ true
      twin_d = facing.sides_twin d (link.darts.0) ∙ facing.inside

      twin_e : side (twin e) ≡ false
      twin_e = facing.sides_twin e (link.darts.1) ∙ facing.outside

      before_e : side (g e) ≡ false
      before_e = sym (facing.sides_next (g e) (s.is_map.back e (link.darts.1))) ∙ ap side (s.is_map.forth_back e (link.darts.1)) ∙ facing.outside

      before_w : side (g (twin e)) ≡ false
      before_w = sym (facing.sides_next (g (twin e)) (s.is_map.back (twin e) lw)) ∙ ap side (s.is_map.forth_back (twin e) lw) ∙ twin_e

  -- what was alone is alone still
  next-still : (x : ℕ) → x < 2 * m → next x ≡ x → glued d e f x ≡ x
  next-still = joined-split m f g (glued d e f) place side d e facing joined (λ x y. next x ≡ x → y ≡ x)
      (λ x t n. refl)
      (never d e (link.darts.0) (facing.company.0))
      (never e d (link.darts.1) (facing.other_company.0))
      (never (twin d) (twin e) lt (facing.company.1))
      (never (twin e) (twin d) lw (facing.other_company.1))
      (λ x l o n. s.still x l n)
    where
      never : (x y : ℕ) → x < 2 * m → (f x ≡ x → ⊥) → next (g x) ≡ g x → f y ≡ g x
      never x y l c n = let i : x ≡ g x = sym (s.is_map.forth_back x l) ∙ s.still (g x) (s.is_map.back x l) n in absurd (c (ap f i ∙ s.is_map.forth_back x l))

  -- used darts are alone
  next-alone : (x : ℕ) → x < 2 * m → is_used ((d, e) ∷ links) x ≡ true → glued d e f x ≡ x
  next-alone x l u = elim (cases_Bool (one_of_four d (twin d) e (twin e) x)) [
    | inl t ↦ elim (four-cases d (twin d) e (twin e) x t) [
      | inl i ↦ ap (glued d e f) i ∙ joined.alone.0 ∙ sym i
      | inr r ↦ elim r [
        | inl i ↦ ap (glued d e f) i ∙ joined.alone.1 ∙ sym i
        | inr q ↦ elim q [
          | inl i ↦ ap (glued d e f) i ∙ joined.alone_too.0 ∙ sym i
          | inr i ↦ ap (glued d e f) i ∙ joined.alone_too.1 ∙ sym i
        ]
      ]
    ]
    | inr t ↦ let a : f x ≡ x = s.alone x l (elim (or_cases (one_of_four d (twin d) e (twin e) x) (is_used links x) u) [ inl i ↦ absurd (both_ways (one_of_four d (twin d) e (twin e) x) t i) | inr i ↦ i ]) in
        joined.others x l (four-off d e x t) (subst (IsOff d e) (sym a) (four-off d e x t)) ∙ a
  ]

  -- the next stage
  next-stage : IsStage m next place ends begins part ((d, e) ∷ links) (glued d e f) glued_before
  next-stage = record {
    places = joined-places m f g (glued d e f) place side d e facing joined;
    within = next-within;
    company = next-company;
    alone = next-alone;
    still = next-still;
    no_bridges = λ x l n u. let o = neither (one_of_four d (twin d) e (twin e) x) (is_used links x) u in
        joined-no_bridge m f g (glued d e f) place side d e facing joined (s.no_bridges d (link.darts.0) (link.no_bridges.0) fresh_d) (s.no_bridges e (link.darts.1) (link.no_bridges.1) fresh_e) x l (four-off d e x o.0) (s.no_bridges x l n o.1);
    follows = next-follows;
    is_map = next-map;
    plane = λ p. glue-plane m f g s.is_map d e (link.darts.0) (link.darts.1) components-apart first-joins second-joins (facing.company.0) (facing.company.1) (facing.other_company.0) (facing.other_company.1) (s.plane p);
    plane_back = λ p. s.plane_back (unglue-plane m f g (glued d e f) glued_before place side d e facing joined next-map (s.no_bridges d (link.darts.0) (link.no_bridges.0) fresh_d) (s.no_bridges e (link.darts.1) (link.no_bridges.1) fresh_e) p);
  }

-- the twin of one of four darts is one of them
four-twin : (d e x : ℕ) → one_of_four d (twin d) e (twin e) x ≡ true → one_of_four d (twin d) e (twin e) (twin x) ≡ true
four-twin d e x t = let w = four-members d (twin d) e (twin e) in elim (four-cases d (twin d) e (twin e) x t) [
  | inl i ↦ subst (λ (z : ℕ). one_of_four d (twin d) e (twin e) z ≡ true) (sym (ap twin i)) w.1
  | inr r ↦ elim r [
    | inl i ↦ subst (λ (z : ℕ). one_of_four d (twin d) e (twin e) z ≡ true) (sym (ap twin i ∙ twin-twin d)) w.0
    | inr q ↦ elim q [
      | inl i ↦ subst (λ (z : ℕ). one_of_four d (twin d) e (twin e) z ≡ true) (sym (ap twin i)) w.3
      | inr i ↦ subst (λ (z : ℕ). one_of_four d (twin d) e (twin e) z ≡ true) (sym (ap twin i ∙ twin-twin e)) w.2
    ]
  ]
]

-- an edge is used whole
pub used-twin : (links : List (ℕ × ℕ)) (x : ℕ) → is_used links (twin x) ≡ is_used links x
used-twin [] x = refl
used-twin (link ∷ links) x = rw (
  used-twin links x,
  same-tests (one_of_four link.0 (twin link.0) link.1 (twin link.1) (twin x)) (one_of_four link.0 (twin link.0) link.1 (twin link.1) x)
      (λ t. subst (λ (z : ℕ). one_of_four link.0 (twin link.0) link.1 (twin link.1) z ≡ true) (twin-twin x) (four-twin link.0 link.1 (twin x) t)) (four-twin link.0 link.1 x),
) refl

-- a map, and links between its parts
module _ (m : ℕ) (next previous : ℕ → ℕ) (b : IsMap m next previous) (place : ℕ → ℕ) (places : (x : ℕ) → x < 2 * m → place (next x) ≡ place x) (ends begins : ℕ → ℕ → Bool) (part : ℕ → ℕ)
    (parts_next : (x : ℕ) → x < 2 * m → part (next x) ≡ part x) (parts_twin : (x : ℕ) → x < 2 * m → part (twin x) ≡ part x) (follows : (x : ℕ) → x < 2 * m → (c : ℕ) → ends x c ≡ true → begins (next x) c ≡ true) where
  -- the first stage
  first-stage : IsStage m next place ends begins part [] next previous
  first-stage = record {
    places = places;
    within = λ x l. eq-eqb (part x) (part (next x)) (sym (parts_next x l));
    company = λ x l n u. n;
    alone = λ x l u. absurd (both_ways false refl u);
    still = λ x l n. n;
    no_bridges = λ x l n u. n;
    follows = λ x l u. follows x l;
    is_map = b;
    plane = λ p. p;
    plane_back = λ p. p;
  }

  -- all links glued
  pub all-stages : (links : List (ℕ × ℕ)) → AreLinksOf m next place ends begins part links → (before : ℕ → ℕ) × IsStage m next place ends begins part links (all_glued links next) before
  all-stages [] a = (previous, first-stage)
  all-stages (link ∷ links) a = let s = all-stages links a.4 in (
    glued_before m next place ends begins part parts_twin links (all_glued links next) s.0 s.1 link.0 link.1 a.0 a.1 a.2 (used-twin links link.0 ∙ a.1) (used-twin links link.1 ∙ a.2) a.3,
    next-stage m next place ends begins part parts_twin links (all_glued links next) s.0 s.1 link.0 link.1 a.0 a.1 a.2 (used-twin links link.0 ∙ a.1) (used-twin links link.1 ∙ a.2) a.3,
  )
