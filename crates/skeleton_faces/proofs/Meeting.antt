-- A face put together from faces of the parts: some darts are chosen, whole faces, one in each part at most, and of the two
-- edges of each link the one has a dart chosen where the other has its twin chosen. Then chosen darts of parts that links with
-- chosen darts join lie on one face after the gluing.
use Rattle.std.proofs.Common.{◌≡◌, ◌≢◌, ℕ, ◌+◌, ◌*◌, ◌<◌, ◌⊎◌, inl, inr, Bool, true, false, not, ◌&&◌, ◌||◌, ◌==◌, cond, List, [], ◌∷◌, refl, sym, ap, ◌∙◌, subst, arith, eqb-true}
use Rattle.std.proofs.lemmas.Bool.{cases_Bool, both_ways, ne_eqb, or_cases, or_left, or_right}
use Rattle.permutations.specs.Relation.{connected}
use Rattle.permutations.proofs.Relation.{join-cases, connected-reflexive, connected-equivalence}
use Rattle.dart_maps.specs.Map.{twin, IsMap, same_face, same_component}
use Rattle.dart_maps.proofs.Darts.{twin-below, twin-twin, twin-other}
use Rattle.skeleton_planes.proofs.Seams.{IsOff}
use Rattle.skeleton_planes.proofs.LinkLists.{all_glued, is_used, part_links, AreLinksOf}
use Rattle.skeleton_planes.proofs.Stages.{used-twin}
use Rattle.skeleton_faces.proofs.FaceSums.{sum_of, sum_of-ext, sum_of-take}
use Rattle.skeleton_faces.proofs.JoinedFaces.{on_either, either-together, lower-together, together-stay}
use Rattle.skeleton_faces.proofs.Falling.{AreOnTwo, stage, last-facing, last-joined, last-map, last-off, stay-two}

-- of each link a dart of the one edge is chosen where the twin of that of the other is
abbrev pub AreMatched : (ℕ → Bool) → List (ℕ × ℕ) → Type 0
AreMatched on [] = Unit {0}
AreMatched on (link ∷ links) = (on link.0 ≡ on (twin link.1)) × (on (twin link.0) ≡ on link.1) × AreMatched on links

-- the links with a chosen dart
abbrev pub on_links : (ℕ → Bool) → List (ℕ × ℕ) → List (ℕ × ℕ)
on_links on [] = []
on_links on (link ∷ links) = cond (on link.0 || on (twin link.0)) (link ∷ on_links on links) (on_links on links)

-- the weight of a link's edges, once for each of its darts that is chosen
abbrev pub link_weight : (ℕ → Bool) → (ℕ → ℕ) → ℕ × ℕ → ℕ
link_weight on w link = cond (on link.0) (w link.0 + w link.1) 0 + cond (on (twin link.0)) (w link.0 + w link.1) 0

-- and of all links
abbrev pub link_weights : (ℕ → Bool) → (ℕ → ℕ) → List (ℕ × ℕ) → ℕ
link_weights on w [] = 0
link_weights on w (link ∷ links) = link_weights on w links + link_weight on w link

-- a map glued along many links
module _ (m : ℕ) (next previous : ℕ → ℕ) (b : IsMap m next previous) (place : ℕ → ℕ) (places : (x : ℕ) → x < 2 * m → place (next x) ≡ place x) (ends begins : ℕ → ℕ → Bool) (part : ℕ → ℕ)
    (parts_next : (x : ℕ) → x < 2 * m → part (next x) ≡ part x) (parts_twin : (x : ℕ) → x < 2 * m → part (twin x) ≡ part x) (follows : (x : ℕ) → x < 2 * m → (c : ℕ) → ends x c ≡ true → begins (next x) c ≡ true)
    (on : ℕ → Bool) (one : (x y : ℕ) → x < 2 * m → y < 2 * m → on x ≡ true → on y ≡ true → part x ≡ part y → same_face m next x y ≡ true) where
  -- one link more
  meet-step : (d e : ℕ) (links : List (ℕ × ℕ)) (a : AreLinksOf m next place ends begins part ((d, e) ∷ links)) → AreOnTwo m next ((d, e) ∷ links) → AreMatched on ((d, e) ∷ links)
      → ((x y : ℕ) → x < 2 * m → y < 2 * m → on x ≡ true → on y ≡ true → is_used links x ≡ false → is_used links y ≡ false → connected (part_links part (on_links on links)) (part x) (part y) ≡ true → same_face m (all_glued links next) x y ≡ true)
      → (x y : ℕ) → x < 2 * m → y < 2 * m → on x ≡ true → on y ≡ true → is_used ((d, e) ∷ links) x ≡ false → is_used ((d, e) ∷ links) y ≡ false
      → connected (part_links part (on_links on ((d, e) ∷ links))) (part x) (part y) ≡ true → same_face m (all_glued ((d, e) ∷ links) next) x y ≡ true
  meet-step d e links a o c below x y lx ly ox oy ux uy t = elim (cases_Bool (on d || on (twin d))) [
    | inr n ↦ old x y lx ly ox oy ux uy (subst (λ (z : List (ℕ × ℕ)). connected (part_links part z) (part x) (part y) ≡ true) (ap (λ (z : Bool). cond z ((d, e) ∷ on_links on links) (on_links on links)) n) t)
    | inl n ↦ elim (join-cases (connected (part_links part (on_links on links))) (part d) (part e) (part x) (part y)
        (subst (λ (z : List (ℕ × ℕ)). connected (part_links part z) (part x) (part y) ≡ true) (ap (λ (z : Bool). cond z ((d, e) ∷ on_links on links) (on_links on links)) n) t)) [
          | inl i ↦ old x y lx ly ox oy ux uy i
          | inr q ↦ elim (or_cases (on d) (on (twin d)) n) [
            | inl k ↦ elim q [
              | inl i ↦ upper (on_d x lx ox ux k (symm (part x) (part d) i.0)) (on_w y ly oy uy k i.1)
              | inr i ↦ upper (on_w x lx ox ux k (symm (part x) (part e) i.0)) (on_d y ly oy uy k i.1)
            ]
            | inr k ↦ elim q [
              | inl i ↦ lower (on_t x lx ox ux k (symm (part x) (part d) i.0)) (on_e y ly oy uy k i.1)
              | inr i ↦ lower (on_e x lx ox ux k (symm (part x) (part e) i.0)) (on_t y ly oy uy k i.1)
            ]
          ]
        ]
  ]
    where
      f : ℕ → ℕ
      f = all_glued links next

      old_links : List (ℕ × ℕ)
      old_links = part_links part (on_links on links)

      symm : (u v : ℕ) → connected (part_links part (on_links on links)) u v ≡ true → connected (part_links part (on_links on links)) v u ≡ true
      symm u v = (connected-equivalence (part_links part (on_links on links))).symmetric u v

      two_d : same_face m (all_glued links next) d (twin d) ≡ false
      two_d = stay-two m next previous b place places ends begins part parts_next parts_twin follows links a.4 o.2 d (a.0.darts.0) a.1 o.0

      two_e : same_face m (all_glued links next) e (twin e) ≡ false
      two_e = stay-two m next previous b place places ends begins part parts_next parts_twin follows links a.4 o.2 e (a.0.darts.1) a.2 o.1

      off : (z : ℕ) → is_used ((d, e) ∷ links) z ≡ false → IsOff d e z × (is_used links z ≡ false)
      off z u = last-off m next previous b place places ends begins part parts_next parts_twin follows d e links a z u

      old : (x y : ℕ) → x < 2 * m → y < 2 * m → on x ≡ true → on y ≡ true → is_used ((d, e) ∷ links) x ≡ false → is_used ((d, e) ∷ links) y ≡ false
          → connected (part_links part (on_links on links)) (part x) (part y) ≡ true → same_face m (all_glued ((d, e) ∷ links) next) x y ≡ true
      old x y lx ly ox oy ux uy i = together-stay m (all_glued links next) ((stage m next previous b place places ends begins part parts_next parts_twin follows links a.4).0)
          (all_glued ((d, e) ∷ links) next) ((stage m next previous b place places ends begins part parts_next parts_twin follows ((d, e) ∷ links) a).0) place (same_component m (all_glued links next) d) d e
          (last-facing m next previous b place places ends begins part parts_next parts_twin follows d e links a) (last-joined m next previous b place places ends begins part parts_next parts_twin follows d e links a)
          (last-map m next previous b place places ends begins part parts_next parts_twin follows d e links a) two_d two_e x y (off x ux).0 (off y uy).0
          (below x y lx ly ox oy (off x ux).1 (off y uy).1 i)

      -- a chosen dart of a part joined to that of z, for a chosen z
      from : (z v : ℕ) → z < 2 * m → v < 2 * m → on z ≡ true → on v ≡ true → is_used links z ≡ false → is_used ((d, e) ∷ links) v ≡ false → connected (part_links part (on_links on links)) (part z) (part v) ≡ true
          → same_face m (all_glued links next) z v ≡ true
      from z v lz lv oz ov uz uv i = below z v lz lv oz ov uz (off v uv).1 i

      on_d : (v : ℕ) → v < 2 * m → on v ≡ true → is_used ((d, e) ∷ links) v ≡ false → on d ≡ true → connected (part_links part (on_links on links)) (part d) (part v) ≡ true → on_either m (all_glued links next) d e v ≡ true
      on_d v l ov uv k i = or_left (same_face m (all_glued links next) d v) (same_face m (all_glued links next) (twin e) v) (from d v (a.0.darts.0) l k ov a.1 uv i)

      on_w : (v : ℕ) → v < 2 * m → on v ≡ true → is_used ((d, e) ∷ links) v ≡ false → on d ≡ true → connected (part_links part (on_links on links)) (part e) (part v) ≡ true → on_either m (all_glued links next) d e v ≡ true
      on_w v l ov uv k i = or_right (same_face m (all_glued links next) d v) (same_face m (all_glued links next) (twin e) v) (from (twin e) v (twin-below m e (a.0.darts.1)) l (sym c.0 ∙ k) ov (used-twin links e ∙ a.2) uv
          (subst (λ (z : ℕ). connected (part_links part (on_links on links)) z (part v) ≡ true) (sym (parts_twin e (a.0.darts.1))) i))

      on_t : (v : ℕ) → v < 2 * m → on v ≡ true → is_used ((d, e) ∷ links) v ≡ false → on (twin d) ≡ true → connected (part_links part (on_links on links)) (part d) (part v) ≡ true → on_either m (all_glued links next) (twin d) (twin e) v ≡ true
      on_t v l ov uv k i = or_left (same_face m (all_glued links next) (twin d) v) (same_face m (all_glued links next) (twin (twin e)) v) (from (twin d) v (twin-below m d (a.0.darts.0)) l k ov (used-twin links d ∙ a.1) uv
          (subst (λ (z : ℕ). connected (part_links part (on_links on links)) z (part v) ≡ true) (sym (parts_twin d (a.0.darts.0))) i))

      on_e : (v : ℕ) → v < 2 * m → on v ≡ true → is_used ((d, e) ∷ links) v ≡ false → on (twin d) ≡ true → connected (part_links part (on_links on links)) (part e) (part v) ≡ true → on_either m (all_glued links next) (twin d) (twin e) v ≡ true
      on_e v l ov uv k i = or_right (same_face m (all_glued links next) (twin d) v) (same_face m (all_glued links next) (twin (twin e)) v)
          (subst (λ (z : ℕ). same_face m (all_glued links next) z v ≡ true) (sym (twin-twin e)) (from e v (a.0.darts.1) l (sym c.1 ∙ k) ov a.2 uv i))

      upper : on_either m (all_glued links next) d e x ≡ true → on_either m (all_glued links next) d e y ≡ true → same_face m (all_glued ((d, e) ∷ links) next) x y ≡ true
      upper p q = either-together m (all_glued links next) ((stage m next previous b place places ends begins part parts_next parts_twin follows links a.4).0)
          (all_glued ((d, e) ∷ links) next) ((stage m next previous b place places ends begins part parts_next parts_twin follows ((d, e) ∷ links) a).0) place (same_component m (all_glued links next) d) d e
          (last-facing m next previous b place places ends begins part parts_next parts_twin follows d e links a) (last-joined m next previous b place places ends begins part parts_next parts_twin follows d e links a)
          (last-map m next previous b place places ends begins part parts_next parts_twin follows d e links a) two_d two_e x y (off x ux).0 (off y uy).0 p q

      lower : on_either m (all_glued links next) (twin d) (twin e) x ≡ true → on_either m (all_glued links next) (twin d) (twin e) y ≡ true → same_face m (all_glued ((d, e) ∷ links) next) x y ≡ true
      lower p q = lower-together m (all_glued links next) ((stage m next previous b place places ends begins part parts_next parts_twin follows links a.4).0)
          (all_glued ((d, e) ∷ links) next) ((stage m next previous b place places ends begins part parts_next parts_twin follows ((d, e) ∷ links) a).0) place (same_component m (all_glued links next) d) d e
          (last-facing m next previous b place places ends begins part parts_next parts_twin follows d e links a) (last-joined m next previous b place places ends begins part parts_next parts_twin follows d e links a)
          (last-map m next previous b place places ends begins part parts_next parts_twin follows d e links a) two_d two_e x y (off x ux).0 (off y uy).0 p q

  -- chosen darts of parts that are joined lie on one face
  pub meet : (links : List (ℕ × ℕ)) → AreLinksOf m next place ends begins part links → AreOnTwo m next links → AreMatched on links → (x y : ℕ) → x < 2 * m → y < 2 * m → on x ≡ true → on y ≡ true
      → is_used links x ≡ false → is_used links y ≡ false → connected (part_links part (on_links on links)) (part x) (part y) ≡ true → same_face m (all_glued links next) x y ≡ true
  meet [] a o c x y lx ly ox oy ux uy t = one x y lx ly ox oy (eqb-true (part x) (part y) t)
  meet ((d, e) ∷ links) a o c x y lx ly ox oy ux uy t = meet-step d e links a o c (meet links a.4 o.2 c.2) x y lx ly ox oy ux uy t

  -- the chosen darts that are left weigh as much as all of them less the links
  pub left-weight : (w : ℕ → ℕ) → ((x : ℕ) → w (twin x) ≡ w x) → (links : List (ℕ × ℕ)) → AreLinksOf m next place ends begins part links → AreMatched on links
      → sum_of (2 * m) (λ y. on y && not (is_used links y)) w + link_weights on w links ≡ sum_of (2 * m) on w
  left-weight w twins [] a c = ap (λ (z : ℕ). z + 0) (sum_of-ext (2 * m) (λ y. on y && true) on w (λ y l. plain (on y))) ∙ nothing (sum_of (2 * m) on w)
    where
      plain : (x : Bool) → (x && true) ≡ x
      plain x = grind (arith, cases_Bool x)

      nothing : (n : ℕ) → n + 0 ≡ n
      nothing n = omega arith
  left-weight w twins ((d, e) ∷ links) a c =
      omega (arith, left-weight w twins links a.4 c.2, sum_of-take (2 * m) t0 w d (a.0.darts.0), sum_of-take (2 * m) t1 w (twin d) lt, sum_of-take (2 * m) t2 w e (a.0.darts.1), sum_of-take (2 * m) t3 w (twin e) lw, same, at_d, at_t, at_e, at_w, apart (on d) (w d) (w e), apart (on (twin d)) (w d) (w e))
    where
      lt : twin d < 2 * m
      lt = twin-below m d (a.0.darts.0)

      lw : twin e < 2 * m
      lw = twin-below m e (a.0.darts.1)

      t0 : ℕ → Bool
      t0 y = on y && not (is_used links y)

      t1 : ℕ → Bool
      t1 y = t0 y && not (y == d)

      t2 : ℕ → Bool
      t2 y = t1 y && not (y == twin d)

      t3 : ℕ → Bool
      t3 y = t2 y && not (y == e)

      t4 : ℕ → Bool
      t4 y = t3 y && not (y == twin e)

      apart : (t : Bool) (a c : ℕ) → cond t (a + c) 0 ≡ cond t a 0 + cond t c 0
      apart t a c = grind (arith, cases_Bool t)

      parts : (x y : ℕ) → part x ≡ part d → part y ≡ part e → x ≡ y → ⊥
      parts x y p q i = both_ways (connected (part_links part links) (part d) (part e)) a.3 (subst (λ (z : ℕ). connected (part_links part links) (part d) z ≡ true) (sym p ∙ ap part i ∙ q) (connected-reflexive (part_links part links) (part d)))

      same : sum_of (2 * m) (λ y. on y && not (is_used ((d, e) ∷ links) y)) w ≡ sum_of (2 * m) t4 w
      same = sum_of-ext (2 * m) (λ y. on y && not (is_used ((d, e) ∷ links) y)) t4 w (λ y l. all-five (on y) (y == d) (y == twin d) (y == e) (y == twin e) (is_used links y))
        where
          all-five : (o a b c d u : Bool) → (o && not ((a || b || c || d) || u)) ≡ ((((o && not u) && not a) && not b) && not c) && not d
          all-five o a b c d u = grind (arith, cases_Bool o, cases_Bool a, cases_Bool b, cases_Bool c, cases_Bool d, cases_Bool u)

      at_d : cond (t0 d) (w d) 0 ≡ cond (on d) (w d) 0
      at_d = rw a.1 (ap (λ (z : Bool). cond z (w d) 0) (plain (on d)))
        where
          plain : (x : Bool) → (x && true) ≡ x
          plain x = grind (arith, cases_Bool x)

      at_t : cond (t1 (twin d)) (w (twin d)) 0 ≡ cond (on (twin d)) (w d) 0
      at_t = rw (used-twin links d, a.1, ne_eqb (twin d) d (twin-other d), twins d) (ap (λ (z : Bool). cond z (w d) 0) (plain (on (twin d))))
        where
          plain : (x : Bool) → ((x && true) && true) ≡ x
          plain x = grind (arith, cases_Bool x)

      at_e : cond (t2 e) (w e) 0 ≡ cond (on (twin d)) (w e) 0
      at_e = rw (a.2, ne_eqb e d (λ i. parts d e refl refl (sym i)), ne_eqb e (twin d) (λ i. parts (twin d) e (parts_twin d (a.0.darts.0)) refl (sym i)), sym c.1) (ap (λ (z : Bool). cond z (w e) 0) (plain (on (twin d))))
        where
          plain : (x : Bool) → (((x && true) && true) && true) ≡ x
          plain x = grind (arith, cases_Bool x)

      at_w : cond (t3 (twin e)) (w (twin e)) 0 ≡ cond (on d) (w e) 0
      at_w = rw (
        used-twin links e,
        a.2,
        ne_eqb (twin e) d (λ i. parts d (twin e) refl (parts_twin e (a.0.darts.1)) (sym i)),
        ne_eqb (twin e) (twin d) (λ i. parts (twin d) (twin e) (parts_twin d (a.0.darts.0)) (parts_twin e (a.0.darts.1)) (sym i)),
        ne_eqb (twin e) e (twin-other e),
        sym c.0,
        twins e,
      ) (ap (λ (z : Bool). cond z (w e) 0) (plain (on d)))
        where
          plain : (x : Bool) → ((((x && true) && true) && true) && true) ≡ x
          plain x = grind (arith, cases_Bool x)
