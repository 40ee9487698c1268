-- Two edges that face each other: the darts before them, and which darts differ.
use Rattle.std.proofs.Common.{◌≡◌, ℕ, ◌*◌, ◌<◌, Bool, true, false, not, sym, ap, ◌∙◌, subst}
use Rattle.std.proofs.lemmas.Bool.{both_ways}
use Rattle.permutations.proofs.Permutations.{permutes-back}
use Rattle.dart_maps.specs.Map.{twin}
use Rattle.dart_maps.proofs.Darts.{twin-below}
use Rattle.skeleton_planes.proofs.Seams.{IsOff, AreFacing, AreJoined}

-- darts on different sides differ
pub sides-differ : (side : ℕ → Bool) (x y : ℕ) → side x ≡ true → side y ≡ false → x ≡ y → ⊥
sides-differ side x y h k e = both_ways (side y) k (subst (λ (z : ℕ). side z ≡ true) e h)

-- the same seen from the other side
pub facing-back : (m : ℕ) (f g : ℕ → ℕ) (place : ℕ → ℕ) (side : ℕ → Bool) (d e : ℕ) → AreFacing m f g place side d e → AreFacing m f g place (λ x. not (side x)) e d
facing-back m f g place side d e s = record {
  is_map = s.is_map;
  sides_next = λ x l. ap not (s.sides_next x l);
  sides_twin = λ x l. ap not (s.sides_twin x l);
  places_next = s.places_next;
  darts = (s.darts.1, s.darts.0);
  inside = ap not s.outside;
  outside = ap not s.inside;
  places = sym s.places;
  twin_places = sym s.twin_places;
  two_places = λ h. s.two_places (s.places ∙ h ∙ sym s.twin_places);
  company = s.other_company;
  other_company = s.company;
}

-- and the glued map is the same
pub joined-back : (m : ℕ) (f g h : ℕ → ℕ) (d e : ℕ) → AreJoined m f g h d e → AreJoined m f g h e d
joined-back m f g h d e j = record {
  first = j.second;
  second = j.first;
  first_twin = j.second_twin;
  second_twin = j.first_twin;
  others = λ x l o a. j.others x l (record { first = o.second; first_twin = o.second_twin; second = o.first; second_twin = o.first_twin }) (record { first = a.second; first_twin = a.second_twin; second = a.first; second_twin = a.first_twin });
  alone = j.alone_too;
  alone_too = j.alone;
}

-- two edges that face each other
module _ (m : ℕ) (f g : ℕ → ℕ) (place : ℕ → ℕ) (side : ℕ → Bool) (d e : ℕ) (s : AreFacing m f g place side d e) where
  -- the twin of d is a dart
  pub twin-in : twin d < 2 * m
  twin-in = twin-below m d (s.darts.0)

  -- the dart before d, and that before its twin
  pub before-in : g d < 2 * m
  before-in = s.is_map.back d (s.darts.0)

  -- the second of them
  pub twin_before-in : g (twin d) < 2 * m
  twin_before-in = s.is_map.back (twin d) twin-in

  -- what follows them
  pub after-before : f (g d) ≡ d
  after-before = s.is_map.forth_back d (s.darts.0)

  -- the second of them
  pub after-twin_before : f (g (twin d)) ≡ twin d
  after-twin_before = s.is_map.forth_back (twin d) twin-in

  -- they are on d's side
  pub before-side : side (g d) ≡ true
  before-side = sym (s.sides_next (g d) before-in) ∙ ap side after-before ∙ s.inside

  -- so is the twin
  pub twin-side : side (twin d) ≡ true
  twin-side = s.sides_twin d (s.darts.0) ∙ s.inside

  -- and the dart before the twin
  pub twin_before-side : side (g (twin d)) ≡ true
  twin_before-side = sym (s.sides_next (g (twin d)) twin_before-in) ∙ ap side after-twin_before ∙ twin-side

  -- the dart before d leaves where d does
  pub before-place : place (g d) ≡ place d
  before-place = sym (s.places_next (g d) before-in) ∙ ap place after-before

  -- and the one before the twin where the twin does
  pub twin_before-place : place (g (twin d)) ≡ place (twin d)
  twin_before-place = sym (s.places_next (g (twin d)) twin_before-in) ∙ ap place after-twin_before

  -- the dart before d is not d
  pub before-other : g d ≡ d → ⊥
  before-other h = s.company.0 (ap f (sym h) ∙ after-before)

  -- nor its twin
  pub before-not_twin : g d ≡ twin d → ⊥
  before-not_twin h = s.two_places (sym before-place ∙ ap place h)

  -- the dart before the twin is not the twin
  pub twin_before-other : g (twin d) ≡ twin d → ⊥
  twin_before-other h = s.company.1 (ap f (sym h) ∙ after-twin_before)

  -- nor d
  pub twin_before-not_d : g (twin d) ≡ d → ⊥
  twin_before-not_d h = s.two_places (sym (ap place h) ∙ twin_before-place)

  -- what follows d is of another edge
  pub after-not_twin : f d ≡ twin d → ⊥
  after-not_twin h = s.two_places (sym (s.places_next d (s.darts.0)) ∙ ap place h)

  -- and what follows the twin
  pub twin_after-not_d : f (twin d) ≡ d → ⊥
  twin_after-not_d h = s.two_places (sym (ap place h) ∙ s.places_next (twin d) twin-in)

  -- the dart before d is the only one
  pub before-only : (x : ℕ) → x < 2 * m → f x ≡ d → x ≡ g d
  before-only x l h = sym (permutes-back (2 * m) f g s.is_map x d l h)

  -- and likewise at the twin
  pub twin_before-only : (x : ℕ) → x < 2 * m → f x ≡ twin d → x ≡ g (twin d)
  twin_before-only x l h = sym (permutes-back (2 * m) f g s.is_map x (twin d) l h)

  -- a dart on the other side is off d's edge
  pub off-side : (x : ℕ) → side x ≡ false → (d ≡ x → ⊥) × (twin d ≡ x → ⊥)
  off-side x h = (sides-differ side d x s.inside h, sides-differ side (twin d) x twin-side h)

-- a dart on d's side that is not of d's edge is off both edges
pub inside-off : (m : ℕ) (f g : ℕ → ℕ) (place : ℕ → ℕ) (side : ℕ → Bool) (d e : ℕ) → AreFacing m f g place side d e → (x : ℕ) → side x ≡ true → (x ≡ d → ⊥) → (x ≡ twin d → ⊥) → IsOff d e x
inside-off m f g place side d e s x h i j =
    let o = off-side m f g place (λ z. not (side z)) e d (facing-back m f g place side d e s) x (ap not h) in
    record { first = i; first_twin = j; second = λ k. o.0 (sym k); second_twin = λ k. o.1 (sym k) }

-- a dart on d's side, neither of d's edge nor followed by it, is followed as before
pub inside-joined : (m : ℕ) (f g h : ℕ → ℕ) (place : ℕ → ℕ) (side : ℕ → Bool) (d e : ℕ) → AreFacing m f g place side d e → AreJoined m f g h d e
    → (x : ℕ) → x < 2 * m → side x ≡ true → (x ≡ d → ⊥) → (x ≡ twin d → ⊥) → (f x ≡ d → ⊥) → (f x ≡ twin d → ⊥) → h x ≡ f x
inside-joined m f g h place side d e s j x l t a b c k = j.others x l (inside-off m f g place side d e s x t a b) (inside-off m f g place side d e s (f x) (s.sides_next x l ∙ t) c k)
