-- Smoothing several thin paths, one after the other: each leaves the others as they are.
use Rattle.std.proofs.Common.{◌≡◌, ℕ, ◌/◌, inl, inr, false, List, [], ◌∷◌, refl, sym, ap, ◌∙◌}
use Rattle.std.proofs.lemmas.Bool.{cases_eq}
use Rattle.dart_maps.specs.Map.{twin, IsMap, IsPlane, SameDefect}
use Rattle.dart_maps.specs.Path.{IsThin, Avoids, IsThinPath, path_end, on_path, smoothed, AllAvoid, ApartFrom, AreThinPaths, all_smoothed}
use Rattle.dart_maps.proofs.Plane.{same-defect-over, same-defect-plane, same-defect-back}
use Rattle.dart_maps.proofs.Smooth.{smoothed-end, smoothed-other, smooth-path, end-apart, avoids-off}
use Rattle.dart_maps.proofs.InsertPath.{avoids-twin}

-- a dart whose edge a path and the dart before it avoid: it is not on the path, not that dart, and not the path's end
off-path : (x c : ℕ) (path : List ℕ) → Avoids x (c ∷ path) → (on_path x path ≡ false) × (x ≡ c → ⊥) × (x ≡ path_end c path → ⊥)
off-path x c path a = (avoids-off x x path a.1 refl, λ e. a.0 (ap (λ (z : ℕ). z / 2) (sym e)), λ e. end-apart c x path a.0 a.1 (ap (λ (z : ℕ). z / 2) (sym e)))

-- such a dart that is followed by another is followed by it after the smoothing
smooth-away : (x y c : ℕ) (path : List ℕ) (f : ℕ → ℕ) → Avoids x (c ∷ path) → Avoids y (c ∷ path) → f x ≡ y → smoothed c path f x ≡ y
smooth-away x y c path f a i e = let o = off-path x c path a in let n = off-path y c path i in smoothed-other c path f x o.0 o.1 (λ j. n.2 (sym e ∙ j)) ∙ e

-- a thin path without common edges stays thin
thin-stays : (c : ℕ) (path : List ℕ) (f : ℕ → ℕ) (b : ℕ) (other : List ℕ) → AllAvoid (b ∷ other) (c ∷ path) → IsThin f b other → IsThin (smoothed c path f) b other
thin-stays c path f b [] a t = tt
thin-stays c path f b (p ∷ other) a t = (smooth-away b p c path f a.0 a.1.0 t.0, smooth-away p b c path f a.1.0 a.0 t.1, thin-stays c path f (twin p) other (avoids-twin p (c ∷ path) a.1.0, a.1.1) t.2)

-- its end too has no edge in common
end-avoids : (b : ℕ) (other l : List ℕ) → AllAvoid (b ∷ other) l → Avoids (path_end b other) l
end-avoids b [] l a = a.0
end-avoids b (p ∷ other) l a = end-avoids (twin p) other l (avoids-twin p l a.1.0, a.1.1)

-- so it stays a thin path
pub thin-path-stays : (m c : ℕ) (path : List ℕ) (f : ℕ → ℕ) (b : ℕ) (other : List ℕ) → AllAvoid (b ∷ other) (c ∷ path) → IsThinPath m f b other → IsThinPath m (smoothed c path f) b other
thin-path-stays m c path f b other a t = record { starts = t.starts; thin = thin-stays c path f b other a (t.thin); off_start = t.off_start; apart = t.apart; ends = ends }
  where
    w : ℕ
    w = path_end b other

    o : (on_path w path ≡ false) × (w ≡ c → ⊥) × (w ≡ path_end c path → ⊥)
    o = off-path w c path (end-avoids b other (c ∷ path) a)

    ends : smoothed c path f (path_end b other) ≡ path_end b other → ⊥
    ends e = elim (cases_eq (f w) (path_end c path)) [
      | inl i ↦ o.1 (sym e ∙ smoothed-end c path f w o.0 o.1 i)
      | inr i ↦ t.ends (sym (smoothed-other c path f w o.0 o.1 i) ∙ e)
    ]

-- thin paths stay thin paths when another is smoothed
thin-paths-stay : (m : ℕ) (w : ℕ × List ℕ) (f : ℕ → ℕ) (paths : List (ℕ × List ℕ)) → ApartFrom w paths → AreThinPaths m f paths → AreThinPaths m (smoothed w.0 w.1 f) paths
thin-paths-stay m w f [] a t = tt
thin-paths-stay m w f (v ∷ paths) a t = (thin-path-stays m w.0 w.1 f v.0 v.1 a.0 t.0, t.1, thin-paths-stay m w f paths a.1 t.2)

-- smoothing thin paths without common edges keeps the defect, and makes a map
pub smooth-paths : (m : ℕ) (paths : List (ℕ × List ℕ)) (f g : ℕ → ℕ) → IsMap m f g → AreThinPaths m f paths → (k : ℕ → ℕ) × IsMap m (all_smoothed paths f) k × SameDefect m f (all_smoothed paths f)
smooth-paths m [] f g b t = (g, b, refl)
smooth-paths m (w ∷ paths) f g b t = let s = smooth-path m w.1 f g b w.0 t.0 in
    let r = smooth-paths m paths (smoothed w.0 w.1 f) s.0 s.1 (thin-paths-stay m w f paths t.1 t.2) in
    (r.0, r.1, same-defect-over m f (smoothed w.0 w.1 f) (all_smoothed paths (smoothed w.0 w.1 f)) s.2 r.2)

-- the map with all of them smoothed is plane where the map is
pub smooth-paths-plane : (m : ℕ) (paths : List (ℕ × List ℕ)) (f g : ℕ → ℕ) → IsMap m f g → AreThinPaths m f paths → IsPlane m f → IsPlane m (all_smoothed paths f)
smooth-paths-plane m paths f g b t p = same-defect-plane m f (all_smoothed paths f) (smooth-paths m paths f g b t).2 p

-- and the map where that one is
pub smooth-paths-plane-back : (m : ℕ) (paths : List (ℕ × List ℕ)) (f g : ℕ → ℕ) → IsMap m f g → AreThinPaths m f paths → IsPlane m (all_smoothed paths f) → IsPlane m f
smooth-paths-plane-back m paths f g b t p = same-defect-plane m (all_smoothed paths f) f (same-defect-back m f (all_smoothed paths f) (smooth-paths m paths f g b t).2) p
