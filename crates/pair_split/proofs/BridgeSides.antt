-- The bridge of a class of vertices, when two vertices a and b are removed: the entries with an end in the class.
use Rattle.std.proofs.Common.{◌≡◌, ℕ, ◌⊎◌, inl, inr, Bool, true, false, not, List, [], ◌∷◌, filter, refl, sym, ap, ◌∙◌, subst, Contains}
use Rattle.std.proofs.lemmas.Bool.{cases_Bool, both_ways, not-true, not_from_false, true≢false, or_cases, and_parts, and_from, or_left, or_right}
use Rattle.permutations.specs.Members.{is_distinct}
use Rattle.permutations.specs.Relation.{connected}
use Rattle.permutations.proofs.Relation.{connected-closed}
use Rattle.graph_theory.specs.Triconnected.{avoids}
use Rattle.pair_split.specs.Edges.{entry_ends, family_skeleton}
use Rattle.pair_split.proofs.GraphFamily.{all-from_contained}
use Rattle.permutations.proofs.Members.{member-cases}
use Rattle.pair_split.specs.Bridges.{side_of, removed, reached, in_bridge, IsClosed}
use Rattle.pair_split.specs.Family.{Entry, has_end, names, on_side, is_common}
use Rattle.pair_split.proofs.Elements.{filter-same, filter-contains, map-contains}
use Rattle.pair_split.proofs.Sides.{common-inside, common-outside}
use Rattle.pair_split.proofs.Names.{side_of-at}
use Rattle.pair_split.proofs.Replaced.{end-cases, first-end, second-end}

-- an entry with an end in the class is in the bridge
pub bridge-from : (a b : ℕ) (class : ℕ → Bool) (e : Entry) (x : ℕ) → has_end x e ≡ true → removed a b x ≡ false → class x ≡ true → in_bridge a b class e ≡ true
bridge-from a b class e x h m k = elim (end-cases x e h) [
  | inl i ↦ or_left (reached a b class e.first) (reached a b class e.second) (subst (λ (z : ℕ). reached a b class z ≡ true) i r)
  | inr i ↦ or_right (reached a b class e.first) (reached a b class e.second) (subst (λ (z : ℕ). reached a b class z ≡ true) i r)
]
  where
    r : reached a b class x ≡ true
    r = and_from (not (removed a b x)) (class x) (not_from_false (removed a b x) m) k

-- an entry of the bridge has an end in the class that is not removed
pub bridge-witness : (a b : ℕ) (class : ℕ → Bool) (e : Entry) → in_bridge a b class e ≡ true → (z : ℕ) × (has_end z e ≡ true) × (removed a b z ≡ false) × (class z ≡ true)
bridge-witness a b class e t = elim (or_cases (reached a b class e.first) (reached a b class e.second) t) [ inl r ↦ go e.first (first-end e.first e refl) r | inr r ↦ go e.second (second-end e.second e refl) r ]
  where
    go : (z : ℕ) → has_end z e ≡ true → reached a b class z ≡ true → (z : ℕ) × (has_end z e ≡ true) × (removed a b z ≡ false) × (class z ≡ true)
    go z k r = let w = and_parts (not (removed a b z)) (class z) r in (z, k, not-true (removed a b z) w.0, w.1)

-- a closed class tells the two ends of an entry not apart, where neither is removed
pub closed-ends : (entries : List Entry) (a b : ℕ) (class : ℕ → Bool) → IsClosed entries a b class → (e : Entry) (x z : ℕ) → Contains entries e → has_end x e ≡ true → has_end z e ≡ true → removed a b x ≡ false → removed a b z ≡ false → class x ≡ class z
closed-ends entries a b class closed e x z c h k m n = go (end-cases x e h) (end-cases z e k)
  where
    go : (x ≡ e.first) ⊎ (x ≡ e.second) → (z ≡ e.first) ⊎ (z ≡ e.second) → class x ≡ class z
    go (inl i) (inl j) = ap class (i ∙ sym j)
    go (inr i) (inr j) = ap class (i ∙ sym j)
    go (inl i) (inr j) = ap class i ∙ (closed e c (subst (λ (w : ℕ). removed a b w ≡ false) i m) (subst (λ (w : ℕ). removed a b w ≡ false) j n) ∙ ap class (sym j))
    go (inr i) (inl j) = ap class i ∙ (sym (closed e c (subst (λ (w : ℕ). removed a b w ≡ false) j n) (subst (λ (w : ℕ). removed a b w ≡ false) i m)) ∙ ap class (sym j))

-- a closed class holds all vertices that stay connected, or none of them
pub closed-connected : (entries : List Entry) (a b : ℕ) (class : ℕ → Bool) → IsClosed entries a b class
    → (x y : ℕ) → connected (filter (avoids (a ∷ b ∷ [])) (family_skeleton entries)) x y ≡ true → class x ≡ class y
closed-connected entries a b class closed x y c = connected-closed (filter (avoids (a ∷ b ∷ [])) (family_skeleton entries)) class
    (all-from_contained (λ (link : ℕ × ℕ). class link.0 ≡ class link.1) (filter (avoids (a ∷ b ∷ [])) (family_skeleton entries)) each)
    x y c
  where
    each : (link : ℕ × ℕ) → Contains (filter (avoids (a ∷ b ∷ [])) (family_skeleton entries)) link → class link.0 ≡ class link.1
    each link d =
        let f = filter-contains (avoids (a ∷ b ∷ [])) link (family_skeleton entries) d in
        let e = map-contains entry_ends link entries f.0 in
        let v = and_parts (not (removed a b e.0.first)) (not (removed a b e.0.second)) (subst (λ (z : ℕ × ℕ). avoids (a ∷ b ∷ []) z ≡ true) (sym e.2) f.1) in
        subst (λ (z : ℕ × ℕ). class z.0 ≡ class z.1) e.2 (closed e.0 e.1 (not-true (removed a b e.0.first) v.0) (not-true (removed a b e.0.second) v.1))

-- each end of an entry of the bridge of a closed class is in the class, or removed
pub bridge-end : (entries : List Entry) (a b : ℕ) (class : ℕ → Bool) → IsClosed entries a b class → (e : Entry) (x : ℕ) → Contains entries e → in_bridge a b class e ≡ true → has_end x e ≡ true → removed a b x ≡ false → class x ≡ true
bridge-end entries a b class closed e x c t h m =
    let w = bridge-witness a b class e t in closed-ends entries a b class closed e x w.0 c h w.1 m w.2 ∙ w.3

-- who is removed is one of the two
pub removed-cases : (a b x : ℕ) → removed a b x ≡ true → (x ≡ a) ⊎ (x ≡ b)
removed-cases a b x m = elim (member-cases x a (b ∷ []) m) [ inl i ↦ inl (sym i) | inr n ↦ elim (member-cases x b [] n) [ inl i ↦ inr (sym i) | inr o ↦ absurd (true≢false (sym o)) ] ]

-- the bridge of a closed class, as a side, has no vertices in common with the other one but those removed
pub bridge-common : (entries : List Entry) → is_distinct (names entries) ≡ true → (a b : ℕ) (class : ℕ → Bool) → IsClosed entries a b class → (x : ℕ) → is_common entries (side_of entries (in_bridge a b class)) x ≡ true → (x ≡ a) ⊎ (x ≡ b)
bridge-common entries once a b class closed x h = elim (cases_Bool (removed a b x)) [
  | inl m ↦ removed-cases a b x m
  | inr m ↦
      let i = common-inside entries (side_of entries (in_bridge a b class)) x h in
      let o = common-outside entries (side_of entries (in_bridge a b class)) x h in
      absurd (both_ways (side_of entries (in_bridge a b class) o.entry.name) (not-true (side_of entries (in_bridge a b class) o.entry.name) o.side)
      (side_of-at entries (in_bridge a b class) once o.entry o.within
      ∙ bridge-from a b class o.entry x o.end m (bridge-end entries a b class closed i.entry x i.within (sym (side_of-at entries (in_bridge a b class) once i.entry i.within) ∙ i.side) i.end m)))
]

-- the entries that pass a test are those on its side
pub side_of-filter : (entries : List Entry) (test : Entry → Bool) → is_distinct (names entries) ≡ true → on_side (side_of entries test) entries ≡ filter test entries
side_of-filter entries test once = filter-same (λ (e : Entry). side_of entries test e.name) test entries (side_of-at entries test once)
