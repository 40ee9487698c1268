-- The bridges of two vertices that are sides of 2-separations, and that one of them lies inside each side of a 2-separation.
use Rattle.std.proofs.Common.{◌≡◌, ◌≢◌, ℕ, ◌+◌, ◌≤◌, ◌⊎◌, inl, inr, Bool, true, false, ◌==◌, List, [], ◌∷◌, length, filter, refl, sym, ap, ◌∙◌, subst, arith, Contains}
use Rattle.std.proofs.lemmas.Bool.{cases_Bool, both_ways, not_from_false, and_from, eq-eqb, eqb-true, false_from_ne_true}
use Rattle.std.proofs.lemmas.List.Elements.{All-contains}
use Rattle.permutations.proofs.Members.{member-head, member-tail}
use Rattle.graph_theory.specs.Labels.{IsLabelling}
use Rattle.pair_split.specs.Edges.{family_skeleton}
use Rattle.pair_split.specs.Family.{Entry, has_end, IsFamily, on_side, touches, IsTight, IsSeparation}
use Rattle.pair_split.specs.Bridges.{side_of, removed, in_bridge, IsClosed}
use Rattle.pair_split.specs.Search.{HasNoParallels}
use Rattle.pair_split.proofs.Elements.{two-pass, length-weaker}
use Rattle.pair_split.proofs.Sides.{touches-from_side, touching-on_side, common-from, length-sides, separation-from}
use Rattle.pair_split.proofs.Names.{two-names}
use Rattle.pair_split.proofs.Replaced.{first-end, second-end}
use Rattle.pair_split.proofs.Degrees.{tight-degree, one-of_two}
use Rattle.pair_split.proofs.BridgeSides.{closed-connected, bridge-from, bridge-witness, bridge-common, removed-cases, side_of-filter}
use Rattle.pair_split.proofs.PrimeSimple.{joins, joins-parallel}

-- the bridge of a closed class with two entries in it and two outside it is a side of a 2-separation
pub bridge-separation : (entries : List Entry) → IsFamily entries → IsTight entries → (a b : ℕ) (class : ℕ → Bool) → IsClosed entries a b class
    → 2 ≤ length (filter (in_bridge a b class) entries) → length (filter (in_bridge a b class) entries) + 2 ≤ length entries → IsSeparation entries (side_of entries (in_bridge a b class)) a b
bridge-separation entries family tight a b class closed two rest =
    separation-from entries (side_of entries (in_bridge a b class)) a b tight
    (subst (λ (l : List Entry). 2 ≤ length l) (sym same) two)
    (omega (arith, rest, ap length same, length-sides entries (side_of entries (in_bridge a b class))))
    (bridge-common entries family.names_once a b class closed)
  where
    same : on_side (side_of entries (in_bridge a b class)) entries ≡ filter (in_bridge a b class) entries
    same = side_of-filter entries (in_bridge a b class) family.names_once

-- the bridge of a vertex's label, with two entries or more, none of them off the side s
pub record BridgeInside (entries : List Entry) (s : ℕ → Bool) (a b : ℕ) (label : ℕ → ℕ) : Type 0 where
  pub vertex : ℕ
  pub entry : Entry
  pub within : Contains entries entry
  pub end : has_end vertex entry ≡ true
  pub two : 2 ≤ length (filter (in_bridge a b (λ z. label z == label vertex)) entries)
  pub few : length (filter (in_bridge a b (λ z. label z == label vertex)) entries) ≤ length (on_side s entries)

-- an entry has an end that is not removed, or joins the two vertices that are
free-end : (a b : ℕ) (e : Entry) → e.first ≢ e.second → ((x : ℕ) × (has_end x e ≡ true) × (removed a b x ≡ false)) ⊎ (joins a b e ≡ true)
free-end a b e n = elim (cases_Bool (removed a b e.first)) [
  | inr f ↦ inl (e.first, first-end e.first e refl, f)
  | inl t ↦ elim (cases_Bool (removed a b e.second)) [
    | inr f ↦ inl (e.second, second-end e.second e refl, f)
    | inl u ↦ inr (and_from (has_end a e) (has_end b e) (on t u a (inl refl)) (on t u b (inr refl)))
  ]
]
  where
    on : removed a b e.first ≡ true → removed a b e.second ≡ true → (x : ℕ) → (x ≡ a) ⊎ (x ≡ b) → has_end x e ≡ true
    on t u x i = elim (one-of_two a b e.first e.second x n (removed-cases a b e.first t) (removed-cases a b e.second u) i) [ inl j ↦ first-end x e j | inr j ↦ second-end x e j ]

module _ (entries : List Entry) (family : IsFamily entries) (tight : IsTight entries) (simple : HasNoParallels entries) (a b : ℕ) (label : ℕ → ℕ) (labelling : IsLabelling (family_skeleton entries) (a ∷ b ∷ []) label)
    (s : ℕ → Bool) (c : IsSeparation entries s a b) where
  -- whether the side touches z
  abbrev inside : ℕ → Bool
  inside z = touches (on_side s entries) z

  -- the removed vertices are a and b
  removed-both : (x : ℕ) → (x ≡ a) ⊎ (x ≡ b) → removed a b x ≡ true
  removed-both x (inl i) = subst (λ (z : ℕ). removed a b z ≡ true) (sym i) (member-head a (b ∷ []))
  removed-both x (inr i) = subst (λ (z : ℕ). removed a b z ≡ true) (sym i) (member-tail b a (b ∷ []) (member-head b []))

  -- at a vertex that is not removed all entries are on one side
  inside-at : (z : ℕ) (e : Entry) → Contains entries e → has_end z e ≡ true → removed a b z ≡ false → inside z ≡ s e.name
  inside-at z e w h m = elim (cases_Bool (s e.name)) [
    | inl t ↦ touches-from_side entries s z (record { entry = e; within = w; side = t; end = h }) ∙ sym t
    | inr f ↦ false_from_ne_true (inside z) (λ t. both_ways (removed a b z) m (removed-both z (c.no_other z (common-from entries s z (touching-on_side entries s z t)
        (record { entry = e; within = w; side = not_from_false (s e.name) f; end = h }))))) ∙ sym f
  ]

  -- so the vertices that the side touches are a closed class
  inside-closed : IsClosed entries a b inside
  inside-closed e w m n = inside-at e.first e w (first-end e.first e refl) m ∙ sym (inside-at e.second e w (second-end e.second e refl) n)

  -- the bridge of a free end of an entry of the side
  bridge-at : (e : Entry) (x : ℕ) → Contains entries e → s e.name ≡ true → has_end x e ≡ true → removed a b x ≡ false → BridgeInside entries s a b label
  bridge-at e x w t h m = record {
    vertex = x;
    entry = e;
    within = w;
    end = h;
    two = let f = tight-degree entries family tight (omega (arith, c.two_inside, length-sides entries s)) e x w h in
        two-pass (in_bridge a b class) e f.entry entries (λ i. f.other (ap (λ (z : Entry). z.name) (sym i))) w f.within (bridge-from a b class e x h m own) (bridge-from a b class f.entry x f.end m own);
    few = length-weaker (in_bridge a b class) (λ (z : Entry). s z.name) entries (λ f v l.
        let z = bridge-witness a b class f l in
        sym (inside-at z.0 f v z.1 z.2) ∙ (closed-connected entries a b inside inside-closed z.0 x (labelling.only z.0 x (eqb-true (label z.0) (label x) z.3)) ∙ (inside-at x e w h m ∙ t)));
  }
    where
      class : ℕ → Bool
      class z = label z == label x

      own : class x ≡ true
      own = eq-eqb (label x) (label x) refl

  -- each side of a 2-separation has a bridge inside it
  pub bridge-inside : BridgeInside entries s a b label
  bridge-inside =
      let w = two-names entries (λ e. s e.name) family.names_once c.two_inside in
      let e-loop : w.0.first ≢ w.0.second = All-contains (λ (z : Entry). z.first ≢ z.second) entries w.0 family.no_loops w.2 in
      let f-loop : w.1.first ≢ w.1.second = All-contains (λ (z : Entry). z.first ≢ z.second) entries w.1 family.no_loops w.3 in
      elim (free-end a b w.0 e-loop) [
        | inl x ↦ bridge-at w.0 x.0 w.2 w.4 x.1 x.2
        | inr j ↦ elim (free-end a b w.1 f-loop) [
          | inl x ↦ bridge-at w.1 x.0 w.3 w.5 x.1 x.2
          | inr k ↦ absurd (w.6 (simple w.0 w.1 w.2 w.3 (joins-parallel a b w.0 w.1 c.differ j k)))
        ]
      ]
